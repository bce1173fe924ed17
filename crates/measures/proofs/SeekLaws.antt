-- The search for the first record with a half that is not permitted: what is asked of all records taken is what is asked of those that are left. By the walk.
use mathlib.Core.Path.{◌≡◌, ap, ap₂, sym, ◌∙◌}
use mathlib.Core.Bool.{Bool, true, false}
use mathlib.Core.List.{List, ◌∷◌, map}
use Prim.Native.Nat.{ℕ, ◌+◌, ◌-◌, ◌≤◌}
use native.Mathlib.Omega.{arith}
use lib.ListN.{length, take, drop}
use lib.Seq.{slice}
use Rattle.rules.specs.Base.{joined}
use Rattle.rules.specs.Answer.{each}
use Rattle.rules.specs.Plan.{Plan, selects, record_length}
use Rattle.rules.specs.Blocks.{least_data, taken_from}
use Rattle.rules.specs.Output.{permits}
use Rattle.rules.specs.Lent.{zone_f}
use Rattle.rules.specs.Accepted.{Accepted}
use Rattle.rules.proofs.Blocks.BlockSizes.{least_selects}
use Rattle.rules.proofs.Halves.RecordLaws.{fits_of}
use Rattle.rules.proofs.Output.FitSteps.{each_pass, each_stop}
use Rattle.rules.proofs.Output.MeasureLaws.{kinds_within, permits_halves}
use Rattle.terms.specs.declared.Task.{Task}
use Rattle.pieces.specs.declared.Form.{Form}
use Rattle.rows.specs.Flat.{flat_of, FlatFair, Readable}
use Rattle.values.specs.Promise.{Permits}
use Rattle.walks.specs.declared.Walk.{Walk}
use Rattle.walks.specs.declared.RecordRead.{RecordRead}
use Rattle.std.specs.Prelude.{Some, None}
use Rattle.walks.specs.Marks.{marked_all, bytes_of}
use Rattle.walks.specs.Promise.{Walks, Sound, Standing, Passed, bytes_left, RecordTold, WalkTaken}
use Rattle.walks.proofs.MarksLaws.{all_records}
use Rattle.walks.proofs.PromiseLaws.{lent, lent_length, passed, ended}
use Rattle.tasks.specs.Promise.{form_of}
use Rattle.measures.specs.Promise.{Selecting, Selected, FirstUnpermitted}
use Rattle.measures.proofs.FairLaws.{left_few, Asks, asks, first_low, first_high, s_short, sound, walks_first}

-- ---- what is asked of a record

-- the plan selects fields, and these are lent
pub record Lent (fields : List ℕ) (p : Plan) : Type 0 where
  pub flat : fields ≡ flat_of p.fields
  pub zone : p.zone ≡ zone_f
  pub selecting : selects p.mode ≡ true

pub lent_of : {task : Task} {fields s : List ℕ} {p : Plan} {recs : List (List (List ℕ))} → Selecting task fields s p recs → Lent fields p
lent_of x = record { flat = x.flat; zone = x.zone; selecting = x.selecting }

module _ {fields : List ℕ} {p : Plan} (ok : Accepted p) (x : Lent fields p) where
  fair_fields : FlatFair fields p.fields (record_length p.input) (record_length p.output)
  fair_fields = record { flat = x.flat; fits = fits_of p ok; sizes = kinds_within ok.limits }

  long : (r : List ℕ) → least_data p ≤ length r → record_length p.input ≤ length r
  long r l = omega (arith, least_selects p x.selecting)

  pub readable : (r : List ℕ) → least_data p ≤ length r → Readable fields (length r)
  readable r l =
      record {
        a = record_length p.input;
        b = record_length p.output;
        fielded = record { fields = p.fields; fair = fair_fields };
        long = long r l;
      }

  pub permits_is : (r : List ℕ) (t : Bool) → Permits fields r t → least_data p ≤ length r → permits p r ≡ t
  unfolding Permits
  permits_is r t f l = permits_halves p x.selecting zone_f x.zone r ∙ sym (f p.fields _ _ fair_fields (long r l))

-- ---- the search

-- of the records taken, those that are left are asked the same, from this number on
pub record Seeks (p : Plan) (s : List ℕ) (recs : List (List (List ℕ))) (w : Walk) (number : ℕ) : Type 0 where
  pub rest : List (Bool × List ℕ)
  pub walks : Walks p s w rest
  pub same : each 13 (permits p) p.first (joined (taken_from p.first recs)) ≡ each 13 (permits p) number (map bytes_of rest)

pub record Seeking (form : Form) (first : ℕ) (fields s : List ℕ) (w : Walk) (number : ℕ) : Type 0 where
  pub low : 1 ≤ number
  pub few : number + bytes_left s w ≤ first + length s
  pub seeks : (p : Plan) (recs : List (List (List ℕ))) → Asks form first s p recs → Lent fields p → Seeks p s recs w number

pub seek_start : {task : Task} {fields s : List ℕ} {form : Form} {w : Walk} → form ≡ form_of task → Selected task fields s → WalkTaken form s task.first w
    → Seeking form task.first fields s w task.first
seek_start {task} {fields} {s} {form} {w} f y t =
    record {
      low = first_low (asks f y.given.fair);
      few = omega (arith, left_few s w);
      seeks = λ p recs a x. record { rest = marked_all (taken_from p.first recs); walks = walks_first a t; same = start p recs a.first_is_lem };
    }
  where
    start : (p : Plan) (recs : List (List (List ℕ))) → task.first ≡ p.first
        → each 13 (permits p) p.first (joined (taken_from p.first recs)) ≡ each 13 (permits p) task.first (map bytes_of (marked_all (taken_from p.first recs)))
    start p recs e = ap₂ (each 13 (permits p)) (sym e) (sym (all_records (taken_from p.first recs)))

module _ {form : Form} {first : ℕ} {fields s : List ℕ} {w : Walk} {number : ℕ} (k : Seeking form first fields s w number) where
  module _ {read : RecordRead} (t : RecordTold form s w (Some read)) where
    abbrev one : List ℕ
    one = take (read.start + read.length - read.start) (drop read.start s)

    is_long : {p : Plan} {rest : List (Bool × List ℕ)} → Passed p s rest read → least_data p ≤ length one
    is_long g = omega (arith, g.long, ap length (lent t), lent_length t)

    turn : {p : Plan} {recs : List (List (List ℕ))} → Asks form first s p recs → Lent fields p → (b : Bool) → Permits fields one b → (q : Seeks p s recs w number)
        → (g : Passed p s q.rest read)
        → (each 13 (permits p) p.first (joined (taken_from p.first recs)) ≡ each 13 (permits p) number (slice read.start (read.start + read.length) s ∷ map bytes_of g.more))
        × (permits p (slice read.start (read.start + read.length) s) ≡ b)
    turn {p} {recs} x y b a q g = (
      q.same ∙ ap (λ (l : List (Bool × List ℕ)). each 13 (permits p) number (map bytes_of l)) g.is,
      ap (permits p) (sym (lent t)) ∙ permits_is x.good.accepted y one b a (is_long g),
    )

    pub seek_more : (b : Bool) → Permits fields (take (read.start + read.length - read.start) (drop read.start s)) b → b ≡ true → Seeking form first fields s read.next (number + 1)
    seek_more b a h =
        record {
          low = omega arith;
          few = omega (arith, k.few, t.lies.less);
          seeks = λ p recs x y.
              let q = k.seeks p recs x y in
              let g = passed t x.form_is q.walks in
              let u = turn x y b a q g in
              record {
                rest = g.more;
                walks = g.walks;
                same = u.0 ∙ each_pass 13 (permits p) number (slice read.start (read.start + read.length) s) (map bytes_of g.more) (u.1 ∙ h);
              };
        }

-- by the numbers of the plan
module _ (task : Task) {fields s : List ℕ} {form : Form} (f : form ≡ form_of task) {w : Walk} {number : ℕ} (k : Seeking form task.first fields s w number) where
  module _ {read : RecordRead} (t : RecordTold form s w (Some read)) where
    pub seek_readable : Selected task fields s → Readable fields (length (take (read.start + read.length - read.start) (drop read.start s)))
    seek_readable y =
        let x = asks f y.given.fair in
        let q = k.seeks y.p y.recs x (lent_of y.given) in
        readable x.good.accepted (lent_of y.given) (take (read.start + read.length - read.start) (drop read.start s)) (is_long k t (passed t x.form_is q.walks))

    pub seek_stop : (b : Bool) → Permits fields (take (read.start + read.length - read.start) (drop read.start s)) b → b ≡ false → FirstUnpermitted task fields s (Some number)
    unfolding FirstUnpermitted
    seek_stop b a h = λ p recs y.
        let x = asks f y.fair in
        let q = k.seeks p recs x (lent_of y) in
        let g = passed t x.form_is q.walks in
        let u = turn k t x (lent_of y) b a q g in
        u.0 ∙ each_stop 13 (permits p) number (slice read.start (read.start + read.length) s) (map bytes_of g.more) (u.1 ∙ h)

  pub seek_end : RecordTold form s w None → FirstUnpermitted task fields s None
  unfolding FirstUnpermitted each
  seek_end t = λ p recs y.
      let x = asks f y.fair in
      let q = k.seeks p recs x (lent_of y) in
      q.same ∙ ap (λ (l : List (Bool × List ℕ)). each 13 (permits p) number (map bytes_of l)) (ended t x.form_is q.walks)

  pub seek_few : Selected task fields s → number ≤ 131072
  seek_few y = let x = asks f y.given.fair in omega (arith, k.few, first_high x, s_short x)

-- the walk stands in the reel
pub seek_sound : {task : Task} {fields s : List ℕ} {form : Form} → form ≡ form_of task → Selected task fields s → Sound form s
seek_sound f y = sound (asks f y.given.fair)

pub seek_stands : {task : Task} {fields s : List ℕ} {form : Form} {w : Walk} {number : ℕ} → form ≡ form_of task → Seeking form task.first fields s w number → Selected task fields s → Standing form s w
seek_stands f k y =
    let x = asks f y.given.fair in
    let q = k.seeks y.p y.recs x (lent_of y.given) in
    record { p = y.p; rest = q.rest; form_is = x.form_is; walks = q.walks }

pub seek_short : {task : Task} {fields s : List ℕ} {form : Form} → form ≡ form_of task → Selected task fields s → length s ≤ 65536
seek_short f y = s_short (asks f y.given.fair)
