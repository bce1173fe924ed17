-- In FF the records taken are the data from R on, cut every n bytes: what is asked of all of them is what is asked of those that are left. By going from record to record.
use mathlib.Core.Path.{◌≡◌, refl, ap, sym, ◌∙◌, subst}
use mathlib.Core.Bool.{Bool, true, false}
use mathlib.Core.List.{List, ◌∷◌}
use Prim.Native.Nat.{ℕ, ◌+◌, ◌-◌, ◌*◌, ◌≤◌, ◌<◌}
use native.Mathlib.Nat.{suc-mul}
use native.Mathlib.Omega.{arith}
use lib.ListN.{length, take, drop, length-drop}
use lib.Seq.{drop-drop, length-take-le}
use Rattle.std.specs.Prelude.{Some, None}
use Rattle.rules.specs.Base.{joined}
use Rattle.rules.specs.Answer.{each}
use Rattle.rules.specs.Plan.{Plan, record_length}
use Rattle.rules.specs.Blocks.{least_data, taken_from}
use Rattle.rules.specs.Output.{permits}
use Rattle.rules.specs.Accepted.{Accepted}
use Rattle.rules.specs.EvenRecords.{Even}
use Rattle.rules.proofs.Blocks.BlockSizes.{least_selects}
use Rattle.rules.proofs.Output.FitSteps.{each_pass, each_stop}
use Rattle.rules.proofs.Blocks.EvenLaws.{Next, even_size, even_next, even_end}
use Rattle.terms.specs.declared.Task.{Task}
use Rattle.terms.specs.declared.Format.TheVariants.{FF}
use Rattle.pieces.specs.declared.Form.{Form}
use Rattle.rows.specs.Flat.{Readable}
use Rattle.values.specs.Promise.{Permits}
use Rattle.walks.specs.Walking.{fixed_start}
use Rattle.fillings.proofs.FixedLaws.{record_some, data_even}
use Rattle.tasks.specs.Promise.{form_of}
use Rattle.measures.specs.Promise.{GoodTask, Selected, answer_at, FirstUnpermitted}
use Rattle.measures.proofs.FairLaws.{asks, first_high, s_short}
use Rattle.measures.proofs.SeekLaws.{Lent, lent_of, readable, permits_is}

-- ---- the search

-- of the records that the data is, those that are left are asked the same, from this number on
pub record Left (p : Plan) (n first : ℕ) (block : List ℕ) (rs : List (List ℕ)) (at number : ℕ) : Type 0 where
  pub rest : List (List ℕ)
  pub even : Even n (drop at block) rest
  pub same : each 13 (permits p) first rs ≡ each 13 (permits p) number rest

pub record Asking (n first : ℕ) (fields block : List ℕ) (at number : ℕ) : Type 0 where
  pub low : 1 ≤ number
  pub few : number ≤ first + at
  pub left : (p : Plan) → Lent fields p → Accepted p → record_length p.input ≡ n → (rs : List (List ℕ)) → Even n block rs → Left p n first block rs at number

pub ask_start : (n first : ℕ) (fields block : List ℕ) → 1 ≤ first → Asking n first fields block 0 first
ask_start n first fields block l = record { low = l; few = omega arith; left = λ p x ok e rs v. record { rest = rs; even = v; same = refl } }

module _ {n first : ℕ} {fields block : List ℕ} {at number : ℕ} (some : 1 ≤ n) (k : Asking n first fields block at number) where
  module _ (l : at < length block) {p : Plan} (x : Lent fields p) (ok : Accepted p) (e : record_length p.input ≡ n) (rs : List (List ℕ)) (v : Even n block rs) where
    left_now : Left p n first block rs at number
    left_now = k.left p x ok e rs v

    next : Next n (drop at block) left_now.rest
    next = even_next left_now.rest left_now.even (omega (arith, length-drop at block))

    -- a whole record is left
    pub ask_inside : at + n ≤ length block
    ask_inside = omega (arith, even_size left_now.even, ap length next.is, suc-mul (length next.more) n, ap (λ (j : ℕ). j * n) (ap length next.is), length-drop at block)

    abbrev one : List ℕ
    one = take (at + n - at) (drop at block)

    one_is : one ≡ take n (drop at block)
    one_is = ap (λ (j : ℕ). take j (drop at block)) (let z : at + n - at ≡ n = omega arith in z)

    one_long : least_data p ≤ length one
    one_long =
        omega (arith, ap length one_is, length-take-le n (drop at block) (omega (arith, ask_inside, length-drop at block)), least_selects p x.selecting)

    pub ask_readable : Readable fields (length one)
    ask_readable = readable ok x one one_long

    turn : (b : Bool) → Permits fields one b → (each 13 (permits p) first rs ≡ each 13 (permits p) number (take n (drop at block) ∷ next.more)) × (permits p (take n (drop at block)) ≡ b)
    turn b a = (left_now.same ∙ ap (each 13 (permits p) number) next.is, ap (permits p) (sym one_is) ∙ permits_is ok x one b a one_long)

    pub left_stop : (b : Bool) → Permits fields one b → b ≡ false → each 13 (permits p) first rs ≡ answer_at 13 (Some number)
    left_stop b a h =
        let u = turn b a in
        u.0 ∙ each_stop 13 (permits p) number (take n (drop at block)) next.more (u.1 ∙ h)

    left_more : (b : Bool) → Permits fields one b → b ≡ true → Left p n first block rs (at + n) (number + 1)
    left_more b a h =
        let u = turn b a in
        record {
          rest = next.more;
          even = subst (λ (z : List ℕ). Even n z next.more) (drop-drop n at block) next.left;
          same = u.0 ∙ each_pass 13 (permits p) number (take n (drop at block)) next.more (u.1 ∙ h);
        }

  pub ask_more : at < length block → (b : Bool) → Permits fields (take (at + n - at) (drop at block)) b → b ≡ true → Asking n first fields block (at + n) (number + 1)
  ask_more l b a h = record { low = omega arith; few = omega (arith, k.few); left = λ p x ok e rs v. left_more l x ok e rs v b a h }

  left_end : length block ≤ at → {p : Plan} → Lent fields p → Accepted p → record_length p.input ≡ n → (rs : List (List ℕ)) → Even n block rs
      → each 13 (permits p) first rs ≡ answer_at 13 None
  unfolding each
  left_end l {p} x ok e rs v =
      let q = k.left p x ok e rs v in
      q.same ∙ ap (each 13 (permits p) number) (even_end q.rest some q.even (omega (arith, length-drop at block)))

-- ---- by the numbers of the plan

module _ (task : Task) (fields s : List ℕ) {form : Form} {from : ℕ} {block : List ℕ} (f : task.format ≡ FF) (g : form ≡ form_of task) (b : from ≡ fixed_start form s task.first)
    (d : block ≡ drop from s) where
  all_even : {p : Plan} {recs : List (List (List ℕ))} → GoodTask task s p recs → Even task.n block (joined (taken_from p.first recs))
  all_even {p} {recs} x = subst (λ (z : List ℕ). Even task.n z (joined (taken_from p.first recs))) (sym d) (data_even x.is x.good f g b)

  module _ (y : Selected task fields s) where
    fair : GoodTask task s y.p y.recs
    fair = y.given.fair

    pub seek_some : 1 ≤ task.n
    seek_some = record_some fair.is fair.good f

    pub seek_high : task.first ≤ 65536
    seek_high = first_high (asks g fair)

    pub seek_few : length s ≤ 65536
    seek_few = s_short (asks g fair)

  module _ {at number : ℕ} (k : Asking task.n task.first fields block at number) where
    pub seek_inside : Selected task fields s → at < length block → at + task.n ≤ length block
    seek_inside y l = ask_inside (seek_some y) k l (lent_of y.given) (fair y).good.accepted (sym (fair y).is.n) _ (all_even (fair y))

    pub seek_readable : Selected task fields s → at < length block → Readable fields (length (take (at + task.n - at) (drop at block)))
    seek_readable y l = ask_readable (seek_some y) k l (lent_of y.given) (fair y).good.accepted (sym (fair y).is.n) _ (all_even (fair y))

    pub seek_stop : at < length block → (t : Bool) → Permits fields (take (at + task.n - at) (drop at block)) t → t ≡ false → FirstUnpermitted task fields s (Some number)
    unfolding FirstUnpermitted
    seek_stop l t a h = λ p recs y.
        ap (λ (i : ℕ). each 13 (permits p) i (joined (taken_from p.first recs))) (sym y.fair.is.first)
        ∙ left_stop (record_some y.fair.is y.fair.good f) k l (lent_of y) y.fair.good.accepted (sym y.fair.is.n) _ (all_even y.fair) t a h

    pub seek_end : length block ≤ at → FirstUnpermitted task fields s None
    unfolding FirstUnpermitted
    seek_end l = λ p recs y.
        ap (λ (i : ℕ). each 13 (permits p) i (joined (taken_from p.first recs))) (sym y.fair.is.first)
        ∙ left_end (record_some y.fair.is y.fair.good f) k l (lent_of y) y.fair.good.accepted (sym y.fair.is.n) _ (all_even y.fair)
