-- The pass that measures: refusal 14's tests of all records taken, and their measure, are those that the records left give from the tally on. By the walk.
use mathlib.Core.Path.{◌≡◌, ap, ap₂, sym, ◌∙◌, subst}
use mathlib.Core.Bool.{Bool}
use mathlib.Core.List.{List, [], ◌∷◌, map}
use Prim.Native.Nat.{ℕ, ◌+◌, ◌-◌, ◌*◌, ◌≤◌, ◌<◌}
use native.Mathlib.Omega.{arith}
use lib.Dec.{leb}
use lib.ListN.{length, length-map}
use lib.Seq.{slice}
use borrow.Author.Tests.{le-leb, lt-leb}
use Rattle.rules.specs.Answer.{fine, refused, each}
use Rattle.rules.specs.Plan.{Plan, block_length}
use Rattle.rules.specs.Blocks.{least_data}
use Rattle.rules.specs.Base.{joined}
use Rattle.rules.specs.Output.{out_record, block_of, cost}
use Rattle.rules.specs.Run.{output_blocks}
use Rattle.rules.proofs.Output.FillSteps.{Measure, unmeasured}
use Rattle.rules.proofs.Reel.ReelLaws.{length_reel}
use Rattle.rules.proofs.Output.FitSteps.{each_pass, each_stop}
use Rattle.terms.specs.declared.Task.{Task}
use Rattle.pieces.specs.declared.Form.{Form}
use Rattle.walks.specs.declared.Walk.{Walk}
use Rattle.walks.specs.declared.RecordRead.{RecordRead}
use Rattle.walks.specs.Promise.{Walks, Sound, Standing, Passed, bytes_left, RecordTold, WalkTaken}
use Rattle.walks.proofs.PromiseLaws.{lent_length, passed, ended}
use Rattle.fillings.specs.declared.Tally.{Tally}
use Rattle.std.specs.Prelude.{Some, None, Ok, Err}
use Rattle.tasks.specs.Promise.{form_of, output_length_of}
use Rattle.tasks.proofs.LengthLaws.{length_most, out_length}
use Rattle.fillings.specs.Tallying.{tally_of, Small}
use Rattle.measures.specs.Promise.{Measuring, Measurable, fit_answer, answer_of, measured_of, Measures}
use Rattle.measures.proofs.PromiseLaws.{measured_long, measured_fits}
use Rattle.measures.proofs.FairLaws.{left_few, asks, first_high, s_short, sound, walks_first}
use Rattle.fillings.proofs.TestLaws.{step_of, tests_from, lengths, taken_marked, all_count, all_tests}
use Rattle.fillings.proofs.FilledLaws.{Filled, filled_start, filled_more, filled_end}
use Rattle.fillings.proofs.GatheredLaws.{outs, gathered_is, starts_is}
use Rattle.fillings.proofs.TallyLaws.{measure_of, empty, tally_is, bounded, Grown, tally_grown}

-- ---- a turn, by any step

module _ (step : Measure → Bool × ℕ → Measure) (limit number : ℕ) (m u : Measure) (x : Bool × ℕ) (all xs : List (Bool × ℕ)) (is : all ≡ x ∷ xs) (e : step m x ≡ u) where
  turn_pass : u.size ≤ limit → each 14 (λ holds. holds) number (tests_from step limit m all) ≡ each 14 (λ holds. holds) (number + 1) (tests_from step limit u xs)
  turn_pass l =
      ap (λ (l : List (Bool × ℕ)). each 14 (λ holds. holds) number (tests_from step limit m l)) is
      ∙ each_pass 14 (λ holds. holds) number (leb (step m x).size limit) (tests_from step limit (step m x) xs) (ap (λ (k : Measure). leb k.size limit) e ∙ le-leb u.size limit l)
      ∙ ap (λ (k : Measure). each 14 (λ holds. holds) (number + 1) (tests_from step limit k xs)) e

  turn_stop : limit < u.size → each 14 (λ holds. holds) number (tests_from step limit m all) ≡ refused 14 number
  turn_stop l =
      ap (λ (l : List (Bool × ℕ)). each 14 (λ holds. holds) number (tests_from step limit m l)) is
      ∙ each_stop 14 (λ holds. holds) number (leb (step m x).size limit) (tests_from step limit (step m x) xs) (ap (λ (k : Measure). leb k.size limit) e ∙ lt-leb u.size limit l)

-- ---- the pass

abbrev plan_step : Plan → Measure → Bool × ℕ → Measure
plan_step p = step_of p.mode (block_length p.output) (cost p.format)

pub record Goes (task : Task) (p : Plan) (s : List ℕ) (recs : List (List (List ℕ))) (w : Walk) (number : ℕ) (t : Tally) : Type 0 where
  pub rest : List (Bool × List ℕ)
  pub walks : Walks p s w rest
  pub tests : fit_answer p recs ≡ each 14 (λ holds. holds) number (tests_from (plan_step p) (block_length p.output) (measure_of t) (lengths p rest))
  pub closed : List (List (List ℕ))
  pub now : List (List ℕ)
  pub filled : Filled p.format task (output_blocks p recs) closed now t (outs p rest)
  pub counts : p.first + length (taken_marked p recs) ≡ number + length rest

pub record Going (task : Task) (s : List ℕ) (w : Walk) (number : ℕ) (t : Tally) : Type 0 where
  pub few : number + bytes_left s w ≤ task.first + length s
  pub blocks : t.blocks + task.first ≤ number
  pub size : t.size ≤ t.bytes
  pub bytes : t.bytes + 200000 * task.first ≤ 200000 * number
  pub goes : (p : Plan) (recs : List (List (List ℕ))) → Measuring task s p recs → Goes task p s recs w number t

start_tests : {task : Task} {s : List ℕ} (p : Plan) (recs : List (List (List ℕ))) → Measuring task s p recs
    → fit_answer p recs ≡ each 14 (λ holds. holds) task.first (tests_from (plan_step p) (block_length p.output) unmeasured (lengths p (taken_marked p recs)))
unfolding fit_answer
start_tests p recs x = ap₂ (each 14 (λ holds. holds)) (sym x.fair.is.first) (all_tests p recs x.other)

pub go_limit : {task : Task} {s : List ℕ} → Measurable task s → task.limit ≤ 32760
go_limit y = (bounded y.given.fair.is y.given.fair.good.accepted).limit

-- the walk stands in the reel
pub go_sound : {task : Task} {s : List ℕ} {form : Form} → form ≡ form_of task → Measurable task s → Sound form s
go_sound f y = sound (asks f y.given.fair)

pub go_stands : {task : Task} {s : List ℕ} {form : Form} {w : Walk} {number : ℕ} {t : Tally} → form ≡ form_of task → Going task s w number t → Measurable task s → Standing form s w
go_stands f k y =
    let q = k.goes y.p y.recs y.given in
    record { p = y.p; rest = q.rest; form_is = (asks f y.given.fair).form_is; walks = q.walks }

module _ (task : Task) {s : List ℕ} {form : Form} (f : form ≡ form_of task) {w : Walk} where
  pub go_start : WalkTaken form s task.first w → Going task s w task.first empty
  go_start t =
      record {
        few = omega (arith, left_few s w);
        blocks = omega arith;
        size = omega arith;
        bytes = omega arith;
        goes = λ p recs x. record {
          rest = taken_marked p recs;
          walks = walks_first (asks f x.fair) t;
          tests = start_tests p recs x;
          closed = [];
          now = [];
          filled = filled_start p.format task (outs p (taken_marked p recs)) (gathered_is x.fair.is recs x.other) (starts_is x.fair.is recs);
          counts = omega (arith, x.fair.is.first);
        };
      }

  module _ {number : ℕ} {t : Tally} (k : Going task s w number t) where
    pub go_few : Measurable task s → number ≤ 131072
    go_few y = let x = asks f y.given.fair in omega (arith, k.few, first_high x, s_short x)

    -- the size of what is measured, behind the last record
    pub go_bytes : Measurable task s → (t.blocks ≤ 131072) × (t.bytes ≤ 0x1000000000)
    go_bytes y = (omega (arith, k.blocks, go_few y), omega (arith, k.bytes, go_few y))

    module _ {read : RecordRead} (h : RecordTold form s w (Some read)) where
      pub go_short : Measurable task s → (task.width ≤ 65536) × (read.length ≤ 65536)
      go_short y =
          let b = bounded y.given.fair.is y.given.fair.good.accepted in
          (omega (arith, b.width), omega (arith, h.lies.ends, s_short (asks f y.given.fair)))

      pub go_small : Measurable task s → (n : ℕ) → n ≡ output_length_of task read.length → Small task t n
      go_small y n q =
          let g = go_short y in
          let b = bounded y.given.fair.is y.given.fair.good.accepted in
          let z = go_bytes y in
          record {
            cost = b.cost;
            blocks = omega (arith, z.0);
            size = omega (arith, z.1, k.size);
            bytes = omega (arith, z.1);
            long = omega (arith, g.0, g.1, q, length_most task read.length);
          }

      module _ {p : Plan} {recs : List (List (List ℕ))} (x : Measuring task s p recs) where
        goes_in : Goes task p s recs w number t
        goes_in = k.goes p recs x

        passes : Passed p s goes_in.rest read
        passes = passed h (asks f x.fair).form_is goes_in.walks

        out_long : length (out_record p (slice read.start (read.start + read.length) s)) ≡ output_length_of task read.length
        out_long =
            out_length x.fair.is x.fair.good.accepted (slice read.start (read.start + read.length) s)
            (let z : least_data p ≤ length (slice read.start (read.start + read.length) s) = omega (arith, passes.long, lent_length h) in z)
            ∙ ap (output_length_of task) (lent_length h)

        left_is : lengths p goes_in.rest ≡ (read.begins, output_length_of task read.length) ∷ lengths p passes.more
        left_is =
            ap (lengths p) passes.is
            ∙ ap (λ (n : ℕ). (read.begins, n) ∷ lengths p passes.more) out_long

        -- the blocks so far, with this record
        filled_next : (next : List (List (List ℕ))) × (last : List (List ℕ))
            × Filled p.format task (output_blocks p recs) next last (tally_of task t read.begins (output_length_of task read.length)) (outs p passes.more)
        filled_next =
            let w = subst (λ (l : List (Bool × List ℕ)). Filled p.format task (output_blocks p recs) goes_in.closed goes_in.now t (outs p l)) passes.is goes_in.filled in
            let m = filled_more p.format task x.fair.is.costs (output_blocks p recs) goes_in.closed t read.begins (out_record p (slice read.start (read.start + read.length) s)) (outs p passes.more) goes_in.now w in
            (m.0, m.1, subst (λ (n : ℕ). Filled p.format task (output_blocks p recs) m.0 m.1 (tally_of task t read.begins n) (outs p passes.more)) out_long m.2)

        step_is : plan_step p (measure_of t) (read.begins, output_length_of task read.length) ≡ measure_of (tally_of task t read.begins (output_length_of task read.length))
        step_is = sym (tally_is x.fair.is t read.begins (output_length_of task read.length))

        goes_stop : task.limit < (tally_of task t read.begins (output_length_of task read.length)).size → answer_of (Err (record { number = number })) ≡ measured_of p recs
        goes_stop l =
            measured_long p recs number (goes_in.tests
            ∙ turn_stop (plan_step p) (block_length p.output) number (measure_of t) _ (read.begins, output_length_of task read.length) _ (lengths p passes.more) left_is step_is
            (let z : block_length p.output < (tally_of task t read.begins (output_length_of task read.length)).size = omega (arith, x.fair.is.limit) in z))

        goes_more : (tally_of task t read.begins (output_length_of task read.length)).size ≤ task.limit
            → Goes task p s recs read.next (number + 1) (tally_of task t read.begins (output_length_of task read.length))
        goes_more l =
            let m = filled_next in
            record {
              rest = passes.more;
              walks = passes.walks;
              tests =
                  goes_in.tests
                  ∙ turn_pass (plan_step p) (block_length p.output) number (measure_of t) _ (read.begins, output_length_of task read.length) _ (lengths p passes.more) left_is step_is
                  (let z : (tally_of task t read.begins (output_length_of task read.length)).size ≤ block_length p.output = omega (arith, x.fair.is.limit) in z);
              closed = m.0;
              now = m.1;
              filled = m.2;
              counts = omega (arith, goes_in.counts, ap length passes.is);
            }

      module _ (y : Measurable task s) (n : ℕ) (q : n ≡ output_length_of task read.length) (u : Tally) (v : u ≡ tally_of task t read.begins n) where
        u_is : tally_of task t read.begins (output_length_of task read.length) ≡ u
        u_is = ap (tally_of task t read.begins) (sym q) ∙ sym v

        pub go_stop : task.limit < u.size → Measures task s (Err (record { number = number }))
        unfolding Measures
        go_stop l = λ p recs x. goes_stop x (subst (λ (z : Tally). task.limit < z.size) (sym u_is) l)

        pub go_more : u.size ≤ task.limit → Going task s read.next (number + 1) u
        go_more l =
            let g = subst (Grown task.cost n t) (sym v) (tally_grown task t read.begins n) in
            let a = go_short y in
            let b = bounded y.given.fair.is y.given.fair.good.accepted in
            record {
              few = omega (arith, k.few, h.lies.less);
              blocks = omega (arith, k.blocks, g.blocks);
              size = g.size k.size;
              bytes = omega (arith, k.bytes, g.bytes, b.cost, a.0, a.1, q, length_most task read.length);
              goes = λ p recs x.
                  subst (Goes task p s recs read.next (number + 1)) u_is
                  (goes_more x (subst (λ (z : Tally). z.size ≤ task.limit) (sym u_is) l));
            }

    module _ (h : RecordTold form s w None) {p : Plan} {recs : List (List (List ℕ))} (x : Measuring task s p recs) where
      goes_last : Goes task p s recs w number t
      goes_last = k.goes p recs x

      nothing : goes_last.rest ≡ []
      nothing = ended h (asks f x.fair).form_is goes_last.walks

      all_filled : (t.blocks ≡ length (output_blocks p recs)) × (t.bytes ≡ length (joined (map (block_of p.format) (output_blocks p recs))))
      all_filled =
          filled_end p.format task
          (subst (λ (l : List (Bool × List ℕ)). Filled p.format task (output_blocks p recs) goes_last.closed goes_last.now t (outs p l)) nothing goes_last.filled)

      all_fit : fit_answer p recs ≡ fine tt
      unfolding each
      all_fit =
          goes_last.tests
          ∙ ap (λ (l : List (Bool × List ℕ)). each 14 (λ holds. holds) number (tests_from (plan_step p) (block_length p.output) (measure_of t) (lengths p l))) nothing

      goes_end : answer_of (Ok (record { blocks = t.blocks; records = number - task.first; length = 4 * t.blocks + 8 + t.bytes })) ≡ measured_of p recs
      goes_end =
          let bs = map (block_of p.format) (output_blocks p recs) in
          measured_fits p recs all_fit all_filled.0 (omega (arith, goes_last.counts, ap length nothing, all_count p recs, x.fair.is.first))
          (omega (arith, length_reel bs, length-map (output_blocks p recs) (block_of p.format), all_filled.0, all_filled.1))

    pub go_end : RecordTold form s w None → Measures task s (Ok (record { blocks = t.blocks; records = number - task.first; length = 4 * t.blocks + 8 + t.bytes }))
    unfolding Measures
    go_end h = λ p recs x. goes_end h x
