-- The output blocks of a plan are those that the outputs of the records taken are gathered into, and the first of them is marked. By the plan's mode.
use mathlib.Core.Path.{◌≡◌, refl, ap, ap₂, sym, ◌∙◌, subst}
use mathlib.Core.Bool.{Bool, false, true≢false}
use mathlib.Core.List.{List, map}
use Prim.Native.Nat.{ℕ, ◌+◌}
use native.Mathlib.Omega.{arith}
use lib.Dec.{ltb}
use Rattle.rules.specs.Base.{joined}
use Rattle.rules.specs.Grammar.{Mode, tc, tf, tr, trf}
use Rattle.rules.specs.Plan.{Plan, is_tf, is_tc, block_length}
use Rattle.rules.specs.Blocks.{taken_from}
use Rattle.rules.specs.Output.{out_record, cost, filled, filled_b, blocked}
use Rattle.rules.specs.Run.{outputs, output_blocks}
use Rattle.terms.specs.Meaning.{mode_of, TaskIs}
use Rattle.terms.specs.declared.Task.{Task}
use Rattle.walks.specs.Marks.{marked_all, on_marked}
use Rattle.walks.proofs.MarksLaws.{all_records, all_map, blocks_marked_lem}
use Rattle.fillings.specs.Tallying.{opens_in, opens_of}
use Rattle.fillings.proofs.TallyLaws.{over_later}
use Rattle.fillings.proofs.Gathering.{gathered, gathered_marked, gathered_filled}
use Rattle.fillings.proofs.FilledLaws.{opened, behind_of, Starts, starts}

-- the output records, with their marks
abbrev pub outs : Plan → List (Bool × List ℕ) → List (Bool × List ℕ)
outs p marks = map (on_marked (out_record p)) marks

module _ {task : Task} {p : Plan} (is : TaskIs task p) where
  behind_marked : p.mode ≡ tf → (size : ℕ) (begins : Bool) (n : ℕ) → behind_of task size begins n ≡ begins
  unfolding behind_of opens_of
  behind_marked e size begins n = ap (λ (m : Mode). opens_in m task.limit task.cost (opened size) begins n) (is.mode ∙ e)

  behind_filled : is_tf p.mode ≡ false → (size : ℕ) (begins : Bool) (n : ℕ) → behind_of task size begins n ≡ ltb (block_length p.output) (size + (cost p.format + n))
  unfolding behind_of opens_of
  behind_filled e size begins n =
      go (mode_of task.mode) (ap is_tf is.mode ∙ e) ∙ ap₂ (λ (k c : ℕ). ltb k (size + (c + n))) is.limit is.costs
    where
      over : opens_in tr task.limit task.cost (opened size) begins n ≡ ltb task.limit (size + (task.cost + n))
      over = sym (over_later task.limit task.cost (opened size) n (λ z. omega arith))

      go : (m : Mode) → is_tf m ≡ false → opens_in m task.limit task.cost (opened size) begins n ≡ ltb task.limit (size + (task.cost + n))
      go tc z = over
      go tf z = absurd (true≢false z)
      go tr z = over
      go trf z = over

  module _ (recs : List (List (List ℕ))) where
    pub gathered_is : is_tc p.mode ≡ false → gathered p.format (behind_of task) (outs p (marked_all (taken_from p.first recs))) ≡ output_blocks p recs
    unfolding filled_b
    gathered_is other = ap (gathered p.format (behind_of task)) (sym (all_map (out_record p) (taken_from p.first recs))) ∙ go p.mode refl
      where
        fills : is_tf p.mode ≡ false → gathered p.format (behind_of task) (marked_all (outputs p recs)) ≡ filled_b p (joined (outputs p recs))
        fills e =
            gathered_filled p.format (behind_of task) (block_length p.output) (behind_filled e) (marked_all (outputs p recs))
            ∙ ap (filled (block_length p.output) (cost p.format) (cost p.format)) (all_records (outputs p recs))

        go : (m : Mode) → p.mode ≡ m → gathered p.format (behind_of task) (marked_all (outputs p recs)) ≡ output_blocks p recs
        go tc e = absurd (true≢false (sym (ap is_tc e) ∙ other))
        go tf e =
            gathered_marked p.format (behind_of task) (behind_marked e) (marked_all (outputs p recs))
            ∙ blocks_marked_lem (outputs p recs)
            ∙ sym (ap (λ (m : Mode). blocked m p (outputs p recs)) e)
        go tr e = fills (ap is_tf e) ∙ sym (ap (λ (m : Mode). blocked m p (outputs p recs)) e)
        go trf e = fills (ap is_tf e) ∙ sym (ap (λ (m : Mode). blocked m p (outputs p recs)) e)

    pub starts_is : Starts (outs p (marked_all (taken_from p.first recs)))
    starts_is = subst Starts (all_map (out_record p) (taken_from p.first recs)) (starts (outputs p recs))
