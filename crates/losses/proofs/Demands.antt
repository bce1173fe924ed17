-- What the numbers say, of what the functions promise: a half has 0 exactly if it is not lost, and else why; the tail is said to be lost exactly if it is; a number of a
-- field is that of the last. It holds since each promise is the rules' answer, of which it is proved.
use mathlib.Core.Path.{◌≡◌, refl, ap, sym, ◌∙◌, subst}
use mathlib.Core.Logic.{◌↔◌}
use mathlib.Core.Bool.{Bool, true}
use mathlib.Core.List.{List, []}
use Prim.Native.Nat.{ℕ, zero, suc, ◌≤◌, ◌<◌}
use native.Mathlib.Nat.{zero-add}
use native.Mathlib.Omega.{arith}
use lib.ListN.{get_or}
use borrow.Author.Tests.{ne_eqb}
use Rattle.std.proofs.Common.{Option, Some, None}
use Rattle.rules.specs.Halves.{Field as RuleField}
use Rattle.rules.specs.Plan.{Plan, record_length, input_halves}
use Rattle.rules.specs.Lent.{zone_f}
use Rattle.rules.specs.Demand.{TailTwins}
use Rattle.rules.specs.Twins.{listed}
use Rattle.rules.specs.TwinWords.{Reads}
use Rattle.rules.specs.JudgeWords.{WritesAt}
use Rattle.rules.specs.Losses.{loss_at, is_tail_lost, last_reader, last_writer, LossSays, LastSays}
use Rattle.rules.proofs.Halves.ListedLaws.{get_d_listed}
use Rattle.rules.proofs.Losses.LossLaws.{losses_say}
use Rattle.rules.proofs.Losses.LastLaws.{last_reader_says, last_writer_says}
use Rattle.terms.specs.Meaning.{plan_in}
use Rattle.terms.specs.declared.Asked.{Asked}
use Rattle.rows.specs.Kept.{fields_in}
use Rattle.rows.specs.Fair.{PlanFair}
use Rattle.reasons.proofs.FairLaws.{fields_fair}
use Rattle.losses.specs.Promise.{place_of}

module _ (x : Asked) (row : List ℕ) (fair : PlanFair x row) where
  abbrev the_plan : Plan
  the_plan = plan_in zone_f x (fields_in row)

  zone_low : the_plan.zone < 16
  unfolding plan_in
  zone_low = omega arith

  input_low : record_length the_plan.input ≤ 4096
  unfolding plan_in
  input_low = (fields_fair x row fair).n_high

  -- of `losses`, each half of the first n bytes
  pub losses_demands : (r : List ℕ) → r ≡ listed (loss_at the_plan) 0 8192 → (h : ℕ) → h < input_halves the_plan → LossSays the_plan h (get_or r h 0)
  unfolding input_halves
  losses_demands r e h l =
      let k : h < 8192 = omega (arith, l, input_low) in
      let same : get_or r h 0 ≡ loss_at the_plan h = ap (λ (xs : List ℕ). get_or xs h 0) e ∙ get_d_listed (loss_at the_plan) 0 8192 h k ∙ ap (loss_at the_plan) (zero-add h) in
      subst (LossSays the_plan h) (sym same) ((losses_say the_plan zone_low fair.accepted).halves h l)

  -- of `is_tail_lost`
  pub tail_demands : (r : Bool) → ((fs : List RuleField) → r ≡ is_tail_lost (plan_in zone_f x fs)) → (r ≡ true) ↔ TailTwins the_plan
  tail_demands r e =
      let w = (losses_say the_plan zone_low fair.accepted).tail in
      (λ t. w.0 (sym (e (fields_in row)) ∙ t), λ t. e (fields_in row) ∙ w.1 t)

-- of `last_reader` and `last_writer`, where none is number 0
abbrev pub number_in : Option ℕ → ℕ
number_in None = 0
number_in (Some n) = n

number_of_place : (n : ℕ) → number_in (place_of n) ≡ n
number_of_place zero = refl
number_of_place (suc n) = rw (ne_eqb (suc n) 0 (λ e. omega arith))

pub reader_demands : (h : ℕ) (fs : List RuleField) (r : Option ℕ) → r ≡ place_of (last_reader h fs) → LastSays (λ f. Reads f h) fs (number_in r)
reader_demands h fs r e = subst (LastSays (λ f. Reads f h) fs) (sym (ap number_in e ∙ number_of_place (last_reader h fs))) (last_reader_says h fs)

pub writer_demands : (i : ℕ) (fs : List RuleField) (r : Option ℕ) → r ≡ place_of (last_writer i fs) → LastSays (WritesAt i) fs (number_in r)
writer_demands i fs r e = subst (LastSays (WritesAt i) fs) (sym (ap number_in e ∙ number_of_place (last_writer i fs))) (last_writer_says i fs)

-- ---- one outcome only

pub only_one_losses : (x : Asked) (row r r' : List ℕ) → r ≡ listed (loss_at (plan_in zone_f x (fields_in row))) 0 8192 → r' ≡ listed (loss_at (plan_in zone_f x (fields_in row))) 0 8192 → r ≡ r'
only_one_losses x row r r' e e' = e ∙ sym e'

pub only_one_tail : (x : Asked) (r r' : Bool) → ((fs : List RuleField) → r ≡ is_tail_lost (plan_in zone_f x fs)) → ((fs : List RuleField) → r' ≡ is_tail_lost (plan_in zone_f x fs)) → r ≡ r'
only_one_tail x r r' e e' = e [] ∙ sym (e' [])

pub only_one_reader : (h : ℕ) (row : List ℕ) (r r' : Option ℕ) → r ≡ place_of (last_reader h (fields_in row)) → r' ≡ place_of (last_reader h (fields_in row)) → r ≡ r'
only_one_reader h row r r' e e' = e ∙ sym e'

pub only_one_writer : (i : ℕ) (row : List ℕ) (r r' : Option ℕ) → r ≡ place_of (last_writer i (fields_in row)) → r' ≡ place_of (last_writer i (fields_in row)) → r ≡ r'
only_one_writer i row r r' e e' = e ∙ sym e'
