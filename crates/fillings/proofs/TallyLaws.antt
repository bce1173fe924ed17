-- The numbers of a step: a tally is a measure of the rules, and a step keeps it far from wrapping. By the plan's mode.
use mathlib.Core.Path.{◌≡◌, refl, ap, ap₂, sym, ◌∙◌}
use mathlib.Core.Bool.{Bool, true, false, cond, ◌||◌}
use Prim.Native.Nat.{ℕ, ◌+◌, ◌≤◌}
use native.Mathlib.Omega.{arith}
use lib.Dec.{ltb, eqb}
use borrow.Author.Tests.{eq-eqb, ne_eqb}
use Rattle.rules.specs.Grammar.{Mode, tc, tf, tr, trf}
use Rattle.rules.specs.Plan.{Plan, block_length}
use Rattle.rules.specs.Output.{cost}
use Rattle.rules.specs.Accepted.{Accepted}
use Rattle.rules.proofs.Output.FillSteps.{Measure, opening, behind, measure}
use Rattle.rules.proofs.Output.MeasureLaws.{cost_high, record_high, block_high}
use Rattle.terms.specs.Meaning.{mode_of, TaskIs}
use Rattle.terms.specs.declared.Task.{Task}
use Rattle.fillings.specs.declared.Tally.{Tally}
use Rattle.fillings.specs.Tallying.{overfills_of, opens_in, tally_in, opens_of, tally_of}
use Rattle.fillings.proofs.TestLaws.{step_of}

-- ---- whether a block is opened

module _ (limit c : ℕ) (t : Tally) (n : ℕ) where
  pub over_first : t.blocks ≡ 0 → true ≡ overfills_of limit c t n
  unfolding overfills_of
  over_first e = sym (ap (λ (b : Bool). b || ltb limit (t.size + (c + n))) (eq-eqb t.blocks 0 e))

  pub over_later : (t.blocks ≡ 0 → ⊥) → ltb limit (t.size + (c + n)) ≡ overfills_of limit c t n
  unfolding overfills_of
  over_later e = sym (ap (λ (b : Bool). b || ltb limit (t.size + (c + n))) (ne_eqb t.blocks 0 e))

module _ (task : Task) (t : Tally) (begins : Bool) (n : ℕ) where
  pub tally_opens : opens_of task t begins n ≡ true
      → record { blocks = t.blocks + 1; size = task.cost + (task.cost + n); bytes = t.bytes + (task.cost + (task.cost + n)) } ≡ tally_of task t begins n
  unfolding opens_of tally_of
  tally_opens e = rw e

  pub tally_behind : opens_of task t begins n ≡ false
      → record { blocks = t.blocks; size = t.size + (task.cost + n); bytes = t.bytes + (task.cost + n) } ≡ tally_of task t begins n
  unfolding opens_of tally_of
  tally_behind e = rw e

-- ---- the measure

abbrev pub measure_of : Tally → Measure
measure_of t = record { blocks = t.blocks; size = t.size; bytes = t.bytes }

abbrev pub empty : Tally
empty = record { blocks = 0; size = 0; bytes = 0 }

pub empty_is : {t : Tally} → (t.blocks ≡ 0) × ((t.size ≡ 0) × (t.bytes ≡ 0)) → empty ≡ t
empty_is {t} z =
    sym (ap (λ (b : ℕ). record { blocks = b; size = t.size; bytes = t.bytes }) z.0
    ∙ ap₂ (λ (i j : ℕ). record { blocks = 0; size = i; bytes = j }) z.1.0 z.1.1)

module _ (limit c : ℕ) (t : Tally) (begins : Bool) (n : ℕ) where
  same_step : (b : Bool)
      → measure_of (cond b (record { blocks = t.blocks + 1; size = c + (c + n); bytes = t.bytes + (c + (c + n)) }) (record { blocks = t.blocks; size = t.size + (c + n); bytes = t.bytes + (c + n) }))
      ≡ cond b (opening c c (measure_of t) n) (behind c c (measure_of t) n)
  same_step true = refl
  same_step false = refl

  other_step : measure_of (tally_in tr limit c t begins n) ≡ measure limit c c (measure_of t) n
  unfolding overfills_of measure
  other_step = same_step (eqb t.blocks 0 || ltb limit (t.size + (c + n)))

  marked_step : (b : Bool) → measure_of (tally_in tf limit c t b n) ≡ step_of tf limit c (measure_of t) (b, n)
  marked_step true = refl
  marked_step false = refl

  tally_in_lem : (m : Mode) → measure_of (tally_in m limit c t begins n) ≡ step_of m limit c (measure_of t) (begins, n)
  tally_in_lem tc = other_step
  tally_in_lem tf = marked_step begins
  tally_in_lem tr = other_step
  tally_in_lem trf = other_step

module _ {task : Task} {p : Plan} (is : TaskIs task p) where
  -- a step of the code is the rules'
  pub tally_is : (t : Tally) (begins : Bool) (n : ℕ)
      → measure_of (tally_of task t begins n) ≡ step_of p.mode (block_length p.output) (cost p.format) (measure_of t) (begins, n)
  unfolding tally_of
  tally_is t begins n =
      tally_in_lem task.limit task.cost t begins n (mode_of task.mode)
      ∙ ap (λ (m : Mode). step_of m task.limit task.cost (measure_of t) (begins, n)) is.mode
      ∙ ap₂ (λ (l c : ℕ). step_of p.mode l c (measure_of t) (begins, n)) is.limit is.costs

-- ---- far from wrapping

-- of an accepted plan
pub record Bounded (task : Task) : Type 0 where
  pub cost : task.cost ≤ 4
  pub width : task.width ≤ 32760
  pub limit : task.limit ≤ 32760

pub bounded : {task : Task} {p : Plan} → TaskIs task p → Accepted p → Bounded task
bounded {task} {p} is ok =
    record {
      cost = omega (arith, is.costs, cost_high p.format);
      width = omega (arith, is.width, record_high p.format p.output ok.output);
      limit = omega (arith, is.limit, block_high p.format p.output ok.output);
    }

pub record Grown (c n : ℕ) (t u : Tally) : Type 0 where
  pub blocks : u.blocks ≤ t.blocks + 1
  pub size : t.size ≤ t.bytes → u.size ≤ u.bytes
  pub bytes : u.bytes ≤ t.bytes + (c + (c + n))

pub tally_grown : (task : Task) (t : Tally) (begins : Bool) (n : ℕ) → Grown task.cost n t (tally_of task t begins n)
unfolding tally_of
tally_grown task t begins n = go (opens_in (mode_of task.mode) task.limit task.cost t begins n)
  where
    go : (b : Bool)
        → Grown task.cost n t
        (cond b (record { blocks = t.blocks + 1; size = task.cost + (task.cost + n); bytes = t.bytes + (task.cost + (task.cost + n)) })
        (record { blocks = t.blocks; size = t.size + (task.cost + n); bytes = t.bytes + (task.cost + n) }))
    go true = record { blocks = omega arith; size = λ l. omega arith; bytes = omega arith }
    go false = record { blocks = omega arith; size = λ l. omega arith; bytes = omega arith }

-- ---- one outcome only

pub tally_only_one : (task : Task) (t : Tally) (begins : Bool) (n : ℕ) {x y : Tally} → x ≡ tally_of task t begins n → y ≡ tally_of task t begins n → x ≡ y
tally_only_one task t begins n a b = a ∙ sym b
