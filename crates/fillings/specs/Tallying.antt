-- What is tallied of the output, record after record, by numbers alone.
use Rattle.std.specs.Prelude.{Bool, cond, ◌||◌, ℕ, ◌+◌, ◌≤◌, ltb, eqb}
use Rattle.rules.specs.Grammar.{Mode, tc, tf, tr, trf}
use Rattle.terms.specs.Meaning.{mode_of}
use Rattle.terms.specs.declared.Task.{Task}
use Rattle.fillings.specs.declared.Tally.{Tally}

-- no block is open, or a record whose output has n bytes does not fit behind the others
unfoldable pub overfills_of : ℕ → ℕ → Tally → ℕ → Bool
overfills_of limit cost t n = eqb t.blocks 0 || ltb limit (t.size + (cost + n))

-- a record opens a block: in TF where it is the first of its input block that is taken
abbrev pub opens_in : Mode → ℕ → ℕ → Tally → Bool → ℕ → Bool
opens_in tc limit cost t begins n = overfills_of limit cost t n
opens_in tf limit cost t begins n = begins
opens_in tr limit cost t begins n = overfills_of limit cost t n
opens_in trf limit cost t begins n = overfills_of limit cost t n

abbrev pub tally_in : Mode → ℕ → ℕ → Tally → Bool → ℕ → Tally
tally_in m limit cost t begins n =
    cond (opens_in m limit cost t begins n)
    (record { blocks = t.blocks + 1; size = cost + (cost + n); bytes = t.bytes + (cost + (cost + n)) })
    (record { blocks = t.blocks; size = t.size + (cost + n); bytes = t.bytes + (cost + n) })

unfoldable pub opens_of : Task → Tally → Bool → ℕ → Bool
opens_of task t begins n = opens_in (mode_of task.mode) task.limit task.cost t begins n

-- one record more
unfoldable pub tally_of : Task → Tally → Bool → ℕ → Tally
tally_of task t begins n = tally_in (mode_of task.mode) task.limit task.cost t begins n

-- numbers that are far from wrapping
pub record Small (task : Task) (t : Tally) (n : ℕ) : Type 0 where
  pub cost : task.cost ≤ 4
  pub blocks : t.blocks ≤ 0x10000000000
  pub size : t.size ≤ 0x10000000000
  pub bytes : t.bytes ≤ 0x10000000000
  pub long : n ≤ 0x1000000
