-- The segments of a block as they are counted: the records that end, and how long the open one is.
use Rattle.std.specs.Prelude.{◌≡◌, Bool, cond, ◌&&◌, List, ℕ, zero, suc, ◌+◌, ◌%◌, ◌≤◌, ltb, leb, eqb, length, replicate, Option as Maybe, Some, None}
use Rattle.std.proofs.Math.Option.{Option, none, some}
use Rattle.rules.specs.Spanned.{segments_in, is_closed, sofar, same, State, join_in}
use Rattle.rules.proofs.Spanned.SpannedSteps.{join_at}
use Rattle.turns.specs.declared.Counts.{Counts}

-- no record is open, or one with so many bytes: which they are does not matter
abbrev pub held_of : ℕ → Option (List ℕ)
held_of zero = none
held_of (suc n) = some (replicate (suc n) 0)

-- it begins a record exactly where none is open, and its record has at most 32,752 bytes
unfoldable pub in_turn_of : ℕ → ℕ → ℕ → Bool
in_turn_of held code size = same (ltb code 2) (eqb held 0) && leb (held + size) 32752

-- codes 0 and 2 end a record
unfoldable pub counts_taken : Counts → ℕ → ℕ → Counts
counts_taken counts code size =
    cond (eqb (code % 2) 0)
    (record { records = counts.records + 1; held = 0 })
    (record { records = counts.records; held = counts.held + size })

-- what a block is read as: the counts behind it; none, if it breaks its rule
abbrev pub TurnsRead : Type 0
TurnsRead = Maybe Counts

-- behind so many records: how many recordsEnded, whether none is open then, and how long the open one is
abbrev pub turned : ℕ → Option State → Option (ℕ × Bool × ℕ)
turned k none = none
turned k (some x) = some (k + length x.0, is_closed x.1, length (sofar x.1))

abbrev pub told_by : TurnsRead → Option (ℕ × Bool × ℕ)
told_by (Some counts) = some (counts.records, eqb counts.held 0, counts.held)
told_by None = none

abbrev pub records_ended : TurnsRead → ℕ
records_ended (Some counts) = counts.records
records_ended None = 0

abbrev pub held_in : TurnsRead → ℕ
held_in (Some counts) = counts.held
held_in None = 0

-- the counts of the rules' records; no block ends more records than it has bytes, and none that is open is too long
pub record TurnsCounted (before : Counts) (size : ℕ) (o : Option State) (r : TurnsRead) : Type 0 where
  pub is : told_by r ≡ turned before.records o
  pub few : records_ended r ≤ before.records + size
  pub low : held_in r ≤ 32752

-- what a block is read as, by its rule
abbrev pub Ruled : ℕ → Counts → List ℕ → TurnsRead → Type 0
Ruled g before b r = TurnsCounted before (length b) (join_in (held_of before.held) (segments_in g b)) r

-- and by its segments from a place on
abbrev pub Walked : Counts → List ℕ → ℕ → TurnsRead → Type 0
Walked before b from r = TurnsCounted before (length b) (join_at (held_of before.held) b from) r
