-- Document 02, order 3, in words: what the two records show of a plan that loses, the reason, rows 15 and 16, and what a caller is told.
use Rattle.std.specs.Prelude.{◌≡◌, ◌↔◌, ◌⊎◌, true, List, [], ◌∷◌, ◌++◌, ℕ, ◌+◌, ◌*◌, ◌≤◌, ◌<◌, length, take, drop, get_or}
use Rattle.rules.specs.Places.{All, Some}
use Rattle.rules.specs.Halves.{halves, pack, unpack, Field, reads_from, reads_many, from}
use Rattle.rules.specs.Plan.{Plan, record_length, input_halves}
use Rattle.rules.specs.Output.{out_record, converts}
use Rattle.rules.specs.InWords.{MayBe, Writes, FieldTakes}
use Rattle.rules.specs.Rows.{Asks, PlanRows, ◌⊳◌, No, Done}
use Rattle.rules.specs.ColumnRows.{Lowest, Answered}
use Rattle.rules.specs.Demand.{Keeping, LostPlace}
use Rattle.rules.specs.Lent.{zone_f}
use Rattle.rules.specs.Twins.{TwinsAnswer}

-- ---- the two records

-- s differs from r in the lost half alone, or by a byte 00 behind it
pub data Differ (p : Plan) (lost : ℕ) (r s : List ℕ) : Type 0 where
  -- as long; the lost half has the lowest permitted value above that of r, and every other half is the same
  in_half : lost < input_halves p → length s ≡ length r → ((h : ℕ) → (h ≡ lost → ⊥) → get_or (halves s) h 0 ≡ get_or (halves r) h 0)
      → Lowest (λ v. MayBe p lost v × (get_or (halves r) lost 0 < v)) (get_or (halves s) lost 0) → Differ p lost r s
  in_tail : lost ≡ input_halves p → s ≡ r ++ (0 ∷ []) → Differ p lost r s

-- two records show that a plan loses, and where
pub record Shows (p : Plan) (lost : ℕ) (r s : List ℕ) : Type 0 where
  pub place : LostPlace p lost
  -- the plan converts both, and their output records are equal
  pub r_converts : converts p r ≡ true
  pub s_converts : converts p s ≡ true
  pub outputs : out_record p r ≡ out_record p s
  -- the first has n bytes, each half of its lowest permitted value
  pub long : length r ≡ record_length p.input
  pub lowest : (h : ℕ) → h < input_halves p → Lowest (MayBe p h) (get_or (halves r) h 0)
  pub differ : Differ p lost r s
  -- no shorter data shows the loss
  pub shortest : (t u : List ℕ) → converts p t ≡ true → converts p u ≡ true → out_record p t ≡ out_record p u → (t ≡ u → ⊥) → length r + length s ≤ length t + length u

-- ---- the reason

-- a field reads half h
abbrev pub Reads : Field → ℕ → Type 0
Reads f h = (reads_from f ≤ h) × (h < reads_from f + reads_many f)

-- of some fields f is the last that reads half h, and these come behind it
pub data LastReader (h : ℕ) : List Field → Field → List Field → Type 0 where
  this_field : {f : Field} {fs : List Field} → Reads f h → All (λ g. Reads g h → ⊥) fs → LastReader h (f ∷ fs) f fs
  later_field : {e f : Field} {fs after : List Field} → LastReader h fs f after → LastReader h (e ∷ fs) f after

-- a field is too short for the digit in half h, which is number d from the right, from 0, before the last byte: a pack has room for 2m-2 of them, an unpack
-- for m-1
pub data Drops (f : Field) (h : ℕ) : Type 0 where
  pack_drops : {n m : ℕ} (d : ℕ) → f.kind ≡ pack n m → h + 2 * d + 3 ≡ reads_from f + 2 * n → 2 * m ≤ d + 2 → Drops f h
  unpack_drops : {n m : ℕ} (d : ℕ) → f.kind ≡ unpack n m → h + d + 3 ≡ reads_from f + 2 * n → m ≤ d + 1 → Drops f h

-- why a plan loses the half, or the tail
pub data Reason (p : Plan) (lost : ℕ) : ℕ → Type 0 where
  -- no field reads the half
  never_read : lost < input_halves p → All (λ f. Reads f lost → ⊥) p.fields → Reason p lost 1
  -- the last field that reads it drops it
  dropped : {f : Field} {after : List Field} → lost < input_halves p → LastReader lost p.fields f after → Drops f lost → Reason p lost 2
  -- the last field that reads it writes it, as half g of the output, and a later one covers that
  covered : {f : Field} {after : List Field} → lost < input_halves p → LastReader lost p.fields f after
      → (g : ℕ) → Writes f g → FieldTakes p.zone f g (from lost) → Some (λ e. Writes e g) after → Reason p lost 3
  tail : lost ≡ input_halves p → Reason p lost 4

-- ---- rows 15 and 16

-- how many bytes both records have: 2n, and one more for the tail
abbrev pub Needs : Plan → ℕ → ℕ → Type 0
Needs pl lost k = ((lost < input_halves pl) × (k ≡ 2 * record_length pl.input)) ⊎ ((lost ≡ input_halves pl) × (k ≡ 2 * record_length pl.input + 1))

module _ (zone : ℕ) (deck : List ℕ) (room : ℕ) where
  -- the room is too short for both records; the place is the bytes needed. A plan that keeps has no such records, so 16 comes before 15
  abbrev pub RowRoom : ℕ → Type 0
  RowRoom p = (pl : Plan) × Asks zone deck pl × (lost : ℕ) × LostPlace pl lost × Needs pl lost p × (room < p)

  -- the plan keeps
  abbrev pub Row16 : ℕ → Type 0
  Row16 p = (pl : Plan) × Asks zone deck pl × (p ≡ 0) × Keeping pl

  abbrev pub RowTwins : ℕ → ℕ → Type 0
  RowTwins = PlanRows zone deck (No ⊳ No ⊳ No ⊳ No ⊳ RowRoom ⊳ Row16 ⊳ Done)

-- ---- what a caller is told

-- what was written: of the deck's plan, two records that show where it loses, one behind the other
pub record Told (deck before : List ℕ) (n : TwinsAnswer) (after : List ℕ) : Type 0 where
  pub p : Plan
  pub asks : Asks zone_f deck p
  pub lost : ℕ
  pub r : List ℕ
  pub s : List ℕ
  pub shows : Shows p lost r s
  -- each reason is given exactly if it holds
  pub reason : (k : ℕ) → (n.reason ≡ k) ↔ Reason p lost k
  pub bytes : n.written ≡ length r + length s
  -- they are at the front, and bytes past them stay
  pub front : take n.written after ≡ r ++ s
  pub rest : drop n.written after ≡ drop n.written before

pub record TwinsSays (deck before : List ℕ) (n : TwinsAnswer) (after : List ℕ) : Type 0 where
  pub table : Answered (RowTwins zone_f deck (length before)) deck n.refusal n.place n.column
  pub size : length after ≡ length before
  -- refused, reason and length are 0 and no lent byte changes
  pub refused : (n.refusal ≡ 0 → ⊥) → (n.reason ≡ 0) × (n.written ≡ 0) × (after ≡ before)
  pub finished : n.refusal ≡ 0 → Told deck before n after
