-- Document 01, after the table of refusals, in words: what a caller is told of a plan, of a plan with a lent table and of a run, and what the lent memory holds
-- afterwards. It says nothing of how the answers are made.
use Rattle.std.specs.Prelude.{◌≡◌, List, ℕ, length, take, drop}
use Rattle.rules.specs.Base.{joined}
use Rattle.rules.specs.Places.{Both}
use Rattle.rules.specs.Halves.{Kind, copy, pack, unpack}
use Rattle.rules.specs.Grammar.{Parameter, Part, in_data, in_key, CardField, Item}
use Rattle.rules.specs.Reel.{reel_of}
use Rattle.rules.specs.Asked.{fields_of}
use Rattle.rules.specs.Plan.{Plan, PlanAnswer}
use Rattle.rules.specs.Rows.{Says, Asks}
use Rattle.rules.specs.ColumnRows.{Answered}
use Rattle.rules.specs.RunRows.{RunWrites, RowRun, RowInto}
use Rattle.rules.specs.Demand.{Marked}
use Rattle.rules.specs.Lent.{zone_f, Entry, RunAnswer}

-- ---- a plan

-- by the rows of a table: refusal, place, column, keeping, lost place and field count
pub record PlanSays (rows : ℕ → ℕ → Type 0) (deck : List ℕ) (n : PlanAnswer) : Type 0 where
  pub table : Answered rows deck n.refusal n.place n.column
  -- the last three are 0 if refused
  pub refused : (n.refusal ≡ 0 → ⊥) → (n.keeping ≡ 0) × (n.lost ≡ 0) × (n.fields ≡ 0)
  -- else there is the plan that the deck asks for; keeping and lost place say of it what demand 3 asks, and its fields are counted
  pub made : n.refusal ≡ 0 → (p : Plan) × Asks zone_f deck p × Marked p n.keeping n.lost × (n.fields ≡ length p.fields)

-- ---- a lent table

-- an entry's kind, input size and output size: copy, pack or unpack; for a copy both sizes are s
abbrev pub KindIs : Kind → ℕ → ℕ → ℕ → Type 0
KindIs (copy s) kind input output = (kind ≡ 0) × (input ≡ s) × (output ≡ s)
KindIs (pack n m) kind input output = (kind ≡ 1) × (input ≡ n) × (output ≡ m)
KindIs (unpack n m) kind input output = (kind ≡ 2) × (input ≡ n) × (output ≡ m)

-- its part: data or key
abbrev pub PartIs : Part → ℕ → Type 0
PartIs in_data part = part ≡ 0
PartIs in_key part = part ≡ 1

-- an entry holds a field as it stands on its card
pub record EntryIs (f : CardField) (e : Entry) : Type 0 where
  pub kind : KindIs f.field.kind e.kind e.input e.output
  pub part : PartIs f.part e.part
  pub r : e.r ≡ f.field.r
  pub t : e.t ≡ f.field.t

pub record TableSays (deck : List ℕ) (before : List Entry) (n : PlanAnswer) (after : List Entry) : Type 0 where
  pub plan : PlanSays (RowInto zone_f deck (length before)) deck n
  pub size : length after ≡ length before
  -- a refusal changes no entry
  pub refused : (n.refusal ≡ 0 → ⊥) → after ≡ before
  -- each entry up to the field count holds its field, others stay
  pub stored : n.refusal ≡ 0 → (us : List Parameter) (cards : List (List Item)) → Says deck us cards → Both EntryIs (fields_of (joined cards)) (take n.fields after)
  pub others : n.refusal ≡ 0 → drop n.fields after ≡ drop n.fields before

-- ---- a run

-- what a finished run wrote: the reel of the output blocks, of the deck's plan and the records of the reel
pub record Wrote (deck reel before : List ℕ) (n : RunAnswer) (after : List ℕ) : Type 0 where
  pub p : Plan
  pub asks : Asks zone_f deck p
  pub blocks : List (List ℕ)
  pub records : ℕ
  pub writes : RunWrites p reel blocks records
  pub place : n.place ≡ 0
  pub column : n.column ≡ 0
  -- the reel's length, records and blocks
  pub length_is : n.reel_length ≡ length (reel_of blocks)
  pub records_are : n.records ≡ records
  pub blocks_are : n.blocks ≡ length blocks
  -- the reel is at the front, and bytes past the length stay
  pub front : take n.reel_length after ≡ reel_of blocks
  pub rest : drop n.reel_length after ≡ drop n.reel_length before

pub record RunSays (deck reel before : List ℕ) (n : RunAnswer) (after : List ℕ) : Type 0 where
  pub table : Answered (RowRun zone_f deck reel (length before)) deck n.refusal n.place n.column
  pub size : length after ≡ length before
  -- refused, the three are 0 and no lent byte changes
  pub refused : (n.refusal ≡ 0 → ⊥) → (n.reel_length ≡ 0) × (n.records ≡ 0) × (n.blocks ≡ 0) × (after ≡ before)
  pub finished : n.refusal ≡ 0 → Wrote deck reel before n after
