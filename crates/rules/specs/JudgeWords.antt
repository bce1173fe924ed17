-- Document 02, order 7, in words: when a reel from elsewhere is a true conversion, rows 8, 17 and 18, what a caller is told, and what follows from it.
use Rattle.std.specs.Prelude.{◌≡◌, ◌↔◌, ◌⊎◌, List, [], ℕ, ◌+◌, ◌-◌, ◌≤◌, ◌<◌, length, get_or}
use Rattle.rules.specs.Places.{All, Some, Both, Byte}
use Rattle.rules.specs.Answer.{fine}
use Rattle.rules.specs.Grammar.{tc, tf, tr, Parameter, Item}
use Rattle.rules.specs.Halves.{output_size, Field}
use Rattle.rules.specs.Asked.{Utility}
use Rattle.rules.specs.Plan.{Plan, record_length}
use Rattle.rules.specs.InWords.{OutputOf}
use Rattle.rules.specs.Rows.{Says, Complete, Asks, Row8, Row9, Row10, CardRows, ◌⊳◌, No, Done}
use Rattle.rules.specs.ColumnRows.{Answered}
use Rattle.rules.specs.Run.{RunOutput, run_of}
use Rattle.rules.specs.RunRows.{ReelIs, BadIn, Row11, Row12, Row13, Row14}
use Rattle.rules.specs.Taken.{Records, Takes}
use Rattle.rules.specs.Lent.{zone_f}
use Rattle.rules.specs.Judge.{under_b, judge_of, JudgeAnswer}

-- ---- the positions that are written

-- a field writes position i, from 1
abbrev pub WritesAt : ℕ → Field → Type 0
WritesAt i f = (f.t ≤ i) × (i < f.t + output_size f.kind)

pub data Written (p : Plan) (i : ℕ) : Type 0 where
  -- in TR at all
  carried : p.mode ≡ tr → Written p i
  by_field : Some (WritesAt i) p.fields → Written p i
  by_tail : record_length p.output < i → Written p i

-- ---- two records

-- the byte at a position, from 1
abbrev pub byte_at : List ℕ → ℕ → ℕ
byte_at r i = get_or r (i - 1) 0

-- a record of theirs agrees with an output record of ours: they have the same length, and the same byte at every position that is written
pub record Agree (p : Plan) (ours theirs : List ℕ) : Type 0 where
  pub lengths : length theirs ≡ length ours
  pub bytes : (i : ℕ) → 1 ≤ i → i ≤ length ours → Written p i → byte_at theirs i ≡ byte_at ours i

-- ---- two reels

-- these are our output records, from R on, and their records, whose blocks obey B
pub record Compares (deck ours theirs : List ℕ) (p : Plan) (outs others : List (List ℕ)) : Type 0 where
  pub asks : Asks zone_f deck p
  pub taken : List (List ℕ)
  pub takes : Takes p ours taken
  pub outputs : Both (OutputOf p) taken outs
  pub records : Records (under_b p) theirs others

-- record n, from 1 in the output, is there, on one side or on both
abbrev pub Stands : List (List ℕ) → List (List ℕ) → ℕ → Type 0
Stands outs others n = (1 ≤ n) × ((n ≤ length outs) ⊎ (n ≤ length others))

-- it has its partner, and they agree
pub record AgreeAt (p : Plan) (outs others : List (List ℕ)) (n : ℕ) : Type 0 where
  pub ours : n ≤ length outs
  pub theirs : n ≤ length others
  pub agree : Agree p (get_or outs (n - 1) []) (get_or others (n - 1) [])

-- theirs is a true conversion of ours
pub record True (deck ours theirs : List ℕ) : Type 0 where
  pub p : Plan
  pub outs : List (List ℕ)
  pub others : List (List ℕ)
  pub compares : Compares deck ours theirs p outs others
  pub all : (n : ℕ) → Stands outs others n → AgreeAt p outs others n

-- record n is the first that disagrees or lacks a partner: all before it agree, and it does not
pub record FirstApart (deck ours theirs : List ℕ) (n : ℕ) : Type 0 where
  pub p : Plan
  pub outs : List (List ℕ)
  pub others : List (List ℕ)
  pub compares : Compares deck ours theirs p outs others
  pub there : Stands outs others n
  pub apart : AgreeAt p outs others n → ⊥
  pub before : (m : ℕ) → 1 ≤ m → m < n → AgreeAt p outs others m

-- ---- the refusals

-- TC or TF: place 1
abbrev pub RowMode : List ℕ → ℕ → Type 0
RowMode deck p =
    (us : List Parameter) × (cards : List (List Item)) × Says deck us cards × (u : Utility) × Complete us u × (p ≡ 1) × ((u.mode ≡ tc) ⊎ (u.mode ≡ tf))

module _ (zone : ℕ) (deck ours theirs : List ℕ) where
  -- a bad foreign reel: place 0
  abbrev pub Row17 : ℕ → Type 0
  Row17 p = (pl : Plan) × Asks zone deck pl × (p ≡ 0) × ((bs : List (List ℕ)) → ReelIs theirs bs → ⊥)

  -- a bad foreign block: its place
  abbrev pub Row18 : ℕ → Type 0
  Row18 p = (pl : Plan) × Asks zone deck pl × (bs : List (List ℕ)) × ReelIs theirs bs × BadIn (under_b pl) bs p

  -- 1 to 14 as for a run, with a further sentence of 8; no 15
  abbrev pub RowJudge : ℕ → ℕ → Type 0
  RowJudge =
      CardRows deck
      ((λ p. Row8 deck p ⊎ RowMode deck p) ⊳ Row9 deck ⊳ Row10 zone deck ⊳ Row11 zone deck ours 0 ⊳ Row12 zone deck ours 0 ⊳ Row13 zone deck ours 0 ⊳ Row14 zone deck ours 0
      ⊳ No ⊳ No ⊳ Row17 ⊳ Row18 ⊳ Done)

-- ---- what a caller is told

pub record JudgeSays (deck ours theirs : List ℕ) (n : JudgeAnswer) : Type 0 where
  pub table : Answered (RowJudge zone_f deck ours theirs) deck n.refusal n.place n.column
  -- 1 or 0; refused, both are 0
  pub mark : (n.yes ≡ 1) ⊎ (n.yes ≡ 0)
  pub refused : (n.refusal ≡ 0 → ⊥) → (n.yes ≡ 0) × (n.number ≡ 0)
  -- yes, with 0, exactly if it is a true conversion
  pub exactly : n.refusal ≡ 0 → (n.yes ≡ 1) ↔ True deck ours theirs
  pub with_0 : n.yes ≡ 1 → n.number ≡ 0
  -- otherwise the number of the first record that disagrees or lacks a partner
  pub no : n.refusal ≡ 0 → n.yes ≡ 0 → FirstApart deck ours theirs n.number

-- ---- what follows

-- of a deck of TR or TRF, whose plan is p
pub record Judging (zone : ℕ) (deck : List ℕ) (p : Plan) : Type 0 where
  -- whatever our converter writes is judged true
  pub own : (room : ℕ) (s : List ℕ) (x : RunOutput) → All Byte s → run_of zone room deck s ≡ fine x → judge_of zone deck s x.reel ≡ fine 0
  -- how the foreign records are cut into blocks does not matter
  pub cut_anew : (ours theirs others : List ℕ) (rs : List (List ℕ)) → Records (under_b p) theirs rs → Records (under_b p) others rs
      → judge_of zone deck ours theirs ≡ judge_of zone deck ours others
  -- where every position is written, records that agree are the same
  pub just_ours : ((i : ℕ) → 1 ≤ i → i ≤ record_length p.output → Written p i) → (outs others : List (List ℕ)) → ((n : ℕ) → Stands outs others n → AgreeAt p outs others n)
      → others ≡ outs
