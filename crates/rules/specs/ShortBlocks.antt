-- Document 02, order 2, "Short blocks in the middle": a block is good by itself, wherever it stands. What follows from it, as statements.
use Rattle.std.specs.Prelude.{◌≡◌, ◌↔◌, ◌⊎◌, true, List, [], ◌∷◌, map, ℕ, ◌*◌, ◌≤◌, length}
use Rattle.rules.specs.Base.{joined}
use Rattle.rules.specs.Answer.{fine, refused_at}
use Rattle.rules.specs.Places.{All, Some, Both, Byte}
use Rattle.rules.specs.Grammar.{tc, tf, tr, trf, ff}
use Rattle.rules.specs.Plan.{Plan, plan_of, selects, record_length, block_length}
use Rattle.rules.specs.Blocks.{taken_from}
use Rattle.rules.specs.Output.{block_of, non_empty}
use Rattle.rules.specs.Run.{RunOutput, ran_of, run_of}
use Rattle.rules.specs.InWords.{BlocksOut}
use Rattle.rules.specs.RunRows.{ReelIs, GoodBlock, Gives}

-- ---- blocks are judged one by one

-- "any FF block of a positive multiple of n, at most m"
abbrev pub FixedGood : Plan → List ℕ → Type 0
FixedGood p b = ((k : ℕ) × (1 ≤ k) × (length b ≡ k * record_length p.input)) × (length b ≤ block_length p.input)

-- no run of the deck over this reel is refused with this number
abbrev pub NeverRefused : ℕ → List ℕ → List ℕ → ℕ → Type 0
NeverRefused zone deck s n = (room p c : ℕ) → run_of zone room deck s ≡ refused_at n p c → ⊥

-- each block of cs stands among bs
abbrev pub Among : List (List ℕ) → List (List ℕ) → Type 0
Among bs cs = All (λ c. Some (λ b. b ≡ c) bs) cs

pub record OneByOne (zone : ℕ) (deck : List ℕ) (p : Plan) : Type 0 where
  pub fixed : p.format ≡ ff → (b : List ℕ) → GoodBlock p b ↔ FixedGood p b
  -- a reel has no refusal 12 exactly if each of its blocks is good
  pub each : (s : List ℕ) (bs : List (List ℕ)) → All Byte s → ReelIs s bs → NeverRefused zone deck s 12 ↔ All (GoodBlock p) bs
  -- the reel of some good blocks, in any order, has none
  pub any_order : (s : List ℕ) (bs cs : List (List ℕ)) → All (GoodBlock p) bs → Among bs cs → ReelIs s cs → NeverRefused zone deck s 12
  -- in TC it is written as it is
  pub copied : p.mode ≡ tc → (room : ℕ) (s : List ℕ) (bs : List (List ℕ)) → ReelIs s bs → All (GoodBlock p) bs → length s ≤ room
      → (recs : List (List (List ℕ))) × Gives p s recs × (run_of zone room deck s ≡ fine (record { reel = s; records = length (joined recs); blocks = length bs }))

-- ---- what a finished run wrote, read under B

-- q reads under B what p writes: it has the same format, and A is p's B; where n is not asked, in FU and without fields in FV, the m's are equal
pub record Under (p q : Plan) : Type 0 where
  pub format : q.format ≡ p.format
  pub most : block_length q.input ≡ block_length p.output
  pub same : (q.format ≡ ff) ⊎ (selects q.mode ≡ true) → q.input ≡ p.output

-- x is written, and deck is one whose plan q reads under B: no fault is found with it
pub record RunsAgain (zone : ℕ) (deck : List ℕ) (q : Plan) (x : RunOutput) : Type 0 where
  pub no_11 : NeverRefused zone deck x.reel 11
  pub no_12 : NeverRefused zone deck x.reel 12
  -- TC of it is itself
  pub copied : q.mode ≡ tc → (room : ℕ) → length x.reel ≤ room → run_of zone room deck x.reel ≡ fine x

-- its records are outs, block by block
pub record ReadsBack (zone : ℕ) (deck : List ℕ) (q : Plan) (x : RunOutput) (outs : List (List (List ℕ))) : Type 0 where
  -- the records of its blocks are these, and no others
  pub gives : Gives q x.reel outs
  pub only : (recs : List (List (List ℕ))) → Gives q x.reel recs → recs ≡ outs
  pub again : RunsAgain zone deck q x

-- ---- TF

-- the records taken of each input block that has one left
abbrev pub left_of : Plan → List (List (List ℕ)) → List (List (List ℕ))
left_of p recs = non_empty (taken_from p.first recs)

-- "one block for each input block", short ones included: as many records, and in FF so many times B's n bytes
pub record EachGives (p : Plan) (recs outs : List (List (List ℕ))) : Type 0 where
  pub records : Both (λ rs os. length os ≡ length rs) (left_of p recs) outs
  pub sizes : p.format ≡ ff → Both (λ rs os. length (block_of p.format os) ≡ length rs * record_length p.output) (left_of p recs) outs
  -- from R1 on nothing is left out
  pub all : p.first ≡ 1 → left_of p recs ≡ recs

-- ---- TR and TRF

-- all but the last are of length m
pub data Full {A : Type 0} (m : ℕ) : List (List A) → Type 0 where
  no_more_lem : Full m []
  last : {b : List A} → Full m (b ∷ [])
  more : {b c : List A} {bs : List (List A)} → length b ≡ m → Full m (c ∷ bs) → Full m (b ∷ (c ∷ bs))

-- ---- a finished run

-- x is what a finished run of plan p over s wrote
pub record RunGives (zone : ℕ) (p : Plan) (s : List ℕ) (x : RunOutput) : Type 0 where
  pub recs : List (List (List ℕ))
  pub outs : List (List (List ℕ))
  pub gives : Gives p s recs
  pub blocks : BlocksOut p recs outs
  pub is : x ≡ ran_of p outs
  pub back : (deck : List ℕ) (q : Plan) → plan_of zone deck ≡ fine q → Under p q → ReadsBack zone deck q x outs
  pub TF : p.mode ≡ tf → EachGives p recs outs
  -- in FF TR and TRF write full blocks, whatever the input's are
  pub TR : p.format ≡ ff → (p.mode ≡ tr) ⊎ (p.mode ≡ trf) → Full (block_length p.output) (map (block_of p.format) outs)
