-- Document 02, order 6, "Spanned records, FS": what follows from the rules for every deck in FS, as statements.
use Rattle.std.specs.Prelude.{◌≡◌, ◌↔◌, true, List, [], ◌∷◌, map, ℕ, ◌-◌, ◌≤◌, length, drop}
use Rattle.rules.specs.Places.{All, Byte}
use Rattle.rules.specs.Answer.{fine, refused_at}
use Rattle.rules.specs.Grammar.{tc, tr, fsp}
use Rattle.rules.specs.Asked.{Asked, asked_of}
use Rattle.rules.specs.Plan.{Plan, plan_of, is_tc, block_length}
use Rattle.rules.specs.Output.{converts}
use Rattle.rules.specs.Spanned.{span_of, segmented, Spans}
use Rattle.rules.specs.Run.{RunOutput, housed, spanned_out, spanned_ran, run_of}
use Rattle.rules.specs.Reel.{blocks_of}
use Rattle.rules.specs.RunRows.{GivesSpanned}
use Rattle.rules.specs.Demand.{Keeping}
use Rattle.rules.specs.ShortBlocks.{NeverRefused, Under, RunsAgain}

-- x is what a finished run of plan p over s wrote
pub record SpannedGives (zone : ℕ) (p : Plan) (s : List ℕ) (x : RunOutput) : Type 0 where
  pub records : List (List ℕ)
  pub gives : GivesSpanned (block_length p.input) s records
  -- records are counted, not segments
  pub counted : x.records ≡ length (drop (p.first - 1) records)
  -- TC leaves the blocks
  pub TC : p.mode ≡ tc → x.reel ≡ s
  -- TR: "reading back what was written gives the same records", under B whatever it is, and no others
  pub TR : p.mode ≡ tr → GivesSpanned (block_length p.output) x.reel (drop (p.first - 1) records)
  pub only : p.mode ≡ tr → (rs : List (List ℕ)) → GivesSpanned (block_length p.output) x.reel rs → rs ≡ drop (p.first - 1) records
  -- a deck that reads under B finds no fault with it, and TC of it is itself; with TR from R1 on into the same B it is written again
  pub back : (deck : List ℕ) (q : Plan) → plan_of zone deck ≡ fine q → Under p q → RunsAgain zone deck q x
  pub refilled : p.mode ≡ tr → (deck : List ℕ) (q : Plan) → plan_of zone deck ≡ fine q → Under p q → q.mode ≡ tr → q.first ≡ 1
      → block_length q.output ≡ block_length p.output → (room : ℕ) → length x.reel ≤ room → run_of zone room deck x.reel ≡ fine x

-- "a plan converting each record of 1 to 32,752 bytes": of a deck in FS, whose plan is p
pub record SpannedDeck (zone : ℕ) (deck : List ℕ) (p : Plan) : Type 0 where
  pub converting : (r : List ℕ) → (converts p r ≡ true) ↔ (All Byte r × (1 ≤ length r) × (length r ≤ 32752))
  -- it is converted exactly if some blocks of A hold it and nothing else, whether or not a reel has room for them
  pub held : (r : List ℕ) → All Byte r → (converts p r ≡ true) ↔ ((bs : List (List ℕ)) × Spans (block_length p.input) bs (r ∷ []))
  -- and then the blocks of B that are filled with it hold it and nothing else
  pub filled : (r : List ℕ) → converts p r ≡ true → Spans (block_length p.output) (map span_of (segmented (block_length p.output) (r ∷ []))) (r ∷ [])
  -- over a reel of blocks that hold records, a run takes those from R on, and nothing but 15 is refused
  pub runs : (room : ℕ) (s : List ℕ) (rs : List (List ℕ)) → GivesSpanned (block_length p.input) s rs
      → run_of zone room deck s
      ≡ housed room (spanned_ran (spanned_out (is_tc p.mode) (block_length p.output) (blocks_of s) (drop (p.first - 1) rs)) (drop (p.first - 1) rs))
  pub keeping : Keeping p
  pub no_13 : (s : List ℕ) → NeverRefused zone deck s 13
  pub no_14 : (s : List ℕ) → NeverRefused zone deck s 14
  -- the place of 15
  pub most : (room : ℕ) (s : List ℕ) → All Byte s → (q c : ℕ) → run_of zone room deck s ≡ refused_at 15 q c → q ≤ 851560
  pub finished : (room : ℕ) (s : List ℕ) → All Byte s → (x : RunOutput) → run_of zone room deck s ≡ fine x → SpannedGives zone p s x

-- nor is a deck that asks for FS refused with 10
abbrev pub Never10 : ℕ → List ℕ → Type 0
Never10 zone deck = (a : Asked) → asked_of deck ≡ fine a → a.utility.format ≡ fsp → (p c : ℕ) → plan_of zone deck ≡ refused_at 10 p c → ⊥
