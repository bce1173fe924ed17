-- What a reel in FS is read as.
use Rattle.std.specs.Prelude.{◌≡◌, List, ℕ, ◌≤◌, length}
use Rattle.std.proofs.Math.Option.{none}
use Rattle.rules.specs.Base.{joined}
use Rattle.rules.specs.Answer.{Answer, fine, ◌>>=◌, ◌>>◌, unless}
use Rattle.rules.specs.Reel.{is_reel, blocks_of}
use Rattle.rules.specs.Spanned.{spanned_from}
use Rattle.reels.specs.Records.{ReelRead, answer_of, record_count}

-- what the rules answer: not a reel, a block that breaks its rule, or its blocks and records counted
unfoldable pub spanned_read : ℕ → List ℕ → Answer (ℕ × ℕ)
spanned_read g s = do
  unless (is_reel s) 11 0
  recs ← spanned_from g 1 none (blocks_of s)
  fine (length (blocks_of s), length (joined recs))

-- the answer is that of the rules; no reel has more records than bytes
pub record SpannedAs (g : ℕ) (s : List ℕ) (r : ReelRead) : Type 0 where
  pub is : answer_of r ≡ spanned_read g s
  pub most : record_count r ≤ length s
