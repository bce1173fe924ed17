-- What a block, and a reel, is read as.
use Rattle.std.specs.Prelude.{◌≡◌, cond, List, ℕ, ◌+◌, ◌≤◌, leb, eqb, length, Option as Maybe, Some, None, Result, Ok, Err}
use Rattle.std.proofs.Math.Option.{Option, none, some}
use Rattle.rules.specs.Base.{every, joined}
use Rattle.rules.specs.Answer.{Answer, fine, refused, ◌>>=◌, ◌>>◌, unless}
use Rattle.rules.specs.Reel.{is_reel, blocks_of}
use Rattle.rules.specs.Plan.{Plan}
use Rattle.rules.specs.Blocks.{Piece, least_data, records_in, records_from}
use Rattle.rules.specs.ReelPlaces.{pieces_at}
use Rattle.terms.specs.Meaning.{format_of}
use Rattle.pieces.specs.Form.{plan_by}
use Rattle.pieces.specs.declared.Form.{Form}
use Rattle.reels.specs.declared.Contents.{Contents}
use Rattle.reels.specs.declared.ReelError.{ReelError}
use Rattle.reels.specs.declared.ReelError.TheVariants.{NotReel, BadBlock}

-- ---- a block

-- what a block is read as: so many records; none, if it breaks its rule
abbrev pub BlockRead : Type 0
BlockRead = Maybe ℕ

-- of some pieces, before which so many were counted: how many there are, if each has the least data and there is one
abbrev pub count_from : ℕ → ℕ → Option (List Piece) → BlockRead
count_from least k none = None
count_from least k (some xs) =
    cond (every (λ x. leb least x.size) xs) (cond (eqb (k + length xs) 0) None (Some (k + length xs))) None

abbrev pub count_of : BlockRead → ℕ
count_of (Some k) = k
count_of None = 0

pub record PiecesCounted (form : Form) (b : List ℕ) (from : ℕ) (r : BlockRead) : Type 0 where
  pub is : r ≡ count_from (least_data (plan_by form)) 0 (pieces_at (format_of form.format) form.n b from)
  pub most : count_of r ≤ length b

-- the number of records of the rules
abbrev pub block_read : Option (List (List ℕ)) → BlockRead
block_read none = None
block_read (some rs) = Some (length rs)

-- the answer is that of the rules; no block has more records than bytes
pub record BlockSays (form : Form) (b : List ℕ) (r : BlockRead) : Type 0 where
  pub is : r ≡ block_read (records_in (plan_by form) b)
  pub most : count_of r ≤ length b

-- ---- a reel

-- what a reel is read as: so many blocks and records; no reel; or the number, from 1, of the first block that breaks its rule
abbrev pub ReelRead : Type 0
ReelRead = Result Contents ReelError

-- refusals 11 and 12, or how many blocks and records there are
abbrev pub answer_of : ReelRead → Answer (ℕ × ℕ)
answer_of (Ok x) = fine (x.blocks, x.records)
answer_of (Err NotReel) = refused 11 0
answer_of (Err (BadBlock block)) = refused 12 block

-- what the rules answer of a reel: not a reel, a block that breaks its rule, or its blocks and records counted
unfoldable pub reel_read : Plan → List ℕ → Answer (ℕ × ℕ)
reel_read p s = do
  unless (is_reel s) 11 0
  bs ← records_from p 1 (blocks_of s)
  fine (length bs, length (joined bs))

abbrev pub record_count : ReelRead → ℕ
record_count (Ok x) = x.records
record_count (Err e) = 0

-- the answer is that of the rules; no reel has more records than bytes
pub record ReadAs (form : Form) (s : List ℕ) (r : ReelRead) : Type 0 where
  pub is : answer_of r ≡ reel_read (plan_by form) s
  pub most : record_count r ≤ length s
