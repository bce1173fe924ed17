-- A block is its word and its records, each with its word; a record more goes behind the others. By the format.
use mathlib.Core.Path.{◌≡◌, refl, ap, ◌∙◌}
use mathlib.Core.List.{List, [], ◌∷◌, ◌++◌, append-nil}
use Prim.Native.Nat.{ℕ, ◌+◌}
use native.Mathlib.Omega.{arith}
use lib.ListN.{length, length-append}
use Rattle.rules.specs.Base.{joined}
use Rattle.rules.specs.Grammar.{Format, ff, fv, fu, fsp}
use Rattle.rules.specs.Output.{length_word, framed, block_of, cost, total}
use Rattle.rules.proofs.Base.Lists.{joined_last}
use Rattle.rules.proofs.Blocks.BlockWords.{length_word_four}
use Rattle.rules.proofs.Blocks.BlockLaws.{length_block}
use Rattle.rules.proofs.Output.FitSteps.{framed_append}
use Rattle.fillings.proofs.LaidLaws.{Framing}
use Rattle.writers.specs.Writing.{size_word, record_piece}

-- ---- a block is its word and its records, each with its word

abbrev pub body_of : Format → List (List ℕ) → List ℕ
body_of ff rs = joined rs
body_of fv rs = framed rs
body_of fu rs = joined rs
body_of fsp rs = joined rs

pub body_none : (f : Format) → body_of f [] ≡ []
body_none ff = refl
body_none fv = refl
body_none fu = refl
body_none fsp = refl

pub length_size_word : (f : Format) (n : ℕ) → length (size_word f n) ≡ cost f
length_size_word ff n = refl
length_size_word fv n = length_word_four n
length_size_word fu n = refl
length_size_word fsp n = refl

pub length_piece : (f : Format) (r : List ℕ) → length (record_piece f r) ≡ cost f + length r
length_piece f r = omega (arith, length-append (size_word f (length r + 4)) r, length_size_word f (length r + 4))

pub block_parts : (f : Format) (rs : List (List ℕ)) → block_of f rs ≡ size_word f (total (cost f) (cost f) rs) ++ body_of f rs
block_parts ff rs = refl
block_parts fv rs =
    ap (λ (n : ℕ). length_word n ++ framed rs)
    (let z : length (framed rs) + 4 ≡ total 4 4 rs
    = omega (arith, length_block fv rs, length-append (length_word (length (framed rs) + 4)) (framed rs), length_word_four (length (framed rs) + 4)) in z)
block_parts fu rs = refl
block_parts fsp rs = refl

pub body_snoc : (f : Format) (rs : List (List ℕ)) (r : List ℕ) → body_of f (rs ++ (r ∷ [])) ≡ body_of f rs ++ record_piece f r
body_snoc ff rs r = joined_last rs r
body_snoc fv rs r = framed_append rs (r ∷ []) ∙ ap (framed rs ++◌) (append-nil (length_word (length r + 4) ++ r))
body_snoc fu rs r = joined_last rs r
body_snoc fsp rs r = joined_last rs r

-- the sizes of a block, by its records and by its bytes
pub total_body : (f : Format) (rs : List (List ℕ)) → total (cost f) (cost f) rs ≡ cost f + length (body_of f rs)
total_body f rs =
    let w = size_word f (total (cost f) (cost f) rs) in
    omega (arith, length_block f rs, ap length (block_parts f rs), length-append w (body_of f rs), length_size_word f (total (cost f) (cost f) rs))

-- so a block is its word and its pieces
abbrev pub framing : Format → Framing (List ℕ)
framing f =
    record {
      cost = cost f;
      size_word = size_word f;
      piece = record_piece f;
      body = body_of f;
      block = block_of f;
      long = length_size_word f;
      nothing = body_none f;
      behind = body_snoc f;
      is = λ rs. block_parts f rs ∙ ap (λ (n : ℕ). size_word f n ++ body_of f rs) (total_body f rs);
    }
