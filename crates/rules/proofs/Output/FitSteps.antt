-- TF's output blocks, and refusal 14, by a running size: step laws for code that builds no lists. They hold because a record takes of a block
-- its data and its word, whatever stands before it.
use mathlib.Core.Path.{◌≡◌, refl, ap, ap₂, sym, ◌∙◌}
use mathlib.Core.Bool.{Bool, true, false}
use mathlib.Core.List.{List, [], ◌∷◌, ◌++◌, map, append_assoc, map-map}
use Prim.Native.Nat.{ℕ, ◌+◌, ◌≤◌}
use native.Mathlib.Numerals.{add-one}
use native.Mathlib.Omega.{arith}
use lib.Dec.{leb}
use lib.ListN.{length, drop, drop_of_length-le}
use Rattle.rules.specs.Base.{joined}
use Rattle.rules.specs.Answer.{refused, each}
use Rattle.rules.specs.Plan.{Plan, block_length}
use Rattle.rules.specs.Output.{length_word, framed, cost, total, fits, fits_b, non_empty}
use Rattle.rules.specs.Run.{fit_behind, fit_together, fit_alone}
use Rattle.rules.proofs.Base.Lists.{map_same}
use Rattle.rules.proofs.Output.FillLaws.{total_snoc}

-- ---- TF: a block for each input block, none where no record is left

pub non_empty_records : (bs : List (List (List ℕ))) → joined (non_empty bs) ≡ joined bs
non_empty_records [] = refl
non_empty_records ([] ∷ bs) = non_empty_records bs
non_empty_records ((r ∷ b) ∷ bs) = ap ((r ∷ b) ++◌) (non_empty_records bs)

-- the records of a block, with their words, are written one behind the other
pub framed_append : (xs ys : List (List ℕ)) → framed (xs ++ ys) ≡ framed xs ++ framed ys
framed_append [] ys = refl
framed_append (r ∷ xs) ys = ap (length_word (length r + 4) ++ r ++◌) (framed_append xs ys) ∙ sym (append_assoc (length_word (length r + 4) ++ r) (framed xs) (framed ys))

-- ---- refusal 14: does each record fit

module _ (limit d : ℕ) where
  -- does each of further records, of these lengths, fit behind what has size t in its block
  abbrev pub fits_after : ℕ → List ℕ → List Bool
  fits_after t [] = []
  fits_after t (n ∷ ns) = leb (t + (d + n)) limit ∷ fits_after (t + (d + n)) ns

module _ (limit c d : ℕ) where
  -- does each record fit behind those before it in its block
  abbrev pub fits_each : List (List ℕ) → List Bool
  fits_each [] = []
  fits_each (b ∷ bs) = fits_after limit d c b ++ fits_each bs

  -- does a record of n bytes fit by itself
  abbrev pub fits_alone : ℕ → Bool
  fits_alone n = leb (c + (d + n)) limit

module _ (p : Plan) where
  -- the rules' tests are these
  pub behind_fits : (before rs : List (List ℕ))
      → fit_behind p before rs
      ≡ fits_after (block_length p.output) (cost p.format) (total (cost p.format) (cost p.format) before) (map length rs)
  unfolding fits_b fits
  behind_fits before [] = refl
  behind_fits before (r ∷ rs) =
      let m = block_length p.output in
      let c = cost p.format in
      let e = total_snoc m c c before r in
      ap₂ ◌∷◌ (ap (λ (n : ℕ). leb n m) e) (behind_fits (before ++ (r ∷ [])) rs ∙ ap (λ (n : ℕ). fits_after m c n (map length rs)) e)

  pub together_fits : (bs : List (List (List ℕ))) → fit_together p bs ≡ fits_each (block_length p.output) (cost p.format) (cost p.format) (map (map length) bs)
  together_fits [] = refl
  together_fits (b ∷ bs) = ap₂ ◌++◌ (behind_fits [] b) (together_fits bs)

  pub alone_fits : (bs : List (List (List ℕ)))
      → fit_alone p bs ≡ map (fits_alone (block_length p.output) (cost p.format) (cost p.format)) (map length (joined bs))
  unfolding fits_b fits
  alone_fits bs = map_same alone (joined bs) ∙ sym (map-map (fits_alone (block_length p.output) (cost p.format) (cost p.format)) length (joined bs))
    where
      alone : (r : List ℕ) → fits_b p (r ∷ []) ≡ fits_alone (block_length p.output) (cost p.format) (cost p.format) (length r)
      alone r = ap (λ (n : ℕ). leb n (block_length p.output)) (let z : cost p.format + length r + cost p.format ≡ cost p.format + (cost p.format + length r) = omega arith in z)

-- ---- the first that does not fit, from place j on

module _ {A : Type 0} (number : ℕ) (q : A → Bool) where
  pub each_pass : (i : ℕ) (x : A) (xs : List A) → q x ≡ true → each number q i (x ∷ xs) ≡ each number q (i + 1) xs
  unfolding each
  each_pass i x xs e = rw (e, add-one i)

  pub each_stop : (i : ℕ) (x : A) (xs : List A) → q x ≡ false → each number q i (x ∷ xs) ≡ refused number i
  unfolding each
  each_stop i x xs e = rw e

module _ (number limit d : ℕ) (more : List Bool) (ns : List ℕ) (i j t : ℕ) where
  pub after_end : length ns ≤ j → each number (λ holds. holds) i (fits_after limit d t (drop j ns) ++ more) ≡ each number (λ holds. holds) i more
  after_end l = rw (drop_of_length-le ns l)
