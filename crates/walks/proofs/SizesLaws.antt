-- TF's output blocks by marks: refusal 14's test of each record goes along the marked lengths, and each mark opens a block. By going along the blocks and
-- their records.
use mathlib.Core.Path.{◌≡◌, refl, ap}
use mathlib.Core.Bool.{Bool, true, false}
use mathlib.Core.List.{List, [], ◌∷◌, ◌++◌}
use Prim.Native.Nat.{ℕ, ◌+◌}
use lib.Dec.{leb}
use Rattle.rules.proofs.Output.FillSteps.{Measure, opening, behind}
use Rattle.rules.proofs.Output.FitSteps.{fits_after, fits_each}
use Rattle.walks.specs.Marks.{marked, marked_all}

-- ---- the measure

module _ (c d : ℕ) where
  -- one more record of n bytes: a mark opens a block, and the others go behind
  abbrev pub measure_marked : Measure → Bool × ℕ → Measure
  measure_marked m (true, n) = opening c d m n
  measure_marked m (false, n) = behind c d m n

-- ---- refusal 14

module _ (limit c d : ℕ) where
  -- does each fit behind what has size t in its block: nothing but the block's own cost, where a mark opens one
  abbrev pub fits_marked : ℕ → List (Bool × ℕ) → List Bool
  fits_marked t [] = []
  fits_marked t ((true, n) ∷ more) = leb (c + (d + n)) limit ∷ fits_marked (c + (d + n)) more
  fits_marked t ((false, n) ∷ more) = leb (t + (d + n)) limit ∷ fits_marked (t + (d + n)) more

  after_marked : (t : ℕ) (ns : List ℕ) (bs : List (List ℕ)) → ((u : ℕ) → fits_each limit c d bs ≡ fits_marked u (marked_all bs))
      → fits_after limit d t ns ++ fits_each limit c d bs ≡ fits_marked t (marked false ns ++ marked_all bs)
  after_marked t [] bs ih = ih t
  after_marked t (n ∷ ns) bs ih = ap (leb (t + (d + n)) limit ∷◌) (after_marked (t + (d + n)) ns bs ih)

  pub fits_marked_lem : (bs : List (List ℕ)) (t : ℕ) → fits_each limit c d bs ≡ fits_marked t (marked_all bs)
  fits_marked_lem [] t = refl
  fits_marked_lem ([] ∷ bs) t = fits_marked_lem bs t
  fits_marked_lem ((n ∷ ns) ∷ bs) t = ap (leb (c + (d + n)) limit ∷◌) (after_marked (c + (d + n)) ns bs (λ u. fits_marked_lem bs u))
