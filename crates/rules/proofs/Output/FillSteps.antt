-- Step laws for code that fills blocks by a running size: a record goes into the open block exactly where the block's size and its own stay in the limit.
use mathlib.Core.Path.{◌≡◌, refl}
use mathlib.Core.Bool.{Bool, true, false, cond, ◌||◌}
use mathlib.Core.List.{List, [], ◌∷◌, ◌++◌}
use Prim.Native.Nat.{ℕ, ◌+◌, ◌≤◌, ◌<◌}
use native.Mathlib.Omega.{arith}
use lib.Dec.{ltb, eqb}
use lib.ListN.{length}
use borrow.Author.Tests.{lt-ltb, le-ltb, eq-eqb, ne_eqb, lt-leb}
use Rattle.rules.specs.Output.{total, fits, fill}
use Rattle.rules.proofs.Output.FillLaws.{total_snoc, fits_of}

-- ---- measuring

-- what is measured: so many blocks, of which the last has this size, of so many bytes together
pub record Measure : Type 0 where
  pub blocks : ℕ
  pub size : ℕ
  pub bytes : ℕ

abbrev pub unmeasured : Measure
unmeasured = record { blocks = 0; size = 0; bytes = 0 }

-- a block costs c besides its records, and a record d besides its data
module _ (c d : ℕ) where
  -- a record of n bytes opens a block, or goes behind the last
  abbrev pub opening : Measure → ℕ → Measure
  opening m n = record { blocks = m.blocks + 1; size = c + (d + n); bytes = m.bytes + (c + (d + n)) }

  abbrev pub behind : Measure → ℕ → Measure
  behind m n = record { blocks = m.blocks; size = m.size + (d + n); bytes = m.bytes + (d + n) }

module _ (limit c d : ℕ) where
  -- TR and TRF: a record opens a block where there is none, or where it does not fit behind the last
  unfoldable pub measure : Measure → ℕ → Measure
  measure m n = cond (eqb m.blocks 0 || ltb limit (m.size + (d + n))) (opening c d m n) (behind c d m n)

  pub measure_first : (m : Measure) (n : ℕ) → m.blocks ≡ 0 → measure m n ≡ opening c d m n
  unfolding measure
  measure_first m n e = rw (eq-eqb m.blocks 0 e)

  pub measure_opens : (m : Measure) (n : ℕ) → limit < m.size + (d + n) → measure m n ≡ opening c d m n
  unfolding measure
  measure_opens m n l = rw (lt-ltb limit (m.size + (d + n)) l) (either (eqb m.blocks 0))
    where
      either : (t : Bool) → cond (t || true) (opening c d m n) (behind c d m n) ≡ opening c d m n
      either true = refl
      either false = refl

  pub measure_behind : (m : Measure) (n : ℕ) → 1 ≤ m.blocks → m.size + (d + n) ≤ limit → measure m n ≡ behind c d m n
  unfolding measure
  measure_behind m n k l = rw (ne_eqb m.blocks 0 (λ e. omega arith), le-ltb limit (m.size + (d + n)) l)

-- ---- what is left to fill, by the size of the open block

module _ (limit c d : ℕ) where
  pub fill_behind : (now : List (List ℕ)) (r : List ℕ) (rs : List (List ℕ)) → total c d now + (d + length r) ≤ limit
      → fill limit c d now (r ∷ rs) ≡ fill limit c d (now ++ (r ∷ [])) rs
  fill_behind now r rs l = rw (fits_of limit c d (now ++ (r ∷ [])) (omega (arith, total_snoc limit c d now r)))

  pub fill_opens : (now : List (List ℕ)) (r : List ℕ) (rs : List (List ℕ)) → limit < total c d now + (d + length r)
      → fill limit c d now (r ∷ rs) ≡ now ∷ fill limit c d (r ∷ []) rs
  unfolding fits
  fill_opens now r rs l = rw (lt-leb (total c d (now ++ (r ∷ []))) limit (omega (arith, total_snoc limit c d now r)))
