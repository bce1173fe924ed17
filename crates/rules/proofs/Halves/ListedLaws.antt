-- Numbers listed by their places: how many they are, which stands at each place, that equal numbers make equal lists, and which bytes they are
-- two by two. By going along the places; a byte is of the two numbers at its own.
use mathlib.Core.Path.{◌≡◌, refl, ap, ap₂, sym, ◌∙◌}
use mathlib.Core.List.{List, ◌∷◌}
use Prim.Native.Nat.{ℕ, zero, suc, ◌+◌, ◌*◌, ◌≤◌, ◌<◌}
use native.Mathlib.Nat.{add-zero, zero-add, add-suc, suc-add, le_of_suc-le-suc, not-suc-le-zero}
use native.Mathlib.Omega.{arith}
use lib.ListN.{length, get_or}
use lib.Seq.{ext_get_or}
use Rattle.rules.specs.Halves.{bytes}
use Rattle.rules.specs.Twins.{listed}
use Rattle.rules.proofs.Halves.SizeLaws.{length_pairs}
use Rattle.rules.proofs.Halves.BytePlaces.{pairs_at}

pub length_listed : (f : ℕ → ℕ) (i n : ℕ) → length (listed f i n) ≡ n
length_listed f i zero = refl
length_listed f i (suc n) = ap suc (length_listed f (suc i) n)

pub get_d_listed : (f : ℕ → ℕ) (i n j : ℕ) → j < n → get_or (listed f i n) j 0 ≡ f (i + j)
get_d_listed f i zero j h = absurd (not-suc-le-zero h)
get_d_listed f i (suc n) zero h = rw add-zero
get_d_listed f i (suc n) (suc j) h = get_d_listed f (suc i) n j (le_of_suc-le-suc h) ∙ ap f (suc-add i j ∙ sym (add-suc i j))

pub listed_same : (f g : ℕ → ℕ) (i n : ℕ) → ((j : ℕ) → i ≤ j → j < i + n → f j ≡ g j) → listed f i n ≡ listed g i n
listed_same f g i zero h = refl
listed_same f g i (suc n) h = ap₂ {C = List ℕ} ◌∷◌ (h i (omega arith) (omega arith)) (listed_same f g (suc i) n (λ j a b. h j (omega arith) (omega arith)))

-- a list that has these numbers at its places
pub listed_all : (f : ℕ → ℕ) (n : ℕ) (xs : List ℕ) → length xs ≡ n → ((j : ℕ) → j < n → get_or xs j 0 ≡ f j) → xs ≡ listed f 0 n
listed_all f n xs e h =
    ext_get_or 0 xs (listed f 0 n) (e ∙ sym (length_listed f 0 n))
    (λ j l. let m : j < n = omega arith in h j m ∙ sym (get_d_listed f 0 n j m ∙ ap f (zero-add j)))

-- ---- two by two

pub length_bytes_listed : (f : ℕ → ℕ) (n : ℕ) → length (bytes (listed f 0 (2 * n))) ≡ n
length_bytes_listed f n = length_pairs (listed f 0 (2 * n)) ∙ omega (arith, length_listed f 0 (2 * n))

pub get_d_bytes_listed : (f : ℕ → ℕ) (n j : ℕ) → j < n → get_or (bytes (listed f 0 (2 * n))) j 0 ≡ 16 * f (2 * j) + f (2 * j + 1)
get_d_bytes_listed f n j l =
    pairs_at (listed f 0 (2 * n)) j (omega (arith, length_listed f 0 (2 * n)))
    ∙ ap₂ (λ (a b : ℕ). 16 * a + b) (at (2 * j) (omega arith)) (at (2 * j + 1) (omega arith))
  where
    at : (i : ℕ) → i < 2 * n → get_or (listed f 0 (2 * n)) i 0 ≡ f i
    at i m = get_d_listed f 0 (2 * n) i m ∙ ap f (zero-add i)
