-- An element at a place of a list stands at its place of the list without its first elements, of two lists one behind the other, and of the tests of the
-- elements. By going along the list.
use mathlib.Core.Path.{◌≡◌, refl, ap}
use mathlib.Core.Logic.{◌⊎◌, inl, inr}
use mathlib.Core.Bool.{Bool, false}
use mathlib.Core.List.{List, [], ◌∷◌, ◌++◌, map}
use Prim.Native.Nat.{ℕ, zero, suc, ◌+◌, ◌≤◌}
use native.Mathlib.Nat.{add-zero}
use native.Mathlib.Omega.{arith}
use lib.ListN.{length, drop, length-append}
use Rattle.rules.specs.Places.{Found, here, later}
use Rattle.rules.proofs.Refusals.Given.{found_nil}

pub nil_split : {A : Type 0} (xs : List A) (y : A) (ys : List A) → [] ≡ xs ++ (y ∷ ys) → ⊥
nil_split xs y ys e = let l : 0 ≡ length (xs ++ (y ∷ ys)) = ap length e in let m = length-append xs (y ∷ ys) in omega arith

module _ {A : Type 0} (P : A → Type 0) where
  pub found_left : {p i : ℕ} {xs : List A} (ys : List A) → Found P p i xs → Found P p i (xs ++ ys)
  found_left ys (here e f) = here e f
  found_left ys (later f) = later (found_left ys f)

  pub found_right : (p i : ℕ) (xs ys : List A) → Found P p (i + length xs) ys → Found P p i (xs ++ ys)
  found_right p i [] ys f = rw add-zero at f
  found_right p i (x ∷ xs) ys f = later (found_right p (suc i) xs ys (rw (let z : i + suc (length xs) ≡ suc i + length xs = omega arith in z) at f))

  pub found_either : (p i : ℕ) (xs ys : List A) → Found P p i (xs ++ ys) → Found P p i xs ⊎ Found P p (i + length xs) ys
  found_either p i [] ys f = inr (rw add-zero f)
  found_either p i (x ∷ xs) ys (here e f) = inl (here e f)
  found_either p i (x ∷ xs) ys (later f) = go (found_either p (suc i) xs ys f)
    where
      go : Found P p (suc i) xs ⊎ Found P p (suc i + length xs) ys → Found P p i (x ∷ xs) ⊎ Found P p (i + suc (length xs)) ys
      go (inl g) = inl (later g)
      go (inr g) = inr (rw (let z : i + suc (length xs) ≡ suc i + length xs = omega arith in z) g)

  pub found_drop : (k i p : ℕ) (xs : List A) → Found P p (i + k) (drop k xs) → Found P p i xs
  found_drop zero i p xs f = rw add-zero at f
  found_drop (suc k) i p [] f = absurd (found_nil f)
  found_drop (suc k) i p (x ∷ xs) f = later (found_drop k (suc i) p xs (rw (let z : i + suc k ≡ suc i + k = omega arith in z) at f))

  pub drop_found : (k i p : ℕ) (xs : List A) → i + k ≤ p → Found P p i xs → Found P p (i + k) (drop k xs)
  drop_found zero i p xs l f = rw add-zero f
  drop_found (suc k) i p (x ∷ xs) l (here e f) = absurd (omega arith)
  drop_found (suc k) i p (x ∷ xs) l (later f) = rw (let z : i + suc k ≡ suc i + k = omega arith in z) (drop_found k (suc i) p xs (omega arith) f)
  drop_found (suc k) i p [] l f = elim f [ ]

-- a test at each element
module _ {A : Type 0} (h : A → Bool) where
  pub found_tested : (p i : ℕ) (xs : List A) → Found (λ ok. ok ≡ false) p i (map h xs) → Found (λ x. h x ≡ false) p i xs
  found_tested p i [] f = absurd (found_nil f)
  found_tested p i (x ∷ xs) (here e f) = here e f
  found_tested p i (x ∷ xs) (later f) = later (found_tested p (suc i) xs f)

  pub tested_found : {p i : ℕ} {xs : List A} → Found (λ x. h x ≡ false) p i xs → Found (λ ok. ok ≡ false) p i (map h xs)
  tested_found (here e f) = here e f
  tested_found (later f) = later (tested_found f)

-- an element at a place parts its list
pub parted : {A : Type 0} {P : A → Type 0} {p i : ℕ} {xs : List A} → Found P p i xs
    → (x : List A) × (r : A) × (y : List A) × (xs ≡ x ++ (r ∷ y)) × (p ≡ i + length x) × P r
parted {p = p} {i = i} (here {x = x} {xs = xs} e f) = ([], x, xs, refl, omega arith, f)
parted {p = p} {i = i} (later {x = x} g) = let w = parted g in (x ∷ w.0, w.1, w.2, ap (x ∷◌) w.3, omega (arith, w.4), w.5)
