-- The lost place, and a half with no permitted value, found place by place; and a half of the output found by its source. By going along the
-- numbers, and along the sources.
use mathlib.Core.Path.{◌≡◌, refl, ap, ap₂, sym, ◌∙◌}
use mathlib.Core.Logic.{◌↔◌}
use mathlib.Core.Bool.{Bool, true, false, cond, ◌&&◌, ◌||◌, false≢true}
use mathlib.Core.List.{List, [], ◌∷◌}
use Prim.Native.Nat.{ℕ, zero, suc, ◌+◌, ◌-◌, ◌≤◌, ◌<◌}
use native.Mathlib.Nat.{not-suc-le-zero}
use native.Mathlib.Omega.{arith}
use lib.Dec.{leb}
use lib.ListN.{length, get_or}
use borrow.Author.Tests.{eqb-true, le-leb, lt-leb, eq-eqb, ne_eqb}
use Rattle.rules.specs.Halves.{Source, from, constant}
use Rattle.rules.specs.Permitted.{count, choices, first_of}
use Rattle.rules.specs.Keeping.{is_from, occurs, missing, lost_half}
use Rattle.rules.specs.Plan.{Plan, input_halves, allowed, barren_half}
use Rattle.rules.proofs.Base.Search.{none_first}

-- ---- the first number that passes, from 0 on

module _ (q : ℕ → Bool) where
  skip : (b i n : ℕ) → ((j : ℕ) → b ≤ j → j < b + i → q j ≡ false) → first_of q b (i + n) ≡ first_of q (b + i) n
  skip b zero n f = ap₂ (first_of q) (let z : b ≡ b + 0 = omega arith in z) (let z : 0 + n ≡ n = omega arith in z)
  skip b (suc i) n f =
      ap (first_of q b) (let z : suc i + n ≡ suc (i + n) = omega arith in z)
      ∙ rw (f b (omega arith) (omega arith)) (skip (suc b) i n (λ j k l. f j (omega arith) (omega arith)))
      ∙ ap (λ (a : ℕ). first_of q a n) (let z : suc b + i ≡ b + suc i = omega arith in z)

  -- where none below i passes, the search goes on from i
  pub first_later : (i n : ℕ) → i ≤ n → ((j : ℕ) → j < i → q j ≡ false) → first_of q 0 n ≡ first_of q i (n - i)
  first_later i n l f =
      ap (first_of q 0) (let z : n ≡ i + (n - i) = omega arith in z)
      ∙ skip 0 i (n - i) (λ j k h. f j (omega arith))
      ∙ ap (λ (a : ℕ). first_of q a (n - i)) (let z : 0 + i ≡ i = omega arith in z)

  pub first_here : (i n : ℕ) → i < n → ((j : ℕ) → j < i → q j ≡ false) → q i ≡ true → first_of q 0 n ≡ i
  first_here i n l f t = first_later i n (omega arith) f ∙ ap (first_of q i) (let z : n - i ≡ suc (n - i - 1) = omega arith in z) ∙ rw t

  pub first_nowhere : (n : ℕ) → ((j : ℕ) → j < n → q j ≡ false) → first_of q 0 n ≡ n
  first_nowhere n f = none_first q 0 n (λ j k l. f j (omega arith)) ∙ omega arith

-- tests that agree on the numbers below n have one count
pub count_alike : (q r : ℕ → Bool) (n : ℕ) → ((v : ℕ) → v < n → q v ≡ r v) → count q n ≡ count r n
count_alike q r zero f = refl
count_alike q r (suc n) f = ap₂ (λ (t : Bool) (c : ℕ). cond t 1 0 + c) (f n (omega arith)) (count_alike q r n (λ v l. f v (omega arith)))

-- ---- a half found in the output by its source

pub from_is : (i : ℕ) (x : Source) → (is_from i x ≡ true) ↔ (x ≡ from i)
from_is i x = (to x, (λ e. ap (is_from i) e ∙ eq-eqb i i refl))
  where
    to : (y : Source) → is_from i y ≡ true → y ≡ from i
    to (from j) t = ap from (sym (eqb-true i j t))
    to (constant c) t = absurd (false≢true t)

module _ (i : ℕ) (e : Source) where
  pub occurs_at : (g : ℕ) (ss : List Source) → g < length ss → get_or ss g e ≡ from i → occurs i ss ≡ true
  occurs_at g [] l p = absurd (not-suc-le-zero l)
  occurs_at zero (x ∷ ss) l p = rw ((from_is i x).1 p)
  occurs_at (suc g) (x ∷ ss) l p = either (is_from i x) (occurs_at g ss (omega arith) p)
    where
      either : (t : Bool) → occurs i ss ≡ true → (t || occurs i ss) ≡ true
      either true o = refl
      either false o = o

  pub occurs_where : (ss : List Source) → occurs i ss ≡ true → (g : ℕ) × (g < length ss) × (get_or ss g e ≡ from i)
  occurs_where [] o = absurd (false≢true o)
  occurs_where (x ∷ ss) o = go (λ t. occurs_where ss t) (is_from i x) refl o
    where
      go : (occurs i ss ≡ true → (g : ℕ) × (g < length ss) × (get_or ss g e ≡ from i)) → (t : Bool) → is_from i x ≡ t → (t || occurs i ss) ≡ true
          → (g : ℕ) × (g < length (x ∷ ss)) × (get_or (x ∷ ss) g e ≡ from i)
      go ih true t s = (0, omega arith, (from_is i x).0 t)
      go ih false t s = let w = ih s in (suc w.0, omega (arith, w.1), w.2)

  pub occurs_nowhere : (ss : List Source) → ((g : ℕ) → g < length ss → get_or ss g e ≡ from i → ⊥) → occurs i ss ≡ false
  occurs_nowhere ss f = go (occurs i ss) refl
    where
      go : (t : Bool) → occurs i ss ≡ t → t ≡ false
      go true t = let w = occurs_where ss t in absurd (f w.0 w.1 w.2)
      go false t = refl

-- ---- a missing half

module _ (p : ℕ → ℕ → Bool) (ss : List Source) (i : ℕ) where
  -- one that is seen in the output is not missing
  pub missing_seen : occurs i ss ≡ true → missing p ss i ≡ false
  unfolding missing
  missing_seen o = rw o (none (leb 2 (choices p i)))
    where
      none : (t : Bool) → (t && false) ≡ false
      none true = refl
      none false = refl

  -- nor one with fewer than two permitted values
  pub missing_few : choices p i < 2 → missing p ss i ≡ false
  unfolding missing
  missing_few l = rw (lt-leb 2 (choices p i) l)

  pub missing_unseen : 2 ≤ choices p i → occurs i ss ≡ false → missing p ss i ≡ true
  unfolding missing
  missing_unseen l o = rw (le-leb 2 (choices p i) l, o)

module _ (p : ℕ → ℕ → Bool) (ss : List Source) (many : ℕ) where
  pub lost_here : (i : ℕ) → i < many → ((j : ℕ) → j < i → missing p ss j ≡ false) → missing p ss i ≡ true → lost_half p ss many ≡ i
  unfolding lost_half
  lost_here i l f t = first_here (missing p ss) i many l f t

  pub lost_nowhere : ((j : ℕ) → j < many → missing p ss j ≡ false) → lost_half p ss many ≡ many
  unfolding lost_half
  lost_nowhere f = first_nowhere (missing p ss) many f

-- ---- of a plan

module _ (p : Plan) where
  pub barren_here : (i : ℕ) → i < input_halves p → ((j : ℕ) → j < i → 1 ≤ choices (allowed p) j) → choices (allowed p) i ≡ 0 → barren_half p ≡ i
  unfolding barren_half
  barren_here i l f t = first_here _ i (input_halves p) l (λ j h. ne_eqb (choices (allowed p) j) 0 (λ z. omega (arith, f j h))) (eq-eqb (choices (allowed p) i) 0 t)

  pub barren_nowhere : ((j : ℕ) → j < input_halves p → 1 ≤ choices (allowed p) j) → barren_half p ≡ input_halves p
  unfolding barren_half
  barren_nowhere f = first_nowhere _ (input_halves p) (λ j h. ne_eqb (choices (allowed p) j) 0 (λ z. omega (arith, f j h)))
