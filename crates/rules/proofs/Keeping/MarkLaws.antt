-- How many values a half may have, the first half that passes a test, and the lost place depend only on what they look at: the sixteen values,
-- the halves that there are, the sources that occur. By going along the definitions.
use mathlib.Core.Path.{◌≡◌, refl, ap}
use mathlib.Core.Bool.{Bool, not, ◌&&◌}
use mathlib.Core.List.{List}
use Prim.Native.Nat.{ℕ, zero, suc, ◌+◌, ◌<◌}
use native.Mathlib.Omega.{arith}
use lib.Dec.{leb}
use Rattle.rules.specs.Halves.{Source}
use Rattle.rules.specs.Permitted.{choices, first_of}
use Rattle.rules.specs.Keeping.{occurs, missing, lost_half}
use Rattle.rules.proofs.Keeping.KeepingSteps.{count_alike}

-- permitted values that agree on the sixteen halves are as many
pub choices_alike : (p p' : ℕ → ℕ → Bool) (i : ℕ) → ((v : ℕ) → v < 16 → p i v ≡ p' i v) → choices p i ≡ choices p' i
unfolding choices
choices_alike p p' i h = count_alike (p i) (p' i) 16 h

-- tests that agree on the numbers that there are have one first number
pub first_alike : (q q' : ℕ → Bool) (i n : ℕ) → ((j : ℕ) → j < i + n → q j ≡ q' j) → first_of q i n ≡ first_of q' i n
first_alike q q' i zero h = refl
first_alike q q' i (suc n) h = rw (h i (omega arith), first_alike q q' (suc i) n (λ j l. h j (omega arith)))

-- and so the lost place, where the same values are permitted
pub lost_alike : (p p' : ℕ → ℕ → Bool) (ss : List Source) (many : ℕ) → ((i v : ℕ) → i < many → v < 16 → p i v ≡ p' i v) → lost_half p ss many ≡ lost_half p' ss many
unfolding lost_half missing
lost_alike p p' ss many h =
    first_alike _ _ 0 many (λ j l. ap (λ (c : ℕ). leb 2 c && not (occurs j ss)) (choices_alike p p' j (λ v s. h j v (omega arith) s)))
