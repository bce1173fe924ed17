-- How a number is read by the value of each byte as a digit: a byte that has one is a digit, and stands inside the text.
use mathlib.Core.Path.{◌≡◌, refl, subst}
use mathlib.Core.Bool.{Bool, true, false}
use mathlib.Core.List.{List}
use Rattle.std.specs.Prelude.{Some, None}
use Prim.Native.Nat.{ℕ, ◌+◌, ◌-◌, ◌*◌, ◌≤◌, ◌<◌}
use native.Mathlib.Nat.{pow-le-pow_right}
use native.Mathlib.Omega.{arith}
use lib.Dec.{lit<}
use lib.ListN.{length, get_or}
use Rattle.rules.specs.Reader.{is_digit}
use Rattle.rules.proofs.Grammar.ChoiceLaws.{byte_inside, byte_any, no_digit}
use Rattle.rules.proofs.Grammar.NumberLaws.{Reading, reading_digit, NoDigit, digit_is}
use Rattle.readers.specs.Meaning.{digit_value}

-- a byte with a value is a digit
digit_some : (b d : ℕ) → digit_value b ≡ Some d → (48 ≤ b) × (b ≤ 57) × (d ≡ b - 48)
digit_some b d h = go (is_digit b) refl
  where
    go : (t : Bool) → is_digit b ≡ t → (48 ≤ b) × (b ≤ 57) × (d ≡ b - 48)
    go true e = let f = rw e at h in ((digit_is b e).0, (digit_is b e).1, cc)
    go false e = let f = rw e at h in absurd (cc)

-- the byte behind i digits is one more
pub one_more : {s : List ℕ} {i v : ℕ} (d : ℕ) → Reading s i v → digit_value (get_or s i 256) ≡ Some d → (d ≤ 9) × Reading s (i + 1) (10 * v + d)
one_more {s} {i} {v} d r e =
    let k = digit_some (get_or s i 256) d e in
    let l : i < length s = byte_inside s i (get_or s i 256) refl (omega arith) in
    let b : get_or s i 256 ≡ get_or s i 0 = byte_any s i 256 0 l in
    let f : get_or s i 0 - 48 ≡ d = omega arith in
    (omega arith, subst (λ (x : ℕ). Reading s (i + 1) (10 * v + x)) f (reading_digit r l (omega arith) (omega arith)))

-- or it is none
pub none_more : (s : List ℕ) (i : ℕ) → digit_value (get_or s i 256) ≡ None → NoDigit s i
none_more s i h = go (is_digit (get_or s i 256)) refl
  where
    go : (t : Bool) → is_digit (get_or s i 256) ≡ t → NoDigit s i
    go true b = let f = rw b at h in absurd (cc)
    go false b = no_digit s i b

-- what is read of up to six digits fits
pub small : {s : List ℕ} {i v : ℕ} → Reading s i v → i ≤ 6 → v < 1000000
small r h = omega (arith, r.small, pow-le-pow_right {n = 10} (lit< tt) h)
