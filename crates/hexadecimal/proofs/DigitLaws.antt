-- A digit is read by whether it stands before A; two of them are read as their byte, and no other two are.
use mathlib.Core.Path.{◌≡◌, refl, sym, ap, ◌∙◌}
use mathlib.Core.Logic.{inl, inr}
use mathlib.Core.Bool.{false}
use mathlib.Core.List.{List, [], ◌∷◌}
use Prim.Native.Nat.{ℕ, ◌+◌, ◌-◌, ◌*◌, ◌/◌, ◌%◌, ◌≤◌, ◌<◌}
use native.Mathlib.Omega.{arith}
use lib.Dec.{eqb}
use lib.ListN.{get_or}
use borrow.Author.Tests.{lt-ltb, le-ltb, ne_eqb}
use Rattle.rules.specs.Base.{pairs, digit_of, digits_of}
use Rattle.rules.specs.Places.{All, no_more, also}
use Rattle.hexadecimal.specs.Promise.{HexadecimalDigit, ShowsByte}

-- 0 to 9
before_a : (c : ℕ) → c ≤ 57 → digit_of c ≡ c - 48
before_a c h = rw (lt-ltb c 58 (omega (arith, h)))

-- A to F
from_a : (c : ℕ) → 65 ≤ c → digit_of c ≡ c - 55
from_a c h = rw (le-ltb c 58 (omega (arith, h)))

-- no digit is a blank
not_blank : (c : ℕ) → HexadecimalDigit c → eqb c 32 ≡ false
not_blank c (inl d) = ne_eqb c 32 (λ e. omega (arith, e, d.0))
not_blank c (inr d) = ne_eqb c 32 (λ e. omega (arith, e, d.0))

two_read : (c d : ℕ) → HexadecimalDigit c → HexadecimalDigit d → pairs (digits_of (c ∷ d ∷ [])) ≡ (16 * digit_of c + digit_of d) ∷ []
two_read c d x y = rw (not_blank c x, not_blank d y)

pub both : (b c d : ℕ) → b < 256 → HexadecimalDigit c × (digit_of c ≡ b / 16 % 16) → HexadecimalDigit d × (digit_of d ≡ b % 16) → ShowsByte b (c ∷ d ∷ [])
both b c d h x y =
    let whole : 16 * (b / 16 % 16) + b % 16 ≡ b = omega (arith, h) in
    record { two = refl; digits = also x.0 (also y.0 no_more); reads = rw (two_read c d x.0 y.0, x.1, y.1, whole) }

-- ---- no other two

under_16 : (c : ℕ) → HexadecimalDigit c → digit_of c < 16
under_16 c (inl d) = omega (arith, d, before_a c d.1)
under_16 c (inr d) = omega (arith, d, from_a c d.0)

read_once : (c d : ℕ) → HexadecimalDigit c → HexadecimalDigit d → digit_of c ≡ digit_of d → c ≡ d
read_once c d (inl x) (inl y) e = omega (arith, x, y, before_a c x.1, before_a d y.1, e)
read_once c d (inl x) (inr y) e = absurd (omega (arith, x, y, before_a c x.1, from_a d y.0, e))
read_once c d (inr x) (inl y) e = absurd (omega (arith, x, y, from_a c x.0, before_a d y.1, e))
read_once c d (inr x) (inr y) e = omega (arith, x, y, from_a c x.0, from_a d y.0, e)

both_digits : {c d : ℕ} → All HexadecimalDigit (c ∷ d ∷ []) → HexadecimalDigit c × HexadecimalDigit d
both_digits (also x (also y no_more)) = (x, y)

-- what two digits are read as
value : (b c d : ℕ) → ShowsByte b (c ∷ d ∷ []) → 16 * digit_of c + digit_of d ≡ b
value b c d x =
    let k = both_digits x.digits in
    ap (λ (l : List ℕ). get_or l 0 0) (sym (two_read c d k.0 k.1) ∙ x.reads)

pub shows_only_one : (b : ℕ) (r s : List ℕ) → ShowsByte b r → ShowsByte b s → r ≡ s
shows_only_one b (c ∷ d ∷ []) (e ∷ f ∷ []) x y =
    let k = both_digits x.digits in
    let l = both_digits y.digits in
    let high : digit_of c ≡ digit_of e = omega (arith, under_16 d k.1, under_16 f l.1, value b c d x, value b e f y) in
    let same : digit_of d ≡ digit_of f = omega (arith, under_16 d k.1, under_16 f l.1, value b c d x, value b e f y) in
    rw (read_once c e k.0 l.0 high, read_once d f k.1 l.1 same)
shows_only_one b [] s x y = absurd (omega (arith, x.two))
shows_only_one b (c ∷ []) s x y = absurd (omega (arith, x.two))
shows_only_one b (c ∷ d ∷ e ∷ r) s x y = absurd (omega (arith, x.two))
shows_only_one b (c ∷ d ∷ []) [] x y = absurd (omega (arith, y.two))
shows_only_one b (c ∷ d ∷ []) (e ∷ []) x y = absurd (omega (arith, y.two))
shows_only_one b (c ∷ d ∷ []) (e ∷ f ∷ g ∷ s) x y = absurd (omega (arith, y.two))
