-- What marks permit: a value by the bit that it stands under, so two marks both permit what their or permits, and how many values a mark permits and which is
-- its lowest depend on its three lowest bits. By cases on the bits.
use mathlib.Core.Path.{◌≡◌, refl, ap, ap₂, sym, subst, ◌∙◌}
use mathlib.Core.Bool.{Bool, true, false, cond, ◌&&◌}
use Prim.Native.Nat.{ℕ, zero, suc, ◌+◌, ◌-◌, ◌*◌, ◌/◌, ◌%◌, ◌^◌, ◌≤◌, ◌<◌}
use native.Mathlib.Decide.{dec_lt, ℕ_discrete}
use native.Mathlib.Omega.{arith}
use lib.Bits.{bit_or, or_shr, or_mod}
use lib.Dec.{ltb, leb, eqb}
use borrow.Author.Tests.{lt-ltb, le-ltb, le-leb, lt-leb, eq-eqb, ne_eqb, eqb-true, eqb-false}
use Rattle.rules.specs.Permitted.{digit, sign, any, count, first_of}
use Rattle.rules.specs.Twins.{lowest}
use Rattle.rules.specs.Lent.{zone_f}
use Rattle.rules.proofs.Halves.PermittedLaws.{any_of, digit_of, sign_of}
use Rattle.rules.proofs.Keeping.MarkLaws.{first_alike}
use Rattle.keeping.specs.Marks.{mark_allows, choices_of, MarkSays, lowest_of}

-- ---- a value by its bit

allows_digit : (a v : ℕ) → v ≤ 9 → mark_allows a v ≡ eqb (a / 1 % 2) 0
unfolding mark_allows
allows_digit a v l = rw (any_of v (omega arith), le-leb v 9 l)

allows_letter : (a v : ℕ) → 9 < v → v ≤ 14 → mark_allows a v ≡ eqb (a / 2 % 2) 0
unfolding mark_allows
allows_letter a v l m = rw (any_of v (omega arith), lt-leb v 9 l, le-leb v 14 m)

allows_zone : (a v : ℕ) → 14 < v → v < 16 → mark_allows a v ≡ eqb (a / 4 % 2) 0
unfolding mark_allows
allows_zone a v l m = rw (any_of v m, lt-leb v 9 (omega arith), lt-leb v 14 l)

-- a test of a half says what a mark does, where it does so of 0 to 9, of A to E and of F
by_bits : (a : ℕ) (p : ℕ → Bool) → ((v : ℕ) → v ≤ 9 → p v ≡ eqb (a / 1 % 2) 0) → ((v : ℕ) → 9 < v → v ≤ 14 → p v ≡ eqb (a / 2 % 2) 0)
    → ((v : ℕ) → 14 < v → v < 16 → p v ≡ eqb (a / 4 % 2) 0) → MarkSays a p
by_bits a p digits letters zones v l = elim (dec_lt 9 v) [
  | yes past ↦ elim (dec_lt 14 v) [
    | yes zone ↦ allows_zone a v zone l ∙ sym (zones v zone l)
    | no letter ↦ allows_letter a v past (omega arith) ∙ sym (letters v past (omega arith))
  ]
  | no below ↦ allows_digit a v (omega arith) ∙ sym (digits v (omega arith))
]

-- ---- the marks of the fields

pub says_any : MarkSays 0 any
says_any = by_bits 0 any (λ v l. any_of v (omega arith)) (λ v l m. any_of v (omega arith)) (λ v l m. any_of v m)

not_digit : (v : ℕ) → 9 < v → digit v ≡ false
not_digit v l = rw (le-leb 0 v (omega arith), lt-leb v 9 l)

pub says_digit : MarkSays 6 digit
says_digit = by_bits 6 digit (λ v l. digit_of v l) (λ v l m. not_digit v l) (λ v l m. not_digit v (omega arith))

pub says_sign : MarkSays 1 sign
says_sign = by_bits 1 sign (λ v l. rw (lt-leb 10 v (omega arith))) (λ v l m. sign_of v (omega arith, omega arith)) (λ v l m. sign_of v (omega arith, omega arith))

pub says_zone : MarkSays 3 (λ v. eqb v zone_f)
says_zone =
    by_bits 3 (λ v. eqb v zone_f) (λ v l. ne_eqb v 15 (λ e. omega arith)) (λ v l m. ne_eqb v 15 (λ e. omega arith)) (λ v l m. eq-eqb v 15 (omega arith))

-- ---- what two marks both permit

or_bit : (a b : ℕ) → eqb (bit_or a b % 2) 0 ≡ (eqb (a % 2) 0 && eqb (b % 2) 0)
or_bit a b = ap (λ (x : ℕ). eqb x 0) (or_mod a b 1) ∙ go (a % 2) (b % 2) (omega arith) (omega arith)
  where
    go : (x y : ℕ) → x < 2 → y < 2 → eqb (bit_or x y) 0 ≡ (eqb x 0 && eqb y 0)
    go zero zero l m = refl
    go zero (suc zero) l m = refl
    go zero (suc (suc y)) l m = absurd (omega arith)
    go (suc zero) zero l m = refl
    go (suc zero) (suc zero) l m = refl
    go (suc zero) (suc (suc y)) l m = absurd (omega arith)
    go (suc (suc x)) y l m = absurd (omega arith)

or_at : (a b k : ℕ) → eqb (bit_or a b / 2 ^ k % 2) 0 ≡ (eqb (a / 2 ^ k % 2) 0 && eqb (b / 2 ^ k % 2) 0)
or_at a b k = ap (λ (x : ℕ). eqb (x % 2) 0) (or_shr a b k) ∙ or_bit (a / 2 ^ k) (b / 2 ^ k)

pub or_allows : (a b : ℕ) → MarkSays (bit_or a b) (λ v. mark_allows a v && mark_allows b v)
or_allows a b =
    by_bits (bit_or a b) (λ v. mark_allows a v && mark_allows b v)
    (λ v l. ap₂ ◌&&◌ (allows_digit a v l) (allows_digit b v l) ∙ sym (or_at a b 0))
    (λ v l m. ap₂ ◌&&◌ (allows_letter a v l m) (allows_letter b v l m) ∙ sym (or_at a b 1))
    (λ v l m. ap₂ ◌&&◌ (allows_zone a v l m) (allows_zone b v l m) ∙ sym (or_at a b 2))

-- ---- how many, and the lowest

-- what a mark permits of 0 to 9, of A to E and of F
abbrev bits : Bool → Bool → Bool → ℕ → Bool
bits digits letters zone v = any v && cond (leb v 9) digits (cond (leb v 14) letters zone)

count_bits : (x y z : Bool) → count (bits x y z) 16 ≡ 10 * cond x 1 0 + 5 * cond y 1 0 + cond z 1 0
count_bits true true true = refl
count_bits true true false = refl
count_bits true false true = refl
count_bits true false false = refl
count_bits false true true = refl
count_bits false true false = refl
count_bits false false true = refl
count_bits false false false = refl

first_bits : (x y z : Bool) → first_of (bits x y z) 0 16 ≡ cond x 0 (cond y 10 (cond z 15 16))
first_bits true y z = refl
first_bits false true z = refl
first_bits false false true = refl
first_bits false false false = refl

-- a bit that is not set
unset : (b : ℕ) → b < 2 → cond (eqb b 0) 1 0 ≡ 1 - b
unset zero l = refl
unset (suc zero) l = refl
unset (suc (suc b)) l = absurd (omega arith)

-- where all three bits are set no value is permitted
none_left : (x y z : ℕ) → x < 2 → y < 2 → z < 2 → x + 2 * y + 4 * z ≡ 7 → 10 * (1 - x) + 5 * (1 - y) + (1 - z) ≡ 0
none_left x y z a b c e = omega arith

-- where both lower ones are, one at most
one_left : (x y z : ℕ) → x < 2 → y < 2 → x + 2 * y ≡ 3 → 10 * (1 - x) + 5 * (1 - y) + (1 - z) < 2
one_left x y z a b e = omega arith

-- where no value is permitted all three bits are set
all_set : (x y z : ℕ) → x < 2 → y < 2 → z < 2 → 10 * (1 - x) + 5 * (1 - y) + (1 - z) ≡ 0 → x + 2 * y + 4 * z ≡ 7
all_set x y z a b c e = omega arith

-- where one of the lower two is not, more than one value is permitted
some_unset : (x y z : ℕ) → x < 2 → y < 2 → (x + 2 * y ≡ 3 → ⊥) → 2 ≤ 10 * (1 - x) + 5 * (1 - y) + (1 - z)
some_unset x y z a b n = omega arith

module _ (a : ℕ) where
  counted : choices_of a ≡ 10 * cond (eqb (a / 1 % 2) 0) 1 0 + 5 * cond (eqb (a / 2 % 2) 0) 1 0 + cond (eqb (a / 4 % 2) 0) 1 0
  unfolding choices_of mark_allows
  counted = count_bits (eqb (a / 1 % 2) 0) (eqb (a / 2 % 2) 0) (eqb (a / 4 % 2) 0)

  choices_is : choices_of a ≡ 10 * (1 - a / 1 % 2) + 5 * (1 - a / 2 % 2) + (1 - a / 4 % 2)
  choices_is = omega (arith, counted, unset (a / 1 % 2) (omega arith), unset (a / 2 % 2) (omega arith), unset (a / 4 % 2) (omega arith))

  four : a % 4 ≡ a / 1 % 2 + 2 * (a / 2 % 2)
  four = omega arith

  eight : a % 8 ≡ a / 1 % 2 + 2 * (a / 2 % 2) + 4 * (a / 4 % 2)
  eight = let e : a % 8 ≡ a % 4 + 4 * (a / 4 % 2) = omega arith in omega (arith, e, four)

  pub barren_is : eqb (a % 8) 7 ≡ eqb (choices_of a) 0
  barren_is = elim (ℕ_discrete (a % 8) 7) [
    | yes e ↦ eq-eqb (a % 8) 7 e ∙ sym (eq-eqb (choices_of a) 0 (choices_is ∙ none_left (a / 1 % 2) (a / 2 % 2) (a / 4 % 2) (omega arith) (omega arith) (omega arith) (sym eight ∙ e)))
    | no n ↦ ne_eqb (a % 8) 7 n ∙ sym (ne_eqb (choices_of a) 0 (λ e.
        n (eight ∙ all_set (a / 1 % 2) (a / 2 % 2) (a / 4 % 2) (omega arith) (omega arith) (omega arith) (sym choices_is ∙ e))))
  ]

  pub narrow_is : eqb (a % 4) 3 ≡ ltb (choices_of a) 2
  narrow_is = elim (ℕ_discrete (a % 4) 3) [
    | yes e ↦ eq-eqb (a % 4) 3 e ∙ sym (lt-ltb (choices_of a) 2 (subst (λ (c : ℕ). c < 2) (sym choices_is)
        (one_left (a / 1 % 2) (a / 2 % 2) (a / 4 % 2) (omega arith) (omega arith) (sym four ∙ e))))
    | no n ↦ ne_eqb (a % 4) 3 n ∙ sym (le-ltb (choices_of a) 2 (subst (λ (c : ℕ). 2 ≤ c) (sym choices_is)
        (some_unset (a / 1 % 2) (a / 2 % 2) (a / 4 % 2) (omega arith) (omega arith) (λ e. n (four ∙ e)))))
  ]

  lowest_is : lowest_of a ≡ cond (eqb (a / 1 % 2) 0) 0 (cond (eqb (a / 2 % 2) 0) 10 (cond (eqb (a / 4 % 2) 0) 15 16))
  unfolding lowest_of mark_allows
  lowest_is = first_bits (eqb (a / 1 % 2) 0) (eqb (a / 2 % 2) 0) (eqb (a / 4 % 2) 0)

  pub lowest_digit : a % 2 ≡ 0 → 0 ≡ lowest_of a
  lowest_digit e = sym (lowest_is ∙ rw (eq-eqb (a / 1 % 2) 0 (omega arith)))

  pub lowest_letter : a % 4 ≡ 1 → 10 ≡ lowest_of a
  lowest_letter e = sym (lowest_is ∙ rw (ne_eqb (a / 1 % 2) 0 (λ z. omega arith), eq-eqb (a / 2 % 2) 0 (omega arith)))

  pub lowest_none : eqb (choices_of a) 0 ≡ true → 16 ≡ lowest_of a
  lowest_none e =
      let s : a % 8 ≡ 7 = eqb-true (a % 8) 7 (barren_is ∙ e) in
      sym (lowest_is ∙ rw (ne_eqb (a / 1 % 2) 0 (λ z. omega arith), ne_eqb (a / 2 % 2) 0 (λ z. omega arith), ne_eqb (a / 4 % 2) 0 (λ z. omega arith)))

  pub lowest_zone : (a % 2 ≡ 0 → ⊥) → (a % 4 ≡ 1 → ⊥) → eqb (choices_of a) 0 ≡ false → 15 ≡ lowest_of a
  lowest_zone d l e =
      let s : a % 8 ≡ 7 → ⊥ = eqb-false (a % 8) 7 (barren_is ∙ e) in
      sym (lowest_is ∙ rw (ne_eqb (a / 1 % 2) 0 (λ z. omega arith), ne_eqb (a / 2 % 2) 0 (λ z. omega arith), eq-eqb (a / 4 % 2) 0 (omega arith)))

-- a mark has the lowest of the halves that it permits
pub lowest_says : (a : ℕ) (q : ℕ → ℕ → Bool) (i : ℕ) → MarkSays a (q i) → lowest_of a ≡ lowest q i
unfolding lowest_of lowest
lowest_says a q i says = first_alike (mark_allows a) (q i) 0 16 (λ v l. says v (omega arith))
