-- A number is read exactly where its text stands, and how the digits are passed one by one: by going along the digits at the front.
use mathlib.Core.Path.{◌≡◌, refl, ap, ◌∙◌, subst}
use mathlib.Core.Bool.{Bool, true, false, cond}
use mathlib.Core.List.{List, [], ◌∷◌, ◌++◌}
use Prim.Native.Nat.{ℕ, suc, ◌+◌, ◌-◌, ◌*◌, ◌^◌, ◌≤◌, ◌<◌}
use native.Mathlib.Nat.{add-zero, pow-le-pow_right}
use native.Mathlib.Numerals.{add-one}
use native.Mathlib.Omega.{arith}
use lib.Dec.{leb, eqb, lit<}
use lib.ListN.{length, get_or, drop}
use lib.Seq.{drop-cons}
use borrow.Author.Tests.{leb-true, le-leb, lt-leb}
use Rattle.rules.specs.Places.{All, no_more, also}
use Rattle.rules.specs.Reader.{read, stopped, is_digit, digits, past, decimal, number}
use Rattle.rules.specs.Texts.{DigitByte, NumberText}
use Rattle.rules.specs.TextParts.{Stopped, stops}
use Rattle.rules.proofs.Base.Tests.{and_left, and_right}
use Rattle.rules.proofs.Grammar.ReaderLaws.{not_read, read_value, read_left}

-- ---- digits

pub digit_of : (c : ℕ) → 48 ≤ c → c ≤ 57 → is_digit c ≡ true
digit_of c a b = rw (le-leb 48 c a, le-leb c 57 b)

pub digit_low : (c : ℕ) → c < 48 → is_digit c ≡ false
digit_low c a = rw (lt-leb 48 c a)

pub digit_high : (c : ℕ) → 57 < c → is_digit c ≡ false
digit_high c a = rw (le-leb 48 c (omega arith), lt-leb c 57 a)

pub digit_is : (c : ℕ) → is_digit c ≡ true → DigitByte c
digit_is c e = (leb-true 48 c (and_left (leb 48 c) _ e), leb-true c 57 (and_right (leb 48 c) _ e))

-- ---- a number's text

-- where a number and a letter's parameter end: at the text's end, or before a byte that is no digit and no F
pub data Ends : List ℕ → Type 0 where
  at_end : Ends []
  before : {b : ℕ} {s : List ℕ} → is_digit b ≡ false → eqb 70 b ≡ false → Ends (b ∷ s)

pub comma_ends : (s : List ℕ) → Ends (44 ∷ s)
comma_ends s = before refl refl

pub slash_ends : (s : List ℕ) → Ends (47 ∷ s)
slash_ends s = before refl refl

pub close_ends : (s : List ℕ) → Ends (41 ∷ s)
close_ends s = before refl refl

pub digits_past : (s : List ℕ) → s ≡ digits s ++ past s
digits_past [] = refl
digits_past (x ∷ xs) = go (is_digit x) (digits_past xs)
  where
    go : (t : Bool) → xs ≡ digits xs ++ past xs → x ∷ xs ≡ cond t (x ∷ digits xs) [] ++ cond t (past xs) (x ∷ xs)
    go true h = ap (λ (l : List ℕ). x ∷ l) h
    go false h = refl

pub all_digits : (s : List ℕ) → All DigitByte (digits s)
all_digits [] = no_more
all_digits (x ∷ xs) = go (is_digit x) refl (all_digits xs)
  where
    go : (t : Bool) → is_digit x ≡ t → All DigitByte (digits xs) → All DigitByte (cond t (x ∷ digits xs) [])
    go true e a = also (digit_is x e) a
    go false e a = no_more

-- what is read as a number is one
pub number_sound : (s : List ℕ) (v : ℕ) (left : List ℕ) → number s ≡ read v left → (x : List ℕ) × (s ≡ x ++ left) × NumberText x v
unfolding number
number_sound s v left = go (leb 1 (length (digits s))) (leb (length (digits s)) 5) refl refl
  where
    go : (t u : Bool) → leb 1 (length (digits s)) ≡ t → leb (length (digits s)) 5 ≡ u
        → cond t (cond u (read (decimal 0 (digits s)) (past s)) (stopped (drop 5 s))) (stopped s) ≡ read v left → (x : List ℕ) × (s ≡ x ++ left) × NumberText x v
    go true true e f h = (
      digits s,
      digits_past s ∙ ap (λ (l : List ℕ). digits s ++ l) (read_left (decimal 0 (digits s)) v (past s) left h),
      record {
        digits = all_digits s;
        one = leb-true 1 (length (digits s)) e;
        five = leb-true (length (digits s)) 5 f;
        value = read_value (decimal 0 (digits s)) v (past s) left h;
      },
    )
    go true false e f h = absurd (not_read (drop 5 s) v left h)
    go false u e f h = absurd (not_read s v left h)

ends_digits : {left : List ℕ} → Ends left → digits left ≡ []
ends_digits at_end = refl
ends_digits (before e f) = rw e

ends_past : {left : List ℕ} → Ends left → past left ≡ left
ends_past at_end = refl
ends_past (before e f) = rw e

pub digits_front : {x left : List ℕ} → All DigitByte x → Ends left → digits (x ++ left) ≡ x
digits_front no_more n = ends_digits n
digits_front (also {x = c} {xs = x} d a) n = rw (digit_of c d.0 d.1) (ap (λ (l : List ℕ). c ∷ l) (digits_front a n))

past_front : {x left : List ℕ} → All DigitByte x → Ends left → past (x ++ left) ≡ left
past_front no_more n = ends_past n
past_front (also {x = c} {xs = x} d a) n = rw (digit_of c d.0 d.1) (past_front a n)

-- a number's text is read
pub number_reads : {x left : List ℕ} {v : ℕ} → NumberText x v → Ends left → number (x ++ left) ≡ read v left
unfolding number
number_reads {x} {left} {v} n e =
    rw (digits_front n.digits e, past_front n.digits e, le-leb 1 (length x) n.one, le-leb (length x) 5 n.five)
    (ap (λ (w : ℕ). read w left) n.value)

-- without a digit there is none
pub number_not : (b : ℕ) (s : List ℕ) → is_digit b ≡ false → number (b ∷ s) ≡ stopped (b ∷ s)
unfolding number
number_not b s e = rw e

pub number_stops : (b : ℕ) (s : List ℕ) → is_digit b ≡ false → Stopped (number (b ∷ s))
number_stops b s e = rw (number_not b s e) (stops (b ∷ s))

pub number_end : number [] ≡ stopped []
unfolding number
number_end = refl

-- ---- digit by digit

-- what is known once i digits of value v are read: the same work is left
pub record Reading (s : List ℕ) (i v : ℕ) : Type 0 where
  pub inside : i ≤ length s
  pub small : v < 10 ^ i
  pub value : decimal 0 (digits s) ≡ decimal v (digits (drop i s))
  pub count : length (digits s) ≡ i + length (digits (drop i s))
  pub rest : past s ≡ past (drop i s)

pub reading_start : (s : List ℕ) → Reading s 0 0
reading_start s = record { inside = omega arith; small = omega arith; value = refl; count = omega arith; rest = refl }

-- the next byte is a digit
pub reading_digit : {s : List ℕ} {i v : ℕ} → Reading s i v → i < length s → 48 ≤ get_or s i 0 → get_or s i 0 ≤ 57 → Reading s (i + 1) (10 * v + (get_or s i 0 - 48))
reading_digit {s} {i} {v} r l a b =
    let d : digits (drop i s) ≡ get_or s i 0 ∷ digits (drop (i + 1) s) = rw (add-one i, drop-cons s i 0 l, digit_of (get_or s i 0) a b) in
    let p : past (drop i s) ≡ past (drop (i + 1) s) = rw (add-one i, drop-cons s i 0 l, digit_of (get_or s i 0) a b) in
    record {
      inside = omega arith;
      small = rw (add-one i) (omega (arith, r.small));
      value = r.value ∙ ap (decimal v) d;
      count = omega (arith, r.count, ap length d);
      rest = r.rest ∙ p;
    }

-- no digit stands at i
pub record NoDigit (s : List ℕ) (i : ℕ) : Type 0 where
  pub none : digits (drop i s) ≡ []
  pub stays : past (drop i s) ≡ drop i s

no_digit_at : (s : List ℕ) (i : ℕ) → i < length s → is_digit (get_or s i 0) ≡ false → NoDigit s i
no_digit_at s i l e = record { none = rw (drop-cons s i 0 l, e); stays = rw (drop-cons s i 0 l, e) }

-- 1 to 5 digits are a number
pub number_read : {s : List ℕ} {i v : ℕ} → Reading s i v → NoDigit s i → 1 ≤ i → i ≤ 5 → number s ≡ read v (drop i s)
unfolding number
number_read {s} {i} {v} r n a b =
    let c : length (digits s) ≡ i = r.count ∙ ap (λ (l : List ℕ). i + length l) n.none ∙ add-zero i in
    rw (le-leb 1 (length (digits s)) (omega arith), le-leb (length (digits s)) 5 (omega arith), r.value, n.none, r.rest, n.stays)

-- none are not
pub number_none : (s : List ℕ) → NoDigit s 0 → number s ≡ stopped s
unfolding number
number_none s n = rw n.none

decimal_small : (j w : ℕ) {x : List ℕ} → w < 10 ^ j → All DigitByte x → decimal w x < 10 ^ (j + length x)
decimal_small j w h no_more = rw (add-zero j) h
decimal_small j w h (also {x = c} {xs = x} d a) =
    let e : suc j + length x ≡ j + suc (length x) = omega arith in
    subst (λ (n : ℕ). decimal (10 * w + (c - 48)) x < 10 ^ n) e (decimal_small (suc j) (10 * w + (c - 48)) (omega (arith, d.0, d.1)) a)

pub text_small : {x : List ℕ} {v : ℕ} → NumberText x v → v < 100000
text_small {x} {v} t =
    let h : decimal 0 x < 10 ^ (0 + length x) = decimal_small 0 0 (lit< tt) t.digits in
    let l : 0 + length x ≤ 5 = omega (arith, t.five) in
    omega (arith, h, t.value, pow-le-pow_right {n = 10} (lit< tt) l)

pub number_small : (s : List ℕ) (v : ℕ) (left : List ℕ) → number s ≡ read v left → v < 100000
number_small s v left e = text_small (number_sound s v left e).2
