-- Where the numbers of a part of a text begin, part by part: a number that is read is one run of digits, and begins where it is read; a mark is no digit and ends
-- the run before it.
use mathlib.Core.Path.{◌≡◌, refl, ap, sym, ◌∙◌, subst}
use mathlib.Core.Bool.{Bool, true, false, cond, not, ◌&&◌}
use mathlib.Core.List.{List, [], ◌∷◌, ◌++◌, append_assoc}
use Prim.Native.Nat.{ℕ, suc, ◌+◌, ◌≤◌, ◌<◌}
use native.Mathlib.Numerals.{add-one}
use native.Mathlib.Omega.{arith}
use lib.Dec.{eqb}
use lib.ListN.{length, get_or, take, drop, length-append, length-drop}
use lib.Seq.{slice, slice-cons, slice_empty, length-slice, take-append_seam}
use borrow.Author.Tests.{eqb-true}
use Rattle.rules.specs.Reader.{read, stopped, pure, ◌>>◌, after, is_digit, number}
use Rattle.rules.specs.Places.{All, no_more, also}
use Rattle.rules.specs.Words.{number_columns}
use Rattle.rules.specs.Texts.{DigitByte, NumberText}
use Rattle.rules.specs.TextParts.{number_then}
use Rattle.rules.proofs.Base.Lists.{slice_rest, slice_slice}
use Rattle.rules.proofs.Grammar.NumberLaws.{digit_of, number_sound}
use Rattle.rules.proofs.Grammar.ReaderLaws.{not_read, read_left, bind_read}
use Rattle.readers.specs.Meaning.{ReadsFrom, numbers_in}

-- ---- runs of digits

digits_passed : (k : ℕ) {x : List ℕ} (y : List ℕ) → All DigitByte x → number_columns true k (x ++ y) ≡ number_columns true (k + length x) y
digits_passed k y no_more = ap (λ (i : ℕ). number_columns true i y) (let z : k ≡ k + 0 = omega arith in z)
digits_passed k y (also {x = b} {xs = x} d a) =
    rw (digit_of b d.0 d.1)
    (digits_passed (suc k) y a ∙ ap (λ (i : ℕ). number_columns true i y) (let z : suc k + length x ≡ k + suc (length x) = omega arith in z))

text_passed : (k : ℕ) {x : List ℕ} {v : ℕ} (y : List ℕ) → NumberText x v → number_columns false k (x ++ y) ≡ k ∷ number_columns true (k + length x) y
text_passed k {x} y n = go x n.digits n.one
  where
    go : (x : List ℕ) → All DigitByte x → 1 ≤ length x → number_columns false k (x ++ y) ≡ k ∷ number_columns true (k + length x) y
    go [] a l = absurd (omega arith)
    go (b ∷ x) (also d a) l =
        rw (digit_of b d.0 d.1)
        (ap (λ (z : List ℕ). k ∷ z) (digits_passed (suc k) y a ∙ ap (λ (i : ℕ). number_columns true i y) (let z : suc k + length x ≡ k + suc (length x) = omega arith in z)))

-- a mark ends what is before it
marked : (t : Bool) (k : ℕ) (x : List ℕ) (m : ℕ) (y : List ℕ) → is_digit m ≡ false
    → number_columns t k (x ++ (m ∷ y)) ≡ number_columns t k x ++ number_columns false (suc (k + length x)) y
marked t k [] m y e = rw e (ap (λ (i : ℕ). number_columns false i y) (let z : suc k ≡ suc (k + 0) = omega arith in z))
marked t k (b ∷ x) m y e = go (is_digit b && not t) (marked (is_digit b) (suc k) x m y e)
  where
    behind : number_columns (is_digit b) (suc k) x ++ number_columns false (suc (suc k + length x)) y ≡ number_columns (is_digit b) (suc k) x ++ number_columns false (suc (k + suc (length x))) y
    behind = ap (λ (i : ℕ). number_columns (is_digit b) (suc k) x ++ number_columns false i y) (let z : suc (suc k + length x) ≡ suc (k + suc (length x)) = omega arith in z)

    go : (u : Bool) → number_columns (is_digit b) (suc k) (x ++ (m ∷ y)) ≡ number_columns (is_digit b) (suc k) x ++ number_columns false (suc (suc k + length x)) y
        → cond u (k ∷ number_columns (is_digit b) (suc k) (x ++ (m ∷ y))) (number_columns (is_digit b) (suc k) (x ++ (m ∷ y)))
        ≡ cond u (k ∷ number_columns (is_digit b) (suc k) x) (number_columns (is_digit b) (suc k) x) ++ number_columns false (suc (k + suc (length x))) y
    go true h = ap (λ (z : List ℕ). k ∷ z) (h ∙ behind)
    go false h = h ∙ behind

-- ---- parts of a text

module _ (s : List ℕ) (i n : ℕ) where
  -- the text between two places
  pub text_is : (x : List ℕ) → i ≤ length s → n ≤ length s → drop i s ≡ x ++ drop n s → (n ≡ i + length x) × (slice i n s ≡ x)
  text_is x a b e =
      let k : n ≡ i + length x = omega (arith, length-drop i s, length-drop n s, ap length e, length-append x (drop n s)) in
      let f : slice i n s ++ drop n s ≡ drop i s = slice_rest i n s (omega arith) b in
      let l : length (slice i n s) ≡ length x = omega (arith, length-slice i n s b) in (
        k,
        sym (take-append_seam (slice i n s) (drop n s)) ∙ ap (λ (j : ℕ). take j (slice i n s ++ drop n s)) l ∙ ap (take (length x)) (f ∙ e)
            ∙ take-append_seam x (drop n s),
      )

  -- and on to a third
  pub text_ahead : (x : List ℕ) → i ≤ length s → drop i s ≡ x ++ drop n s → (to : ℕ) → i ≤ n → n ≤ to → to ≤ length s → slice i to s ≡ x ++ slice n to s
  text_ahead x a e to h k l = sym (slice_slice i n to s h k l) ∙ ap (λ (z : List ℕ). z ++ slice n to s) (text_is x a (omega arith) e).1

-- ---- what is read

module _ (s : List ℕ) (i : ℕ) where
  -- nothing is between a place and itself
  pub none_between : (t : Bool) → numbers_in t s i i ≡ []
  none_between t = ap (number_columns t i) (slice_empty i s)

  -- a mark
  pub mark_passed : (t : Bool) (m to : ℕ) → get_or s i 256 ≡ m → is_digit m ≡ false → i < to → to ≤ length s → numbers_in t s i to ≡ numbers_in false s (i + 1) to
  mark_passed t m to e d h l = rw (slice-cons i to s 256 h l, e, d, add-one i) refl

  module _ (v n : ℕ) (inside : i ≤ length s) (r : ReadsFrom number i s v n) where
    -- a number
    pub number_ahead : i < n
    number_ahead = let x = number_sound (drop i s) v (drop n s) r.1 in omega (arith, (text_is s i n x.0 inside r.0 x.1).0, x.2.one)

    pub number_passed : (to : ℕ) → n ≤ to → to ≤ length s → numbers_in false s i to ≡ i ∷ numbers_in true s n to
    number_passed to h l =
        let x = number_sound (drop i s) v (drop n s) r.1 in
        ap (number_columns false i) (text_ahead s i n x.0 inside x.1 to (omega (arith, number_ahead)) h l)
        ∙ text_passed i (slice n to s) x.2 ∙ ap (λ (j : ℕ). i ∷ number_columns true j (slice n to s)) (sym (text_is s i n x.0 inside r.0 x.1).0)

-- two marks
pub marks_passed : (s : List ℕ) (i a b to : ℕ) → get_or s i 256 ≡ a → get_or s (i + 1) 256 ≡ b → is_digit a ≡ false → is_digit b ≡ false → i + 2 ≤ to → to ≤ length s
    → numbers_in false s i to ≡ numbers_in false s (i + 2) to
marks_passed s i a b to e f d c h l =
    let z : i + 1 + 1 ≡ i + 2 = omega arith in
    mark_passed s i false a to e d (omega arith) l ∙ mark_passed s (i + 1) false b to f c (omega arith) l ∙ ap (λ (j : ℕ). numbers_in false s j to) z

after_one : (m : ℕ) (s : List ℕ) (u : Unit) (left : List ℕ) → after (m ∷ []) s ≡ read u left → s ≡ m ∷ left
after_one m [] u left e = absurd (not_read [] u left e)
after_one m (b ∷ s) u left e = go (eqb m b) refl e
  where
    go : (t : Bool) → eqb m b ≡ t → cond t (read tt s) (stopped (b ∷ s)) ≡ read u left → b ∷ s ≡ m ∷ left
    go true f e = let z : m ≡ b = eqb-true m b f in let w = read_left tt u s left e in cc
    go false f e = absurd (not_read (b ∷ s) u left e)

-- a number's text, and the mark behind it
pub then_text : (m v : ℕ) (s left : List ℕ) → number_then m s ≡ read v left → (w : ℕ) × (x : List ℕ) × (s ≡ (x ++ (m ∷ [])) ++ left) × NumberText x w
unfolding number_then
then_text m v s left r =
    let a = bind_read (number s) (λ w. after (m ∷ []) >> pure w) v left r in
    let b = bind_read (after (m ∷ []) a.1) (λ u. pure a.0) v left a.3 in
    let x = number_sound s a.0 a.1 a.2 in
    let e : a.1 ≡ m ∷ left = after_one m a.1 b.0 b.1 b.2 ∙ ap (λ (l : List ℕ). m ∷ l) (read_left a.0 v b.1 left b.3) in
    (a.0, x.0, x.1 ∙ ap (λ (l : List ℕ). x.0 ++ l) e ∙ sym (append_assoc x.0 (m ∷ []) left), x.2)

module _ (s : List ℕ) (i m v n : ℕ) (inside : i ≤ length s) (r : ReadsFrom (number_then m) i s v n) where
  -- a number and its mark
  pub then_ahead : i < n
  then_ahead =
      let x = then_text m v (drop i s) (drop n s) r.1 in
      omega (arith, (text_is s i n (x.1 ++ (m ∷ [])) inside r.0 x.2).0, length-append x.1 (m ∷ []))

  pub then_passed : (to : ℕ) → is_digit m ≡ false → n ≤ to → to ≤ length s → numbers_in false s i to ≡ i ∷ numbers_in false s n to
  then_passed to d h l =
      let x = then_text m v (drop i s) (drop n s) r.1 in
      let y = slice n to s in
      let k = text_is s i n (x.1 ++ (m ∷ [])) inside r.0 x.2 in
      let e : suc (i + length x.1) ≡ n = omega (arith, k.0, length-append x.1 (m ∷ [])) in
      let f : slice i to s ≡ x.1 ++ (m ∷ y)
      = text_ahead s i n (x.1 ++ (m ∷ [])) inside x.2 to (omega (arith, then_ahead)) h l ∙ append_assoc x.1 (m ∷ []) y in
      let g : number_columns true (i + length x.1) (m ∷ y) ≡ number_columns false (suc (i + length x.1)) y = rw d refl in
      ap (number_columns false i) f ∙ text_passed i (m ∷ y) x.3 ∙ ap (λ (z : List ℕ). i ∷ z) (g ∙ ap (λ (j : ℕ). number_columns false j y) e)

-- two parts with a mark between
pub both_passed : (s : List ℕ) (t : Bool) (i n m to : ℕ) → i ≤ n → get_or s n 256 ≡ m → is_digit m ≡ false → n < to → to ≤ length s
    → numbers_in t s i to ≡ numbers_in t s i n ++ numbers_in false s (n + 1) to
both_passed s t i n m to a e d h l =
    let x = slice i n s in
    let y = slice (suc n) to s in
    let f : slice i to s ≡ x ++ (m ∷ y) = sym (slice_slice i n to s a (omega arith) l) ∙ ap (λ (z : List ℕ). x ++ z) (slice-cons n to s 256 h l ∙ ap (λ (b : ℕ). b ∷ y) e) in
    let k : suc (i + length x) ≡ suc n = omega (arith, length-slice i n s (omega arith)) in
    ap (number_columns t i) f ∙ marked t i x m y d ∙ ap (λ (j : ℕ). number_columns t i x ++ number_columns false j y) k
    ∙ ap (λ (j : ℕ). numbers_in t s i n ++ numbers_in false s j to) (sym (add-one n))

-- ---- inside the text

places_below : (t : Bool) (k : ℕ) (x : List ℕ) → All (λ p. p < k + length x) (number_columns t k x)
places_below t k [] = no_more
places_below t k (b ∷ x) = go (is_digit b && not t) (subst (λ (n : ℕ). All (λ p. p < n) (number_columns (is_digit b) (suc k) x)) next (places_below (is_digit b) (suc k) x))
  where
    next : suc k + length x ≡ k + suc (length x)
    next = omega arith

    go : (u : Bool) → All (λ p. p < k + suc (length x)) (number_columns (is_digit b) (suc k) x)
        → All (λ p. p < k + suc (length x)) (cond u (k ∷ number_columns (is_digit b) (suc k) x) (number_columns (is_digit b) (suc k) x))
    go true a = also {x = k} (omega arith) a
    go false a = a

-- every place of a number lies inside the text
pub places_inside : (x : List ℕ) → All (λ p. p < length x) (number_columns false 0 x)
places_inside x = subst (λ (n : ℕ). All (λ p. p < n) (number_columns false 0 x)) (let z : 0 + length x ≡ length x = omega arith in z) (places_below false 0 x)
