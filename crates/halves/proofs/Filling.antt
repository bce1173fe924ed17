-- A loop that writes one list over another, an element a turn. From left to right, before turn j the first j are the new list's and the others
-- the old one's; from right to left it is the other way round, the old list over the new one. It holds since each store is at the seam.
use mathlib.Core.Path.{◌≡◌, refl, sym, ap, ◌∙◌}
use mathlib.Core.List.{List, ◌++◌, append-nil}
use Prim.Native.Nat.{ℕ, suc, ◌+◌, ◌-◌, ◌≤◌, ◌<◌}
use native.Mathlib.Numerals.{add-one}
use native.Mathlib.Omega.{arith}
use lib.ListN.{length, take, drop, get_or, set, length-set, drop_of_length-le}
use lib.Seq.{take_all, take-suc, take-take, take-append-le, drop-cons, set_at, append_snoc, length-take-le}

-- d is t over old as far as place j
pub record Filling (t old d : List ℕ) (j : ℕ) : Type 0 where
  pub upto : j ≤ length old
  pub is : d ≡ take j t ++ drop j old
  pub same : length d ≡ length old

-- ---- from left to right

pub fill_start : (t old : List ℕ) → Filling t old old 0
fill_start t old = record { upto = omega arith; is = refl; same = refl }

stored : (t old : List ℕ) (j : ℕ) → length t ≡ length old → j < length old → set (take j t ++ drop j old) j (get_or t j 0) ≡ take (j + 1) t ++ drop (j + 1) old
stored t old j e h =
    rw (drop-cons old j 0 h)
    (set_at (take j t) (get_or old j 0) (drop (suc j) old) (get_or t j 0) j (length-take-le j t (omega arith))
    ∙ sym (append_snoc (take j t) (get_or t j 0) (drop (suc j) old))
    ∙ rw (add-one, take-suc t j 0 (omega arith)) refl)

module _ {t old d : List ℕ} {j : ℕ} (long : length t ≡ length old) where
  pub fill_more : (b : ℕ) → j < length old → b ≡ get_or t j 0 → Filling t old d j → Filling t old (set d j b) (j + 1)
  fill_more b h e f = record { upto = omega arith; is = rw (e, f.is) (stored t old j long h); same = length-set d j b ∙ f.same }

  pub fill_end : length old ≤ j → Filling t old d j → d ≡ t
  fill_end h f = f.is ∙ rw (take_all j t (omega arith), drop_of_length-le old h, append-nil) refl

-- ---- from right to left: what stands from the seam on is the new list's right end

pub left_start : (t old : List ℕ) → length t ≡ length old → Filling old t old (length old)
left_start t old e =
    let at_end : length t ≤ length old = omega arith in
    record { upto = omega arith; is = sym (rw (take_all (length old) old (omega arith), drop_of_length-le t at_end, append-nil) refl); same = sym e }

stored_left : (t old : List ℕ) (j : ℕ) → length t ≡ length old → j < length old → set (take (suc j) old ++ drop (suc j) t) j (get_or t j 0) ≡ take j old ++ drop j t
stored_left t old j e h =
    rw (take-suc old j 0 h, append_snoc (take j old) (get_or old j 0) (drop (suc j) t))
    (set_at (take j old) (get_or old j 0) (drop (suc j) t) (get_or t j 0) j (length-take-le j old (omega arith))
    ∙ rw (drop-cons t j 0 (omega arith)) refl)

module _ {t old d : List ℕ} {j : ℕ} (long : length t ≡ length old) where
  pub left_more : (b : ℕ) → 0 < j → b ≡ get_or t (j - 1) 0 → Filling old t d j → Filling old t (set d (j - 1) b) (j - 1)
  left_more b h e f =
      let seam : j ≡ suc (j - 1) = omega arith in
      record {
        upto = omega (arith, f.upto);
        is = rw (e, f.is) (ap (λ (i : ℕ). set (take i old ++ drop i t) (j - 1) (get_or t (j - 1) 0)) seam ∙ stored_left t old (j - 1) long (omega (arith, f.upto)));
        same = length-set d (j - 1) b ∙ f.same;
      }

  pub left_end : j ≤ 0 → Filling old t d j → d ≡ t
  left_end h f = let first : j ≡ 0 = omega arith in f.is ∙ ap (λ (i : ℕ). take i old ++ drop i t) first

module _ {t old d : List ℕ} {j : ℕ} (long : length t ≡ length old) where
  -- two elements a turn, wherever their places are counted from
  pub left_two : (a b x y k : ℕ) → x + 1 ≡ j → y + 1 ≡ x → k ≡ y → a ≡ get_or t x 0 → b ≡ get_or t y 0 → Filling old t d j → Filling old t (set (set d x a) y b) k
  left_two a b x y k e f g p q w =
      let first : x ≡ j - 1 = omega arith in
      let second : y ≡ j - 1 - 1 = omega arith in
      rw (g, second, first) (left_more long b (omega arith) (rw second at q) (left_more long a (omega arith) (rw first at p) w))

-- ---- from right to left in two goes

-- what is before the seam of a list that is filled so far is what was there at first
before_seam : (t old d : List ℕ) (j k : ℕ) → j ≤ k → k ≤ length old → d ≡ take k old ++ drop k t → take j d ≡ take j old
before_seam t old d j k l m e =
    ap (take j) e ∙ take-append-le j (take k old) (drop k t) (omega (arith, length-take-le k old m)) ∙ take-take j k old l

module _ {t old d : List ℕ} {k : ℕ} (long : length t ≡ length old) where
  -- a go that starts where another ended starts with what that left
  pub left_on : Filling old t d k → Filling d t d k
  left_on f =
      record {
        upto = f.upto;
        is = f.is ∙ ap (λ (z : List ℕ). z ++ drop k t) (sym (before_seam t old d k k (omega arith) (omega (arith, f.upto)) f.is));
        same = f.same;
      }

  -- and what it leaves is what one go over both would have left
  pub left_both : {e : List ℕ} {j : ℕ} → j ≤ k → Filling old t d k → Filling d t e j → Filling old t e j
  left_both {e} {j} l f g =
      record {
        upto = g.upto;
        is = g.is ∙ ap (λ (z : List ℕ). z ++ drop j t) (before_seam t old d j k l (omega (arith, f.upto)) f.is);
        same = g.same;
      }
