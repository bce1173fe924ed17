-- What stands at each place of a packed field, of an unpacked field, and of an output with a field put over it: for halves of any type, over
-- the sizes and the zone. A converted field is a part that ends as the digits do, and behind it the last byte turned about, so what stands at
-- a place is found by the place's distance from the end.
use mathlib.Core.Path.{◌≡◌, refl, ap, ap₂, sym, ◌∙◌}
use mathlib.Core.List.{List, [], ◌∷◌, ◌++◌, reverse, append-nil, append_assoc}
use Prim.Native.Nat.{ℕ, zero, suc, ◌+◌, ◌-◌, ◌*◌, ◌/◌, ◌≤◌, ◌<◌}
use native.Mathlib.Nat.{not-suc-le-zero, add-zero}
use native.Mathlib.Omega.{arith}
use lib.ListN.{length, take, drop, get_or, replicate, length-append, length-take, length-drop, length-replicate, get_or-replicate, get_or-append, take-append-drop, drop_of_length-le}
use lib.Seq.{get_or-append-add, get_or-drop, get_or-take, take_at, take-append-le, take-append-add, drop-append-le, drop-append-add, drop_at, drop-drop, paste, take-length}
use Rattle.rules.specs.Base.{flush}
use Rattle.rules.specs.Halves.{lows, last_byte, others, over, Constant, made, packed, zoned, unpacked}
use Rattle.rules.proofs.Halves.SizeLaws.{length_flush, length_zoned, length_over}

-- ---- parts of a field

module _ {A : Type 0} where
  -- the part of an append past its first list
  past_append : (xs ys : List A) (d : A) (j i : ℕ) → j ≡ length xs + i → get_or (xs ++ ys) j d ≡ get_or ys i d
  past_append xs ys d j i e = ap (λ (g : ℕ). get_or (xs ++ ys) g d) e ∙ get_or-append-add xs ys i d

  -- place j of n is a fill where the list does not reach it
  flush_fill : (n : ℕ) (e : A) (xs : List A) (j : ℕ) (d : A) → j + length xs < n → get_or (flush n e xs) j d ≡ e
  unfolding flush
  flush_fill n e xs j d h =
      get_or-append (replicate (n - length xs) e) _ d j (omega (arith, length-replicate (n - length xs) e))
      ∙ get_or-replicate (n - length xs) j e d (omega arith)

  -- else it is as far from the end as in the list
  flush_at : (n : ℕ) (e : A) (xs : List A) (j i : ℕ) (d : A) → j + length xs ≡ i + n → get_or (flush n e xs) j d ≡ get_or xs i d
  unfolding flush
  flush_at n e xs j i d h =
      past_append (replicate (n - length xs) e) (drop (length xs - n) xs) d j (j - (n - length xs)) (omega (arith, length-replicate (n - length xs) e))
      ∙ get_or-drop (length xs - n) xs _ d
      ∙ ap (λ (g : ℕ). get_or xs g d) (let z : length xs - n + (j - (n - length xs)) ≡ i = omega arith in z)

  length_lows : (xs : List A) → length (lows xs) ≡ length xs / 2
  length_lows [] = refl
  length_lows (h ∷ []) = refl
  length_lows (h ∷ (l ∷ rest)) = omega (arith, length_lows rest)

  lows_at : (xs : List A) (i j : ℕ) (d : A) → j ≡ 2 * i + 1 → j < length xs → get_or (lows xs) i d ≡ get_or xs j d
  lows_at [] i j d e h = absurd (not-suc-le-zero h)
  lows_at (x ∷ []) i j d e h = absurd (omega arith)
  lows_at (x ∷ (l ∷ rest)) zero j d e h = ap (λ (g : ℕ). get_or (x ∷ l ∷ rest) g d) (let z : 1 ≡ j = omega arith in z)
  lows_at (x ∷ (l ∷ rest)) (suc i) j d e h =
      lows_at rest i (2 * i + 1) d refl (omega arith) ∙ ap (λ (g : ℕ). get_or (x ∷ l ∷ rest) g d) (let z : suc (suc (2 * i + 1)) ≡ j = omega arith in z)

  length_others : (xs : List A) → length (others xs) ≡ length xs - 2
  unfolding others
  length_others xs = length-take (length xs - 2) xs ∙ omega arith

  others_at : (xs : List A) (i : ℕ) (d : A) → i + 2 < length xs → get_or (others xs) i d ≡ get_or xs i d
  unfolding others
  others_at xs i d h = get_or-take (length xs - 2) xs i d (omega arith)

  turned : (xs : List A) (d : A) → length xs ≡ 2 → reverse xs ≡ get_or xs 1 d ∷ get_or xs 0 d ∷ []
  turned [] d e = absurd (omega arith)
  turned (x ∷ []) d e = absurd (omega arith)
  turned (x ∷ (y ∷ [])) d e = refl
  turned (x ∷ (y ∷ (z ∷ zs))) d e = absurd (omega arith)

  -- the last byte, its halves in each other's places
  last_turned : (xs : List A) (d : A) → 2 ≤ length xs → reverse (last_byte xs) ≡ get_or xs (length xs - 1) d ∷ get_or xs (length xs - 2) d ∷ []
  unfolding last_byte
  last_turned xs d h =
      turned (drop (length xs - 2) xs) d (length-drop (length xs - 2) xs ∙ omega arith)
      ∙ ap₂ (λ (a b : A). a ∷ b ∷ [])
      (get_or-drop (length xs - 2) xs 1 d ∙ ap (λ (i : ℕ). get_or xs i d) (let p : length xs - 2 + 1 ≡ length xs - 1 = omega arith in p))
      (get_or-drop (length xs - 2) xs 0 d ∙ ap (λ (i : ℕ). get_or xs i d) (let q : length xs - 2 + 0 ≡ length xs - 2 = omega arith in q))

  module _ (zone : ℕ) (k : Constant → A) where
    zoned_high : (xs : List A) (i g : ℕ) (d : A) → g ≡ 2 * i → i < length xs → get_or (zoned zone k xs) g d ≡ k (made zone)
    zoned_high [] i g d e h = absurd (not-suc-le-zero h)
    zoned_high (x ∷ xs) zero g d e h = ap (λ (j : ℕ). get_or (zoned zone k (x ∷ xs)) j d) (let z : g ≡ 0 = omega arith in z)
    zoned_high (x ∷ xs) (suc i) g d e h =
        ap (λ (j : ℕ). get_or (zoned zone k (x ∷ xs)) j d) (let z : g ≡ suc (suc (2 * i)) = omega arith in z) ∙ zoned_high xs i (2 * i) d refl (omega arith)

    zoned_low : (xs : List A) (i g : ℕ) (d : A) → g ≡ 2 * i + 1 → get_or (zoned zone k xs) g d ≡ get_or xs i d
    zoned_low [] i g d e = refl
    zoned_low (x ∷ xs) zero g d e = ap (λ (j : ℕ). get_or (zoned zone k (x ∷ xs)) j d) (let z : g ≡ 1 = omega arith in z)
    zoned_low (x ∷ xs) (suc i) g d e =
        ap (λ (j : ℕ). get_or (zoned zone k (x ∷ xs)) j d) (let z : g ≡ suc (suc (2 * i + 1)) = omega arith in z) ∙ zoned_low xs i (2 * i + 1) d refl

-- ---- the halves of a packed field, for an input of n bytes; digits are counted from the right, from 0

module _ {A : Type 0} (k : Constant → A) (xs : List A) (e : A) (n m : ℕ) (whole : length xs ≡ 2 * n) (hn : 1 ≤ n) (hm : 1 ≤ m) where
  digits : List A
  digits = flush (2 * m - 2) (k (made 0)) (lows (others xs))

  length_digits : length digits ≡ 2 * m - 2
  unfolding digits
  length_digits = length_flush (2 * m - 2) (k (made 0)) (lows (others xs))

  packed_is : packed k m xs ≡ digits ++ (get_or xs (length xs - 1) e ∷ get_or xs (length xs - 2) e ∷ [])
  unfolding packed digits
  packed_is = ap (λ (r : List A). digits ++ r) (last_turned xs e (omega arith))

  length_low : length (lows (others xs)) ≡ n - 1
  length_low = omega (arith, length_lows (others xs), length_others xs)

  -- the last byte's low half stands in its high half
  pub packed_last_high : (g i : ℕ) → g + 2 ≡ 2 * m → i + 1 ≡ 2 * n → get_or (packed k m xs) g e ≡ get_or xs i e
  packed_last_high g i p q =
      ap (λ (r : List A). get_or r g e) packed_is
      ∙ past_append digits (get_or xs (length xs - 1) e ∷ get_or xs (length xs - 2) e ∷ []) e g 0 (omega (arith, length_digits))
      ∙ ap (λ (j : ℕ). get_or xs j e) (let z : length xs - 1 ≡ i = omega arith in z)

  -- and its high half in the low half
  pub packed_last_low : (g i : ℕ) → g + 1 ≡ 2 * m → i + 2 ≡ 2 * n → get_or (packed k m xs) g e ≡ get_or xs i e
  packed_last_low g i p q =
      ap (λ (r : List A). get_or r g e) packed_is
      ∙ past_append digits (get_or xs (length xs - 1) e ∷ get_or xs (length xs - 2) e ∷ []) e g 1 (omega (arith, length_digits))
      ∙ ap (λ (j : ℕ). get_or xs j e) (let z : length xs - 2 ≡ i = omega arith in z)

  packed_front : (g : ℕ) → g + 2 < 2 * m → get_or (packed k m xs) g e ≡ get_or digits g e
  packed_front g h = ap (λ (r : List A). get_or r g e) packed_is ∙ get_or-append digits _ e g (omega (arith, length_digits))

  -- digit d is the low half of the byte d before the last but one
  pub packed_digit : (g i d : ℕ) → g + d + 3 ≡ 2 * m → i + 2 * d + 3 ≡ 2 * n → get_or (packed k m xs) g e ≡ get_or xs i e
  unfolding digits
  packed_digit g i d p q =
      packed_front g (omega arith)
      ∙ flush_at (2 * m - 2) (k (made 0)) (lows (others xs)) g (n - 2 - d) e (omega (arith, length_low))
      ∙ lows_at (others xs) (n - 2 - d) i e (omega arith) (omega (arith, length_others xs))
      ∙ others_at xs i e (omega arith)

  -- or 0 where there is none
  pub packed_fill : (g d : ℕ) → g + d + 3 ≡ 2 * m → n ≤ d + 1 → get_or (packed k m xs) g e ≡ k (made 0)
  unfolding digits
  packed_fill g d p q = packed_front g (omega arith) ∙ flush_fill (2 * m - 2) (k (made 0)) (lows (others xs)) g e (omega (arith, length_low))

-- ---- the halves of an unpacked field, for an input of w halves

module _ {A : Type 0} (zone : ℕ) (k : Constant → A) (xs : List A) (e : A) (w m : ℕ) (whole : length xs ≡ w) (hw : 2 ≤ w) (hm : 1 ≤ m) where
  spread : List A
  spread = flush (m - 1) (k (made 0)) (others xs)

  length_spread : length spread ≡ m - 1
  unfolding spread
  length_spread = length_flush (m - 1) (k (made 0)) (others xs)

  unpacked_is : unpacked zone k m xs ≡ zoned zone k spread ++ (get_or xs (length xs - 1) e ∷ get_or xs (length xs - 2) e ∷ [])
  unfolding unpacked spread
  unpacked_is = ap (λ (r : List A). zoned zone k spread ++ r) (last_turned xs e (omega arith))

  pub unpacked_last_high : (g i : ℕ) → g + 2 ≡ 2 * m → i + 1 ≡ w → get_or (unpacked zone k m xs) g e ≡ get_or xs i e
  unpacked_last_high g i p q =
      ap (λ (r : List A). get_or r g e) unpacked_is
      ∙ past_append (zoned zone k spread) (get_or xs (length xs - 1) e ∷ get_or xs (length xs - 2) e ∷ []) e g 0 (omega (arith, length_zoned zone k spread, length_spread))
      ∙ ap (λ (j : ℕ). get_or xs j e) (let z : length xs - 1 ≡ i = omega arith in z)

  pub unpacked_last_low : (g i : ℕ) → g + 1 ≡ 2 * m → i + 2 ≡ w → get_or (unpacked zone k m xs) g e ≡ get_or xs i e
  unpacked_last_low g i p q =
      ap (λ (r : List A). get_or r g e) unpacked_is
      ∙ past_append (zoned zone k spread) (get_or xs (length xs - 1) e ∷ get_or xs (length xs - 2) e ∷ []) e g 1 (omega (arith, length_zoned zone k spread, length_spread))
      ∙ ap (λ (j : ℕ). get_or xs j e) (let z : length xs - 2 ≡ i = omega arith in z)

  unpacked_front : (g : ℕ) → g + 2 < 2 * m → get_or (unpacked zone k m xs) g e ≡ get_or (zoned zone k spread) g e
  unpacked_front g h =
      ap (λ (r : List A). get_or r g e) unpacked_is ∙ get_or-append (zoned zone k spread) _ e g (omega (arith, length_zoned zone k spread, length_spread))

  -- the zone in each high half but the last
  pub unpacked_zone : (g i : ℕ) → g ≡ 2 * i → i + 1 < m → get_or (unpacked zone k m xs) g e ≡ k (made zone)
  unpacked_zone g i p h = unpacked_front g (omega arith) ∙ zoned_high zone k spread i g e p (omega (arith, length_spread))

  -- digit d is the half d before the last byte
  pub unpacked_digit : (g i d : ℕ) → g + 2 * d + 3 ≡ 2 * m → i + d + 3 ≡ w → get_or (unpacked zone k m xs) g e ≡ get_or xs i e
  unfolding spread
  unpacked_digit g i d p q =
      unpacked_front g (omega arith)
      ∙ zoned_low zone k spread (m - 2 - d) g e (omega arith)
      ∙ flush_at (m - 1) (k (made 0)) (others xs) (m - 2 - d) i e (omega (arith, length_others xs))
      ∙ others_at xs i e (omega arith)

  -- or 0 where there is none
  pub unpacked_fill : (g d : ℕ) → g + 2 * d + 3 ≡ 2 * m → w ≤ d + 2 → get_or (unpacked zone k m xs) g e ≡ k (made 0)
  unfolding spread
  unpacked_fill g d p h =
      unpacked_front g (omega arith)
      ∙ zoned_low zone k spread (m - 2 - d) g e (omega arith)
      ∙ flush_fill (m - 1) (k (made 0)) (others xs) (m - 2 - d) e (omega (arith, length_others xs))

-- ---- what is put over an output

module _ {A : Type 0} (i : ℕ) (vs out : List A) (e : A) (fits : i + length vs ≤ length out) where
  pub over_inside : (g j : ℕ) → g ≡ i + j → j < length vs → get_or (over i vs out) g e ≡ get_or vs j e
  unfolding over
  over_inside g j p h =
      get_or-append (take i out ++ vs) _ e g (omega (arith, length-append (take i out) vs, length-take i out))
      ∙ past_append (take i out) vs e g j (omega (arith, length-take i out))

  pub over_before : (g : ℕ) → g < i → get_or (over i vs out) g e ≡ get_or out g e
  unfolding over
  over_before g h =
      get_or-append (take i out ++ vs) _ e g (omega (arith, length-append (take i out) vs, length-take i out))
      ∙ get_or-append (take i out) vs e g (omega (arith, length-take i out))
      ∙ get_or-take i out g e h

  pub over_after : (g : ℕ) → i + length vs ≤ g → get_or (over i vs out) g e ≡ get_or out g e
  unfolding over
  over_after g h =
      past_append (take i out ++ vs) (drop (i + length vs) out) e g (g - (i + length vs)) (omega (arith, length-append (take i out) vs, length-take i out))
      ∙ get_or-drop (i + length vs) out _ e
      ∙ ap (λ (j : ℕ). get_or out j e) (let z : i + length vs + (g - (i + length vs)) ≡ g = omega arith in z)

module _ {A : Type 0} where
  -- nothing put over an output
  pub over_nothing : (i : ℕ) (out : List A) → over i [] out ≡ out
  unfolding over
  over_nothing i out = rw (append-nil, add-zero) (take-append-drop i out)

  -- one part behind another
  pub over_behind : (i g : ℕ) (vs ws out : List A) → g ≡ i + length vs → g + length ws ≤ length out → over g ws (over i vs out) ≡ over i (vs ++ ws) out
  unfolding over
  over_behind i g vs ws out e h =
      let front : length (take i out ++ vs) ≡ g = length-append (take i out) vs ∙ omega (arith, length-take i out) in
      ap₂ (λ (a b : List A). a ++ ws ++ b)
      (take_at (take i out ++ vs) (drop (i + length vs) out) g front)
      (ap (λ (j : ℕ). drop (j + length ws) (take i out ++ vs ++ drop (i + length vs) out)) (sym front)
      ∙ drop-append-add (take i out ++ vs) (drop (i + length vs) out) (length ws)
      ∙ drop-drop (length ws) (i + length vs) out)
      ∙ ap₂ (λ (a b : List A). a ++ b) (append_assoc (take i out) vs ws) (ap (λ (j : ℕ). drop j out) (let z : i + length vs + length ws ≡ i + length (vs ++ ws) = omega (arith, length-append vs ws) in z))

  -- what follows the output stays
  pub over_append : (i : ℕ) (vs out rest : List A) → i + length vs ≤ length out → over i vs (out ++ rest) ≡ over i vs out ++ rest
  unfolding over
  over_append i vs out rest h =
      ap₂ (λ (a b : List A). a ++ vs ++ b) (take-append-le i out rest (omega arith)) (drop-append-le (i + length vs) out rest h)
      ∙ sym (append_assoc (take i out ++ vs) (drop (i + length vs) out) rest)

  -- all of an output put anew
  pub over_whole : (vs out : List A) → length out ≤ length vs → over 0 vs out ≡ vs
  unfolding over
  over_whole vs out h = ap (vs ++◌) (drop_of_length-le out (let l : length out ≤ 0 + length vs = omega arith in l)) ∙ append-nil vs

  -- past a front
  over_past : (front out vs : List A) (i k : ℕ) → i ≡ length front + k → over i vs (front ++ out) ≡ front ++ over k vs out
  unfolding over
  over_past front out vs i k e =
      ap₂ (λ (a b : List A). a ++ vs ++ b)
      (ap (λ (j : ℕ). take j (front ++ out)) e ∙ take-append-add front out k)
      (ap (λ (j : ℕ). drop j (front ++ out)) (let z : i + length vs ≡ length front + (k + length vs) = omega arith in z) ∙ drop-append-add front out (k + length vs))
      ∙ ap (◌++ drop (k + length vs) out) (append_assoc front (take k out) vs)
      ∙ append_assoc front (take k out ++ vs) (drop (k + length vs) out)

  -- as long as what stood at the front
  over_front : (old new rest : List A) → length new ≡ length old → over 0 new (old ++ rest) ≡ new ++ rest
  unfolding over
  over_front old new rest e = ap (new ++◌) (drop_at old rest (0 + length new) (omega arith))

  -- before what was put
  pub over_apart : (g i : ℕ) (ws vs out : List A) → g + length ws ≤ i → i ≤ length out → over g ws (over i vs out) ≡ over i vs (over g ws out)
  unfolding over
  over_apart g i ws vs out l m =
      let a = take i out in
      let b = drop i out in
      let k : length a ≡ i = length-take i out ∙ omega arith in
      let n : length (over g ws a) ≡ i = length_over g ws a (omega arith) ∙ k in
      ap (over g ws) (append_assoc a vs (drop (i + length vs) out))
      ∙ over_append g ws a (vs ++ drop (i + length vs) out) (omega arith)
      ∙ ap (λ (r : List A). over g ws a ++ (vs ++ r)) (sym (drop-drop (length vs) i out) ∙ ap (λ (j : ℕ). drop j b) (let z : length vs ≡ 0 + length vs = omega arith in z))
      ∙ sym (over_past (over g ws a) b vs i 0 (omega arith))
      ∙ ap (over i vs) (sym (over_append g ws a b (omega arith)) ∙ ap (over g ws) (take-append-drop i out))

  -- inside it: as long as a part of it
  pub over_part : (i g : ℕ) (front old new rest out : List A) → g ≡ i + length front → length new ≡ length old → i ≤ length out
      → over g new (over i (front ++ (old ++ rest)) out) ≡ over i (front ++ (new ++ rest)) out
  unfolding over
  over_part i g front old new rest out e same m =
      let a = take i out in
      let k : length a ≡ i = length-take i out ∙ omega arith in
      let vs = front ++ (old ++ rest) in
      let ws = front ++ (new ++ rest) in
      let z : i + length vs ≡ i + length ws
      = omega (arith, length-append front (old ++ rest), length-append front (new ++ rest), length-append old rest, length-append new rest) in
      ap (over g new) (append_assoc a vs (drop (i + length vs) out))
      ∙ over_past a (vs ++ drop (i + length vs) out) new g (length front) (omega arith)
      ∙ ap (λ (r : List A). a ++ over (length front) new r) (append_assoc front (old ++ rest) (drop (i + length vs) out))
      ∙ ap (a ++◌) (over_past front ((old ++ rest) ++ drop (i + length vs) out) new (length front) 0 (omega arith))
      ∙ ap (λ (r : List A). a ++ (front ++ over 0 new r)) (append_assoc old rest (drop (i + length vs) out))
      ∙ ap (λ (r : List A). a ++ (front ++ r)) (over_front old new (rest ++ drop (i + length vs) out) same ∙ sym (append_assoc new rest (drop (i + length vs) out)))
      ∙ ap (a ++◌) (sym (append_assoc front (new ++ rest) (drop (i + length vs) out)))
      ∙ ap (λ (j : ℕ). a ++ (ws ++ drop j out)) z
      ∙ sym (append_assoc a ws (drop (i + length ws) out))

  -- what a loop that stores element by element leaves (`paste-suc` is its step)
  pub over_paste : (i : ℕ) (vs out : List A) → over i vs out ≡ paste out i vs (length vs)
  unfolding over
  over_paste i vs out = rw take-length
