-- Pack and unpack undo one another where no digit is dropped, and a short field keeps exactly the digits on the right: for halves of any
-- type. By their places: at each place the one conversion takes back what the other has put there.
use mathlib.Core.Path.{◌≡◌, refl, ap, sym, subst, ◌∙◌}
use mathlib.Core.Logic.{◌⊎◌, inl, inr, ◌↔◌}
use mathlib.Core.Bool.{Bool, true, false}
use mathlib.Core.List.{List}
use Prim.Native.Nat.{ℕ, zero, suc, ◌+◌, ◌-◌, ◌*◌, ◌/◌, ◌%◌, ◌≤◌, ◌<◌}
use native.Mathlib.Nat.{eq-or-lt_of_le}
use native.Mathlib.Omega.{arith}
use lib.Dec.{leb}
use lib.ListN.{length, drop, get_or, length-drop}
use lib.Seq.{get_or-drop, ext_get_or}
use borrow.Author.Tests.{leb-true, leb-false}
use Rattle.rules.specs.Halves.{Constant, made, packed, unpacked}
use Rattle.rules.proofs.Halves.SizeLaws.{length_packed, length_unpacked}
use Rattle.rules.proofs.Halves.PlaceLaws.{packed_last_high, packed_last_low, packed_digit, unpacked_last_high, unpacked_last_low, unpacked_zone, unpacked_digit}

-- a place of w halves: before the last byte, or its high half, or its low half
places : (w g : ℕ) → g < w → (g + 2 < w) ⊎ ((g + 2 ≡ w) ⊎ (g + 1 ≡ w))
places w g h = go (eq-or-lt_of_le h)
  where
    next : (suc (suc g) ≡ w) ⊎ (suc (suc g) < w) → (g + 2 < w) ⊎ ((g + 2 ≡ w) ⊎ (g + 1 ≡ w))
    next (inl p) = inr (inl (omega arith))
    next (inr p) = inl (omega arith)

    go : (suc g ≡ w) ⊎ (suc g < w) → (g + 2 < w) ⊎ ((g + 2 ≡ w) ⊎ (g + 1 ≡ w))
    go (inl p) = inr (inr (omega arith))
    go (inr p) = next (eq-or-lt_of_le p)

-- a place is the high or the low half of a byte
parity : (g : ℕ) → (g ≡ 2 * (g / 2)) ⊎ (g ≡ 2 * (g / 2) + 1)
parity g = go (g % 2) refl
  where
    go : (r : ℕ) → g % 2 ≡ r → (g ≡ 2 * (g / 2)) ⊎ (g ≡ 2 * (g / 2) + 1)
    go zero p = inl (omega arith)
    go (suc r) p = inr (omega arith)

module _ {A : Type 0} (e : A) where
  -- lists of n bytes are equal if their halves are, place by place
  by_place : (n : ℕ) (xs ys : List A) → length xs ≡ 2 * n → length ys ≡ 2 * n
      → ((g : ℕ) → g + 2 < 2 * n → get_or xs g e ≡ get_or ys g e)
      → ((g : ℕ) → g + 2 ≡ 2 * n → get_or xs g e ≡ get_or ys g e)
      → ((g : ℕ) → g + 1 ≡ 2 * n → get_or xs g e ≡ get_or ys g e)
      → xs ≡ ys
  by_place n xs ys p q front high low = ext_get_or e xs ys (p ∙ sym q) (λ g h. go g (places (2 * n) g (omega arith)))
    where
      go : (g : ℕ) → (g + 2 < 2 * n) ⊎ ((g + 2 ≡ 2 * n) ⊎ (g + 1 ≡ 2 * n)) → get_or xs g e ≡ get_or ys g e
      go g (inl h) = front g h
      go g (inr (inl h)) = high g h
      go g (inr (inr h)) = low g h

  module _ (zone : ℕ) (k : Constant → A) (xs : List A) (n m : ℕ) (whole : length xs ≡ 2 * n) (hn : 1 ≤ n) (hm : 1 ≤ m) where
    long : 2 ≤ length xs
    long = omega arith

    length_p : length (packed k m xs) ≡ 2 * m
    length_p = length_packed k m xs hm long

    length_u : length (unpacked zone k m xs) ≡ 2 * m
    length_u = length_unpacked zone k m xs hm long

    -- unpack takes back what pack has made, where the zone stood in each high half but the last
    pub unpacked_packed : n ≤ 2 * m - 1 → ((i : ℕ) → i + 1 < n → get_or xs (2 * i) e ≡ k (made zone)) → unpacked zone k n (packed k m xs) ≡ xs
    unpacked_packed short zones =
        by_place n (unpacked zone k n (packed k m xs)) xs (length_unpacked zone k n (packed k m xs) hn (omega (arith, length_p))) whole
        (λ g h. front g h (parity g))
        (λ g h. unpacked_last_high zone k (packed k m xs) e (2 * m) n length_p (omega arith) hn g (2 * m - 1) h (omega arith)
        ∙ packed_last_low k xs e n m whole hn hm (2 * m - 1) g (omega arith) h)
        (λ g h. unpacked_last_low zone k (packed k m xs) e (2 * m) n length_p (omega arith) hn g (2 * m - 2) h (omega arith)
        ∙ packed_last_high k xs e n m whole hn hm (2 * m - 2) g (omega arith) h)
      where
        front : (g : ℕ) → g + 2 < 2 * n → (g ≡ 2 * (g / 2)) ⊎ (g ≡ 2 * (g / 2) + 1) → get_or (unpacked zone k n (packed k m xs)) g e ≡ get_or xs g e
        front g h (inl p) =
            unpacked_zone zone k (packed k m xs) e (2 * m) n length_p (omega arith) hn g (g / 2) p (omega arith)
            ∙ sym (zones (g / 2) (omega arith)) ∙ ap (λ (i : ℕ). get_or xs i e) (sym p)
        front g h (inr p) =
            unpacked_digit zone k (packed k m xs) e (2 * m) n length_p (omega arith) hn g (2 * m - 3 - (n - 2 - g / 2)) (n - 2 - g / 2) (omega arith) (omega arith)
            ∙ packed_digit k xs e n m whole hn hm (2 * m - 3 - (n - 2 - g / 2)) g (n - 2 - g / 2) (omega arith) (omega arith)

    -- pack takes back what unpack has made
    pub packed_unpacked : 2 * n - 1 ≤ m → packed k n (unpacked zone k m xs) ≡ xs
    packed_unpacked short =
        by_place n (packed k n (unpacked zone k m xs)) xs (length_packed k n (unpacked zone k m xs) hn (omega (arith, length_u))) whole
        (λ g h. packed_digit k (unpacked zone k m xs) e m n length_u hm hn g (2 * m - 3 - 2 * (2 * n - 3 - g)) (2 * n - 3 - g) (omega arith) (omega arith)
        ∙ unpacked_digit zone k xs e (2 * n) m whole (omega arith) hm (2 * m - 3 - 2 * (2 * n - 3 - g)) g (2 * n - 3 - g) (omega arith) (omega arith))
        (λ g h. packed_last_high k (unpacked zone k m xs) e m n length_u hm hn g (2 * m - 1) h (omega arith)
        ∙ unpacked_last_low zone k xs e (2 * n) m whole (omega arith) hm (2 * m - 1) g (omega arith) h)
        (λ g h. packed_last_low k (unpacked zone k m xs) e m n length_u hm hn g (2 * m - 2) h (omega arith)
        ∙ unpacked_last_high zone k xs e (2 * n) m whole (omega arith) hm (2 * m - 2) g (omega arith) h)

    -- c bytes in front make no difference where as many stay as m bytes have digits and a sign
    pub packed_kept : (c : ℕ) → c + (2 * m - 1) ≤ n → packed k m xs ≡ packed k m (drop (2 * c) xs)
    packed_kept c room =
        by_place m (packed k m xs) (packed k m (drop (2 * c) xs)) length_p (length_packed k m (drop (2 * c) xs) hm (omega (arith, rest)))
        (λ g h. digit g (2 * m - 3 - g) (2 * n - 2 * c - 3 - 2 * (2 * m - 3 - g)) (omega arith) (omega arith))
        (λ g h. packed_last_high k xs e n m whole hn hm g (2 * n - 1) h (omega arith)
        ∙ behind (2 * n - 1) (2 * (n - c) - 1) (omega arith)
        ∙ sym (packed_last_high k (drop (2 * c) xs) e (n - c) m rest (omega arith) hm g (2 * (n - c) - 1) h (omega arith)))
        (λ g h. packed_last_low k xs e n m whole hn hm g (2 * n - 2) h (omega arith)
        ∙ behind (2 * n - 2) (2 * (n - c) - 2) (omega arith)
        ∙ sym (packed_last_low k (drop (2 * c) xs) e (n - c) m rest (omega arith) hm g (2 * (n - c) - 2) h (omega arith)))
      where
        rest : length (drop (2 * c) xs) ≡ 2 * (n - c)
        rest = length-drop (2 * c) xs ∙ omega arith

        behind : (i j : ℕ) → i ≡ 2 * c + j → get_or xs i e ≡ get_or (drop (2 * c) xs) j e
        behind i j p = ap (λ (h : ℕ). get_or xs h e) p ∙ sym (get_or-drop (2 * c) xs j e)

        digit : (g d j : ℕ) → g + d + 3 ≡ 2 * m → 2 * c + j + 2 * d + 3 ≡ 2 * n → get_or (packed k m xs) g e ≡ get_or (packed k m (drop (2 * c) xs)) g e
        digit g d j p q =
            packed_digit k xs e n m whole hn hm g (2 * c + j) d p q
            ∙ behind (2 * c + j) j refl
            ∙ sym (packed_digit k (drop (2 * c) xs) e (n - c) m rest (omega arith) hm g j d p (omega arith))

  -- c halves in front make no difference where as many stay as m bytes have, less the zones
  module _ (zone : ℕ) (k : Constant → A) (xs : List A) (m : ℕ) (hw : 2 ≤ length xs) (hm : 1 ≤ m) where
    pub unpacked_kept : (c : ℕ) → c + (m + 1) ≤ length xs → unpacked zone k m xs ≡ unpacked zone k m (drop c xs)
    unpacked_kept c room =
        by_place m (unpacked zone k m xs) (unpacked zone k m (drop c xs)) (length_unpacked zone k m xs hm hw) (length_unpacked zone k m (drop c xs) hm (omega (arith, rest)))
        (λ g h. front g h (parity g))
        (λ g h. unpacked_last_high zone k xs e (length xs) m refl hw hm g (length xs - 1) h (omega arith)
        ∙ behind (length xs - 1) (length xs - c - 1) (omega arith)
        ∙ sym (unpacked_last_high zone k (drop c xs) e (length xs - c) m rest (omega arith) hm g (length xs - c - 1) h (omega arith)))
        (λ g h. unpacked_last_low zone k xs e (length xs) m refl hw hm g (length xs - 2) h (omega arith)
        ∙ behind (length xs - 2) (length xs - c - 2) (omega arith)
        ∙ sym (unpacked_last_low zone k (drop c xs) e (length xs - c) m rest (omega arith) hm g (length xs - c - 2) h (omega arith)))
      where
        rest : length (drop c xs) ≡ length xs - c
        rest = length-drop c xs

        behind : (i j : ℕ) → i ≡ c + j → get_or xs i e ≡ get_or (drop c xs) j e
        behind i j p = ap (λ (h : ℕ). get_or xs h e) p ∙ sym (get_or-drop c xs j e)

        digit : (g d j : ℕ) → g + 2 * d + 3 ≡ 2 * m → c + j + d + 3 ≡ length xs → get_or (unpacked zone k m xs) g e ≡ get_or (unpacked zone k m (drop c xs)) g e
        digit g d j p q =
            unpacked_digit zone k xs e (length xs) m refl hw hm g (c + j) d p q
            ∙ behind (c + j) j refl
            ∙ sym (unpacked_digit zone k (drop c xs) e (length xs - c) m rest (omega arith) hm g j d p (omega arith))

        front : (g : ℕ) → g + 2 < 2 * m → (g ≡ 2 * (g / 2)) ⊎ (g ≡ 2 * (g / 2) + 1) → get_or (unpacked zone k m xs) g e ≡ get_or (unpacked zone k m (drop c xs)) g e
        front g h (inl p) =
            unpacked_zone zone k xs e (length xs) m refl hw hm g (g / 2) p (omega arith)
            ∙ sym (unpacked_zone zone k (drop c xs) e (length xs - c) m rest (omega arith) hm g (g / 2) p (omega arith))
        front g h (inr p) = digit g (m - 2 - g / 2) (length xs - c - 3 - (m - 2 - g / 2)) (omega arith) (omega arith)

  -- unpacked into m bytes, two fields are equal exactly if their last halves are
  module _ (zone : ℕ) (k : Constant → A) (xs ys : List A) (m w : ℕ) (px : length xs ≡ w) (py : length ys ≡ w) (hw : 2 ≤ w) (hm : 1 ≤ m) where
    unpacked_tells : unpacked zone k m xs ≡ unpacked zone k m ys → (c : ℕ) → w ≤ c + (m + 1) → drop c xs ≡ drop c ys
    unpacked_tells same c room =
        ext_get_or e (drop c xs) (drop c ys) (length-drop c xs ∙ omega arith ∙ sym (length-drop c ys))
        (λ j h. get_or-drop c xs j e ∙ at (c + j) (omega arith) (places w (c + j) (omega (arith, length-drop c xs))) ∙ sym (get_or-drop c ys j e))
      where
        both : (g i : ℕ) → get_or (unpacked zone k m xs) g e ≡ get_or xs i e → get_or (unpacked zone k m ys) g e ≡ get_or ys i e → get_or xs i e ≡ get_or ys i e
        both g i p q = sym p ∙ ap (λ (r : List A). get_or r g e) same ∙ q

        at : (i : ℕ) → w ≤ i + (m + 1) → (i + 2 < w) ⊎ ((i + 2 ≡ w) ⊎ (i + 1 ≡ w)) → get_or xs i e ≡ get_or ys i e
        at i r (inl h) =
            let g : ℕ = 2 * m - 3 - 2 * (w - 3 - i) in
            both g i
            (unpacked_digit zone k xs e w m px hw hm g i (w - 3 - i) (omega arith) (omega arith))
            (unpacked_digit zone k ys e w m py hw hm g i (w - 3 - i) (omega arith) (omega arith))
        at i r (inr (inl h)) =
            both (2 * m - 1) i (unpacked_last_low zone k xs e w m px hw hm _ i (omega arith) h) (unpacked_last_low zone k ys e w m py hw hm _ i (omega arith) h)
        at i r (inr (inr h)) =
            both (2 * m - 2) i (unpacked_last_high zone k xs e w m px hw hm _ i (omega arith) h) (unpacked_last_high zone k ys e w m py hw hm _ i (omega arith) h)

    pub unpacked_exactly : (unpacked zone k m xs ≡ unpacked zone k m ys) ↔ (drop (w - (m + 1)) xs ≡ drop (w - (m + 1)) ys)
    unpacked_exactly = ((λ same. unpacked_tells same (w - (m + 1)) (omega arith)), (λ same. go same (leb (m + 1) w) refl))
      where
        go : drop (w - (m + 1)) xs ≡ drop (w - (m + 1)) ys → (t : Bool) → leb (m + 1) w ≡ t → unpacked zone k m xs ≡ unpacked zone k m ys
        go same true t =
            let l : m + 1 ≤ w = leb-true (m + 1) w t in
            unpacked_kept zone k xs m (omega arith) hm (w - (m + 1)) (omega arith)
            ∙ ap (λ (r : List A). unpacked zone k m r) same
            ∙ sym (unpacked_kept zone k ys m (omega arith) hm (w - (m + 1)) (omega arith))
        go same false t =
            let l : w < m + 1 = leb-false (m + 1) w t in
            let none : w - (m + 1) ≡ 0 = omega arith in
            ap (λ (r : List A). unpacked zone k m r) (subst (λ (c : ℕ). drop c xs ≡ drop c ys) none same)
