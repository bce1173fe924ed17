-- Each half of the finished record is taken, in the paper's words, exactly from where the list of sources says. It holds since the last field that writes a half
-- decides it, and since what a field writes at a place is found by the place's distance from the field's end.
use mathlib.Core.Path.{◌≡◌, refl, ap, sym, ◌∙◌, subst}
use mathlib.Core.Logic.{◌⊎◌, inl, inr}
use mathlib.Core.Bool.{Bool, true, false}
use mathlib.Core.List.{List, [], ◌∷◌, ◌++◌}
use Prim.Native.Nat.{ℕ, zero, suc, ◌+◌, ◌-◌, ◌*◌, ◌/◌, ◌%◌, ◌≤◌, ◌<◌}
use native.Mathlib.Nat.{not-suc-le-zero}
use native.Mathlib.Omega.{arith}
use lib.Dec.{ltb, leb, eqb}
use lib.ListN.{length, get_or}
use borrow.Author.Tests.{ltb-true, ltb-false, leb-true, leb-false, eqb-true, eqb-false}
use Rattle.rules.specs.Places.{All, no_more, also}
use Rattle.rules.specs.Halves.{Kind, copy, pack, unpack, input_size, output_size, Field, reads_from, reads_many, writes_from, over, Constant, blank, made, blanks, field_halves, written, out_halves, Source, from, constant, froms, sources}
use Rattle.rules.specs.RecordParts.{Fits}
use Rattle.rules.specs.InWords.{Writes, FieldTakes, copied, packed_high, packed_low, packed_digit, packed_fill, unpacked_high, unpacked_low, unpacked_digit, unpacked_fill, unpacked_zone, HalfTakes, by_field, blank_high, blank_low}
use Rattle.rules.proofs.Base.AllLaws.{all_head, all_tail, all_left, all_right}
use Rattle.rules.proofs.Halves.SizeLaws.{length_over, length_blanks, length_field_halves, length_written}
use Rattle.rules.proofs.Halves.PlaceLaws.{over_inside, over_before, over_after}
use Rattle.rules.proofs.Halves.FieldSteps.{written_append}
use Rattle.rules.proofs.Halves.SourceSteps.{length_froms, copy_source, pack_last_high_source, pack_last_low_source, pack_digit_source, pack_fill_source, unpack_last_high_source, unpack_last_low_source, unpack_zone_source, unpack_digit_source, unpack_fill_source}

-- ---- places before the last byte

before_last : (m g : ℕ) → g < 2 * m → (g + 1 ≡ 2 * m → ⊥) → (g + 2 ≡ 2 * m → ⊥) → g / 2 + 1 < m
before_last m g l a b = omega arith

-- a low half has an even number of halves between it and the last byte
odd_left : (m g : ℕ) → g < 2 * m → (g + 1 ≡ 2 * m → ⊥) → g % 2 ≡ 1 → g + 2 * ((2 * m - 3 - g) / 2) + 3 ≡ 2 * m
odd_left m g l a o = omega arith

-- ---- one field

module _ (zone a b : ℕ) (f : Field) (fit : Fits a b f) (e : Source) where
  -- the field reads inside the input
  room : reads_from f + reads_many f ≤ 2 * a
  room = omega (arith, fit.input_high, fit.r_low, fit.input_low)

  input_one : (c : Kind) → f.kind ≡ c → 1 ≤ input_size c
  input_one c q = subst (λ (k : Kind). 1 ≤ input_size k) q fit.input_low

  output_one : (c : Kind) → f.kind ≡ c → 1 ≤ output_size c
  output_one c q = subst (λ (k : Kind). 1 ≤ output_size k) q fit.output_low

  wide : (c : Kind) → f.kind ≡ c → 2 * output_size f.kind ≡ 2 * output_size c
  wide c q = ap (λ (k : Kind). 2 * output_size k) q

  -- what it writes at a place is what the words say
  pub field_takes : (h : ℕ) (x : Source) → Writes f h → FieldTakes zone f h x → get_or (field_halves zone constant f (froms 0 (2 * a))) (h - writes_from f) e ≡ x
  field_takes h x w (copied {s = s} j q p) =
      copy_source zone f (2 * a) room e s q (h - writes_from f) (reads_from f + j) (omega arith) (omega (arith, w.0, w.1, wide (copy s) q))
  field_takes h x w (packed_high {n = n} {m = m} {i = i} q p r) =
      pack_last_high_source zone f (2 * a) room e n m (input_one (pack n m) q) (output_one (pack n m) q) q (h - writes_from f) i (omega (arith, w.0)) r
  field_takes h x w (packed_low {n = n} {m = m} {i = i} q p r) =
      pack_last_low_source zone f (2 * a) room e n m (input_one (pack n m) q) (output_one (pack n m) q) q (h - writes_from f) i (omega (arith, w.0)) r
  field_takes h x w (packed_digit {n = n} {m = m} {i = i} d q p l r) =
      pack_digit_source zone f (2 * a) room e n m (input_one (pack n m) q) (output_one (pack n m) q) q (h - writes_from f) i d (omega (arith, w.0)) r l
  field_takes h x w (packed_fill {n = n} {m = m} d q p l) =
      pack_fill_source zone f (2 * a) room e n m (input_one (pack n m) q) (output_one (pack n m) q) q (h - writes_from f) d (omega (arith, w.0)) l
  field_takes h x w (unpacked_high {n = n} {m = m} {i = i} q p r) =
      unpack_last_high_source zone f (2 * a) room e n m (input_one (unpack n m) q) (output_one (unpack n m) q) q (h - writes_from f) i (omega (arith, w.0)) r
  field_takes h x w (unpacked_low {n = n} {m = m} {i = i} q p r) =
      unpack_last_low_source zone f (2 * a) room e n m (input_one (unpack n m) q) (output_one (unpack n m) q) q (h - writes_from f) i (omega (arith, w.0)) r
  field_takes h x w (unpacked_digit {n = n} {m = m} {i = i} d q p l r) =
      unpack_digit_source zone f (2 * a) room e n m (input_one (unpack n m) q) (output_one (unpack n m) q) q (h - writes_from f) i d (omega (arith, w.0)) r l
  field_takes h x w (unpacked_fill {n = n} {m = m} d q p l) =
      unpack_fill_source zone f (2 * a) room e n m (input_one (unpack n m) q) (output_one (unpack n m) q) q (h - writes_from f) d (omega (arith, w.0)) l
  field_takes h x w (unpacked_zone {n = n} {m = m} i q p l) =
      unpack_zone_source zone f (2 * a) room e n m (input_one (unpack n m) q) (output_one (unpack n m) q) q (h - writes_from f) i (omega arith) l

  -- and the words say something of each half that it writes
  module _ (h : ℕ) (w : Writes f h) where
    pack_source : (n m : ℕ) → f.kind ≡ pack n m → (x : Source) × FieldTakes zone f h x
    pack_source n m q = go (eqb (h + 1) (writes_from f + 2 * m)) refl (eqb (h + 2) (writes_from f + 2 * m)) refl
      where
        one : 1 ≤ n
        one = input_one (pack n m) q

        go : (u : Bool) → eqb (h + 1) (writes_from f + 2 * m) ≡ u → (v : Bool) → eqb (h + 2) (writes_from f + 2 * m) ≡ v → (x : Source) × FieldTakes zone f h x
        go true s v t = (from (reads_from f + 2 * n - 2), packed_low {i = reads_from f + 2 * n - 2} q (eqb-true _ _ s) (omega (arith, one)))
        go false s true t = (from (reads_from f + 2 * n - 1), packed_high {i = reads_from f + 2 * n - 1} q (eqb-true _ _ t) (omega (arith, one)))
        go false s false t = digit (writes_from f + 2 * m - 3 - h) (omega (arith, w.1, wide (pack n m) q, eqb-false (h + 1) (writes_from f + 2 * m) s, eqb-false (h + 2) (writes_from f + 2 * m) t))
          where
            digit : (d : ℕ) → h + d + 3 ≡ writes_from f + 2 * m → (x : Source) × FieldTakes zone f h x
            digit d p = there (ltb (d + 1) n) refl
              where
                there : (u : Bool) → ltb (d + 1) n ≡ u → (x : Source) × FieldTakes zone f h x
                there true l = let k = ltb-true (d + 1) n l in (from (reads_from f + 2 * n - 3 - 2 * d), packed_digit {i = reads_from f + 2 * n - 3 - 2 * d} d q p k (omega arith))
                there false l = (constant (made 0), packed_fill d q p (ltb-false (d + 1) n l))

    unpack_at : (n m g : ℕ) → f.kind ≡ unpack n m → h ≡ writes_from f + g → g < 2 * m → (x : Source) × FieldTakes zone f h x
    unpack_at n m g q p l = go (eqb (g + 1) (2 * m)) refl (eqb (g + 2) (2 * m)) refl (eqb (g % 2) 0) refl
      where
        one : 1 ≤ n
        one = input_one (unpack n m) q

        digit : (d : ℕ) → g + 2 * d + 3 ≡ 2 * m → (x : Source) × FieldTakes zone f h x
        digit d z = there (ltb (d + 2) (2 * n)) refl
          where
            there : (u : Bool) → ltb (d + 2) (2 * n) ≡ u → (x : Source) × FieldTakes zone f h x
            there true s = let k = ltb-true (d + 2) (2 * n) s in (from (reads_from f + 2 * n - 3 - d), unpacked_digit {i = reads_from f + 2 * n - 3 - d} d q (omega arith) k (omega arith))
            there false s = (constant (made 0), unpacked_fill d q (omega arith) (ltb-false (d + 2) (2 * n) s))

        go : (u : Bool) → eqb (g + 1) (2 * m) ≡ u → (v : Bool) → eqb (g + 2) (2 * m) ≡ v → (even : Bool) → eqb (g % 2) 0 ≡ even → (x : Source) × FieldTakes zone f h x
        go true s v t even c = let z = eqb-true (g + 1) (2 * m) s in (from (reads_from f + 2 * n - 2), unpacked_low {i = reads_from f + 2 * n - 2} q (omega arith) (omega (arith, one)))
        go false s true t even c = let z = eqb-true (g + 2) (2 * m) t in (from (reads_from f + 2 * n - 1), unpacked_high {i = reads_from f + 2 * n - 1} q (omega arith) (omega (arith, one)))
        go false s false t true c =
            let z = eqb-true (g % 2) 0 c in
            (constant (made zone), unpacked_zone (g / 2) q (omega arith) (before_last m g l (eqb-false (g + 1) (2 * m) s) (eqb-false (g + 2) (2 * m) t)))
        go false s false t false c = digit ((2 * m - 3 - g) / 2) (odd_left m g l (eqb-false (g + 1) (2 * m) s) (omega (arith, eqb-false (g % 2) 0 c)))

    pub field_source : (c : Kind) → f.kind ≡ c → (x : Source) × FieldTakes zone f h x
    field_source (copy s) q = (from (reads_from f + (h - writes_from f)), copied (h - writes_from f) q (omega (arith, w.0)))
    field_source (pack n m) q = pack_source n m q
    field_source (unpack n m) q = unpack_at n m (h - writes_from f) q (omega (arith, w.0)) (omega (arith, w.1, wide (unpack n m) q))

-- ---- blanks

blanks_high : {A : Type 0} (k : Constant → A) (n i h : ℕ) (e : A) → h ≡ 2 * i → i < n → get_or (blanks k n) h e ≡ k (blank 4)
blanks_high k zero i h e p l = absurd (not-suc-le-zero l)
blanks_high k (suc n) zero h e p l = ap (λ (g : ℕ). get_or (blanks k (suc n)) g e) p
blanks_high k (suc n) (suc i) h e p l =
    ap (λ (g : ℕ). get_or (blanks k (suc n)) g e) (let z : h ≡ suc (suc (2 * i)) = omega arith in z) ∙ blanks_high k n i (2 * i) e refl (omega arith)

blanks_low : {A : Type 0} (k : Constant → A) (n i h : ℕ) (e : A) → h ≡ 2 * i + 1 → i < n → get_or (blanks k n) h e ≡ k (blank 0)
blanks_low k zero i h e p l = absurd (not-suc-le-zero l)
blanks_low k (suc n) zero h e p l = ap (λ (g : ℕ). get_or (blanks k (suc n)) g e) (let z : h ≡ 1 = omega arith in z)
blanks_low k (suc n) (suc i) h e p l =
    ap (λ (g : ℕ). get_or (blanks k (suc n)) g e) (let z : h ≡ suc (suc (2 * i + 1)) = omega arith in z) ∙ blanks_low k n i (2 * i + 1) e refl (omega arith)

-- ---- the last field that writes a half

-- a field writes a half, or not
pub writes_or : (f : Field) (h : ℕ) → Writes f h ⊎ (Writes f h → ⊥)
writes_or f h = go (leb (writes_from f) h) refl (ltb h (writes_from f + 2 * output_size f.kind)) refl
  where
    go : (u : Bool) → leb (writes_from f) h ≡ u → (v : Bool) → ltb h (writes_from f + 2 * output_size f.kind) ≡ v → Writes f h ⊎ (Writes f h → ⊥)
    go true u true v = inl (leb-true _ _ u, ltb-true _ _ v)
    go true u false v = inr (λ w. omega (arith, w.1, ltb-false h (writes_from f + 2 * output_size f.kind) v))
    go false u v t = inr (λ w. omega (arith, w.0, leb-false (writes_from f) h u))

abbrev None : List Field → ℕ → Type 0
None fs h = All (λ g. Writes g h → ⊥) fs

record Last (fs : List Field) (h : ℕ) : Type 0 where
  before : List Field
  f : Field
  after : List Field
  split : fs ≡ before ++ (f ∷ after)
  writes : Writes f h
  none : None after h

last_or : (fs : List Field) (h : ℕ) → Last fs h ⊎ None fs h
last_or [] h = inr no_more
last_or (f ∷ fs) h = go (last_or fs h) (writes_or f h)
  where
    go : Last fs h ⊎ None fs h → Writes f h ⊎ (Writes f h → ⊥) → Last (f ∷ fs) h ⊎ None (f ∷ fs) h
    go (inl w) x = inl (record { before = f ∷ w.before; f = w.f; after = w.after; split = ap (f ∷◌) w.split; writes = w.writes; none = w.none })
    go (inr n) (inl w) = inl (record { before = []; f = f; after = fs; split = refl; writes = w; none = n })
    go (inr n) (inr w) = inr (also w n)

-- ---- all fields

module _ (zone a b : ℕ) (e : Source) where
  abbrev xs : List Source
  xs = froms 0 (2 * a)

  -- one more field over an output of 2b halves
  over_room : (f : Field) → Fits a b f → (out : List Source) → length out ≡ 2 * b → writes_from f + length (field_halves zone constant f xs) ≤ length out
  over_room f k out l = omega (arith, length_field_halves zone constant a b f xs k (length_froms 0 (2 * a)), k.output_high, k.t_low)

  over_long : (f : Field) → Fits a b f → (out : List Source) → length out ≡ 2 * b → length (over (writes_from f) (field_halves zone constant f xs) out) ≡ 2 * b
  over_long f k out l = length_over (writes_from f) (field_halves zone constant f xs) out (over_room f k out l) ∙ l

  -- where no field writes, the output stays
  untouched : (fs : List Field) → All (Fits a b) fs → (h : ℕ) → None fs h → (out : List Source) → length out ≡ 2 * b → get_or (written zone constant fs xs out) h e ≡ get_or out h e
  untouched [] no_more h no_more out l = refl
  untouched (f ∷ fs) (also k ks) h (also n ns) out l =
      untouched fs ks h ns (over (writes_from f) (field_halves zone constant f xs) out) (over_long f k out l) ∙ go (ltb h (writes_from f)) refl
    where
      go : (u : Bool) → ltb h (writes_from f) ≡ u → get_or (over (writes_from f) (field_halves zone constant f xs) out) h e ≡ get_or out h e
      go true u = over_before (writes_from f) (field_halves zone constant f xs) out e (over_room f k out l) h (ltb-true _ _ u)
      go false u = over_after (writes_from f) (field_halves zone constant f xs) out e (over_room f k out l) h (past (ltb h (writes_from f + 2 * output_size f.kind)) refl)
        where
          past : (v : Bool) → ltb h (writes_from f + 2 * output_size f.kind) ≡ v → writes_from f + length (field_halves zone constant f xs) ≤ h
          past true v = absurd (n (ltb-false _ _ u, ltb-true _ _ v))
          past false v = omega (arith, length_field_halves zone constant a b f xs k (length_froms 0 (2 * a)), ltb-false h (writes_from f + 2 * output_size f.kind) v)

  -- the last field that writes a half decides it
  decided : (before : List Field) (f : Field) (after : List Field) → All (Fits a b) (before ++ (f ∷ after)) → (h : ℕ) (x : Source) → Writes f h → None after h
      → FieldTakes zone f h x → (out : List Source) → length out ≡ 2 * b → get_or (written zone constant (before ++ (f ∷ after)) xs out) h e ≡ x
  decided before f after ks h x w n t out l =
      let k = all_head (all_right before (f ∷ after) ks) in
      let mid = written zone constant before xs out in
      let long : length mid ≡ 2 * b = length_written zone constant a b before xs out (all_left before (f ∷ after) ks) (length_froms 0 (2 * a)) l in
      ap (λ (r : List Source). get_or r h e) (written_append zone constant xs before (f ∷ after) out)
      ∙ untouched after (all_tail (all_right before (f ∷ after) ks)) h n (over (writes_from f) (field_halves zone constant f xs) mid) (over_long f k mid long)
      ∙ over_inside (writes_from f) (field_halves zone constant f xs) mid e (over_room f k mid long) h (h - writes_from f) (omega (arith, w.0))
      (omega (arith, w.0, w.1, length_field_halves zone constant a b f xs k (length_froms 0 (2 * a))))
      ∙ field_takes zone a b f k e h x w t

  module _ (fs : List Field) (ks : All (Fits a b) fs) (h : ℕ) (l : h < 2 * b) where
    -- what the words say is the source
    pub taken_source : (x : Source) → HalfTakes zone fs h x → get_or (sources zone b fs (2 * a)) h e ≡ x
    unfolding sources out_halves
    taken_source x (by_field before f after s w n t) =
        subst (λ (gs : List Field). get_or (written zone constant gs xs (blanks constant b)) h e ≡ x) (sym s)
        (decided before f after (subst (All (Fits a b)) s ks) h x w n t (blanks constant b) (length_blanks constant b))
    taken_source x (blank_high n i p q) = untouched fs ks h n (blanks constant b) (length_blanks constant b) ∙ blanks_high constant b i h e p (omega arith) ∙ sym q
    taken_source x (blank_low n i p q) = untouched fs ks h n (blanks constant b) (length_blanks constant b) ∙ blanks_low constant b i h e p (omega arith) ∙ sym q

    -- the words say something of each half
    takes_some : (x : Source) × HalfTakes zone fs h x
    takes_some = go (last_or fs h) (eqb (h % 2) 0) refl
      where
        go : Last fs h ⊎ None fs h → (t : Bool) → eqb (h % 2) 0 ≡ t → (x : Source) × HalfTakes zone fs h x
        go (inl w) t c =
            let k = all_head (all_right w.before (w.f ∷ w.after) (subst (All (Fits a b)) w.split ks)) in
            let y = field_source zone a b w.f k e h w.writes w.f.kind refl in
            (y.0, by_field w.before w.f w.after w.split w.writes w.none y.1)
        go (inr n) true c = (constant (blank 4), blank_high n (h / 2) (omega (arith, eqb-true (h % 2) 0 c)) refl)
        go (inr n) false c = (constant (blank 0), blank_low n (h / 2) (omega (arith, eqb-false (h % 2) 0 c)) refl)

    -- so the source is what they say
    pub source_taken : HalfTakes zone fs h (get_or (sources zone b fs (2 * a)) h e)
    source_taken = let y = takes_some in subst (HalfTakes zone fs h) (sym (taken_source y.0 y.1)) y.1
