-- The conversions of halves do the same to any halves: a function of halves may be applied before or after them, since they only move
-- halves and put in constants. So the output record by value is its sources, each at its value. By going along the definitions.
use mathlib.Core.Path.{◌≡◌, refl, ap, sym, ◌∙◌}
use mathlib.Core.List.{List, [], ◌∷◌, reverse, reverse_aux, map, map-append}
use Prim.Native.Nat.{ℕ, zero, suc, ◌+◌, ◌≤◌}
use native.Mathlib.Omega.{arith}
use lib.ListN.{length, take, drop, replicate, length-map}
use lib.Seq.{drop-cons, take-length}
use Rattle.rules.specs.Base.{flush}
use Rattle.rules.specs.Halves.{Kind, copy, pack, unpack, Field, last_byte, others, lows, over, Constant, blank, made, packed, blanks, zoned, unpacked, converted, field_halves, written, out_halves, value, constant, value_in, froms, sources}
use Rattle.rules.proofs.Base.Lists.{map_take, map_drop}

module _ {A B : Type 0} (f : A → B) where
  map_replicate : (n : ℕ) (a : A) → map f (replicate n a) ≡ replicate n (f a)
  map_replicate zero a = refl
  map_replicate (suc n) a = ap (f a ∷◌) (map_replicate n a)

  map_rev_aux : (xs ys : List A) → map f (reverse_aux xs ys) ≡ reverse_aux (map f xs) (map f ys)
  map_rev_aux [] ys = refl
  map_rev_aux (x ∷ xs) ys = map_rev_aux xs (x ∷ ys)

  map_rev : (xs : List A) → map f (reverse xs) ≡ reverse (map f xs)
  map_rev xs = map_rev_aux xs []

  map_flush : (n : ℕ) (a : A) (xs : List A) → map f (flush n a xs) ≡ flush n (f a) (map f xs)
  unfolding flush
  map_flush n a xs = simp (map-append, map_replicate, map_drop, length-map)

  map_lows : (xs : List A) → map f (lows xs) ≡ lows (map f xs)
  map_lows [] = refl
  map_lows (h ∷ []) = refl
  map_lows (h ∷ (l ∷ rest)) = ap (f l ∷◌) (map_lows rest)

  map_last_byte : (xs : List A) → map f (last_byte xs) ≡ last_byte (map f xs)
  unfolding last_byte
  map_last_byte xs = simp (map_drop, length-map)

  map_others : (xs : List A) → map f (others xs) ≡ others (map f xs)
  unfolding others
  map_others xs = simp (map_take, length-map)

  map_over : (i : ℕ) (vs out : List A) → map f (over i vs out) ≡ over i (map f vs) (map f out)
  unfolding over
  map_over i vs out = simp (map-append, map_take, map_drop, length-map)

-- ---- naturality

module _ {A B : Type 0} (f : A → B) (k : Constant → A) where
  -- the constants, when f is applied
  abbrev k' : Constant → B
  k' c = f (k c)

  map_blanks : (n : ℕ) → map f (blanks k n) ≡ blanks k' n
  map_blanks zero = refl
  map_blanks (suc n) = ap (λ r. f (k (blank 4)) ∷ f (k (blank 0)) ∷ r) (map_blanks n)

  pub map_packed : (m : ℕ) (xs : List A) → map f (packed k m xs) ≡ packed (λ c. f (k c)) m (map f xs)
  unfolding packed
  map_packed m xs = simp (map-append, map_flush, map_lows, map_others, map_rev, map_last_byte)

  module _ (zone : ℕ) where
    map_zoned : (xs : List A) → map f (zoned zone k xs) ≡ zoned zone k' (map f xs)
    map_zoned [] = refl
    map_zoned (x ∷ xs) = ap (λ r. f (k (made zone)) ∷ f x ∷ r) (map_zoned xs)

    pub map_unpacked : (m : ℕ) (xs : List A) → map f (unpacked zone k m xs) ≡ unpacked zone (λ c. f (k c)) m (map f xs)
    unfolding unpacked
    map_unpacked m xs = simp (map-append, map_zoned, map_flush, map_others, map_rev, map_last_byte)

    map_converted : (c : Kind) (xs : List A) → map f (converted zone k c xs) ≡ converted zone k' c (map f xs)
    map_converted (copy s) xs = refl
    map_converted (pack n m) xs = map_packed m xs
    map_converted (unpack n m) xs = map_unpacked m xs

    pub map_field_halves : (d : Field) (xs : List A) → map f (field_halves zone k d xs) ≡ field_halves zone (λ c. f (k c)) d (map f xs)
    unfolding field_halves
    map_field_halves d xs = simp (map_converted, map_take, map_drop)

    map_written : (fs : List Field) (xs out : List A) → map f (written zone k fs xs out) ≡ written zone k' fs (map f xs) (map f out)
    map_written [] xs out = refl
    map_written (d ∷ fs) xs out = map_written fs xs _ ∙ simp (map_over, map_field_halves)

    pub map_out_halves : (n : ℕ) (fs : List Field) (xs : List A) → map f (out_halves zone k n fs xs) ≡ out_halves zone (λ c. f (k c)) n fs (map f xs)
    unfolding out_halves
    map_out_halves n fs xs = map_written fs xs (blanks k n) ∙ simp map_blanks

-- ---- by source

values_from : (xs : List ℕ) (i n : ℕ) → i + n ≤ length xs → map (value_in xs) (froms i n) ≡ take n (drop i xs)
values_from xs i zero h = refl
values_from xs i (suc n) h = rw (drop-cons xs i 0 (omega arith), values_from xs (suc i) n (omega arith))

-- a list of halves is its own sources, each at its value
pub values_all : (xs : List ℕ) → map (value_in xs) (froms 0 (length xs)) ≡ xs
values_all xs = values_from xs 0 (length xs) (omega arith) ∙ take-length xs

-- the output record by value is its sources, each at its value
pub out_by_sources : (zone n : ℕ) (fs : List Field) (xs : List ℕ) → out_halves zone value n fs xs ≡ map (value_in xs) (sources zone n fs (length xs))
unfolding sources
out_by_sources zone n fs xs = sym (map_out_halves (value_in xs) constant zone n fs (froms 0 (length xs)) ∙ ap (out_halves zone value n fs) (values_all xs))
