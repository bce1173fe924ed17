-- How long what the conversions give is, that halves stay halves, and that halves and bytes undo one another. It holds since a field that
-- lies inside its records takes as many halves as its input size says and writes as many as its output size says, and since the constants
-- are halves.
use mathlib.Core.Path.{◌≡◌, refl, ap₂, ◌∙◌}
use mathlib.Core.List.{List, [], ◌∷◌}
use Prim.Native.Nat.{ℕ, zero, suc, ◌+◌, ◌-◌, ◌*◌, ◌/◌, ◌%◌, ◌≤◌}
use native.Mathlib.Omega.{arith}
use lib.ListN.{length, length-append, length-take, length-drop, length-replicate, length-reverse}
use Rattle.rules.specs.Base.{flush, pairs}
use Rattle.rules.specs.Places.{All, no_more, also, Byte, Half}
use Rattle.rules.specs.Halves.{halves, Kind, copy, pack, unpack, input_size, output_size, Field, reads_from, reads_many, last_byte, others, lows, over, Constant, blank, made, packed, blanks, zoned, unpacked, converted, field_halves, written, out_halves, value}
use Rattle.rules.specs.RecordParts.{Fits}
use Rattle.rules.proofs.Base.AllLaws.{all_append, all_take, all_drop, all_replicate, all_rev}

-- ---- what holds of every half

module _ {A : Type 0} {P : A → Type 0} where
  all_lows : {xs : List A} → All P xs → All P (lows xs)
  all_lows no_more = no_more
  all_lows (also p no_more) = no_more
  all_lows (also p (also q a)) = also q (all_lows a)

  all_others : {xs : List A} → All P xs → All P (others xs)
  unfolding others
  all_others {xs} a = all_take (length xs - 2) a

  all_last_byte : {xs : List A} → All P xs → All P (last_byte xs)
  unfolding last_byte
  all_last_byte {xs} a = all_drop (length xs - 2) a

  all_over : (i : ℕ) {vs out : List A} → All P vs → All P out → All P (over i vs out)
  unfolding over
  all_over i {vs} a b = all_append (all_append (all_take i b) a) (all_drop (i + length vs) b)

  -- what holds of the input's halves and of the constants holds of the output's halves
  module _ (k : Constant → A) (constants : (c : Constant) → Half (value c) → P (k c)) (zone : ℕ) (z : Half zone) where
    all_flush : (n : ℕ) {xs : List A} → All P xs → All P (flush n (k (made 0)) xs)
    unfolding flush
    all_flush n {xs} a = all_append (all_replicate (n - length xs) (k (made 0)) (constants (made 0) (omega arith))) (all_drop (length xs - n) a)

    all_zoned : {xs : List A} → All P xs → All P (zoned zone k xs)
    all_zoned no_more = no_more
    all_zoned (also p a) = also (constants (made zone) z) (also p (all_zoned a))

    all_blanks : (n : ℕ) → All P (blanks k n)
    all_blanks zero = no_more
    all_blanks (suc n) = also (constants (blank 4) (omega arith)) (also (constants (blank 0) (omega arith)) (all_blanks n))

    pub all_converted : (c : Kind) {xs : List A} → All P xs → All P (converted zone k c xs)
    unfolding packed unpacked
    all_converted (copy s) a = a
    all_converted (pack n m) a = all_append (all_flush _ (all_lows (all_others a))) (all_rev (all_last_byte a))
    all_converted (unpack n m) a = all_append (all_zoned (all_flush _ (all_others a))) (all_rev (all_last_byte a))

    pub all_field_halves : (f : Field) {xs : List A} → All P xs → All P (field_halves zone k f xs)
    unfolding field_halves
    all_field_halves f a = all_converted f.kind (all_take (reads_many f) (all_drop (reads_from f) a))

    all_written : (fs : List Field) {xs out : List A} → All P xs → All P out → All P (written zone k fs xs out)
    all_written [] a b = b
    all_written (f ∷ fs) a b = all_written fs a (all_over _ (all_field_halves f a) b)

    pub all_out_halves : (n : ℕ) (fs : List Field) {xs : List A} → All P xs → All P (out_halves zone k n fs xs)
    unfolding out_halves
    all_out_halves n fs a = all_written fs a (all_blanks n)

-- ---- lengths

module _ {A : Type 0} where
  pub length_flush : (n : ℕ) (d : A) (xs : List A) → length (flush n d xs) ≡ n
  unfolding flush
  length_flush n d xs = simp (length-append, length-replicate, length-drop) (omega arith)

  pub length_last_byte : (xs : List A) → 2 ≤ length xs → length (last_byte xs) ≡ 2
  unfolding last_byte
  length_last_byte xs h = simp length-drop (omega arith)

  pub length_over : (i : ℕ) (vs out : List A) → i + length vs ≤ length out → length (over i vs out) ≡ length out
  unfolding over
  length_over i vs out h = simp (length-append, length-take, length-drop) (omega arith)

  module _ (k : Constant → A) where
    pub length_blanks : (n : ℕ) → length (blanks k n) ≡ 2 * n
    length_blanks zero = refl
    length_blanks (suc n) = omega (arith, length_blanks n)

    pub length_packed : (m : ℕ) (xs : List A) → 1 ≤ m → 2 ≤ length xs → length (packed k m xs) ≡ 2 * m
    unfolding packed
    length_packed m xs h l = simp (length-append, length_flush, length-reverse) (omega (arith, length_last_byte xs l))

  module _ (zone : ℕ) (k : Constant → A) where
    pub length_zoned : (xs : List A) → length (zoned zone k xs) ≡ 2 * length xs
    length_zoned [] = refl
    length_zoned (x ∷ xs) = omega (arith, length_zoned xs)

    pub length_unpacked : (m : ℕ) (xs : List A) → 1 ≤ m → 2 ≤ length xs → length (unpacked zone k m xs) ≡ 2 * m
    unfolding unpacked
    length_unpacked m xs h l = simp (length-append, length_zoned, length_flush, length-reverse) (omega (arith, length_last_byte xs l))

    pub length_converted : (c : Kind) (xs : List A) → 1 ≤ input_size c → 1 ≤ output_size c → length xs ≡ 2 * input_size c → length (converted zone k c xs) ≡ 2 * output_size c
    length_converted (copy s) xs i o e = e
    length_converted (pack n m) xs i o e = length_packed k m xs o (omega arith)
    length_converted (unpack n m) xs i o e = length_unpacked m xs o (omega arith)

-- of a record of a bytes
module _ {A : Type 0} (zone : ℕ) (k : Constant → A) (a b : ℕ) where
  pub length_field_halves : (f : Field) (xs : List A) → Fits a b f → length xs ≡ 2 * a → length (field_halves zone k f xs) ≡ 2 * output_size f.kind
  unfolding field_halves
  length_field_halves f xs h e =
      length_converted zone k f.kind _ h.input_low h.output_low (simp (length-take, length-drop) (omega (arith, h.input_high, h.r_low)))

  pub length_written : (fs : List Field) (xs out : List A) → All (Fits a b) fs → length xs ≡ 2 * a → length out ≡ 2 * b → length (written zone k fs xs out) ≡ 2 * b
  length_written [] xs out no_more e o = o
  length_written (f ∷ fs) xs out (also h hs) e o =
      length_written fs xs _ hs e (length_over _ (field_halves zone k f xs) out (omega (arith, length_field_halves f xs h e, h.output_high, h.t_low)) ∙ o)

  pub length_out_halves : (fs : List Field) (xs : List A) → All (Fits a b) fs → length xs ≡ 2 * a → length (out_halves zone k b fs xs) ≡ 2 * b
  unfolding out_halves
  length_out_halves fs xs h e = length_written fs xs (blanks k b) h e (length_blanks k b)

-- ---- halves and bytes

pub length_halves : (xs : List ℕ) → length (halves xs) ≡ 2 * length xs
length_halves [] = refl
length_halves (x ∷ xs) = omega (arith, length_halves xs)

pub length_pairs : (hs : List ℕ) → length (pairs hs) ≡ length hs / 2
length_pairs [] = refl
length_pairs (h ∷ []) = refl
length_pairs (h ∷ (l ∷ hs)) = omega (arith, length_pairs hs)

pub halves_small : {xs : List ℕ} → All Byte xs → All Half (halves xs)
halves_small no_more = no_more
halves_small (also {x = b} p a) = also {x = b / 16} (omega arith) (also {x = b % 16} (omega arith) (halves_small a))

pub pairs_small : {hs : List ℕ} → All Half hs → All Byte (pairs hs)
pairs_small no_more = no_more
pairs_small (also p no_more) = no_more
pairs_small (also {x = h} p (also {x = l} q a)) = also {x = 16 * h + l} (omega arith) (pairs_small a)

pub pairs_halves : (xs : List ℕ) → pairs (halves xs) ≡ xs
pairs_halves [] = refl
pairs_halves (x ∷ xs) = ap₂ {C = List ℕ} ◌∷◌ (omega arith) (pairs_halves xs)

pub halves_pairs : {hs : List ℕ} → length hs % 2 ≡ 0 → All Half hs → halves (pairs hs) ≡ hs
halves_pairs e no_more = refl
halves_pairs e (also p no_more) = absurd (omega arith)
halves_pairs e (also {x = h} p (also {x = l} {xs = hs} q a)) =
    let d : (16 * h + l) / 16 ≡ h = omega arith in
    let m : (16 * h + l) % 16 ≡ l = omega arith in
    rw (d, m, halves_pairs {hs = hs} (omega arith) a)
