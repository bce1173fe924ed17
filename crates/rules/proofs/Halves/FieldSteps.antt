-- The output record field by field, in halves and in bytes: after i fields it is what it was after the fields before, with one field put over
-- it. It holds since the fields are written in order, and since a field begins and ends between bytes, so that its bytes go over bytes.
use mathlib.Core.Path.{◌≡◌, refl, ap, ap₂, sym, ◌∙◌}
use mathlib.Core.List.{List, [], ◌∷◌, ◌++◌}
use Prim.Native.Nat.{ℕ, zero, suc, ◌+◌, ◌-◌, ◌*◌, ◌≤◌, ◌<◌}
use native.Mathlib.Omega.{arith}
use lib.ListN.{length, take, drop, get_or, replicate, length-take, length-drop, length-append}
use lib.Seq.{length-take-le, take-suc, take-nil, drop-nil}
use Rattle.rules.specs.Base.{pairs}
use Rattle.rules.specs.Places.{All, no_more, also}
use Rattle.rules.specs.Halves.{halves, bytes, Kind, copy, pack, unpack, input_size, output_size, Field, reads_many, writes_from, over, Constant, blanks, converted, field_halves, written, out_halves, value, pack_bytes, unpack_bytes}
use Rattle.rules.specs.RecordParts.{Fits, converted_bytes, field_input, field_bytes, written_bytes}
use Rattle.rules.proofs.Base.Lists.{take_drop}
use Rattle.rules.proofs.Base.AllLaws.{all_take, all_at}
use Rattle.rules.proofs.Halves.SizeLaws.{length_halves, length_pairs, length_over, length_blanks, length_field_halves, length_out_halves, pairs_halves}
use Rattle.rules.proofs.Halves.PlaceLaws.{over_inside, over_before, over_after, over_append}
use Rattle.rules.proofs.Halves.BytePlaces.{halves_take, halves_drop, length_pack_bytes, length_unpack_bytes}

-- ---- halves

module _ {A : Type 0} (zone : ℕ) (k : Constant → A) (xs : List A) where
  pub written_append : (fs gs : List Field) (out : List A) → written zone k (fs ++ gs) xs out ≡ written zone k gs xs (written zone k fs xs out)
  written_append [] gs out = refl
  written_append (f ∷ fs) gs out = written_append fs gs (over (writes_from f) (field_halves zone k f xs) out)

  -- one more field
  pub written_step : (d : Field) (fs : List Field) (i : ℕ) → i < length fs → (out : List A)
      → written zone k (take (suc i) fs) xs out ≡ over (writes_from (get_or fs i d)) (field_halves zone k (get_or fs i d) xs) (written zone k (take i fs) xs out)
  written_step d fs i h out = ap (λ (r : List Field). written zone k r xs out) (take-suc fs i d h) ∙ written_append (take i fs) (get_or fs i d ∷ []) out

  pub out_step : (n : ℕ) (d : Field) (fs : List Field) (i : ℕ) → i < length fs
      → out_halves zone k n (take (suc i) fs) xs ≡ over (writes_from (get_or fs i d)) (field_halves zone k (get_or fs i d) xs) (out_halves zone k n (take i fs) xs)
  unfolding out_halves
  out_step n d fs i h = written_step d fs i h (blanks k n)

-- each half after one more field: inside the field as the field has it, outside as it was
module _ {A : Type 0} (zone : ℕ) (k : Constant → A) (a b : ℕ) (xs : List A) (wide : length xs ≡ 2 * a) (d : Field) (fs : List Field) (h : All (Fits a b) fs) (i : ℕ) (l : i < length fs)
    (e : A) where
  here : Fits a b (get_or fs i d)
  here = all_at d fs h i l

  many : length (field_halves zone k (get_or fs i d) xs) ≡ 2 * output_size (get_or fs i d).kind
  many = length_field_halves zone k a b (get_or fs i d) xs here wide

  room : writes_from (get_or fs i d) + length (field_halves zone k (get_or fs i d) xs) ≤ length (out_halves zone k b (take i fs) xs)
  room = omega (arith, many, length_out_halves zone k a b (take i fs) xs (all_take i h) wide, here.output_high, here.t_low)

  pub out_inside : (g j : ℕ) → g ≡ writes_from (get_or fs i d) + j → j < 2 * output_size (get_or fs i d).kind
      → get_or (out_halves zone k b (take (suc i) fs) xs) g e ≡ get_or (field_halves zone k (get_or fs i d) xs) j e
  out_inside g j p q =
      ap (λ (r : List A). get_or r g e) (out_step zone k xs b d fs i l) ∙ over_inside (writes_from (get_or fs i d)) _ _ e room g j p (omega (arith, many))

  pub out_before : (g : ℕ) → g < writes_from (get_or fs i d) → get_or (out_halves zone k b (take (suc i) fs) xs) g e ≡ get_or (out_halves zone k b (take i fs) xs) g e
  out_before g p = ap (λ (r : List A). get_or r g e) (out_step zone k xs b d fs i l) ∙ over_before (writes_from (get_or fs i d)) _ _ e room g p

  pub out_after : (g : ℕ) → writes_from (get_or fs i d) + 2 * output_size (get_or fs i d).kind ≤ g
      → get_or (out_halves zone k b (take (suc i) fs) xs) g e ≡ get_or (out_halves zone k b (take i fs) xs) g e
  out_after g p =
      ap (λ (r : List A). get_or r g e) (out_step zone k xs b d fs i l) ∙ over_after (writes_from (get_or fs i d)) _ _ e room g (omega (arith, many))

-- ---- halves to bytes

pairs_append : (xs ys : List ℕ) (w : ℕ) → length xs ≡ 2 * w → pairs (xs ++ ys) ≡ pairs xs ++ pairs ys
pairs_append [] ys w e = refl
pairs_append (x ∷ []) ys w e = absurd (omega arith)
pairs_append (x ∷ (y ∷ xs)) ys w e = ap (λ (r : List ℕ). (16 * x + y) ∷ r) (pairs_append xs ys (w - 1) (omega arith))

pairs_take : (i j : ℕ) (hs : List ℕ) → j ≡ 2 * i → pairs (take j hs) ≡ take i (pairs hs)
pairs_take zero j hs e = ap (λ (c : ℕ). pairs (take c hs)) e
pairs_take (suc i) j [] e = ap pairs (take-nil j)
pairs_take (suc i) j (x ∷ []) e = ap (λ (c : ℕ). pairs (take c (x ∷ []))) (let z : j ≡ suc (suc (2 * i)) = omega arith in z)
pairs_take (suc i) j (x ∷ (y ∷ hs)) e =
    ap (λ (c : ℕ). pairs (take c (x ∷ y ∷ hs))) (let z : j ≡ suc (suc (2 * i)) = omega arith in z)
    ∙ ap (λ (r : List ℕ). (16 * x + y) ∷ r) (pairs_take i (2 * i) hs refl)

pairs_drop : (i j : ℕ) (hs : List ℕ) → j ≡ 2 * i → pairs (drop j hs) ≡ drop i (pairs hs)
pairs_drop zero j hs e = ap (λ (c : ℕ). pairs (drop c hs)) e
pairs_drop (suc i) j [] e = ap pairs (drop-nil j)
pairs_drop (suc i) j (x ∷ []) e = ap (λ (c : ℕ). pairs (drop c (x ∷ []))) (let z : j ≡ suc (suc (2 * i)) = omega arith in z)
pairs_drop (suc i) j (x ∷ (y ∷ hs)) e =
    ap (λ (c : ℕ). pairs (drop c (x ∷ y ∷ hs))) (let z : j ≡ suc (suc (2 * i)) = omega arith in z) ∙ pairs_drop i (2 * i) hs refl

-- whole bytes over bytes
pub bytes_over : (i w : ℕ) (vs out : List ℕ) → length vs ≡ 2 * w → 2 * i ≤ length out → bytes (over (2 * i) vs out) ≡ over i (bytes vs) (bytes out)
unfolding over
bytes_over i w vs out e h =
    pairs_append (take (2 * i) out ++ vs) (drop (2 * i + length vs) out) (i + w) (length-append (take (2 * i) out) vs ∙ omega (arith, length-take (2 * i) out))
    ∙ ap₂ (λ (a b : List ℕ). a ++ b)
    (pairs_append (take (2 * i) out) vs i (length-take (2 * i) out ∙ omega arith) ∙ ap (λ (r : List ℕ). r ++ pairs vs) (pairs_take i (2 * i) out refl))
    (pairs_drop (i + length (pairs vs)) (2 * i + length vs) out (omega (arith, length_pairs vs)))

pub bytes_blanks : (n : ℕ) → bytes (blanks value n) ≡ replicate n 0x40
bytes_blanks zero = refl
bytes_blanks (suc n) = ap (λ (r : List ℕ). 0x40 ∷ r) (bytes_blanks n)

-- ---- bytes

bytes_converted : (zone : ℕ) (c : Kind) (x : List ℕ) → bytes (converted zone value c (halves x)) ≡ converted_bytes zone c x
unfolding pack_bytes unpack_bytes
bytes_converted zone (copy s) x = pairs_halves x
bytes_converted zone (pack n m) x = refl
bytes_converted zone (unpack n m) x = refl

pub bytes_field_halves : (zone : ℕ) (f : Field) (r : List ℕ) → bytes (field_halves zone value f (halves r)) ≡ field_bytes zone f r
unfolding field_halves field_bytes field_input
bytes_field_halves zone f r =
    ap (λ (hs : List ℕ). bytes (converted zone value f.kind hs))
    (ap (take (reads_many f)) (sym (halves_drop (f.r - 1) r)) ∙ sym (halves_take (input_size f.kind) (drop (f.r - 1) r)))
    ∙ bytes_converted zone f.kind (take (input_size f.kind) (drop (f.r - 1) r))

module _ (zone : ℕ) (r : List ℕ) where
  written_bytes_append : (fs gs : List Field) (out : List ℕ) → written_bytes zone (fs ++ gs) r out ≡ written_bytes zone gs r (written_bytes zone fs r out)
  written_bytes_append [] gs out = refl
  written_bytes_append (f ∷ fs) gs out = written_bytes_append fs gs (over (f.t - 1) (field_bytes zone f r) out)

  -- one more field
  pub written_bytes_step : (d : Field) (fs : List Field) (i : ℕ) → i < length fs → (out : List ℕ)
      → written_bytes zone (take (suc i) fs) r out ≡ over ((get_or fs i d).t - 1) (field_bytes zone (get_or fs i d) r) (written_bytes zone (take i fs) r out)
  written_bytes_step d fs i h out = ap (λ (gs : List Field). written_bytes zone gs r out) (take-suc fs i d h) ∙ written_bytes_append (take i fs) (get_or fs i d ∷ []) out

-- ---- fields inside their records

length_converted_bytes : (zone : ℕ) (c : Kind) (x : List ℕ) → 1 ≤ input_size c → 1 ≤ output_size c → length x ≡ input_size c → length (converted_bytes zone c x) ≡ output_size c
length_converted_bytes zone (copy s) x i o e = e
length_converted_bytes zone (pack n m) x i o e = length_pack_bytes m x (omega arith) o
length_converted_bytes zone (unpack n m) x i o e = length_unpack_bytes zone m x (omega arith) o

module _ (zone a b : ℕ) (r : List ℕ) (long : a ≤ length r) where
  pub length_field_input : (f : Field) → Fits a b f → length (field_input f r) ≡ input_size f.kind
  unfolding field_input
  length_field_input f h =
      length-take (input_size f.kind) (drop (f.r - 1) r) ∙ omega (arith, length-drop (f.r - 1) r, h.input_high, h.r_low)

  pub length_field_bytes : (f : Field) → Fits a b f → length (field_bytes zone f r) ≡ output_size f.kind
  unfolding field_bytes
  length_field_bytes f h = length_converted_bytes zone f.kind (field_input f r) h.input_low h.output_low (length_field_input f h)

  -- a field lies inside the output
  pub field_room : (f : Field) (out : List ℕ) → Fits a b f → length out ≡ b → f.t - 1 + length (field_bytes zone f r) ≤ length out
  field_room f out h o = omega (arith, length_field_bytes f h, h.output_high, h.t_low)

  pub length_written_bytes : (fs : List Field) (out : List ℕ) → All (Fits a b) fs → length out ≡ b → length (written_bytes zone fs r out) ≡ b
  length_written_bytes [] out no_more o = o
  length_written_bytes (f ∷ fs) out (also h hs) o =
      length_written_bytes fs (over (f.t - 1) (field_bytes zone f r) out) hs (length_over (f.t - 1) (field_bytes zone f r) out (field_room f out h o) ∙ o)

  -- what follows the output stays
  pub written_rest : (fs : List Field) (out rest : List ℕ) → All (Fits a b) fs → length out ≡ b → written_bytes zone fs r (out ++ rest) ≡ written_bytes zone fs r out ++ rest
  written_rest [] out rest no_more o = refl
  written_rest (f ∷ fs) out rest (also h hs) o =
      ap (written_bytes zone fs r) (over_append (f.t - 1) (field_bytes zone f r) out rest (field_room f out h o))
      ∙ written_rest fs (over (f.t - 1) (field_bytes zone f r) out) rest hs (length_over (f.t - 1) (field_bytes zone f r) out (field_room f out h o) ∙ o)

-- a field reads none of what follows A's n bytes
module _ (zone a b : ℕ) (r : List ℕ) where
  pub input_first : (f : Field) → Fits a b f → field_input f (take a r) ≡ field_input f r
  unfolding field_input
  input_first f h = take_drop (input_size f.kind) (f.r - 1) a r (omega (arith, h.input_high, h.r_low))

  pub written_first : (fs : List Field) (out : List ℕ) → All (Fits a b) fs → written_bytes zone fs (take a r) out ≡ written_bytes zone fs r out
  unfolding field_bytes
  written_first [] out no_more = refl
  written_first (f ∷ fs) out (also h hs) =
      written_first fs (over (f.t - 1) (field_bytes zone f (take a r)) out) hs
      ∙ ap (λ (s : List ℕ). written_bytes zone fs r (over (f.t - 1) (converted_bytes zone f.kind s) out)) (input_first f h)

  -- the bytes of the output halves are the bytes put over bytes
  pub written_bytes_lem : length r ≡ a → (fs : List Field) (out : List ℕ) → All (Fits a b) fs → length out ≡ 2 * b
      → bytes (written zone value fs (halves r) out) ≡ written_bytes zone fs r (bytes out)
  written_bytes_lem e [] out no_more o = refl
  written_bytes_lem e (f ∷ fs) out (also h hs) o =
      let wide : length (halves r) ≡ 2 * a = omega (arith, length_halves r) in
      let many : length (field_halves zone value f (halves r)) ≡ 2 * output_size f.kind = length_field_halves zone value a b f (halves r) h wide in
      let room : writes_from f + length (field_halves zone value f (halves r)) ≤ length out = omega (arith, many, h.output_high, h.t_low) in
      written_bytes_lem e fs (over (writes_from f) (field_halves zone value f (halves r)) out) hs (length_over (writes_from f) (field_halves zone value f (halves r)) out room ∙ o)
      ∙ ap (written_bytes zone fs r)
      (bytes_over (f.t - 1) (output_size f.kind) (field_halves zone value f (halves r)) out many (omega arith)
      ∙ ap (λ (s : List ℕ). over (f.t - 1) s (bytes out)) (bytes_field_halves zone f r))

-- n bytes of hex 40, and the fields over them
pub out_bytes_lem : (zone a b : ℕ) (r : List ℕ) → a ≤ length r → (fs : List Field) → All (Fits a b) fs
    → bytes (out_halves zone value b fs (halves (take a r))) ≡ written_bytes zone fs r (replicate b 0x40)
unfolding out_halves
out_bytes_lem zone a b r l fs h =
    written_bytes_lem zone a b (take a r) (length-take-le a r l) fs (blanks value b) h (length_blanks value b)
    ∙ ap (written_bytes zone fs (take a r)) (bytes_blanks b)
    ∙ written_first zone a b r fs (replicate b 0x40) h
