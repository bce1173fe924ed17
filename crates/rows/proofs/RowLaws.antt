-- A row of 320 numbers, which are those of some fields and zeros behind them: one more field stands over the zeros, and the fields are read back, one by one.
-- It holds since the numbers before and behind a field's own five stay, and each field is read from its own five.
use mathlib.Core.Path.{◌≡◌, refl, ap, ap₂, sym, ◌∙◌}
use mathlib.Core.List.{List, [], ◌∷◌, ◌++◌, append_assoc}
use Prim.Native.Nat.{ℕ, zero, suc, ◌+◌, ◌-◌, ◌*◌, ◌/◌, ◌≤◌, ◌<◌}
use native.Mathlib.Omega.{arith}
use native.Mathlib.Numerals.{add-one}
use native.Mathlib.Decide.{dec_lt}
use lib.ListN.{length, take, drop, get_or, replicate, length-append, length-replicate, replicate-append-replicate, get_or-append}
use lib.Seq.{drop_at, drop-cons, drop-length, get_or_at, take_at, take-length, take-suc}
use Rattle.rules.specs.Halves.{copy, output_size, Field as RuleField, over}
use Rattle.rules.specs.Rows.{FieldWithin}
use Rattle.rules.proofs.Halves.SizeLaws.{length_over}
use Rattle.rules.proofs.Halves.RecordLaws.{sizes_within}
use Rattle.terms.specs.Meaning.{field_of}
use Rattle.terms.specs.declared.Field.{Field}
use Rattle.rows.specs.Flat.{flat_of, field_at, Short}
use Rattle.rows.specs.Kept.{first_fields, fields_in, row_of}
use Rattle.rows.proofs.FlatLaws.{length_flat, flat_append, field_back_lem}

-- ---- what 16 bits hold

-- a field whose numbers are within their limits
pub short_one : (f : RuleField) → FieldWithin f → Short f
short_one f w =
    let both = sizes_within f.kind w.kind in
    record { r = omega (arith, w.r.1); input = omega (arith, both.0.1); output = omega (arith, both.1.1); t = omega (arith, w.t.1) }

-- ---- one more field

-- from the end of a list on, over as many of what it is repeated by
over_rest : (xs vs : List ℕ) (n d : ℕ) → length vs ≤ n → over (length xs) vs (xs ++ replicate n d) ≡ (xs ++ vs) ++ replicate (n - length vs) d
unfolding over
over_rest xs vs n d h =
    let k : n ≡ length vs + (n - length vs) = omega arith in
    let front : take (length xs) (xs ++ replicate n d) ≡ xs = take_at xs (replicate n d) (length xs) refl in
    let behind : drop (length xs + length vs) (xs ++ replicate n d) ≡ replicate (n - length vs) d =
    ap (λ (z : ℕ). drop (length xs + length vs) (xs ++ replicate z d)) k
    ∙ ap (λ (r : List ℕ). drop (length xs + length vs) (xs ++ r)) (sym (replicate-append-replicate (length vs) (n - length vs) d))
    ∙ ap (drop (length xs + length vs)) (sym (append_assoc xs (replicate (length vs) d) (replicate (n - length vs) d)))
    ∙ drop_at (xs ++ replicate (length vs) d) (replicate (n - length vs) d) (length xs + length vs)
    (length-append xs (replicate (length vs) d) ∙ ap (λ (z : ℕ). length xs + z) (length-replicate (length vs) d))
    in
    rw (front, behind)

pub row_more : (fs : List RuleField) (f : RuleField) (row : List ℕ) → row ≡ row_of fs → length fs < 64
    → over (5 * length fs) (flat_of (f ∷ [])) row ≡ row_of (fs ++ (f ∷ []))
unfolding row_of
row_more fs f row e l =
    let five : (5 * length fs) ≡ length (flat_of fs) = sym (length_flat fs) in
    let rest : 320 - 5 * length fs - 5 ≡ 320 - 5 * length (fs ++ (f ∷ [])) = omega (arith, length-append fs (f ∷ [])) in
    ap (over (5 * length fs) (flat_of (f ∷ []))) e
    ∙ ap (λ (n : ℕ). over n (flat_of (f ∷ [])) (flat_of fs ++ replicate (320 - 5 * length fs) 0)) five
    ∙ over_rest (flat_of fs) (flat_of (f ∷ [])) (320 - 5 * length fs) 0 (omega arith)
    ∙ ap (λ (n : ℕ). (flat_of fs ++ flat_of (f ∷ [])) ++ replicate n 0) rest
    ∙ ap (λ (r : List ℕ). r ++ replicate (320 - 5 * length (fs ++ (f ∷ []))) 0) (sym (flat_append fs (f ∷ [])))

-- and it is a row still
pub length_more : (f : RuleField) (row : List ℕ) (at : ℕ) → length row ≡ 320 → at + 5 ≤ 320 → length (over at (flat_of (f ∷ [])) row) ≡ 320
length_more f row at e h = length_over at (flat_of (f ∷ [])) row (omega arith) ∙ e

-- ---- the fields of a row

length_first : (row : List ℕ) (i : ℕ) → length (first_fields row i) ≡ i
length_first row zero = refl
length_first row (suc i) = length-append (first_fields row i) (field_of (field_at row i) ∷ []) ∙ omega (arith, length_first row i)

-- as many as a row's numbers are of
first_back : (fs : List RuleField) (i : ℕ) → i ≤ length fs → first_fields (flat_of fs) i ≡ take i fs
first_back fs zero h = refl
first_back fs (suc i) h =
    let none : RuleField = record { r = 0; kind = copy 0; t = 0 } in
    ap (λ (r : List RuleField). r ++ (field_of (field_at (flat_of fs) i) ∷ [])) (first_back fs i (omega arith))
    ∙ ap (λ (f : RuleField). take i fs ++ (f ∷ [])) (field_back_lem none fs i h)
    ∙ sym (take-suc fs i none h)

-- the fields of the numbers of some fields are these
pub fields_back : (fs : List RuleField) → fields_in (flat_of fs) ≡ fs
unfolding fields_in
fields_back fs =
    let many : length (flat_of fs) / 5 ≡ length fs = omega (arith, length_flat fs) in
    ap (first_fields (flat_of fs)) many ∙ first_back fs (length fs) (omega arith) ∙ take-length fs

pub many_in : (row : List ℕ) → length (fields_in row) ≡ length row / 5
unfolding fields_in
many_in row = length_first row (length row / 5)

first_at : (row : List ℕ) (d : RuleField) (i n : ℕ) → i < n → get_or (first_fields row n) i d ≡ field_of (field_at row i)
first_at row d i zero h = absurd (omega arith)
first_at row d i (suc n) h =
    elim (dec_lt i n) [
      | yes l ↦ get_or-append (first_fields row n) (field_of (field_at row n) ∷ []) d i (omega (arith, length_first row n)) ∙ first_at row d i n l
      | no g ↦ let e : i ≡ n = omega arith in rw e (get_or_at (first_fields row n) (field_of (field_at row n)) [] d n (length_first row n))
    ]

-- field i of them is the field that is read there
pub field_in : (row : List ℕ) (d : RuleField) (i : ℕ) → 5 * i + 5 ≤ length row → get_or (fields_in row) i d ≡ field_of (field_at row i)
unfolding fields_in
field_in row d i h = first_at row d i (length row / 5) (omega arith)

-- the next field, and those behind it
pub fields_on : (row : List ℕ) (i : ℕ) → 5 * i + 5 ≤ length row → drop i (fields_in row) ≡ field_of (field_at row i) ∷ drop (i + 1) (fields_in row)
fields_on row i h =
    let d : RuleField = record { r = 0; kind = copy 0; t = 0 } in
    drop-cons (fields_in row) i d (omega (arith, many_in row))
    ∙ ap₂ (λ (f : RuleField) (k : ℕ). f ∷ drop k (fields_in row)) (field_in row d i h) (sym (add-one i))

-- and none is left behind the last
pub fields_end : (row : List ℕ) (i : ℕ) → i ≡ length row / 5 → drop i (fields_in row) ≡ []
fields_end row i e = ap (λ (k : ℕ). drop k (fields_in row)) (e ∙ sym (many_in row)) ∙ drop-length (fields_in row)

-- ---- the numbers of a row

-- the numbers stand before the zeros
pub flat_front : (fs : List RuleField) (i : ℕ) → i ≡ 5 * length fs → take i (row_of fs) ≡ flat_of fs
unfolding row_of
flat_front fs i e = take_at (flat_of fs) (replicate (320 - 5 * length fs) 0) i (length_flat fs ∙ sym e)

-- a row of at most 64 fields
pub length_row : (fs : List RuleField) → length fs ≤ 64 → length (row_of fs) ≡ 320
unfolding row_of
length_row fs h = omega (arith, length-append (flat_of fs) (replicate (320 - 5 * length fs) 0), length_flat fs, length-replicate {A = ℕ} (320 - 5 * length fs) 0)

-- no fields
pub row_none : row_of [] ≡ replicate 320 0
unfolding row_of
row_none = refl

-- ---- what the functions promise leaves one outcome

pub size_only_one : (f : Field) {x y : ℕ} → x ≡ output_size (field_of f).kind → y ≡ output_size (field_of f).kind → x ≡ y
size_only_one f e g = e ∙ sym g

pub put_only_one : (at : ℕ) (f : Field) (row : List ℕ) {x y : List ℕ} → x ≡ over at (flat_of (field_of f ∷ [])) row → y ≡ over at (flat_of (field_of f ∷ [])) row → x ≡ y
put_only_one at f row e g = e ∙ sym g

pub field_only_one : (row : List ℕ) (i : ℕ) {x y : Field} → x ≡ field_at row i → y ≡ field_at row i → x ≡ y
field_only_one row i e g = e ∙ sym g

pub clear_only_one : {x y : List ℕ} → x ≡ row_of [] → y ≡ row_of [] → x ≡ y
clear_only_one e g = e ∙ sym g

pub wide_only_one : (number : ℕ) {x y : ℕ} → (x ≡ number) × (x < 65536) → (y ≡ number) × (y < 65536) → x ≡ y
wide_only_one number e g = e.0 ∙ sym g.0
