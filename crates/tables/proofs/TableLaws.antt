-- The entries of a table, field by field: while it is filled, it holds the entries of the fields so far, and nothing behind them.
use mathlib.Core.Path.{◌≡◌, refl, ap, sym, ◌∙◌}
use mathlib.Core.List.{List, [], ◌∷◌, ◌++◌, map}
use Prim.Native.Nat.{ℕ, suc, ◌+◌, ◌-◌, ◌/◌, ◌≤◌, ◌<◌}
use native.Mathlib.Numerals.{add-one}
use native.Mathlib.Omega.{arith}
use lib.ListN.{length, take, get_or, set, replicate, length-map}
use lib.Seq.{take-suc, take-length, set_at, append_snoc, length-take-le}
use mathlib.Core.Bool.{Bool, true, false, cond}
use lib.Dec.{leb}
use Rattle.rules.specs.Grammar.{in_data, in_key, CardField}
use Rattle.rules.specs.Halves.{Field as RuleField}
use Rattle.rules.specs.Lent.{kind_number, part_number, entry_of}
use Rattle.terms.specs.Meaning.{kind_of, field_of, OneSize, no_field, entry_for, no_entry}
use Rattle.terms.specs.declared.Field.{Field}
use Rattle.terms.specs.declared.Entry.{Entry}
use Rattle.terms.proofs.FieldLaws.{kind_number_lem, input_size_lem, output_size_lem}
use Rattle.rows.specs.Flat.{field_at}
use Rattle.rows.specs.Kept.{fields_in}
use Rattle.rows.proofs.RowLaws.{many_in, field_in}
use Rattle.tables.specs.Promise.{part_on_card, place_on_card, on_card, table_of}

-- ---- one entry

pub entry_is : (f : Field) (key k p r : ℕ) → k ≡ kind_number (kind_of f.kind 0 0) → p ≡ part_on_card key f.r → r ≡ place_on_card key f.r → OneSize f.kind f.input f.output
    → ◌≡◌ {A = Entry} (record { kind = k; part = p; r = r; input = f.input; output = f.output; t = f.t }) (entry_for (entry_of (on_card key (field_of f))))
unfolding field_of on_card
entry_is f key k p r e h q one =
    let n = e ∙ kind_number_lem f.kind f.input f.output in
    let own = h ∙ part_said (leb f.r key) in
    λ i. record {
      kind = n i;
      part = own i;
      r = q i;
      input = sym (input_size_lem f.kind f.input f.output) i;
      output = sym (output_size_lem f.kind f.input f.output one) i;
      t = f.t;
    }
  where
    part_said : (t : Bool) → cond t 1 0 ≡ part_number (cond t in_key in_data)
    part_said true = refl
    part_said false = refl

-- ---- the table while it is filled

pub record Filling (row : List ℕ) (key : ℕ) (out : List Entry) (i : ℕ) : Type 0 where
  pub so_far : i ≤ length row / 5
  pub is : out ≡ table_of (map (on_card key) (take i (fields_in row)))

pub fill_start : (row : List ℕ) (key : ℕ) (out : List Entry) → out ≡ table_of [] → Filling row key out 0
fill_start row key out e = record { so_far = omega arith; is = e }

-- one more field
map_snoc : (key : ℕ) (fs : List RuleField) (f : RuleField)
    → map entry_for (map entry_of (map (on_card key) (fs ++ f ∷ []))) ≡ map entry_for (map entry_of (map (on_card key) fs)) ++ entry_for (entry_of (on_card key f)) ∷ []
map_snoc key [] f = refl
map_snoc key (g ∷ fs) f = ap (entry_for (entry_of (on_card key g)) ∷◌) (map_snoc key fs f)

module _ (row : List ℕ) (key : ℕ) (few : length row ≤ 320) where
  abbrev firsts : ℕ → List CardField
  firsts i = map (on_card key) (take i (fields_in row))

  -- the first i entries, and the rest
  length_fields : (i : ℕ) → i ≤ length row / 5 → length (firsts i) ≡ i
  length_fields i l = length-map (take i (fields_in row)) (on_card key) ∙ length-take-le i (fields_in row) (omega (arith, many_in row))

  abbrev made : ℕ → List Entry
  made i = map entry_for (map entry_of (firsts i))

  length_made : (i : ℕ) → i ≤ length row / 5 → length (made i) ≡ i
  length_made i l = length-map (map entry_of (firsts i)) entry_for ∙ length-map (firsts i) entry_of ∙ length_fields i l

  table_at : (i : ℕ) → i ≤ length row / 5 → table_of (firsts i) ≡ made i ++ replicate (64 - i) no_entry
  unfolding table_of
  table_at i l = ap (λ (n : ℕ). made i ++ replicate (64 - n) no_entry) (length_fields i l)

  set_next : (i : ℕ) → i < length row / 5 → (e : Entry) → e ≡ entry_for (entry_of (on_card key (field_of (field_at row i))))
      → set (table_of (firsts i)) i e ≡ table_of (firsts (i + 1))
  set_next i l e q =
      let d = field_of no_field in
      let room : 64 - i ≡ suc (64 - (i + 1)) = omega arith in
      ap (λ (t : List Entry). set t i e) (table_at i (omega arith) ∙ ap (λ (n : ℕ). made i ++ replicate n no_entry) room)
      ∙ set_at (made i) no_entry (replicate (64 - (i + 1)) no_entry) e i (length_made i (omega arith))
      ∙ ap (λ (v : Entry). made i ++ v ∷ replicate (64 - (i + 1)) no_entry) (q ∙ ap (λ (f : RuleField). entry_for (entry_of (on_card key f))) (sym (field_in row d i (omega arith))))
      ∙ sym (append_snoc (made i) _ (replicate (64 - (i + 1)) no_entry))
      ∙ ap (◌++ replicate (64 - (i + 1)) no_entry) (sym (map_snoc key (take i (fields_in row)) (get_or (fields_in row) i d)) ∙ ap (λ (fs : List RuleField). map entry_for (map entry_of (map (on_card key) fs))) (sym (take-suc (fields_in row) i d (omega (arith, many_in row))) ∙ ap (λ (n : ℕ). take n (fields_in row)) (sym (add-one i))))
      ∙ sym (table_at (i + 1) (omega arith))

  pub fill_more : (out : List Entry) (i : ℕ) → Filling row key out i → i < length row / 5 → (e : Entry) → e ≡ entry_for (entry_of (on_card key (field_of (field_at row i)))) → Filling row key (set out i e) (i + 1)
  fill_more out i f l e q = record { so_far = omega arith; is = ap (λ (t : List Entry). set t i e) f.is ∙ set_next i (omega arith) e q }

pub fill_end : (row : List ℕ) (key : ℕ) (out : List Entry) (i : ℕ) → Filling row key out i → length row / 5 ≤ i → out ≡ table_of (map (on_card key) (fields_in row))
fill_end row key out i f l =
    let e : i ≡ length (fields_in row) = omega (arith, f.so_far, many_in row) in
    f.is ∙ ap (λ (fs : List RuleField). table_of (map (on_card key) fs)) (ap (λ (n : ℕ). take n (fields_in row)) e ∙ take-length (fields_in row))
