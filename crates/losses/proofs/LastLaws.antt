-- The last field that passes a test: one more field of the row takes the number one step on, by going along the fields; and from the last field back, as long as none
-- passes, the fields behind leave the last what it is. And which positions a field of the code writes is what the rules say of its meaning.
use mathlib.Core.Path.{◌≡◌, refl, ap, ap₂, sym, subst, ◌∙◌}
use mathlib.Core.Bool.{Bool, true, false, cond, ◌&&◌}
use mathlib.Core.List.{List, [], ◌∷◌}
use Prim.Native.Nat.{ℕ, zero, suc, ◌+◌, ◌*◌, ◌/◌, ◌≤◌, ◌<◌}
use native.Mathlib.Omega.{arith}
use native.Mathlib.Numerals.{add-one}
use lib.Dec.{ltb, leb}
use lib.ListN.{length, drop}
use borrow.Author.Tests.{le-leb, lt-leb}
use Rattle.rules.specs.Halves.{Field as RuleField}
use Rattle.rules.specs.Judge.{writes_at}
use Rattle.rules.specs.Losses.{last_from}
use Rattle.terms.specs.Meaning.{field_of}
use Rattle.terms.specs.declared.Field.{Field}
use Rattle.terms.proofs.FieldLaws.{output_of}
use Rattle.rows.specs.Flat.{field_at}
use Rattle.rows.specs.Kept.{fields_in}
use Rattle.rows.proofs.RowLaws.{fields_on, fields_end}
use Rattle.sources.specs.Promise.{FieldInside, RowInside}

-- ---- the last field

-- the first k fields make of the last so far some number, from which the others go on
pub last_split : (q : RuleField → Bool) (x i k : ℕ) (fs : List RuleField) → (y : ℕ) × (last_from q x i fs ≡ last_from q y (i + k) (drop k fs))
last_split q x i zero fs =
    let e : i ≡ i + 0 = omega arith in
    (x, ap (λ (n : ℕ). last_from q x n fs) e)
last_split q x i (suc k) [] = (x, refl)
last_split q x i (suc k) (f ∷ fs) =
    let s = last_split q (cond (q f) i x) (suc i) k fs in
    let e : suc i + k ≡ i + suc k = omega arith in
    (s.0, s.1 ∙ ap (λ (n : ℕ). last_from q s.0 n (drop k fs)) e)

module _ (q : RuleField → Bool) (row : List ℕ) where
  -- one more field, which is f: the last is x before it and y behind it, and z in the end; for whoever goes along the fields, and for the way back below
  module _ (k : ℕ) (l : 5 * k + 5 ≤ length row) (f : Field) (read : f ≡ field_at row k) (x y z : ℕ) (left : last_from q x (k + 1) (drop k (fields_in row)) ≡ z) where
    one_more : y ≡ cond (q (field_of f)) (k + 1) x → last_from q y (k + 1 + 1) (drop (k + 1) (fields_in row)) ≡ z
    one_more e =
        ap₂ (λ (last next : ℕ). last_from q last next (drop (k + 1) (fields_in row))) e (add-one (k + 1))
        ∙ sym (ap (last_from q x (k + 1)) (fields_on row k l ∙ ap (λ (g : Field). field_of g ∷ drop (k + 1) (fields_in row)) (sym read)))
        ∙ left

    pub last_here : (t : Bool) → t ≡ q (field_of f) → t ≡ true → y ≡ k + 1 → last_from q y (k + 1 + 1) (drop (k + 1) (fields_in row)) ≡ z
    last_here t s e p = one_more (rw (← s, e) p)

    pub last_before : (t : Bool) → t ≡ q (field_of f) → t ≡ false → y ≡ x → last_from q y (k + 1 + 1) (drop (k + 1) (fields_in row)) ≡ z
    last_before t s e p = one_more (rw (← s, e) p)

  -- the fields behind the first k leave the last what it is
  abbrev pub Quiet : ℕ → Type 0
  Quiet k = (x : ℕ) → last_from q x (k + 1) (drop k (fields_in row)) ≡ x

  -- one field before those, which is f, and what the code's test says of it
  module _ (k : ℕ) (l : 5 * k + 5 ≤ length row) (f : Field) (read : f ≡ field_at row k) (n : ℕ) (next : n ≡ k + 1) (quiet : Quiet n) (inside : RowInside row 4096 4096) (t : Bool)
      (says : FieldInside 4096 4096 f → t ≡ q (field_of f)) where
    one_before : (x : ℕ) → last_from q x (k + 1) (drop k (fields_in row)) ≡ cond t (k + 1) x
    one_before x =
        sym (one_more k l f read x (cond (q (field_of f)) (k + 1) x) (last_from q x (k + 1) (drop k (fields_in row))) refl refl)
        ∙ subst Quiet next quiet (cond (q (field_of f)) (k + 1) x)
        ∙ ap (λ (b : Bool). cond b (k + 1) x) (sym (says (subst (FieldInside 4096 4096) (sym read) (inside.each k l))))

    pub last_passed : t ≡ false → Quiet k
    last_passed e x = one_before x ∙ rw e

    pub last_found : t ≡ true → k + 1 ≡ last_from q 0 1 (fields_in row)
    last_found e =
        let before = last_split q 0 1 k (fields_in row) in
        let from : 1 + k ≡ k + 1 = omega arith in
        sym (before.1 ∙ ap (λ (next : ℕ). last_from q before.0 next (drop k (fields_in row))) from ∙ one_before before.0 ∙ rw e)

  -- behind all fields the last is what it is
  pub last_all : (k : ℕ) → k ≡ length row / 5 → Quiet k
  last_all k e x = ap (last_from q x (k + 1)) (fields_end row k e)

-- ---- the positions that a field writes

module _ (n m : ℕ) (f : Field) (ok : FieldInside n m f) (i : ℕ) where
  writes_is : (leb f.t i && ltb i (f.t + f.output)) ≡ writes_at i (field_of f)
  unfolding writes_at field_of
  writes_is = ap (λ (s : ℕ). leb f.t i && ltb i (f.t + s)) (sym (output_of f ok.one_size))

  pub writes_from : f.t ≤ i → ltb i (f.t + f.output) ≡ writes_at i (field_of f)
  writes_from l = rw (le-leb f.t i l) at writes_is

  pub writes_before : i < f.t → leb f.t i ≡ writes_at i (field_of f)
  writes_before l = lt-leb f.t i l ∙ (rw (lt-leb f.t i l) at writes_is)
