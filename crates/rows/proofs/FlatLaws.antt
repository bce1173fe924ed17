-- The numbers of fields, by place: how many they are, that the numbers of fields one behind the other stand one behind the other, what
-- five stores in a row leave, and that a field is read back from its numbers. By going along the fields.
use mathlib.Core.Path.{◌≡◌, refl, ap, ap₂, sym, subst, ◌∙◌}
use mathlib.Core.List.{List, [], ◌∷◌, ◌++◌, append-nil}
use Prim.Native.Nat.{ℕ, zero, suc, ◌+◌, ◌*◌, ◌≤◌, ◌<◌}
use native.Mathlib.Omega.{arith}
use native.Mathlib.Nat.{not-suc-le-zero, le_of_suc-le-suc}
use native.Mathlib.Numerals.{add-one}
use lib.ListN.{length, drop, get_or, set}
use lib.Seq.{drop-cons, sets-eq}
use Rattle.rules.specs.Places.{All}
use Rattle.rules.specs.Halves.{Kind as RuleKind, copy, pack, unpack, input_size, output_size, Field as RuleField, over}
use Rattle.rules.specs.Lent.{kind_number}
use Rattle.rules.specs.Rows.{KindWithin}
use Rattle.rules.specs.RecordParts.{Fits}
use Rattle.rules.proofs.Base.AllLaws.{all_at}
use Rattle.terms.specs.Meaning.{kind_for, field_of, no_field}
use Rattle.terms.specs.declared.Field.{Field}
use Rattle.terms.proofs.FieldLaws.{input_of_lem}
use Rattle.rows.specs.Flat.{flat_of, kind_at, field_at, FlatFair}
use Rattle.rows.specs.Kept.{field_for}
use Rattle.rows.proofs.KeptLaws.{field_meant}

-- ---- one field

-- five stores in a row
put_five : (xs : List ℕ) (i a b c d e : ℕ) → i + 5 ≤ length xs
    → set (set (set (set (set xs i a) (i + 1) b) (i + 2) c) (i + 3) d) (i + 4) e ≡ over i (a ∷ b ∷ c ∷ d ∷ e ∷ []) xs
unfolding over
put_five xs i a b c d e h =
    let e1 : i + 1 ≡ suc i = omega arith in
    let e2 : i + 2 ≡ suc (suc i) = omega arith in
    let e3 : i + 3 ≡ suc (suc (suc i)) = omega arith in
    let e4 : i + 4 ≡ suc (suc (suc (suc i))) = omega arith in
    rw (e1, e2, e3, e4) (sets-eq (a ∷ b ∷ c ∷ d ∷ e ∷ []) xs i h)

-- the five numbers of a field
pub put_field : (xs : List ℕ) (i : ℕ) (f : Field) (k o : ℕ) → i + 5 ≤ length xs → k ≡ kind_number (field_of f).kind → o ≡ output_size (field_of f).kind
    → set (set (set (set (set xs i k) (i + 1) f.r) (i + 2) f.input) (i + 3) o) (i + 4) f.t ≡ over i (flat_of (field_of f ∷ [])) xs
unfolding field_of
put_field xs i f k o h e g =
    rw (e, g)
    (put_five xs i _ _ _ _ _ h
    ∙ ap (λ (n : ℕ). over i (kind_number (field_of f).kind ∷ f.r ∷ n ∷ output_size (field_of f).kind ∷ f.t ∷ []) xs) (sym (input_of_lem f)))

-- ---- the fields in order

pub length_flat : (fs : List RuleField) → length (flat_of fs) ≡ 5 * length fs
length_flat [] = refl
length_flat (f ∷ fs) = omega (arith, length_flat fs)

pub flat_append : (fs gs : List RuleField) → flat_of (fs ++ gs) ≡ flat_of fs ++ flat_of gs
flat_append [] gs = refl
flat_append (f ∷ fs) gs = ap (λ (r : List ℕ). flat_of (f ∷ []) ++ r) (flat_append fs gs)

-- ---- a field read back

kind_kept : (k : RuleKind) → kind_at (kind_number k) ≡ kind_for k
unfolding kind_at
kind_kept (copy s) = refl
kind_kept (pack n m) = refl
kind_kept (unpack n m) = refl

next_field : (f : RuleField) (fs : List RuleField) (rest : List ℕ) (i : ℕ) → field_at (flat_of (f ∷ fs) ++ rest) (suc i) ≡ field_at (flat_of fs ++ rest) i
unfolding field_at
next_field f fs rest i =
    let e : (k : ℕ) → 5 * suc i + k ≡ suc (suc (suc (suc (suc (5 * i + k))))) = λ k. omega arith in
    let e0 : 5 * suc i ≡ suc (suc (suc (suc (suc (5 * i))))) = omega arith in
    rw (e 1, e 2, e 3, e 4, e0) refl

-- field i of the numbers of some fields, whatever stands behind them
pub field_kept : (d : RuleField) (fs : List RuleField) (rest : List ℕ) (i : ℕ) → i < length fs → field_at (flat_of fs ++ rest) i ≡ field_for (get_or fs i d)
unfolding field_for field_at
field_kept d [] rest i h = absurd (not-suc-le-zero h)
field_kept d (f ∷ fs) rest zero h = let e = kind_kept f.kind in λ i. record { kind = e i; r = f.r; input = input_size f.kind; output = output_size f.kind; t = f.t }
field_kept d (f ∷ fs) rest (suc i) h = next_field f fs rest i ∙ field_kept d fs rest i (le_of_suc-le-suc h)

-- and what it means
pub field_back_lem : (d : RuleField) (fs : List RuleField) (i : ℕ) → i < length fs → field_of (field_at (flat_of fs) i) ≡ get_or fs i d
field_back_lem d fs i h =
    ap (λ (xs : List ℕ). field_of (field_at xs i)) (sym (append-nil (flat_of fs))) ∙ ap field_of (field_kept d fs [] i h) ∙ field_meant (get_or fs i d)

-- ---- a list that is the numbers of some fields

module _ {xs : List ℕ} (fs : List RuleField) (flat : xs ≡ flat_of fs) where
  pub fields_many : length xs ≡ 5 * length fs
  fields_many = ap length flat ∙ length_flat fs

  module _ (i : ℕ) (l : 5 * i + 5 ≤ length xs) where
    pub field_is : (d : RuleField) → field_of (field_at xs i) ≡ get_or fs i d
    field_is d = ap (λ (ys : List ℕ). field_of (field_at ys i)) flat ∙ field_back_lem d fs i (omega (arith, fields_many))

    -- a copy's size stands in both places
    pub output_of_row : (field_at xs i).output ≡ output_size (field_of (field_at xs i)).kind
    unfolding field_for
    output_of_row =
        let d = field_of no_field in
        let kept : field_at xs i ≡ field_for (get_or fs i d) =
        ap (λ (ys : List ℕ). field_at ys i) (flat ∙ sym (append-nil (flat_of fs))) ∙ field_kept d fs [] i (omega (arith, fields_many))
        in
        ap (λ (f : Field). f.output) kept ∙ ap (λ (f : RuleField). output_size f.kind) (sym (field_is d))

    -- the next field, and those behind it
    pub fields_left : drop i fs ≡ field_of (field_at xs i) ∷ drop (i + 1) fs
    fields_left =
        drop-cons fs i (field_of no_field) (omega (arith, fields_many))
        ∙ ap₂ (λ (f : RuleField) (k : ℕ). f ∷ drop k fs) (sym (field_is (field_of no_field))) (sym (add-one i))

module _ {xs : List ℕ} {fs : List RuleField} {a b : ℕ} (fair : FlatFair xs fs a b) (i : ℕ) (l : 5 * i + 5 ≤ length xs) where
  at_field : {P : RuleField → Type 0} → All P fs → P (field_of (field_at xs i))
  at_field {P} h = subst P (sym (field_is fs fair.flat i l (field_of no_field))) (all_at (field_of no_field) fs h i (omega (arith, fields_many fs fair.flat)))

  pub fits_at : Fits a b (field_of (field_at xs i))
  fits_at = at_field fair.fits

  pub sizes_at : KindWithin (field_of (field_at xs i)).kind
  sizes_at = at_field {P = λ f. KindWithin f.kind} fair.sizes
