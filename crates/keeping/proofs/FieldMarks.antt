-- What a field does to the marks of the halves that it reads, and that it leaves all others as they are; and so the marks after all fields, field by field.
use mathlib.Core.Path.{◌≡◌, refl, ap, sym, ◌∙◌}
use mathlib.Core.Bool.{Bool, true, false, cond, ◌&&◌}
use mathlib.Core.List.{List}
use Prim.Native.Nat.{ℕ, ◌+◌, ◌-◌, ◌*◌, ◌≤◌, ◌<◌}
use native.Mathlib.Numerals.{add-one}
use native.Mathlib.Omega.{arith}
use lib.Bits.{bit_or, or_comm}
use lib.ListN.{length, take}
use Rattle.rules.specs.Halves.{Field as RuleField, reads_from}
use Rattle.rules.specs.Permitted.{any, kind_allows, reads, allows, permitted}
use Rattle.rules.specs.Lent.{zone_f}
use Rattle.rules.proofs.Halves.PermittedLaws.{any_of, allows_before, allows_inside, allows_after, permitted_step}
use Rattle.terms.specs.Meaning.{field_of, no_field}
use Rattle.terms.specs.declared.Field.{Field}
use Rattle.terms.specs.declared.Kind.{Kind}
use Rattle.terms.specs.declared.Kind.TheVariants.{Copy, Pack, Unpack}
use Rattle.terms.proofs.FieldLaws.{input_of_lem}
use Rattle.rows.specs.Flat.{field_at}
use Rattle.rows.specs.Kept.{fields_in}
use Rattle.sources.specs.Promise.{FieldInside}
use Rattle.sources.proofs.Fields.{kind_of_lem}
use Rattle.sources.proofs.AllFields.{field_here, field_same}
use Rattle.keeping.specs.Marks.{mark_allows, MarkSays, Met, asking_of}
use Rattle.keeping.proofs.Meets.{or_allows, says_any}

-- a field asks nothing of halves that it does not read
pub asking_most : (c : Kind) (input many : ℕ) → many ≡ asking_of c input → many ≤ 2 * input
unfolding asking_of
asking_most Copy input many e = omega arith
asking_most Pack input many e = omega arith
asking_most Unpack input many e = omega arith

module _ (n m : ℕ) (f : Field) (ok : FieldInside n m f) (h : ℕ) where
  from_is : reads_from (field_of f) ≡ 2 * f.r - 2
  unfolding field_of
  from_is = omega (arith, ok.r_low)

  pub met_below : (a : ℕ) → h < 2 * f.r - 2 → Met f h a a
  unfolding Met
  met_below a b v l = rw (allows_before zone_f (field_of f) v h (omega (arith, from_is)), any_of v l)

  met_above : (a : ℕ) → 2 * f.r - 2 + 2 * f.input ≤ h → Met f h a a
  unfolding Met
  met_above a b v l = rw (allows_after zone_f (field_of f) v h (omega (arith, from_is, input_of_lem f)), any_of v l)

  pub met_inside : (j a b : ℕ) → h ≡ 2 * f.r - 2 + j → j < 2 * f.input → MarkSays b (kind_allows zone_f (field_of f).kind j) → Met f h a (bit_or a b)
  unfolding Met
  met_inside j a b e l says v s =
      ap (λ (x : ℕ). mark_allows x v) (or_comm a b)
      ∙ or_allows b a v s
      ∙ ap (λ (t : Bool). t && mark_allows a v) (says v s ∙ sym (allows_inside zone_f (field_of f) v h j (omega (arith, from_is)) (omega (arith, input_of_lem f))))

  -- a copy takes any value
  copy_allows : f.kind ≡ Copy → (v : ℕ) → v < 16 → allows zone_f (field_of f) h v ≡ true
  unfolding allows
  copy_allows q v l = go (reads (field_of f) h)
    where
      go : (t : Bool) → cond t (kind_allows zone_f (field_of f).kind (h - reads_from (field_of f)) v) (any v) ≡ true
      go true = rw (kind_of_lem f Copy q) (any_of v l)
      go false = any_of v l

  met_copy : (a : ℕ) → f.kind ≡ Copy → Met f h a a
  unfolding Met
  met_copy a q v l = rw (copy_allows q v l)

  -- past the halves of which a field asks something
  pub met_past : (a : ℕ) → 2 * f.r - 2 + asking_of f.kind f.input ≤ h → Met f h a a
  unfolding asking_of
  met_past a b = go f.kind refl b
    where
      go : (c : Kind) → f.kind ≡ c → 2 * f.r - 2 + asking_of c f.input ≤ h → Met f h a a
      go Copy q l = met_copy a q
      go Pack q l = met_above a l
      go Unpack q l = met_above a l

-- ---- the marks after all fields

module _ (row : List ℕ) where
  pub says_none : (a h : ℕ) → a ≡ 0 → MarkSays a (permitted zone_f (take 0 (fields_in row)) h)
  says_none a h e v s = rw e (says_any v s)

  -- field k, which is f
  module _ (k : ℕ) (l : 5 * k + 5 ≤ length row) (f : Field) (read : f ≡ field_at row k) where
    pub says_more : (h a b : ℕ) → Met f h a b → MarkSays a (permitted zone_f (take k (fields_in row)) h)
        → MarkSays b (permitted zone_f (take (k + 1) (fields_in row)) h)
    unfolding Met
    says_more h a b met says v s =
        met v s
        ∙ ap (λ (t : Bool). allows zone_f (field_of f) h v && t) (says v s)
        ∙ ap (λ (g : RuleField). allows zone_f g h v && permitted zone_f (take k (fields_in row)) h v) (sym (field_same row k l f read))
        ∙ sym (permitted_step zone_f h v (field_of no_field) (fields_in row) k (field_here row k l f read))
        ∙ ap (λ (i : ℕ). permitted zone_f (take i (fields_in row)) h v) (sym (add-one k))
