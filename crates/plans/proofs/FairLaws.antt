-- What `combine` found right: with no FS card in TC and TR there is no field, and every field lies inside its records, so that it can be weighed.
use mathlib.Core.Path.{◌≡◌, refl, ap, sym, subst, ◌∙◌}
use mathlib.Core.Bool.{true, false, ◌||◌}
use mathlib.Core.List.{List, [], ◌∷◌, map}
use Prim.Native.Nat.{ℕ, ◌≤◌}
use native.Mathlib.Omega.{arith}
use lib.Dec.{eqb}
use lib.ListN.{length}
use borrow.Author.Tests.{eqb-true}
use Rattle.rules.specs.Base.{joined}
use Rattle.rules.specs.Places.{All}
use Rattle.rules.specs.Answer.{fine}
use Rattle.rules.specs.Halves.{Field as RuleField}
use Rattle.rules.specs.Grammar.{Item}
use Rattle.rules.specs.Asked.{fields_of, Asked as RuleAsked}
use Rattle.rules.specs.Plan.{selects, record_length}
use Rattle.rules.specs.Rows.{Inside}
use Rattle.rules.proofs.Refusals.AnswerLaws.{then_fine, unless_fine, each_fine}
use Rattle.rules.proofs.Base.AllLaws.{all_at, all_imply}
use Rattle.rules.proofs.Deck.LimitLaws.{inside_exactly}
use Rattle.terms.specs.Meaning.{mode_of, size_of, field_of, no_field, laid_fields, Means}
use Rattle.terms.specs.declared.Field.{Field}
use Rattle.terms.specs.declared.Asked.{Asked}
use Rattle.rows.specs.Flat.{field_at}
use Rattle.rows.specs.Kept.{fields_in}
use Rattle.rows.proofs.RowLaws.{many_in, field_in}
use Rattle.combinations.specs.Promise.{combined_of, FieldFair, AskedFair}
use Rattle.sources.specs.Promise.{FieldInside, RowInside}
use Rattle.terms.proofs.FieldLaws.{input_of_lem, output_of}

-- no FS card in TC and TR, and every field inside its records
sound_tests : (x : Asked) (fs : List RuleField) → combined_of x fs ≡ fine tt
    → ((selects (mode_of x.mode) || eqb x.fs 0) ≡ true) × All (Inside (record_length (size_of x.input)) (record_length (size_of x.output))) fs
unfolding combined_of
sound_tests x fs e =
    let lines = then_fine _ _ tt e in
    let cards = then_fine _ _ tt lines.1 in
    let cv = then_fine _ _ tt cards.1 in
    (unless_fine _ 8 2 cards.0, all_imply (λ f. (inside_exactly (record_length (size_of x.input)) (record_length (size_of x.output)) f).0) (each_fine 9 _ 1 fs cv.1))

-- ---- no field in TC and TR

no_card : (cards : List (List Item)) → length cards ≡ 0 → fields_of (joined cards) ≡ []
no_card [] e = refl
no_card (c ∷ cards) e = absurd (omega arith)

pub no_field_lem : (x : Asked) (a : RuleAsked) (fs : List RuleField) → Means x a → combined_of x fs ≡ fine tt → selects (mode_of x.mode) ≡ false → laid_fields a ≡ []
unfolding laid_fields
no_field_lem x a fs m e s =
    let none : eqb x.fs 0 ≡ true = rw s at (sound_tests x fs e).0 in
    ap (map _) (no_card a.cards (sym m.fs ∙ eqb-true x.fs 0 none))

-- ---- fields inside their records

module _ (n m : ℕ) where
  fair_one : (f : Field) → FieldFair f → Inside n m (field_of f) → FieldInside n m f
  unfolding field_of
  fair_one f fair w =
      record {
        r_low = fair.r_low;
        r_high = omega (arith, w.input, input_of_lem f, fair.r_low);
        t_low = fair.t_low;
        t_high = omega (arith, w.output, output_of f fair.one_size, fair.t_low);
        input_low = fair.input_low;
        output_low = fair.output_low;
        one_size = fair.one_size;
      }

pub fair_sound : (x : Asked) (row : List ℕ) → AskedFair x row → length row ≤ 320 → combined_of x (fields_in row) ≡ fine tt
    → RowInside row (record_length (size_of x.input)) (record_length (size_of x.output))
fair_sound x row fair few e =
    let n = record_length (size_of x.input) in
    let m = record_length (size_of x.output) in
    let d = field_of no_field in
    record {
      few = few;
      n_high = fair.sizes.most_a;
      m_high = fair.sizes.most_b;
      each = λ k l. fair_one n m (field_at row k) (fair.fields k l) (subst (Inside n m) (field_in row d k l) (all_at d (fields_in row) (sound_tests x (fields_in row) e).1 k (omega (arith, many_in row))));
    }
