-- The fields of an accepted plan lie inside its records, and so inside the longest: refusals 7 and 9 say so of each field, and a copy's size is read in both places.
use mathlib.Core.Path.{◌≡◌, ap, sym, ◌∙◌, subst}
use mathlib.Core.List.{List, [], append-nil}
use Prim.Native.Nat.{ℕ, ◌+◌, ◌*◌, ◌≤◌, ◌<◌}
use native.Mathlib.Omega.{arith}
use lib.ListN.{length, get_or}
use Rattle.rules.specs.Plan.{Plan, record_length}
use Rattle.rules.specs.Rows.{FieldWithin, Inside}
use Rattle.rules.specs.Lent.{zone_f}
use Rattle.rules.proofs.Base.AllLaws.{all_at}
use Rattle.rules.proofs.Blocks.BlockSizes.{record_most}
use Rattle.terms.specs.Meaning.{size_of, field_of, OneSize, no_field, plan_in}
use Rattle.terms.specs.declared.Field.{Field}
use Rattle.terms.specs.declared.Asked.{Asked}
use Rattle.rows.specs.Flat.{flat_of, field_at}
use Rattle.rows.specs.Kept.{field_for, fields_in}
use Rattle.rows.specs.Fair.{PlanFair}
use Rattle.rows.proofs.KeptLaws.{one_size}
use Rattle.rows.proofs.FlatLaws.{field_kept, fields_many}
use Rattle.rows.proofs.RowLaws.{many_in, field_in}
use Rattle.sources.specs.Promise.{RowInside}
use Rattle.keeping.proofs.PlanLaws.{fair_field}
use Rattle.keeping.proofs.Weighs.{fair_longest}

module _ (x : Asked) (row : List ℕ) (fair : PlanFair x row) where
  abbrev p : Plan
  p = plan_in zone_f x (fields_in row)

  abbrev n : ℕ
  n = record_length (size_of x.input)

  -- field k stands in the row as it is read: a copy's size in both places
  read_as_lem : (k : ℕ) → 5 * k + 5 ≤ length row → field_at row k ≡ field_for (get_or (fields_in row) k (field_of no_field))
  read_as_lem k l =
      ap (λ (xs : List ℕ). field_at xs k) (fair.flat ∙ sym (append-nil (flat_of (fields_in row))))
      ∙ field_kept (field_of no_field) (fields_in row) [] k (omega (arith, many_in row))

  pub fields_fair : RowInside row n (record_length (size_of x.output))
  unfolding plan_in
  fields_fair =
      let m = record_length (size_of x.output) in
      let d = field_of no_field in
      record {
        few = omega (arith, fair.accepted.few, fields_many (fields_in row) fair.flat);
        n_high = record_most p.format p.input fair.accepted.input;
        m_high = record_most p.format p.output fair.accepted.output;
        each = λ k l.
            let here : k < length (fields_in row) = omega (arith, many_in row) in
            fair_field n m (field_at row k) (subst FieldWithin (field_in row d k l) (all_at d (fields_in row) fair.accepted.limits k here))
            (subst (Inside n m) (field_in row d k l) (all_at d (fields_in row) fair.accepted.insides k here))
            (subst (λ (f : Field). OneSize f.kind f.input f.output) (sym (read_as_lem k l)) (one_size (get_or (fields_in row) k d)));
      }

  pub fields_wide : RowInside row 4096 4096
  fields_wide = fair_longest row n _ fields_fair
