-- What a record is asked to be so that the fields of an accepted plan can be written: A's n bytes or more, over B's n or more; and B's n is at most 4,096.
use mathlib.Core.List.{List}
use Prim.Native.Nat.{ℕ, ◌≤◌}
use native.Mathlib.Omega.{arith}
use Rattle.rules.specs.Halves.{Field}
use Rattle.rules.proofs.Base.AllLaws.{all_imply}
use Rattle.rules.specs.Lent.{zone_f}
use Rattle.rules.proofs.Blocks.BlockSizes.{record_most}
use Rattle.rules.proofs.Halves.RecordLaws.{fits_wider}
use Rattle.terms.specs.Meaning.{plan_in, TaskIs}
use Rattle.terms.specs.declared.Asked.{Asked}
use Rattle.terms.specs.declared.Task.{Task}
use Rattle.rows.specs.Kept.{fields_in}
use Rattle.rows.specs.Flat.{Fielded}
use Rattle.rows.specs.Fair.{PlanFair}
use Rattle.rows.proofs.ReadLaws.{fair_of}

module _ (asked : Asked) (row : List ℕ) (fair : PlanFair asked row) (task : Task) (is : (fs : List Field) → TaskIs task (plan_in zone_f asked fs)) where
  pub fielded : (k m : ℕ) → task.n ≤ k → task.width ≤ m → Fielded row k m
  unfolding plan_in
  fielded k m l w =
      let t = is (fields_in row) in
      let f = fair_of (plan_in zone_f asked (fields_in row)) fair.accepted in
      record { fields = fields_in row; fair = record { flat = fair.flat; fits = all_imply (fits_wider k m (omega (arith, t.n)) (omega (arith, t.width))) f.fits; sizes = f.sizes } }

  pub width_most : task.width ≤ 4096
  width_most = let p = plan_in zone_f asked (fields_in row) in omega (arith, (is (fields_in row)).width, record_most p.format p.output fair.accepted.output)
