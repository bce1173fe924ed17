-- For those who weigh a plan: fields that passed refusals 7 and 9 are fair, and what is answered is refusal 10 and the lost half of the rules.
use mathlib.Core.Path.{◌≡◌, refl}
use mathlib.Core.Bool.{cond}
use Prim.Native.Nat.{ℕ}
use native.Mathlib.Omega.{arith}
use lib.Dec.{eqb}
use Rattle.rules.specs.Answer.{fine, ◌>>◌, unless}
use Rattle.rules.specs.Plan.{Plan, record_length, input_halves, allowed, barren_half, sources_of, lost_at}
use Rattle.rules.specs.Rows.{FieldWithin, Inside}
use Rattle.rules.proofs.Halves.RecordLaws.{sizes_low}
use Rattle.terms.specs.Meaning.{field_of, OneSize}
use Rattle.terms.proofs.FieldLaws.{input_of_lem, output_of}
use Rattle.terms.specs.declared.Field.{Field}
use Rattle.sources.specs.Promise.{FieldInside}
use Rattle.keeping.specs.Promise.{barren_of, lost_of, weighed_of}

-- ---- fair fields

pub fair_field : (n m : ℕ) (f : Field) → FieldWithin (field_of f) → Inside n m (field_of f) → OneSize f.kind f.input f.output → FieldInside n m f
unfolding field_of
fair_field n m f within inside one =
    let low = sizes_low (field_of f).kind within.kind in
    record {
      r_low = within.r.0;
      r_high = omega (arith, inside.input, input_of_lem f);
      t_low = within.t.0;
      t_high = omega (arith, inside.output, output_of f one);
      input_low = omega (arith, low.0, input_of_lem f);
      output_low = omega (arith, low.1, output_of f one);
      one_size = one;
    }

-- ---- what is answered

-- of the plan's own fields and records: refusal 10 as the rules give it, and else whether their lost half is none
pub weighed_is : (p : Plan) → weighed_of p.zone p.fields (record_length p.input) (record_length p.output)
    ≡ (unless (eqb (barren_half p) (input_halves p)) 10 (barren_half p) >> fine (cond (eqb (lost_at p) (input_halves p)) (1, 0) (0, lost_at p)))
unfolding weighed_of barren_of barren_half allowed input_halves lost_of lost_at sources_of
weighed_is p = refl
