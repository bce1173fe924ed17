-- The end of the input is compared, and then that of the output: the sizes that stand in the field are those of its kind, since a copy has one size.
use borrow.Author.Tests.{lt-leb, le-leb}
use Prim.Native.Nat.{◌+◌, ◌-◌}
use native.Mathlib.Omega.{arith}
use Rattle.rules.specs.Plan.{inside}
use Rattle.terms.specs.Meaning.{field_of}
use Rattle.terms.proofs.FieldLaws.{input_size_lem, output_size_lem}
use Rattle.combinations.proofs.lies_inside.Goals as goal

pub returns-then-f-a : goal.returns-then-f-a
unfolding inside field_of
returns-then-f-a c =
    let f = c.args.f in
    rw (input_size_lem f.kind f.input f.output, output_size_lem f.kind f.input f.output c.requires.one_size, le-leb (f.r + f.input - 1) c.args.a c.if-f-a.true)

pub returns-else-f-a : goal.returns-else-f-a
unfolding inside field_of
returns-else-f-a c =
    let f = c.args.f in
    rw (input_size_lem f.kind f.input f.output, lt-leb (f.r + f.input - 1) c.args.a (omega (arith, c.if-f-a.false)))
