-- The number says the kind, and a copy, pack or unpack leaves what that kind makes of the input.
use mathlib.Core.Path.{◌∙◌}
use Rattle.records.proofs.PutLaws.{copied_size, copied, packed, unpacked}
use Rattle.records.proofs.put_field.Goals as goal

pub copy-requires : goal.copy-requires
copy-requires c = copied_size c.args.kind c.args.input.now c.args.out.now c.requires.kind_within c.if-kind-eq0.true c.requires.out_value

pub returns-then-kind-eq0 : goal.returns-then-kind-eq0
returns-then-kind-eq0 c =
    c.copy.ensures ∙ copied c.args.kind c.args.input.now c.args.out.now c.requires.kind_within c.if-kind-eq0.true c.requires.out_value

pub returns-then-kind-eq1 : goal.returns-then-kind-eq1
returns-then-kind-eq1 c =
    c.pack.ensures ∙ packed c.args.kind c.args.input.now c.args.out.now c.requires.kind_within c.if-kind-eq1.true

pub returns : goal.returns
returns c =
    c.unpack.ensures ∙ unpacked c.args.kind c.args.input.now c.args.out.now c.requires.kind_within c.if-kind-eq0.false c.if-kind-eq1.false
