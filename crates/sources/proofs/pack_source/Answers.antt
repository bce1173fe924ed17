-- By how many halves stand to the right of the half, each answer is a place of the packed field.
use mathlib.Core.Path.{refl}
use native.Mathlib.Omega.{arith}
use Rattle.sources.proofs.FieldSources.{pack_low_gives, pack_high_gives, pack_digit_gives, pack_fill_gives}
use Rattle.sources.proofs.pack_source.Goals as goal

pub returns-then-right-eq0 : goal.returns-then-right-eq0
returns-then-right-eq0 c = pack_low_gives _ _ _ c.requires.field_inside _ _ _ (omega arith) c.requires.j_bound.1 c.if-right-eq0.true refl

pub returns-then-right-eq1 : goal.returns-then-right-eq1
returns-then-right-eq1 c = pack_high_gives _ _ _ c.requires.field_inside _ _ _ (omega arith) c.requires.j_bound.1 c.if-right-eq1.true refl

pub returns-then-right-f : goal.returns-then-right-f
returns-then-right-f c = pack_digit_gives _ _ _ c.requires.field_inside _ _ _ (omega arith) c.requires.j_bound.1 (omega arith) c.if-right-f.true refl

pub returns : goal.returns
returns c = pack_fill_gives _ _ _ c.requires.field_inside _ _ 0 (omega arith) c.requires.j_bound.1 (omega arith) c.if-right-f.false
