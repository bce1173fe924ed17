-- A copy takes its halves in their order.
use mathlib.Core.Path.{refl}
use Prim.Native.Nat.{◌*◌, ◌-◌}
use native.Mathlib.Omega.{arith}
use Rattle.sources.proofs.FieldSources.{copy_gives}
use Rattle.sources.proofs.copy_source.Goals as goal

pub returns : goal.returns
returns c = copy_gives _ _ _ c.requires.field_inside _ (2 * c.args.f.output - 1 - c.args.j) _ (omega arith) c.requires.j_bound.1 refl
