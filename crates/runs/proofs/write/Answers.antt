-- By the mode.
use mathlib.Core.Path.{sym, ◌∙◌}
use native.Mathlib.Omega.{arith}
use Rattle.rules.proofs.Halves.HalfBytes.{all_bytes}
use Rattle.runs.proofs.WriteLaws.{is_copy, copy_room, lent_on, copied, wrote}
use Rattle.runs.proofs.write.Goals as goal

pub copy-requires : goal.copy-requires
copy-requires c = copy_room c.requires (is_copy _ (sym c.is_tc.ensures ∙ c.if-is_tc.true)) (all_bytes c.args.reel.now (λ i. omega (arith, c.type_inv.reel i)))

pub write_reel-requires : goal.write_reel-requires
write_reel-requires c = lent_on c.requires (sym c.is_tc.ensures ∙ c.if-is_tc.false)

pub returns-then-is_tc : goal.returns-then-is_tc
returns-then-is_tc c = copied (is_copy _ (sym c.is_tc.ensures ∙ c.if-is_tc.true)) (all_bytes c.args.reel.now (λ i. omega (arith, c.type_inv.reel i))) c.copy.ensures

pub returns-else-is_tc : goal.returns-else-is_tc
returns-else-is_tc c = wrote (sym c.is_tc.ensures ∙ c.if-is_tc.false) c.write_reel.ensures
