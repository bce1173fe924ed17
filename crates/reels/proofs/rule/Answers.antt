-- By the test of the block's length, and what its format's own way says.
use native.Mathlib.Omega.{arith}
use Rattle.reels.proofs.RecordsLaws.{judged_long}
use Rattle.reels.proofs.rule.Goals as goal

pub returns-then-b-form : goal.returns-then-b-form
returns-then-b-form c = judged_long _ _ c.requires (omega arith)
