-- A block with room for a segment has room for a word and a byte of data.
use native.Mathlib.Omega.{arith}
use Rattle.cuts.proofs.CutLaws.{block_is, cut_as}
use Rattle.cuts.proofs.cut.Goals as goal

pub overflow_sub-m : goal.overflow_sub-m
overflow_sub-m c = omega (arith, (block_is c.requires c.opened-block.ensures).room)

pub overflow_sub-m-2 : goal.overflow_sub-m-2
overflow_sub-m-2 c = omega (arith, (block_is c.requires c.opened-block.ensures).room)

pub overflow_add-result : goal.overflow_add-result
overflow_add-result c = omega (arith, (block_is c.requires c.opened-block.ensures).room)

pub overflow_add-result-2 : goal.overflow_add-result-2
overflow_add-result-2 c = omega (arith, (block_is c.requires c.opened-block.ensures).most)

pub returns : goal.returns
returns c = cut_as _ _ _ _ c.opened-block.ensures _ c.min-size.ensures
