-- Each turn is one cut, which takes a byte or more.
use native.Mathlib.Omega.{arith}
use Rattle.cuts.proofs.CutLaws.{next_is, going_start, going_next, going_end}
use Rattle.cuts.proofs.behind.Goals as goal

pub loop-rest-init : goal.loop-rest-init
loop-rest-init c = going_start c.requires

pub cut-part-requires : goal.cut-part-requires
cut-part-requires c = c.loop-rest.invariant.small

pub overflow_sub-rest : goal.overflow_sub-rest
overflow_sub-rest c = (next_is c.loop-rest.invariant.small c.cut-part.ensures).most

pub loop-rest-smaller : goal.loop-rest-smaller
loop-rest-smaller c =
    let n = next_is c.loop-rest.invariant.small c.cut-part.ensures in
    omega (arith, n.some c.loop-rest-test.true, n.most)

pub loop-rest-preserved : goal.loop-rest-preserved
loop-rest-preserved c = going_next c.loop-rest.invariant c.loop-rest-test.true c.cut-part.ensures

pub returns : goal.returns
returns c = going_end c.loop-rest.invariant c.loop-rest-test.false
