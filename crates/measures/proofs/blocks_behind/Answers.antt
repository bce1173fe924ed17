-- Each turn looks at one offset more.
use native.Mathlib.Omega.{arith}
use Rattle.rules.proofs.Reel.ReelLaws.{header_is}
use Rattle.measures.proofs.FixedLaws.{behind_start, behind_word, behind_more, behind_same, behind_end}
use Rattle.measures.proofs.blocks_behind.Goals as goal
use Rattle.measures.proofs.blocks_behind.Goals.{else-from-word, then-from-word}

pub word-count-requires : goal.word-count-requires
word-count-requires c = omega (arith, (header_is _ c.requires).there)

pub loop-i-init : goal.loop-i-init
loop-i-init c = behind_start _ _ c.requires c.word-count.ensures.0

pub word-requires : goal.word-requires
word-requires c = behind_word c.loop-i.invariant (omega arith)

pub loop-i-preserved : goal.loop-i-preserved
loop-i-preserved c =
    let k = c.loop-i.invariant in
    let w = c.word.ensures.0 in
    elim c.if-from-word.branch [ then-from-word h ↦ rw h.blocks-is (behind_more k (omega arith) _ w (omega (arith, h.if-from-word.true))) | else-from-word h ↦ rw h.blocks-is (behind_same k (omega arith) _ w (omega (arith, h.if-from-word.false))) ]

pub returns : goal.returns
returns c = behind_end c.loop-i.invariant (omega arith)
