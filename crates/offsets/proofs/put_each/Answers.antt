-- Each turn looks at one offset of the input more.
use native.Mathlib.Omega.{arith}
use Rattle.rules.proofs.Reel.ReelLaws.{header_is}
use Rattle.offsets.proofs.EachLaws.{each_start, each_word, each_small, each_room, each_more, each_end, first_room, rest_room, both_put}
use Rattle.offsets.proofs.put_each.Goals as goal

pub put_word-requires : goal.put_word-requires
put_word-requires c = first_room _ _ c.args.out.now c.requires.reel_in_bounds

pub word-count-requires : goal.word-count-requires
word-count-requires c = omega (arith, (header_is _ c.requires.reel_value).there)

pub loop-i-init : goal.loop-i-init
loop-i-init c =
    each_start _ _ _ _ _ _ c.requires.reel_value c.word-count.ensures.0 (rest_room _ _ c.args.out.now c.requires.reel_in_bounds c.put_word.new.out c.put_word.auto.out)

pub word-end-requires : goal.word-end-requires
word-end-requires c = each_word c.loop-i.invariant (omega arith)

pub put_end-at-requires : goal.put_end-at-requires
put_end-at-requires c =
    let k = c.loop-i.invariant in
    record { end_small = each_small k (omega arith) _ c.word-end.ensures.0 c.requires.each_small; end_in_bounds = each_room k (omega arith) _ c.word-end.ensures.0 }

pub loop-i-preserved : goal.loop-i-preserved
loop-i-preserved c = each_more c.loop-i.invariant (omega arith) _ c.word-end.ensures.0 _ c.put_end-at.ensures.place _ c.put_end-at.ensures.offset

pub returns : goal.returns
returns c = both_put _ _ _ c.requires.reel_in_bounds _ _ c.put_word.ensures (each_end c.loop-i.invariant (omega arith))
