-- The offset, the word of the block, the segment's word, and its data behind it, one after the other.
use mathlib.Core.Path.{◌∙◌}
use native.Mathlib.Omega.{arith}
use Rattle.spans.proofs.PutLaws.{copyable, next_put_lem}
use Rattle.spans.proofs.put_next.Goals as goal

pub copy-requires : goal.copy-requires
copy-requires c =
    copyable c.requires.streaming c.put_coded_word.new.out _
    (omega (arith, c.requires.segment_fits.inside, c.requires.segment_fits.segment, c.requires.segment_fits.whole, c.put_coded_word.auto.out, c.put_length_word.auto.out, c.put_offset.auto.out))

pub returns : goal.returns
returns c =
    next_put_lem c.args.first c.args.last c.args.base c.args.tally c.args.part c.args.out.now c.requires.segment_fits _ _ _ _ _
    c.put_offset.ensures c.put_length_word.ensures
    (c.put_length_word.auto.out ∙ c.put_offset.auto.out) c.code.ensures c.put_coded_word.ensures
    c.copy.ensures
