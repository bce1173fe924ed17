-- The offset, the word of the block, and the record, one after the other.
use Rattle.writers.proofs.RecordLaws.{size_as, next_put_lem}
use Rattle.writers.proofs.put_next.Goals as goal

pub returns : goal.returns
returns c =
    next_put_lem c.args.task c.args.fields.now c.args.record.now c.args.base c.args.tally c.args.more c.args.out.now _ _ _ c.args.n c.requires.n_value.0
    c.put_offset.ensures (size_as c.requires.n_value.1 _ _ _ _ c.put_length_word.ensures) c.put_piece.ensures
