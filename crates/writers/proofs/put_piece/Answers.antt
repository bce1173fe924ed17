-- The output stands behind the word.
use Rattle.writers.proofs.RecordLaws.{size_as, piece_put}
use Rattle.writers.proofs.put_piece.Goals as goal

pub returns : goal.returns
returns c =
    piece_put c.args.task c.args.fields.now c.args.record.now c.requires.writable c.args.at c.args.out.now c.requires.record_in_bounds c.args.n c.requires.n_value.0 _ _
    (size_as c.requires.n_value.1 _ _ _ _ c.put_length_word.ensures) c.put_data.ensures
