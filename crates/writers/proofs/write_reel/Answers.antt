-- The count, and behind it the offsets and the blocks.
use Rattle.writers.specs.Promise.{ReelPut}
use Rattle.writers.proofs.WriteLaws.{count_room, reel_put}
use Rattle.writers.proofs.write_reel.Goals as goal

pub put_word-requires : goal.put_word-requires
put_word-requires c = count_room c.args.out.now c.requires

pub returns : goal.returns
unfolding ReelPut
returns c = λ y.
    reel_put c.args.out.now y _ c.put_word.ensures _ c.put_body.ensures
