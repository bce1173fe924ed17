-- What was written lies within the room, so it can be lent to be stored.
use Rattle.io.proofs.Counting.{prefix_len_of_le}
use Rattle.convert_reels.proofs.RoomLaws.{reel_within}
use Rattle.convert_reels.proofs.one.run.Goals as goal

pub returns : goal.returns
returns c =
    let a = c.args in
    let r = c.run_plan in
    prefix_len_of_le _ _ (reel_within a.asked a.fields.now a.reel.now a.room.now _ r.result r.ensures.answer r.ensures.output)
