-- What was read of the deck is refused, or judged; where it is refused the row is cleared.
use native.Mathlib.Omega.{arith}
use Rattle.plans.proofs.ReadLaws.{refused_read, room_read, judgeable_read, kept_read, cleared_read}
use Rattle.plans.proofs.plan_deck.Goals as goal

pub returns-in-Err : goal.returns-in-Err
returns-in-Err c = rw c.refused_deck.ensures (refused_read c.args.deck.now _ c.in-Err.refusal c.in-Err.ensures)

pub judged-plan-requires : goal.judged-plan-requires
judged-plan-requires c =
    let room = room_read c.args.deck.now _ c.in-Ok.asked c.in-Ok.ensures in
    record { count_in_bounds = omega (arith, room.0, room.1); says_some = judgeable_read c.args.deck.now _ c.in-Ok.asked c.in-Ok.ensures }

pub clear-requires : goal.clear-requires
clear-requires c = (room_read c.args.deck.now _ c.in-Ok.asked c.in-Ok.ensures).1

pub returns-then-plan-ne0 : goal.returns-then-plan-ne0
returns-then-plan-ne0 c =
    let j = c.judged-plan in
    cleared_read c.args.deck.now _ c.in-Ok.asked c.in-Ok.ensures j.result j.ensures _ c.clear.ensures c.if-plan-ne0.true

pub returns-else-plan-ne0 : goal.returns-else-plan-ne0
returns-else-plan-ne0 c =
    let j = c.judged-plan in
    kept_read c.args.deck.now _ c.in-Ok.asked c.in-Ok.ensures j.result j.ensures c.if-plan-ne0.false
