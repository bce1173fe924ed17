-- `text::decode` puts each part behind the bytes that are done, and so no more than there is room for.
use Rattle.std.proofs.Common.{◌≤◌, length}
use Rattle.answers.proofs.text.decode.Given as goal

abbrev pub invariant-loop-part : goal.invariant-loop-part
invariant-loop-part l =
    (goal.iterator-loop-part).can_next l.part-iterator ×
    (goal.iterator-loop-part).is_finite l.part-iterator ×
    (l.done ≤ length l.room)
