-- So much of theirs stands in the room, and the fields lie inside ours and inside it.
use Prim.Native.Nat.{◌≤◌}
use native.Mathlib.Omega.{arith}
use lib.ListN.{length, take}
use Rattle.judge_reel.proofs.PlanLaws.{fielded}
use Rattle.judge_reel.proofs.difference.say_selected.Goals as goal

pub say_over-requires : goal.say_over-requires
say_over-requires g c =
    let p = c.put-m in
    let t = c.task_of-task in
    let n = c.if-ours-task.false in
    let m : t.result.width ≤ length (take p.result p.new.room) = omega (arith, p.ensures.1, c.if-m-task.false) in
    record { fielded = fielded c.args.asked c.args.fields.now c.requires t.result t.ensures _ _ n m; n_in_bounds = (n, m) }
