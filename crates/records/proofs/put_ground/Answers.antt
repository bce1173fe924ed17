-- The first width bytes are blanks, unless they are covered.
use borrow.Author.Rules.{rules}
use Rattle.records.proofs.CoverLaws.{ground_blank, ground_stays}
use Rattle.records.proofs.put_ground.Goals as goal

pub returns-then-not-covered : goal.returns-then-not-covered
returns-then-not-covered c =
    rw c.if-not-covered.true
    (ground_blank c.args.width c.args.out.now _ (search rules))

pub returns-else-not-covered : goal.returns-else-not-covered
returns-else-not-covered c = rw c.if-not-covered.false (ground_stays _ _)
