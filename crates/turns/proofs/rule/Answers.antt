-- By the tests of the block's length and its own word, and what its segments say.
use mathlib.Core.Path.{sym, subst}
use Rattle.turns.specs.Turns.{Ruled}
use Rattle.turns.proofs.TurnsLaws.{rule_long, rule_short, rule_start, start_inside, rule_walked}
use Rattle.turns.proofs.rule.Goals as goal
use Rattle.turns.proofs.rule.Goals.{then-b-g-via-then-b-g, then-b-g-via-else-b-g+then-b-lt5}

pub returns-then-b-g : goal.returns-then-b-g
returns-then-b-g c =
    let a = c.args in
    elim c.then-b-g.branch [
      | then-b-g-via-then-b-g w ↦ rule_long a.before a.g a.b.now w.if-b-g.true
      | then-b-g-via-else-b-g+then-b-lt5 w ↦ rule_short a.before a.g a.b.now w.if-b-lt5.true
    ]

pub walked-requires : goal.walked-requires
walked-requires c =
    let a = c.args in
    let p = c.requires in
    (start_inside a.b.now _ (sym c.in_ok-from.ensures) c.if-b-lt5.false, p.0, p.1)

pub returns : goal.returns
returns c =
    let a = c.args in
    rule_walked a.before a.g a.b.now _ _ (sym c.in_ok-from.ensures) c.if-b-g.false c.if-b-lt5.false c.walked.ensures

pub returns-in_err-from : goal.returns-in_err-from
returns-in_err-from c =
    let a = c.args in
    subst (Ruled a.g a.before a.b.now) (sym c.from_residual.ensures) (rule_start a.before a.g a.b.now (sym c.in_err-from.ensures))
