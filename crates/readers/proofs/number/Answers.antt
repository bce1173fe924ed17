-- `readers::number` meets its contract. The loop's invariant: `used` digits of that value are read.
use Rattle.std.proofs.Common.{ℕ, sym, subst, arith}
use Rattle.rules.proofs.Grammar.NumberLaws.{NoDigit, number_read, number_none}
use Rattle.rules.proofs.Grammar.ChoiceLaws.{number_many}
use Rattle.readers.proofs.Digits.{none_more}
use Rattle.readers.proofs.number.Goals as goal

-- the byte that a turn looks at is no digit
pub returns-then-used-eq0 : goal.returns-then-used-eq0
returns-then-used-eq0 c =
    let s = c.args.s.now in
    (omega arith, number_none s (subst (λ (i : ℕ). NoDigit s i) c.if-used-eq0.true (none_more s _ (sym c.in_default.ensures))))

pub returns-in_default : goal.returns-in_default
returns-in_default c =
    let l = c.loop-used in
    (l.invariant.inside, number_read l.invariant (none_more _ _ (sym c.in_default.ensures)) (omega arith) (omega arith))

pub returns : goal.returns
returns c = (omega (arith, c.loop-used.invariant.inside), number_many c.loop-used.invariant (omega arith))
