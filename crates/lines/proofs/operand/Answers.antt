-- `lines::operand` meets its contract: the line is a card, so its fourth byte tells FS and END and its fifth U from UTT, and each of the four texts
-- has the bytes that stand before the operand.
use native.Mathlib.Omega.{arith}
use Rattle.lines.proofs.MeaningLaws.{five_bytes, six_bytes, seven_bytes, card_says_fs, card_says_end, card_says_u, card_says_utt}
use Rattle.lines.proofs.operand.Goals as goal

pub bounds-line-3 : goal.bounds-line-3
bounds-line-3 c = omega (arith, five_bytes c.args.line.now c.requires)

pub operand_end-end-requires : goal.operand_end-end-requires
operand_end-end-requires c = omega (arith, six_bytes c.args.line.now c.requires c.if-letter-eq70.true)

pub returns-then-letter-eq70 : goal.returns-then-letter-eq70
returns-then-letter-eq70 c =
    card_says_fs c.args.line.now c.requires c.if-letter-eq70.true c.operand_end-end.ensures

pub returns-then-letter-eq69 : goal.returns-then-letter-eq69
returns-then-letter-eq69 c = card_says_end c.args.line.now c.requires c.if-letter-eq69.true

pub bounds-line-4 : goal.bounds-line-4
bounds-line-4 c = omega (arith, five_bytes c.args.line.now c.requires)

pub operand_end-end-requires-then-line-eq-BLANK : goal.operand_end-end-requires-then-line-eq-BLANK
operand_end-end-requires-then-line-eq-BLANK c = omega (arith, five_bytes c.args.line.now c.requires)

pub returns-then-line-eq-BLANK : goal.returns-then-line-eq-BLANK
returns-then-line-eq-BLANK c =
    card_says_u c.args.line.now c.requires c.if-letter-eq70.false c.if-letter-eq69.false c.if-line-eq-BLANK.true c.operand_end-end-then-line-eq-BLANK.ensures

pub operand_end-end-requires-2 : goal.operand_end-end-requires-2
operand_end-end-requires-2 c =
    omega (arith, seven_bytes c.args.line.now c.requires c.if-letter-eq70.false c.if-letter-eq69.false c.if-line-eq-BLANK.false)

pub returns : goal.returns
returns c =
    card_says_utt c.args.line.now c.requires c.if-letter-eq70.false c.if-letter-eq69.false c.if-line-eq-BLANK.false c.operand_end-end-2.ensures
