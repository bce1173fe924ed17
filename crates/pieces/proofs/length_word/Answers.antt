-- Each test of the word is one of the rules.
use native.Mathlib.Omega.{arith}
use Rattle.pieces.proofs.PiecesLaws.{word_short, word_low, word_high, word_third, word_fourth, word_good}
use Rattle.pieces.proofs.length_word.Goals as goal

pub returns-then-left-lt4 : goal.returns-then-left-lt4
returns-then-left-lt4 c = let a = c.args in word_short a.top a.low a.b.now a.at (omega arith) (omega arith)

pub returns-then-length-low : goal.returns-then-length-low
returns-then-length-low c = let a = c.args in word_low a.top a.low a.b.now a.at _ (omega arith) c.if-length-low.true

pub returns-then-length-left : goal.returns-then-length-left
returns-then-length-left c = let a = c.args in word_high a.top a.low a.b.now a.at _ (omega arith) c.if-length-left.true

pub returns-then-b-at : goal.returns-then-b-at
returns-then-b-at c = let a = c.args in word_third a.top a.low a.b.now a.at c.if-b-at.true

pub returns-then-b-at-ne0 : goal.returns-then-b-at-ne0
returns-then-b-at-ne0 c = let a = c.args in word_fourth a.top a.low a.b.now a.at c.if-b-at-ne0.true

pub returns : goal.returns
returns c = let a = c.args in word_good a.top a.low a.b.now a.at _ (omega arith) c.if-length-low.false c.if-length-left.false c.if-b-at.false c.if-b-at-ne0.false
