-- By the test whether the block ends behind the place.
use mathlib.Core.Path.{◌∙◌}
use native.Mathlib.Omega.{arith}
use Rattle.offsets.proofs.EachLaws.{none_place, none_put, one_length, one_put, end_small}
use Rattle.offsets.proofs.put_end.Goals as goal

pub returns-then-end-from : goal.returns-then-end-from
returns-then-end-from c =
    let a = c.args in
    record { place = none_place a.n a.w a.from a.base a.end a.at c.if-end-from.true; offset = none_put a.n a.w a.from a.base a.end a.at a.out.now c.if-end-from.true }

pub overflow_mul-end : goal.overflow_mul-end
overflow_mul-end c = let a = c.args in omega (arith, end_small a.n a.w a.from a.base a.end a.at c.requires.end_small)

pub overflow_add-base : goal.overflow_add-base
overflow_add-base c = let a = c.args in omega (arith, end_small a.n a.w a.from a.base a.end a.at c.requires.end_small, c.requires.end_small.starts)

pub put_word-requires : goal.put_word-requires
put_word-requires c =
    let a = c.args in omega (arith, one_length a.n a.w a.from a.base a.end (omega arith), c.requires.end_in_bounds)

pub returns : goal.returns
returns c =
    let a = c.args in
    let l = one_length a.n a.w a.from a.base a.end (omega arith) in
    record { place = omega arith; offset = c.put_word.ensures ∙ one_put a.n a.w a.from a.base a.end a.at a.out.now (omega arith) }
