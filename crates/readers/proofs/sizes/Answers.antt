-- `readers::sizes` meets its contract: the sign behind the letter, and what is behind it by the letter.
use Rattle.std.proofs.lemmas.Result.{err_from_is_err_and}
use Rattle.rules.proofs.Grammar.ChoiceLaws.{parameter_sizes_else}
use Rattle.readers.proofs.Parameters.{letter_inside}
use Rattle.readers.proofs.sizes.Goals as goal

pub returns-in_err-behind : goal.returns-in_err-behind
returns-in_err-behind c =
    let s = c.args.s.now in
    let p = err_from_is_err_and c.from_residual.result c.from_residual.ensures.1 in
    rw (p.1, p.2) (rw c.in_err-behind.ensures.1 (letter_inside s c.requires, parameter_sizes_else s c.requires (λ z. c.in_err-behind.ensures.0 z)))
