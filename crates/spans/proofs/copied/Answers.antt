-- Refused, or the input is copied.
use mathlib.Core.Path.{refl}
use Rattle.spans.specs.Promise.{ran_in}
use Rattle.spans.proofs.RunLaws.{housed_is, ran_refused, housed_ends, ran_written}
use Rattle.spans.proofs.copied.Goals as goal

pub returns-then-answer-gt0 : goal.returns-then-answer-gt0
returns-then-answer-gt0 c =
    let x = ran_in c.args.reel.now c.args.records c.args.blocks in
    ran_refused x c.args.out.now _ (housed_is x c.args.out.now _ refl refl refl c.housed-answer.ensures) c.if-answer-gt0.true

pub copy-requires : goal.copy-requires
copy-requires c =
    let x = ran_in c.args.reel.now c.args.records c.args.blocks in
    (c.requires, (housed_ends x c.args.out.now _ (housed_is x c.args.out.now _ refl refl refl c.housed-answer.ensures) c.if-answer-gt0.false).1)

pub returns : goal.returns
returns c =
    let x = ran_in c.args.reel.now c.args.records c.args.blocks in
    ran_written x c.args.out.now _ (housed_is x c.args.out.now _ refl refl refl c.housed-answer.ensures) c.if-answer-gt0.false c.copy.ensures
