-- Each turn asks one record more, n bytes on.
use native.Mathlib.Omega.{arith}
use Rattle.measures.proofs.FixedSeek.{ask_more, seek_some, seek_inside, seek_readable, seek_stop, seek_end}
use Rattle.measures.proofs.first_fixed.Goals as goal

pub slice_bounds-permitted-end : goal.slice_bounds-permitted-end
slice_bounds-permitted-end c =
    seek_inside c.args.task c.args.fields.now c.args.reel.now c.requires.format_value c.form_of.ensures c.fixed_start-from.ensures c.rest-data.ensures c.loop-at.invariant c.requires.selected (omega arith)

pub permitted-requires : goal.permitted-requires
permitted-requires c =
    seek_readable c.args.task c.args.fields.now c.args.reel.now c.requires.format_value c.form_of.ensures c.fixed_start-from.ensures c.rest-data.ensures c.loop-at.invariant c.requires.selected (omega arith)

pub returns-then-not-permitted : goal.returns-then-not-permitted
returns-then-not-permitted c =
    seek_stop c.args.task c.args.fields.now c.args.reel.now c.requires.format_value c.form_of.ensures c.fixed_start-from.ensures c.rest-data.ensures c.loop-at.invariant (omega arith) _ c.permitted.ensures c.if-not-permitted.true

pub loop-at-preserved : goal.loop-at-preserved
loop-at-preserved c =
    ask_more (seek_some c.args.task c.args.fields.now c.args.reel.now c.requires.format_value c.form_of.ensures c.fixed_start-from.ensures c.rest-data.ensures c.requires.selected) c.loop-at.invariant (omega arith) _ c.permitted.ensures c.if-not-permitted.false

pub returns : goal.returns
returns c =
    seek_end c.args.task c.args.fields.now c.args.reel.now c.requires.format_value c.form_of.ensures c.fixed_start-from.ensures c.rest-data.ensures c.loop-at.invariant (omega arith)
