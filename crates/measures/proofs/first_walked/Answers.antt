-- Each turn asks one record more; a walk ends since less of the reel is left at each turn.
use Rattle.measures.proofs.SeekLaws.{seek_start, seek_more, seek_readable, seek_stop, seek_end, seek_stands}
use Rattle.measures.proofs.first_walked.Goals as goal

pub loop-read-init : goal.loop-read-init
loop-read-init c = seek_start c.form_of-form.ensures c.requires c.taken-w.ensures

pub record-requires : goal.record-requires
record-requires c = seek_stands c.form_of-form.ensures c.loop-read.invariant c.requires

pub permitted-requires : goal.permitted-requires
permitted-requires c =
    seek_readable c.args.task c.form_of-form.ensures c.loop-read.invariant c.in-Some.ensures c.requires

pub returns-then-not-permitted : goal.returns-then-not-permitted
returns-then-not-permitted c =
    seek_stop c.args.task c.form_of-form.ensures c.loop-read.invariant c.in-Some.ensures
    _ c.permitted.ensures c.if-not-permitted.true

pub loop-read-preserved : goal.loop-read-preserved
loop-read-preserved c =
    seek_more c.loop-read.invariant c.in-Some.ensures _ c.permitted.ensures c.if-not-permitted.false

pub returns : goal.returns
returns c =
    seek_end c.args.task c.form_of-form.ensures c.loop-read.invariant c.in_default.ensures
