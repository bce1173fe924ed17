-- The walk holds a place and the counts before it; each way out is a law of the counting.
use mathlib.Core.Path.{◌≡◌, sym, ap, ◌∙◌, subst}
use native.Mathlib.Omega.{arith}
use Rattle.std.specs.Prelude.{Some, Ok}
use Rattle.pieces.specs.Pieces.{worded_in}
use Rattle.pieces.proofs.PiecesLaws.{read_ok, read_bad}
use Rattle.turns.specs.Turns.{Walked}
use Rattle.turns.proofs.TurnsLaws.{going_start, going_inside, going_step, going_out, going_bad, going_end, in_turn_most}
use Rattle.turns.proofs.walked.Goals as goal

pub loop-segment-init : goal.loop-segment-init
loop-segment-init c = let p = c.requires in going_start _ _ _ p.0 p.2

pub in_turn-requires : goal.in_turn-requires
in_turn-requires c = c.loop-segment.invariant.low

pub returns-then-not-in_turn : goal.returns-then-not-in_turn
returns-then-not-in_turn c =
    let e = sym c.segment.ensures ∙ read_ok _ _ c.in_ok-segment.ensures.value ∙ ap Ok c.in-Some.is in
    going_out c.loop-segment.invariant _ e (sym c.in_turn.ensures ∙ c.if-not-in_turn.true)

pub taken-counts-requires : goal.taken-counts-requires
taken-counts-requires c =
    let e = sym c.segment.ensures ∙ read_ok _ _ c.in_ok-segment.ensures.value ∙ ap Ok c.in-Some.is in
    let w = c.loop-segment.invariant in
    let p = c.requires in
    let g = going_inside w _ e in
    (omega (arith, w.few, p.1), in_turn_most _ _ _ (sym c.in_turn.ensures ∙ c.if-not-in_turn.false))

pub loop-segment-smaller : goal.loop-segment-smaller
loop-segment-smaller c =
    let e : worded_in 3 c.args.b.now c.loop-segment.at.at ≡ Ok (Some c.in-Some.segment) = sym c.segment.ensures ∙ read_ok _ _ c.in_ok-segment.ensures.value ∙ ap Ok c.in-Some.is in
    let g = going_inside c.loop-segment.invariant _ e in
    omega arith

pub loop-segment-preserved : goal.loop-segment-preserved
loop-segment-preserved c =
    let e = sym c.segment.ensures ∙ read_ok _ _ c.in_ok-segment.ensures.value ∙ ap Ok c.in-Some.is in
    going_step c.loop-segment.invariant _ e (sym c.in_turn.ensures ∙ c.if-not-in_turn.false) _ c.taken-counts.ensures

pub returns : goal.returns
returns c = going_end c.loop-segment.invariant (sym c.segment.ensures ∙ read_ok _ _ c.in_ok-segment.ensures.value ∙ ap Ok c.in_default.is)

pub returns-in_err-segment : goal.returns-in_err-segment
returns-in_err-segment c =
    subst (Walked c.args.before c.args.b.now c.args.from.at) (sym c.from_residual.ensures)
    (going_bad c.loop-segment.invariant (sym c.segment.ensures ∙ read_bad _ c.in_err-segment.ensures.value))
