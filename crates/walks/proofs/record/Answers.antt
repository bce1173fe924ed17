-- By the test of the place; what is read without a test lies in the reel, since the walk stands in one that is good.
use mathlib.Core.Path.{sym, subst}
use Prim.Native.Nat.{ℕ, ◌+◌, ◌≤◌}
use native.Mathlib.Omega.{arith}
use Rattle.walks.specs.Walking.{Starting}
use Rattle.walks.proofs.WalkLaws.{Reads}
use Rattle.walks.proofs.AnswerLaws.{told, record_none, record_found, reads}
use Rattle.walks.proofs.record.Goals as goal

-- a record is there
pub returns-then-w-reel : goal.returns-then-w-reel
returns-then-w-reel c =
    told c.args.form c.args.reel.now c.args.w _ c.requires (record_none c.args.form c.args.reel.now c.args.w c.if-w-reel.true)

pub overflow_add-start : goal.overflow_add-start
overflow_add-start c =
    let here : Reads c.args.form c.args.reel.now c.args.w = reads c.requires c.if-w-reel.false in
    let h = here in omega (arith, h.starts, h.ends, c.cost.ensures)

pub record_end-end-requires : goal.record_end-end-requires
record_end-end-requires c =
    let here : Reads c.args.form c.args.reel.now c.args.w = reads c.requires c.if-w-reel.false in
    let h = here in record { format_in_bounds = omega (arith, h.starts, h.ends); end_in_bounds = h.ends }

pub overflow_sub-result : goal.overflow_sub-result
overflow_sub-result c =
    let here : Reads c.args.form c.args.reel.now c.args.w = reads c.requires c.if-w-reel.false in
    let h = here in omega (arith, h.starts, c.cost.ensures, c.record_end-end.ensures)

pub behind-requires : goal.behind-requires
behind-requires c =
    let here : Reads c.args.form c.args.reel.now c.args.w = reads c.requires c.if-w-reel.false in
    let a = c.args in
    let h = here in
    record { word_in_bounds = h.word; starting = subst (λ (e : ℕ). a.w.end ≤ e → Starting a.form a.reel.now (a.w.word + 4) e) (sym c.record_end-end.ensures) h.next }

pub returns : goal.returns
returns c =
    told c.args.form c.args.reel.now c.args.w _ c.requires
    (record_found c.args.form c.args.reel.now c.args.w _ _ _ c.if-w-reel.false c.cost.ensures c.record_end-end.ensures
    c.behind.ensures)
