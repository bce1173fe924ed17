-- The fields behind the one that is looked at leave the last what it is; where it passes, it is the last.
use mathlib.Core.Path.{◌≡◌, refl, ap, ◌∙◌}
use Prim.Native.Nat.{◌+◌, ◌-◌}
use native.Mathlib.Omega.{arith}
use borrow.Author.Tests.{ne_eqb}
use Rattle.std.specs.Prelude.{Some}
use Rattle.losses.specs.Promise.{place_of}
use Rattle.losses.proofs.LastLaws.{last_found, last_passed, last_all}
use Rattle.losses.proofs.last.Goals as goal

pub loop-k-init : goal.loop-k-init
loop-k-init g c = last_all g.test c.args.fields.now _ refl

pub returns-then-passes : goal.returns-then-passes
returns-then-passes g c =
    let k = c.loop-k.k - 1 in
    let some : Some (k + 1) ≡ place_of (k + 1) = rw (ne_eqb (k + 1) 0 (λ z. omega arith)) in
    some
    ∙ ap place_of
    (last_found g.test c.args.fields.now k (omega (arith, c.loop-k-test.true)) _ c.field_at.ensures _ (omega (arith, c.loop-k-test.true)) c.loop-k.invariant c.requires.1.0 _
    (λ inside. (c.requires.1.1 _ inside).1 _ c.passes.ensures) c.if-passes.true)

pub loop-k-preserved : goal.loop-k-preserved
loop-k-preserved g c =
    last_passed g.test c.args.fields.now (c.loop-k.k - 1) (omega (arith, c.loop-k-test.true)) _ c.field_at.ensures _ (omega (arith, c.loop-k-test.true)) c.loop-k.invariant
    c.requires.1.0 _ (λ inside. (c.requires.1.1 _ inside).1 _ c.passes.ensures) c.if-passes.false
