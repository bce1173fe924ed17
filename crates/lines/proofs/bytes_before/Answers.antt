-- `lines::bytes_before` meets its contract: the place that `position` finds is the length of what stands before it.
use mathlib.Core.Path.{◌≡◌, ap, ◌∙◌}
use Prim.Native.Nat.{ℕ}
use lib.ListN.{length}
use borrow.Author.Rules.{rules}
use Rattle.std.specs.Prelude.{unwrap_or, ◌==◌, Option}
use Rattle.std.specs.List.{position, position_or_len}
use Rattle.std.proofs.lemmas.Iterator.{YieldsList-from_slice}
use Rattle.std.proofs.lemmas.Iterator.Search.{position_from_yields_List}
use Rattle.lines.proofs.MeaningLaws.{before_inside, before_found}
use Rattle.lines.proofs.bytes_before.Goals as goal

pub returns : goal.returns
returns c =
    let b = c.args.byte in
    let l = c.args.bytes.now in
    let found : c.position.result ≡ position (λ x. x == b) l = position_from_yields_List (λ x. x == b) _ _ _ c.position.ensures.ran (YieldsList-from_slice l cc) (λ x r q k. search rules) in
    let value : c.unwrap_or.result ≡ position_or_len (λ x. x == b) l = c.unwrap_or.ensures ∙ ap (λ (o : Option ℕ). unwrap_or o (length l)) found ∙ before_found b l in
    record { inside = rw value (before_inside b l); value = value }
