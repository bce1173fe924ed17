-- Where both sizes are allowed each byte of dst is that of its place in the packed field, and where not dst is as it was.
use mathlib.Core.Path.{sym, ◌∙◌}
use borrow.Author.Rules.{rules}
use Rattle.halves.proofs.PromiseLaws.{packed_each, packed_stays}
use Rattle.halves.proofs.pack.Goals as goal

pub returns-then-both_allowed : goal.returns-then-both_allowed
returns-then-both_allowed c =
    packed_each _ _ _ (sym c.both_allowed.ensures ∙ c.if-both_allowed.true) c.put_left.auto.dst (λ i l. search (rules, c.put_left.ensures.written i l))

pub returns-else-both_allowed : goal.returns-else-both_allowed
returns-else-both_allowed c = sym (packed_stays _ _ (sym c.both_allowed.ensures ∙ c.if-both_allowed.false))
