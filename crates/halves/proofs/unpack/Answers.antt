-- Where both sizes are allowed each byte of dst is that of its place in the unpacked field, before the pairs and from them on, and where not dst is as it was.
use mathlib.Core.Path.{sym, ◌∙◌}
use mathlib.Core.Logic.{inl, inr}
use borrow.Author.Rules.{rules}
use Rattle.std.proofs.lemmas.Bool.{cases_lt}
use Rattle.halves.proofs.PromiseLaws.{unpacked_each, unpacked_stays}
use Rattle.halves.proofs.unpack.Goals as goal

pub returns-then-both_allowed : goal.returns-then-both_allowed
returns-then-both_allowed c =
    let left = c.put_left.ensures in
    unpacked_each _ _ _ (sym c.both_allowed.ensures ∙ c.if-both_allowed.true) (c.put_left.auto.dst ∙ c.put_pairs-at.auto.dst)
    (λ i l. elim (cases_lt i c.put_pairs-at.result) [
      | inl h ↦ search (rules, left.written i h)
      | inr h ↦ left.stays i h ∙ c.put_pairs-at.ensures.from_there i h l
    ])

pub returns-else-both_allowed : goal.returns-else-both_allowed
returns-else-both_allowed c = sym (unpacked_stays _ _ (sym c.both_allowed.ensures ∙ c.if-both_allowed.false))
