-- By what the combinations answer; what they ask holds of all that some deck asks for.
use mathlib.Core.Path.{ap, ◌∙◌}
use native.Mathlib.Omega.{arith}
use Rattle.std.proofs.lemmas.Result.{err_from_is_err_and}
use Rattle.terms.specs.Meaning.{laid_fields}
use Rattle.terms.proofs.Laid.{many_laid}
use Rattle.rows.specs.Kept.{fields_in}
use Rattle.rows.proofs.FlatLaws.{fields_many}
use Rattle.rows.proofs.RowLaws.{fields_back}
use Rattle.combinations.specs.Promise.{combined_of}
use Rattle.combinations.proofs.CombineLaws.{asked_fair}
use Rattle.plans.specs.Verdict.{Weighs}
use Rattle.plans.proofs.VerdictLaws.{combined_unsound}
use Rattle.plans.proofs.verdict.weigh_plan.Goals as goal

-- where the row holds what a deck asks for, its fields are those
pub combine-requires : goal.combine-requires
combine-requires c = let h = c.requires.says in asked_fair c.args.asked c.requires.asked c.args.fields.now h.means h.utility h.fields h.flat

pub returns-in_err-combine : goal.returns-in_err-combine
unfolding Weighs
returns-in_err-combine c =
    let p = err_from_is_err_and c.from_residual.result c.from_residual.ensures.1 in
    let x = c.args.asked in
    rw (p.1, p.2) (λ a h. combined_unsound x _ a h _ (c.in_err-combine.ensures ∙ ap (combined_of x) (ap fields_in h.flat ∙ fields_back (laid_fields a))))

pub by_halves-requires-clause-asked_fair : goal.by_halves-requires-clause-asked_fair
by_halves-requires-clause-asked_fair c =
    let h = c.requires.says in (
      asked_fair c.args.asked c.requires.asked c.args.fields.now h.means h.utility h.fields h.flat,
      omega (arith, h.means.few, many_laid c.args.asked c.requires.asked h.means, fields_many (laid_fields c.requires.asked) h.flat),
    )
