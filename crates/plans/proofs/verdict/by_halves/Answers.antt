-- What the fields of the plan do, told by weighing them, and then the tail. In TC and TR there is no field, so no half is without a value.
use mathlib.Core.Path.{◌≡◌, ap, sym, ◌∙◌}
use mathlib.Core.Bool.{cond}
use mathlib.Core.List.{List}
use Prim.Native.Nat.{ℕ, ◌*◌}
use Rattle.std.proofs.Common.{Ok, Err, Option, Some, None}
use Rattle.std.specs.Option.{option_or}
use Rattle.std.proofs.lemmas.Result.{err_from_is_err_and}
use Rattle.rules.specs.Lent.{zone_f}
use Rattle.rules.specs.Answer.{◌>>=◌}
use Rattle.rules.specs.Halves.{Field as RuleField}
use Rattle.rules.specs.Asked.{Asked as RuleAsked}
use Rattle.rules.specs.Plan.{record_length, block_length}
use Rattle.terms.specs.Meaning.{format_of, size_of, laid_fields}
use Rattle.rows.specs.Flat.{flat_of}
use Rattle.rows.specs.Kept.{fields_in}
use Rattle.rows.proofs.RowLaws.{fields_back}
use Rattle.combinations.specs.Promise.{combined_of}
use Rattle.keeping.specs.Promise.{weighed_of}
use Rattle.plans.specs.Verdict.{verdict_answer, tail_told, Weighs}
use Rattle.plans.proofs.FairLaws.{fair_sound}
use Rattle.plans.proofs.VerdictLaws.{carried, by_weighing, or_tail}
use Rattle.plans.proofs.verdict.by_halves.Goals as goal

-- the fields of the row are those that are asked for
same : (row : List ℕ) (a : RuleAsked) → row ≡ flat_of (laid_fields a) → fields_in row ≡ laid_fields a
same row a e = ap fields_in e ∙ fields_back (laid_fields a)

pub returns-then-not-selects : goal.returns-then-not-selects
unfolding Weighs
returns-then-not-selects c =
    let x = c.args.asked in
    λ a h. carried x _ a h (sym (ap (combined_of x) (same _ a h.flat)) ∙ c.requires.fields_value) (sym c.selects.ensures ∙ c.if-not-selects.true)

pub weigh-requires : goal.weigh-requires
weigh-requires c =
    rw (c.record_length-n.ensures, c.record_length.ensures) (fair_sound c.args.asked c.args.fields.now c.requires.asked_fair.0 c.requires.asked_fair.1 c.requires.fields_value)

pub returns-in_err-lost : goal.returns-in_err-lost
unfolding Weighs ◌>>=◌
returns-in_err-lost c =
    let p = err_from_is_err_and c.from_residual.result c.from_residual.ensures.1 in
    let x = c.args.asked in
    let n = record_length (size_of x.input) in
    let m = record_length (size_of x.output) in
    rw (p.1, p.2)
    (λ a h. by_weighing x _ a h (sym (ap (combined_of x) (same _ a h.flat)) ∙ c.requires.fields_value) (sym c.selects.ensures ∙ c.if-not-selects.false)
    (Err c.in_err-lost.field-0.0)
    (rw (c.record_length-n.ensures, c.record_length.ensures) at c.in_err-lost.ensures ∙ ap (λ (fs : List RuleField). weighed_of zone_f fs n m) (same _ a h.flat)))

pub returns : goal.returns
unfolding Weighs
returns c =
    let x = c.args.asked in
    let n = record_length (size_of x.input) in
    let m = record_length (size_of x.output) in
    let tail : c.lost_tail-tail.result ≡ cond (tail_told (format_of x.format) x.cv n (block_length (size_of x.input))) None (Some (2 * n))
    = rw (c.record_length-n.ensures, c.block_length.ensures) at c.lost_tail-tail.ensures in
    λ a h. ap (λ (lost : Option ℕ). verdict_answer (Ok lost)) (c.or.ensures ∙ ap (option_or c.in_ok-lost.lost) tail)
    ∙ or_tail (tail_told (format_of x.format) x.cv n (block_length (size_of x.input))) (2 * n) c.in_ok-lost.lost
    ∙ by_weighing x _ a h (sym (ap (combined_of x) (same _ a h.flat)) ∙ c.requires.fields_value) (sym c.selects.ensures ∙ c.if-not-selects.false)
    (Ok c.in_ok-lost.lost)
    (rw (c.record_length-n.ensures, c.record_length.ensures) at c.in_ok-lost.ensures ∙ ap (λ (fs : List RuleField). weighed_of zone_f fs n m) (same _ a h.flat))
