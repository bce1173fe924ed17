-- The numbers of a plan are those of one task: what a mode and a format mean is meant by no other, and the rest are numbers and a truth value.
use mathlib.Core.Path.{◌≡◌, ap, sym, ◌∙◌}
use mathlib.Core.List.{List, []}
use Rattle.rules.specs.Halves.{Field as RuleField}
use Rattle.rules.specs.Lent.{zone_f}
use Rattle.terms.specs.declared.Asked.{Asked}
use Rattle.terms.specs.declared.Task.{Task}
use Rattle.terms.specs.Meaning.{plan_in, TaskIs}
use Rattle.terms.proofs.BackLaws.{mode_back, mode_back_lem, format_back, format_back_lem}

pub task_only_one : (asked : Asked) (x y : Task) → ((fs : List RuleField) → TaskIs x (plan_in zone_f asked fs)) → ((fs : List RuleField) → TaskIs y (plan_in zone_f asked fs)) → x ≡ y
task_only_one asked x y a b =
    let u = a [] in
    let v = b [] in
    let mode : x.mode ≡ y.mode = sym (mode_back_lem x.mode) ∙ ap mode_back (u.mode ∙ sym v.mode) ∙ mode_back_lem y.mode in
    let format : x.format ≡ y.format = sym (format_back_lem x.format) ∙ ap format_back (u.format ∙ sym v.format) ∙ format_back_lem y.format in
    λ i.
    record {
      mode = mode i;
      format = format i;
      n = (u.n ∙ sym v.n) i;
      m = (u.m ∙ sym v.m) i;
      width = (u.width ∙ sym v.width) i;
      limit = (u.limit ∙ sym v.limit) i;
      cost = (u.costs ∙ sym v.costs) i;
      first = (u.first ∙ sym v.first) i;
      carries = (u.carries ∙ sym v.carries) i;
    }
