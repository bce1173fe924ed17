-- The promise allows one outcome alone: it is an equation.
use mathlib.Core.Path.{◌≡◌, sym, ◌∙◌}
use mathlib.Core.List.{List}
use Prim.Native.Nat.{ℕ}
use Rattle.rules.specs.Lent.{plan_into}
use Rattle.tables.specs.Promise.{filled_for}
use Rattle.tables.specs.declared.TablePlan.{TablePlan}

pub only_one_filled : (room : ℕ) (deck : List ℕ) (r s : TablePlan) → r ≡ filled_for deck (plan_into room deck) → s ≡ filled_for deck (plan_into room deck) → r ≡ s
only_one_filled room deck r s e q = e ∙ sym q
