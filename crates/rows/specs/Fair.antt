-- What those who run a plan may ask of the struct and the row that hold it.
use Rattle.std.specs.Prelude.{◌≡◌, List, ℕ}
use Rattle.rules.specs.Accepted.{Accepted}
use Rattle.rules.specs.Lent.{zone_f}
use Rattle.terms.specs.Meaning.{plan_in}
use Rattle.terms.specs.declared.Asked.{Asked}
use Rattle.rows.specs.Flat.{flat_of}
use Rattle.rows.specs.Kept.{fields_in}

-- they hold the plan of a deck that is accepted, and the row is just the numbers of its fields
pub record PlanFair (x : Asked) (row : List ℕ) : Type 0 where
  pub accepted : Accepted (plan_in zone_f x (fields_in row))
  pub flat : row ≡ flat_of (fields_in row)
