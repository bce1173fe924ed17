-- It makes just that table.
use mathlib.Core.Path.{refl}
use Rattle.tables.specs.Promise.{table_of}
use Rattle.tables.proofs.no_entries.Goals as goal

pub returns : goal.returns
unfolding table_of
returns c = refl
