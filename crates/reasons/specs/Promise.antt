-- How the answer numbers the reason for which a half is lost.
use Rattle.std.specs.Prelude.{ℕ}
use Rattle.reasons.specs.declared.Cause.{Cause}
use Rattle.reasons.specs.declared.Cause.TheVariants.{NeverRead, Dropped, Covered}

abbrev pub number_of : Cause → ℕ
number_of NeverRead = 1
number_of Dropped = 2
number_of Covered = 3
