-- The line of the numbers, taken apart: as many stand in A as are wanted, and as many in B.
use mathlib.Core.Path.{◌≡◌}
use mathlib.Core.Bool.{true}
use lib.Dec.{eqb}
use borrow.Author.Tests.{eqb-true}
use Rattle.rules.specs.Grammar.{Mode, Format, Size}
use Rattle.rules.specs.Plan.{numbers, wanted}
use Rattle.rules.proofs.Base.Tests.{and_left, and_right}
use Rattle.combinations.specs.Lines.{count_line}

-- as many numbers as are wanted
pub counted : (t : Mode) (f : Format) (a b : Size) → count_line t f a b ≡ true → (numbers a ≡ wanted t f) × (numbers b ≡ wanted t f)
counted t f a b e =
    (eqb-true (numbers a) (wanted t f) (and_left (eqb (numbers a) (wanted t f)) _ e), eqb-true (numbers b) (wanted t f) (and_right (eqb (numbers a) (wanted t f)) _ e))
