-- The column of the first number outside its limits, found by asking each number by itself: the first column that is not 0 is that of the first number that
-- fails, since no column is 0. By whether each number is within its limits.
use mathlib.Core.Path.{◌≡◌, refl, ap, ◌∙◌}
use mathlib.Core.Bool.{Bool, true, false, cond}
use Prim.Native.Nat.{ℕ, ◌+◌, ◌≤◌}
use native.Mathlib.Omega.{arith}
use Rattle.rules.specs.Base.{within}
use Rattle.rules.specs.Grammar.{Part as RulePart, field}
use Rattle.rules.specs.Words.{outside_column, first_column}
use Rattle.rules.specs.Asked.{item_numbers}
use Rattle.rules.proofs.Columns.WordColumns.{first_some}
use Rattle.terms.specs.declared.Kind.{Kind}
use Rattle.terms.specs.declared.Kind.TheVariants.{Copy, Pack, Unpack}
use Rattle.terms.specs.declared.Size.{Size}
use Rattle.terms.specs.declared.Size.TheVariants.{Two, One}
use Rattle.terms.specs.declared.Input.{Input}
use Rattle.terms.specs.declared.Input.TheVariants.{Plain, Keyed}
use Rattle.terms.specs.declared.Part.{Part}
use Rattle.terms.specs.declared.Field.{Field}
use Rattle.terms.specs.Meaning.{kind_of, field_of, OneSize, part_of, card_field}
use Rattle.readers.specs.declared.Places.{Places}
use Rattle.readers.specs.declared.UParameter.TheVariants.{InputIs, OutputIs}
use Rattle.readers.specs.Meaning.{parameter_places, field_places}
use Rattle.limits.specs.Limits.{shifted, size_places, input_places, most_of, field_outside}

-- the columns of two and of four numbers, 0 for one that is within its limits
pub two_first : (a b : Bool) (x y : ℕ) → 1 ≤ x → first_column (cond a 0 x) (cond b 0 y) ≡ cond a (cond b 0 y) x
two_first true b x y l = refl
two_first false b x y l = first_some x (cond b 0 y) l

four_first : (a b d e : Bool) (w x y z : ℕ) → 1 ≤ w → 1 ≤ x → 1 ≤ y
    → first_column (first_column (cond a 0 w) (cond b 0 x)) (first_column (cond d 0 y) (cond e 0 z)) ≡ cond a (cond b (cond d (cond e 0 z) y) x) w
four_first false b d e w x y z l m n = ap (λ (k : ℕ). first_column k (first_column (cond d 0 y) (cond e 0 z))) (first_some w (cond b 0 x) l) ∙ first_some w _ l
four_first true false d e w x y z l m n = first_some x _ m
four_first true true d e w x y z l m n = two_first d e y z n

-- ---- a field

module _ (q : RulePart) (r t : ℕ) (p : Places) (c : ℕ) (low : 1 ≤ c) where
  abbrev by_four : ℕ → ℕ → ℕ → ℕ
  by_four most input output =
      first_column (first_column (cond (within 1 4096 r) 0 (c + p.r)) (cond (within 1 most input) 0 (c + p.input)))
      (first_column (cond (within 1 most output) 0 (c + p.output)) (cond (within 1 4096 t) 0 (c + p.t)))

  kind_first : (k : Kind) (input output : ℕ) → OneSize k input output
      → by_four (most_of k) input output ≡ outside_column (shifted c (field_places k p)) (item_numbers (field (record { part = q; field = record { r = r; kind = kind_of k input output; t = t } })))
  kind_first Copy input output e =
      ap (by_four 4096 input) e
      ∙ four_first (within 1 4096 r) (within 1 4096 input) (within 1 4096 input) (within 1 4096 t) (c + p.r) (c + p.input) (c + p.output) (c + p.t) (omega arith) (omega arith) (omega arith)
      ∙ ap (λ (k : ℕ). cond (within 1 4096 r) k (c + p.r)) (once (within 1 4096 input))
    where
      once : (b : Bool) → cond b (cond b (cond (within 1 4096 t) 0 (c + p.t)) (c + p.output)) (c + p.input) ≡ cond b (cond (within 1 4096 t) 0 (c + p.t)) (c + p.input)
      once true = refl
      once false = refl
  kind_first Pack input output e =
      four_first (within 1 4096 r) (within 1 16 input) (within 1 16 output) (within 1 4096 t) (c + p.r) (c + p.input) (c + p.output) (c + p.t) (omega arith) (omega arith) (omega arith)
  kind_first Unpack input output e =
      four_first (within 1 4096 r) (within 1 16 input) (within 1 16 output) (within 1 4096 t) (c + p.r) (c + p.input) (c + p.output) (c + p.t) (omega arith) (omega arith) (omega arith)

pub field_first : (q : Part) (f : Field) (p : Places) (c : ℕ) → OneSize f.kind f.input f.output → 1 ≤ c
    → first_column (first_column (cond (within 1 4096 f.r) 0 (c + p.r)) (cond (within 1 (most_of f.kind) f.input) 0 (c + p.input)))
    (first_column (cond (within 1 (most_of f.kind) f.output) 0 (c + p.output)) (cond (within 1 4096 f.t) 0 (c + p.t)))
    ≡ field_outside q f p c
unfolding field_of card_field
field_first q f p c e l = kind_first (part_of q) f.r f.t p c l f.kind f.input f.output e

-- ---- A and B

pub input_places_lem : (i : Input) (second : ℕ) → parameter_places (InputIs i) second ≡ input_places i second
input_places_lem (Plain (Two n m)) second = refl
input_places_lem (Plain (One g)) second = refl
input_places_lem (Keyed k d) second = refl

pub output_places : (z : Size) (second : ℕ) → parameter_places (OutputIs z) second ≡ size_places z second
output_places (Two n m) second = refl
output_places (One g) second = refl
