-- The walk over the fields, field by field: the first one outside among those left is the first one outside of all, while none was found.
use mathlib.Core.Path.{◌≡◌, refl, ap, sym, ◌∙◌}
use mathlib.Core.Bool.{true, false}
use mathlib.Core.List.{List, ◌∷◌}
use Prim.Native.Nat.{ℕ, ◌+◌, ◌*◌, ◌/◌, ◌≤◌}
use native.Mathlib.Numerals.{add-one}
use native.Mathlib.Omega.{arith}
use lib.ListN.{length, drop}
use Rattle.std.proofs.Common.{Some, None}
use Rattle.rules.specs.Plan.{inside}
use Rattle.terms.specs.Meaning.{field_of}
use Rattle.rows.specs.Flat.{field_at}
use Rattle.rows.specs.Kept.{fields_in}
use Rattle.rows.proofs.RowLaws.{fields_on, fields_end}
use Rattle.combinations.specs.Promise.{first_outside}

-- what the fields from number i on give is what all give
pub record Seeking (row : List ℕ) (a b i : ℕ) : Type 0 where
  pub inside_so_far : i ≤ length row / 5
  pub left : first_outside a b 1 (fields_in row) ≡ first_outside a b (i + 1) (drop i (fields_in row))

module _ (row : List ℕ) (a b : ℕ) where
  pub seek_start : Seeking row a b 0
  seek_start = record { inside_so_far = omega arith; left = refl }

  module _ (i : ℕ) (s : Seeking row a b i) where
    module _ (l : 5 * i + 5 ≤ length row) where
      next : first_outside a b 1 (fields_in row) ≡ first_outside a b (i + 1) (field_of (field_at row i) ∷ drop (i + 1) (fields_in row))
      next = s.left ∙ ap (first_outside a b (i + 1)) (fields_on row i l)

      pub seek_more : inside a b (field_of (field_at row i)) ≡ true → Seeking row a b (i + 1)
      seek_more e = record { inside_so_far = omega arith; left = next ∙ rw (e, add-one (i + 1)) }

      pub seek_found : inside a b (field_of (field_at row i)) ≡ false → Some (i + 1) ≡ first_outside a b 1 (fields_in row)
      seek_found e = sym (next ∙ rw e)

    pub seek_none : length row / 5 ≤ i → None ≡ first_outside a b 1 (fields_in row)
    seek_none l = sym (s.left ∙ ap (first_outside a b (i + 1)) (fields_end row i (omega (arith, s.inside_so_far))))
