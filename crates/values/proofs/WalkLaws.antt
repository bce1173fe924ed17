-- Walking the fields by their numbers: where those before place i pass a test, every field passes it exactly if those from i on do. It holds since
-- each field is read back from its own five numbers.
use mathlib.Core.Path.{◌≡◌, refl, ap, ◌∙◌}
use mathlib.Core.Bool.{Bool, true, false}
use mathlib.Core.List.{List}
use Prim.Native.Nat.{ℕ, ◌+◌, ◌*◌, ◌≤◌}
use native.Mathlib.Omega.{arith}
use lib.ListN.{length, drop, drop_of_length-le}
use Rattle.rules.specs.Base.{every}
use Rattle.rules.specs.Halves.{Field as RuleField}
use Rattle.terms.specs.Meaning.{field_of}
use Rattle.rows.specs.Flat.{flat_of, field_at}
use Rattle.rows.proofs.FlatLaws.{fields_many, fields_left}

-- the fields before place i pass: what is left to ask is of the others
abbrev pub Left : (RuleField → Bool) → List ℕ → ℕ → Type 0
Left q xs i = (fs : List RuleField) → xs ≡ flat_of fs → every q fs ≡ every q (drop i fs)

pub left_start : (q : RuleField → Bool) (xs : List ℕ) → Left q xs 0
left_start q xs fs flat = refl

module _ (q : RuleField → Bool) (xs : List ℕ) (i : ℕ) (known : Left q xs i) where
  pub left_more : 5 * i + 5 ≤ length xs → q (field_of (field_at xs i)) ≡ true → Left q xs (i + 1)
  left_more l t fs flat = known fs flat ∙ rw (fields_left fs flat i l, t)

  pub left_fails : 5 * i + 5 ≤ length xs → q (field_of (field_at xs i)) ≡ false → (fs : List RuleField) → xs ≡ flat_of fs → every q fs ≡ false
  left_fails l t fs flat = known fs flat ∙ rw (fields_left fs flat i l, t)

  pub left_end : length xs ≤ 5 * i + 4 → (fs : List RuleField) → xs ≡ flat_of fs → every q fs ≡ true
  left_end l fs flat =
      let all : length fs ≤ i = omega (arith, fields_many fs flat) in
      known fs flat ∙ ap (every q) (drop_of_length-le fs all)
