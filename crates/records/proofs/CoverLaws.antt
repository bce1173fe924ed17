-- Fields that cover an output record: what they leave does not depend on what stood there. It holds since two outputs that agree on so many
-- first bytes agree, with a field over both, on the field's bytes too, and so as far as the field reaches.
use mathlib.Core.Path.{◌≡◌, refl, ap, sym, subst, ◌∙◌}
use mathlib.Core.Bool.{Bool, true, false}
use mathlib.Core.List.{List, [], ◌∷◌, ◌++◌}
use mathlib.Core.Logic.{◌⊎◌, inl, inr}
use Prim.Native.Nat.{ℕ, ◌+◌, ◌-◌, ◌*◌, ◌≤◌, ◌<◌, max}
use native.Mathlib.Omega.{arith}
use native.Mathlib.Decide.{dec_le}
use native.Mathlib.Nat.{not-suc-le-zero}
use lib.Dec.{leb}
use lib.ListN.{length, take, drop, get_or, replicate, length-replicate, drop_of_length-le, take-append-drop}
use lib.Seq.{length-take-le, ext_get_or}
use borrow.Author.Tests.{le-leb, lt-leb, leb-true}
use Rattle.rules.specs.Places.{All, no_more, also}
use Rattle.rules.specs.Halves.{output_size, Field as RuleField, over}
use Rattle.rules.specs.Lent.{zone_f}
use Rattle.rules.specs.RecordParts.{Fits, field_bytes, written_bytes}
use Rattle.rules.proofs.Halves.SizeLaws.{length_over}
use Rattle.rules.proofs.Halves.PlaceLaws.{over_inside, over_before, over_after}
use Rattle.rules.proofs.Halves.FieldSteps.{length_field_bytes, field_room, length_written_bytes, written_rest}
use Rattle.terms.specs.Meaning.{field_of}
use Rattle.terms.specs.declared.Field.{Field}
use Rattle.rows.specs.Flat.{flat_of, field_at, FlatFair}
use Rattle.rows.proofs.FlatLaws.{fields_many, fields_left, output_of_row}
use Rattle.records.specs.Promise.{farther_of, reach_of, Covers, ground_of}

-- ---- one field

pub farther_gap : (to size covered : ℕ) → covered < to → covered ≡ farther_of to size covered
unfolding farther_of
farther_gap to size covered h = rw (lt-leb to covered h)

pub farther_joins : (to size covered : ℕ) → to ≤ covered → max covered (to + size) ≡ farther_of to size covered
unfolding farther_of
farther_joins to size covered h = rw (le-leb to covered h)

-- ---- field by field

-- the fields before place i reach so far
abbrev pub Reaching : List ℕ → ℕ → ℕ → Type 0
Reaching xs covered i = (fs : List RuleField) → xs ≡ flat_of fs → reach_of 0 fs ≡ reach_of covered (drop i fs)

pub reach_start : (xs : List ℕ) → Reaching xs 0 0
reach_start xs fs flat = refl

module _ (xs : List ℕ) (covered i : ℕ) (known : Reaching xs covered i) where
  pub reach_more : 5 * i + 5 ≤ length xs → (f : Field) → f ≡ field_at xs i → (next : ℕ) → next ≡ farther_of (f.t - 1) f.output covered → Reaching xs next (i + 1)
  unfolding field_of
  reach_more l f e next q fs flat =
      known fs flat
      ∙ ap (reach_of covered) (fields_left fs flat i l)
      ∙ ap (λ (k : ℕ). reach_of k (drop (i + 1) fs))
      (ap (λ (o : ℕ). farther_of ((field_at xs i).t - 1) o covered) (sym (output_of_row fs flat i l)) ∙ ap (λ (g : Field). farther_of (g.t - 1) g.output covered) (sym e) ∙ sym q)

  pub reach_end : length xs ≤ 5 * i + 4 → (width : ℕ) → Covers xs width (leb width covered)
  unfolding Covers
  reach_end l width fs flat =
      let all : length fs ≤ i = omega (arith, fields_many fs flat) in
      ap (leb width) (sym (known fs flat ∙ ap (reach_of covered) (drop_of_length-le fs all)))

-- ---- two outputs with the same fields over them

-- the first so many bytes are the same
abbrev pub Agree : ℕ → List ℕ → List ℕ → Type 0
Agree n x y = (g : ℕ) → g < n → get_or x g 0 ≡ get_or y g 0

-- a byte that is reached, and that the field does not write, was reached before
reached : (to size covered g : ℕ) → g < farther_of to size covered → (g < to) ⊎ (to + size ≤ g) → g < covered
reached to size covered g h (inl b) = elim (dec_le to covered) [ yes l ↦ omega arith | no l ↦ omega (arith, farther_gap to size covered (omega arith)) ]
reached to size covered g h (inr b) =
    elim (dec_le to covered) [ yes l ↦ omega (arith, farther_joins to size covered l) | no l ↦ omega (arith, farther_gap to size covered (omega arith)) ]

module _ (to : ℕ) (v x y : List ℕ) (rx : to + length v ≤ length x) (ry : to + length v ≤ length y) where
  agree_over : (covered : ℕ) → Agree covered x y → Agree (farther_of to (length v) covered) (over to v x) (over to v y)
  agree_over covered same g h = elim (dec_le to g) [ yes b ↦ behind b | no b ↦ before (omega arith) ]
    where
      before : g < to → get_or (over to v x) g 0 ≡ get_or (over to v y) g 0
      before b = over_before to v x 0 rx g b ∙ same g (reached to (length v) covered g h (inl b)) ∙ sym (over_before to v y 0 ry g b)

      after : to + length v ≤ g → get_or (over to v x) g 0 ≡ get_or (over to v y) g 0
      after b = over_after to v x 0 rx g b ∙ same g (reached to (length v) covered g h (inr b)) ∙ sym (over_after to v y 0 ry g b)

      inside : to ≤ g → g < to + length v → get_or (over to v x) g 0 ≡ get_or (over to v y) g 0
      inside b l = over_inside to v x 0 rx g (g - to) (omega arith) (omega arith) ∙ sym (over_inside to v y 0 ry g (g - to) (omega arith) (omega arith))

      behind : to ≤ g → get_or (over to v x) g 0 ≡ get_or (over to v y) g 0
      behind b = elim (dec_le (to + length v) g) [ yes l ↦ after l | no l ↦ inside b (omega arith) ]

module _ (a width : ℕ) (r : List ℕ) (long : a ≤ length r) where
  agree_written : (fs : List RuleField) (x y : List ℕ) (covered : ℕ) → All (Fits a width) fs → length x ≡ width → length y ≡ width → Agree covered x y
      → Agree (reach_of covered fs) (written_bytes zone_f fs r x) (written_bytes zone_f fs r y)
  agree_written [] x y covered no_more lx ly same = same
  agree_written (f ∷ fs) x y covered (also h hs) lx ly same =
      let v = field_bytes zone_f f r in
      let rx = field_room zone_f a width r long f x h lx in
      let ry = field_room zone_f a width r long f y h ly in
      let size : farther_of (f.t - 1) (length v) covered ≡ farther_of (f.t - 1) (output_size f.kind) covered =
      ap (λ (o : ℕ). farther_of (f.t - 1) o covered) (length_field_bytes zone_f a width r long f h)
      in
      agree_written fs (over (f.t - 1) v x) (over (f.t - 1) v y) _ hs (length_over (f.t - 1) v x rx ∙ lx) (length_over (f.t - 1) v y ry ∙ ly)
      (subst (λ (n : ℕ). Agree n (over (f.t - 1) v x) (over (f.t - 1) v y)) size (agree_over (f.t - 1) v x y rx ry covered same))

  -- where they reach the end, it is all the same what they are written over
  pub covered_same : (fs : List RuleField) (x y : List ℕ) → All (Fits a width) fs → length x ≡ width → length y ≡ width → width ≤ reach_of 0 fs
      → written_bytes zone_f fs r x ≡ written_bytes zone_f fs r y
  covered_same fs x y h lx ly far =
      let many : length (written_bytes zone_f fs r x) ≡ width = length_written_bytes zone_f a width r long fs x h lx in
      ext_get_or 0 _ _ (many ∙ sym (length_written_bytes zone_f a width r long fs y h ly))
      (λ g l. agree_written fs x y 0 h lx ly (λ k b. absurd (not-suc-le-zero b)) g (omega arith))

-- ---- the ground

pub ground_blank : (width : ℕ) (old front : List ℕ) → front ≡ replicate width 0x40 → front ++ drop width old ≡ ground_of width false old
unfolding ground_of
ground_blank width old front e = ap (λ (x : List ℕ). x ++ drop width old) e

pub ground_stays : (width : ℕ) (old : List ℕ) → old ≡ ground_of width true old
unfolding ground_of
ground_stays width old = refl

-- the fields over the ground are the fields over blanks
pub grounded : (xs : List ℕ) (n width : ℕ) (covered : Bool) (r old : List ℕ) → n ≤ length r → width ≤ length old → Covers xs width covered → (fs : List RuleField) → FlatFair xs fs n width
    → written_bytes zone_f fs r (ground_of width covered old) ≡ written_bytes zone_f fs r (replicate width 0x40) ++ drop width old
unfolding ground_of Covers
grounded xs n width false r old long room told fs fair = written_rest zone_f n width r long fs (replicate width 0x40) (drop width old) fair.fits (length-replicate {A = ℕ} width 0x40)
grounded xs n width true r old long room told fs fair =
    let front : length (take width old) ≡ width = length-take-le width old room in
    ap (written_bytes zone_f fs r) (sym (take-append-drop width old))
    ∙ written_rest zone_f n width r long fs (take width old) (drop width old) fair.fits front
    ∙ ap (λ (x : List ℕ). x ++ drop width old)
    (covered_same n width r long fs (take width old) (replicate width 0x40) fair.fits front (length-replicate {A = ℕ} width 0x40) (leb-true width (reach_of 0 fs) (sym (told fs fair.flat))))
