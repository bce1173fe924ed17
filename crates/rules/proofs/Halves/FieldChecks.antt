-- A record's halves are permitted exactly if the input of each field is: checking field by field, or byte by byte, is checking half by half.
-- It holds since a field asks only that the halves that it does not read be halves.
use mathlib.Core.Path.{◌≡◌, refl, ap, sym, ◌∙◌}
use mathlib.Core.Logic.{◌↔◌}
use mathlib.Core.Bool.{true}
use mathlib.Core.List.{List}
use Prim.Native.Nat.{ℕ, ◌+◌, ◌-◌, ◌≤◌, ◌<◌}
use native.Mathlib.Omega.{arith}
use lib.ListN.{length, take, drop, get_or}
use lib.Seq.{get_or-drop, length-take-le}
use Rattle.rules.specs.Places.{All, no_more, also, Byte, Half}
use Rattle.rules.specs.Halves.{halves, input_size, Field, reads_from, reads_many}
use Rattle.rules.specs.Permitted.{any, kind_allows, allows, permitted}
use Rattle.rules.specs.Output.{may_be}
use Rattle.rules.specs.RecordParts.{Fits, field_input}
use Rattle.rules.proofs.Base.Tests.{and_left, and_right}
use Rattle.rules.proofs.Base.AllLaws.{all_imply, all_at, all_take, all_both}
use Rattle.rules.proofs.Halves.SizeLaws.{length_halves, halves_small}
use Rattle.rules.proofs.Halves.BytePlaces.{halves_first, halves_drop}
use Rattle.rules.proofs.Halves.FieldSteps.{length_field_input}
use Rattle.rules.proofs.Halves.PermittedLaws.{PermittedInput, any_of, allows_before, allows_inside, allows_after, Where, before, inside, after, where_is, all_permitted, may_be_at, at_may_be}

-- ---- halves

-- each half that a field reads is what the field allows
abbrev pub Checked : ℕ → List ℕ → Field → Type 0
Checked zone hs f = (j : ℕ) → j < reads_many f → kind_allows zone f.kind j (get_or hs (reads_from f + j) 0) ≡ true

module _ (zone : ℕ) (hs : List ℕ) where
  check_one : (f : Field) → reads_from f + reads_many f ≤ length hs → ((h : ℕ) → h < length hs → allows zone f h (get_or hs h 0) ≡ true) → Checked zone hs f
  check_one f room p j l = sym (allows_inside zone f (get_or hs (reads_from f + j) 0) (reads_from f + j) j refl l) ∙ p (reads_from f + j) (omega arith)

  check_each : {fs : List Field} → All (λ f. reads_from f + reads_many f ≤ length hs) fs
      → ((h : ℕ) → h < length hs → permitted zone fs h (get_or hs h 0) ≡ true) → All (Checked zone hs) fs
  check_each no_more p = no_more
  check_each (also {x = f} l ls) p =
      also (check_one f l (λ h k. and_left (allows zone f h (get_or hs h 0)) _ (p h k))) (check_each ls (λ h k. and_right (allows zone f h (get_or hs h 0)) _ (p h k)))

  module _ (small : All Half hs) where
    check_half : (h : ℕ) → h < length hs → (f : Field) → Checked zone hs f → allows zone f h (get_or hs h 0) ≡ true
    check_half h l f c = go (where_is f h)
      where
        a : any (get_or hs h 0) ≡ true
        a = any_of (get_or hs h 0) (all_at 0 hs small h l)

        go : Where f h → allows zone f h (get_or hs h 0) ≡ true
        go (before k) = allows_before zone f (get_or hs h 0) h k ∙ a
        go (inside j e k) =
            allows_inside zone f (get_or hs h 0) h j e k ∙ ap (λ (i : ℕ). kind_allows zone f.kind j (get_or hs i 0)) e ∙ c j k
        go (after k) = allows_after zone f (get_or hs h 0) h k ∙ a

    -- field by field is half by half
    pub fields_checked : {fs : List Field} → All (λ f. reads_from f + reads_many f ≤ length hs) fs → (may_be (permitted zone fs) 0 hs ≡ true) ↔ All (Checked zone hs) fs
    fields_checked {fs} room = (
      (λ t. check_each room (λ h l. may_be_at (permitted zone fs) 0 hs t h h (omega arith) l)),
      (λ c. at_may_be (permitted zone fs) 0 hs (λ j h p l.
          let e : h ≡ j = omega arith in
          rw e (all_permitted zone j (get_or hs j 0) (any_of (get_or hs j 0) (all_at 0 hs small j l)) (all_imply (check_half j l) c)))),
    )

-- ---- bytes

module _ (zone a b : ℕ) (r : List ℕ) (long : a ≤ length r) where
  -- half j of what a field reads
  half_read : (f : Field) → Fits a b f → (j : ℕ) → j < reads_many f → get_or (halves (field_input f r)) j 0 ≡ get_or (halves (take a r)) (reads_from f + j) 0
  unfolding field_input
  half_read f h j l =
      halves_first (input_size f.kind) (drop (f.r - 1) r) j l
      ∙ ap (λ (hs : List ℕ). get_or hs j 0) (halves_drop (f.r - 1) r)
      ∙ get_or-drop (reads_from f) (halves r) j 0
      ∙ sym (halves_first a r (reads_from f + j) (omega (arith, h.input_high, h.r_low)))

  checked_input : (f : Field) → Fits a b f → Checked zone (halves (take a r)) f ↔ PermittedInput zone f.kind (field_input f r)
  checked_input f h = (
    (λ c. record {
      size = length_field_input zone a b r long f h;
      each = λ j l. ap (kind_allows zone f.kind j) (half_read f h j l) ∙ c j l;
    }),
    (λ p j l. ap (kind_allows zone f.kind j) (sym (half_read f h j l)) ∙ p.each j l),
  )

  fits_room : (f : Field) → Fits a b f → reads_from f + reads_many f ≤ length (halves (take a r))
  fits_room f h = omega (arith, h.input_high, h.r_low, h.input_low, length_halves (take a r), length-take-le a r long)

  -- a record is permitted exactly if the input of each field is
  pub inputs_permitted : All Byte r → {fs : List Field} → All (Fits a b) fs
      → (may_be (permitted zone fs) 0 (halves (take a r)) ≡ true) ↔ All (λ f. PermittedInput zone f.kind (field_input f r)) fs
  inputs_permitted small {fs} fits =
      let both = fields_checked zone (halves (take a r)) (halves_small (all_take a small)) (all_imply fits_room fits) in
      ((λ t. all_both (λ f h c. (checked_input f h).0 c) fits (both.0 t)), (λ ps. both.1 (all_both (λ f h p. (checked_input f h).1 p) fits ps)))
