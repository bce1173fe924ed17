-- The reason, field by field: which halves a field of the code reads and shows is what the rules say of its meaning, by how many halves stand behind the half;
-- and one more field of the row takes the reason one step on.
use mathlib.Core.Path.{◌≡◌, refl, ap, ap₂, sym, ◌∙◌}
use mathlib.Core.Bool.{Bool, true, false, cond, ◌&&◌, ◌||◌}
use mathlib.Core.List.{List, ◌∷◌}
use Prim.Native.Nat.{ℕ, ◌+◌, ◌-◌, ◌*◌, ◌/◌, ◌%◌, ◌≤◌, ◌<◌}
use native.Mathlib.Omega.{arith}
use lib.Dec.{ltb, leb, eqb}
use lib.ListN.{length, drop}
use borrow.Author.Tests.{lt-ltb, le-ltb, le-leb, lt-leb, eq-eqb, ne_eqb}
use Rattle.rules.specs.Halves.{Field as RuleField, reads_from, reads_many}
use Rattle.rules.specs.Permitted.{reads}
use Rattle.rules.specs.Lent.{zone_f}
use Rattle.rules.specs.Twins.{shows, reason_of, reason_by}
use Rattle.rules.specs.TwinWords.{Reads}
use Rattle.rules.proofs.Twins.ShowsLaws.{reads_words, shows_longer, shows_copy, shows_pack, shows_unpack}
use Rattle.terms.specs.Meaning.{field_of}
use Rattle.terms.specs.declared.Field.{Field}
use Rattle.terms.specs.declared.Kind.TheVariants.{Copy, Pack, Unpack}
use Rattle.rows.specs.Flat.{field_at}
use Rattle.rows.specs.Kept.{fields_in}
use Rattle.rows.proofs.RowLaws.{fields_on, fields_end}
use Rattle.sources.specs.Promise.{FieldInside, RowInside}
use Rattle.terms.proofs.FieldLaws.{input_of_lem}
use Rattle.sources.proofs.Fields.{kind_of_lem, fair_fits}
use Rattle.reasons.specs.Promise.{number_of}
use Rattle.reasons.specs.declared.Cause.{Cause}
use Rattle.reasons.specs.declared.Cause.TheVariants.{NeverRead, Dropped, Covered}

-- ---- one field

module _ (n m : ℕ) (f : Field) (ok : FieldInside n m f) where
  from_is : reads_from (field_of f) ≡ 2 * f.r - 2
  unfolding field_of
  from_is = omega (arith, ok.r_low)

  many_is : reads_many (field_of f) ≡ 2 * f.input
  many_is = ap (λ (s : ℕ). 2 * s) (input_of_lem f)

  -- it reads inside the input
  pub room : reads_from (field_of f) + reads_many (field_of f) ≤ 2 * n
  room = omega (arith, from_is, many_is, ok.r_low, ok.r_high)

  module _ (h : ℕ) where
    reads_is : (leb (2 * f.r - 2) h && ltb h (2 * f.r - 2 + 2 * f.input)) ≡ reads (field_of f) h
    unfolding reads
    reads_is = ap₂ (λ (a b : ℕ). leb a h && ltb h (a + b)) (sym from_is) (sym many_is)

    pub reads_from_lem : 2 * f.r - 2 ≤ h → ltb h (2 * f.r - 2 + 2 * f.input) ≡ reads (field_of f) h
    reads_from_lem l = rw (le-leb (2 * f.r - 2) h l) at reads_is

    pub reads_before : h < 2 * f.r - 2 → leb (2 * f.r - 2) h ≡ reads (field_of f) h
    reads_before l = lt-leb (2 * f.r - 2) h l ∙ (rw (lt-leb (2 * f.r - 2) h l) at reads_is)

    module _ (r : reads (field_of f) h ≡ true) where
      in_words : Reads (field_of f) h
      in_words = (reads_words (field_of f) h).0 r

      -- some halves of what it reads are behind the half, or none
      pub reads_end : h ≤ 2 * (f.r + f.input) - 3
      reads_end = omega (arith, from_is, many_is, in_words.1, ok.r_low)

      module _ (right : ℕ) (p : right ≡ 2 * (f.r + f.input) - 3 - h) where
        behind : h + 1 + right ≡ reads_from (field_of f) + 2 * f.input
        behind = omega (arith, from_is, reads_end, ok.r_low, ok.input_low)

        module _ (many : ℕ) (l : reads_from (field_of f) + reads_many (field_of f) ≤ many) where
          longer : shows zone_f (2 * n) h (field_of f) ≡ shows zone_f many h (field_of f)
          longer = shows_longer zone_f h (field_of f) (2 * n) many room l

          pub copy_shows : f.kind ≡ Copy → true ≡ shows zone_f many h (field_of f)
          copy_shows q = sym (shows_copy zone_f n m (field_of f) (fair_fits n m f ok) h f.input (kind_of_lem f Copy q) in_words) ∙ longer

          module _ (q : f.kind ≡ Pack) where
            pack_is : (ltb right 2 || (eqb (right % 2) 0 && ltb (right / 2 + 1) (2 * f.output))) ≡ shows zone_f many h (field_of f)
            pack_is = sym (shows_pack zone_f n m (field_of f) (fair_fits n m f ok) h f.input f.output (kind_of_lem f Pack q) in_words right behind) ∙ longer

            pub pack_last : right < 2 → ltb right 2 ≡ shows zone_f many h (field_of f)
            pack_last a = lt-ltb right 2 a ∙ (rw (lt-ltb right 2 a) at pack_is)

            pub pack_digit : 2 ≤ right → right % 2 ≡ 0 → ltb (right / 2 + 1) (2 * f.output) ≡ shows zone_f many h (field_of f)
            pack_digit a e = rw (le-ltb right 2 a, eq-eqb (right % 2) 0 e) at pack_is

            pub pack_zone : 2 ≤ right → (right % 2 ≡ 0 → ⊥) → eqb (right % 2) 0 ≡ shows zone_f many h (field_of f)
            pack_zone a e = ne_eqb (right % 2) 0 e ∙ (rw (le-ltb right 2 a, ne_eqb (right % 2) 0 e) at pack_is)

          module _ (q : f.kind ≡ Unpack) where
            unpack_is : (ltb right 2 || leb right f.output) ≡ shows zone_f many h (field_of f)
            unpack_is = sym (shows_unpack zone_f n m (field_of f) (fair_fits n m f ok) h f.input f.output (kind_of_lem f Unpack q) in_words right behind) ∙ longer

            pub unpack_last : right < 2 → ltb right 2 ≡ shows zone_f many h (field_of f)
            unpack_last a = lt-ltb right 2 a ∙ (rw (lt-ltb right 2 a) at unpack_is)

            pub unpack_digit : 2 ≤ right → leb right f.output ≡ shows zone_f many h (field_of f)
            unpack_digit a = rw (le-ltb right 2 a) at unpack_is

-- ---- the reason

module _ (zone many h : ℕ) where
  module _ (f : RuleField) (t : Bool) (s : t ≡ shows zone many h f) where
    pub reason_shown : t ≡ true → 3 ≡ reason_of zone many h f
    unfolding reason_of
    reason_shown e = rw (← s, e)

    pub reason_dropped : t ≡ false → 2 ≡ reason_of zone many h f
    unfolding reason_of
    reason_dropped e = rw (← s, e)

  module _ (row : List ℕ) where
    -- one more field, which is f: the reason is x before it and y behind it, and z in the end
    module _ (k : ℕ) (l : 5 * k + 5 ≤ length row) (f : Field) (read : f ≡ field_at row k) (x y z : ℕ) (left : reason_by zone many h x (drop k (fields_in row)) ≡ z) where
      one_more : y ≡ cond (reads (field_of f) h) (reason_of zone many h (field_of f)) x → reason_by zone many h y (drop (k + 1) (fields_in row)) ≡ z
      one_more e =
          ap (λ (r : ℕ). reason_by zone many h r (drop (k + 1) (fields_in row))) e
          ∙ sym (ap (reason_by zone many h x) (fields_on row k l ∙ ap (λ (g : Field). field_of g ∷ drop (k + 1) (fields_in row)) (sym read)))
          ∙ left

      pub reason_read : (t : Bool) → t ≡ reads (field_of f) h → t ≡ true → y ≡ reason_of zone many h (field_of f) → reason_by zone many h y (drop (k + 1) (fields_in row)) ≡ z
      reason_read t s e q = one_more (rw (← s, e) q)

      pub reason_unread : (t : Bool) → t ≡ reads (field_of f) h → t ≡ false → y ≡ x → reason_by zone many h y (drop (k + 1) (fields_in row)) ≡ z
      reason_unread t s e q = one_more (rw (← s, e) q)

    -- after all fields the reason is what it is
    pub reason_all : (k x : ℕ) → k ≡ length row / 5 → reason_by zone many h x (drop k (fields_in row)) ≡ x
    reason_all k x e = ap (reason_by zone many h x) (fields_end row k e)

-- ---- the promises allow one answer alone

pub only_one_reads : (f : Field) (h : ℕ) (r r' : Bool) → r ≡ reads (field_of f) h → r' ≡ reads (field_of f) h → r ≡ r'
only_one_reads f h r r' e e' = e ∙ sym e'

-- no two reasons have one number
pub number_once : (r q : Cause) → number_of r ≡ number_of q → r ≡ q
number_once NeverRead NeverRead e = refl
number_once NeverRead Dropped e = absurd (omega arith)
number_once NeverRead Covered e = absurd (omega arith)
number_once Dropped NeverRead e = absurd (omega arith)
number_once Dropped Dropped e = refl
number_once Dropped Covered e = absurd (omega arith)
number_once Covered NeverRead e = absurd (omega arith)
number_once Covered Dropped e = absurd (omega arith)
number_once Covered Covered e = refl

pub only_one_reason : (row : List ℕ) (h : ℕ) (r r' : Cause) → RowInside row 4096 4096
    → ((n m : ℕ) → RowInside row n m → number_of r ≡ reason_by zone_f (2 * n) h 1 (fields_in row))
    → ((n m : ℕ) → RowInside row n m → number_of r' ≡ reason_by zone_f (2 * n) h 1 (fields_in row)) → r ≡ r'
only_one_reason row h r r' fair e e' = number_once r r' (e 4096 4096 fair ∙ sym (e' 4096 4096 fair))
