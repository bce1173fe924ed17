-- A field by its numbers: of which kind it is, and which part of a record it reads, some of it. By what the numbers of a fair row are.
use mathlib.Core.Path.{◌≡◌, refl, ap, sym, subst}
use mathlib.Core.List.{List}
use Prim.Native.Nat.{ℕ, ◌+◌, ◌-◌, ◌*◌, ◌≤◌}
use native.Mathlib.Omega.{arith}
use lib.ListN.{length, take, drop, get_or}
use borrow.Author.Tests.{eq-eqb, ne_eqb}
use Rattle.rules.specs.Halves.{input_size}
use Rattle.rules.specs.Plan.{Plan, record_length}
use Rattle.rules.specs.Accepted.{Accepted}
use Rattle.rules.specs.RecordParts.{Fits, field_input}
use Rattle.rules.proofs.Base.AllLaws.{all_imply}
use Rattle.rules.proofs.Halves.RecordLaws.{fits_of}
use Rattle.rules.proofs.Base.LentParts.{part_length}
use Rattle.terms.specs.Meaning.{field_of}
use Rattle.terms.specs.declared.Kind.TheVariants.{Copy, Pack, Unpack}
use Rattle.terms.specs.declared.Field.{Field}
use Rattle.rows.specs.Flat.{flat_of, kind_at, field_at, FlatFair, Readable}
use Rattle.terms.proofs.FieldLaws.{input_of_lem}
use Rattle.rows.proofs.FlatLaws.{fits_at}

-- ---- an accepted plan

pub fair_of : (p : Plan) → Accepted p → FlatFair (flat_of p.fields) p.fields (record_length p.input) (record_length p.output)
fair_of p ok = record { flat = refl; fits = fits_of p ok; sizes = all_imply (λ f w. w.kind) ok.limits }

-- ---- the kind of a field

pub kind_of_row : (xs : List ℕ) (i : ℕ) → (field_at xs i).kind ≡ kind_at (get_or xs (5 * i) 0)
unfolding field_at
kind_of_row xs i = refl

pub kind_copy : (k : ℕ) → k ≡ 0 → kind_at k ≡ Copy
unfolding kind_at
kind_copy k e = rw (eq-eqb k 0 e)

pub kind_pack : (k : ℕ) → k ≡ 1 → kind_at k ≡ Pack
unfolding kind_at
kind_pack k e = rw e

pub kind_unpack : (k : ℕ) → (k ≡ 0 → ⊥) → (k ≡ 1 → ⊥) → kind_at k ≡ Unpack
unfolding kind_at
kind_unpack k no_copy no_pack = rw (ne_eqb k 0 no_copy, ne_eqb k 1 no_pack)

-- ---- what a field reads

-- the part of the record that is lent for a field
abbrev pub lent_input : Field → List ℕ → List ℕ
lent_input f r = take (f.r - 1 + f.input - (f.r - 1)) (drop (f.r - 1) r)

pub part_input : (f : Field) (r : List ℕ) → lent_input f r ≡ field_input (field_of f) r
unfolding field_input field_of
part_input f r = ap (λ (n : ℕ). take n (drop (f.r - 1) r)) (let z : f.r - 1 + f.input - (f.r - 1) ≡ input_size (field_of f).kind = omega (arith, input_of_lem f) in z)

-- a field reads some of its record
pub record Reads (f : Field) (r : List ℕ) : Type 0 where
  pub low : 1 ≤ f.r
  pub some : 1 ≤ f.input
  pub high : f.r - 1 + f.input ≤ length r

pub reads_inside : {a b : ℕ} (f : Field) (r : List ℕ) → Fits a b (field_of f) → a ≤ length r → Reads f r
unfolding field_of
reads_inside f r h long =
    record { low = h.r_low; some = omega (arith, h.input_low, input_of_lem f); high = omega (arith, h.r_low, h.input_high, input_of_lem f) }

pub reads_at : (xs r : List ℕ) (i : ℕ) → Readable xs (length r) → 5 * i + 5 ≤ length xs → (f : Field) → f ≡ field_at xs i → Reads f r
reads_at xs r i k l f e = subst (λ (g : Field). Reads g r) (sym e) (reads_inside (field_at xs i) r (fits_at k.fielded.fair i l) k.long)

pub length_input : (f : Field) (r : List ℕ) → Reads f r → length (lent_input f r) ≡ f.input
length_input f r h = part_length (f.r - 1) f.input r h.high
