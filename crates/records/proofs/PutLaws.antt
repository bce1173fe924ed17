-- Writing the fields of a record over its output, field by field: what a field leaves in its own part, and that the fields over blanks, with
-- the tail behind them, are the output record of the rules. It holds since each part comes back in the place from which it was lent.
use mathlib.Core.Path.{◌≡◌, refl, ap, ap₂, sym, subst, ◌∙◌}
use mathlib.Core.Bool.{Bool, true, false, cond}
use mathlib.Core.List.{List, append-nil}
use Prim.Native.Nat.{ℕ, ◌+◌, ◌-◌, ◌*◌, ◌≤◌}
use native.Mathlib.Numerals.{add-one}
use native.Mathlib.Omega.{arith}
use lib.ListN.{length, take, drop, get_or, replicate, length-replicate, length-drop}
use lib.Seq.{take_all}
use borrow.Rule.Slice.PartMut.{put_mid}
use Rattle.rules.specs.Halves.{copy, pack, unpack, output_size, Field as RuleField, over, halves, bytes, out_halves, value}
use Rattle.rules.specs.Rows.{KindWithin}
use Rattle.rules.specs.Lent.{zone_f}
use Rattle.rules.specs.RecordParts.{Fits, converted_bytes, field_bytes, written_bytes}
use Rattle.rules.proofs.Base.AllLaws.{all_imply}
use Rattle.rules.proofs.Halves.PlaceLaws.{over_behind, over_whole}
use Rattle.rules.proofs.Halves.FieldSteps.{written_bytes_step, length_field_bytes, length_written_bytes, out_bytes_lem}
use Rattle.rules.proofs.Base.LentParts.{part_length, part_over, front_over}
use Rattle.rules.proofs.Halves.RecordLaws.{fits_wider}
use Rattle.terms.specs.Meaning.{kind_of, field_of}
use Rattle.terms.specs.declared.Field.{Field}
use Rattle.halves.specs.Promise.{packed_into, unpacked_into}
use Rattle.halves.proofs.PromiseLaws.{packed_whole, unpacked_whole}
use Rattle.rows.specs.Flat.{flat_of, kind_at, field_at, FlatFair, Fielded}
use Rattle.records.specs.Promise.{FieldsWritten, out_bytes, Puts, Covers, ground_of}
use Rattle.rows.proofs.FlatLaws.{fields_many, field_is, output_of_row, fits_at, sizes_at}
use Rattle.rows.proofs.ReadLaws.{kind_copy, kind_pack, kind_unpack, lent_input, part_input, Reads, reads_inside, length_input}
use Rattle.records.proofs.CoverLaws.{grounded}

-- ---- one field

-- what is left in a field's part, by the number of its kind
module _ (k : ℕ) (s d : List ℕ) (sizes : KindWithin (kind_of (kind_at k) (length s) (length d))) where
  module _ (copies : k ≡ 0) (fills : output_size (kind_of (kind_at k) (length s) (length d)) ≡ length d) where
    pub copied_size : (length s ≤ 65536) × (length s ≤ length d)
    copied_size =
        let w : KindWithin (copy (length s)) = rw (kind_copy k copies) at sizes in
        let o : length s ≡ length d = rw (kind_copy k copies) at fills in
        (omega (arith, w.1), omega (arith, o))

    pub copied : over 0 s d ≡ converted_bytes zone_f (kind_of (kind_at k) (length s) (length d)) s
    copied =
        let o : length s ≡ length d = rw (kind_copy k copies) at fills in
        rw (kind_copy k copies) (over_whole s d (omega (arith, o)))

  pub packed : k ≡ 1 → packed_into s d ≡ converted_bytes zone_f (kind_of (kind_at k) (length s) (length d)) s
  packed e =
      let w : KindWithin (pack (length s) (length d)) = rw (kind_pack k e) at sizes in
      rw (kind_pack k e) (packed_whole s d w.0.0 w.0.1 w.1.0 w.1.1)

  pub unpacked : (k ≡ 0 → ⊥) → (k ≡ 1 → ⊥) → unpacked_into s d ≡ converted_bytes zone_f (kind_of (kind_at k) (length s) (length d)) s
  unpacked e g =
      let w : KindWithin (unpack (length s) (length d)) = rw (kind_unpack k e g) at sizes in
      rw (kind_unpack k e g) (unpacked_whole s d w.0.0 w.0.1 w.1.0 w.1.1)

-- the part of the output that is lent for a field
abbrev lent_output : Field → List ℕ → List ℕ
lent_output f out = take (f.t - 1 + f.output - (f.t - 1)) (drop (f.t - 1) out)

-- a field lies inside its records, and its sizes are those of its kind
pub record Lies (f : Field) (r out : List ℕ) : Type 0 where
  pub fits : Fits (length r) (length out) (field_of f)
  pub sizes : KindWithin (field_of f).kind
  pub size : f.output ≡ output_size (field_of f).kind
  pub reads : Reads f r
  pub low : 1 ≤ f.t
  pub inside : f.t - 1 + f.output ≤ length out

lies_in : (f : Field) (r out : List ℕ) → Fits (length r) (length out) (field_of f) → KindWithin (field_of f).kind → f.output ≡ output_size (field_of f).kind → Lies f r out
unfolding field_of
lies_in f r out fits sizes size =
    record {
      fits = fits;
      sizes = sizes;
      size = size;
      reads = reads_inside f r fits (omega arith);
      low = fits.t_low;
      inside = omega (arith, size, fits.t_low, fits.output_high);
    }

-- so does each field of a fair row
pub lies_at : {xs r out : List ℕ} {b : ℕ} {f : Field} (i : ℕ) → Fielded xs (length r) b → length out ≡ b → f ≡ field_at xs i → 5 * i + 5 ≤ length xs → Lies f r out
lies_at {xs} {r} {out} i x e q l =
    subst (λ (g : Field). Lies g r out) (sym q)
    (lies_in (field_at xs i) r out (subst (λ (n : ℕ). Fits (length r) n (field_of (field_at xs i))) (sym e) (fits_at x.fair i l)) (sizes_at x.fair i l) (output_of_row x.fields x.fair.flat i l))

module _ {f : Field} {r out : List ℕ} (lies : Lies f r out) where
  length_out : length (lent_output f out) ≡ f.output
  length_out = part_length (f.t - 1) f.output out lies.inside

  part_kind : kind_of f.kind (length (lent_input f r)) (length (lent_output f out)) ≡ (field_of f).kind
  unfolding field_of
  part_kind = ap₂ (kind_of f.kind) (length_input f r lies.reads) length_out

  -- what is asked of the parts
  pub part_within : KindWithin (kind_of f.kind (length (lent_input f r)) (length (lent_output f out)))
  part_within = subst KindWithin (sym part_kind) lies.sizes

  pub part_filled : output_size (kind_of f.kind (length (lent_input f r)) (length (lent_output f out))) ≡ length (lent_output f out)
  part_filled = ap output_size part_kind ∙ sym lies.size ∙ sym length_out

  -- what comes back stands in the field's place
  pub part_put : {ys : List ℕ} → ys ≡ converted_bytes zone_f (kind_of f.kind (length (lent_input f r)) (length (lent_output f out))) (lent_input f r)
      → put_mid (f.t - 1) (f.t - 1 + f.output - (f.t - 1)) out ys ≡ over (f.t - 1) (field_bytes zone_f (field_of f) r) out
  unfolding field_bytes
  part_put {ys} e =
      let is : ys ≡ field_bytes zone_f (field_of f) r = e ∙ ap₂ (converted_bytes zone_f) part_kind (part_input f r) in
      let many : length ys ≡ f.output = ap length is ∙ length_field_bytes zone_f (length r) (length out) r (omega arith) (field_of f) lies.fits ∙ sym lies.size in
      part_over (f.t - 1) f.output out ys many ∙ ap (λ (x : List ℕ). over (f.t - 1) x out) is

-- ---- field by field

-- new is old with the fields before place i over it
pub record Writing (xs r old new : List ℕ) (i : ℕ) : Type 0 where
  pub is : (fs : List RuleField) → xs ≡ flat_of fs → new ≡ written_bytes zone_f (take i fs) r old
  pub same : length new ≡ length old

pub write_start : (xs r old : List ℕ) → Writing xs r old old 0
write_start xs r old = record { is = λ fs flat. refl; same = refl }

module _ (xs r old new : List ℕ) (i : ℕ) (w : Writing xs r old new i) where
  pub write_more : 5 * i + 5 ≤ length xs → (f : Field) → f ≡ field_at xs i → (next : List ℕ) → next ≡ over (f.t - 1) (field_bytes zone_f (field_of f) r) new → length next ≡ length new
      → Writing xs r old next (i + 1)
  unfolding field_of
  write_more l f q next e long =
      record {
        is =
            λ fs flat.
            e
            ∙ ap (λ (g : Field). over (g.t - 1) (field_bytes zone_f (field_of g) r) new) q
            ∙ ap (over ((field_at xs i).t - 1) (field_bytes zone_f (field_of (field_at xs i)) r)) (w.is fs flat)
            ∙ step fs flat;
        same = long ∙ w.same;
      }
    where
      step : (fs : List RuleField) → xs ≡ flat_of fs
          → over ((field_at xs i).t - 1) (field_bytes zone_f (field_of (field_at xs i)) r) (written_bytes zone_f (take i fs) r old) ≡ written_bytes zone_f (take (i + 1) fs) r old
      step fs flat =
          let d = field_of (field_at xs i) in
          let here : d ≡ get_or fs i d = field_is fs flat i l d in
          ap (λ (f : RuleField). over (f.t - 1) (field_bytes zone_f f r) (written_bytes zone_f (take i fs) r old)) here
          ∙ sym (written_bytes_step zone_f r d fs i (omega (arith, fields_many fs flat)) old)
          ∙ ap (λ (k : ℕ). written_bytes zone_f (take k fs) r old) (sym (add-one i))

  pub write_end : length xs ≤ 5 * i + 4 → FieldsWritten xs r old new
  unfolding FieldsWritten
  write_end l fs flat =
      let all : length fs ≤ i = omega (arith, fields_many fs flat) in
      w.is fs flat ∙ ap (λ (gs : List RuleField). written_bytes zone_f gs r old) (take_all i fs all)

-- ---- the record

-- records with more room
pub fields_wider : {xs : List ℕ} {a b : ℕ} (a' b' : ℕ) → a ≤ a' → b ≤ b' → Fielded xs a b → Fielded xs a' b'
fields_wider a' b' h k x =
    record { fields = x.fields; fair = record { flat = x.fair.flat; fits = all_imply (fits_wider a' b' h k) x.fair.fits; sizes = x.fair.sizes } }

-- with CV the tail has room
pub tail_room : (carries : Bool) (width k l : ℕ) → carries ≡ true → width + cond carries k 0 ≤ l → width + k ≤ l
tail_room carries width k l e h = subst (λ (c : Bool). width + cond c k 0 ≤ l) e h

-- B's n bytes of hex 40, the fields over them, and what lay behind them
module _ (xs : List ℕ) (n width : ℕ) (covered : Bool) (r old base new : List ℕ) (long : n ≤ length r) (room : width ≤ length old) (told : Covers xs width covered) (laid : base ≡ ground_of width covered old) (w : FieldsWritten xs r base new) where
  length_fixed : (fs : List RuleField) → FlatFair xs fs n width → length (written_bytes zone_f fs r (replicate width 0x40)) ≡ width
  length_fixed fs fair = length_written_bytes zone_f n width r long fs (replicate width 0x40) fair.fits (length-replicate {A = ℕ} width 0x40)

  put_fixed : (fs : List RuleField) → FlatFair xs fs n width → new ≡ over 0 (bytes (out_halves zone_f value width fs (halves (take n r)))) old
  unfolding FieldsWritten
  put_fixed fs fair =
      w fs fair.flat
      ∙ ap (written_bytes zone_f fs r) laid
      ∙ grounded xs n width covered r old long room told fs fair
      ∙ front_over width old (written_bytes zone_f fs r (replicate width 0x40)) (length_fixed fs fair)
      ∙ ap (λ (x : List ℕ). over 0 x old) (sym (out_bytes_lem zone_f n width r long fs fair.fits))

  -- without CV
  pub put_alone : Puts xs n width false r old new
  unfolding Puts out_bytes
  put_alone fs fair = put_fixed fs fair ∙ ap (λ (x : List ℕ). over 0 x old) (sym (append-nil (bytes (out_halves zone_f value width fs (halves (take n r))))))

  -- with CV the tail stands behind
  pub put_tail : (s part tail : List ℕ) → s ≡ drop n r → length part ≡ length r - n → tail ≡ over 0 s part → width + (length r - n) ≤ length old
      → Puts xs n width true r old (put_mid width (width + (length r - n) - width) new tail)
  unfolding Puts out_bytes
  put_tail s part tail e k q more fs fair =
      let fixed : List ℕ = bytes (out_halves zone_f value width fs (halves (take n r))) in
      let size : length fixed ≡ width = ap length (out_bytes_lem zone_f n width r long fs fair.fits) ∙ length_fixed fs fair in
      let many : length s ≡ length r - n = ap length e ∙ length-drop n r in
      let is : tail ≡ drop n r = q ∙ over_whole s part (omega arith) ∙ e in
      part_over width (length r - n) new tail (ap length is ∙ length-drop n r)
      ∙ ap₂ (λ (x y : List ℕ). over width x y) is (put_fixed fs fair)
      ∙ over_behind 0 width fixed (drop n r) old (omega arith) (omega (arith, length-drop n r))
