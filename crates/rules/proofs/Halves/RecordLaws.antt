-- Of an accepted plan: its fields lie inside its records, its sizes are of the shapes that its format asks for, and an output record is B's
-- n bytes and, with CV, the tail of its input record. It holds since no row of the table applies.
use mathlib.Core.Path.{◌≡◌, refl, ap, sym, ◌∙◌}
use mathlib.Core.Bool.{Bool, true, false, cond, true≢false}
use mathlib.Core.List.{List, [], ◌++◌}
use Prim.Native.Nat.{ℕ, ◌+◌, ◌-◌, ◌*◌, ◌%◌, ◌≤◌, ◌<◌}
use native.Mathlib.Nat.{mod-eq_of_lt}
use native.Mathlib.Omega.{arith}
use lib.Dec.{leb}
use lib.ListN.{length, take, drop, length-append, length-take, length-drop}
use borrow.Author.Tests.{leb-true, leb-false}
use Rattle.rules.specs.Base.{pairs}
use Rattle.rules.specs.Places.{All, no_more, Byte, Half}
use Rattle.rules.specs.Halves.{halves, Kind, copy, pack, unpack, input_size, output_size, Field, out_halves, value}
use Rattle.rules.specs.Grammar.{Mode, Format, ff, fv, fu, fsp, Size, two}
use Rattle.rules.specs.Plan.{Plan, selects, record_length, block_length}
use Rattle.rules.specs.Output.{selected, out_record}
use Rattle.rules.specs.Rows.{KindWithin, FieldWithin, Inside, SizeWithin, IsTwo, two_numbers, Required, Within}
use Rattle.rules.specs.Accepted.{Accepted}
use Rattle.rules.specs.RecordParts.{Fits}
use Rattle.rules.proofs.Base.AllLaws.{all_append, all_take, all_drop, all_both}
use Rattle.rules.proofs.Halves.SizeLaws.{length_halves, length_pairs, halves_small, pairs_small, all_out_halves, length_out_halves}

-- ---- fields inside records

-- the two sizes of a field within its limits
pub sizes_within : (c : Kind) → KindWithin c → Within 1 4096 (input_size c) × Within 1 4096 (output_size c)
sizes_within (copy s) w = omega arith
sizes_within (pack n m) w = omega arith
sizes_within (unpack n m) w = omega arith

pub sizes_low : (c : Kind) → KindWithin c → (1 ≤ input_size c) × (1 ≤ output_size c)
sizes_low c w = let s = sizes_within c w in (s.0.0, s.1.0)

fits_one : (a b : ℕ) (f : Field) → FieldWithin f → Inside a b f → Fits a b f
fits_one a b f w i =
    let low = sizes_low f.kind w.kind in
    record {
      r_low = w.r.0;
      t_low = w.t.0;
      input_low = low.0;
      output_low = low.1;
      input_high = omega (arith, i.input);
      output_high = omega (arith, i.output);
    }

-- a field inside records is inside longer ones
pub fits_wider : {a b : ℕ} (a' b' : ℕ) → a ≤ a' → b ≤ b' → (f : Field) → Fits a b f → Fits a' b' f
fits_wider a' b' h k f w =
    record {
      r_low = w.r_low;
      t_low = w.t_low;
      input_low = w.input_low;
      output_low = w.output_low;
      input_high = omega (arith, w.input_high);
      output_high = omega (arith, w.output_high);
    }

pub fits_of : (p : Plan) → Accepted p → All (Fits (record_length p.input) (record_length p.output)) p.fields
fits_of p ok = all_both (fits_one _ _) ok.limits ok.insides

-- ---- the sizes

-- with TF and TRF: two numbers each, and room for a record
pub data Shape : Format → Size → Size → Type 0 where
  fixed : {n m n' m' : ℕ} → n ≤ m → n' ≤ m' → Shape ff (two n m) (two n' m')
  variable : {n m n' m' : ℕ} → n + 8 ≤ m → n' + 8 ≤ m' → Shape fv (two n m) (two n' m')

-- a multiple is no less
pub whole_least : (n m : ℕ) → 1 ≤ m → m % n ≡ 0 → n ≤ m
whole_least n m l e = go (leb n m) refl
  where
    go : (t : Bool) → leb n m ≡ t → n ≤ m
    go true t = leb-true n m t
    go false t = absurd (omega (arith, mod-eq_of_lt (leb-false n m t)))

fixed_shape : {a b : Size} → IsTwo a → IsTwo b → SizeWithin ff a → SizeWithin ff b
    → block_length a % record_length a ≡ 0 → block_length b % record_length b ≡ 0 → Shape ff a b
fixed_shape (two_numbers {n = n} {m = m}) (two_numbers {n = n'} {m = m'}) wa wb ea eb = fixed (whole_least n m wa.1.0 ea) (whole_least n' m' wb.1.0 eb)

variable_shape : {a b : Size} → IsTwo a → IsTwo b → record_length a + 8 ≤ block_length a → record_length b + 8 ≤ block_length b → Shape fv a b
variable_shape two_numbers two_numbers la lb = variable la lb

required_shape : (t : Mode) (f : Format) (a b : Size) (first : ℕ) → selects t ≡ true → SizeWithin f a → SizeWithin f b → Required t f a b first → Shape f a b
required_shape t ff a b first sel wa wb q = fixed_shape (q.ff_two refl).0 (q.ff_two refl).1 wa wb (q.ff_multiple refl).0 (q.ff_multiple refl).1
required_shape t fv a b first sel wa wb q =
    let both = q.fv_two refl sel in variable_shape both.0 both.1 (q.fv_room_a refl both.0) (q.fv_room_b refl both.1)
required_shape t fu a b first sel wa wb q = absurd (true≢false (sym sel ∙ ap selects (q.fu_with_tc refl)))
required_shape t fsp a b first sel wa wb q = absurd (true≢false (sym sel ∙ q.fs_with refl))

pub shape_of : (p : Plan) → Accepted p → selects p.mode ≡ true → Shape p.format p.input p.output
shape_of p ok sel = required_shape p.mode p.format p.input p.output p.first sel ok.input ok.output ok.required

-- ---- the output record

-- the halves of the first n bytes of a record
pub length_first : (n : ℕ) (r : List ℕ) → n ≤ length r → length (halves (take n r)) ≡ 2 * n
length_first n r l = simp (length_halves, length-take) (omega arith)

-- B's n bytes, of the halves of A's n bytes
pub length_fixed : (p : Plan) → Accepted p → (xs : List ℕ) → length xs ≡ 2 * record_length p.input
    → length (pairs (out_halves p.zone value (record_length p.output) p.fields xs)) ≡ record_length p.output
length_fixed p ok xs e =
    omega (arith, length_pairs (out_halves p.zone value (record_length p.output) p.fields xs), length_out_halves p.zone value _ _ p.fields xs (fits_of p ok) e)

pub length_out_record : (p : Plan) → Accepted p → selects p.mode ≡ true → (r : List ℕ) → record_length p.input ≤ length r
    → length (out_record p r) ≡ record_length p.output + cond p.carries (length r - record_length p.input) 0
unfolding out_record selected
length_out_record p ok sel r l =
    rw sel (simp length-append (rw (length_fixed p ok _ (length_first _ r l)) (ap (λ (n : ℕ). record_length p.output + n) (carried p.carries))))
  where
    carried : (c : Bool) → length (cond {A = List ℕ} c (drop (record_length p.input) r) []) ≡ cond {A = ℕ} c (length r - record_length p.input) 0
    carried true = length-drop (record_length p.input) r
    carried false = refl

-- the output halves of halves are halves
pub halves_out_halves : (zone : ℕ) → zone < 16 → (n : ℕ) (fs : List Field) {xs : List ℕ} → All Half xs → All Half (out_halves zone value n fs xs)
halves_out_halves zone z n fs a = all_out_halves value (λ c h. h) zone z n fs a

-- the output record of bytes is bytes
pub bytes_out_record : (p : Plan) → p.zone < 16 → {r : List ℕ} → All Byte r → All Byte (out_record p r)
unfolding out_record selected
bytes_out_record p z {r} a = go (selects p.mode) p.carries
  where
    fixed : List ℕ
    fixed = pairs (out_halves p.zone value (record_length p.output) p.fields (halves (take (record_length p.input) r)))

    bytes_fixed : All Byte fixed
    bytes_fixed = pairs_small (halves_out_halves p.zone z (record_length p.output) p.fields (halves_small (all_take (record_length p.input) a)))

    go : (s c : Bool) → All Byte (cond s (fixed ++ cond c (drop (record_length p.input) r) []) r)
    go false c = a
    go true true = all_append bytes_fixed (all_drop (record_length p.input) a)
    go true false = all_append bytes_fixed no_more
