-- The promises about writing one record: what is written is what the rules say of an accepted plan, whatever it is written over, and each promise allows one
-- outcome only. It holds since the numbers say which fields they are of.
use mathlib.Core.Path.{◌≡◌, refl, ap, ap₂, sym, ◌∙◌}
use mathlib.Core.Bool.{Bool, true, false, cond}
use mathlib.Core.List.{List, []}
use Prim.Native.Nat.{ℕ, ◌+◌, ◌-◌, ◌≤◌}
use lib.ListN.{length, take, drop, replicate, length-append, length-drop, length-replicate}
use borrow.Author.Tests.{leb-true}
use Rattle.rules.specs.Halves.{Field, over, halves, bytes, out_halves, value}
use Rattle.rules.specs.Plan.{Plan, record_length}
use Rattle.rules.specs.Output.{selected}
use Rattle.rules.specs.Lent.{zone_f}
use Rattle.rules.specs.RecordParts.{written_bytes}
use Rattle.rules.proofs.Halves.FieldSteps.{out_bytes_lem, length_written_bytes}
use Rattle.rows.specs.Flat.{flat_of, FlatFair, Fielded}
use Rattle.records.specs.Promise.{FieldsWritten, reach_of, Covers, out_bytes, Puts}
use Rattle.records.proofs.CoverLaws.{covered_same}

-- ---- fields that cover the output

-- where the fields cover the output, it is all the same what they are written over
pub covers_all : (xs : List ℕ) (n width : ℕ) (r x y : List ℕ) → n ≤ length r → Covers xs width true → (fs : List Field) → FlatFair xs fs n width → length x ≡ width → length y ≡ width
    → written_bytes zone_f fs r x ≡ written_bytes zone_f fs r y
unfolding Covers
covers_all xs n width r x y long h fs fair lx ly = covered_same n width r long fs x y fair.fits lx ly (leb-true width (reach_of 0 fs) (sym (h fs fair.flat)))

-- ---- what the rules say

pub selected_of : (p : Plan) (r : List ℕ) → p.zone ≡ zone_f → out_bytes (record_length p.input) (record_length p.output) p.fields p.carries r ≡ selected p r
unfolding out_bytes selected
selected_of p r z = rw z

pub puts_of : (p : Plan) (xs r old new : List ℕ) → p.zone ≡ zone_f → FlatFair xs p.fields (record_length p.input) (record_length p.output)
    → Puts xs (record_length p.input) (record_length p.output) p.carries r old new → new ≡ over 0 (selected p r) old
unfolding Puts
puts_of p xs r old new z fair h = h p.fields fair ∙ ap (λ (v : List ℕ). over 0 v old) (selected_of p r z)

-- B's n bytes, and with CV the data past A's n
pub bytes_size : {xs : List ℕ} {n width : ℕ} {fs : List Field} → FlatFair xs fs n width → (c : Bool) (r : List ℕ) → n ≤ length r → length (out_bytes n width fs c r) ≡ width + cond c (length r - n) 0
unfolding out_bytes
bytes_size {n = n} {width} {fs} fair c r long =
    length-append (bytes (out_halves zone_f value width fs (halves (take n r)))) (cond {A = List ℕ} c (drop n r) []) ∙ ap₂ (λ (i j : ℕ). i + j) size (tail c)
  where
    size : length (bytes (out_halves zone_f value width fs (halves (take n r)))) ≡ width
    size =
        ap length (out_bytes_lem zone_f n width r long fs fair.fits)
        ∙ length_written_bytes zone_f n width r long fs (replicate width 0x40) fair.fits (length-replicate {A = ℕ} width 0x40)

    tail : (c : Bool) → length (cond {A = List ℕ} c (drop n r) []) ≡ cond {A = ℕ} c (length r - n) 0
    tail true = length-drop n r
    tail false = refl

-- ---- one outcome only

pub covers_only_one : (fs : List Field) (width : ℕ) (x y : Bool) → Covers (flat_of fs) width x → Covers (flat_of fs) width y → x ≡ y
unfolding Covers
covers_only_one fs width x y h g = h fs refl ∙ sym (g fs refl)

pub put_only_one : (xs : List ℕ) (n width : ℕ) (carries : Bool) (r old : List ℕ) → Fielded xs n width → (x y : List ℕ) → Puts xs n width carries r old x → Puts xs n width carries r old y → x ≡ y
unfolding Puts
put_only_one xs n width carries r old k x y h g = h k.fields k.fair ∙ sym (g k.fields k.fair)

pub fields_only_one : (xs : List ℕ) (n width : ℕ) (r old : List ℕ) → Fielded xs n width → (x y : List ℕ) → FieldsWritten xs r old x → FieldsWritten xs r old y → x ≡ y
unfolding FieldsWritten
fields_only_one xs n width r old k x y h g = h k.fields k.fair.flat ∙ sym (g k.fields k.fair.flat)
