-- The promises, as a caller's loop uses them, and that each allows one outcome only. By what each says of every input.
use mathlib.Core.Path.{◌≡◌, sym, ◌∙◌}
use mathlib.Core.Bool.{Bool}
use mathlib.Core.List.{List, []}
use Prim.Native.Nat.{ℕ, ◌+◌, ◌-◌}
use native.Mathlib.Omega.{arith}
use lib.ListN.{length, take, drop}
use lib.Seq.{slice, length-slice}
use Rattle.rules.specs.Base.{joined}
use Rattle.rules.specs.Plan.{Plan}
use Rattle.rules.specs.Accepted.{Accepted}
use Rattle.rules.proofs.Base.Lists.{slice_part}
use Rattle.pieces.specs.declared.Form.{Form}
use Rattle.std.specs.Prelude.{Ok}
use Rattle.reels.specs.declared.Contents.{Contents}
use Rattle.pieces.specs.Form.{FormIs}
use Rattle.reels.specs.Records.{ReadAs}
use Rattle.reels.proofs.ReelTold.{tells}
use Rattle.walks.specs.declared.Walk.{Walk}
use Rattle.walks.specs.declared.RecordRead.{RecordRead}
use Rattle.std.specs.Prelude.{Option, Some, None}
use Rattle.walks.specs.Walking.{fixed_start}
use Rattle.walks.specs.Promise.{Good, Walks, Begun, Passed, RecordTold, WalkTaken}

-- ---- a reel that was read

-- its blocks are good, and so many, and so are its records
pub good_read : {form : Form} {p : Plan} {s : List ℕ} {all : Contents} → Accepted p → FormIs form p → ReadAs form s (Ok all)
    → (recs : List (List (List ℕ))) × Good p s recs × (all.blocks ≡ length recs) × (all.records ≡ length (joined recs))
good_read {form} {p} {s} {all} ok f x =
    let y = tells form p f s (Ok all) x in
    (y.1.0, record { accepted = ok; reel = y.0; records = y.1.1 }, y.1.2, y.1.3)

-- ---- a turn of a loop over the records, of which `rest` are left

module _ {form : Form} {s : List ℕ} {w : Walk} where
  module _ {read : RecordRead} (x : RecordTold form s w (Some read)) where
    -- the record as it is lent, `&s[start..start + length]`, and its length
    pub lent : take (read.start + read.length - read.start) (drop read.start s) ≡ slice read.start (read.start + read.length) s
    lent = sym (slice_part read.start (read.start + read.length) s (omega arith))

    pub lent_length : length (slice read.start (read.start + read.length) s) ≡ read.length
    lent_length = length-slice read.start (read.start + read.length) s x.lies.ends ∙ (let z : read.start + read.length - read.start ≡ read.length = omega arith in z)

    pub passed : {p : Plan} {rest : List (Bool × List ℕ)} → FormIs form p → Walks p s w rest → Passed p s rest read
    passed {p} {rest} f k = x.says p rest f k

  pub ended : RecordTold form s w None → {p : Plan} {rest : List (Bool × List ℕ)} → FormIs form p → Walks p s w rest → rest ≡ []
  ended x {p} {rest} f k = x.says p rest f k

-- ---- one outcome only

module _ (form : Form) where
  pub begin_only_one : (s : List ℕ) {x y : Walk} → Begun form s x → Begun form s y → x ≡ y
  begin_only_one s a b = a.is ∙ sym b.is

  pub record_only_one : (s : List ℕ) (w : Walk) {x y : Option RecordRead} → RecordTold form s w x → RecordTold form s w y → x ≡ y
  record_only_one s w a b = a.is ∙ sym b.is

  pub taken_only_one : (s : List ℕ) (first : ℕ) {x y : Walk} → WalkTaken form s first x → WalkTaken form s first y → x ≡ y
  taken_only_one s first a b = a.is ∙ sym b.is

  pub start_only_one : (s : List ℕ) (first : ℕ) {x y : ℕ} → x ≡ fixed_start form s first → y ≡ fixed_start form s first → x ≡ y
  start_only_one s first a b = a ∙ sym b

pub rest_only_one : (s : List ℕ) (from : ℕ) {x y : List ℕ} → x ≡ drop from s → y ≡ drop from s → x ≡ y
rest_only_one s from a b = a ∙ sym b
