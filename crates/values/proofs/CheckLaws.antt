-- Whether a record is permitted: of a field's input byte after byte, and of the record field after field. It holds since a kind asks the same of each
-- byte but the last, and since a record is permitted exactly if each field may have its input.
use mathlib.Core.Path.{◌≡◌, refl, ap, sym, subst, ◌∙◌}
use mathlib.Core.Bool.{Bool, true, false, not, ◌&&◌, false≢true}
use mathlib.Core.Logic.{inl, inr}
use mathlib.Core.List.{List}
use Prim.Native.Nat.{ℕ, zero, suc, ◌+◌, ◌-◌, ◌*◌, ◌/◌, ◌%◌, ◌≤◌, ◌<◌}
use native.Mathlib.Omega.{arith}
use native.Mathlib.Decide.{ℕ_discrete}
use native.Mathlib.Numerals.{add-one}
use lib.Dec.{eqb}
use lib.ListN.{length, drop, get_or}
use borrow.Author.Tests.{eq-eqb, ne_eqb}
use Rattle.rules.specs.Base.{every}
use Rattle.rules.specs.Places.{All, Byte}
use Rattle.rules.specs.Halves.{halves, Kind as RuleKind, copy, pack, unpack, input_size, Field as RuleField}
use Rattle.rules.specs.Permitted.{digit, sign, kind_allows}
use Rattle.rules.specs.Output.{may_be}
use Rattle.rules.specs.Lent.{zone_f}
use Rattle.rules.specs.RecordParts.{field_input}
use Rattle.rules.proofs.Base.AllLaws.{all_take, all_drop}
use Rattle.rules.proofs.Halves.FieldTests.{pack_byte_test, unpack_byte_test, bytes_step, bytes_end, copy_permitted, fields_tested}
use Rattle.terms.specs.Meaning.{kind_of, field_of}
use Rattle.terms.specs.declared.Kind.{Kind}
use Rattle.terms.specs.declared.Kind.TheVariants.{Copy, Pack, Unpack}
use Rattle.terms.specs.declared.Field.{Field}
use Rattle.rows.specs.Flat.{flat_of, kind_at, field_at}
use Rattle.values.specs.Promise.{Passes, Permits, takes_any, FieldsAsk}
use Rattle.rows.proofs.ReadLaws.{kind_of_row, lent_input, part_input, Reads, length_input}

-- ---- byte after byte

-- both halves of byte i may be these
abbrev pub byte_may : RuleKind → List ℕ → ℕ → Bool
byte_may k s i = kind_allows zone_f k (2 * i) (get_or s i 0 / 16) && kind_allows zone_f k (2 * i + 1) (get_or s i 0 % 16)

-- the bytes before place i pass: what is left to ask is of the others
abbrev pub BytesLeft : RuleKind → List ℕ → ℕ → Type 0
BytesLeft k s i = may_be (kind_allows zone_f k) 0 (halves s) ≡ may_be (kind_allows zone_f k) (2 * i) (halves (drop i s))

module _ (k : RuleKind) (s : List ℕ) (i : ℕ) (known : BytesLeft k s i) (l : i < length s) where
  pub bytes_more : byte_may k s i ≡ true → BytesLeft k s (i + 1)
  bytes_more t = known ∙ bytes_step (kind_allows zone_f k) s i l ∙ rw t

  pub bytes_fail : byte_may k s i ≡ false → may_be (kind_allows zone_f k) 0 (halves s) ≡ false
  bytes_fail t = known ∙ bytes_step (kind_allows zone_f k) s i l ∙ rw t

module _ (k : RuleKind) (s : List ℕ) where
  left_at : (i : ℕ) → i ≤ length s → ((j : ℕ) → j < i → byte_may k s j ≡ true) → BytesLeft k s i
  left_at zero l h = refl
  left_at (suc i) l h =
      let here : i < suc i = omega arith in
      subst (BytesLeft k s) (add-one i) (bytes_more k s i (left_at i (omega arith) (λ j b. h j (omega arith))) (omega arith) (h i here))

  all_may : ((j : ℕ) → j < length s → byte_may k s j ≡ true) → may_be (kind_allows zone_f k) 0 (halves s) ≡ true
  all_may h = left_at (length s) (omega arith) h ∙ bytes_end (kind_allows zone_f k) s (length s) (omega arith)

  -- where some byte may not be, the whole may not: the bytes before it pass, or one of them fails
  one_from : (i d j : ℕ) → i < length s → byte_may k s i ≡ false → j + d ≡ i → BytesLeft k s j → may_be (kind_allows zone_f k) 0 (halves s) ≡ false
  one_from i zero j l t e known = let here : j ≡ i = omega arith in bytes_fail k s j known (omega arith) (ap (byte_may k s) here ∙ t)
  one_from i (suc d) j l t e known = go (byte_may k s j) refl (one_from i d (j + 1) l t (omega arith))
    where
      go : (u : Bool) → byte_may k s j ≡ u → (BytesLeft k s (j + 1) → may_be (kind_allows zone_f k) 0 (halves s) ≡ false) → may_be (kind_allows zone_f k) 0 (halves s) ≡ false
      go true v next = next (bytes_more k s j known (omega arith) v)
      go false v next = bytes_fail k s j known (omega arith) v

  one_may_not : (i : ℕ) → i < length s → byte_may k s i ≡ false → may_be (kind_allows zone_f k) 0 (halves s) ≡ false
  one_may_not i l t = one_from i i 0 l t (omega arith) refl

-- a kind asks one test of each byte but the last, and another of the last
module _ (s : List ℕ) (some : 1 ≤ length s) (small : (i : ℕ) → get_or s i 0 < 256) (k : RuleKind) (p q : ℕ → Bool)
    (inner : (i : ℕ) → i + 1 < length s → byte_may k s i ≡ p (get_or s i 0)) (last : (i : ℕ) → i + 1 ≡ length s → byte_may k s i ≡ q (get_or s i 0))
    {each end : ℕ → Bool → Type 0} (asked : (b : ℕ) (r : Bool) → b < 256 → each b r → r ≡ p b) (ended : (b : ℕ) (r : Bool) → b < 256 → end b r → r ≡ q b) where
  inner_may : (i : ℕ) (r : Bool) → i + 1 < length s → each (get_or s i 0) r → byte_may k s i ≡ r
  inner_may i r l h = inner i l ∙ sym (asked _ r (small i) h)

  last_may : (i : ℕ) (r : Bool) → i + 1 ≡ length s → end (get_or s i 0) r → byte_may k s i ≡ r
  last_may i r e h = last i e ∙ sym (ended _ r (small i) h)

  passed : (r : Bool) → Passes each end s r → r ≡ may_be (kind_allows zone_f k) 0 (halves s)
  unfolding Passes
  passed true h =
      sym (all_may k s (λ i l. elim (ℕ_discrete (i + 1) (length s)) [
        | yes e ↦ last_may i true e (subst (λ (n : ℕ). end (get_or s n 0) true) (let z : length s - 1 ≡ i = omega arith in z) h.1)
        | no n ↦ inner_may i true (omega arith) (h.0 i (omega arith))
      ]))
  passed false (inl h) = sym (one_may_not k s h.0 (omega (arith, h.1)) (inner_may h.0 false h.1 h.2))
  passed false (inr h) = sym (one_may_not k s (length s - 1) (omega arith) (last_may (length s - 1) false (omega arith) h))

module _ (s : List ℕ) (some : 1 ≤ length s) (small : (i : ℕ) → get_or s i 0 < 256) (m : ℕ) {each end : ℕ → Bool → Type 0} (r : Bool) (passes : Passes each end s r) where
  -- F before a digit, in the last byte a sign before it
  pub packed_may : ((b : ℕ) (t : Bool) → b < 256 → each b t → t ≡ (eqb (b / 16) zone_f && digit (b % 16))) → ((b : ℕ) (t : Bool) → b < 256 → end b t → t ≡ (sign (b / 16) && digit (b % 16)))
      → r ≡ may_be (kind_allows zone_f (pack (length s) m)) 0 (halves s)
  packed_may asked ended =
      passed s some small (pack (length s) m) (λ b. eqb (b / 16) zone_f && digit (b % 16)) (λ b. sign (b / 16) && digit (b % 16))
      (λ i l. pack_byte_test zone_f (length s) m i (get_or s i 0) (omega arith) ∙ rw (ne_eqb (i + 1) (length s) (λ e. omega arith)))
      (λ i e. pack_byte_test zone_f (length s) m i (get_or s i 0) (omega arith) ∙ rw (eq-eqb (i + 1) (length s) e))
      asked ended r passes

  -- two digits, in the last byte a digit before a sign
  pub unpacked_may : ((b : ℕ) (t : Bool) → b < 256 → each b t → t ≡ (digit (b / 16) && digit (b % 16))) → ((b : ℕ) (t : Bool) → b < 256 → end b t → t ≡ (digit (b / 16) && sign (b % 16)))
      → r ≡ may_be (kind_allows zone_f (unpack (length s) m)) 0 (halves s)
  unpacked_may asked ended =
      passed s some small (unpack (length s) m) (λ b. digit (b / 16) && digit (b % 16)) (λ b. digit (b / 16) && sign (b % 16))
      (λ i l. unpack_byte_test zone_f (length s) m i (get_or s i 0) (omega arith) ∙ rw (ne_eqb (i + 1) (length s) (λ e. omega arith)))
      (λ i e. unpack_byte_test zone_f (length s) m i (get_or s i 0) (omega arith) ∙ rw (eq-eqb (i + 1) (length s) e))
      asked ended r passes

-- ---- what a field reads

-- a field may read this record
abbrev pub may_read : List ℕ → RuleField → Bool
may_read r f = may_be (kind_allows zone_f f.kind) 0 (halves (field_input f r))

-- what is asked of the part that is lent is asked of the field's input
pub part_read : (xs r : List ℕ) (i : ℕ) (f : Field) → f ≡ field_at xs i → Reads f r
    → may_be (kind_allows zone_f (kind_of f.kind (length (lent_input f r)) f.output)) 0 (halves (lent_input f r)) ≡ may_read r (field_of (field_at xs i))
unfolding field_of
part_read xs r i f e h =
    ap (λ (n : ℕ). may_be (kind_allows zone_f (kind_of f.kind n f.output)) 0 (halves (lent_input f r))) (length_input f r h)
    ∙ ap (λ (x : List ℕ). may_be (kind_allows zone_f (field_of f).kind) 0 (halves x)) (part_input f r)
    ∙ ap (λ (g : Field). may_read r (field_of g)) e

-- the same by the number of the row, which names the field's kind
pub part_read_row : (xs r : List ℕ) (i : ℕ) (f : Field) → f ≡ field_at xs i → Reads f r
    → may_be (kind_allows zone_f (kind_of (kind_at (get_or xs (5 * i) 0)) (length (lent_input f r)) f.output)) 0 (halves (lent_input f r)) ≡ may_read r (field_of (field_at xs i))
part_read_row xs r i f e h =
    ap (λ (q : Kind). may_be (kind_allows zone_f (kind_of q (length (lent_input f r)) f.output)) 0 (halves (lent_input f r))) (sym (kind_of_row xs i) ∙ ap (λ (g : Field). g.kind) (sym e))
    ∙ part_read xs r i f e h

-- a field that takes any halves may read any record
pub any_read : (r : List ℕ) → All Byte r → (f : RuleField) → takes_any f.kind ≡ true → may_read r f ≡ true
unfolding field_input
any_read r small f t = go f.kind refl
  where
    go : (k : RuleKind) → f.kind ≡ k → may_read r f ≡ true
    go (copy n) e =
        ap (λ (k : RuleKind). may_be (kind_allows zone_f k) 0 (halves (field_input f r))) e
        ∙ copy_permitted zone_f n (field_input f r) (all_take (input_size f.kind) (all_drop (f.r - 1) small))
    go (pack n m) e = absurd (false≢true (rw e at t))
    go (unpack n m) e = absurd (false≢true (rw e at t))

-- ---- the record

module _ (xs r : List ℕ) (small : All Byte r) where
  pub permits_not : ((fs : List RuleField) → xs ≡ flat_of fs → every (may_read r) fs ≡ false) → Permits xs r false
  unfolding Permits
  permits_not h fs a b fair long = sym (fields_tested zone_f a b r long small fs fair.fits ∙ h fs fair.flat)

  pub permits_all : ((fs : List RuleField) → xs ≡ flat_of fs → every (may_read r) fs ≡ true) → Permits xs r true
  unfolding Permits
  permits_all h fs a b fair long = sym (fields_tested zone_f a b r long small fs fair.fits ∙ h fs fair.flat)

-- ---- whether a field asks anything

-- only a copy asks nothing
pub takes_copy : (f : Field) → f.kind ≡ Copy → takes_any (field_of f).kind ≡ true
unfolding field_of
takes_copy f e = rw e

pub takes_other : (f : Field) → (f.kind ≡ Copy → ⊥) → takes_any (field_of f).kind ≡ false
unfolding field_of
takes_other f n = go f.kind n
  where
    go : (k : Kind) → (k ≡ Copy → ⊥) → takes_any (kind_of k f.input f.output) ≡ false
    go Copy m = absurd (m refl)
    go Pack m = refl
    go Unpack m = refl

pub asks_some : (xs : List ℕ) → ((fs : List RuleField) → xs ≡ flat_of fs → every (λ f. takes_any f.kind) fs ≡ false) → FieldsAsk xs true
unfolding FieldsAsk
asks_some xs h fs flat = sym (ap not (h fs flat))

pub asks_none : (xs : List ℕ) → ((fs : List RuleField) → xs ≡ flat_of fs → every (λ f. takes_any f.kind) fs ≡ true) → FieldsAsk xs false
unfolding FieldsAsk
asks_none xs h fs flat = sym (ap not (h fs flat))
