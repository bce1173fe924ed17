-- A field of a row is inside its records exactly if it is inside its own part on the card, and then it counts through: by the two parts. Where it runs past
-- its key, it stands past every record.
use mathlib.Core.Path.{◌≡◌, refl, ap, sym, ◌∙◌}
use mathlib.Core.Bool.{Bool, true, false, cond, true≢false}
use Prim.Native.Nat.{ℕ, ◌+◌, ◌-◌, ◌≤◌}
use native.Mathlib.Omega.{arith}
use lib.Dec.{leb}
use lib.ListN.{length, length-map}
use borrow.Author.Tests.{leb-true, le-leb, lt-leb}
use Rattle.rules.specs.Base.{joined}
use Rattle.rules.specs.Asked.{fields_of, Asked as RuleAsked}
use Rattle.rules.specs.Grammar.{Format, Size, Input, plain, keyed, Part, in_data, in_key, CardField}
use Rattle.rules.specs.Halves.{input_size, Field}
use Rattle.rules.specs.Plan.{record_length, joined_size, key_length, part_length, bytes_before, through, is_keyed, is_key, inside, inside_part}
use Rattle.rules.specs.Rows.{InputWithin, FieldWithin}
use Rattle.rules.proofs.Base.Tests.{and_left}
use Rattle.rules.proofs.Halves.RecordLaws.{sizes_low}
use Rattle.rules.proofs.Keys.KeyLaws.{Named}
use Rattle.terms.specs.Meaning.{laid_at, laid, laid_fields, Means}
use Rattle.terms.specs.declared.Asked.{Asked}

-- there are as many of them as the struct counts
pub many_laid : (x : Asked) (a : RuleAsked) → Means x a → x.count ≡ length (laid_fields a)
unfolding laid_fields
many_laid x a m = m.count ∙ sym (length-map (fields_of (joined a.cards)) (laid (key_length a.utility.input)))

no_part : in_key ≡ in_data → ⊥
no_part e = true≢false (ap is_key e)

-- two comparisons that hold together
same : (a b c d : ℕ) → (a ≤ b → c ≤ d) → (c ≤ d → a ≤ b) → leb a b ≡ leb c d
same a b c d h k = go (leb a b) (leb c d) refl refl
  where
    go : (t u : Bool) → leb a b ≡ t → leb c d ≡ u → leb a b ≡ leb c d
    go true u t v = t ∙ sym (le-leb c d (h (leb-true a b t)))
    go false true t v = absurd (true≢false (sym (le-leb a b (k (leb-true c d v))) ∙ t))
    go false false t v = t ∙ sym v

module _ (f : Format) (r s : ℕ) (some : 1 ≤ r) (long : 1 ≤ s) where
  -- the end of what is read
  laid_end : (i : Input) (q : Part) → InputWithin f i → (is_keyed i ≡ false → q ≡ in_data)
      → leb (laid_at (key_length i) q r s + s - 1) (record_length (joined_size i)) ≡ leb (r + s - 1) (part_length i q)
  laid_end (plain z) in_data w n = let e : 0 + r ≡ r = omega arith in rw e
  laid_end (plain z) in_key w n = absurd (no_part (n refl))
  laid_end (keyed k d) in_data w n = same (k + r + s - 1) (k + d) (r + s - 1) d (λ l. omega arith) (λ l. omega arith)
  laid_end (keyed k d) in_key w n = go (leb (r + s - 1) k) refl
    where
      go : (t : Bool) → leb (r + s - 1) k ≡ t → leb (cond (leb (r + s - 1) k) r 8192 + s - 1) (k + d) ≡ leb (r + s - 1) k
      go true t = rw t (le-leb (r + s - 1) (k + d) (let l = leb-true (r + s - 1) k t in omega arith))
      go false t = rw t (lt-leb (8192 + s - 1) (k + d) (omega (arith, w.2)))

  -- and where it begins
  laid_place : (i : Input) (q : Part) → (is_keyed i ≡ false → q ≡ in_data) → leb (r + s - 1) (part_length i q) ≡ true
      → laid_at (key_length i) q r s ≡ bytes_before (key_length i) q + r
  laid_place (plain z) in_data n e = refl
  laid_place (plain z) in_key n e = absurd (no_part (n refl))
  laid_place (keyed k d) in_data n e = refl
  laid_place (keyed k d) in_key n e = rw e (omega arith)

-- it is a place at all
module _ (r s : ℕ) (some : 1 ≤ r) where
  laid_low : (k : ℕ) (q : Part) → k ≤ 4096 → r ≤ 4096 → (1 ≤ laid_at k q r s) × (laid_at k q r s ≤ 8192)
  laid_low k in_data h l = (omega arith, omega arith)
  laid_low k in_key h l = go (leb (r + s - 1) k)
    where
      go : (t : Bool) → (1 ≤ cond t r 8192) × (cond t r 8192 ≤ 8192)
      go true = (omega arith, omega arith)
      go false = (omega arith, omega arith)

module _ (f : Format) (i : Input) (b : Size) (x : CardField) (w : InputWithin f i) (l : FieldWithin x.field) (n : Named i x) where
  low : 1 ≤ input_size x.field.kind
  low = (sizes_low x.field.kind l.kind).0

  pub inside_laid : inside (record_length (joined_size i)) (record_length b) (laid (key_length i) x) ≡ inside_part i b x
  unfolding inside inside_part laid
  inside_laid = rw (laid_end f x.field.r (input_size x.field.kind) l.r.0 low i x.part w n)

  pub laid_through : inside_part i b x ≡ true → laid (key_length i) x ≡ through (key_length i) x
  unfolding inside inside_part laid
  laid_through e =
      ap (λ (r : ℕ). record { r = r; kind = x.field.kind; t = x.field.t })
      (laid_place f x.field.r (input_size x.field.kind) l.r.0 low i x.part n
      (and_left (leb (x.field.r + input_size x.field.kind - 1) (part_length i x.part)) _ e))

-- a field of a row, whatever it is refused for
pub record Laid (f : Field) : Type 0 where
  pub low : 1 ≤ f.r
  pub high : f.r ≤ 8192

pub laid_within : (k : ℕ) (x : CardField) → k ≤ 4096 → FieldWithin x.field → Laid (laid k x)
unfolding laid
laid_within k x h l =
    let e = laid_low x.field.r (input_size x.field.kind) l.r.0 k x.part h l.r.1 in
    record { low = e.0; high = e.1 }
