-- Keys: a field inside its own part lies inside the record of key and data joined, where it counts through, and so everything said of fields that count
-- through is said of it. By the two parts.
use mathlib.Core.Path.{◌≡◌, refl, ap}
use mathlib.Core.Bool.{Bool, true, false, true≢false, false≢true}
use mathlib.Core.List.{List, [], ◌∷◌}
use Prim.Native.Nat.{ℕ, ◌≤◌}
use native.Mathlib.Omega.{arith}
use Rattle.rules.specs.Places.{All, no_more, also, Some, this, that}
use Rattle.rules.specs.Halves.{input_size, Field}
use Rattle.rules.specs.Grammar.{Format, Input, plain, keyed, Part, in_data, in_key, CardField}
use Rattle.rules.specs.Plan.{record_length, joined_size, key_length, part_length, bytes_before, through, is_keyed, is_key, key_fields}
use Rattle.rules.specs.Rows.{SizeWithin, InputWithin, FieldWithin, IsKeyed, with_key, Inside}
use Rattle.rules.proofs.Halves.RecordLaws.{sizes_low}

-- ---- fields taken from the key

pub key_is : (q : Part) → is_key q ≡ true → q ≡ in_key
key_is in_data e = absurd (false≢true e)
key_is in_key e = refl

not_key : (q : Part) → is_key q ≡ false → q ≡ in_data
not_key in_data e = refl
not_key in_key e = absurd (true≢false e)

pub some_key : (fs : List CardField) → (key_fields fs ≡ 0 → ⊥) → Some (λ f. f.part ≡ in_key) fs
some_key [] h = absurd (h refl)
some_key (f ∷ fs) h = go (λ k. some_key fs k) (is_key f.part) refl
  where
    go : ((key_fields fs ≡ 0 → ⊥) → Some (λ f. f.part ≡ in_key) fs) → (t : Bool) → is_key f.part ≡ t → Some (λ f. f.part ≡ in_key) (f ∷ fs)
    go ih true t = this (key_is f.part t)
    go ih false t = that (ih (λ z. h (rw t (omega arith))))

pub key_some : (fs : List CardField) → Some (λ f. f.part ≡ in_key) fs → key_fields fs ≡ 0 → ⊥
key_some (f ∷ fs) (this e) z = let k : is_key f.part ≡ true = ap is_key e in omega (arith, (rw k at z))
key_some (f ∷ fs) (that s) z = key_some fs s (omega arith)
key_some [] x'' z = elim x'' [ ]

pub no_key_field : (fs : List CardField) → key_fields fs ≡ 0 → All (λ f. f.part ≡ in_data) fs
no_key_field [] z = no_more
no_key_field (f ∷ fs) z = go (no_key_field fs (omega arith)) (is_key f.part) refl
  where
    go : All (λ f. f.part ≡ in_data) fs → (t : Bool) → is_key f.part ≡ t → All (λ f. f.part ≡ in_data) (f ∷ fs)
    go ih true t = absurd (omega (arith, (rw t at z)))
    go ih false t = also (not_key f.part t) ih

-- ---- A

pub joined_within : (f : Format) (i : Input) → InputWithin f i → SizeWithin f (joined_size i)
joined_within f (plain s) w = w
joined_within f (keyed k d) w = ((omega (arith, w.0.0), w.2), (omega (arith, w.0.0), omega (arith, w.2)))

pub is_keyed_lem : {i : Input} → IsKeyed i → is_keyed i ≡ true
is_keyed_lem with_key = refl

pub keyed_is : (i : Input) → is_keyed i ≡ true → IsKeyed i
keyed_is (plain s) e = absurd (false≢true e)
keyed_is (keyed k d) e = with_key

-- ---- counting through

-- what holds of a field that counts through
pub record Joined (i : Input) (b : ℕ) (f : Field) : Type 0 where
  pub within : FieldWithin f
  pub inside : Inside (record_length (joined_size i)) b f

-- with keys a field reads what it says; without them all fields read data
abbrev pub Named : Input → CardField → Type 0
Named i f = is_keyed i ≡ false → f.part ≡ in_data

pub through_joined : (f : Format) (i : Input) (b : ℕ) (x : CardField) → InputWithin f i → FieldWithin x.field → Inside (part_length i x.part) b x.field → Named i x
    → Joined i b (through (key_length i) x)
through_joined f (plain s) b x w l a n =
    let z : bytes_before 0 x.part ≡ 0 = ap (bytes_before 0) (n refl) in
    record {
      within = record { r = (omega (arith, z, l.r.0), omega (arith, z, l.r.1)); kind = l.kind; t = l.t };
      inside = record { input = omega (arith, z, a.input); output = a.output };
    }
through_joined f (keyed k d) b x w l a n = go x.part refl
  where
    low : 1 ≤ input_size x.field.kind
    low = (sizes_low x.field.kind l.kind).0

    go : (q : Part) → x.part ≡ q → Joined (keyed k d) b (through k x)
    go in_data e =
        let z : bytes_before k x.part ≡ k = ap (bytes_before k) e in
        let p : part_length (keyed k d) x.part ≡ d = ap (part_length (keyed k d)) e in
        record {
          within = record { r = (omega (arith, z, l.r.0), omega (arith, z, p, a.input, low, w.2)); kind = l.kind; t = l.t };
          inside = record { input = omega (arith, z, p, a.input, low, l.r.0); output = a.output };
        }
    go in_key e =
        let z : bytes_before k x.part ≡ 0 = ap (bytes_before k) e in
        let p : part_length (keyed k d) x.part ≡ k = ap (part_length (keyed k d)) e in
        record {
          within = record { r = (omega (arith, z, l.r.0), omega (arith, z, l.r.1)); kind = l.kind; t = l.t };
          inside = record { input = omega (arith, z, p, a.input); output = a.output };
        }
