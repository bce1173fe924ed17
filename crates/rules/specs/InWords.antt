-- Document 01, "Half bytes" and "Blocks and records", a second time: permitted values, the output record and the output blocks, said by place and
-- without the definitions that compute them. The table of refusals speaks in these words.
use Rattle.std.specs.Prelude.{◌≡◌, ◌⊎◌, true, false, List, [], ◌∷◌, ◌++◌, ℕ, ◌+◌, ◌-◌, ◌*◌, ◌≤◌, ◌<◌, length, drop, get_or}
use Rattle.rules.specs.Base.{joined}
use Rattle.rules.specs.Places.{All, Both, Half}
use Rattle.rules.specs.Grammar.{tc, tf, tr, trf}
use Rattle.rules.specs.Halves.{halves, copy, pack, unpack, output_size, Field, reads_from, writes_from, blank, made, Source, from, constant, value_in}
use Rattle.rules.specs.Plan.{Plan, selects, record_length, block_length}
use Rattle.rules.specs.Output.{cost, total}

-- ---- permitted values

-- 0 to 9, A to F
abbrev pub Digit : ℕ → Type 0
Digit v = v ≤ 9

abbrev pub Sign : ℕ → Type 0
Sign v = (10 ≤ v) × (v ≤ 15)

-- half h is the high half, or the low one, of byte i of what a field reads, i from 0
abbrev pub IsHigh : Field → ℕ → ℕ → Type 0
IsHigh f i h = h ≡ reads_from f + 2 * i

abbrev pub IsLow : Field → ℕ → ℕ → Type 0
IsLow f i h = h ≡ reads_from f + 2 * i + 1

-- what a field asks of half h, where it reads it
pub record Allows (zone : ℕ) (f : Field) (h v : ℕ) : Type 0 where
  -- pack: F in each high half but the last byte's; A to F in that one; 0 to 9 in low halves
  pub pack_high : (n m i : ℕ) → f.kind ≡ pack n m → i + 1 < n → IsHigh f i h → v ≡ zone
  pub pack_last : (n m i : ℕ) → f.kind ≡ pack n m → i + 1 ≡ n → IsHigh f i h → Sign v
  pub pack_low : (n m i : ℕ) → f.kind ≡ pack n m → i < n → IsLow f i h → Digit v
  -- unpack: A to F in the last low half; 0 to 9 in all others
  pub unpack_last : (n m i : ℕ) → f.kind ≡ unpack n m → i + 1 ≡ n → IsLow f i h → Sign v
  pub unpack_low : (n m i : ℕ) → f.kind ≡ unpack n m → i + 1 < n → IsLow f i h → Digit v
  pub unpack_high : (n m i : ℕ) → f.kind ≡ unpack n m → i < n → IsHigh f i h → Digit v
  -- copy: any

-- half h may be v: a half read by several fields must satisfy them all
pub record MayBe (p : Plan) (h v : ℕ) : Type 0 where
  pub half : Half v
  pub fields : All (λ f. Allows p.zone f h v) p.fields

-- ---- the output record

-- a field writes half h
abbrev pub Writes : Field → ℕ → Type 0
Writes f h = (writes_from f ≤ h) × (h < writes_from f + 2 * output_size f.kind)

-- half h of the output is taken from x, where field f writes it. Digits are counted from the right, from 0
pub data FieldTakes (zone : ℕ) (f : Field) (h : ℕ) : Source → Type 0 where
  -- a copy takes the halves as they come
  copied : {s : ℕ} (j : ℕ) → f.kind ≡ copy s → h ≡ writes_from f + j → FieldTakes zone f h (from (reads_from f + j))
  -- pack: the last input byte's halves change places and become the last output byte
  packed_high : {n m i : ℕ} → f.kind ≡ pack n m → h + 2 ≡ writes_from f + 2 * m → i + 1 ≡ reads_from f + 2 * n → FieldTakes zone f h (from i)
  packed_low : {n m i : ℕ} → f.kind ≡ pack n m → h + 1 ≡ writes_from f + 2 * m → i + 2 ≡ reads_from f + 2 * n → FieldTakes zone f h (from i)
  -- the other low halves follow leftwards, two to a byte; short input is filled with 0 halves on the left
  packed_digit : {n m i : ℕ} (d : ℕ) → f.kind ≡ pack n m → h + d + 3 ≡ writes_from f + 2 * m → d + 1 < n → i + 2 * d + 3 ≡ reads_from f + 2 * n
      → FieldTakes zone f h (from i)
  packed_fill : {n m : ℕ} (d : ℕ) → f.kind ≡ pack n m → h + d + 3 ≡ writes_from f + 2 * m → n ≤ d + 1 → FieldTakes zone f h (constant (made 0))
  -- unpack: the last byte's halves change places
  unpacked_high : {n m i : ℕ} → f.kind ≡ unpack n m → h + 2 ≡ writes_from f + 2 * m → i + 1 ≡ reads_from f + 2 * n → FieldTakes zone f h (from i)
  unpacked_low : {n m i : ℕ} → f.kind ≡ unpack n m → h + 1 ≡ writes_from f + 2 * m → i + 2 ≡ reads_from f + 2 * n → FieldTakes zone f h (from i)
  -- every other half, going left, gets a byte of its own with F before it; fill is F0
  unpacked_digit : {n m i : ℕ} (d : ℕ) → f.kind ≡ unpack n m → h + 2 * d + 3 ≡ writes_from f + 2 * m → d + 2 < 2 * n → i + d + 3 ≡ reads_from f + 2 * n
      → FieldTakes zone f h (from i)
  unpacked_fill : {n m : ℕ} (d : ℕ) → f.kind ≡ unpack n m → h + 2 * d + 3 ≡ writes_from f + 2 * m → 2 * n ≤ d + 2 → FieldTakes zone f h (constant (made 0))
  unpacked_zone : {n m : ℕ} (i : ℕ) → f.kind ≡ unpack n m → h ≡ writes_from f + 2 * i → i + 1 < m → FieldTakes zone f h (constant (made zone))

-- each half of the finished record is taken as the last field that writes it says; else it is a blank's, hex 40
pub data HalfTakes (zone : ℕ) (fs : List Field) (h : ℕ) (x : Source) : Type 0 where
  by_field : (before : List Field) (f : Field) (after : List Field) → fs ≡ before ++ (f ∷ after) → Writes f h → All (λ g. Writes g h → ⊥) after
      → FieldTakes zone f h x → HalfTakes zone fs h x
  blank_high : All (λ g. Writes g h → ⊥) fs → (i : ℕ) → h ≡ 2 * i → x ≡ constant (blank 4) → HalfTakes zone fs h x
  blank_low : All (λ g. Writes g h → ⊥) fs → (i : ℕ) → h ≡ 2 * i + 1 → x ≡ constant (blank 0) → HalfTakes zone fs h x

-- B's n bytes, half by half; then, in FV with CV, the input's data past A's n; without CV it is dropped
pub record SelectedOf (p : Plan) (r out : List ℕ) : Type 0 where
  pub wide : record_length p.output ≤ length out
  pub each : (h : ℕ) → h < 2 * record_length p.output → (x : Source) × HalfTakes p.zone p.fields h x × (get_or (halves out) h 0 ≡ value_in (halves r) x)
  pub tail : p.carries ≡ true → drop (record_length p.output) out ≡ drop (record_length p.input) r
  pub no_tail : p.carries ≡ false → drop (record_length p.output) out ≡ []

-- out is the output record of r
pub record OutputOf (p : Plan) (r out : List ℕ) : Type 0 where
  pub selected : selects p.mode ≡ true → SelectedOf p r out
  -- TC and TR carry records unchanged
  pub unchanged : selects p.mode ≡ false → out ≡ r

-- ---- the output blocks

-- as many records into each block as fit, in order: each block has a record and fits, and the next block's first record would not have fitted
module _ (limit c d : ℕ) where
  pub data Packed : List (List (List ℕ)) → Type 0 where
    no_block : Packed []
    last_block : {b : List (List ℕ)} → 1 ≤ length b → total c d b ≤ limit → Packed (b ∷ [])
    full_block : {b : List (List ℕ)} {r : List ℕ} {rs : List (List ℕ)} {bs : List (List (List ℕ))}
        → 1 ≤ length b → total c d b ≤ limit → limit < total c d (b ++ (r ∷ [])) → Packed ((r ∷ rs) ∷ bs) → Packed (b ∷ ((r ∷ rs) ∷ bs))

-- one block for each input block, of its records from R on, and none where no record is left; the first record of the next block has number i
pub data EachBlock (p : Plan) : ℕ → List (List (List ℕ)) → List (List (List ℕ)) → Type 0 where
  no_input : {i : ℕ} → EachBlock p i [] []
  nothing_left : {i : ℕ} {rs : List (List ℕ)} {more outs : List (List (List ℕ))}
      → drop (p.first - i) rs ≡ [] → EachBlock p (i + length rs) more outs → EachBlock p i (rs ∷ more) outs
  something_left : {i : ℕ} {rs os : List (List ℕ)} {more outs : List (List (List ℕ))}
      → (drop (p.first - i) rs ≡ [] → ⊥) → Both (OutputOf p) (drop (p.first - i) rs) os → EachBlock p (i + length rs) more outs → EachBlock p i (rs ∷ more) (os ∷ outs)

-- these are the output blocks, each with its records, of input blocks with these records
pub record BlocksOut (p : Plan) (recs outs : List (List (List ℕ))) : Type 0 where
  -- TC the same
  pub TC : p.mode ≡ tc → outs ≡ recs
  pub TF : p.mode ≡ tf → EachBlock p 1 recs outs
  -- TR and TRF: the output records of those from R on, filled into blocks of B
  pub tr_records : (p.mode ≡ tr) ⊎ (p.mode ≡ trf) → Both (OutputOf p) (drop (p.first - 1) (joined recs)) (joined outs)
  pub tr_blocks : (p.mode ≡ tr) ⊎ (p.mode ≡ trf) → Packed (block_length p.output) (cost p.format) (cost p.format) outs
