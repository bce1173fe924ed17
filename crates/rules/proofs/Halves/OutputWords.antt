-- The output record in the paper's words is the one that the definition makes: each half of B's n bytes has the value of its source, which the words name, and
-- behind them stands the tail. Halves tell their bytes, so there is no other record of which the words hold.
use mathlib.Core.Path.{◌≡◌, refl, ap, ap₂, sym, ◌∙◌}
use mathlib.Core.Bool.{Bool, true, false}
use mathlib.Core.List.{List, [], ◌∷◌, ◌++◌, map}
use Prim.Native.Nat.{ℕ, zero, suc, ◌+◌, ◌*◌, ◌≤◌, ◌<◌}
use native.Mathlib.Nat.{not-suc-le-zero}
use native.Mathlib.Omega.{arith}
use lib.ListN.{length, take, drop, get_or, length-append, length-take, take-append-drop}
use lib.Seq.{take_at, drop_at, ext_get_or}
use Rattle.rules.specs.Base.{pairs}
use Rattle.rules.specs.Places.{All, no_more, also, Both, none_left, both, Byte}
use Rattle.rules.specs.Halves.{halves, Source, from, constant, blank, value_in, froms, sources}
use Rattle.rules.specs.Plan.{Plan, selects, record_length, input_halves, sources_of}
use Rattle.rules.specs.Output.{out_record}
use Rattle.rules.specs.Accepted.{Accepted}
use Rattle.rules.specs.InWords.{HalfTakes, SelectedOf, OutputOf}
use Rattle.rules.proofs.Base.AllLaws.{all_take, all_at, both_made, all_imply}
use Rattle.rules.proofs.Halves.SizeLaws.{length_halves, halves_small, halves_pairs, pairs_halves, all_out_halves, length_out_halves}
use Rattle.rules.proofs.Halves.BytePlaces.{halves_first}
use Rattle.rules.proofs.Halves.RecordLaws.{fits_of, length_first, length_fixed, halves_out_halves}
use Rattle.rules.proofs.Halves.SourceSteps.{length_sources}
use Rattle.rules.proofs.Halves.SourceWords.{taken_source, source_taken}
use Rattle.rules.proofs.Keeping.ConvertsLaws.{first_halves, out_first, out_tail, out_of, out_values}

map_at : {A B : Type 0} (f : A → B) (xs : List A) (i : ℕ) (d : A) (e : B) → i < length xs → get_or (map f xs) i e ≡ f (get_or xs i d)
map_at f [] i d e l = absurd (not-suc-le-zero l)
map_at f (x ∷ xs) zero d e l = refl
map_at f (x ∷ xs) (suc i) d e l = map_at f xs i d e (omega arith)

all_froms : {P : Source → Type 0} (i n : ℕ) → ((j : ℕ) → j < i + n → P (from j)) → All P (froms i n)
all_froms i zero h = no_more
all_froms i (suc n) h = also (h i (omega arith)) (all_froms (suc i) n (λ j l. h j (omega arith)))

-- what a record of a good block is: bytes, and with TF or TRF A's n or more of them
pub record Whole (p : Plan) (r : List ℕ) : Type 0 where
  pub bytes : All Byte r
  pub long : selects p.mode ≡ true → record_length p.input ≤ length r

-- any source, where there is none
abbrev none : Source
none = constant (blank 0)

module _ (p : Plan) (z : p.zone < 16) (ok : Accepted p) where
  -- ---- TF and TRF

  module _ (sel : selects p.mode ≡ true) (r : List ℕ) (bytes : All Byte r) (long : record_length p.input ≤ length r) where
    abbrev xs : List ℕ
    xs = first_halves p z ok sel r

    abbrev fixed : List ℕ
    fixed = out_first p z ok sel xs

    size : length xs ≡ 2 * record_length p.input
    size = length_first (record_length p.input) r long

    length_whole : length fixed ≡ 2 * record_length p.output
    length_whole = length_out_halves p.zone _ _ _ p.fields xs (fits_of p ok) size

    length_bytes : length (pairs fixed) ≡ record_length p.output
    length_bytes = length_fixed p ok xs size

    -- a source gives one value, of the record and of its first n bytes
    same_value : All (λ s. value_in (halves r) s ≡ value_in xs s) (sources_of p)
    unfolding sources_of sources input_halves
    same_value =
        all_out_halves constant (λ c h. refl) p.zone z (record_length p.output) p.fields
        (all_froms 0 (2 * record_length p.input) (λ j l. sym (halves_first (record_length p.input) r j (omega arith))))

    length_all : length (sources_of p) ≡ 2 * record_length p.output
    unfolding sources_of input_halves
    length_all = length_sources p.zone _ _ p.fields (fits_of p ok)

    -- each half of B's n bytes has the value of its source
    value_at : (h : ℕ) → h < 2 * record_length p.output → get_or fixed h 0 ≡ value_in (halves r) (get_or (sources_of p) h none)
    unfolding input_halves
    value_at h l =
        ap (λ (x : List ℕ). get_or x h 0) (out_values p z ok sel xs size)
        ∙ map_at (value_in xs) (sources_of p) h none 0 (omega (arith, length_all))
        ∙ sym (all_at none (sources_of p) same_value h (omega (arith, length_all)))

    first_of : take (record_length p.output) (out_record p r) ≡ pairs fixed
    first_of = ap (take (record_length p.output)) (out_of p z ok sel r) ∙ take_at (pairs fixed) (out_tail p z ok sel r) (record_length p.output) length_bytes

    rest_of : drop (record_length p.output) (out_record p r) ≡ out_tail p z ok sel r
    rest_of = ap (drop (record_length p.output)) (out_of p z ok sel r) ∙ drop_at (pairs fixed) (out_tail p z ok sel r) (record_length p.output) length_bytes

    half_at : (h : ℕ) → h < 2 * record_length p.output → get_or (halves (out_record p r)) h 0 ≡ value_in (halves r) (get_or (sources_of p) h none)
    half_at h l =
        sym (halves_first (record_length p.output) (out_record p r) h l)
        ∙ ap (λ (x : List ℕ). get_or (halves x) h 0) first_of
        ∙ ap (λ (x : List ℕ). get_or x h 0) (halves_pairs {hs = fixed} (omega (arith, length_whole)) (halves_out_halves p.zone z _ p.fields (halves_small (all_take (record_length p.input) bytes))))
        ∙ value_at h l

    -- the source is the one that the words name
    named : (h : ℕ) → h < 2 * record_length p.output → HalfTakes p.zone p.fields h (get_or (sources_of p) h none)
    unfolding sources_of input_halves
    named h l = source_taken p.zone _ _ none p.fields (fits_of p ok) h l

    named_once : (h : ℕ) → h < 2 * record_length p.output → (x : Source) → HalfTakes p.zone p.fields h x → get_or (sources_of p) h none ≡ x
    unfolding sources_of input_halves
    named_once h l x t = taken_source p.zone _ _ none p.fields (fits_of p ok) h l x t

    selected_told : SelectedOf p r (out_record p r)
    selected_told =
        record {
          wide = omega (arith, ap length (out_of p z ok sel r), length-append (pairs fixed) (out_tail p z ok sel r), length_bytes);
          each = λ h l. (get_or (sources_of p) h none, named h l, half_at h l);
          tail = λ c. rest_of ∙ rw c;
          no_tail = λ c. rest_of ∙ rw c;
        }

    selected_once : (out : List ℕ) → SelectedOf p r out → out ≡ out_record p r
    selected_once out w =
        sym (take-append-drop (record_length p.output) out) ∙ ap₂ ◌++◌ first (rest p.carries refl) ∙ sym (out_of p z ok sel r)
      where
        m : ℕ
        m = record_length p.output

        at : (h : ℕ) → h < 2 * m → get_or (halves (take m out)) h 0 ≡ get_or fixed h 0
        at h l =
            let x = w.each h l in
            halves_first m out h l ∙ x.2 ∙ ap (value_in (halves r)) (sym (named_once h l x.0 x.1)) ∙ sym (value_at h l)

        long_first : length (halves (take m out)) ≡ 2 * m
        long_first = omega (arith, length_halves (take m out), length-take m out, w.wide)

        first : take m out ≡ pairs fixed
        first =
            sym (pairs_halves (take m out))
            ∙ ap pairs (ext_get_or 0 (halves (take m out)) fixed (long_first ∙ sym length_whole) (λ h l. at h (omega (arith, long_first))))

        rest : (c : Bool) → p.carries ≡ c → drop m out ≡ out_tail p z ok sel r
        rest true c = w.tail c ∙ rw c
        rest false c = w.no_tail c ∙ rw c

  -- ---- in every mode

  module _ (r : List ℕ) (w : Whole p r) where
    pub output_told : OutputOf p r (out_record p r)
    unfolding out_record
    output_told = record { selected = λ t. selected_told t r w.bytes (w.long t); unchanged = λ t. rw t }

    pub output_once : (out : List ℕ) → OutputOf p r out → out ≡ out_record p r
    unfolding out_record
    output_once out o = go (selects p.mode) refl
      where
        go : (t : Bool) → selects p.mode ≡ t → out ≡ out_record p r
        go true t = selected_once t r w.bytes (w.long t) out (o.selected t)
        go false t = o.unchanged t ∙ rw t

  -- ---- of some records

  pub outputs_told : {rs : List (List ℕ)} → All (Whole p) rs → Both (OutputOf p) rs (map (out_record p) rs)
  outputs_told ws = both_made (out_record p) (all_imply output_told ws)

  pub outputs_once : {rs outs : List (List ℕ)} → All (Whole p) rs → Both (OutputOf p) rs outs → outs ≡ map (out_record p) rs
  outputs_once no_more none_left = refl
  outputs_once (also {x = r} w ws) (both {y = out} o os) = ap₂ ◌∷◌ (output_once r w out o) (outputs_once ws os)
