-- Of an accepted plan with TF or TRF: what its records that it converts have in common where their output records are the same, and which
-- records of permitted halves it converts. It holds since an output record is the values of its sources, two to a byte, and the tail.
use mathlib.Core.Path.{◌≡◌, refl, ap, sym, ◌∙◌, subst}
use mathlib.Core.Bool.{true, false, cond, ◌&&◌, true≢false, false≢true}
use mathlib.Core.List.{List, [], ◌∷◌, ◌++◌, map, append-nil}
use Prim.Native.Nat.{ℕ, ◌+◌, ◌-◌, ◌≤◌, ◌<◌}
use native.Mathlib.Omega.{arith}
use lib.Dec.{ltb}
use lib.ListN.{length, take, drop, get_or}
use lib.Seq.{take_at, drop_at}
use borrow.Author.Tests.{eqb-true, ltb-true, lt-ltb, le-leb, eq-eqb}
use Rattle.rules.specs.Base.{every, pairs}
use Rattle.rules.specs.Places.{All, Byte, Half}
use Rattle.rules.specs.Grammar.{Format, ff, fv, fu, fsp, Size}
use Rattle.rules.specs.Halves.{halves, out_halves, value, value_in, sources}
use Rattle.rules.specs.Plan.{Plan, selects, is_fv, is_fs, record_length, block_length, input_halves, allowed, sources_of}
use Rattle.rules.specs.Output.{may_be, permits, selected, out_record, cost, fits, fits_b, may_hold, converts}
use Rattle.rules.specs.Accepted.{Accepted}
use Rattle.rules.proofs.Base.Tests.{and_left, and_right, and_both, within_low, within_high, within_of, every_all, all_every, never_true}
use Rattle.rules.proofs.Deck.LimitLaws.{is_fs_lem}
use Rattle.rules.proofs.Base.AllLaws.{all_imply, at_all}
use Rattle.rules.proofs.Halves.HalvesLaws.{out_by_sources}
use Rattle.rules.proofs.Halves.SizeLaws.{length_out_halves, halves_pairs}
use Rattle.rules.proofs.Halves.RecordLaws.{fits_of, Shape, fixed, variable, shape_of, length_first, length_fixed, halves_out_halves}
use Rattle.rules.proofs.Halves.PermittedLaws.{any_small, permitted_any, may_be_at, at_may_be}
use Rattle.rules.proofs.Keeping.KeepingLaws.{Permitted}

-- ---- what A may hold, and what B may

pub held_least : {f : Format} {a b : Size} → Shape f a b → (len : ℕ) → may_hold f a len ≡ true → record_length a ≤ len
held_least (fixed {n = n} la lb) len e = omega (arith, eqb-true len n e)
held_least (variable {n = n} {m = m} la lb) len e = within_low n (m - 8) len e

-- no more where, in FV, m is n+8
pub held_most : {f : Format} {a b : Size} → Shape f a b → (is_fv f ≡ true → block_length a ≡ record_length a + 8)
    → (len : ℕ) → may_hold f a len ≡ true → len ≤ record_length a
held_most (fixed {n = n} la lb) tight len e = omega (arith, eqb-true len n e)
held_most (variable {n = n} {m = m} la lb) tight len e = omega (arith, within_high n (m - 8) len e, tight refl)

pub holds_least : {f : Format} {a b : Size} → Shape f a b → may_hold f a (record_length a) ≡ true
holds_least (fixed {n = n} la lb) = eq-eqb n n refl
holds_least (variable {n = n} {m = m} la lb) = within_of n (m - 8) n (omega arith) (omega arith)

-- one byte more where, in FV, m is not n+8
pub holds_more : {f : Format} {a b : Size} → Shape f a b → is_fv f ≡ true → (block_length a ≡ record_length a + 8 → ⊥) → may_hold f a (record_length a + 1) ≡ true
holds_more (fixed la lb) v loose = absurd (false≢true v)
holds_more (variable {n = n} {m = m} la lb) v loose = within_of n (m - 8) (n + 1) (omega arith) (omega arith)

least_cost : {f : Format} {a b : Size} → Shape f a b → cost f + record_length b + cost f ≤ block_length b
least_cost (fixed la lb) = omega arith
least_cost (variable la lb) = omega arith

-- an output record without a tail fits
fits_fixed : (p : Plan) → Shape p.format p.input p.output → (o : List ℕ) → length o ≡ record_length p.output → fits_b p (o ∷ []) ≡ true
unfolding fits_b fits
fits_fixed p s o e = le-leb (cost p.format + length o + cost p.format) (block_length p.output) (omega (arith, least_cost s, e))

-- ---- what a record that is converted is

pub record Converted (p : Plan) (r : List ℕ) : Type 0 where
  pub bytes : All Byte r
  pub permitted : permits p r ≡ true
  pub held : may_hold p.format p.input (length r) ≡ true
  pub fitting : fits_b p (out_record p r ∷ []) ≡ true

-- where fields are selected the format is not FS
pub not_span : (p : Plan) → Accepted p → selects p.mode ≡ true → is_fs p.format ≡ false
not_span p ok s = never_true (is_fs p.format) (λ t. true≢false (sym s ∙ ok.required.fs_with (is_fs_lem p.format t)))

pub converted_of : (p : Plan) (r : List ℕ) → is_fs p.format ≡ false → converts p r ≡ true → Converted p r
unfolding converts
converted_of p r n e =
    let b = every (λ b. ltb b 256) r in
    let l1 = and_left (b && permits p r) _ e in
    let l2 : (may_hold p.format p.input (length r) && fits_b p (out_record p r ∷ [])) ≡ true = rw n at (and_right (b && permits p r) _ e) in
    record {
      bytes = all_imply (λ v. ltb-true v 256) (every_all (λ b. ltb b 256) r (and_left b _ l1));
      permitted = and_right b _ l1;
      held = and_left (may_hold p.format p.input (length r)) _ l2;
      fitting = and_right (may_hold p.format p.input (length r)) _ l2;
    }

held_other : (p : Plan) (r : List ℕ) → may_hold p.format p.input (length r) ≡ true → is_fs p.format ≡ false
held_other p r h = go p.format h
  where
    go : (f : Format) → may_hold f p.input (length r) ≡ true → is_fs f ≡ false
    go ff h = refl
    go fv h = refl
    go fu h = refl
    go fsp h = absurd (false≢true h)

pub of_converted : (p : Plan) (r : List ℕ) → Converted p r → converts p r ≡ true
unfolding converts
of_converted p r c =
    and_both (and_both (all_every (λ b. ltb b 256) (all_imply (λ v. lt-ltb v 256) c.bytes)) c.permitted) (rw (held_other p r c.held) (and_both c.held c.fitting))

-- ---- an accepted plan with TF or TRF

module _ (p : Plan) (z : p.zone < 16) (ok : Accepted p) (sel : selects p.mode ≡ true) where
  -- the halves of the first n bytes of a record
  abbrev pub first_halves : List ℕ → List ℕ
  first_halves r = halves (take (record_length p.input) r)

  -- the first n bytes of the output record, of such halves
  abbrev pub out_first : List ℕ → List ℕ
  out_first xs = out_halves p.zone value (record_length p.output) p.fields xs

  -- the tail of the output record
  abbrev pub out_tail : List ℕ → List ℕ
  out_tail r = cond p.carries (drop (record_length p.input) r) []

  pub out_of : (r : List ℕ) → out_record p r ≡ pairs (out_first (first_halves r)) ++ out_tail r
  unfolding out_record selected
  out_of r = rw sel

  -- the halves of the output record are the values of its sources
  pub out_values : (xs : List ℕ) → length xs ≡ input_halves p → out_first xs ≡ map (value_in xs) (sources_of p)
  unfolding sources_of
  out_values xs e =
      subst (λ (many : ℕ). out_first xs ≡ map (value_in xs) (sources p.zone (record_length p.output) p.fields many)) e (out_by_sources p.zone _ p.fields xs)

  -- permitted halves
  abbrev pub PermittedHalves : List ℕ → Type 0
  PermittedHalves xs = Permitted (allowed p) (input_halves p) xs

  pub permitted_of : (r : List ℕ) → Converted p r → PermittedHalves (first_halves r)
  unfolding permits input_halves allowed
  permitted_of r c =
      let e = length_first (record_length p.input) r (held_least (shape_of p ok sel) (length r) c.held) in
      let may : may_be (allowed p) 0 (first_halves r) ≡ true = rw sel at c.permitted in
      let holds : (i : ℕ) → i < input_halves p → allowed p i (get_or (first_halves r) i 0) ≡ true =
      λ i l. may_be_at (allowed p) 0 (first_halves r) may i i (omega arith) (omega arith) in
      record { size = e; small = λ i l. any_small _ (permitted_any p.zone i _ p.fields (holds i l)); holds = holds }

  pub permitted_half : (xs : List ℕ) → PermittedHalves xs → All Half xs
  permitted_half xs g = at_all 0 xs (λ i l. g.small i (omega (arith, g.size)))

  pub length_out_first : (xs : List ℕ) → PermittedHalves xs → length (pairs (out_first xs)) ≡ record_length p.output
  unfolding input_halves
  length_out_first xs g = length_fixed p ok xs g.size

  out_first_back : (xs : List ℕ) → PermittedHalves xs → halves (pairs (out_first xs)) ≡ out_first xs
  unfolding input_halves
  out_first_back xs g =
      halves_pairs (omega (arith, length_out_halves p.zone value _ _ p.fields xs (fits_of p ok) g.size)) (halves_out_halves p.zone z _ _ (permitted_half xs g))

  -- ---- two converted records with one output record

  -- their halves give the sources one value each, and the tails of their outputs are one
  pub same_output : (r s : List ℕ) → Converted p r → Converted p s → out_record p r ≡ out_record p s
      → (map (value_in (first_halves r)) (sources_of p) ≡ map (value_in (first_halves s)) (sources_of p)) × (out_tail r ≡ out_tail s)
  same_output r s cr cs e =
      let gr = permitted_of r cr in
      let gs = permitted_of s cs in
      let e' = sym (out_of r) ∙ e ∙ out_of s in
      let n = record_length p.output in
      let or = pairs (out_first (first_halves r)) in
      let os = pairs (out_first (first_halves s)) in
      let first : or ≡ os = sym (take_at or (out_tail r) n (length_out_first _ gr)) ∙ ap (take n) e' ∙ take_at os (out_tail s) n (length_out_first _ gs) in
      let tails : out_tail r ≡ out_tail s = sym (drop_at or (out_tail r) n (length_out_first _ gr)) ∙ ap (drop n) e' ∙ drop_at os (out_tail s) n (length_out_first _ gs) in
      let outs : out_first (first_halves r) ≡ out_first (first_halves s) = sym (out_first_back _ gr) ∙ ap halves first ∙ out_first_back _ gs in
      (sym (out_values _ gr.size) ∙ outs ∙ out_values _ gs.size, tails)

  -- ---- a record whose first n bytes are permitted halves, and whose tail is not carried

  module _ (xs : List ℕ) (g : PermittedHalves xs) (r : List ℕ) (first : take (record_length p.input) r ≡ pairs xs) (dropped : out_tail r ≡ []) where
    first_halves_lem : first_halves r ≡ xs
    unfolding input_halves
    first_halves_lem = ap halves first ∙ halves_pairs (omega (arith, g.size)) (permitted_half xs g)

    pub made_output : out_record p r ≡ pairs (out_first xs)
    made_output = out_of r ∙ rw (dropped, first_halves_lem) (append-nil (pairs (out_first xs)))

    pub made_converts : All Byte r → may_hold p.format p.input (length r) ≡ true → converts p r ≡ true
    unfolding permits
    made_converts b held =
        of_converted p r
        (record {
          bytes = b;
          permitted = rw (sel, first_halves_lem) (at_may_be (allowed p) 0 xs (λ j h e l. let q : h ≡ j = omega arith in rw q (g.holds j (omega (arith, g.size)))));
          held = held;
          fitting = rw made_output (fits_fixed p (shape_of p ok sel) (pairs (out_first xs)) (length_out_first xs g));
        })
