-- The two records of a plan that loses show its loss, in words: they are the pair by which the lost place is proved, each half of the first is the first value
-- that passes, and that of the second the first above it. No shorter data would do, since the plan converts no record of fewer than n bytes, and where only the
-- tail is lost two of n bytes are told apart.
use mathlib.Core.Path.{◌≡◌, refl, ap, sym, ◌∙◌, subst}
use mathlib.Core.Bool.{Bool, true, false, true≢false}
use mathlib.Core.List.{List, [], ◌∷◌}
use Prim.Native.Nat.{ℕ, ◌+◌, ◌*◌, ◌≤◌, ◌<◌}
use native.Mathlib.Omega.{arith}
use lib.ListN.{length, get_or, length-append}
use lib.Seq.{take_all}
use borrow.Author.Tests.{leb-true, leb-false}
use lib.Dec.{leb}
use Rattle.rules.specs.Halves.{halves}
use Rattle.rules.specs.Permitted.{choices}
use Rattle.rules.specs.Keeping.{missing}
use Rattle.rules.specs.Plan.{Plan, selects, record_length, input_halves, allowed, sources_of, lost_at, keeps}
use Rattle.rules.specs.Output.{converts, out_record}
use Rattle.rules.specs.Accepted.{Accepted}
use Rattle.rules.specs.InWords.{MayBe}
use Rattle.rules.specs.ColumnRows.{Lowest}
use Rattle.rules.specs.Twins.{lowest, second, first_twin, second_twin, twins}
use Rattle.rules.specs.TwinWords.{Differ, in_half, in_tail, Shows}
use Rattle.rules.proofs.Base.Tests.{and_left}
use Rattle.rules.proofs.Halves.AllowedWords.{may_be}
use Rattle.rules.proofs.Halves.RecordLaws.{shape_of}
use Rattle.rules.proofs.Halves.ListedLaws.{length_bytes_listed}
use Rattle.rules.proofs.Keeping.KeepingLaws.{lowest_passes, lowest_first, second_passes, second_first, lowests, raiseds, lowest_at, raised_here, alike, lowest_halves, raised_halves}
use Rattle.rules.proofs.Keeping.ConvertsLaws.{converted_of, not_span, held_least}
use Rattle.rules.proofs.Keeping.Twins.{lost_missing, plain_halves, LostPair, at_half, at_tail, second_tail, second_half, lost_twins, lost_place}
use Rattle.rules.proofs.Keeping.Demand3.{same_first}

-- a plan that loses has TF or TRF
pub loses_selects : (p : Plan) → keeps p ≡ false → selects p.mode ≡ true
unfolding keeps
loses_selects p k = go (selects p.mode) refl
  where
    go : (t : Bool) → selects p.mode ≡ t → t ≡ true
    go true t = refl
    go false t = absurd (true≢false (rw t at k))

-- a missing half has two permitted values or more, and so has the lost one
pub missing_two : (p : Plan) (h : ℕ) → missing (allowed p) (sources_of p) h ≡ true → 2 ≤ choices (allowed p) h
unfolding missing
missing_two p h e = leb-true 2 _ (and_left (leb 2 (choices (allowed p) h)) _ e)

pub lost_two : (p : Plan) → lost_at p < input_halves p → 2 ≤ choices (allowed p) (lost_at p)
lost_two p l = missing_two p (lost_at p) (lost_missing p l)

-- ---- how long they are

pub length_first : (p : Plan) → length (first_twin p) ≡ record_length p.input
unfolding first_twin input_halves
length_first p = length_bytes_listed (lowest (allowed p)) (record_length p.input)

pub length_second : (p : Plan) → lost_at p < input_halves p → length (second_twin p) ≡ record_length p.input
unfolding input_halves
length_second p l = ap length (second_half p l) ∙ length_bytes_listed _ (record_length p.input)

pub length_more : (p : Plan) → lost_at p ≡ input_halves p → length (second_twin p) ≡ record_length p.input + 1
length_more p e = ap length (second_tail p e) ∙ length-append (first_twin p) (0 ∷ []) ∙ ap (λ (n : ℕ). n + 1) (length_first p)

pub length_twins : (p : Plan) → length (twins p) ≡ length (first_twin p) + length (second_twin p)
unfolding twins
length_twins p = length-append (first_twin p) (second_twin p)

module _ (p : Plan) (z : p.zone < 16) (ok : Accepted p) (k : keeps p ≡ false) where
  sel : selects p.mode ≡ true
  sel = loses_selects p k

  -- ---- the lowest values

  first_halves_lem : halves (first_twin p) ≡ lowests (allowed p) (input_halves p)
  unfolding first_twin
  first_halves_lem = plain_halves p z ok sel _ (lowest_halves (allowed p) (input_halves p) ok.some)

  first_at : (h : ℕ) → h < input_halves p → get_or (halves (first_twin p)) h 0 ≡ lowest (allowed p) h
  first_at h l = ap (λ (hs : List ℕ). get_or hs h 0) first_halves_lem ∙ lowest_at (allowed p) (input_halves p) h l

  lowest_words : (h : ℕ) → h < input_halves p → Lowest (MayBe p h) (get_or (halves (first_twin p)) h 0)
  lowest_words h l =
      rw (first_at h l)
      ((may_be p h _).0 (lowest_passes (allowed p) h (ok.some h l)).1, λ v m w. omega (arith, lowest_first (allowed p) h v ((may_be p h v).1 w)))

  -- ---- in what they differ

  module _ (l : lost_at p < input_halves p) where
    second_halves : halves (second_twin p) ≡ raiseds (allowed p) (input_halves p) (lost_at p)
    second_halves = ap halves (second_half p l) ∙ plain_halves p z ok sel _ (raised_halves (allowed p) (input_halves p) ok.some (lost_at p) (lost_two p l))

    second_at : get_or (halves (second_twin p)) (lost_at p) 0 ≡ second (allowed p) (lost_at p)
    second_at = ap (λ (hs : List ℕ). get_or hs (lost_at p) 0) second_halves ∙ raised_here (allowed p) (input_halves p) (lost_at p) l

    half_differs : Differ p (lost_at p) (first_twin p) (second_twin p)
    half_differs =
        let w = second_passes (allowed p) (lost_at p) (lost_two p l) in
        in_half l (length_second p l ∙ sym (length_first p))
        (λ h n. rw (first_halves_lem, second_halves) (sym (alike (allowed p) (input_halves p) (lost_at p) h n)))
        (rw (second_at, first_at (lost_at p) l)
        (((may_be p (lost_at p) _).0 w.2, w.0), λ v m x. omega (arith, second_first (allowed p) (lost_at p) v x.1 ((may_be p (lost_at p) v).1 x.0))))

  -- ---- no shorter data

  long_enough : (t : List ℕ) → converts p t ≡ true → record_length p.input ≤ length t
  long_enough t c = held_least (shape_of p ok sel) (length t) (converted_of p t (not_span p ok sel) c).held

  module _ (e : lost_at p ≡ input_halves p) (t u : List ℕ) (ct : converts p t ≡ true) (cu : converts p u ≡ true) (same : out_record p t ≡ out_record p u) (apart : t ≡ u → ⊥) where
    -- two records of n bytes that have one output record are one
    tail_longer : 2 * record_length p.input + 1 ≤ length t + length u
    tail_longer = go (leb (length t + length u) (2 * record_length p.input)) refl
      where
        go : (b : Bool) → leb (length t + length u) (2 * record_length p.input) ≡ b → 2 * record_length p.input + 1 ≤ length t + length u
        go true b =
            let m = leb-true _ (2 * record_length p.input) b in
            let lt = long_enough t ct in
            let lu = long_enough u cu in
            let s = same_first p z ok sel e t u (converted_of p t (not_span p ok sel) ct) (converted_of p u (not_span p ok sel) cu) same in
            absurd (apart (sym (take_all (record_length p.input) t (omega arith)) ∙ s ∙ take_all (record_length p.input) u (omega arith)))
        go false b = omega (arith, leb-false _ (2 * record_length p.input) b)

  pub shows_loss : Shows p (lost_at p) (first_twin p) (second_twin p)
  shows_loss = go (lost_twins p z ok k)
    where
      made : (r s : List ℕ) → r ≡ first_twin p → s ≡ second_twin p → converts p r ≡ true → converts p s ≡ true → out_record p r ≡ out_record p s
          → Differ p (lost_at p) (first_twin p) (second_twin p)
          → ((t u : List ℕ) → converts p t ≡ true → converts p u ≡ true → out_record p t ≡ out_record p u → (t ≡ u → ⊥) → length (first_twin p) + length (second_twin p) ≤ length t + length u)
          → Shows p (lost_at p) (first_twin p) (second_twin p)
      made r s er es cr cs o d short =
          record {
            place = lost_place p z ok k;
            r_converts = subst (λ (x : List ℕ). converts p x ≡ true) er cr;
            s_converts = subst (λ (x : List ℕ). converts p x ≡ true) es cs;
            outputs = sym (ap (out_record p) er) ∙ o ∙ ap (out_record p) es;
            long = length_first p;
            lowest = lowest_words;
            differ = d;
            shortest = short;
          }

      go : LostPair p → Shows p (lost_at p) (first_twin p) (second_twin p)
      go (at_half l none t er es) =
          made t.r t.s er es t.r_converts t.s_converts t.outputs (half_differs l)
          (λ x y cx cy o a. omega (arith, length_first p, length_second p l, long_enough x cx, long_enough y cy))
      go (at_tail e none t er es) =
          made t.r t.s er es t.r_converts t.s_converts t.outputs (in_tail e (second_tail p e))
          (λ x y cx cy o a. omega (arith, length_first p, length_more p e, tail_longer e x y cx cy o a))
