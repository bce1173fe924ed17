-- Refusal 14: the first record taken whose output exceeds a block of B by itself, or in TF with those of its block before it. A record that exceeds by itself
-- exceeds with others, so that in TF one test says both.
use mathlib.Core.Path.{◌≡◌, refl, ap, sym, ◌∙◌, subst}
use mathlib.Core.Logic.{◌⊎◌, inl, inr}
use mathlib.Core.Bool.{Bool, false}
use mathlib.Core.List.{List, [], ◌∷◌, ◌++◌, map, map-append, map-map}
use Prim.Native.Nat.{ℕ, ◌+◌, ◌-◌, ◌≤◌}
use native.Mathlib.Omega.{arith}
use lib.ListN.{length, drop, length-append}
use lib.Seq.{drop-append-le}
use Rattle.rules.specs.Base.{joined}
use Rattle.rules.specs.Answer.{each}
use Rattle.rules.specs.Places.{Found}
use Rattle.rules.specs.Grammar.{Mode, tc, tf, tr, trf}
use Rattle.rules.specs.Plan.{Plan}
use Rattle.rules.specs.Blocks.{taken_from}
use Rattle.rules.specs.Output.{out_record, fits_b}
use Rattle.rules.specs.Run.{fit_together, fit_alone, fitting}
use Rattle.rules.specs.RunRows.{Exceeds, Overfills}
use Rattle.rules.proofs.Base.Lists.{map_joined}
use Rattle.rules.proofs.Refusals.Given.{Outcome, outcome_same, each_outcome, found_low, found_map, found_nil}
use Rattle.rules.proofs.Base.FoundLaws.{found_either, found_tested, tested_found, parted}
use Rattle.rules.proofs.Refusals.BlocksOutcome.{taken_to, to_taken}
use Rattle.rules.proofs.Refusals.Overfull.{OutExceeds, exceeds_of, of_exceeds, exceeds_more, overfills_of, of_overfills}

module _ (pl : Plan) where
  abbrev out : List ℕ → List ℕ
  out = out_record pl

  abbrev Alone : List (List (List ℕ)) → ℕ → Type 0
  Alone recs p = Found (λ r. Exceeds pl (out r ∷ [])) p 1 (joined recs)

  -- ---- each record by itself

  module _ (l : 1 ≤ pl.first) (recs : List (List (List ℕ))) where
    abbrev taken : List (List (List ℕ))
    taken = taken_from pl.first recs

    tests_are : fit_alone pl (map (map out) taken) ≡ map (λ r. fits_b pl (out r ∷ [])) (joined taken)
    tests_are = ap (map (λ r. fits_b pl (r ∷ []))) (sym (map_joined out taken)) ∙ map-map (λ r. fits_b pl (r ∷ [])) out (joined taken)

    alone_outcome : Outcome 14 (λ p. (pl.first ≤ p) × Alone recs p) (each 14 (λ holds. holds) pl.first (fit_alone pl (map (map out) taken)))
    alone_outcome =
        outcome_same 14 _ _ (each 14 (λ holds. holds) pl.first (fit_alone pl (map (map out) taken))) to back
        (each_outcome 14 (λ holds. holds) pl.first (fit_alone pl (map (map out) taken)))
      where
        test : List ℕ → Bool
        test r = fits_b pl (out r ∷ [])

        to : (p : ℕ) → Found (λ ok. ok ≡ false) p pl.first (fit_alone pl (map (map out) taken)) → (pl.first ≤ p) × Alone recs p
        to p f =
            let g = found_tested test p pl.first (joined taken) (subst (λ (z : List Bool). Found (λ ok. ok ≡ false) p pl.first z) tests_are f) in
            taken_to (λ r. Exceeds pl (out r ∷ [])) pl.first l recs p (found_map (λ r e. exceeds_of pl (out r ∷ []) e) g)

        back : (p : ℕ) → (pl.first ≤ p) × Alone recs p → Found (λ ok. ok ≡ false) p pl.first (fit_alone pl (map (map out) taken))
        back p (h, f) =
            subst (λ (z : List Bool). Found (λ ok. ok ≡ false) p pl.first z) (sym tests_are)
            (tested_found test (found_map (λ r e. of_exceeds pl (out r ∷ []) e) (to_taken (λ r. Exceeds pl (out r ∷ [])) pl.first l recs p h f)))

  -- ---- what exceeds by itself overfills its block

  -- a record of all is one of a block
  record Placed (P : List ℕ → Type 0) (i : ℕ) (recs : List (List (List ℕ))) (p : ℕ) : Type 0 where
    earlier : List (List (List ℕ))
    before : List (List ℕ)
    r : List ℕ
    rest : List (List ℕ)
    further : List (List (List ℕ))
    split : recs ≡ earlier ++ ((before ++ (r ∷ rest)) ∷ further)
    place : p ≡ i + length (joined earlier) + length before
    holds : P r

  placed : (P : List ℕ → Type 0) (i : ℕ) (recs : List (List (List ℕ))) (p : ℕ) → Found P p i (joined recs) → Placed P i recs p
  placed P i [] p f = absurd (found_nil f)
  placed P i (b ∷ bs) p f = go (λ g. placed P (i + length b) bs p g) (found_either P p i b (joined bs) f)
    where
      go : (Found P p (i + length b) (joined bs) → Placed P (i + length b) bs p) → Found P p i b ⊎ Found P p (i + length b) (joined bs) → Placed P i (b ∷ bs) p
      go ih (inl g) =
          let w = parted g in
          record { earlier = []; before = w.0; r = w.1; rest = w.2; further = bs; split = ap (◌∷ bs) w.3; place = omega (arith, w.4); holds = w.5 }
      go ih (inr g) =
          let w = ih g in
          record {
            earlier = b ∷ w.earlier;
            before = w.before;
            r = w.r;
            rest = w.rest;
            further = w.further;
            split = ap (b ∷◌) w.split;
            place = omega (arith, w.place, length-append b (joined w.earlier));
            holds = w.holds;
          }

  alone_overfills : (recs : List (List (List ℕ))) (p : ℕ) → pl.first ≤ p → 1 ≤ pl.first → Alone recs p → Overfills pl (OutExceeds pl) recs p
  alone_overfills recs p l m f =
      let w = placed (λ r. Exceeds pl (out r ∷ [])) 1 recs p f in
      let k = pl.first - 1 - length (joined w.earlier) in
      let h : pl.first - 1 - length (joined w.earlier) ≤ length w.before = omega (arith, w.place) in
      record {
        earlier = w.earlier;
        before = w.before;
        r = w.r;
        rest = w.rest;
        further = w.further;
        split = w.split;
        place = omega (arith, w.place);
        over =
            subst (Exceeds pl) (sym (ap (map out) (drop-append-le k w.before (w.r ∷ []) h) ∙ map-append out (drop k w.before) (w.r ∷ [])))
            (exceeds_more pl (map out (drop k w.before)) (out w.r ∷ []) w.holds);
      }

  -- ---- refusal 14

  abbrev pub Exceeding : List (List (List ℕ)) → ℕ → Type 0
  Exceeding recs p = (pl.first ≤ p) × (Alone recs p ⊎ ((pl.mode ≡ tf) × Overfills pl (OutExceeds pl) recs p))

  tf_outcome : (recs : List (List (List ℕ))) → 1 ≤ pl.first → pl.mode ≡ tf
      → Outcome 14 (Exceeding recs) (each 14 (λ holds. holds) pl.first (fit_together pl (map (map out) (taken_from pl.first recs))))
  tf_outcome recs l t =
      outcome_same 14 _ _ (each 14 (λ holds. holds) pl.first tests) (λ p f. (found_low f, inr (t, overfills_of pl recs l p f)))
      (λ p f. of_overfills pl recs l p f.0 (either p f.0 f.1)) (each_outcome 14 (λ holds. holds) pl.first tests)
    where
      tests : List Bool
      tests = fit_together pl (map (map out) (taken_from pl.first recs))

      either : (p : ℕ) → pl.first ≤ p → Alone recs p ⊎ ((pl.mode ≡ tf) × Overfills pl (OutExceeds pl) recs p) → Overfills pl (OutExceeds pl) recs p
      either p h (inl f) = alone_overfills recs p h l f
      either p h (inr w) = w.1

  pub fit_outcome : (recs : List (List (List ℕ))) → 1 ≤ pl.first
      → Outcome 14 (Exceeding recs) (each 14 (λ holds. holds) pl.first (fitting pl.mode pl (map (map out) (taken_from pl.first recs))))
  fit_outcome recs l = go pl.mode refl
    where
      one_by_one : (pl.mode ≡ tf → ⊥) → Outcome 14 (Exceeding recs) (each 14 (λ holds. holds) pl.first (fit_alone pl (map (map out) (taken_from pl.first recs))))
      one_by_one n =
          outcome_same 14 _ _ (each 14 (λ holds. holds) pl.first (fit_alone pl (map (map out) (taken_from pl.first recs)))) (λ p f. (f.0, inl f.1))
          (λ p f. (f.0, alone p f.1)) (alone_outcome l recs)
        where
          alone : (p : ℕ) → Alone recs p ⊎ ((pl.mode ≡ tf) × Overfills pl (OutExceeds pl) recs p) → Alone recs p
          alone p (inl f) = f
          alone p (inr w) = absurd (n w.0)

      go : (m : Mode) → pl.mode ≡ m → Outcome 14 (Exceeding recs) (each 14 (λ holds. holds) pl.first (fitting m pl (map (map out) (taken_from pl.first recs))))
      go tc e = one_by_one (λ d. let z : tc ≡ tf = sym e ∙ d in let y : ◌≡◌ {A = ℕ} 0 1 = cc in omega arith)
      go tf e = tf_outcome recs l e
      go tr e = one_by_one (λ d. let z : tr ≡ tf = sym e ∙ d in let y : ◌≡◌ {A = ℕ} 0 1 = cc in omega arith)
      go trf e = one_by_one (λ d. let z : trf ≡ tf = sym e ∙ d in let y : ◌≡◌ {A = ℕ} 0 1 = cc in omega arith)
