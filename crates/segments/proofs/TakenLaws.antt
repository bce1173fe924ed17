-- Passing over the first records: what is left from each turn on are the records behind those that were passed, and the spot is the one behind their bytes.
use mathlib.Core.Path.{◌≡◌, refl, ap, sym, ◌∙◌, subst}
use mathlib.Core.List.{List, [], ◌∷◌}
use Prim.Native.Nat.{ℕ, suc, ◌+◌, ◌≤◌, ◌<◌}
use native.Mathlib.Omega.{arith}
use native.Mathlib.Numerals.{add-one}
use lib.ListN.{length, take, drop, get_or, length-append}
use lib.Seq.{take-suc, drop-cons}
use Rattle.rules.specs.Base.{joined}
use Rattle.rules.proofs.Base.Lists.{joined_last}
use Rattle.segments.specs.declared.Spot.{Spot}
use Rattle.segments.specs.declared.RecordAhead.{RecordAhead}
use Rattle.segments.specs.Spots.{spot_after, first_spot}
use Rattle.segments.specs.Promise.{GoodSpans, Before, Takeable, SpotTaken, Coming, Comes}
use Rattle.segments.proofs.SpotLaws.{after_more}
use Rattle.segments.proofs.GoodLaws.{good_same, good_before}

pub record Passing (s : List ℕ) (count : ℕ) (at : Spot) (number : ℕ) : Type 0 where
  pub takeable : Takeable s count
  pub inside : number ≤ count
  pub before : (g : ℕ) (recs : List (List (List ℕ))) → GoodSpans g s recs → Before g s at (drop number (joined recs))
  pub is : (g : ℕ) (recs : List (List (List ℕ))) → GoodSpans g s recs → at ≡ spot_after s (length (joined (take number (joined recs)))) first_spot

pub passing_start : {s : List ℕ} {count : ℕ} → Takeable s count → Passing s count first_spot 0
passing_start t = record { takeable = t; inside = omega arith; before = λ g recs w. good_before w; is = λ g recs w. refl }

module _ {s : List ℕ} {count : ℕ} {at : Spot} {number : ℕ} (k : Passing s count at number) where
  pub passing_end : count ≤ number → SpotTaken s count at
  passing_end l =
      let q : number ≡ count = omega (arith, k.inside) in
      record {
        before = λ g recs w. subst (λ (n : ℕ). Before g s at (drop n (joined recs))) q (k.before g recs w);
        is = λ g recs w. subst (λ (n : ℕ). at ≡ spot_after s (length (joined (take n (joined recs)))) first_spot) q (k.is g recs w);
      }

  module _ (l : number < count) where
    -- one record more is there
    enough : {g : ℕ} {recs : List (List (List ℕ))} → GoodSpans g s recs → number < length (joined recs)
    enough w = omega (arith, k.takeable.enough, ap length (good_same w k.takeable.good))

    record_there : (g : ℕ) (recs : List (List (List ℕ))) → GoodSpans g s recs → Before g s at (get_or (joined recs) number [] ∷ drop (suc number) (joined recs))
    record_there g recs w = subst (Before g s at) (drop-cons (joined recs) number [] (enough w)) (k.before g recs w)

    pub passing_next : Coming s at
    passing_next =
        let t = k.takeable in
        record {
          g = t.g;
          next = get_or (joined t.recs) number [];
          more = drop (suc number) (joined t.recs);
          before = record_there t.g t.recs t.good;
        }

    pub passing_more : (a : RecordAhead) → Comes s at a → Passing s count a.behind (number + 1)
    passing_more a c =
        record {
          takeable = k.takeable;
          inside = omega arith;
          before = λ g recs w.
              subst (λ (n : ℕ). Before g s a.behind (drop n (joined recs))) (sym (add-one number))
              (c.behind g (get_or (joined recs) number []) (drop (suc number) (joined recs)) (record_there g recs w));
          is = λ g recs w. behind_is g recs w;
        }
      where
        behind_is : (g : ℕ) (recs : List (List (List ℕ))) → GoodSpans g s recs → a.behind ≡ spot_after s (length (joined (take (number + 1) (joined recs)))) first_spot
        behind_is g recs w =
            let rs = joined recs in
            let r = get_or (joined recs) number [] in
            let m = length (joined (take number (joined recs))) in
            let size : a.size ≡ length r = c.size g r (drop (suc number) rs) (record_there g recs w) in
            let sum : m + length r ≡ length (joined (take (number + 1) (joined recs))) =
            sym (ap (λ (n : ℕ). length (joined (take n rs))) (add-one number) ∙ ap (λ (z : List (List ℕ)). length (joined z)) (take-suc rs number [] (enough w))
            ∙ ap length (joined_last (take number rs) r) ∙ length-append (joined (take number rs)) r) in
            c.is
            ∙ ap (λ (n : ℕ). spot_after s n at) size
            ∙ ap (spot_after s (length r)) (k.is g recs w)
            ∙ sym (after_more s m (length r) first_spot)
            ∙ ap (λ (n : ℕ). spot_after s n first_spot) sum
