-- The plan that a struct is with the deck's fields, where it says what the deck asks for, is the plan of the rules: part by part, and CV is given exactly if some card says it.
use mathlib.Core.Path.{◌≡◌, refl, ap, ◌∙◌}
use mathlib.Core.Bool.{Bool, true, false, not}
use mathlib.Core.List.{List, [], ◌∷◌}
use Prim.Native.Nat.{ℕ, suc, ◌≤◌}
use native.Mathlib.Omega.{arith}
use lib.Dec.{eqb}
use borrow.Author.Tests.{eqb-true, eqb-false, ne_eqb}
use Rattle.rules.specs.Base.{joined}
use Rattle.rules.specs.Grammar.{Item}
use Rattle.rules.specs.Asked.{cvs, Asked as RuleAsked}
use Rattle.rules.specs.Plan.{joined_size, assembled}
use Rattle.rules.specs.Keys.{through_utility}
use Rattle.rules.proofs.Deck.AcceptedLaws.{cvs_append}
use Rattle.terms.specs.Meaning.{utility_of, cv_card, Means, plan_in}
use Rattle.terms.specs.declared.Asked.{Asked}

-- a card is named exactly if some card says CV
pub cv_said : (i : ℕ) → 1 ≤ i → (cards : List (List Item)) → eqb (cv_card i cards) 0 ≡ eqb (cvs (joined cards)) 0
cv_said i l [] = refl
cv_said i l (c ∷ cards) = go (cv_said (suc i) (omega arith) cards) (eqb (cvs c) 0) refl
  where
    go : eqb (cv_card (suc i) cards) 0 ≡ eqb (cvs (joined cards)) 0 → (t : Bool) → eqb (cvs c) 0 ≡ t → eqb (cv_card i (c ∷ cards)) 0 ≡ eqb (cvs (joined (c ∷ cards))) 0
    go ih true t =
        let e : cvs (joined (c ∷ cards)) ≡ cvs (joined cards) = omega (arith, cvs_append c (joined cards), eqb-true (cvs c) 0 t) in
        rw (t, e) ih
    go ih false t =
        let n = eqb-false (cvs c) 0 t in
        rw (t, ne_eqb i 0 (λ q. omega arith), ne_eqb (cvs (joined (c ∷ cards))) 0 (λ q. n (omega (arith, cvs_append c (joined cards)))))

pub plan_means : (zone : ℕ) (x : Asked) (a : RuleAsked) → Means x a → plan_in zone x (assembled zone a).fields ≡ assembled zone a
unfolding plan_in assembled utility_of through_utility
plan_means zone x a m =
    let u = m.utility in
    let c : eqb x.cv 0 ≡ eqb (cvs (joined a.cards)) 0 = ap (λ (z : ℕ). eqb z 0) m.cv ∙ cv_said 2 (omega arith) a.cards in
    λ i. record {
      zone = zone;
      mode = (u i).mode;
      format = (u i).format;
      input = joined_size (u i).input;
      output = (u i).output;
      first = (u i).first;
      fields = (assembled zone a).fields;
      carries = not (c i);
    }
