-- Row 14 in the paper's words is what its test finds: the output records of some records, in words, are those that the definition makes, so that the one block
-- exceeds a block of B exactly if the other does.
use mathlib.Core.Path.{◌≡◌, subst}
use mathlib.Core.Logic.{◌⊎◌, inl, inr}
use mathlib.Core.List.{List, [], ◌∷◌, ◌++◌}
use Prim.Native.Nat.{ℕ, ◌-◌, ◌≤◌, ◌<◌}
use lib.ListN.{length}
use Rattle.rules.specs.Base.{joined}
use Rattle.rules.specs.Places.{All, no_more, also, Found}
use Rattle.rules.specs.Grammar.{tf}
use Rattle.rules.specs.Plan.{Plan}
use Rattle.rules.specs.Accepted.{Accepted}
use Rattle.rules.specs.RunRows.{Exceeds, TooLong, Overfills}
use Rattle.rules.proofs.Base.AllLaws.{all_head, all_left, all_right, all_append, all_drop, all_joined}
use Rattle.rules.proofs.Refusals.Given.{found_with}
use Rattle.rules.proofs.Refusals.Overfull.{OutExceeds}
use Rattle.rules.proofs.Refusals.FitOutcome.{Exceeding}
use Rattle.rules.proofs.Halves.OutputWords.{Whole, outputs_told, outputs_once}

-- of every block: the records up to one of them
overfills_with : (pl : Plan) {T : List ℕ → Type 0} {P Q : List (List ℕ) → Type 0} → ((rs : List (List ℕ)) → All T rs → P rs → Q rs)
    → {recs : List (List (List ℕ))} {p : ℕ} → All (All T) recs → Overfills pl P recs p → Overfills pl Q recs p
overfills_with pl {T} f ws o =
    let b : All T (o.before ++ (o.r ∷ o.rest)) = all_head (all_right o.earlier _ (subst (All (All T)) o.split ws)) in
    let k = pl.first - 1 - length (joined o.earlier) in
    record {
      earlier = o.earlier;
      before = o.before;
      r = o.r;
      rest = o.rest;
      further = o.further;
      split = o.split;
      place = o.place;
      over = f _ (all_drop k (all_append (all_left o.before _ b) (also (all_head (all_right o.before _ b)) no_more))) o.over;
    }

module _ (pl : Plan) (z : pl.zone < 16) (ok : Accepted pl) where
  exceeds_told : (rs : List (List ℕ)) → All (Whole pl) rs → OutExceeds pl rs → TooLong pl rs
  exceeds_told rs ws e = (_, outputs_told pl z ok ws, e)

  told_exceeds : (rs : List (List ℕ)) → All (Whole pl) rs → TooLong pl rs → OutExceeds pl rs
  told_exceeds rs ws (outs, o, e) = subst (Exceeds pl) (outputs_once pl z ok ws o) e

  module _ {recs : List (List (List ℕ))} (ws : All (All (Whole pl)) recs) (p : ℕ) where
    -- record p is too long by itself, or in TF overfills its block
    abbrev pub LongAt : Type 0
    LongAt = Found (λ r. TooLong pl (r ∷ [])) p 1 (joined recs) ⊎ ((pl.mode ≡ tf) × Overfills pl (TooLong pl) recs p)

    pub long_told : Exceeding pl recs p → (pl.first ≤ p) × LongAt
    long_told (l, inl f) = (l, inl (found_with (λ r w e. exceeds_told (r ∷ []) (also w no_more) e) (all_joined ws) f))
    long_told (l, inr (t, o)) = (l, inr (t, overfills_with pl exceeds_told ws o))

    pub told_long : (pl.first ≤ p) × LongAt → Exceeding pl recs p
    told_long (l, inl f) = (l, inl (found_with (λ r w e. told_exceeds (r ∷ []) (also w no_more) e) (all_joined ws) f))
    told_long (l, inr (t, o)) = (l, inr (t, overfills_with pl told_exceeds ws o))
