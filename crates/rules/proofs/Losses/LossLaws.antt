-- Each loss that the table gives is one, and there is no other: two records that differ in a half alone and have one output record are there exactly where the half
-- is missing, and at the tail exactly where it is neither carried nor empty; the reason holds of every missing half. TC and TR plans keep, so they have no such records.
use mathlib.Core.Path.{◌≡◌, refl, sym, ◌∙◌, subst}
use mathlib.Core.Logic.{◌↔◌}
use mathlib.Core.Bool.{Bool, true, false, cond, not, false≢true}
use mathlib.Core.List.{List, [], ◌∷◌}
use Prim.Native.Nat.{ℕ, ◌≤◌, ◌<◌}
use native.Mathlib.Omega.{arith}
use lib.Dec.{eqb}
use borrow.Author.Tests.{lt-ltb, ne_eqb}
use Rattle.rules.specs.Halves.{Field}
use Rattle.rules.specs.Permitted.{reads, first_of}
use Rattle.rules.specs.Keeping.{missing, lost_half}
use Rattle.rules.specs.Plan.{Plan, selects, input_halves, allowed, sources_of, lost_at, tail_kept, keeps}
use Rattle.rules.specs.Accepted.{Accepted}
use Rattle.rules.specs.Demand.{Keeping, TwinsAt, TailTwins}
use Rattle.rules.specs.Twins.{shows, reason_of, reason_by, reason}
use Rattle.rules.specs.TwinWords.{Reason}
use Rattle.rules.specs.Losses.{is_lost, loss_at, is_tail_lost, LossSays, LossesSay}
use Rattle.rules.proofs.Keeping.MarkLaws.{first_alike}
use Rattle.rules.proofs.Keeping.Twins.{lost_missing, no_twins, twins, tail_twins}
use Rattle.rules.proofs.Keeping.Demand3.{kept_plan, kept_twins, kept_tail, no_tail_twins}
use Rattle.rules.proofs.Twins.TwinReasons.{reason_half}

-- ---- what the numbers are

-- a reason is never 0
module _ (zone many h : ℕ) where
  some_reason : (t s : Bool) (x : ℕ) → 1 ≤ x → 1 ≤ cond t (cond s 3 2) x
  some_reason false s x l = l
  some_reason true true x l = omega arith
  some_reason true false x l = omega arith

  reason_low : (x : ℕ) (fs : List Field) → 1 ≤ x → 1 ≤ reason_by zone many h x fs
  unfolding reason_of
  reason_low x [] l = l
  reason_low x (f ∷ fs) l = reason_low (cond (reads f h) (cond (shows zone many h f) 3 2) x) fs (some_reason (reads f h) (shows zone many h f) x l)

module _ (p : Plan) where
  abbrev why_lost : ℕ → ℕ
  why_lost h = reason_by p.zone (input_halves p) h 1 p.fields

  why_low : (h : ℕ) → 1 ≤ why_lost h
  why_low h = reason_low p.zone (input_halves p) h 1 p.fields (omega arith)

  carried_loss : (h : ℕ) → selects p.mode ≡ false → loss_at p h ≡ 0
  unfolding loss_at is_lost
  carried_loss h sel = rw sel

  -- with TF or TRF it is the reason exactly where the half is missing
  module _ (sel : selects p.mode ≡ true) where
    loss_is : (h : ℕ) → h < input_halves p → loss_at p h ≡ cond (missing (allowed p) (sources_of p) h) (why_lost h) 0
    unfolding loss_at is_lost
    loss_is h l = rw (sel, lt-ltb h (input_halves p) l)

    loss_missing : (h : ℕ) → h < input_halves p → not (eqb (loss_at p h) 0) ≡ missing (allowed p) (sources_of p) h
    loss_missing h l = rw (loss_is h l) (go (missing (allowed p) (sources_of p) h))
      where
        go : (t : Bool) → not (eqb (cond t (why_lost h) 0) 0) ≡ t
        go true = rw (ne_eqb (why_lost h) 0 (λ e. omega (arith, why_low h)))
        go false = refl

-- the first half of the table that is lost is the lost place of the plan's answer
pub loss_lowest : (p : Plan) → selects p.mode ≡ true → first_of (λ h. not (eqb (loss_at p h) 0)) 0 (input_halves p) ≡ lost_at p
unfolding lost_at lost_half
loss_lowest p sel = first_alike _ _ 0 (input_halves p) (λ h l. loss_missing p sel h (omega arith))

-- and its reason is that of the twins
pub loss_reason : (p : Plan) → selects p.mode ≡ true → lost_at p < input_halves p → loss_at p (lost_at p) ≡ reason p
unfolding reason
loss_reason p sel l = loss_is p sel (lost_at p) l ∙ rw (lost_missing p l, ne_eqb (lost_at p) (input_halves p) (λ e. omega arith))

-- ---- what they say

module _ (p : Plan) (h k : ℕ) where
  kept_says : k ≡ 0 → (TwinsAt p h → ⊥) → LossSays p h k
  kept_says e none = record { kept = (λ z. none, λ n. e); lost = λ d. absurd (d e) }

  lost_says : 1 ≤ k → TwinsAt p h → Reason p h k → LossSays p h k
  lost_says l t r = record { kept = (λ e. absurd (omega arith), λ none. absurd (none t)); lost = λ d. (t, r) }

module _ (p : Plan) (z : p.zone < 16) (ok : Accepted p) where
  -- TC and TR carry records unchanged
  carried_keeps : selects p.mode ≡ false → Keeping p
  unfolding keeps
  carried_keeps sel = kept_plan p z ok (rw sel)

  half_says : (h : ℕ) → h < input_halves p → LossSays p h (loss_at p h)
  half_says h l = go (selects p.mode) refl (missing (allowed p) (sources_of p) h) refl
    where
      go : (s : Bool) → selects p.mode ≡ s → (m : Bool) → missing (allowed p) (sources_of p) h ≡ m → LossSays p h (loss_at p h)
      go false s m e = kept_says p h _ (carried_loss p h s) (kept_twins p h (carried_keeps s))
      go true s false e = kept_says p h _ (loss_is p s h l ∙ rw e) (no_twins p z ok s h l e)
      go true s true e =
          let why : why_lost p h ≡ loss_at p h = sym (loss_is p s h l ∙ rw e) in
          subst (LossSays p h) why (lost_says p h _ (why_low p h) (twins p z ok s h l e).0 (reason_half p z ok h l e))

  tail_says : (is_tail_lost p ≡ true) ↔ TailTwins p
  unfolding is_tail_lost
  tail_says = go (selects p.mode) refl (tail_kept p) refl
    where
      go : (s : Bool) → selects p.mode ≡ s → (k : Bool) → tail_kept p ≡ k → (is_tail_lost p ≡ true) ↔ TailTwins p
      go false s k e = (λ t. absurd (false≢true (rw s at t)), λ t. absurd (kept_tail p (carried_keeps s) t))
      go true s true e = (λ t. absurd (false≢true (rw (s, e) at t)), λ t. absurd (no_tail_twins p z ok s e t))
      go true s false e = (λ t. (tail_twins p z ok s e).0, λ t. rw (s, e))

-- all losses of an accepted plan
pub losses_say : (p : Plan) → p.zone < 16 → Accepted p → LossesSay p
losses_say p z ok = record { halves = half_says p z ok; tail = tail_says p z ok }
