-- Each loss is what the rules say: a half that is missing has the reason of its fields, which is 1, 2 or 3, and every other half 0; so the halves in their
-- order are the losses of the plan. By cases on the tests.
use mathlib.Core.Path.{◌≡◌, refl, ap, ap₂, ◌∙◌}
use mathlib.Core.Bool.{Bool, true, false, cond, not, ◌&&◌}
use mathlib.Core.List.{List}
use Prim.Native.Nat.{ℕ, ◌*◌, ◌≤◌, ◌<◌}
use native.Mathlib.Nat.{zero-add}
use native.Mathlib.Omega.{arith}
use lib.Dec.{ltb, eqb}
use lib.ListN.{get_or, replicate, length-replicate}
use borrow.Author.Tests.{lt-ltb, le-ltb, eq-eqb, ne_eqb}
use Rattle.rules.specs.Halves.{Field as RuleField, sources}
use Rattle.rules.specs.Permitted.{permitted}
use Rattle.rules.specs.Keeping.{missing}
use Rattle.rules.specs.Plan.{Plan, bit, selects, record_length, block_length, input_halves, allowed, sources_of, tail_kept}
use Rattle.rules.specs.Lent.{zone_f}
use Rattle.rules.specs.Twins.{listed, reason_by}
use Rattle.rules.specs.Losses.{is_lost, loss_at, is_tail_lost}
use Rattle.rules.proofs.Halves.ListedLaws.{get_d_listed, listed_all}
use Rattle.terms.specs.Meaning.{mode_of, format_of, size_of, plan_in}
use Rattle.terms.specs.declared.Asked.{Asked}
use Rattle.rows.specs.Flat.{field_at}
use Rattle.rows.specs.Fair.{PlanFair}
use Rattle.sources.specs.Promise.{RowInside}
use Rattle.sources.proofs.Fields.{fair_longer}
use Rattle.keeping.proofs.Weighs.{zeros}
use Rattle.plans.specs.Verdict.{tail_told}
use Rattle.reasons.proofs.FairLaws.{fields_fair}
use Rattle.losses.specs.Promise.{loss_of, Reasoned}

-- fields inside their records lie inside the longest output
pub fair_wide : (row : List ℕ) (n m : ℕ) → RowInside row n m → RowInside row n 4096
fair_wide row n m fair = record {
  few = fair.few;
  n_high = fair.n_high;
  m_high = omega arith;
  each = λ k l. fair_longer n m n 4096 (field_at row k) (omega arith) fair.m_high (fair.each k l);
}

-- the fields of an accepted plan lie inside its records
pub fields_inside : (x : Asked) (row : List ℕ) → PlanFair x row → (n m : ℕ) → n ≡ record_length (size_of x.input) → m ≡ record_length (size_of x.output)
    → RowInside row n m
fields_inside x row fair n m a b = rw (a, b) (fields_fair x row fair)

-- ---- one half

module _ (fs : List RuleField) (n h mark : ℕ) where
  pub loss_none : mark ≡ 0 → 0 ≡ loss_of fs n h mark
  unfolding loss_of
  loss_none e = rw (eq-eqb mark 0 e)

  module _ (some : mark ≡ 0 → ⊥) where
    pub loss_past : 2 * n ≤ h → 0 ≡ loss_of fs n h mark
    unfolding loss_of
    loss_past l = rw (ne_eqb mark 0 some, le-ltb h (2 * n) l)

    pub loss_here : h < 2 * n → reason_by zone_f (2 * n) h 1 fs ≡ loss_of fs n h mark
    unfolding loss_of
    loss_here l = rw (ne_eqb mark 0 some, lt-ltb h (2 * n) l)

-- ---- all halves

-- 1 where a half of records of n bytes is missing from the m bytes that they become
abbrev pub marked : List RuleField → ℕ → ℕ → ℕ → ℕ
marked fs n m h = bit (missing (permitted zone_f fs) (sources zone_f m fs (2 * n)) h)

module _ (x : Asked) (fs : List RuleField) where
  abbrev p : Plan
  p = plan_in zone_f x fs

  -- where the records are carried unchanged nothing is lost
  not_lost : selects (mode_of x.mode) ≡ false → (h : ℕ) → 0 ≡ loss_at p h
  unfolding loss_at is_lost plan_in
  not_lost e h = rw e

  pub none_lost : selects (mode_of x.mode) ≡ false → replicate 8192 0 ≡ listed (loss_at p) 0 8192
  none_lost e = listed_all (loss_at p) 8192 (replicate 8192 0) (length-replicate {A = ℕ} 8192 0) (λ j l. zeros 8192 j ∙ not_lost e j)

  module _ (s : selects (mode_of x.mode) ≡ true) where
    loss_at_lem : (h : ℕ) → let n = record_length (size_of x.input) in loss_of fs n h (marked fs n (record_length (size_of x.output)) h) ≡ loss_at p h
    unfolding loss_of loss_at is_lost input_halves allowed sources_of plan_in
    loss_at_lem h = rw s (go (missing (permitted zone_f fs) (sources zone_f m fs (2 * n)) h) (ltb h (2 * n)))
      where
        n : ℕ
        n = record_length (size_of x.input)

        m : ℕ
        m = record_length (size_of x.output)

        go : (t low : Bool) → cond (not (eqb (bit t) 0) && low) (reason_by zone_f (2 * n) h 1 fs) 0 ≡ cond (low && t) (reason_by zone_f (2 * n) h 1 fs) 0
        go true true = refl
        go true false = refl
        go false true = refl
        go false false = refl

    -- the halves that are missing, each with its reason, are the losses
    pub losses_are : (n m : ℕ) → n ≡ record_length (size_of x.input) → m ≡ record_length (size_of x.output)
        → (before after : List ℕ) → before ≡ listed (marked fs n m) 0 8192 → Reasoned fs n before after → after ≡ listed (loss_at p) 0 8192
    losses_are n m a b before after e r =
        listed_all (loss_at p) 8192 after r.long
        (λ j l. r.each j l ∙ ap (loss_of fs n j) (ap (λ (xs : List ℕ). get_or xs j 0) e ∙ get_d_listed (marked fs n m) 0 8192 j l ∙ ap (marked fs n m) (zero-add j))
        ∙ ap₂ (λ (i o : ℕ). loss_of fs i j (marked fs i o j)) a b ∙ loss_at_lem j)

  -- ---- the tail

  pub tail_unlost : selects (mode_of x.mode) ≡ false → false ≡ is_tail_lost p
  unfolding is_tail_lost plan_in
  tail_unlost e = rw e

  pub tail_lost : selects (mode_of x.mode) ≡ true → (n m : ℕ) → n ≡ record_length (size_of x.input) → m ≡ block_length (size_of x.input)
      → not (tail_told (format_of x.format) x.cv n m) ≡ is_tail_lost p
  unfolding is_tail_lost tail_kept plan_in
  tail_lost s n m a b = rw (s, a, b)
