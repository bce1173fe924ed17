-- What is written of a plan that loses is its two records: the values are the lowest permitted, and the value above that of the lost half is the next. And the twins
-- of a deck are those of its plan, or its refusal, by cases on the plan.
use mathlib.Core.Path.{◌≡◌, refl, ap, ap₂, sym, ◌∙◌, subst}
use mathlib.Core.Bool.{Bool, true, false, cond, not}
use mathlib.Core.List.{List, [], ◌∷◌, ◌++◌, append_assoc}
use Prim.Native.Nat.{ℕ, suc, ◌+◌, ◌*◌, ◌≤◌, ◌<◌}
use native.Mathlib.Nat.{zero-add}
use native.Mathlib.Omega.{arith}
use lib.Dec.{leb, eqb}
use lib.ListN.{length, take, drop, get_or}
use borrow.Author.Tests.{eqb-true, eqb-false, eq-eqb, ne_eqb, le-leb, lt-leb}
use Rattle.rules.specs.Answer.{Answer, fine, refuse, refused_at, ◌>>=◌, ◌>>◌, unless}
use Rattle.rules.specs.Halves.{bytes}
use Rattle.rules.specs.Permitted.{permitted, choices}
use Rattle.rules.specs.Plan.{Plan, plan_answer, bit, record_length, input_halves, allowed, lost_at, keeps}
use Rattle.rules.specs.Lent.{zone_f, plan}
use Rattle.rules.specs.Twins.{listed, lowest, second, raised, first_twin, second_twin, twins, reason_by, reason, Shown, shown, twins_into, TwinsAnswer, twins_answer, twins_after}
use Rattle.rules.proofs.Halves.ListedLaws.{get_d_listed, listed_same}
use Rattle.rules.proofs.Keeping.KeepingLaws.{lowest_passes, second_passes}
use Rattle.rules.proofs.Keeping.Twins.{lost_most}
use Rattle.rules.proofs.Twins.TwinLaws.{lost_two, length_first, length_second, length_more, length_twins}
use Rattle.rules.proofs.Twins.NextValue.{lost_next}
use Rattle.terms.specs.Meaning.{size_of, plan_in}
use Rattle.terms.specs.declared.Asked.{Asked}
use Rattle.rows.specs.Kept.{fields_in}
use Rattle.rows.specs.Fair.{PlanFair}
use Rattle.sources.specs.Promise.{RowInside}
use Rattle.reasons.proofs.FairLaws.{fields_fair}
use Rattle.plans.specs.Promise.{planned_of, HoldsPlan, Plans}
use Rattle.plans.specs.declared.DeckPlan.{DeckPlan}
use Rattle.plans.specs.declared.Planned.{Planned}
use Rattle.plans.proofs.FilledLaws.{refused_plan_lem, accepted_plan, plan_is, plan_fair, row_holds}
use Rattle.twin_records.specs.Promise.{raised_in, Values, needed_for, twin_records, WrittenInto}
use Rattle.twins.specs.Promise.{Loses, twins_of, twins_numbers, refused_twins, twins_fitting, ShownInto, TwinsWritten}
use Rattle.twins.specs.declared.Twins.{Twins}

-- ---- an accepted plan

module _ (x : Asked) (row : List ℕ) (fair : PlanFair x row) where
  abbrev p : Plan
  p = plan_in zone_f x (fields_in row)

  abbrev n : ℕ
  n = record_length (size_of x.input)

  -- ---- the reason

  module _ (lost : ℕ) (place : lost ≡ lost_at p) where
    pub reason_tail : lost ≡ 2 * n → 4 ≡ reason p
    unfolding reason input_halves plan_in
    reason_tail e = rw (eq-eqb (lost_at p) (2 * n) (sym place ∙ e))

    pub reason_half : (lost ≡ 2 * n → ⊥) → (r : ℕ)
        → ((a b : ℕ) → RowInside row a b → r ≡ reason_by zone_f (2 * a) lost 1 (fields_in row)) → r ≡ reason p
    unfolding reason input_halves plan_in
    reason_half h r w =
        let ne : eqb (lost_at p) (2 * n) ≡ false = ne_eqb (lost_at p) (2 * n) (λ e. h (place ∙ e)) in
        w n _ (fields_fair x row fair) ∙ ap (λ (l : ℕ). reason_by zone_f (2 * n) l 1 (fields_in row)) place ∙ rw ne refl

  -- ---- the two records

  module _ (lost : ℕ) (loses : Loses p lost) (values : List ℕ) (are : values ≡ listed (lowest (permitted zone_f (fields_in row))) 0 8192) where
    short : 2 * n ≤ 8192
    short = omega (arith, (fields_fair x row fair).n_high)

    value_at : (i : ℕ) → i < 2 * n → get_or values i 0 ≡ lowest (allowed p) i
    unfolding allowed plan_in
    value_at i l = ap (λ (vs : List ℕ). get_or vs i 0) are ∙ get_d_listed (lowest (allowed p)) 0 8192 i (omega (arith, short)) ∙ ap (lowest (allowed p)) (zero-add i)

    first_at : (i : ℕ) → i < 2 * n → raised_in values (2 * n) i ≡ lowest (allowed p) i
    unfolding raised_in
    first_at i l = rw (ne_eqb i (2 * n) (λ e. omega arith)) (value_at i l)

    second_at : (i : ℕ) → i < 2 * n → raised_in values lost i ≡ raised (allowed p) (lost_at p) i
    unfolding raised_in raised input_halves plan_in
    second_at i l = go (eqb i lost) refl
      where
        go : (t : Bool) → eqb i lost ≡ t → cond (eqb i lost) (suc (get_or values i 0)) (get_or values i 0) ≡ cond (eqb i (lost_at p)) (second (allowed p) i) (lowest (allowed p) i)
        go true t =
            let e : i ≡ lost_at p = eqb-true i lost t ∙ loses.place in
            rw (t, eq-eqb i (lost_at p) e)
            (ap suc (value_at i l) ∙ sym (subst (λ (j : ℕ). second (allowed p) j ≡ suc (lowest (allowed p) j)) (sym e) (lost_next p (subst (λ (j : ℕ). j < 2 * n) e l))))
        go false t = rw (t, ne_eqb i (lost_at p) (λ e. eqb-false i lost t (e ∙ sym loses.place))) (value_at i l)

    pub records_are : twin_records values n lost ≡ twins p
    unfolding twin_records twins first_twin second_twin input_halves plan_in
    records_are =
        let first = listed_same (raised_in values (2 * n)) (lowest (allowed p)) 0 (2 * n) (λ j a b. first_at j (omega arith)) in
        let other = listed_same (raised_in values lost) (raised (allowed p) (lost_at p)) 0 (2 * n) (λ j a b. second_at j (omega arith)) in
        let tail = ap (λ (h : ℕ). cond {A = List ℕ} (eqb h (2 * n)) (0 ∷ []) []) loses.place in
        ap₂ ◌++◌ (ap₂ ◌++◌ (ap bytes first) (ap bytes other)) tail ∙ append_assoc (first_twin p) (bytes (listed (raised (allowed p) (lost_at p)) 0 (2 * n))) _

    pub values_small : Values values lost (2 * n)
    unfolding raised input_halves plan_in
    values_small = record { few = short; halves = λ i l. rw (second_at i l) (go i l (eqb i (lost_at p)) refl) }
      where
        go : (i : ℕ) → i < 2 * n → (t : Bool) → eqb i (lost_at p) ≡ t → cond (eqb i (lost_at p)) (second (allowed p) i) (lowest (allowed p) i) < 16
        go i l true t =
            let e = eqb-true i (lost_at p) t in
            rw t (second_passes (allowed p) i (subst (λ (j : ℕ). 2 ≤ choices (allowed p) j) (sym e) (lost_two p (subst (λ (j : ℕ). j < 2 * n) e l)))).1
        go i l false t = rw t (lowest_passes (allowed p) i (fair.accepted.some i l)).0

  module _ (lost : ℕ) (loses : Loses p lost) where
    pub needed_is : needed_for n lost ≡ length (twins p)
    unfolding needed_for input_halves plan_in
    needed_is = go (eqb lost (2 * n)) refl
      where
        go : (t : Bool) → eqb lost (2 * n) ≡ t → cond t (2 * n + 1) (2 * n) ≡ length (twins p)
        go true t = omega (arith, length_twins p, length_first p, length_more p (sym loses.place ∙ eqb-true lost (2 * n) t))
        go false t =
            let l : lost_at p < 2 * n = let d = eqb-false lost (2 * n) t in omega (arith, lost_most p, loses.place) in
            omega (arith, length_twins p, length_first p, length_second p l)

    -- refusal 15, or both records, where A's n was read as a
    pub shown_full : (before : List ℕ) (a k : ℕ) → a ≡ n → k ≡ needed_for a lost → length before < k → ShownInto p before (refused_twins 15 k 0) before
    unfolding twins_fitting unless ◌>>◌
    shown_full before a k d e l =
        let same : k ≡ length (twins p) = e ∙ ap (λ (m : ℕ). needed_for m lost) d ∙ needed_is in
        let short : leb (length (twins p)) (length before) ≡ false = lt-leb (length (twins p)) (length before) (omega arith) in
        record { answer = rw short (ap (λ (m : ℕ). refused_twins 15 m 0) same); output = rw short }

    pub shown_both : (before after values : List ℕ) (a k why : ℕ) → values ≡ listed (lowest (permitted zone_f (fields_in row))) 0 8192
        → a ≡ n → k ≡ needed_for a lost → k ≤ length before → why ≡ reason p → WrittenInto (twin_records values a lost) before after
        → ShownInto p before (record { refusal = 0; place = 0; column = 0; reason = why; length = k }) after
    unfolding twins_fitting unless ◌>>◌
    shown_both before after values a k why are d e l r w =
        let same : k ≡ length (twins p) = e ∙ ap (λ (m : ℕ). needed_for m lost) d ∙ needed_is in
        let roomy : leb (length (twins p)) (length before) ≡ true = le-leb (length (twins p)) (length before) (omega arith) in
        record {
          answer = rw roomy (λ i. record { refusal = 0; place = 0; column = 0; reason = r i; length = same i });
          output = rw roomy (w ∙ ap (λ (rs : List ℕ). rs ++ drop (length rs) before) (ap (λ (m : ℕ). twin_records values m lost) d ∙ records_are lost loses values are));
        }

-- ---- a deck

module _ (deck before : List ℕ) (r : DeckPlan) (row : List ℕ) (w : Plans deck r row) where
  planned : (x : Answer Plan) → plan deck ≡ x
      → twins_into (length before) deck ≡ (x >>= λ p. unless (not (keeps p)) 16 0 >> (unless (leb (length (twins p)) (length before)) 15 (length (twins p)) >> fine (shown p)))
  unfolding twins_into
  planned x e = ap (λ (y : Answer Plan). y >>= λ p. unless (not (keeps p)) 16 0 >> (unless (leb (length (twins p)) (length before)) 15 (length (twins p)) >> fine (shown p))) e

  into_of : (x : Answer Shown) → twins_into (length before) deck ≡ x → (t : Twins) (after : List ℕ) → t ≡ twins_of (twins_answer x) → after ≡ twins_after before x → TwinsWritten deck before t after
  into_of x e t after a o = record { answer = a ∙ ap (λ (y : Answer Shown). twins_of (twins_answer y)) (sym e); output = o ∙ ap (twins_after before) (sym e) }

  pub twins_refused : (r.answer.refusal ≡ 0 → ⊥) → TwinsWritten deck before (refused_twins r.answer.refusal r.answer.place r.answer.column) before
  unfolding ◌>>=◌
  twins_refused h =
      let q = refused_plan_lem deck r row w h in
      into_of (refuse q.0) (planned (refuse q.0) q.1) _ before (λ i. refused_twins (q.2 i) (q.3 i) (q.4 i)) refl

  module _ (z : r.answer.refusal ≡ 0) where
    made : (p : Plan) × (plan deck ≡ fine p) × (r.answer ≡ planned_of (plan_answer (fine p))) × HoldsPlan deck p r.asked row
    made = accepted_plan deck r row w z

    -- the numbers of its fields, at most 320, stand at the front of the row
    all_fields_lem : 5 * r.asked.count ≡ 5 * length made.0.fields
    all_fields_lem = ap (λ (k : ℕ). 5 * k) made.3.count

    pub fields_stand : (5 * r.asked.count ≤ 320) × (length row ≡ 320)
    fields_stand = let s = row_holds deck made.0 made.1 r.asked row made.3 in (omega (arith, all_fields_lem, s.0), s.1)

    is : plan_in zone_f r.asked (fields_in (take (5 * r.asked.count) row)) ≡ made.0
    is = plan_is deck made.0 r.asked row made.3 (5 * r.asked.count) all_fields_lem

    pub fair_plan : PlanFair r.asked (take (5 * r.asked.count) row)
    fair_plan = plan_fair deck made.0 r.asked row made.3 (5 * r.asked.count) all_fields_lem made.1

    pub twins_kept : (r.answer.keeping ≡ 0 → ⊥) → TwinsWritten deck before (refused_twins 16 0 0) before
    unfolding ◌>>=◌ unless ◌>>◌
    twins_kept h = go (keeps made.0) refl
      where
        go : (k : Bool) → keeps made.0 ≡ k → TwinsWritten deck before (refused_twins 16 0 0) before
        go true k = into_of (refused_at 16 0 0) (planned (fine made.0) made.1 ∙ rw k refl) _ before refl refl
        go false k = absurd (h (ap (λ (a : Planned). a.keeping) made.2 ∙ ap bit k))

    pub loses_of : r.answer.keeping ≡ 0 → Loses (plan_in zone_f r.asked (fields_in (take (5 * r.asked.count) row))) r.answer.lost
    loses_of e = subst (λ (q : Plan). Loses q r.answer.lost) (sym is) (go (keeps made.0) refl)
      where
        go : (k : Bool) → keeps made.0 ≡ k → Loses made.0 r.answer.lost
        go true k = absurd (omega (arith, sym (ap (λ (a : Planned). a.keeping) made.2 ∙ ap bit k) ∙ e))
        go false k = record { loses = k; place = ap (λ (a : Planned). a.lost) made.2 ∙ ap (λ (b : Bool). cond b 0 (lost_at made.0)) k }

    pub twins_shown : r.answer.keeping ≡ 0 → (t : Twins) (after : List ℕ) → ShownInto (plan_in zone_f r.asked (fields_in (take (5 * r.asked.count) row))) before t after → TwinsWritten deck before t after
    unfolding ◌>>=◌ unless ◌>>◌ twins_fitting
    twins_shown e t after s =
        let k = (loses_of e).loses in
        let q : Plan = plan_in zone_f r.asked (fields_in (take (5 * r.asked.count) row)) in
        into_of (twins_fitting (length before) q) (planned (fine q) (made.1 ∙ ap fine (sym is)) ∙ rw k refl) t after s.answer s.output

-- the struct says all that the rules answer
pub twins_told : (x : TwinsAnswer) → twins_numbers (twins_of x) ≡ x
twins_told x = refl

-- the promise allows one outcome alone
pub only_one : (deck before : List ℕ) (r r' : Twins) (after after' : List ℕ) → TwinsWritten deck before r after → TwinsWritten deck before r' after' → (r ≡ r') × (after ≡ after')
only_one deck before r r' after after' w w' = (w.answer ∙ sym w'.answer, w.output ∙ sym w'.output)
