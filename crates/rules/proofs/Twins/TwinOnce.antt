-- What the words say of twins leaves one outcome alone: a table gives one refusal, a deck asks for one plan, a plan has one lost place, and each half of both records
-- is the lowest of its kind.
use mathlib.Core.Path.{◌≡◌, refl, ap, ap₂, sym, ◌∙◌, subst}
use mathlib.Core.Logic.{inl}
use mathlib.Core.Bool.{Bool, true, false}
use mathlib.Core.List.{List, ◌++◌}
use Prim.Native.Nat.{ℕ, ◌+◌, ◌*◌, ◌≤◌, ◌<◌}
use native.Mathlib.Decide.{ℕ_discrete}
use native.Mathlib.Omega.{arith}
use lib.Dec.{eqb}
use lib.ListN.{length, take, drop, get_or, take-append-drop}
use lib.Seq.{ext_get_or}
use borrow.Author.Tests.{eqb-true, eqb-false}
use Rattle.rules.specs.Base.{pairs}
use Rattle.rules.specs.Halves.{halves}
use Rattle.rules.specs.Plan.{Plan, input_halves, assembled}
use Rattle.rules.specs.Rows.{Twice, Row4, Asks}
use Rattle.rules.specs.ColumnRows.{Answered}
use Rattle.rules.specs.Lent.{zone_f}
use Rattle.rules.specs.Twins.{TwinsAnswer}
use Rattle.rules.specs.TwinWords.{Differ, in_half, in_tail, Shows, Reason, Told, TwinsSays}
use Rattle.rules.proofs.Columns.ColumnSteps.{lowest_once}
use Rattle.rules.proofs.Refusals.AskedTable.{asked_once}
use Rattle.rules.proofs.Halves.SizeLaws.{length_halves, pairs_halves}
use Rattle.rules.proofs.Twins.TwinTable.{lost_once}

-- ---- a table

pub answered_once : (rows : ℕ → ℕ → Type 0) (deck : List ℕ) (n p c n' p' c' : ℕ) → Answered rows deck n p c → Answered rows deck n' p' c' → (n ≡ n') × (p ≡ p') × (c ≡ c')
answered_once rows deck n p c n' p' c' a b = go (eqb n 0) refl
  where
    go : (t : Bool) → eqb n 0 ≡ t → (n ≡ n') × (p ≡ p') × (c ≡ c')
    go true t =
        let z = eqb-true n 0 t in
        let z' = b.none.1 (a.none.0 z) in
        (z ∙ sym z', (a.at_0 z).0 ∙ sym (b.at_0 z').0, (a.at_0 z).1 ∙ sym (b.at_0 z').1)
    go false t =
        let l : 1 ≤ n = let d = eqb-false n 0 t in omega arith in
        let w = (b.given n p c l).1 ((a.given n p c l).0 (refl, refl, refl)) in
        (sym w.0, sym w.1, sym w.2)

-- a deck that is not refused with 4 asks for one plan
plan_once : (zone : ℕ) (deck : List ℕ) → ((p : ℕ) → Row4 deck p → ⊥) → (p q : Plan) → Asks zone deck p → Asks zone deck q → p ≡ q
plan_once zone deck none p q a b =
    let once : Twice b.0 → ⊥ = λ t. none 1 (b.0, b.1, b.2, inl (refl, t)) in
    let same = asked_once deck (record { utility = a.3; cards = a.1 }) (record { utility = b.3; cards = b.1 }) (a.0, a.2, a.4) (b.0, b.2, b.4, once) in
    a.5 ∙ ap (assembled zone) same ∙ sym b.5

-- ---- the two records

-- records that have the same halves are the same
same_record : (r r' : List ℕ) → length r ≡ length r' → ((h : ℕ) → h < 2 * length r → get_or (halves r) h 0 ≡ get_or (halves r') h 0) → r ≡ r'
same_record r r' e same =
    sym (pairs_halves r)
    ∙ ap pairs (ext_get_or 0 (halves r) (halves r') (length_halves r ∙ ap (λ (n : ℕ). 2 * n) e ∙ sym (length_halves r')) (λ h l. same h (omega (arith, length_halves r))))
    ∙ pairs_halves r'

module _ (p : Plan) where
  first_once : (lost lost' : ℕ) (r s r' s' : List ℕ) → Shows p lost r s → Shows p lost' r' s' → r ≡ r'
  unfolding input_halves
  first_once lost lost' r s r' s' w w' =
      same_record r r' (w.long ∙ sym w'.long) (λ h l.
      let i : h < input_halves p = omega (arith, w.long) in lowest_once _ _ _ (w.lowest h i) (w'.lowest h i))

  second_once : (lost : ℕ) (r s s' : List ℕ) → Differ p lost r s → Differ p lost r s' → s ≡ s'
  second_once lost r s s' (in_half l e o v) (in_half l' e' o' v') =
      same_record s s' (e ∙ sym e') (λ h m. elim (ℕ_discrete h lost) [
        | yes q ↦ subst (λ (i : ℕ). get_or (halves s) i 0 ≡ get_or (halves s') i 0) (sym q) (lowest_once _ _ _ v v')
        | no q ↦ o h q ∙ sym (o' h q)
      ])
  second_once lost r s s' (in_half l e o v) (in_tail d q) = absurd (omega arith)
  second_once lost r s s' (in_tail d q) (in_half l e o v) = absurd (omega arith)
  second_once lost r s s' (in_tail d q) (in_tail d' q') = q ∙ sym q'

  shows_once : (lost lost' : ℕ) (r s r' s' : List ℕ) → Shows p lost r s → Shows p lost' r' s' → (lost ≡ lost') × (r ≡ r') × (s ≡ s')
  shows_once lost lost' r s r' s' w w' =
      let e = lost_once p lost lost' w.place w'.place in
      let f = first_once lost lost' r s r' s' w w' in
      (e, f, second_once lost r s s' w.differ (subst (λ (l : ℕ). Differ p l r s') (sym e) (subst (λ (t : List ℕ). Differ p lost' t s') (sym f) w'.differ)))

-- ---- what a caller is told

module _ (deck before : List ℕ) (n n' : TwinsAnswer) (after after' : List ℕ) where
  told_once : ((p : ℕ) → Row4 deck p → ⊥) → Told deck before n after → Told deck before n' after' → (n.reason ≡ n'.reason) × (n.written ≡ n'.written) × (after ≡ after')
  told_once none t t' =
      let q : t'.p ≡ t.p = plan_once zone_f deck none t'.p t.p t'.asks t.asks in
      let w = shows_once t.p t.lost t'.lost t.r t.s t'.r t'.s t.shows (subst (λ (p : Plan). Shows p t'.lost t'.r t'.s) q t'.shows) in
      let e : n.written ≡ n'.written = t.bytes ∙ ap₂ ◌+◌ (ap length w.1) (ap length w.2) ∙ sym t'.bytes in
      let reason : Reason t.p t.lost n'.reason =
      subst (λ (p : Plan). Reason p t.lost n'.reason) q (subst (λ (l : ℕ). Reason t'.p l n'.reason) (sym w.0) ((t'.reason n'.reason).0 refl)) in
      let front : take n.written after ≡ take n.written after' = t.front ∙ ap₂ ◌++◌ w.1 w.2 ∙ sym t'.front ∙ ap (λ (k : ℕ). take k after') (sym e) in
      let rest : drop n.written after ≡ drop n.written after' = t.rest ∙ ap (λ (k : ℕ). drop k before) e ∙ sym t'.rest ∙ ap (λ (k : ℕ). drop k after') (sym e) in
      ((t.reason n'.reason).1 reason, e, sym (take-append-drop n.written after) ∙ ap₂ ◌++◌ front rest ∙ take-append-drop n.written after')

  pub says_once : TwinsSays deck before n after → TwinsSays deck before n' after' → (n ≡ n') × (after ≡ after')
  says_once w w' = go (eqb n.refusal 0) refl
    where
      same : (n.refusal ≡ n'.refusal) × (n.place ≡ n'.place) × (n.column ≡ n'.column)
      same = answered_once _ deck _ _ _ _ _ _ w.table w'.table

      whole : n.reason ≡ n'.reason → n.written ≡ n'.written → n ≡ n'
      whole r l = λ i. record { refusal = same.0 i; place = same.1 i; column = same.2 i; reason = r i; written = l i }

      go : (t : Bool) → eqb n.refusal 0 ≡ t → (n ≡ n') × (after ≡ after')
      go true t = let z = eqb-true n.refusal 0 t in let x = told_once (w.table.none.0 z 4) (w.finished z) (w'.finished (sym same.0 ∙ z)) in (whole x.0 x.1, x.2)
      go false t =
          let d = eqb-false n.refusal 0 t in
          let x = w.refused d in
          let x' = w'.refused (λ e. d (same.0 ∙ e)) in
          (whole (x.0 ∙ sym x'.0) (x.1 ∙ sym x'.1), x.2 ∙ sym x'.2)
