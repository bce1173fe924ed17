-- From a deck to the judgement by its plan: TC and TF are refused before all but 1 to 7, and else the deck is refused as its plan is, or its plan judges. By cases on what
-- the cards ask for and on the plan, as the rules go.
use mathlib.Core.Path.{◌≡◌, refl, ap, sym, ◌∙◌}
use mathlib.Core.Bool.{Bool, true, false, cond, not}
use mathlib.Core.List.{List}
use Prim.Native.Nat.{ℕ, ◌*◌}
use lib.ListN.{take}
use Rattle.rules.specs.Answer.{Answer, fine, refuse, ◌>>=◌}
use Rattle.rules.specs.Grammar.{Mode as RuleMode}
use Rattle.rules.specs.Asked.{Asked as RuleAsked, Utility, asked_of}
use Rattle.rules.specs.Keys.{through_utility}
use Rattle.rules.specs.Plan.{Plan, is_fs, plan_of, block_length, combined, assembled}
use Rattle.rules.specs.Lent.{zone_f, plan}
use Rattle.rules.specs.Judge.{is_filling, judge, judge_of, JudgeAnswer, judge_answer, judgement}
use Rattle.rules.proofs.Refusals.AnswerLaws.{fine_same, bind_fine, then_fine, fine_bind}
use Rattle.rules.proofs.Judge.JudgeSteps.{copies_blocks, deck_copies, deck_fills}
use Rattle.terms.specs.Meaning.{mode_of, format_of, size_of, utility_of, plan_in, Means}
use Rattle.terms.specs.declared.Asked.{Asked}
use Rattle.rows.specs.Kept.{fields_in}
use Rattle.rows.specs.Fair.{PlanFair}
use Rattle.cards.specs.Promise.{DeckSays}
use Rattle.std.specs.Prelude.{Ok, Err}
use Rattle.cards.specs.declared.CardRefusal.{CardRefusal}
use Rattle.cards.proofs.PromiseLaws.{accepted, refused_as}
use Rattle.plans.specs.Promise.{Plans}
use Rattle.plans.specs.declared.DeckPlan.{DeckPlan}
use Rattle.plans.proofs.FilledLaws.{refused_plan_lem, accepted_plan, plan_taken}
use Rattle.verdicts.specs.declared.Judged.{Judged}
use Rattle.verdicts.specs.Promise.{judged_of, judge_numbers, refused_with, Spanning, NotJudged}

-- ---- what the cards ask for

-- the mode is the one that was read
mode_read : (x : Asked) (a : RuleAsked) → Means x a → mode_of x.mode ≡ a.utility.mode
unfolding utility_of through_utility
mode_read x a m = ap (λ (u : Utility). u.mode) m.utility

module _ (deck row : List ℕ) where
  pub none_asked : (v : CardRefusal) → DeckSays deck (Err v) row → false ≡ copies_blocks (asked_of deck)
  none_asked v h = sym (ap copies_blocks (refused_as deck row v h.reads))

  pub mode_asked : (asked : Asked) → DeckSays deck (Ok asked) row → (t : Bool) → t ≡ is_filling (mode_of asked.mode) → not t ≡ copies_blocks (asked_of deck)
  mode_asked asked h t e =
      let w = accepted deck row asked h.reads in
      ap not e ∙ ap (λ (m : RuleMode). not (is_filling m)) (mode_read asked w.0 w.2.means) ∙ sym (ap copies_blocks w.1)

-- the plan's mode is what the cards ask for
plan_copies : (deck : List ℕ) (p : Plan) → plan_of zone_f deck ≡ fine p → copies_blocks (asked_of deck) ≡ not (is_filling p.mode)
unfolding plan_of assembled
plan_copies deck p e =
    let s1 = bind_fine (asked_of deck) _ p e in
    let s2 = then_fine (combined zone_f s1.0) _ p s1.2 in
    ap copies_blocks s1.1 ∙ ap (λ (q : Plan). not (is_filling q.mode)) (fine_same _ p s2.1)

-- ---- the deck

-- it is refused
pub refused_as_asked : (deck : List ℕ) (refusal place column : ℕ) (r : Judged) → copies_blocks (asked_of deck) ≡ true → r ≡ refused_with 8 1 0 → NotJudged deck refusal place column r
refused_as_asked deck refusal place column r t e = record { is = e ∙ sym (ap (λ (b : Bool). cond b (refused_with 8 1 0) (refused_with refusal place column)) t) }

pub refused_as_planned : (deck : List ℕ) (refusal place column : ℕ) (r : Judged) → copies_blocks (asked_of deck) ≡ false → r ≡ refused_with refusal place column
    → NotJudged deck refusal place column r
refused_as_planned deck refusal place column r t e = record { is = e ∙ sym (ap (λ (b : Bool). cond b (refused_with 8 1 0) (refused_with refusal place column)) t) }

module _ (deck : List ℕ) (r : DeckPlan) (row : List ℕ) (w : Plans deck r row) (ours theirs : List ℕ) where
  pub deck_refused : (r.answer.refusal ≡ 0 → ⊥) → (j : Judged) → NotJudged deck r.answer.refusal r.answer.place r.answer.column j → j ≡ judged_of (judge_answer (judge deck ours theirs))
  unfolding judge plan ◌>>=◌
  deck_refused h j n = go (copies_blocks (asked_of deck)) refl
    where
      go : (t : Bool) → copies_blocks (asked_of deck) ≡ t → j ≡ judged_of (judge_answer (judge deck ours theirs))
      go true t =
          n.is ∙ ap (λ (b : Bool). cond b (refused_with 8 1 0) (refused_with r.answer.refusal r.answer.place r.answer.column)) t
          ∙ ap (λ (x : Answer ℕ). judged_of (judge_answer x)) (sym (deck_copies zone_f deck ours theirs t))
      go false t =
          let q = refused_plan_lem deck r row w h in
          let is : judge_of zone_f deck ours theirs ≡ refuse q.0 = deck_fills zone_f deck ours theirs t ∙ ap (λ (x : Answer Plan). x >>= λ p. judgement p ours theirs) q.1 in
          n.is ∙ ap (λ (b : Bool). cond b (refused_with 8 1 0) (refused_with r.answer.refusal r.answer.place r.answer.column)) t
          ∙ (λ i. refused_with (q.2 i) (q.3 i) (q.4 i))
          ∙ ap (λ (x : Answer ℕ). judged_of (judge_answer x)) (sym is)

  module _ (z : r.answer.refusal ≡ 0) where
    same_mode : mode_of r.asked.mode ≡ (accepted_plan deck r row w z).0.mode
    unfolding plan_in
    same_mode = ap (λ (p : Plan). p.mode) (accepted_plan deck r row w z).3.is

    -- TC or TF
    pub deck_keeps : (t : Bool) → t ≡ is_filling (mode_of r.asked.mode) → t ≡ false → (j : Judged) → j ≡ refused_with 8 1 0 → j ≡ judged_of (judge_answer (judge deck ours theirs))
    unfolding judge plan
    deck_keeps t e f j q =
        let k = accepted_plan deck r row w z in
        let c : copies_blocks (asked_of deck) ≡ true = plan_copies deck k.0 k.1 ∙ ap (λ (m : RuleMode). not (is_filling m)) (sym same_mode) ∙ ap not (sym e ∙ f) in
        q ∙ ap (λ (x : Answer ℕ). judged_of (judge_answer x)) (sym (deck_copies zone_f deck ours theirs c))

    -- TR or TRF
    pub deck_judged : (t : Bool) → t ≡ is_filling (mode_of r.asked.mode) → t ≡ true → (j : Judged)
        → j ≡ judged_of (judge_answer (judgement (plan_in zone_f r.asked (fields_in (take (5 * r.asked.count) row))) ours theirs)) → j ≡ judged_of (judge_answer (judge deck ours theirs))
    unfolding judge plan
    deck_judged t e f j q =
        let k = accepted_plan deck r row w z in
        let c : copies_blocks (asked_of deck) ≡ false = plan_copies deck k.0 k.1 ∙ ap (λ (m : RuleMode). not (is_filling m)) (sym same_mode) ∙ ap not (sym e ∙ f) in
        let is : judge_of zone_f deck ours theirs ≡ judgement k.0 ours theirs = deck_fills zone_f deck ours theirs c ∙ fine_bind (plan_of zone_f deck) (λ p. judgement p ours theirs) k.0 k.1 in
        q ∙ ap (λ (p : Plan). judged_of (judge_answer (judgement p ours theirs))) (plan_taken deck r row w z) ∙ ap (λ (x : Answer ℕ). judged_of (judge_answer x)) (sym is)

-- ---- the plan's numbers in FS

pub spanning : {asked : Asked} {row : List ℕ} → PlanFair asked row → is_fs (format_of asked.format) ≡ true → (g m : ℕ) → g ≡ block_length (size_of asked.input) → m ≡ block_length (size_of asked.output)
    → Spanning g m asked.first (plan_in zone_f asked (fields_in row))
unfolding plan_in
spanning ok t g m g_is m_is = record { accepted = ok.accepted; spanned = t; g_is = g_is; m_is = m_is; first_is_lem = refl }

-- ---- the struct

-- it says all that the rules answer
pub judged_told : (x : JudgeAnswer) → judge_numbers (judged_of x) ≡ x
judged_told x = refl

-- ---- one outcome only

pub only_one : (deck ours theirs : List ℕ) {x y : Judged} → x ≡ judged_of (judge_answer (judge deck ours theirs)) → y ≡ judged_of (judge_answer (judge deck ours theirs)) → x ≡ y
only_one deck ours theirs a b = a ∙ sym b
