-- The promises allow one outcome alone: the numbers are the rules', and what is held of a plan is what is read of the deck, which is one.
use mathlib.Core.Path.{◌≡◌, refl, ap, sym, subst, ◌∙◌}
use mathlib.Core.Bool.{Bool, true≢false}
use mathlib.Core.List.{List}
use Prim.Native.Nat.{ℕ}
use Rattle.rules.specs.Answer.{Answer, fine, refuse}
use Rattle.rules.specs.Asked.{Asked as RuleAsked}
use Rattle.rules.specs.Plan.{Plan, plan_of}
use Rattle.rules.specs.Lent.{plan}
use Rattle.rules.proofs.Refusals.AnswerLaws.{bind_fine}
use Rattle.terms.specs.Meaning.{format_of, laid_fields}
use Rattle.terms.specs.declared.Asked.{Asked}
use Rattle.terms.specs.declared.Format.{Format}
use Rattle.rows.specs.Kept.{row_of}
use Rattle.cards.specs.Promise.{DeckAnswered, DeckSays}
use Rattle.std.specs.Prelude.{Ok}
use Rattle.std.specs.Result.{is_err}
use Rattle.cards.proofs.PromiseLaws.{only_one as read_once}
use Rattle.plans.specs.Verdict.{tail_told}
use Rattle.plans.specs.Promise.{refused_plan, HoldsPlan, HoldsFor, Plans}
use Rattle.plans.specs.declared.DeckPlan.{DeckPlan}
use Rattle.plans.specs.declared.Planned.{Planned}
use Rattle.plans.proofs.DeckLaws.{row_fields}

pub refused_only_one : (number place column : ℕ) (r s : Planned) → r ≡ refused_plan number place column → s ≡ refused_plan number place column → r ≡ s
refused_only_one number place column r s e q = e ∙ sym q

module _ (deck : List ℕ) (p : Plan) (e : plan deck ≡ fine p) where
  held_read : (x : Asked) (row : List ℕ) → HoldsPlan deck p x row → DeckSays deck (Ok x) row
  unfolding plan plan_of
  held_read x row h =
      let s = bind_fine _ _ p e in
      let same : p.fields ≡ laid_fields s.0 = sym (row_fields deck s.0 s.1 x (h.means s.0 s.1) p s.2) in
      record {
        reads =
            subst (λ (z : Answer RuleAsked). DeckAnswered z (Ok x) row) (sym s.1)
            (record { means = h.means s.0 s.1; fields = h.fields ∙ ap row_of same });
        none = λ v e. absurd (true≢false (sym (ap is_err e)));
      }

  held_once : (x y : Asked) (one other : List ℕ) → HoldsPlan deck p x one → HoldsPlan deck p y other → (x ≡ y) × (one ≡ other)
  held_once x y one other h k =
      let w = read_once deck _ _ one other (held_read x one h) (held_read y other k) in
      let e = w.0 in (cc, w.1)

pub only_one : (deck : List ℕ) (r s : DeckPlan) (one other : List ℕ) → Plans deck r one → Plans deck s other → (r ≡ s) × (one ≡ other)
only_one deck r s one other w v =
    let n = w.numbers ∙ sym v.numbers in
    let a = go (plan deck) refl w.held v.held in
    (λ i. record { answer = n i; asked = a.0 i }, a.1)
  where
    go : (x : Answer Plan) → plan deck ≡ x → HoldsFor deck x r.asked one → HoldsFor deck x s.asked other → (r.asked ≡ s.asked) × (one ≡ other)
    go (fine p) e h k = held_once deck p e r.asked s.asked one other h k
    go (refuse q) e h k = (h.0 ∙ sym k.0, h.1 ∙ sym k.1)

pub only_one_tail : (f : Format) (cv n m : ℕ) (r s : Bool) → r ≡ tail_told (format_of f) cv n m → s ≡ tail_told (format_of f) cv n m → r ≡ s
only_one_tail f cv n m r s e q = e ∙ sym q
