-- From what is read of a deck to its plan: the deck is refused with the number, the place and the column that were read, or it asks for what was read.
use mathlib.Core.Path.{◌≡◌, refl, ap, ◌∙◌}
use mathlib.Core.List.{List, []}
use Prim.Native.Nat.{ℕ, ◌*◌, ◌≤◌}
use native.Mathlib.Omega.{arith}
use lib.ListN.{length, take}
use Rattle.rules.specs.Answer.{fine}
use Rattle.rules.specs.Asked.{Asked as RuleAsked, asked_of}
use Rattle.terms.specs.Meaning.{laid_fields}
use Rattle.terms.proofs.Laid.{many_laid}
use Rattle.rows.specs.Flat.{flat_of}
use Rattle.rows.specs.Kept.{row_of}
use Rattle.rows.proofs.RowLaws.{flat_front, length_row}
use Rattle.cards.specs.Promise.{Accepts, DeckSays}
use Rattle.cards.proofs.PromiseLaws.{accepted, refused_as}
use Rattle.std.specs.Prelude.{Ok, Err}
use Rattle.terms.specs.declared.Asked.{Asked}
use Rattle.cards.specs.declared.CardRefusal.{CardRefusal}
use Rattle.plans.specs.Verdict.{SaysSome}
use Rattle.plans.specs.Promise.{refused_deck_plan, Verdicts, Plans}
use Rattle.plans.specs.declared.DeckPlan.{DeckPlan}
use Rattle.plans.proofs.DeckLaws.{refused_deck, says, judgeable, asked_kept, asked_refused}

-- the numbers that the row begins with are those of the fields
front : (asked : Asked) (row : List ℕ) (a : RuleAsked) → Accepts asked row a → take (5 * asked.count) row ≡ flat_of (laid_fields a)
front asked row a h = ap (take (5 * asked.count)) h.fields ∙ flat_front (laid_fields a) (5 * asked.count) (ap (λ (n : ℕ). 5 * n) (many_laid asked a h.means))

module _ (deck row : List ℕ) where
  pub refused_read : (v : CardRefusal) → DeckSays deck (Err v) row → Plans deck (refused_deck_plan v.number v.place v.column) row
  refused_read v h =
      refused_deck deck (record { number = v.number; place = v.place; column = v.column }) row (refused_as deck row v h.reads) (h.none v refl)

  module _ (asked : Asked) (h : DeckSays deck (Ok asked) row) where
    abbrev asks : RuleAsked
    asks = (accepted deck row asked h.reads).0

    asks_is : asked_of deck ≡ fine asks
    asks_is = (accepted deck row asked h.reads).1

    reads : Accepts asked row asks
    reads = (accepted deck row asked h.reads).2

    -- there is room for its fields
    pub room_read : (5 * asked.count ≤ 320) × (length row ≡ 320)
    room_read =
        let m = reads.means in
        (omega (arith, m.few), ap length reads.fields ∙ length_row (laid_fields asks) (omega (arith, m.few, many_laid asked asks m)))

    pub judgeable_read : SaysSome asked (take (5 * asked.count) row)
    judgeable_read = judgeable deck asks asks_is asked reads.means (take (5 * asked.count) row) (front asked row asks reads)

    module _ (r : DeckPlan) (v : Verdicts asked (take (5 * asked.count) row) r) where
      pub kept_read : r.answer.refusal ≡ 0 → Plans deck r row
      unfolding Verdicts
      kept_read q = asked_kept deck asks asks_is asked reads.means row reads.fields r (v asks (says deck asks asks_is asked reads.means _ (front asked row asks reads))) q

      -- where the plan is refused the row is cleared
      pub cleared_read : (none : List ℕ) → none ≡ row_of [] → (r.answer.refusal ≡ 0 → ⊥) → Plans deck r none
      unfolding Verdicts
      cleared_read none e n = asked_refused deck asks asks_is asked reads.means none e r (v asks (says deck asks asks_is asked reads.means _ (front asked row asks reads))) n
