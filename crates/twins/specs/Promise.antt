-- What is promised of the two records of a deck, of the answer, and of what the lent output holds afterwards.
use Rattle.std.specs.Prelude.{◌≡◌, false, List, ℕ, leb, length}
use Rattle.rules.specs.Answer.{Answer, fine, ◌>>◌, unless}
use Rattle.rules.specs.Plan.{Plan, lost_at, keeps}
use Rattle.rules.specs.Twins.{twins, Shown, shown, twins_into, TwinsAnswer, twins_answer, twins_after}
use Rattle.twins.specs.declared.Twins.{Twins}

-- ---- a plan that loses, and its lost place

pub record Loses (p : Plan) (lost : ℕ) : Type 0 where
  pub loses : keeps p ≡ false
  pub place : lost ≡ lost_at p

-- ---- the answer

-- the struct that says what the rules say, and what it says
abbrev pub twins_of : TwinsAnswer → Twins
twins_of n = record { refusal = n.refusal; place = n.place; column = n.column; reason = n.reason; length = n.written }

abbrev pub twins_numbers : Twins → TwinsAnswer
twins_numbers r = record { refusal = r.refusal; place = r.place; column = r.column; reason = r.reason; written = r.length }

abbrev pub refused_twins : ℕ → ℕ → ℕ → Twins
refused_twins number place column = record { refusal = number; place = place; column = column; reason = 0; length = 0 }

-- of a plan that loses: refusal 15, or both records and the reason
unfoldable pub twins_fitting : ℕ → Plan → Answer Shown
twins_fitting room p = unless (leb (length (twins p)) room) 15 (length (twins p)) >> fine (shown p)

pub record ShownInto (p : Plan) (before : List ℕ) (r : Twins) (after : List ℕ) : Type 0 where
  pub answer : r ≡ twins_of (twins_answer (twins_fitting (length before) p))
  pub output : after ≡ twins_after before (twins_fitting (length before) p)

-- of a deck: the answer, and the lent output afterwards
pub record TwinsWritten (deck before : List ℕ) (r : Twins) (after : List ℕ) : Type 0 where
  pub answer : r ≡ twins_of (twins_answer (twins_into (length before) deck))
  pub output : after ≡ twins_after before (twins_into (length before) deck)
