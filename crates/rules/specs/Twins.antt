-- Document 02, order 3: for a plan that loses, two input records that it makes one, and the reason.
use Rattle.std.specs.Prelude.{Bool, cond, not, ◌&&◌, List, [], ◌∷◌, ◌++◌, ℕ, zero, suc, ltb, leb, eqb, length, drop}
use Rattle.rules.specs.Answer.{Answer, fine, refuse, ◌>>=◌, ◌>>◌, unless}
use Rattle.rules.specs.Halves.{bytes, Field, field_halves, constant, froms}
use Rattle.rules.specs.Permitted.{reads, first_of}
use Rattle.rules.specs.Keeping.{occurs}
use Rattle.rules.specs.Plan.{Plan, input_halves, allowed, lost_at, keeps}
use Rattle.rules.specs.Lent.{plan}

-- ---- the two records

-- so many numbers, by their places from i on
abbrev pub listed : (ℕ → ℕ) → ℕ → ℕ → List ℕ
listed f i zero = []
listed f i (suc n) = f i ∷ listed f (suc i) n

module _ (q : ℕ → ℕ → Bool) where
  -- the lowest value that half i may have; 16 where it may have none
  unfoldable pub lowest : ℕ → ℕ
  lowest i = first_of (q i) 0 16

  -- the lowest above that one; 16 where it may have no other
  unfoldable pub second : ℕ → ℕ
  second i = first_of (λ v. ltb (lowest i) v && q i v) 0 16

  -- each half has its lowest value, but half h the one above
  unfoldable pub raised : ℕ → ℕ → ℕ
  raised h i = cond (eqb i h) (second i) (lowest i)

-- n bytes, each half of its lowest permitted value
unfoldable pub first_twin : Plan → List ℕ
first_twin p = bytes (listed (lowest (allowed p)) 0 (input_halves p))

-- the same, but the lost half has its second lowest value; for the tail one byte 00 stands behind the fixed part
unfoldable pub second_twin : Plan → List ℕ
second_twin p = bytes (listed (raised (allowed p) (lost_at p)) 0 (input_halves p)) ++ cond (eqb (lost_at p) (input_halves p)) (0 ∷ []) []

-- one behind the other
unfoldable pub twins : Plan → List ℕ
twins p = first_twin p ++ second_twin p

-- ---- the reason

module _ (zone many h : ℕ) where
  -- what a field writes, taken alone, holds half h of an input of so many halves
  unfoldable pub shows : Field → Bool
  shows f = occurs h (field_halves zone constant f (froms 0 many))

  -- of a field that reads half h: 3 where it writes it, so that a later field covers it; 2 where it drops it
  unfoldable pub reason_of : Field → ℕ
  reason_of f = cond (shows f) 3 2

  -- the reason is x before some fields: the last that reads half h decides
  abbrev pub reason_by : ℕ → List Field → ℕ
  reason_by x [] = x
  reason_by x (f ∷ fs) = reason_by (cond (reads f h) (reason_of f) x) fs

-- 1 never read, 2 dropped by a short field, 3 covered later, 4 tail
unfoldable pub reason : Plan → ℕ
reason p = cond (eqb (lost_at p) (input_halves p)) 4 (reason_by p.zone (input_halves p) (lost_at p) 1 p.fields)

-- ---- what a caller sees

-- the two records and the reason, of a plan that loses
pub record Shown : Type 0 where
  pub records : List ℕ
  pub reason : ℕ

abbrev pub shown : Plan → Shown
shown p = record { records = twins p; reason = reason p }

-- refusals 1 to 10 as for a plan; 16: it keeps; then 15: the lent room is too short for both records, with the bytes needed
unfoldable pub twins_into : ℕ → List ℕ → Answer Shown
twins_into room deck = do
  p ← plan deck
  unless (not (keeps p)) 16 0
  unless (leb (length (twins p)) room) 15 (length (twins p))
  fine (shown p)

-- refusal, place, column, reason, and how many bytes were written; refused, the last two are 0
pub record TwinsAnswer : Type 0 where
  pub refusal : ℕ
  pub place : ℕ
  pub column : ℕ
  pub reason : ℕ
  pub written : ℕ

abbrev pub twins_answer : Answer Shown → TwinsAnswer
twins_answer (fine x) = record { refusal = 0; place = 0; column = 0; reason = x.reason; written = length x.records }
twins_answer (refuse r) = record { refusal = r.number; place = r.place; column = r.column; reason = 0; written = 0 }

-- the lent output afterwards: the two records, and bytes past them stay; refused, no byte changes
abbrev pub twins_after : List ℕ → Answer Shown → List ℕ
twins_after lent (fine x) = x.records ++ drop (length x.records) lent
twins_after lent (refuse r) = lent
