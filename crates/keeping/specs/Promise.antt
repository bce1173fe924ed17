-- What `weigh` promises: the lowest half with no permitted value; else whether every half is kept, or the lowest that is lost.
use Rattle.std.specs.Prelude.{Bool, cond, List, ℕ, ◌*◌, ltb, eqb, Option, Some, None, Result, Ok, Err}
use Rattle.rules.specs.Answer.{Answer, fine, refused, ◌>>◌, unless}
use Rattle.rules.specs.Halves.{Field as RuleField, sources}
use Rattle.rules.specs.Permitted.{permitted, choices, first_of}
use Rattle.rules.specs.Keeping.{lost_half}
use Rattle.keeping.specs.declared.Barren.{Barren}

-- what each case answers: refusal 10 at the half; else the mark of keeping and the lost place, 1 and 0 where every half is kept
abbrev pub answer_of : Result (Option ℕ) Barren → Answer (ℕ × ℕ)
answer_of (Err barren) = refused 10 barren.half
answer_of (Ok None) = fine (1, 0)
answer_of (Ok (Some half)) = fine (0, half)

-- where a search among so many numbers ends: the number that it finds, or none at their end
abbrev pub place_below : ℕ → ℕ → Option ℕ
place_below many h = cond (ltb h many) (Some h) None

-- the lowest of the 2n halves with no permitted value, or 2n
unfoldable pub barren_of : (ℕ → ℕ → Bool) → ℕ → ℕ
barren_of p n = first_of (λ i. eqb (choices p i) 0) 0 (2 * n)

-- the lowest of the 2n halves with two or more permitted values that is missing from an output of m bytes, or 2n
unfoldable pub lost_of : ℕ → List RuleField → ℕ → ℕ → ℕ
lost_of zone fs n m = lost_half (permitted zone fs) (sources zone m fs (2 * n)) (2 * n)

unfoldable pub weighed_of : ℕ → List RuleField → ℕ → ℕ → Answer (ℕ × ℕ)
weighed_of zone fs n m = do
  unless (eqb (barren_of (permitted zone fs) n) (2 * n)) 10 (barren_of (permitted zone fs) n)
  fine (cond (eqb (lost_of zone fs n m) (2 * n)) (1, 0) (0, lost_of zone fs n m))
