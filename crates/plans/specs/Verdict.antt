-- What is promised of the verdict on what a deck asks for: it is what the rules answer.
use Rattle.std.specs.Prelude.{◌≡◌, Bool, cond, not, ◌||◌, List, ℕ, ◌+◌, eqb, Option, Some, None, Result, Ok, Err}
use Rattle.rules.specs.Base.{◌⇒◌, joined}
use Rattle.rules.specs.Places.{All}
use Rattle.rules.specs.Answer.{Answer, fine, refused, ◌>>=◌, ◌>>◌}
use Rattle.rules.specs.Grammar.{Format}
use Rattle.rules.specs.Asked.{fields_of, Asked as RuleAsked}
use Rattle.rules.specs.Plan.{Plan, assembled, combined, is_fv, lost_at, keeps, bit}
use Rattle.rules.specs.Rows.{UtilityWithin, FieldWithin}
use Rattle.rules.specs.Lent.{zone_f}
use Rattle.terms.specs.Meaning.{Means, laid_fields}
use Rattle.terms.specs.declared.Asked.{Asked}
use Rattle.rows.specs.Flat.{flat_of}
use Rattle.combinations.specs.declared.Unsound.{Unsound}
use Rattle.combinations.specs.declared.Unsound.TheVariants.{Broken, Outside}
use Rattle.plans.specs.declared.verdict.Refused.{Refused}

-- ---- verdicts

-- what the rules answer to what a deck asks for: refusals 8 to 10, or the plan
abbrev pub planned : ℕ → RuleAsked → Answer Plan
planned zone a = combined zone a >> fine (assembled zone a)

-- of a plan the mark of keeping and the lost place, as it answers them
unfoldable pub mark_of : Answer Plan → Answer (ℕ × ℕ)
mark_of x = x >>= λ p. fine (bit (keeps p), cond (keeps p) 0 (lost_at p))

-- what each verdict answers: its refusal, or these two numbers, where no lost place is keeping
abbrev pub verdict_answer : Result (Option ℕ) Refused → Answer (ℕ × ℕ)
verdict_answer (Err r) = refused r.number r.place
verdict_answer (Ok None) = fine (1, 0)
verdict_answer (Ok (Some half)) = fine (0, half)

-- the numbers of refusals 8 and 9
abbrev pub unsound_as : Unsound → Refused
unsound_as (Broken place) = record { number = 8; place = place }
unsound_as (Outside field) = record { number = 9; place = field }

-- the struct and the row say what is asked for, its numbers within their limits
pub record SaysAsked (x : Asked) (row : List ℕ) (a : RuleAsked) : Type 0 where
  pub means : Means x a
  pub utility : UtilityWithin a.utility
  pub fields : All (λ f. FieldWithin f.field) (fields_of (joined a.cards))
  pub flat : row ≡ flat_of (laid_fields a)

-- they are judged as what they say is in the rules
unfoldable pub Weighs : Asked → List ℕ → Result (Option ℕ) Refused → Type 0
Weighs x row r = (a : RuleAsked) → SaysAsked x row a → verdict_answer r ≡ mark_of (planned zone_f a)

-- ---- what it asks

-- they say what some deck asks for
pub record SaysSome (x : Asked) (row : List ℕ) : Type 0 where
  pub asked : RuleAsked
  pub says : SaysAsked x row asked

-- ---- the tail

-- in FV CV is given or m is n+8
abbrev pub tail_told : Format → ℕ → ℕ → ℕ → Bool
tail_told f cv n m = is_fv f ⇒ (not (eqb cv 0) || eqb m (n + 8))
