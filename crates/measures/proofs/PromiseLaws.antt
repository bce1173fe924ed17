-- The promises, as a caller uses them, and that each allows one outcome only. By what each says of every plan.
use mathlib.Core.Path.{◌≡◌, refl, ap, sym, ◌∙◌}
use mathlib.Core.List.{List, map}
use Prim.Native.Nat.{ℕ}
use lib.ListN.{length}
use Rattle.rules.specs.Base.{joined}
use Rattle.rules.specs.Answer.{Refusal, Answer, fine, refuse, refused, ◌>>◌, each}
use Rattle.rules.specs.Plan.{Plan}
use Rattle.rules.specs.Reel.{reel_of}
use Rattle.rules.specs.Blocks.{taken_from}
use Rattle.rules.specs.Output.{permits, block_of}
use Rattle.rules.specs.Run.{fitting, outputs, output_blocks}
use Rattle.rules.proofs.Refusals.AnswerLaws.{not_fine, refuse_same}
use Rattle.terms.specs.declared.Task.{Task}
use Rattle.measures.specs.declared.Measured.{Measured}
use Rattle.measures.specs.declared.TooLong.{TooLong}
use Rattle.std.specs.Prelude.{Option, Some, None, Result, Ok, Err}
use Rattle.measures.specs.Promise.{Selecting, Selected, answer_at, FirstUnpermitted, Measuring, Measurable, fit_answer, answer_of, measured_of, Measures}

-- ---- what is said of a plan

module _ (task : Task) (fields s : List ℕ) {p : Plan} {recs : List (List (List ℕ))} where
  pub unpermitted_says : (r : Option ℕ) → FirstUnpermitted task fields s r → Selecting task fields s p recs
      → each 13 (permits p) p.first (joined (taken_from p.first recs)) ≡ answer_at 13 r
  unfolding FirstUnpermitted
  unpermitted_says r a x = a p recs x

module _ (task : Task) (s : List ℕ) {p : Plan} {recs : List (List (List ℕ))} where
  pub measured_says : (r : Result Measured TooLong) → Measures task s r → Measuring task s p recs → answer_of r ≡ measured_of p recs
  unfolding Measures
  measured_says r a x = a p recs x

-- refusal 14's answer is the rules'
pub fit_answer_lem : (p : Plan) (recs : List (List (List ℕ))) → fit_answer p recs ≡ each 14 (λ holds. holds) p.first (fitting p.mode p (outputs p recs))
unfolding fit_answer
fit_answer_lem p recs = refl

-- ---- what is answered of the output: refusal 14 where it applies, else the measure

module _ (p : Plan) (recs : List (List (List ℕ))) where
  pub measured_long : (i : ℕ) → fit_answer p recs ≡ refused 14 i → answer_of (Err (record { number = i })) ≡ measured_of p recs
  unfolding measured_of ◌>>◌
  measured_long i e = rw e

  pub measured_fits : fit_answer p recs ≡ fine tt → {b r l : ℕ} → b ≡ length (output_blocks p recs) → r ≡ length (joined (output_blocks p recs))
      → l ≡ length (reel_of (map (block_of p.format) (output_blocks p recs))) → answer_of (Ok (record { blocks = b; records = r; length = l })) ≡ measured_of p recs
  unfolding measured_of ◌>>◌
  measured_fits e b r l = rw (e, b, r, l)

-- ---- one outcome only

same_answer : (number : ℕ) (x y : Option ℕ) → answer_at number x ≡ answer_at number y → x ≡ y
same_answer number None None e = refl
same_answer number None (Some j) e = absurd (not_fine _ tt (sym e))
same_answer number (Some i) None e = absurd (not_fine _ tt e)
same_answer number (Some i) (Some j) e = ap (λ (q : Refusal). Some q.place) (refuse_same _ _ e)

pub unpermitted_only_one : (task : Task) (fields s : List ℕ) → Selected task fields s → {i j : Option ℕ} → FirstUnpermitted task fields s i → FirstUnpermitted task fields s j → i ≡ j
unfolding FirstUnpermitted
unpermitted_only_one task fields s y {i} {j} a b = same_answer 13 i j (sym (a y.p y.recs y.given) ∙ b y.p y.recs y.given)

-- each answer is that of one outcome, which it tells again
outcome_of : Answer (ℕ × ℕ × ℕ) → Result Measured TooLong
outcome_of (fine x) = Ok (record { blocks = x.0; records = x.1; length = x.2 })
outcome_of (refuse r) = Err (record { number = r.place })

outcome_back : (r : Result Measured TooLong) → outcome_of (answer_of r) ≡ r
unfolding outcome_of
outcome_back (Err long) = refl
outcome_back (Ok m) = refl

pub answer_once : (x y : Result Measured TooLong) → answer_of x ≡ answer_of y → x ≡ y
answer_once x y e = sym (outcome_back x) ∙ ap outcome_of e ∙ outcome_back y

pub measured_only_one : (task : Task) (s : List ℕ) → Measurable task s → {x y : Result Measured TooLong} → Measures task s x → Measures task s y → x ≡ y
unfolding Measures
measured_only_one task s m {x} {y} g h = answer_once x y (g m.p m.recs m.given ∙ sym (h m.p m.recs m.given))
