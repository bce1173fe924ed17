-- Judging in FS: the reading of ours tells 11 or 12, that of theirs 17 or 18; else the number is that of the first pair apart, from R on in ours. By the steps of the rules;
-- TR carries records unchanged, so that they agree where they are the same.
use mathlib.Core.Path.{◌≡◌, refl, ap, sym, ◌∙◌, subst}
use mathlib.Core.List.{List}
use mathlib.Core.Option.{none}
use Prim.Native.Nat.{ℕ, ◌-◌, ◌<◌, min}
use native.Mathlib.Omega.{arith}
use lib.ListN.{length, drop}
use Rattle.rules.specs.Base.{joined}
use Rattle.rules.specs.Answer.{fine, refused_at, refused}
use Rattle.rules.specs.Reel.{blocks_of}
use Rattle.rules.specs.Spanned.{spanned_from}
use Rattle.rules.specs.Plan.{Plan}
use Rattle.rules.specs.Judge.{under_b, our_records, agrees}
use Rattle.rules.proofs.Judge.AgreeBytes.{agrees_same}
use Rattle.rules.proofs.Spanned.SpannedOut.{not_selects}
use Rattle.rules.proofs.Judge.JudgeSteps.{blocks_spanned, judged_ours, judged_no_reel, judged_bad, judged_told, drop_few, spanned_no_reel, spanned_bad, spanned_good}
use Rattle.std.specs.Prelude.{Option, Ok, Err}
use Rattle.reels.specs.declared.Contents.{Contents}
use Rattle.reels.specs.declared.ReelError.TheVariants.{NotReel, BadBlock}
use Rattle.reels.specs.Records.{ReelRead}
use Rattle.turns.specs.Promise.{SpannedAs}
use Rattle.turns.proofs.SpannedTold.{Tells, tells}
use Rattle.span_pairs.specs.Promise.{BothSpanned, SpannedApartAt}
use Rattle.verdicts.specs.declared.Judged.{Judged}
use Rattle.verdicts.specs.Promise.{refused_with, told_as, Spanning, OursSpanned, OfSpanned, OfNumbers}
use Rattle.verdicts.proofs.BlockLaws.{says, told_number}

-- the records of ours that are left
ours_are : {m : ℕ} {ours : List ℕ} {passed count : ℕ} (y : OursSpanned ours passed count) (p : Plan) → Spanning y.g m y.first p → our_records p ours ≡ fine (drop passed (joined y.recs))
ours_are {ours = ours} {passed = passed} y p s =
    spanned_good p ours s.spanned y.recs y.good.reel (subst (λ (g : ℕ). spanned_from g 1 none (blocks_of ours) ≡ fine y.recs) s.g_is y.good.records)
    ∙ ap fine (ap (λ (k : ℕ). drop (k - 1) (joined y.recs)) (sym s.first_is_lem) ∙ sym (drop_few (y.first - 1) (length (joined y.recs)) (joined y.recs) refl) ∙ ap (λ (k : ℕ). drop k (joined y.recs)) (sym y.passes))

-- ---- theirs

module _ {m : ℕ} (ours : List ℕ) (passed count : ℕ) {theirs : List ℕ} {read : ReelRead} (w : SpannedAs m theirs read) where
  pub ends_no_reel : read ≡ Err NotReel → (r : Judged) → r ≡ refused_with 17 0 0 → OfSpanned m ours passed count theirs r
  ends_no_reel t r e = record { is = λ y p s. says r _ (refused_at 17 0 0) e (judged_no_reel p ours theirs _ (ours_are y p s) (subst (Tells m theirs) t (tells m theirs read w))) }

  pub ends_bad : (i : ℕ) → read ≡ Err (BadBlock i) → (r : Judged) → r ≡ refused_with 18 i 0 → OfSpanned m ours passed count theirs r
  ends_bad i t r e =
      record {
        is = λ y p s.
            let x = subst (Tells m theirs) t (tells m theirs read w) in
            says r _ (refused_at 18 i 0) e (judged_bad p ours theirs _ (ours_are y p s) i x.0 (blocks_spanned (under_b p) theirs s.spanned ∙ subst (λ (g : ℕ). spanned_from g 1 none (blocks_of theirs) ≡ refused 12 i) s.m_is x.1));
      }

  module _ (high : m < 65536) (found : Contents) (t : read ≡ Ok found) where
    abbrev told : Tells m theirs (Ok found)
    told = subst (Tells m theirs) t (tells m theirs read w)

    abbrev pub both_spanned : OursSpanned ours passed count → BothSpanned ours passed count theirs found.records
    both_spanned y =
        record {
          g = y.g;
          h = m;
          recs = y.recs;
          recs' = told.1.0;
          good = y.good;
          good' = record { reel = told.0; high = high; records = told.1.1 };
          counted = y.counted;
          counted' = told.1.3;
        }

    pub ends_read : (n : Option ℕ) → SpannedApartAt ours passed count theirs found.records n → (r : Judged) → r ≡ told_as n → OfSpanned m ours passed count theirs r
    ends_read n a r e =
        record {
          is = λ y p s.
              says r _ (fine _) (e ∙ ap told_as (a.is (agrees p) (agrees_same p (not_selects p s.accepted s.spanned)) (both_spanned y)) ∙ told_number _)
              (judged_told p ours theirs _ (ours_are y p s) told.1.0 told.0 (blocks_spanned (under_b p) theirs s.spanned ∙ subst (λ (g : ℕ). spanned_from g 1 none (blocks_of theirs) ≡ fine told.1.0) s.m_is told.1.1));
        }

-- ---- ours

module _ {g : ℕ} (m first : ℕ) {ours : List ℕ} (theirs : List ℕ) {read : ReelRead} (w : SpannedAs g ours read) where
  pub no_reel : read ≡ Err NotReel → (r : Judged) → r ≡ refused_with 11 0 0 → OfNumbers g m first ours theirs r
  no_reel t r e = record { is = λ p s. says r _ (refused_at 11 0 0) e (judged_ours p ours theirs _ (spanned_no_reel p ours s.spanned (subst (Tells g ours) t (tells g ours read w)))) }

  pub bad : (i : ℕ) → read ≡ Err (BadBlock i) → (r : Judged) → r ≡ refused_with 12 i 0 → OfNumbers g m first ours theirs r
  bad i t r e =
      record {
        is = λ p s.
            let x = subst (Tells g ours) t (tells g ours read w) in
            says r _ (refused_at 12 i 0) e (judged_ours p ours theirs _ (spanned_bad p ours s.spanned i x.0 (subst (λ (g : ℕ). spanned_from g 1 none (blocks_of ours) ≡ refused 12 i) s.g_is x.1)));
      }

  module _ (high : g < 65536) (found : Contents) (t : read ≡ Ok found) {passed : ℕ} (q : passed ≡ min (first - 1) found.records) where
    abbrev told' : Tells g ours (Ok found)
    told' = subst (Tells g ours) t (tells g ours read w)

    abbrev pub ours_spanned : OursSpanned ours passed (found.records - passed)
    ours_spanned =
        let n = told'.1.3 in
        record {
          g = g;
          first = first;
          recs = told'.1.0;
          good = record { reel = told'.0; high = high; records = told'.1.1 };
          passes = q ∙ ap (min (first - 1)) n;
          counted = omega (arith, q, n);
        }

    pub of_spanned : (r : Judged) → OfSpanned m ours passed (found.records - passed) theirs r → OfNumbers g m first ours theirs r
    of_spanned r a = record { is = λ p s. a.is ours_spanned p s }
