-- A run in FS, step by step: each refusal is that of the first step that refuses, and a run that finishes leaves its reel. By the definition of a run.
use mathlib.Core.Path.{◌≡◌, refl, ap, ap₂, sym, ◌∙◌, subst}
use mathlib.Core.Bool.{Bool, true, false}
use mathlib.Core.List.{List, map}
use mathlib.Core.Option.{none}
use Prim.Native.Nat.{ℕ, ◌+◌, ◌-◌, ◌*◌, ◌≤◌, ◌<◌, min}
use native.Mathlib.Omega.{arith}
use lib.Dec.{leb}
use lib.ListN.{length, drop, length-drop, length-map}
use borrow.Author.Tests.{leb-true}
use Rattle.rules.specs.Base.{joined}
use Rattle.rules.specs.Answer.{Answer, fine, refused, ◌>>=◌, ◌>>◌, unless}
use Rattle.rules.specs.Halves.{over}
use Rattle.rules.specs.Places.{All, Byte}
use Rattle.rules.specs.Reel.{is_reel, blocks_of}
use Rattle.rules.specs.Run.{RunOutput, housed, spanned_out, spanned_ran, spanned_run}
use Rattle.rules.specs.Lent.{run_answer, output_after}
use Rattle.rules.specs.Spanned.{span_of, spanned_from, segmented}
use Rattle.rules.proofs.Reel.Bounds.{reel_most}
use Rattle.rules.proofs.Reel.ReelLaws.{length_reel, blocks_reel}
use Rattle.rules.proofs.Judge.JudgeSteps.{drop_few}
use Rattle.std.specs.Prelude.{Ok, Err}
use Rattle.reels.specs.declared.Contents.{Contents}
use Rattle.reels.specs.declared.ReelError.TheVariants.{NotReel, BadBlock}
use Rattle.reels.specs.Records.{ReelRead}
use Rattle.turns.specs.Promise.{SpannedAs}
use Rattle.turns.proofs.SpannedTold.{Tells, tells}
use Rattle.fillings.specs.declared.Tally.{Tally}
use Rattle.segments.specs.declared.Spot.{Spot}
use Rattle.segments.specs.Promise.{Takeable, SpotTaken}
use Rattle.outcomes.specs.declared.Ran.{Ran}
use Rattle.outcomes.specs.Promise.{ran_struct, refused_run, housed_run}
use Rattle.outcomes.proofs.OutcomeLaws.{room_is, refuses, over_front}
use Rattle.spans.specs.Promise.{SpotStanding, SpannedMeasures, SpannedLent, SpannedPut, RanAs, ran_in, Taking, FilledRun}

-- ---- refusal 15

module _ (x : RunOutput) (old : List ℕ) (r : Ran) where
  pub housed_is : {size records blocks : ℕ} → size ≡ length x.reel → records ≡ x.records → blocks ≡ x.blocks → r ≡ housed_run (length old) size records blocks
      → r ≡ ran_struct (run_answer (housed (length old) x))
  housed_is {size} {records} {blocks} s k b e =
      e ∙ ap (λ (n : ℕ). housed_run (length old) n records blocks) s ∙ ap₂ (housed_run (length old) (length x.reel)) k b ∙ sym (room_is (length old) x)

  module _ (e : r ≡ ran_struct (run_answer (housed (length old) x))) where
    pub ran_refused : 0 < r.refusal → RanAs x old r old
    ran_refused l = record { answer = e; output = refuses (housed (length old) x) r e l old }

    pub housed_ends : r.refusal ≤ 0 → (housed (length old) x ≡ fine x) × (length x.reel ≤ length old) × (length x.reel ≤ 65536)
    unfolding housed unless ◌>>◌
    housed_ends l = go (leb (length x.reel) (length old)) refl (leb (length x.reel) 65536) refl
      where
        never : (ran_struct (run_answer (housed (length old) x))).refusal ≡ 15 → ⊥
        never z = omega (arith, ap (λ (q : Ran). q.refusal) e)

        go : (t : Bool) → leb (length x.reel) (length old) ≡ t → (u : Bool) → leb (length x.reel) 65536 ≡ u
            → (housed (length old) x ≡ fine x) × (length x.reel ≤ length old) × (length x.reel ≤ 65536)
        go true t true u = (rw (t, u), leb-true (length x.reel) (length old) t, leb-true (length x.reel) 65536 u)
        go true t false u = absurd (never (rw (t, u)))
        go false t u v = absurd (never (rw t))

    pub ran_written : r.refusal ≤ 0 → {new : List ℕ} → new ≡ over 0 x.reel old → RanAs x old r new
    ran_written l {new} h = record { answer = e; output = over_front x.reel old new x refl h ∙ ap (output_after old) (sym (housed_ends l).0) }

-- ---- TR

module _ {s : List ℕ} {passed records : ℕ} (y : Taking s passed records) where
  pub takeable : Takeable s passed
  takeable = record { g = y.g; recs = y.recs; good = y.good; enough = y.enough }

  module _ {v : Spot} (h : SpotTaken s passed v) where
    -- the spot stands before the records taken
    abbrev pub standing : SpotStanding s v records
    standing =
        record {
          g = y.g;
          records = drop passed (joined y.recs);
          before = h.before y.g y.recs y.good;
          counts = y.counts ∙ sym (length-drop passed (joined y.recs));
        }

    abbrev pub filled_ran : ℕ → RunOutput
    filled_ran m = spanned_ran (map span_of (segmented m (drop passed (joined y.recs)))) (drop passed (joined y.recs))

    module _ {m : ℕ} {t : Tally} (w : SpannedMeasures m s v records t) (old : List ℕ) (r : Ran) where
      pub filled_is : r ≡ housed_run (length old) (4 * t.blocks + 8 + t.bytes) records t.blocks → r ≡ ran_struct (run_answer (housed (length old) (filled_ran m)))
      filled_is e =
          let z = standing in
          let bs = segmented m (drop passed (joined y.recs)) in
          let many = length-map bs span_of in
          let b : t.blocks ≡ length bs = w.blocks z in
          housed_is (filled_ran m) old r (omega (arith, length_reel (map span_of bs), w.bytes z)) z.counts (b ∙ sym many) e

      pub filled_lent : 9 ≤ m → m < 65536 → r ≡ housed_run (length old) (4 * t.blocks + 8 + t.bytes) records t.blocks → r.refusal ≤ 0 → SpannedLent m s v records t.blocks (length old)
      filled_lent low high e l =
          let k = housed_ends (filled_ran m) old r (filled_is e) l in
          record { standing = standing; low = low; high = high; many = w.blocks standing; roomy = k.1; most = k.2 }

module _ {m : ℕ} {s : List ℕ} {passed records : ℕ} {v : Spot} (h : SpotTaken s passed v) {t : Tally} (w : SpannedMeasures m s v records t) (old : List ℕ) {r : Ran}
    (e : r ≡ housed_run (length old) (4 * t.blocks + 8 + t.bytes) records t.blocks) where
  pub filled_refused : 0 < r.refusal → FilledRun m s passed records old r old
  unfolding FilledRun
  filled_refused l y = ran_refused (filled_ran y h m) old r (filled_is y h w old r e) l

  pub filled_written : 9 ≤ m → m < 65536 → r.refusal ≤ 0 → (new : List ℕ) → SpannedPut m s v records t.blocks old new → FilledRun m s passed records old r new
  unfolding FilledRun SpannedPut filled_lent
  filled_written low high l new k y = ran_written (filled_ran y h m) old r (filled_is y h w old r e) l (k (filled_lent y h w old r low high e l))

-- ---- the steps of a run

module _ (copies : Bool) (g m first : ℕ) (s old : List ℕ) where
  abbrev pub Answers : Ran → List ℕ → Type 0
  Answers r new =
      (r ≡ ran_struct (run_answer (spanned_run copies g m first (length old) s))) × (new ≡ output_after old (spanned_run copies g m first (length old) s))

  run_no_reel : is_reel s ≡ false → spanned_run copies g m first (length old) s ≡ refused 11 0
  unfolding spanned_run unless ◌>>◌ ◌>>=◌
  run_no_reel e = rw e

  run_bad : (i : ℕ) → is_reel s ≡ true → spanned_from g 1 none (blocks_of s) ≡ refused 12 i → spanned_run copies g m first (length old) s ≡ refused 12 i
  unfolding spanned_run unless ◌>>◌ ◌>>=◌
  run_bad i t e = rw (t, e)

  run_good : (recs : List (List (List ℕ))) → is_reel s ≡ true → spanned_from g 1 none (blocks_of s) ≡ fine recs
      → spanned_run copies g m first (length old) s ≡ housed (length old) (spanned_ran (spanned_out copies m (blocks_of s) (drop (first - 1) (joined recs))) (drop (first - 1) (joined recs)))
  unfolding spanned_run unless ◌>>◌ ◌>>=◌
  run_good recs t e = rw (t, e)

  answers_refused : (number place : ℕ) → spanned_run copies g m first (length old) s ≡ refused number place → {r : Ran} → r ≡ refused_run number place 0 → Answers r old
  answers_refused number place e k =
      (k ∙ ap (λ (a : Answer RunOutput). ran_struct (run_answer a)) (sym e), ap (output_after old) (sym e))

  answers_ran : (x : RunOutput) → spanned_run copies g m first (length old) s ≡ housed (length old) x → {r : Ran} {new : List ℕ} → RanAs x old r new → Answers r new
  answers_ran x e k =
      (k.answer ∙ ap (λ (a : Answer RunOutput). ran_struct (run_answer a)) (sym e), k.output ∙ ap (output_after old) (sym e))

  module _ {read : ReelRead} (w : SpannedAs g s read) where
    pub ends_no_reel : read ≡ Err NotReel → {r : Ran} → r ≡ refused_run 11 0 0 → Answers r old
    ends_no_reel t k = answers_refused 11 0 (run_no_reel (subst (Tells g s) t (tells g s read w))) k

    pub ends_bad : (i : ℕ) → read ≡ Err (BadBlock i) → {r : Ran} → r ≡ refused_run 12 i 0 → Answers r old
    ends_bad i t k = let x = subst (Tells g s) t (tells g s read w) in answers_refused 12 i (run_bad i x.0 x.1) k

    module _ (found : Contents) (t : read ≡ Ok found) where
      told : Tells g s (Ok found)
      told = subst (Tells g s) t (tells g s read w)

      pub input_most : length s ≤ 65536
      input_most = reel_most s told.0

      module _ {passed : ℕ} (p : passed ≡ min (first - 1) found.records) where
        pub ends_copied : copies ≡ true → All Byte s → {r : Ran} {new : List ℕ} → RanAs (ran_in s (found.records - passed) found.blocks) old r new → Answers r new
        ends_copied c a k =
            let x = told in
            let recs = x.1.0 in
            let taken = drop (first - 1) (joined recs) in
            let left : found.records - passed ≡ length taken = omega (arith, x.1.3, length-drop (first - 1) (joined recs)) in
            answers_ran (ran_in s (found.records - passed) found.blocks)
            (run_good recs x.0 x.1.1
            ∙ ap (λ (b : Bool). housed (length old) (spanned_ran (spanned_out b m (blocks_of s) taken) taken)) c
            ∙ ap₂ (λ (z : List ℕ) (n : ℕ). housed (length old) (record { reel = z; records = n; blocks = length (blocks_of s) })) (blocks_reel s a x.0) (sym left)
            ∙ ap (λ (n : ℕ). housed (length old) (ran_in s (found.records - passed) n)) (sym x.1.2))
            k

        pub taking : g < 65536 → Taking s passed (found.records - passed)
        taking high =
            let x = told in
            record {
              g = g;
              recs = x.1.0;
              good = record { reel = x.0; high = high; records = x.1.1 };
              enough = omega (arith, x.1.3);
              counts = omega (arith, x.1.3);
            }

        pub ends_filled : copies ≡ false → g < 65536 → (r : Ran) (new : List ℕ) → FilledRun m s passed (found.records - passed) old r new → Answers r new
        unfolding FilledRun taking
        ends_filled c high r new k =
            let x = told in
            let recs = x.1.0 in
            let all = joined recs in
            let same : drop passed all ≡ drop (first - 1) all = ap (λ (i : ℕ). drop i all) p ∙ drop_few (first - 1) found.records all x.1.3 in
            answers_ran (spanned_ran (map span_of (segmented m (drop passed all))) (drop passed all))
            (run_good recs x.0 x.1.1
            ∙ ap (λ (b : Bool). housed (length old) (spanned_ran (spanned_out b m (blocks_of s) (drop (first - 1) all)) (drop (first - 1) all))) c
            ∙ ap (λ (z : List (List ℕ)). housed (length old) (spanned_ran (map span_of (segmented m z)) z)) (sym same))
            (k (taking high))

-- ---- one outcome

pub only_one : (copies : Bool) (g m first : ℕ) (s old : List ℕ) (x y : Ran) (new new' : List ℕ) → Answers copies g m first s old x new → Answers copies g m first s old y new'
    → (x ≡ y) × (new ≡ new')
only_one copies g m first s old x y new new' h k = (h.0 ∙ sym k.0, h.1 ∙ sym k.1)
