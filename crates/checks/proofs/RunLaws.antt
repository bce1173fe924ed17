-- The answer of a run, step by step: each refusal is that of the first step that refuses. By the definition of a run.
use mathlib.Core.Path.{◌≡◌, refl, ap, sym, ◌∙◌, subst}
use mathlib.Core.Bool.{true, false}
use mathlib.Core.List.{List}
use mathlib.Core.Logic.{inl}
use Prim.Native.Nat.{ℕ, ◌-◌}
use lib.ListN.{length}
use Rattle.rules.specs.Base.{joined}
use Rattle.rules.specs.Answer.{Answer, fine, refuse, refused, ◌>>=◌, ◌>>◌, unless, each}
use Rattle.rules.specs.Places.{All, Byte}
use Rattle.rules.specs.Grammar.{tc}
use Rattle.rules.specs.Reel.{is_reel}
use Rattle.rules.specs.Plan.{Plan, selects, is_tc, record_length}
use Rattle.rules.specs.Blocks.{taken_from}
use Rattle.rules.specs.Output.{permits}
use Rattle.rules.specs.Run.{RunOutput, out_blocks, ran_of, housed, convert, output_blocks}
use Rattle.rules.specs.Lent.{run_answer}
use Rattle.rules.proofs.Refusals.AnswerLaws.{fine_each}
use Rattle.rules.proofs.Base.AllLaws.{all_imply, all_joined, all_of}
use Rattle.rules.proofs.Reel.ReelLaws.{all_blocks}
use Rattle.rules.proofs.Refusals.BlocksOutcome.{holds_of, reads_give}
use Rattle.rules.proofs.Runs.RunParts.{bad_block, taken_all_of}
use Rattle.rules.proofs.Output.OutBlockWords.{holds_whole}
use Rattle.rules.proofs.Runs.Never.{permits_other, holds_taken, all_fit}
use Rattle.rules.proofs.Runs.CopyLaws.{copy_blocks, copy_reel}
use Rattle.std.specs.Prelude.{Ok, Err}
use Rattle.reels.specs.declared.Contents.{Contents}
use Rattle.reels.specs.declared.ReelError.TheVariants.{NotReel, BadBlock}
use Rattle.rows.specs.Flat.{FlatFair}
use Rattle.values.specs.Promise.{FieldsAsk}
use Rattle.rows.proofs.ReadLaws.{fair_of}
use Rattle.values.proofs.PromiseLaws.{asks_nothing, permits_of}
use Rattle.walks.specs.Promise.{Good}
use Rattle.measures.specs.declared.Measured.{Measured}
use Rattle.measures.specs.declared.TooLong.{TooLong}
use Rattle.std.specs.Prelude.{Option, Some, None, Result, Ok}
use Rattle.measures.specs.Promise.{Selecting, Selected, FirstUnpermitted, Measurable, Measures, fit_answer, answer_of, measured_of}
use Rattle.measures.proofs.PromiseLaws.{measured_says, measured_fits}
use Rattle.reels.specs.Records.{ReelRead, ReadAs}
use Rattle.pieces.specs.declared.Form.{Form}
use Rattle.reels.proofs.ReelTold.{Tells, tells}
use Rattle.terms.specs.Meaning.{mode_of}
use Rattle.terms.specs.declared.Task.{Task}
use Rattle.outcomes.specs.declared.Ran.{Ran}
use Rattle.outcomes.specs.Promise.{ran_struct, refused_run, housed_run}
use Rattle.outcomes.proofs.OutcomeLaws.{room_is}
use Rattle.tasks.specs.Promise.{form_of}
use Rattle.tasks.proofs.LengthLaws.{form_given}
use Rattle.checks.specs.Promise.{PlanGiven, SomePlanGiven, ReadBy, PermittedRun, MeasuredRun, CheckedRun, Checked}

-- ---- the steps of a run

module _ (room : ℕ) (p : Plan) (s : List ℕ) where
  -- 11
  pub not_reel : is_reel s ≡ false → convert room p s ≡ refused 11 0
  unfolding convert out_blocks unless ◌>>◌ ◌>>=◌
  not_reel e = rw e refl

  module _ (recs : List (List (List ℕ))) (g : Good p s recs) where
    abbrev asked : Answer Unit → Answer Unit → Answer RunOutput
    asked halves sizes = (halves >> (sizes >> fine (output_blocks p recs))) >>= λ bs. housed room (ran_of p bs)

    -- 13, 14 and 15 are left
    reads : convert room p s ≡ asked (each 13 (permits p) p.first (joined (taken_from p.first recs))) (fit_answer p recs)
    unfolding convert out_blocks unless ◌>>◌ ◌>>=◌ fit_answer
    reads = rw (g.reel, g.records) refl

    pub no_permit : (i : ℕ) → each 13 (permits p) p.first (joined (taken_from p.first recs)) ≡ refused 13 i → convert room p s ≡ refused 13 i
    unfolding ◌>>◌ ◌>>=◌
    no_permit i e = reads ∙ ap (λ (h : Answer Unit). asked h (fit_answer p recs)) e

    module _ (permitted : each 13 (permits p) p.first (joined (taken_from p.first recs)) ≡ fine tt) where
      sizes_left : convert room p s ≡ asked (fine tt) (fit_answer p recs)
      sizes_left = reads ∙ ap (λ (h : Answer Unit). asked h (fit_answer p recs)) permitted

-- what is answered of a measure: 14, or 15 and the numbers
abbrev pub measured_run : ℕ → Answer (ℕ × ℕ × ℕ) → Ran
measured_run room (fine x) = housed_run room x.2 x.1 x.0
measured_run room (refuse r) = refused_run r.number r.place r.column

-- and that is the run's answer where 13 does not apply
measured_run_lem : (room : ℕ) (p : Plan) (s : List ℕ) (recs : List (List (List ℕ))) → Good p s recs → each 13 (permits p) p.first (joined (taken_from p.first recs)) ≡ fine tt
    → measured_run room (measured_of p recs) ≡ ran_struct (run_answer (convert room p s))
unfolding measured_of ran_of ◌>>◌ ◌>>=◌
measured_run_lem room p s recs g permitted = go (fit_answer p recs) refl ∙ ap (λ (z : Answer RunOutput). ran_struct (run_answer z)) (sym (sizes_left room p s recs g permitted))
  where
    go : (h : Answer Unit) → fit_answer p recs ≡ h → measured_run room (measured_of p recs) ≡ ran_struct (run_answer (asked room p s recs g (fine tt) (fit_answer p recs)))
    go (fine a) e = rw e (sym (room_is room (ran_of p (output_blocks p recs))))
    go (refuse r) e = rw e

-- ---- 13

module _ {task : Task} {fields s : List ℕ} where
  -- TC and TR
  pub nothing_asked : selects (mode_of task.mode) ≡ false → PermittedRun task fields s None
  nothing_asked e = record { is = λ p recs x g. fine_each 13 (permits p) p.first (all_of (permits_other p (ap selects (sym x.is.mode) ∙ e)) _) }

  pub selected : selects (mode_of task.mode) ≡ true → ReadBy task fields s → Selected task fields s
  selected e y = record { p = y.p; recs = y.recs; given = selecting_by e y.p y.recs y.given y.good }
    where
      selecting_by : selects (mode_of task.mode) ≡ true → (p : Plan) (recs : List (List (List ℕ))) → PlanGiven task fields p → Good p s recs → Selecting task fields s p recs
      selecting_by e p recs x g = record { fair = record { is = x.is; good = g }; flat = x.flat; zone = x.zone; selecting = ap selects (sym x.is.mode) ∙ e }

  pub first_asked : selects (mode_of task.mode) ≡ true → (r : Option ℕ) → FirstUnpermitted task fields s r → PermittedRun task fields s r
  unfolding FirstUnpermitted
  first_asked e r h =
      record { is = λ p recs x g. h p recs (record { fair = record { is = x.is; good = g }; flat = x.flat; zone = x.zone; selecting = ap selects (sym x.is.mode) ∙ e }) }

-- where no field asks anything of a half, no record taken has one that is not permitted
pub none_asked : (task : Task) (fields s : List ℕ) → All Byte s → FieldsAsk fields false → FirstUnpermitted task fields s None
unfolding FirstUnpermitted taken_from
none_asked task fields s a h p recs x =
    let ok = x.fair.good.accepted in
    let fair = subst (λ (xs : List ℕ). FlatFair xs p.fields (record_length p.input) (record_length p.output)) (sym x.flat) (fair_of p ok) in
    fine_each 13 (permits p) p.first
    (all_imply (λ r w. sym (permits_of p fields r true x.zone x.selecting fair (w.long x.selecting) (asks_nothing fields r w.bytes h)))
    (all_joined (taken_all_of (p.first - 1) (holds_whole p ok (all_blocks s a) (holds_of p ok 1 (all_blocks s a) recs x.fair.good.records)))))

-- ---- 14

module _ {task : Task} {fields s : List ℕ} where
  pub measurable : is_tc (mode_of task.mode) ≡ false → ReadBy task fields s → Measurable task s
  measurable e y =
      record { p = y.p; recs = y.recs; given = record { fair = record { is = y.given.is; good = y.good }; other = ap is_tc (sym y.given.is.mode) ∙ e } }

module _ {task : Task} {fields s : List ℕ} {blocks records : ℕ} where
  -- TC's output is its input
  pub copy_measured : mode_of task.mode ≡ tc → All Byte s → MeasuredRun task fields s blocks records (Ok (record { blocks = blocks; records = records; length = length s }))
  unfolding fit_answer taken_from
  copy_measured e a = record { is = λ p recs x g b k. fits p recs x g b k }
    where
      fits : (p : Plan) (recs : List (List (List ℕ))) → PlanGiven task fields p → Good p s recs → blocks ≡ length recs → records ≡ length (joined recs)
          → answer_of (Ok (record { blocks = blocks; records = records; length = length s })) ≡ measured_of p recs
      fits p recs x g b k =
          let q : p.mode ≡ tc = sym x.is.mode ∙ e in
          let h = reads_give p x.accepted s a g.reel recs g.records in
          let same = copy_blocks p x.accepted q recs in
          measured_fits p recs
          (fine_each 14 (λ holds. holds) p.first (all_fit p x.accepted (inl q) (holds_taken p (p.first - 1) h.2)))
          (b ∙ ap length (sym same))
          (k ∙ ap (λ (bs : List (List (List ℕ))). length (joined bs)) (sym same))
          (ap length (sym (copy_reel p x.accepted q s recs h)))

  pub measures : is_tc (mode_of task.mode) ≡ false → (r : Result Measured TooLong) → Measures task s r → MeasuredRun task fields s blocks records r
  measures e r h = record { is = λ p recs x g b k. measured_says task s r h (record { fair = record { is = x.is; good = g }; other = ap is_tc (sym x.is.mode) ∙ e }) }

-- ---- 13, 14 and 15 in their order

module _ {task : Task} {fields s : List ℕ} {blocks records room : ℕ} {r : Ran} where
  pub stops_unpermitted : (number : ℕ) → PermittedRun task fields s (Some number) → r ≡ refused_run 13 number 0 → CheckedRun task fields s blocks records room r
  stops_unpermitted i u e = record { is = λ p recs x g b k. e ∙ ap (λ (z : Answer RunOutput). ran_struct (run_answer z)) (sym (no_permit room p s recs g i (u.is p recs x g))) }

  pub ends_measured : PermittedRun task fields s None → (m : Result Measured TooLong) → MeasuredRun task fields s blocks records m
      → r ≡ measured_run room (answer_of m) → CheckedRun task fields s blocks records room r
  ends_measured u m h e = record {
    is = λ p recs y g b k. e ∙ ap (measured_run room) (h.is p recs y g b k) ∙ measured_run_lem room p s recs g (u.is p recs y g);
  }

-- ---- all of them

module _ {task : Task} {fields s : List ℕ} {form : Form} {read : ReelRead} (f : form ≡ form_of task) (w : ReadAs form s read) where
  told : (p : Plan) → PlanGiven task fields p → Tells p s read
  told p x = tells form p (form_given x.is f) s read w

  pub ends_no_reel : {room : ℕ} → read ≡ Err NotReel → (r : Ran) → r ≡ refused_run 11 0 0 → Checked task fields s room r
  ends_no_reel {room} t r e = record { is = λ p x. e ∙ ap (λ (z : Answer RunOutput). ran_struct (run_answer z)) (sym (not_reel room p s (subst (Tells p s) t (told p x)))) }

  pub ends_bad : {room : ℕ} (i : ℕ) → read ≡ Err (BadBlock i) → (r : Ran) → r ≡ refused_run 12 i 0 → Checked task fields s room r
  ends_bad {room} i t r e = record {
    is = λ p x.
        let y = subst (Tells p s) t (told p x) in
        e ∙ ap (λ (z : Answer RunOutput). ran_struct (run_answer z)) (sym (bad_block room p s i y.0 y.1));
  }

  pub read_by : (all : Contents) → read ≡ Ok all → SomePlanGiven task fields → ReadBy task fields s
  read_by all t x =
      let y = subst (Tells x.p s) t (told x.p x.given) in
      record { p = x.p; recs = y.1.0; given = x.given; good = record { accepted = x.given.accepted; reel = y.0; records = y.1.1 } }

  pub ends_read : {room : ℕ} (all : Contents) → read ≡ Ok all → (r : Ran) → CheckedRun task fields s all.blocks all.records room r → Checked task fields s room r
  ends_read {room} all t r h = record {
    is = λ p x.
        let y = subst (Tells p s) t (told p x) in
        h.is p y.1.0 x (record { accepted = x.accepted; reel = y.0; records = y.1.1 }) y.1.2 y.1.3;
  }

-- ---- one answer

pub only_one : (task : Task) (fields s : List ℕ) (room : ℕ) → SomePlanGiven task fields → (x y : Ran) → Checked task fields s room x → Checked task fields s room y → x ≡ y
only_one task fields s room g x y h k = h.is g.p g.given ∙ sym (k.is g.p g.given)
