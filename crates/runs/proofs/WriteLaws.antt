-- A run that finishes has what the writers ask, and what they write is what the rules say; a run that is refused leaves the lent output. By the parts of a
-- finished run, and since no refusal has the number 0.
use mathlib.Core.Path.{◌≡◌, refl, ap, sym, ◌∙◌, subst}
use mathlib.Core.Bool.{Bool, true, false, false≢true}
use mathlib.Core.List.{List}
use Prim.Native.Nat.{ℕ, ◌≤◌, ◌<◌}
use native.Mathlib.Omega.{arith}
use lib.ListN.{length}
use Rattle.rules.specs.Answer.{Answer, fine, refuse}
use Rattle.rules.specs.Places.{All, Byte}
use Rattle.rules.specs.Grammar.{Mode, tc, tf, tr, trf}
use Rattle.rules.specs.Halves.{over}
use Rattle.rules.specs.Reel.{reel_of}
use Rattle.rules.specs.Plan.{Plan, is_tc, is_fs, block_length}
use Rattle.rules.specs.Run.{RunOutput, ran_of, convert, spanned_run, conversion, output_blocks}
use Rattle.rules.specs.Lent.{zone_f, run_answer, output_after}
use Rattle.rules.proofs.Reel.Bounds.{reel_most}
use Rattle.rules.proofs.Refusals.BlocksOutcome.{reads_give}
use Rattle.rules.proofs.Runs.CopyLaws.{copy_reel}
use Rattle.rules.proofs.Runs.RunParts.{Finished, finished}
use Rattle.rules.proofs.Refusals.RunColumns.{Refuses, refuses_convert}
use Rattle.terms.specs.declared.Asked.{Asked}
use Rattle.terms.specs.declared.Task.{Task}
use Rattle.terms.specs.Meaning.{mode_of, format_of, size_of, plan_in}
use Rattle.rows.specs.Kept.{fields_in}
use Rattle.fixed.specs.Promise.{blocks_in, Lent}
use Rattle.writers.specs.Promise.{ReelPut}
use Rattle.outcomes.specs.declared.Ran.{Ran}
use Rattle.outcomes.specs.Promise.{ran_struct}
use Rattle.outcomes.proofs.OutcomeLaws.{over_front, refuses}
use Rattle.checks.specs.Promise.{PlanGiven, SomePlanGiven, Checked}
use Rattle.runs.specs.Promise.{Finishes, Finishing, ReelWritten, PlanRanInto}

-- ---- a run that finishes

pub is_copy : (m : Mode) → is_tc m ≡ true → m ≡ tc
is_copy tc e = refl
is_copy tf e = absurd (false≢true e)
is_copy tr e = absurd (false≢true e)
is_copy trf e = absurd (false≢true e)

module _ {task : Task} {fields s : List ℕ} {blocks room : ℕ} {p : Plan} {x : RunOutput} (y : Finishes task fields s blocks room p x) where
  parts : Finished p room s x
  parts = finished p room s x y.finishes

  -- TC
  pub copy_is : mode_of task.mode ≡ tc → All Byte s → x.reel ≡ s
  unfolding ran_of
  copy_is e a =
      let w = parts in
      let ok = y.given.accepted in
      ap (λ (z : RunOutput). z.reel) w.writes
      ∙ copy_reel p ok (sym y.given.is.mode ∙ e) s w.recs (reads_give p ok s a w.reel w.recs w.reads)

  pub copy_fits : mode_of task.mode ≡ tc → All Byte s → (length s ≤ 65536) × (length s ≤ room)
  copy_fits e a = (reel_most s parts.reel, subst (λ (z : List ℕ). length z ≤ room) (copy_is e a) parts.roomy)

  -- the others
  reel_is : x.reel ≡ reel_of (blocks_in p parts.recs)
  unfolding ran_of blocks_in
  reel_is = ap (λ (z : RunOutput). z.reel) parts.writes

  blocks_are : x.blocks ≡ length (output_blocks p parts.recs)
  unfolding ran_of
  blocks_are = ap (λ (z : RunOutput). z.blocks) parts.writes

  abbrev lent_to : is_tc (mode_of task.mode) ≡ false → Lent task fields s blocks room
  lent_to e =
      record {
        ready = record {
          p = p;
          recs = parts.recs;
          is = y.given.is;
          good = record { accepted = y.given.accepted; reel = parts.reel; records = parts.reads };
          zone = y.given.zone;
          other = ap is_tc (sym y.given.is.mode) ∙ e;
          plain = y.given.plain;
          count = y.count ∙ blocks_are;
          roomy = subst (λ (z : List ℕ). length z ≤ room) reel_is parts.roomy;
          most = subst (λ (z : List ℕ). length z ≤ 65536) reel_is parts.most;
        };
        flat = y.given.flat;
      }

module _ {task : Task} {fields s : List ℕ} {blocks : ℕ} {old new : List ℕ} where
  pub copied : mode_of task.mode ≡ tc → All Byte s → new ≡ over 0 s old → ReelWritten task fields s blocks old new
  copied e a h = record { is = λ p x y. over_front s old new x (copy_is y e a) h }

  pub wrote : is_tc (mode_of task.mode) ≡ false → ReelPut task fields s blocks old new → ReelWritten task fields s blocks old new
  unfolding ReelPut
  wrote e h = record { is = λ p x y. over_front (reel_of (blocks_in p (parts y).recs)) old new x (reel_is y) (h (lent_to y e)) }

pub copy_room : {task : Task} {fields s : List ℕ} {blocks room : ℕ} → Finishing task fields s blocks room → mode_of task.mode ≡ tc → All Byte s → (length s ≤ 65536) × (length s ≤ room)
copy_room y e a = copy_fits y.given e a

pub lent_on : {task : Task} {fields s : List ℕ} {blocks room : ℕ} → Finishing task fields s blocks room → is_tc (mode_of task.mode) ≡ false → Lent task fields s blocks room
lent_on y e = lent_to y.given e

-- ---- the answer

-- no refusal of a run has the number 0
never_none : (p : Plan) (room : ℕ) (s : List ℕ) → Refuses (λ f. 1 ≤ f.number) (convert room p s)
never_none p room s = refuses_convert (λ f. 1 ≤ f.number) room p s (λ m h i. omega arith)

ends : (a : Answer RunOutput) → Refuses (λ f. 1 ≤ f.number) a → (r : Ran) → r ≡ ran_struct (run_answer a) → r.refusal ≤ 0 → (x : RunOutput) × (a ≡ fine x) × (r.blocks ≡ x.blocks)
ends (fine x) w r e l = (x, refl, ap (λ (q : Ran). q.blocks) e)
ends (refuse f) w r e l = absurd (let q = ap (λ (q : Ran). q.refusal) e in omega arith)

module _ {task : Task} {fields s : List ℕ} (old : List ℕ) {r : Ran} (h : Checked task fields s (length old) r) where
  pub ran_refused : 0 < r.refusal → PlanRanInto task fields s old r old
  ran_refused l = record { answer = h.is; output = λ p g. refuses (convert (length old) p s) r (h.is p g) l old }

  finishes_by : r.refusal ≤ 0 → (p : Plan) → PlanGiven task fields p → (x : RunOutput) × Finishes task fields s r.blocks (length old) p x
  finishes_by l p g =
      let w = ends (convert (length old) p s) (never_none p (length old) s) r (h.is p g) l in
      (w.0, record { given = g; finishes = w.1; count = w.2 })

  pub finishing : r.refusal ≤ 0 → SomePlanGiven task fields → Finishing task fields s r.blocks (length old)
  finishing l g = let w = finishes_by l g.p g.given in record { p = g.p; x = w.0; given = w.1 }

  pub ran_written : r.refusal ≤ 0 → (new : List ℕ) → ReelWritten task fields s r.blocks old new → PlanRanInto task fields s old r new
  ran_written l new k =
      record {
        answer = h.is;
        output = λ p g.
            let w = finishes_by l p g in
            k.is p w.0 w.1 ∙ ap (output_after old) (sym w.1.finishes);
      }

-- ---- block by block, or in FS

module _ (asked : Asked) (row : List ℕ) where
  abbrev q : Plan
  q = plan_in zone_f asked (fields_in row)

  pub by_blocks : is_fs (format_of asked.format) ≡ false → (room : ℕ) (s : List ℕ) → convert room q s ≡ conversion room q s
  unfolding conversion plan_in
  by_blocks e room s = rw e refl

  pub by_spans : is_fs (format_of asked.format) ≡ true
      → (c : Bool) (g m : ℕ) → c ≡ is_tc (mode_of asked.mode) → g ≡ block_length (size_of asked.input) → m ≡ block_length (size_of asked.output)
      → (room : ℕ) (s : List ℕ) → spanned_run c g m asked.first room s ≡ conversion room q s
  unfolding conversion plan_in
  by_spans e c g m is_c is_g is_m room s = rw (is_c, is_g, is_m, e) refl

-- ---- one outcome

pub only_one : (p : Plan) (s old : List ℕ) (x y : Ran) (new new' : List ℕ)
    → (x ≡ ran_struct (run_answer (conversion (length old) p s))) × (new ≡ output_after old (conversion (length old) p s))
    → (y ≡ ran_struct (run_answer (conversion (length old) p s))) × (new' ≡ output_after old (conversion (length old) p s)) → (x ≡ y) × (new ≡ new')
only_one p s old x y new new' h k = (h.0 ∙ sym k.0, h.1 ∙ sym k.1)
