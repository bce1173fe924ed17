-- What is ready to be written: the records that are taken and how many blocks they make, the fields that are lent, and numbers that stay far from wrapping, since the reel has
-- at most 65,536 bytes. By what the plan's numbers are.
use mathlib.Core.Path.{◌≡◌, ap, ap₂, sym, ◌∙◌, subst₂}
use mathlib.Core.Bool.{Bool, cond}
use mathlib.Core.List.{List, [], ◌++◌}
use Prim.Native.Nat.{ℕ, ◌+◌, ◌*◌, ◌≤◌}
use native.Mathlib.Omega.{arith}
use lib.ListN.{length, length-map, take, drop}
use Rattle.rules.specs.Grammar.{Mode as RuleMode}
use Rattle.rules.specs.Places.{All}
use Rattle.rules.specs.Halves.{bytes, out_halves, halves, value}
use Rattle.rules.specs.Reel.{reel_of}
use Rattle.rules.specs.Plan.{Plan, selects, record_length}
use Rattle.rules.specs.Blocks.{taken_from}
use Rattle.rules.specs.Output.{out_record, selected, block_of}
use Rattle.rules.specs.Lent.{zone_f}
use Rattle.rules.specs.Run.{output_blocks}
use Rattle.rules.specs.RecordParts.{Fits}
use Rattle.rules.proofs.Base.AllLaws.{all_imply}
use Rattle.rules.proofs.Reel.Bounds.{reel_most}
use Rattle.rules.proofs.Reel.ReelLaws.{length_reel}
use Rattle.rules.proofs.Halves.RecordLaws.{fits_of}
use Rattle.terms.specs.Meaning.{mode_of}
use Rattle.terms.specs.declared.Mode.{Mode}
use Rattle.terms.specs.declared.Task.{Task}
use Rattle.pieces.specs.declared.Form.{Form}
use Rattle.rows.specs.Flat.{FlatFair}
use Rattle.records.specs.Promise.{out_bytes}
use Rattle.walks.specs.Marks.{marked_all}
use Rattle.walks.specs.Promise.{Sound}
use Rattle.tasks.specs.Promise.{form_of}
use Rattle.tasks.proofs.LengthLaws.{form_given}
use Rattle.fixed.specs.Promise.{blocks_in, Ready, out_of, Lent}

module _ {task : Task} {s : List ℕ} {blocks room : ℕ} (x : Ready task s blocks room) where
  -- the records that are taken
  abbrev pub marks_in : List (Bool × List ℕ)
  marks_in = marked_all (taken_from x.p.first x.recs)

  pub count_is : length (blocks_in x.p x.recs) ≡ blocks
  unfolding blocks_in
  count_is = length-map (output_blocks x.p x.recs) (block_of x.p.format) ∙ sym x.count

  -- the reel is one that a walk goes along
  pub sound : {form : Form} → form ≡ form_of task → Sound form s
  sound e = record { p = x.p; recs = x.recs; form_is = form_given x.is e; good = x.good }

  -- ---- numbers that are far from wrapping

  pub header_fits : 4 * blocks + 8 ≤ length (reel_of (blocks_in x.p x.recs))
  header_fits = omega (arith, length_reel (blocks_in x.p x.recs), count_is)

  pub few_blocks : blocks ≤ 65536
  few_blocks = omega (arith, header_fits, x.most)

  pub input_small : length s ≤ 65536
  input_small = reel_most s x.good.reel

-- ---- the fields

module _ {task : Task} {xs s : List ℕ} {blocks room : ℕ} (y : Lent task xs s blocks room) where
  abbrev p : Plan
  p = y.ready.p

  pub fair_is : FlatFair xs p.fields task.n task.width
  fair_is =
      record {
        flat = y.flat;
        fits = subst₂ (λ (a b : ℕ). All (Fits a b) p.fields) (sym y.ready.is.n) (sym y.ready.is.width) (fits_of p y.ready.good.accepted);
        sizes = all_imply (λ f w. w.kind) y.ready.good.accepted.limits;
      }

  pub out_is : (r : List ℕ) → out_record p r ≡ out_of task p.fields r
  unfolding out_record selected out_of out_bytes
  out_is r =
      ap
      (λ (z : ℕ). cond (selects p.mode)
      (bytes (out_halves z value (record_length p.output) p.fields (halves (take (record_length p.input) r))) ++ cond p.carries (drop (record_length p.input) r) []) r)
      y.ready.zone
      ∙ ap₂
      (λ (n m : ℕ). cond (selects p.mode) (bytes (out_halves zone_f value m p.fields (halves (take n r))) ++ cond p.carries (drop n r) []) r)
      (sym y.ready.is.n) (sym y.ready.is.width)
      ∙ ap₂
      (λ (m : RuleMode) (c : Bool). cond (selects m) (bytes (out_halves zone_f value task.width p.fields (halves (take task.n r))) ++ cond c (drop task.n r) []) r)
      (sym y.ready.is.mode) (sym y.ready.is.carries)

pub selects_as : (task : Task) {m : Mode} → task.mode ≡ m → (b : Bool) → selects (mode_of m) ≡ b → selects (mode_of task.mode) ≡ b
selects_as task e b s = ap (λ (m : Mode). selects (mode_of m)) e ∙ s
