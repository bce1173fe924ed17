-- One turn of the pass: the record that the walk tells is the first of those that are left, and its output has the length that is computed for it. By the walk's laws;
-- and numbers that stay far from wrapping, since the reel has at most 65,536 bytes.
use mathlib.Core.Path.{◌≡◌, ap, sym, ◌∙◌, subst}
use mathlib.Core.Bool.{Bool, true≢false}
use mathlib.Core.List.{List, ◌∷◌}
use Prim.Native.Nat.{ℕ, ◌+◌, ◌-◌, ◌≤◌}
use native.Mathlib.Omega.{arith}
use lib.ListN.{length, take, drop}
use Rattle.rules.specs.Plan.{is_tc, is_fs}
use Rattle.rules.specs.Blocks.{least_data, taken_from}
use Rattle.rules.specs.Output.{out_record}
use Rattle.rules.proofs.Output.MeasureLaws.{cost_high}
use Rattle.rules.proofs.Blocks.BlockSizes.{record_most}
use Rattle.terms.specs.declared.Task.{Task}
use Rattle.terms.specs.declared.Format.TheVariants.{FU, FS}
use Rattle.terms.specs.Meaning.{format_of}
use Rattle.pieces.specs.declared.Form.{Form}
use Rattle.walks.specs.declared.Walk.{Walk}
use Rattle.walks.specs.declared.RecordRead.{RecordRead}
use Rattle.std.specs.Prelude.{Some}
use Rattle.walks.specs.Marks.{marked_all}
use Rattle.walks.specs.Promise.{Walks, Standing, RecordTold, WalkTaken}
use Rattle.walks.proofs.PromiseLaws.{passed, lent, lent_length}
use Rattle.tasks.specs.Promise.{form_of, output_length_of}
use Rattle.tasks.proofs.LengthLaws.{form_given, out_length}
use Rattle.fixed.specs.Promise.{Ready}
use Rattle.fillings.proofs.GatheredLaws.{outs}
use Rattle.fixed.proofs.ReadyLaws.{marks_in, input_small}

-- the record as it is lent, and its length
pub record_long : {form : Form} {s : List ℕ} {w : Walk} {read : RecordRead} (t : RecordTold form s w (Some read))
    → length (take (read.start + read.length - read.start) (drop read.start s)) ≡ read.length
record_long t = ap length (lent t) ∙ lent_length t

module _ {task : Task} {s : List ℕ} {blocks room : ℕ} (x : Ready task s blocks room) where
  -- the walk stands in the reel
  pub stands : {form : Form} → form ≡ form_of task → {w : Walk} {rest : List (Bool × List ℕ)} → Walks x.p s w rest → Standing form s w
  stands e {rest = rest} k = record { p = x.p; rest = rest; form_is = form_given x.is e; walks = k }

  pub walks_first : {form : Form} → form ≡ form_of task → {w : Walk} → WalkTaken form s task.first w → Walks x.p s w (marks_in x)
  walks_first e {w} t =
      subst (λ (k : ℕ). Walks x.p s w (marked_all (taken_from k x.recs))) x.is.first (t.all x.p x.recs (form_given x.is e) x.good)

  -- a record that was read, and the length of its output
  pub record Turn (rest : List (Bool × List ℕ)) (r : List ℕ) (begins : Bool) (next : Walk) : Type 0 where
    pub more : List (Bool × List ℕ)
    pub left : outs x.p rest ≡ (begins, out_record x.p r) ∷ outs x.p more
    pub long : length (out_record x.p r) ≡ output_length_of task (length r)
    pub least : least_data x.p ≤ length r
    pub walks : Walks x.p s next more

  module _ {form : Form} (same : form ≡ form_of task) {w : Walk} {rest : List (Bool × List ℕ)} (k : Walks x.p s w rest) {read : RecordRead} (t : RecordTold form s w (Some read)) where
    pub turn : Turn rest (take (read.start + read.length - read.start) (drop read.start s)) read.begins read.next
    turn =
        let q = passed t (form_given x.is same) k in
        let r = take (read.start + read.length - read.start) (drop read.start s) in
        let least : least_data x.p ≤ length r = omega (arith, q.long, record_long t) in
        record {
          more = q.more;
          left = ap (outs x.p) (q.is ∙ ap (λ (z : List ℕ). (read.begins, z) ∷ q.more) (sym (lent t)));
          long = out_length x.is x.good.accepted r least;
          least = least;
          walks = q.walks;
        }

  -- ---- numbers that are far from wrapping

  -- FU has TC alone
  pub no_fu : task.format ≡ FU → ⊥
  no_fu e = true≢false (sym (ap is_tc (x.good.accepted.required.fu_with_tc (sym x.is.format ∙ ap format_of e))) ∙ x.other)

  -- nor is it in FS
  pub no_fs : task.format ≡ FS → ⊥
  no_fs e = true≢false (sym (ap is_fs (sym x.is.format ∙ ap format_of e)) ∙ x.plain)

  pub width_small : task.width ≤ 4096
  width_small = omega (arith, x.is.width, record_most x.p.format x.p.output x.good.accepted.output)

  pub cost_small : task.cost ≤ 4
  cost_small = omega (arith, x.is.costs, cost_high x.p.format)

  module _ {form : Form} {w : Walk} {read : RecordRead} (t : RecordTold form s w (Some read)) where
    pub record_ends : read.start + read.length ≤ 65536
    record_ends = omega (arith, t.lies.ends, input_small)

    pub record_few : length (take (read.start + read.length - read.start) (drop read.start s)) ≤ 65536
    record_few = omega (arith, record_ends, record_long t)
