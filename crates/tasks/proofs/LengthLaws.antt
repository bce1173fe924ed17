-- What the functions on a plan's numbers answer is what the rules say of its records, and one answer only: by what each number is of the plan.
use mathlib.Core.Path.{◌≡◌, refl, ap, ap₂, sym, ◌∙◌, subst}
use mathlib.Core.Bool.{Bool, true, false, cond}
use mathlib.Core.List.{List}
use Prim.Native.Nat.{ℕ, ◌+◌, ◌-◌, ◌≤◌}
use native.Mathlib.Omega.{arith}
use lib.ListN.{length}
use Rattle.rules.specs.Plan.{Plan, selects, record_length}
use Rattle.rules.specs.Blocks.{least_data}
use Rattle.rules.specs.Output.{out_record}
use Rattle.rules.specs.Judge.{under_b}
use Rattle.rules.specs.Accepted.{Accepted}
use Rattle.rules.proofs.Blocks.BlockSizes.{least_selects}
use Rattle.rules.proofs.Halves.RecordLaws.{length_out_record}
use Rattle.rules.proofs.Runs.Never.{output_other}
use Rattle.terms.specs.Meaning.{mode_of, TaskIs}
use Rattle.terms.specs.declared.Mode.{Mode}
use Rattle.terms.specs.declared.Task.{Task}
use Rattle.pieces.specs.declared.Form.{Form}
use Rattle.pieces.specs.Form.{FormIs}
use Rattle.tasks.specs.Promise.{form_of, form_under, tail_length_of, output_length_of}

module _ (task : Task) where
  -- the tail
  pub tail_dropped : (n : ℕ) → task.carries ≡ false → 0 ≡ tail_length_of task n
  unfolding tail_length_of
  tail_dropped n e = rw e

  pub tail_most : (n : ℕ) → tail_length_of task n ≤ n
  unfolding tail_length_of
  tail_most n = go task.carries
    where
      go : (t : Bool) → cond t (n - task.n) 0 ≤ n
      go true = omega arith
      go false = omega arith

  pub tail_small : (n r : ℕ) → r ≡ tail_length_of task n → r ≤ n
  tail_small n r e = omega (arith, tail_most n)

  -- the length of an output record
  pub length_selected : (n : ℕ) {m : Mode} → task.mode ≡ m → selects (mode_of m) ≡ true → task.width + tail_length_of task n ≡ output_length_of task n
  unfolding output_length_of
  length_selected n e s = sym (ap (λ (b : Bool). cond b (task.width + tail_length_of task n) n) (ap (λ (m : Mode). selects (mode_of m)) e ∙ s))

  pub length_carried : (n : ℕ) {m : Mode} → task.mode ≡ m → selects (mode_of m) ≡ false → n ≡ output_length_of task n
  unfolding output_length_of
  length_carried n e s = sym (ap (λ (b : Bool). cond b (task.width + tail_length_of task n) n) (ap (λ (m : Mode). selects (mode_of m)) e ∙ s))

  pub length_most : (n : ℕ) → output_length_of task n ≤ task.width + n
  unfolding output_length_of
  length_most n = go (selects (mode_of task.mode))
    where
      go : (t : Bool) → cond t (task.width + tail_length_of task n) n ≤ task.width + n
      go true = omega (arith, tail_most n)
      go false = omega arith

  -- two outcomes that a promise allows are equal
  pub form_only_one : {x y : Form} → x ≡ form_of task → y ≡ form_of task → x ≡ y
  form_only_one a b = a ∙ sym b

  pub under_only_one : {x y : Form} → x ≡ form_under task → y ≡ form_under task → x ≡ y
  under_only_one a b = a ∙ sym b

  pub length_only_one : (n : ℕ) {x y : ℕ} → x ≡ output_length_of task n → y ≡ output_length_of task n → x ≡ y
  length_only_one n a b = a ∙ sym b

module _ {task : Task} {p : Plan} (is : TaskIs task p) where
  -- what the plan asks of input blocks
  pub form_given : {form : Form} → form ≡ form_of task → FormIs form p
  form_given e = subst (λ (f : Form). FormIs f p) (sym e) (record { format = is.format; n = is.n; m = is.m; selects = ap selects is.mode })

  -- and of the blocks of a reel that is judged
  pub form_judged : {form : Form} → form ≡ form_under task → FormIs form (under_b p)
  form_judged e = subst (λ (f : Form). FormIs f (under_b p)) (sym e) (record { format = is.format; n = is.width; m = is.limit; selects = ap selects is.mode })

  -- the length of an output record
  pub out_length : Accepted p → (r : List ℕ) → least_data p ≤ length r → length (out_record p r) ≡ output_length_of task (length r)
  unfolding output_length_of tail_length_of
  out_length ok r l = go (selects p.mode) refl
    where
      go : (t : Bool) → selects p.mode ≡ t → length (out_record p r) ≡ output_length_of task (length r)
      go true t =
          length_out_record p ok t r (let z : record_length p.input ≤ length r = omega (arith, least_selects p t) in z)
          ∙ ap₂ (λ (k n : ℕ). k + cond p.carries (length r - n) 0) (sym is.width) (sym is.n)
          ∙ ap (λ (c : Bool). task.width + cond c (length r - task.n) 0) (sym is.carries)
          ∙ sym (ap (λ (b : Bool). cond b (task.width + tail_length_of task (length r)) (length r)) (ap selects is.mode ∙ t))
      go false t =
          ap length (output_other p t r)
          ∙ sym (ap (λ (b : Bool). cond b (task.width + tail_length_of task (length r)) (length r)) (ap selects is.mode ∙ t))
