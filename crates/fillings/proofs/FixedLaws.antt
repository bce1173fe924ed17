-- In FF, by the numbers of a plan: the records taken are what stands from the place where R starts, so that they are counted by a division. By the laws of records of equal length.
use mathlib.Core.Path.{◌≡◌, ap, sym, ◌∙◌, subst}
use mathlib.Core.List.{List}
use Prim.Native.Nat.{ℕ, ◌+◌, ◌-◌, ◌*◌, ◌/◌, ◌≤◌}
use native.Mathlib.Nat.{mul-div_cancel, le-mul_of_pos_right}
use native.Mathlib.Omega.{arith}
use lib.ListN.{length, drop, length-drop}
use Rattle.rules.specs.Base.{joined}
use Rattle.rules.specs.Grammar.{ff}
use Rattle.rules.specs.Plan.{Plan, record_length}
use Rattle.rules.specs.Reel.{block_count}
use Rattle.rules.specs.Blocks.{taken_from}
use Rattle.rules.specs.EvenRecords.{Even}
use Rattle.rules.proofs.Blocks.BlockSizes.{size_least}
use Rattle.rules.proofs.Reel.Bounds.{reel_most}
use Rattle.rules.proofs.Runs.Never.{output_fits}
use Rattle.rules.proofs.Blocks.EvenLaws.{even_size, even_count}
use Rattle.terms.specs.declared.Task.{Task}
use Rattle.terms.specs.declared.Format.TheVariants.{FF}
use Rattle.terms.specs.Meaning.{format_of, TaskIs}
use Rattle.pieces.specs.declared.Form.{Form}
use Rattle.walks.specs.Walking.{fixed_start}
use Rattle.walks.specs.Promise.{Good}
use Rattle.walks.proofs.FixedLaws.{start_is, fixed_taken}
use Rattle.tasks.specs.Promise.{form_of}
use Rattle.tasks.proofs.LengthLaws.{form_given}

module _ {task : Task} {s : List ℕ} {p : Plan} {recs : List (List (List ℕ))} (is : TaskIs task p) (g : Good p s recs) (f : task.format ≡ FF) where
  pub is_fixed : p.format ≡ ff
  is_fixed = sym is.format ∙ ap format_of f

  pub record_some : 1 ≤ task.n
  record_some = omega (arith, is.n, size_least p.format p.input g.accepted.input (g.accepted.required.ff_two is_fixed).0)

  pub width_least : 1 ≤ task.width
  width_least = omega (arith, is.width, size_least p.format p.output g.accepted.output (g.accepted.required.ff_two is_fixed).1)

  pub width_fits : task.width ≤ task.limit
  width_fits = omega (arith, is.width, is.limit, output_fits p g.accepted is_fixed)

  module _ {form : Form} (h : form ≡ form_of task) {from : ℕ} (b : from ≡ fixed_start form s task.first) where
    -- the records taken, from the place where R starts
    pub data_even : Even task.n (drop from s) (joined (taken_from p.first recs))
    data_even =
        let e = fixed_taken (form_given is h) g is_fixed task.first in
        subst (λ (k : ℕ). Even k (drop from s) (joined (taken_from p.first recs))) (sym is.n)
        (subst (λ (a : ℕ). Even (record_length p.input) (drop a s) (joined (taken_from p.first recs))) (sym b)
        (subst (λ (k : ℕ). Even (record_length p.input) (drop (fixed_start form s task.first) s) (joined (taken_from k recs))) is.first e))

    -- by the plan's own numbers
    pub from_is : from ≡ 4 * block_count s + 8 + (p.first - 1) * record_length p.input
    from_is = b ∙ start_is (form_given is h) g task.first ∙ ap (λ (k : ℕ). 4 * block_count s + 8 + (k - 1) * record_length p.input) is.first

    pub records_are : length (drop from s) / task.n ≡ length (joined (taken_from p.first recs))
    records_are = sym (even_count record_some data_even)

    -- all that stands there is records
    pub records_all : length (drop from s) ≡ length (drop from s) / task.n * task.n
    records_all = even_size data_even ∙ ap (λ (k : ℕ). k * task.n) (sym records_are)

    -- so many, where all that stands there is that many
    pub count_of : {records : ℕ} → length (drop from s) ≡ records * task.n → records ≡ length (joined (taken_from p.first recs))
    count_of {records} e = sym (mul-div_cancel records record_some) ∙ ap (λ (k : ℕ). k / task.n) (sym e) ∙ records_are

    pub count_most : {records : ℕ} → length (drop from s) ≡ records * task.n → records ≤ 65536
    count_most {records} e = omega (arith, le-mul_of_pos_right records record_some, length-drop from s, reel_most s g.reel)
