-- In FF the measure by division is the rules'. By what the rules write there in closed form.
use mathlib.Core.Path.{◌≡◌, refl, ap, ap₂, sym, ◌∙◌}
use mathlib.Core.Bool.{false}
use mathlib.Core.List.{List, map}
use Prim.Native.Nat.{ℕ, ◌+◌, ◌-◌, ◌*◌, ◌/◌, ◌≤◌}
use native.Mathlib.Nat.{mul-le-mul, div-le_self}
use native.Mathlib.Omega.{arith}
use lib.ListN.{length, drop, length-map}
use Rattle.rules.specs.Base.{joined}
use Rattle.rules.specs.Grammar.{tf}
use Rattle.rules.specs.Plan.{is_tf, record_length, block_length}
use Rattle.rules.specs.Reel.{offsets, blocks_of}
use Rattle.rules.specs.Blocks.{taken_from}
use Rattle.rules.specs.Output.{block_of}
use Rattle.rules.specs.Run.{output_blocks}
use Rattle.rules.specs.EvenRecords.{count_behind}
use Rattle.rules.proofs.Refusals.AnswerLaws.{fine_each}
use Rattle.rules.proofs.Reel.ReelLaws.{length_reel, header_is, length_offsets}
use Rattle.rules.proofs.Blocks.EvenLaws.{outputs_fit}
use Rattle.rules.proofs.Output.EvenBlocks.{count_behind_most}
use Rattle.rules.proofs.Output.EvenOutput.{output_bytes, output_count, output_length, each_count, filled_count}
use Rattle.terms.specs.declared.Task.{Task}
use Rattle.terms.specs.declared.Format.TheVariants.{FF}
use Rattle.terms.specs.Meaning.{mode_of}
use Rattle.walks.specs.Walking.{fixed_start}
use Rattle.tasks.specs.Promise.{form_of}
use Rattle.fillings.proofs.TallyLaws.{bounded}
use Rattle.fillings.proofs.FixedLaws.{is_fixed, width_least, width_fits, from_is, records_are, records_all, count_of, count_most}
use Rattle.std.specs.Prelude.{Ok}
use Rattle.measures.specs.Promise.{Measurable, Measures, FixedFrom, FixedBlocks}
use Rattle.measures.proofs.PromiseLaws.{fit_answer_lem, measured_fits}

-- ---- how many blocks they make

module _ {task : Task} {s : List ℕ} {from records : ℕ} (y : FixedFrom task s from records) where
  pub filled_small : (1 ≤ task.width) × (task.width ≤ task.limit) × (task.limit ≤ 65536) × (records ≤ 65536)
  filled_small =
      let x = y.some.given.fair in (
        width_least x.is x.good y.fixed,
        width_fits x.is x.good y.fixed,
        omega (arith, (bounded x.is x.good.accepted).limit),
        count_most x.is x.good y.fixed refl y.start y.all,
      )

  pub filled_blocks : is_tf (mode_of task.mode) ≡ false → (r : ℕ) → r ≡ (records + task.limit / task.width - 1) / (task.limit / task.width) → FixedBlocks task s r
  filled_blocks m r e =
      record {
        is = λ p recs z.
            let x = z.fair in
            let per : task.limit / task.width ≡ block_length p.output / record_length p.output = ap₂ ◌/◌ x.is.limit x.is.width in
            e
            ∙ ap₂ (λ (k j : ℕ). (k + j - 1) / j) (count_of x.is x.good y.fixed refl y.start y.all) per
            ∙ sym (filled_count p x.good.accepted (is_fixed x.is x.good y.fixed) s x.good.reel recs x.good.records z.other (ap is_tf (sym x.is.mode) ∙ m));
        few =
            let w = filled_small in
            omega (arith, e, w.2, w.3, div-le_self task.limit task.width, div-le_self (records + task.limit / task.width - 1) (task.limit / task.width));
      }

  pub each_blocks : mode_of task.mode ≡ tf → (r : ℕ) → r ≡ count_behind from (offsets s) → FixedBlocks task s r
  each_blocks m r e =
      record {
        is = λ p recs z.
            let x = z.fair in
            e
            ∙ ap (λ (a : ℕ). count_behind a (offsets s)) (from_is x.is x.good y.fixed refl y.start)
            ∙ sym (each_count p x.good.accepted (is_fixed x.is x.good y.fixed) s x.good.reel recs x.good.records (sym x.is.mode ∙ m));
        few =
            let h = header_is s y.some.given.fair.good.reel in
            omega (arith, e, count_behind_most from (offsets s), length_offsets s h.there, h.there, h.most);
      }

-- ---- the measure

module _ {task : Task} {s : List ℕ} (y : Measurable task s) (f : task.format ≡ FF) {from : ℕ} (b : from ≡ fixed_start (form_of task) s task.first) where
  pub fixed_from : (k : ℕ) → k ≡ length (drop from s) → FixedFrom task s from (k / task.n)
  fixed_from k e =
      record { some = y; fixed = f; start = b; all = records_all y.given.fair.is y.given.fair.good f refl b ∙ ap (λ (j : ℕ). j / task.n * task.n) (sym e) }

  pub fixed_measures : (blocks k : ℕ) → k ≡ length (drop from s) → FixedBlocks task s blocks → Measures task s (Ok (record { blocks = blocks; records = k / task.n; length = 4 * blocks + 8 + k / task.n * task.width }))
  unfolding Measures
  fixed_measures blocks k e h = λ p recs z.
      let x = z.fair in
      let ok = x.good.accepted in
      let t = is_fixed x.is x.good f in
      let bs = output_blocks p recs in
      let n : k / task.n ≡ length (joined (taken_from p.first recs)) = ap (λ (j : ℕ). j / task.n) e ∙ records_are x.is x.good f refl b in
      let w : k / task.n * task.width ≡ length (joined (taken_from p.first recs)) * record_length p.output = ap₂ ◌*◌ n x.is.width in
      measured_fits p recs
      (fit_answer_lem p recs ∙ fine_each 14 (λ holds. holds) p.first (outputs_fit p t ok 1 (blocks_of s) recs x.good.records))
      (h.is p recs z)
      (n ∙ sym (output_count p ok t s x.good.reel recs x.good.records))
      (sym (length_reel (map (block_of p.format) bs)
      ∙ (let q : 4 * length (map (block_of p.format) bs) + 8 + length (joined (map (block_of p.format) bs)) ≡ 4 * blocks + 8 + k / task.n * task.width
      = omega (arith, length-map bs (block_of p.format), h.is p recs z, w, ap length (output_bytes p ok t s x.good.reel recs x.good.records), output_length p ok t s x.good.reel recs x.good.records) in q)))

  -- far from wrapping
  pub bytes_small : (k : ℕ) → k ≡ length (drop from s) → k / task.n * task.width ≤ 65536 * 32760
  bytes_small k e =
      let x = y.given.fair in
      let few : k / task.n ≤ 65536 = (filled_small (fixed_from k e)).3 in
      let wide : task.width ≤ 32760 = (bounded x.is x.good.accepted).width in
      mul-le-mul few wide
