-- The offsets of FF are those of the output blocks: found by counting records, or from the input's own offsets. By what the rules write there in closed form.
use mathlib.Core.Path.{◌≡◌, refl, ap, ap₂, sym, ◌∙◌}
use mathlib.Core.Bool.{false}
use mathlib.Core.List.{List, ◌++◌}
use Prim.Native.Nat.{ℕ, ◌+◌, ◌-◌, ◌*◌, ◌/◌, ◌≤◌, ◌<◌}
use native.Mathlib.Nat.{mul-le-mul, div-mul-le_self, le-mul_of_pos_right}
use native.Mathlib.Omega.{arith}
use lib.ListN.{length, drop}
use Rattle.rules.specs.Base.{joined}
use Rattle.rules.specs.Halves.{over}
use Rattle.rules.specs.Grammar.{tf}
use Rattle.rules.specs.Plan.{is_tf, record_length, block_length}
use Rattle.rules.specs.Reel.{word, offsets, offset_words}
use Rattle.rules.specs.Blocks.{taken_from}
use Rattle.rules.specs.EvenRecords.{stepped, ends_behind}
use Rattle.rules.proofs.Reel.ReelLaws.{length_ends}
use Rattle.rules.proofs.Output.MeasureLaws.{record_high, block_high}
use Rattle.rules.proofs.Output.EvenFilling.{per_one}
use Rattle.rules.proofs.Output.EvenOutput.{each_ends, filled_ends}
use Rattle.terms.specs.declared.Task.{Task}
use Rattle.terms.specs.declared.Mode.{Mode}
use Rattle.terms.specs.declared.Format.TheVariants.{FF}
use Rattle.terms.specs.Meaning.{mode_of}
use Rattle.walks.specs.Walking.{fixed_start}
use Rattle.tasks.specs.Promise.{form_of}
use Rattle.offsets.specs.Small.{StepSmall, EachSmall}
use Rattle.fillings.proofs.FixedLaws.{is_fixed, record_some, width_least, width_fits, from_is, count_of, count_most}
use Rattle.fixed.specs.Promise.{blocks_in, Ready}
use Rattle.fixed.specs.Fixed.{EndsFit, EndsPut}
use Rattle.fixed.proofs.ReadyLaws.{count_is, header_fits}

-- ---- the two ways

module _ {task : Task} {s : List ℕ} (f : task.format ≡ FF) {from : ℕ} (b : from ≡ fixed_start (form_of task) s task.first) {blocks room : ℕ} (x : Ready task s blocks room) (base : ℕ) where
  ends_filled : is_tf (mode_of task.mode) ≡ false → (records : ℕ) → length (drop from s) ≡ records * task.n
      → stepped (base + records * task.width - base) (task.limit / task.width * task.width) base (base + records * task.width) ≡ offset_words base (blocks_in x.p x.recs)
  unfolding blocks_in
  ends_filled m records e =
      let p = x.p in
      let w = record_length p.output in
      let per = block_length p.output / w in
      let k : records ≡ length (joined (taken_from p.first x.recs)) = count_of x.is x.good f refl b e in
      let many : records ≤ records * task.width = le-mul_of_pos_right records (width_least x.is x.good f) in
      let fuel = base + records * task.width - base in
      let few : length (joined (taken_from p.first x.recs)) ≤ fuel = omega arith in
      ap₂ (λ (i j : ℕ). stepped fuel (i / j * j) base (base + records * j)) x.is.limit x.is.width
      ∙ ap (λ (i : ℕ). stepped fuel (per * w) base (base + i * w)) k
      ∙ sym
      (filled_ends p x.good.accepted (is_fixed x.is x.good f) s x.good.reel x.recs x.good.records x.other (ap is_tf (sym x.is.mode) ∙ m) fuel base few)

  ends_each : mode_of task.mode ≡ tf → word base ++ ends_behind task.n task.width from base (offsets s) ≡ offset_words base (blocks_in x.p x.recs)
  unfolding blocks_in
  ends_each m =
      let p = x.p in
      ap₂ (λ (i j : ℕ). word base ++ ends_behind i j from base (offsets s)) x.is.n x.is.width
      ∙ ap (λ (a : ℕ). word base ++ ends_behind (record_length p.input) (record_length p.output) a base (offsets s)) (from_is x.is x.good f refl b)
      ∙ sym (each_ends p x.good.accepted (is_fixed x.is x.good f) s x.good.reel x.recs x.good.records (sym x.is.mode ∙ m) base)

-- ---- the numbers, and room

module _ {task : Task} {s : List ℕ} {from records base room : ℕ} (y : EndsFit task s from records base room) where
  x : Ready task s y.blocks room
  x = y.ready

  pub divisor : 0 < task.width
  divisor = width_least x.is x.good y.fixed

  wide : task.width ≤ 32760
  wide = omega (arith, x.is.width, record_high x.p.format x.p.output x.good.accepted.output)

  pub step_most : task.limit / task.width * task.width ≤ 32760
  step_most = omega (arith, div-mul-le_self task.limit task.width, x.is.limit, block_high x.p.format x.p.output x.good.accepted.output)

  step_least : 1 ≤ task.limit / task.width * task.width
  step_least =
      let one = per_one task.limit task.width (width_least x.is x.good y.fixed) (width_fits x.is x.good y.fixed) in
      let z : 1 * 1 ≤ task.limit / task.width * task.width = mul-le-mul one divisor in
      omega arith

  pub bytes_most : records * task.width ≤ 65536 * 32760
  bytes_most = mul-le-mul (count_most x.is x.good y.fixed refl y.start y.all) wide

  pub base_most : base ≤ 65536
  base_most = omega (arith, y.behind, header_fits x, x.most)

  room_ends : 4 + length (offset_words base (blocks_in x.p x.recs)) ≤ room
  room_ends = omega (arith, length_ends base (blocks_in x.p x.recs), count_is x, y.behind, header_fits x, x.roomy)

  pub steps_fit : {m : Mode} → task.mode ≡ m → is_tf (mode_of m) ≡ false
      → StepSmall (task.limit / task.width * task.width) base (base + records * task.width)
      × (4 + length (stepped (base + records * task.width - base) (task.limit / task.width * task.width) base (base + records * task.width)) ≤ room)
  steps_fit e m = (
    record { least = step_least; most = omega (arith, step_most); rises = omega arith; ends = omega (arith, bytes_most, base_most) },
    omega (arith, ap length (ends_filled y.fixed y.start x base (ap (λ (k : Mode). is_tf (mode_of k)) e ∙ m) records y.all), room_ends),
  )

  pub each_fits : {m : Mode} → task.mode ≡ m → mode_of m ≡ tf
      → EachSmall task.n task.width base × (4 + length (word base ++ ends_behind task.n task.width from base (offsets s)) ≤ room)
  each_fits e m = (
    record { some = record_some x.is x.good y.fixed; wide = omega (arith, wide); starts = omega (arith, base_most) },
    omega (arith, ap length (ends_each y.fixed y.start x base (ap mode_of e ∙ m)), room_ends),
  )

-- ---- what is put

module _ {task : Task} {s : List ℕ} {from records base : ℕ} (old new : List ℕ) (y : EndsFit task s from records base (length old)) where
  pub steps_put : {m : Mode} → task.mode ≡ m → is_tf (mode_of m) ≡ false
      → new ≡ over 4 (stepped (base + records * task.width - base) (task.limit / task.width * task.width) base (base + records * task.width)) old → EndsPut task s base old new
  unfolding EndsPut
  steps_put e m q blocks x h =
      q ∙ ap (λ (z : List ℕ). over 4 z old) (ends_filled y.fixed y.start x base (ap (λ (k : Mode). is_tf (mode_of k)) e ∙ m) records y.all)

  pub each_put : {m : Mode} → task.mode ≡ m → mode_of m ≡ tf → new ≡ over 4 (word base ++ ends_behind task.n task.width from base (offsets s)) old → EndsPut task s base old new
  unfolding EndsPut
  each_put e m q blocks x h = q ∙ ap (λ (z : List ℕ). over 4 z old) (ends_each y.fixed y.start x base (ap mode_of e ∙ m))
