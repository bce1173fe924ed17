-- In FF the offsets, and behind them the outputs of all records taken, are the offsets and the blocks of the output. By what the rules write there in closed form.
use mathlib.Core.Path.{◌≡◌, refl, ap, sym, ◌∙◌, subst}
use mathlib.Core.Bool.{false}
use mathlib.Core.List.{List, map}
use Prim.Native.Nat.{ℕ, ◌+◌, ◌-◌, ◌*◌, ◌/◌, ◌≤◌}
use native.Mathlib.Omega.{arith}
use lib.ListN.{length, take, drop, length-drop}
use borrow.Rule.Slice.PartMut.{put_mid}
use Rattle.rules.specs.Base.{joined}
use Rattle.rules.specs.Halves.{over}
use Rattle.rules.specs.Grammar.{ff, fv}
use Rattle.rules.specs.Plan.{selects}
use Rattle.rules.specs.Reel.{offset_words}
use Rattle.rules.specs.Blocks.{taken_from}
use Rattle.rules.specs.Output.{out_record}
use Rattle.rules.specs.EvenRecords.{Even}
use Rattle.rules.proofs.Base.Lists.{map_same, map_own}
use Rattle.rules.proofs.Reel.ReelLaws.{length_ends, length_reel}
use Rattle.rules.proofs.Base.LentParts.{rest_over}
use Rattle.rules.proofs.Halves.PlaceLaws.{over_behind}
use Rattle.rules.proofs.Runs.Never.{output_other}
use Rattle.rules.proofs.Output.EvenOutput.{output_bytes, output_length}
use Rattle.rules.proofs.Base.Tests.{never_true}
use Rattle.terms.specs.declared.Task.{Task}
use Rattle.terms.specs.declared.Format.TheVariants.{FF}
use Rattle.walks.specs.Walking.{fixed_start}
use Rattle.tasks.specs.Promise.{form_of}
use Rattle.fillings.proofs.FixedLaws.{is_fixed, record_some, data_even, records_all}
use Rattle.fixed.specs.Promise.{blocks_in, Ready, out_of, Lent, BodyPut}
use Rattle.fixed.specs.Fixed.{BytesFit, BytesPut, EndsFit, EndsPut}
use Rattle.fixed.proofs.ReadyLaws.{count_is, input_small, fair_is, out_is}

module _ {task : Task} {xs s : List ℕ} {blocks : ℕ} (old : List ℕ) (y : Lent task xs s blocks (length old)) (f : task.format ≡ FF) {from : ℕ} (b : from ≡ fixed_start (form_of task) s task.first) where
  abbrev x : Ready task s blocks (length old)
  x = y.ready

  abbrev taken : List (List ℕ)
  taken = joined (taken_from x.p.first x.recs)

  -- the bytes of the blocks are the outputs of the records taken
  bytes_are : joined (blocks_in x.p x.recs) ≡ joined (map (out_record x.p) taken)
  unfolding blocks_in
  bytes_are = output_bytes x.p x.good.accepted (is_fixed x.is x.good f) s x.good.reel x.recs x.good.records

  bytes_long : length (joined (blocks_in x.p x.recs)) ≡ length taken * task.width
  bytes_long =
      ap length bytes_are
      ∙ output_length x.p x.good.accepted (is_fixed x.is x.good f) s x.good.reel x.recs x.good.records
      ∙ ap (λ (w : ℕ). length (joined (taken_from x.p.first x.recs)) * w) (sym x.is.width)

  -- the blocks fit behind the header
  behind_header : 4 * blocks + 8 + length (joined (blocks_in x.p x.recs)) ≤ length old
  behind_header = omega (arith, length_reel (blocks_in x.p x.recs), count_is x, x.roomy)

  -- ---- for the offsets

  pub ends_given : (k : ℕ) → k ≡ length (drop from s) → EndsFit task s from (k / task.n) (4 * blocks + 8) (length old)
  ends_given k e =
      record {
        blocks = blocks;
        ready = x;
        fixed = f;
        start = b;
        all = records_all x.is x.good f refl b ∙ ap (λ (j : ℕ). j / task.n * task.n) (sym e);
        behind = refl;
      }

  -- ---- for the outputs

  none_carried : task.carries ≡ false
  none_carried = x.is.carries ∙ never_true x.p.carries (λ c. differ (sym (is_fixed x.is x.good f) ∙ x.good.accepted.with_fv c))
    where
      differ : ff ≡ fv → ⊥
      differ e = let z : ◌≡◌ {A = ℕ} 0 1 = cc in omega arith

  block_is : {block : List ℕ} → block ≡ drop from s → Even task.n block taken
  block_is d = subst (λ (z : List ℕ). Even task.n z (joined (taken_from x.p.first x.recs))) (sym d) (data_even x.is x.good f refl b)

  pub bytes_given : {block : List ℕ} → block ≡ drop from s → (room : ℕ) → length (joined (blocks_in x.p x.recs)) ≤ room → BytesFit task xs block room
  bytes_given {block} d room l =
      record {
        outputs =
            record {
              some = record_some x.is x.good f;
              fielded = record { fields = x.p.fields; fair = fair_is y };
              records = taken;
              even = block_is d;
              short = omega (arith, ap length d, length-drop from s, input_small x);
              roomy = omega (arith, bytes_long);
            };
        none_carried = none_carried;
        whole = λ m.
            let other : selects x.p.mode ≡ false = ap selects (sym x.is.mode) ∙ m in
            omega (arith, ap length (bytes_are ∙ ap joined (map_own (output_other x.p other) taken) ∙ (block_is d).is));
      }

  pub room_behind : (n : ℕ) → n ≡ length old → 4 * blocks + 8 + length (joined (blocks_in x.p x.recs)) ≤ n
  room_behind n e = omega (arith, behind_header)

-- ---- what is put

pub body_put : (task : Task) (xs s : List ℕ) (blocks : ℕ) (old first ys : List ℕ) {from : ℕ} {block : List ℕ} → task.format ≡ FF → from ≡ fixed_start (form_of task) s task.first → block ≡ drop from s
    → length first ≡ length old → EndsPut task s (4 * blocks + 8) old first
    → BytesPut task xs block (take (length first - (4 * blocks + 8)) (drop (4 * blocks + 8) first)) ys
    → BodyPut task xs s blocks old (put_mid (4 * blocks + 8) (length first - (4 * blocks + 8)) first ys)
unfolding EndsPut BytesPut BodyPut
body_put task xs s blocks old first ys {from} {block} f b d same e h = λ y.
    let base = 4 * blocks + 8 in
    let p = y.ready.p in
    let bs = blocks_in p y.ready.recs in
    let rs = joined (taken_from p.first y.ready.recs) in
    let outs : joined (map (out_of task p.fields) rs) ≡ joined bs = sym (bytes_are old y f b ∙ ap joined (map_same (out_is y) rs)) in
    let l = behind_header old y f b in
    ap (put_mid base (length first - base) first) (h p.fields (fair_is y) rs (block_is old y f b d) ∙ ap (λ (z : List ℕ). over 0 z (take (length first - base) (drop base first))) outs)
    ∙ rest_over base first (joined bs) (omega arith)
    ∙ ap (over base (joined bs)) (e blocks y.ready refl)
    ∙ over_behind 4 base (offset_words base bs) (joined bs) old (omega (arith, length_ends base bs, count_is y.ready)) (omega arith)

pub body_only_one : {task : Task} {xs s : List ℕ} {blocks : ℕ} (old : List ℕ) → Lent task xs s blocks (length old) → {x z : List ℕ} → BodyPut task xs s blocks old x → BodyPut task xs s blocks old z → x ≡ z
unfolding BodyPut
body_only_one old y a b = a y ∙ sym (b y)
