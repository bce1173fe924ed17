-- Records of equal length, one behind the other, and their outputs one behind the other: each turn puts one more, and what is left is the outputs of the records that are left.
-- By going from record to record.
use mathlib.Core.Path.{◌≡◌, refl, ap, sym, ◌∙◌, subst}
use mathlib.Core.Bool.{Bool, true, false, cond}
use mathlib.Core.List.{List, ◌++◌, map}
use Prim.Native.Nat.{ℕ, ◌+◌, ◌-◌, ◌*◌, ◌≤◌, ◌<◌}
use native.Mathlib.Nat.{suc-mul}
use native.Mathlib.Omega.{arith}
use lib.ListN.{length, take, drop, length-drop, length-map}
use lib.Seq.{drop-drop, length-take-le}
use borrow.Rule.Slice.PartMut.{put_mid}
use Rattle.rules.specs.Base.{joined}
use Rattle.rules.specs.Halves.{over, Field}
use Rattle.rules.specs.Plan.{selects}
use Rattle.rules.specs.EvenRecords.{Even}
use Rattle.rules.proofs.Base.Lists.{map_same, map_own}
use Rattle.rules.proofs.Base.AllLaws.{all_imply, all_map}
use Rattle.rules.proofs.Blocks.BlockLaws.{length_joined}
use Rattle.rules.proofs.Base.LentParts.{rest_over}
use Rattle.rules.proofs.Blocks.EvenLaws.{Next, even_size, even_count, even_next, even_end}
use Rattle.terms.specs.declared.Task.{Task}
use Rattle.terms.specs.declared.Mode.{Mode}
use Rattle.terms.specs.Meaning.{mode_of}
use Rattle.rows.specs.Flat.{FlatFair}
use Rattle.records.specs.Promise.{out_bytes, Puts}
use Rattle.offsets.proofs.Sending.{Sent, sent_start, sent_size, sent_more, sent_end}
use Rattle.fixed.specs.Promise.{out_of}
use Rattle.fixed.specs.Fixed.{OutputsFit, OutputsPut, BytesFit, BytesPut}
use Rattle.records.proofs.PromiseLaws.{bytes_size}
use Rattle.fixed.proofs.ReadyLaws.{selects_as}

-- ---- the outputs

-- all outputs together
pub outputs_length : {xs : List ℕ} {n m : ℕ} {fs : List Field} → FlatFair xs fs n m → {block : List ℕ} {rs : List (List ℕ)} → Even n block rs
    → length (joined (map (out_bytes n m fs false) rs)) ≡ length rs * m
outputs_length {n = n} {m} {fs} fair {rs = rs} e =
    length_joined m (all_map (out_bytes n m fs false) (all_imply (λ r h. bytes_size fair false r (omega arith) ∙ (let z : m + 0 ≡ m = omega arith in z)) e.each))
    ∙ ap (λ (k : ℕ). k * m) (length-map rs (out_bytes n m fs false))

-- of the records that the bytes are, the outputs of the first stand in the output, and those of the others are left
pub record Left (n m : ℕ) (block : List ℕ) (fs : List Field) (rs : List (List ℕ)) (old out : List ℕ) (at to : ℕ) : Type 0 where
  pub rest : List (List ℕ)
  pub even : Even n (drop at block) rest
  pub sent : Sent 0 (joined (map (out_bytes n m fs false) rs)) old out to (joined (map (out_bytes n m fs false) rest))

pub record Outputting (xs : List ℕ) (n m : ℕ) (block old out : List ℕ) (at to : ℕ) : Type 0 where
  pub same : length out ≡ length old
  pub left : (fs : List Field) → FlatFair xs fs n m → (rs : List (List ℕ)) → Even n block rs → length rs * m ≤ length old → Left n m block fs rs old out at to

pub output_start : (xs : List ℕ) (n m : ℕ) (block old : List ℕ) → Outputting xs n m block old old 0 0
output_start xs n m block old =
    record {
      same = refl;
      left = λ fs fair rs e l. record { rest = rs; even = e; sent = sent_start 0 (joined (map (out_bytes n m fs false) rs)) old (omega (arith, outputs_length fair e)) };
    }

module _ {xs : List ℕ} {n m : ℕ} {block old out : List ℕ} {at to : ℕ} (k : Outputting xs n m block old out at to) where
  module _ (l : at < length block) {fs : List Field} (fair : FlatFair xs fs n m) {rs : List (List ℕ)} (e : Even n block rs) (roomy : length rs * m ≤ length old) where
    now : Left n m block fs rs old out at to
    now = k.left fs fair rs e roomy

    next : Next n (drop at block) now.rest
    next = even_next now.rest now.even (omega (arith, length-drop at block))

    -- a whole record is left, and room for its output
    pub whole_left : at + n ≤ length block
    whole_left = omega (arith, even_size now.even, ap length next.is, suc-mul (length next.more) n, ap (λ (j : ℕ). j * n) (ap length next.is), length-drop at block)

    pub room_left : to + m ≤ length out
    room_left =
        omega (arith, sent_size now.sent, k.same, now.sent.roomy, outputs_length fair now.even, ap length next.is, suc-mul (length next.more) m, ap (λ (j : ℕ). j * m) (ap length next.is))

    one_is : take (at + n - at) (drop at block) ≡ take n (drop at block)
    one_is = ap (λ (j : ℕ). take j (drop at block)) (let z : at + n - at ≡ n = omega arith in z)

    pub one_length : length (take (at + n - at) (drop at block)) ≡ n
    one_length = ap length one_is ∙ length-take-le n (drop at block) (omega (arith, whole_left, length-drop at block))

    left_more : (ys : List ℕ) → Puts xs n m false (take (at + n - at) (drop at block)) (take (length out - to) (drop to out)) ys
        → Left n m block fs rs old (put_mid to (length out - to) out ys) (at + n) (to + m)
    unfolding Puts
    left_more ys p =
        let x = out_bytes n m fs false (take (at + n - at) (drop at block)) in
        let size : length x ≡ m = bytes_size fair false (take (at + n - at) (drop at block)) (omega (arith, one_length)) ∙ (let z : m + 0 ≡ m = omega arith in z) in
        record {
          rest = next.more;
          even = subst (λ (z : List ℕ). Even n z next.more) (drop-drop n at block) next.left;
          sent =
              sent_more now.sent x (joined (map (out_bytes n m fs false) next.more))
              (ap (λ (z : List (List ℕ)). joined (map (out_bytes n m fs false) z)) next.is ∙ ap (λ (r : List ℕ). out_bytes n m fs false r ++ joined (map (out_bytes n m fs false) next.more)) (sym one_is))
              (to + m) (omega (arith, size)) (put_mid to (length out - to) out ys)
              (ap (put_mid to (length out - to) out) (p fs fair) ∙ rest_over to out x (omega (arith, room_left)));
        }

  pub output_more : at < length block → (ys : List ℕ) → Puts xs n m false (take (at + n - at) (drop at block)) (take (length out - to) (drop to out)) ys
      → length (put_mid to (length out - to) out ys) ≡ length out → Outputting xs n m block old (put_mid to (length out - to) out ys) (at + n) (to + m)
  output_more l ys p q = record { same = q ∙ k.same; left = λ fs fair rs e roomy. left_more l fair e roomy ys p }

  pub output_end : 1 ≤ n → length block ≤ at → OutputsFit xs n m block (length old) → OutputsPut xs n m block old out
  unfolding OutputsPut
  output_end some l y fs fair rs e =
      let same : length rs * m ≤ length old = omega (arith, y.roomy, ap (λ (j : ℕ). j * m) (even_count some e ∙ sym (even_count some y.even))) in
      let q = k.left fs fair rs e same in
      sent_end q.sent (ap (λ (z : List (List ℕ)). joined (map (out_bytes n m fs false) z)) (even_end q.rest some q.even (omega (arith, length-drop at block))))

-- ---- by the numbers of a plan

module _ (task : Task) (xs block old new : List ℕ) (y : BytesFit task xs block (length old)) where
  -- TR: all of them at once
  pub bytes_copied : {m : Mode} → task.mode ≡ m → selects (mode_of m) ≡ false → new ≡ over 0 block old → BytesPut task xs block old new
  unfolding BytesPut out_of
  bytes_copied m s q fs fair rs e = q ∙ ap (λ (z : List ℕ). over 0 z old) (sym e.is ∙ ap joined (sym (map_own same rs)))
    where
      same : (r : List ℕ) → cond (selects (mode_of task.mode)) (out_bytes task.n task.width fs task.carries r) r ≡ r
      same r = ap (λ (b : Bool). cond b (out_bytes task.n task.width fs task.carries r) r) (selects_as task m false s)

  pub bytes_selected : {m : Mode} → task.mode ≡ m → selects (mode_of m) ≡ true → OutputsPut xs task.n task.width block old new → BytesPut task xs block old new
  unfolding OutputsPut BytesPut out_of
  bytes_selected m s q fs fair rs e = q fs fair rs e ∙ ap (λ (z : List (List ℕ)). over 0 (joined z) old) (map_same same rs)
    where
      same : (r : List ℕ) → out_bytes task.n task.width fs false r ≡ cond (selects (mode_of task.mode)) (out_bytes task.n task.width fs task.carries r) r
      same r =
          ap (λ (c : Bool). out_bytes task.n task.width fs c r) (sym y.none_carried)
          ∙ sym (ap (λ (b : Bool). cond b (out_bytes task.n task.width fs task.carries r) r) (selects_as task m true s))
