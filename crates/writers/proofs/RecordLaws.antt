-- A record in its place: what each function leaves is the record's word and output over what was lent. By the laws of what is put over an output.
use mathlib.Core.Path.{◌≡◌, refl, ap, sym, ◌∙◌, subst}
use mathlib.Core.Bool.{Bool, true, false, cond}
use mathlib.Core.List.{List, ◌++◌}
use Prim.Native.Nat.{ℕ, ◌+◌, ◌-◌, ◌≤◌}
use native.Mathlib.Omega.{arith}
use lib.ListN.{length, take, drop}
use borrow.Rule.Slice.PartMut.{put_mid}
use Rattle.rules.specs.Halves.{Field, over}
use Rattle.rules.specs.Plan.{selects}
use Rattle.rules.specs.Output.{cost}
use Rattle.rules.proofs.Halves.SizeLaws.{length_over}
use Rattle.rules.proofs.Halves.PlaceLaws.{over_behind}
use Rattle.rules.proofs.Base.LentParts.{rest_over}
use Rattle.terms.specs.Meaning.{mode_of, format_of}
use Rattle.terms.specs.declared.Mode.{Mode}
use Rattle.terms.specs.declared.Format.{Format}
use Rattle.terms.specs.declared.Format.TheVariants.{FV}
use Rattle.terms.specs.declared.Task.{Task}
use Rattle.rows.specs.Flat.{FlatFair}
use Rattle.records.specs.Promise.{out_bytes, Puts}
use Rattle.fillings.specs.declared.Tally.{Tally}
use Rattle.tasks.specs.Promise.{tail_length_of, output_length_of}
use Rattle.tasks.proofs.LengthLaws.{length_selected, length_carried}
use Rattle.fillings.specs.Offsets.{offset_put}
use Rattle.writers.specs.Writing.{size_word, record_piece}
use Rattle.fixed.specs.Promise.{out_of}
use Rattle.writers.specs.Promise.{Writable, DataPut, PiecePut, next_put, NextPut}
use Rattle.records.proofs.PromiseLaws.{bytes_size}
use Rattle.fixed.proofs.ReadyLaws.{selects_as}
use Rattle.writers.proofs.BlockParts.{length_size_word}

-- ---- the word

pub size_as : {format k : Format} → format ≡ k → (at size : ℕ) (out new : List ℕ) → new ≡ over at (size_word (format_of k) size) out → new ≡ over at (size_word (format_of format) size) out
size_as e at size out new q = q ∙ sym (ap (λ (f : Format). over at (size_word (format_of f) size) out) e)

pub size_room : {format : Format} → format ≡ FV → (at n : ℕ) → at + cost (format_of format) ≤ n → at + 4 ≤ n
size_room e at n l = subst (λ (f : Format). at + cost (format_of f) ≤ n) e l

pub word_cost : {format : Format} {c : ℕ} → format ≡ FV → c ≡ cost (format_of format) → c ≡ 4
word_cost e k = k ∙ ap (λ (f : Format). cost (format_of f)) e

-- ---- the output

module _ (task : Task) (xs r : List ℕ) where
  pub copy_room : {m : Mode} → task.mode ≡ m → selects (mode_of m) ≡ false → (room : ℕ) → output_length_of task (length r) ≤ room → length r ≤ room
  copy_room e s room l = omega (arith, length_carried task (length r) e s)

  pub record_room : {m : Mode} → task.mode ≡ m → selects (mode_of m) ≡ true → (room : ℕ) → output_length_of task (length r) ≤ room
      → task.width + cond task.carries (length r - task.n) 0 ≤ room
  unfolding tail_length_of
  record_room e s room l = subst (λ (k : ℕ). k ≤ room) (sym (length_selected task (length r) e s)) l

  module _ (old new : List ℕ) where
    pub data_copied : {m : Mode} → task.mode ≡ m → selects (mode_of m) ≡ false → new ≡ over 0 r old → DataPut task xs r old new
    unfolding DataPut out_of
    data_copied e s q fs fair = q ∙ sym (ap (λ (b : Bool). over 0 (cond b (out_bytes task.n task.width fs task.carries r) r) old) (selects_as task e false s))

    pub data_selected : {m : Mode} → task.mode ≡ m → selects (mode_of m) ≡ true → Puts xs task.n task.width task.carries r old new → DataPut task xs r old new
    unfolding DataPut out_of Puts
    data_selected e s q fs fair =
        q fs fair ∙ sym (ap (λ (b : Bool). over 0 (cond b (out_bytes task.n task.width fs task.carries r) r) old) (selects_as task e true s))

  -- its length
  pub out_size : Writable task xs r → (fs : List Field) → FlatFair xs fs task.n task.width → length (out_of task fs r) ≡ output_length_of task (length r)
  unfolding out_of output_length_of tail_length_of
  out_size w fs fair = go (selects (mode_of task.mode)) refl
    where
      go : (b : Bool) → selects (mode_of task.mode) ≡ b
          → length (cond (selects (mode_of task.mode)) (out_bytes task.n task.width fs task.carries r) r) ≡ cond (selects (mode_of task.mode)) (task.width + cond task.carries (length r - task.n) 0) (length r)
      go true b = rw b (bytes_size fair task.carries r (w.least b))
      go false b = rw b

  -- ---- the record

  module _ (w : Writable task xs r) (at : ℕ) (old : List ℕ) (fits : at + (task.cost + output_length_of task (length r)) ≤ length old) where
    pub piece_put : (n : ℕ) → n ≡ output_length_of task (length r) → (out ys : List ℕ) → out ≡ over at (size_word (format_of task.format) (n + 4)) old
        → DataPut task xs r (take (length out - (at + task.cost)) (drop (at + task.cost) out)) ys
        → PiecePut task xs r at old (put_mid (at + task.cost) (length out - (at + task.cost)) out ys)
    unfolding DataPut PiecePut
    piece_put n e out ys q d fs fair =
        let f = format_of task.format in
        let x = out_of task fs r in
        let from = at + task.cost in
        let k : length x ≡ output_length_of task (length r) = out_size w fs fair in
        let z : length (size_word f (n + 4)) ≡ cost f = length_size_word f (n + 4) in
        let same : length out ≡ length old = ap length q ∙ length_over at (size_word f (n + 4)) old (omega (arith, w.costs)) in
        ap (put_mid from (length out - from) out) (d fs fair)
        ∙ rest_over from out x (omega (arith, w.costs))
        ∙ ap (over from x) q
        ∙ over_behind at from (size_word f (n + 4)) x old (omega (arith, w.costs)) (omega (arith, w.costs))
        ∙ ap (λ (i : ℕ). over at (size_word f (i + 4) ++ x) old) (e ∙ sym k)

  -- the offset, the word of the block, and the record
  pub next_put_lem : (base : ℕ) (tally more : Tally) (old first second new : List ℕ) (n : ℕ) → n ≡ output_length_of task (length r) → first ≡ offset_put base tally more old
      → second ≡ over (base + more.bytes - more.size) (size_word (format_of task.format) more.size) first
      → PiecePut task xs r (base + more.bytes - (task.cost + n)) second new → NextPut task xs r base tally more old new
  unfolding PiecePut NextPut next_put
  next_put_lem base tally more old first second new n e a b d fs fair =
      let f = format_of task.format in
      d fs fair
      ∙ ap (λ (k : ℕ). over (base + more.bytes - (task.cost + k)) (record_piece f (out_of task fs r)) second) e
      ∙ ap (over (base + more.bytes - (task.cost + output_length_of task (length r))) (record_piece f (out_of task fs r)))
      (b ∙ ap (over (base + more.bytes - more.size) (size_word f more.size)) a)
