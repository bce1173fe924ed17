-- The pass that writes: before each turn the blocks so far are laid, and the tally is their measure. By what a record does to the blocks and to the output.
use mathlib.Core.Path.{◌≡◌, refl, ap, ap₂, sym, ◌∙◌, subst}
use mathlib.Core.Bool.{Bool, true, false}
use mathlib.Core.List.{List, [], ◌∷◌, ◌++◌, map}
use Prim.Native.Nat.{ℕ, ◌+◌, ◌-◌, ◌*◌, ◌≤◌}
use native.Mathlib.Omega.{arith}
use lib.ListN.{length}
use Rattle.rules.specs.Base.{joined}
use Rattle.rules.specs.Halves.{over}
use Rattle.rules.specs.Grammar.{Format}
use Rattle.rules.specs.Reel.{word, offset_words, reel_of}
use Rattle.rules.specs.Plan.{Plan, selects}
use Rattle.rules.specs.Output.{out_record, block_of, cost}
use Rattle.rules.specs.Run.{output_blocks}
use Rattle.rules.proofs.Reel.ReelLaws.{length_reel}
use Rattle.rules.proofs.Output.FillLaws.{total_least}
use Rattle.rules.proofs.Blocks.BlockSizes.{least_selects}
use Rattle.terms.specs.Meaning.{format_of}
use Rattle.terms.specs.declared.Task.{Task}
use Rattle.pieces.specs.declared.Form.{Form}
use Rattle.walks.specs.declared.Walk.{Walk}
use Rattle.walks.specs.Promise.{Walks, WalkTaken}
use Rattle.tasks.specs.Promise.{form_of, output_length_of}
use Rattle.fillings.specs.declared.Tally.{Tally}
use Rattle.fillings.specs.Tallying.{opens_of, tally_of, Small}
use Rattle.fillings.proofs.TallyLaws.{empty, tally_opens, tally_behind}
use Rattle.fillings.specs.Offsets.{offset_put}
use Rattle.writers.specs.Writing.{size_word, record_piece}
use Rattle.fixed.specs.Promise.{blocks_in, Lent}
use Rattle.writers.specs.Promise.{Writable, NextFits, next_put, NextPut}
use Rattle.fillings.proofs.FilledLaws.{all_of, all_done, so_far, bytes_in, size_of, length_snoc, least, Filled, filled_start, filled_opens, behind_some, filled_behind}
use Rattle.fillings.proofs.LaidLaws.{laid, laid_nothing, laid_length, laid_ends, laid_opens, laid_behind}
use Rattle.fillings.proofs.OffsetLaws.{offset_opens, offset_stays}
use Rattle.writers.proofs.BlockParts.{framing, length_piece, total_body}
use Rattle.fillings.proofs.GatheredLaws.{outs, gathered_is, starts_is}
use Rattle.fixed.proofs.ReadyLaws.{marks_in, count_is, header_fits, few_blocks, fair_is, out_is}
use Rattle.writers.proofs.TurnLaws.{walks_first, Turn, width_small, cost_small}

-- the tally behind a record that was read
pub tally_read : (task : Task) (t v : Tally) (begins : Bool) (n size k : ℕ) → v ≡ tally_of task t begins n → n ≡ output_length_of task size → k ≡ size → v ≡ tally_of task t begins (output_length_of task k)
tally_read task t v begins n size k e l m = e ∙ ap (tally_of task t begins) (l ∙ sym (ap (output_length_of task) m))

module _ {task : Task} {xs s : List ℕ} {blocks : ℕ} (old : List ℕ) (y : Lent task xs s blocks (length old)) where
  abbrev p : Plan
  p = y.ready.p

  abbrev all : List (List (List ℕ))
  all = output_blocks y.ready.p y.ready.recs

  costs : task.cost ≡ cost (format_of task.format)
  costs = y.ready.is.costs ∙ sym (ap cost y.ready.is.format)

  -- ---- the pass

  pub record Laying (out : List ℕ) (w : Walk) (t : Tally) : Type 0 where
    pub rest : List (Bool × List ℕ)
    pub walks : Walks y.ready.p s w rest
    pub closed : List (List (List ℕ))
    pub now : List (List ℕ)
    pub filled : Filled y.ready.p.format task (output_blocks y.ready.p y.ready.recs) closed now t (outs y.ready.p rest)
    pub is : out ≡ laid (framing y.ready.p.format) (4 * blocks + 8) old (so_far closed now)

  pub laying_start : {form : Form} → form ≡ form_of task → {w : Walk} → WalkTaken form s task.first w → Laying old w empty
  laying_start e t =
      record {
        rest = marks_in y.ready;
        walks = walks_first y.ready e t;
        closed = [];
        now = [];
        filled = filled_start p.format task (outs p (marks_in y.ready)) (gathered_is y.ready.is y.ready.recs y.ready.other) (starts_is y.ready.is y.ready.recs);
        is = laid_nothing (framing p.format) (4 * blocks + 8) old;
      }

  -- the blocks so far are among all
  pub record Within (t : Tally) : Type 0 where
    pub many : t.blocks ≤ blocks
    pub long : 4 * blocks + 8 + t.bytes ≤ length (reel_of (blocks_in y.ready.p y.ready.recs))
    pub last : t.size ≤ t.bytes

  last_most : (closed : List (List (List ℕ))) (now : List (List ℕ)) → size_of p.format now ≤ length (bytes_in p.format (so_far closed now))
  last_most closed [] = omega arith
  last_most closed (x ∷ xs) = omega (arith, length_snoc p.format closed (x ∷ xs))

  within : {closed : List (List (List ℕ))} {now : List (List ℕ)} {t : Tally} {marks : List (Bool × List ℕ)} → Filled p.format task all closed now t marks → Within t
  unfolding blocks_in
  within {closed} {now} {t} {marks} w =
      let k = least p.format task closed now marks in
      record {
        many = omega (arith, w.blocks, k.blocks, ap length w.left, y.ready.count);
        long = omega (arith, w.bytes, k.bytes, ap (λ (bs : List (List (List ℕ))). length (bytes_in p.format bs)) w.left, length_reel (blocks_in p y.ready.recs), count_is y.ready);
        last = omega (arith, w.size, w.bytes, last_most closed now);
      }

  -- a record more: the blocks so far with it, the room that it takes, and that what is put is what is then laid
  pub record Added (closed : List (List (List ℕ))) (now : List (List ℕ)) (t : Tally) (r : List ℕ) (more : List (Bool × List ℕ)) (v : Tally) : Type 0 where
    pub earlier : List (List (List ℕ))
    pub last : List (List ℕ)
    pub filled : Filled y.ready.p.format task (output_blocks y.ready.p y.ready.recs) earlier last v more
    pub piece : task.cost + (task.cost + output_length_of task (length r)) ≤ v.size
    pub grows : t.bytes ≤ v.bytes
    pub put : next_put task y.ready.p.fields r (4 * blocks + 8) t v (laid (framing y.ready.p.format) (4 * blocks + 8) old (so_far closed now))
        ≡ laid (framing y.ready.p.format) (4 * blocks + 8) old (so_far earlier last)

  -- what is put, in the rules' words
  put_is : (t v : Tally) (r out : List ℕ) → next_put task p.fields r (4 * blocks + 8) t v out
      ≡ over (4 * blocks + 8 + v.bytes - (task.cost + output_length_of task (length r))) (record_piece p.format (out_record p r))
      (over (4 * blocks + 8 + v.bytes - v.size) (size_word p.format v.size) (offset_put (4 * blocks + 8) t v out))
  unfolding next_put
  put_is t v r out =
      ap₂
      (λ (f : Format) (d : List ℕ). over (4 * blocks + 8 + v.bytes - (task.cost + output_length_of task (length r))) (record_piece f d)
      (over (4 * blocks + 8 + v.bytes - v.size) (size_word f v.size) (offset_put (4 * blocks + 8) t v out)))
      y.ready.is.format (sym (out_is y r))

  module _ (closed : List (List (List ℕ))) (t : Tally) (begins : Bool) (r : List ℕ) (more : List (Bool × List ℕ)) (long : length (out_record p r) ≡ output_length_of task (length r)) where
    added_opens : (now : List (List ℕ)) → Filled p.format task all closed now t ((begins, out_record p r) ∷ more) → opens_of task t begins (length (out_record p r)) ≡ true
        → Added closed now t r more (tally_of task t begins (length (out_record p r)))
    added_opens now w o =
        let d = out_record p r in
        let f = p.format in
        let base = 4 * blocks + 8 in
        let bs = so_far closed now in
        let v = tally_of task t begins (length d) in
        let e = tally_opens task t begins (length d) o in
        let many : v.blocks ≡ t.blocks + 1 = sym (ap (λ (u : Tally). u.blocks) e) in
        let size : v.size ≡ task.cost + (task.cost + length d) = sym (ap (λ (u : Tally). u.size) e) in
        let bytes : v.bytes ≡ t.bytes + (task.cost + (task.cost + length d)) = sym (ap (λ (u : Tally). u.bytes) e) in
        let k = filled_opens f task y.ready.is.costs all closed t begins d more now w o in
        let before = within w in
        let after = within k in
        let front : 4 * length bs + 8 ≤ base = omega (arith, before.many, w.blocks) in
        record {
          earlier = bs;
          last = d ∷ [];
          filled = k;
          piece = omega arith;
          grows = omega arith;
          put =
              put_is t v r (laid (framing f) base old bs)
              ∙ ap (λ (x : List ℕ). over (base + v.bytes - (task.cost + output_length_of task (length r))) (record_piece f d) (over (base + v.bytes - v.size) (size_word f v.size) x))
              (sym (offset_opens base t v (laid (framing f) base old bs) (omega arith)))
              ∙ laid_opens (framing f) base old bs (omega arith) (omega (arith, before.long, w.bytes, y.ready.roomy)) d front (omega (arith, after.long, k.bytes, y.ready.roomy))
              (4 * v.blocks) (base + t.bytes) (base + v.bytes - v.size) v.size (base + v.bytes - (task.cost + output_length_of task (length r)))
              (omega (arith, w.blocks)) (omega (arith, w.bytes)) (omega arith) (omega (arith, y.ready.is.costs, length_piece f d)) (omega (arith, y.ready.is.costs));
        }

    added_behind : (now : List (List ℕ)) → Filled p.format task all closed now t ((begins, out_record p r) ∷ more) → opens_of task t begins (length (out_record p r)) ≡ false
        → Added closed now t r more (tally_of task t begins (length (out_record p r)))
    added_behind [] w o = absurd (omega (arith, behind_some p.format task y.ready.is.costs all closed t begins (out_record p r) more [] w o, w.blocks))
    added_behind (x ∷ xs) w o =
        let d = out_record p r in
        let f = p.format in
        let base = 4 * blocks + 8 in
        let now = x ∷ xs in
        let v = tally_of task t begins (length d) in
        let e = tally_behind task t begins (length d) o in
        let many : v.blocks ≡ t.blocks = sym (ap (λ (u : Tally). u.blocks) e) in
        let size : v.size ≡ t.size + (task.cost + length d) = sym (ap (λ (u : Tally). u.size) e) in
        let bytes : v.bytes ≡ t.bytes + (task.cost + length d) = sym (ap (λ (u : Tally). u.bytes) e) in
        let k = filled_behind f task y.ready.is.costs all closed t begins d more now w o in
        let before = within w in
        let after = within k in
        let sum = length_snoc f closed now in
        let least_size = total_least 0 (cost f) (cost f) now in
        record {
          earlier = closed;
          last = now ++ (d ∷ []);
          filled = k;
          piece = omega (arith, w.size, least_size, y.ready.is.costs);
          grows = omega arith;
          put =
              put_is t v r (laid (framing f) base old (so_far closed now))
              ∙ ap (λ (z : List ℕ). over (base + v.bytes - (task.cost + output_length_of task (length r))) (record_piece f d) (over (base + v.bytes - v.size) (size_word f v.size) z))
              (sym (offset_stays base t v (laid (framing f) base old (so_far closed now)) (omega arith)))
              ∙ laid_behind (framing f) base old closed now (omega (arith, before.many, w.blocks)) d (omega (arith, after.long, k.bytes, y.ready.roomy))
              (base + v.bytes - v.size) v.size (base + v.bytes - (task.cost + output_length_of task (length r)))
              (omega (arith, w.size, w.bytes, sum)) (omega (arith, w.size, y.ready.is.costs, total_body f now, length_piece f d)) (omega (arith, w.bytes));
        }

  module _ {out : List ℕ} {w : Walk} {t : Tally} (l : Laying out w t) where
    pub laying_within : Within t
    laying_within = within l.filled

    pub laying_length : length out ≡ length old
    laying_length =
        let k = laying_within in
        ap length l.is ∙ laid_length (framing p.format) (4 * blocks + 8) old (so_far l.closed l.now) (omega (arith, k.many, l.filled.blocks)) (omega (arith, k.long, l.filled.bytes, y.ready.roomy))

    pub laying_small : (n : ℕ) → n ≤ 0x1000000 → Small task t n
    laying_small n m =
        let k = laying_within in
        record {
          cost = cost_small y.ready;
          blocks = omega (arith, k.many, few_blocks y.ready);
          size = omega (arith, k.last, k.long, y.ready.most);
          bytes = omega (arith, k.long, y.ready.most);
          long = m;
        }

    -- at the end
    pub laying_end : l.rest ≡ [] → (new : List ℕ) → new ≡ over (4 * blocks + 4) (word (4 * blocks + 8 + t.bytes)) out
        → new ≡ over 4 (offset_words (4 * blocks + 8) (blocks_in y.ready.p y.ready.recs) ++ joined (blocks_in y.ready.p y.ready.recs)) old
    unfolding blocks_in
    laying_end none new e =
        let f = p.format in
        let base = 4 * blocks + 8 in
        let bs = so_far l.closed l.now in
        let k = laying_within in
        let same : bs ≡ all
        = all_done f task l.closed l.now ∙ ap (λ (m : List (Bool × List ℕ)). all_of f task l.closed l.now (outs p m)) (sym none) ∙ l.filled.left in
        let many : length bs ≡ blocks = ap length same ∙ sym y.ready.count in
        e
        ∙ ap₂ (λ (n : ℕ) (x : List ℕ). over (4 * blocks + 4) (word (base + n)) x) l.filled.bytes l.is
        ∙ laid_ends (framing f) base old bs (omega arith) (omega (arith, k.long, l.filled.bytes, y.ready.roomy)) (omega arith) (4 * blocks + 4) (omega arith)
        ∙ ap (λ (x : List (List (List ℕ))). over 4 (offset_words base (map (block_of f) x) ++ bytes_in f x) old) same

    module _ {r : List ℕ} {begins : Bool} {next : Walk} (u : Turn y.ready l.rest r begins next) (v : Tally) (is : v ≡ tally_of task t begins (output_length_of task (length r))) where
      pub added : Added l.closed l.now t r (outs y.ready.p u.more) v
      added =
          let d = out_record p r in
          let k = subst (Filled p.format task all l.closed l.now t) u.left l.filled in
          subst (Added l.closed l.now t r (outs p u.more)) (ap (tally_of task t begins) u.long ∙ sym is) (go k (opens_of task t begins (length d)) refl)
        where
          go : Filled p.format task all l.closed l.now t ((begins, out_record p r) ∷ outs p u.more) → (b : Bool) → opens_of task t begins (length (out_record p r)) ≡ b
              → Added l.closed l.now t r (outs p u.more) (tally_of task t begins (length (out_record p r)))
          go k true b = added_opens l.closed t begins r (outs p u.more) u.long l.now k b
          go k false b = added_behind l.closed t begins r (outs p u.more) u.long l.now k b

      pub laying_fits : NextFits task (length r) (4 * blocks + 8) t v (length out)
      laying_fits =
          let k = within added.filled in
          record {
            offset =
                record {
                  inside = λ o. omega (arith, k.many, header_fits y.ready, y.ready.roomy, laying_length);
                  low = omega (arith, added.grows, k.long, y.ready.most);
                  few = omega (arith, k.many, few_blocks y.ready);
                };
            inside = omega (arith, k.long, y.ready.roomy, laying_length);
            most = omega (arith, k.long, y.ready.most);
            header = omega arith;
            whole = k.last;
            piece = added.piece;
          }

      pub laying_writable : length r ≤ 65536 → Writable task xs r
      laying_writable m =
          let k = within added.filled in
          record {
            fielded = record { fields = p.fields; fair = fair_is y };
            least = λ z. omega (arith, u.least, least_selects p (sym (ap selects y.ready.is.mode) ∙ z), y.ready.is.n);
            costs = costs;
            width = width_small y.ready;
            long = m;
            word = omega (arith, added.piece, k.last, k.long, y.ready.most);
          }

      pub laying_next : (new : List ℕ) → NextPut task xs r (4 * blocks + 8) t v out new → Laying new next v
      unfolding NextPut
      laying_next new q =
          record {
            rest = u.more;
            walks = u.walks;
            closed = added.earlier;
            now = added.last;
            filled = added.filled;
            is = q p.fields (fair_is y) ∙ ap (next_put task p.fields r (4 * blocks + 8) t v) l.is ∙ added.put;
          }
