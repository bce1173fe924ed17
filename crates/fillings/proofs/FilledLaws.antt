-- The blocks so far, of which the last is open: a tally is their measure, and a record goes behind the last or opens the next. By what the tally says of a record.
use mathlib.Core.Path.{◌≡◌, refl, ap, sym, ◌∙◌, subst}
use mathlib.Core.Bool.{Bool, true, false, cond, true≢false}
use mathlib.Core.List.{List, [], ◌∷◌, ◌++◌, map, append_assoc}
use Prim.Native.Nat.{ℕ, ◌+◌, ◌≤◌}
use native.Mathlib.Omega.{arith}
use lib.ListN.{length, length-append}
use Rattle.rules.specs.Base.{joined}
use Rattle.rules.specs.Grammar.{Mode, Format, tc, tf, tr, trf}
use Rattle.rules.specs.Output.{block_of, cost, total}
use Rattle.rules.proofs.Base.Lists.{mapped_append, mapped_last}
use Rattle.rules.proofs.Blocks.BlockLaws.{length_block}
use Rattle.rules.proofs.Output.FillLaws.{total_snoc}
use Rattle.terms.specs.Meaning.{mode_of}
use Rattle.terms.specs.declared.Task.{Task}
use Rattle.walks.specs.Marks.{marked_all}
use Rattle.fillings.specs.declared.Tally.{Tally}
use Rattle.fillings.specs.Tallying.{overfills_of, opens_in, opens_of, tally_of}
use Rattle.fillings.proofs.TallyLaws.{tally_opens, tally_behind, over_first, over_later, empty}
use Rattle.fillings.proofs.Gathering.{gather, gathered}

-- ---- the blocks so far

-- those that are closed, and the one that is open: none at first
abbrev pub so_far : List (List (List ℕ)) → List (List ℕ) → List (List (List ℕ))
so_far closed [] = []
so_far closed (r ∷ rs) = closed ++ ((r ∷ rs) ∷ [])

-- as bytes
abbrev pub bytes_in : Format → List (List (List ℕ)) → List ℕ
bytes_in f bs = joined (map (block_of f) bs)

-- the size of the block that is open
abbrev pub size_of : Format → List (List ℕ) → ℕ
size_of f [] = 0
size_of f (r ∷ rs) = total (cost f) (cost f) (r ∷ rs)

module _ (f : Format) (bs : List (List (List ℕ))) where
  length_both : (more : List (List (List ℕ))) → length (bytes_in f (bs ++ more)) ≡ length (bytes_in f bs) + length (bytes_in f more)
  length_both more = ap length (mapped_append (block_of f) bs more) ∙ length-append (bytes_in f bs) (bytes_in f more)

  pub length_snoc : (b : List (List ℕ)) → length (bytes_in f (bs ++ (b ∷ []))) ≡ length (bytes_in f bs) + total (cost f) (cost f) b
  length_snoc b = omega (arith, ap length (mapped_last (block_of f) bs b), length-append (bytes_in f bs) (block_of f b), length_block f b)

-- ---- whether a record opens a block, by the size of the one that is open

abbrev pub opened : ℕ → Tally
opened size = record { blocks = 1; size = size; bytes = 0 }

unfoldable pub behind_of : Task → ℕ → Bool → ℕ → Bool
behind_of task size begins n = opens_of task (opened size) begins n

module _ (limit c : ℕ) (t : Tally) (begins : Bool) (n : ℕ) (k : 1 ≤ t.blocks) where
  over_same : overfills_of limit c t n ≡ overfills_of limit c (opened t.size) n
  over_same = sym (over_later limit c t n (λ e. omega arith)) ∙ over_later limit c (opened t.size) n (λ e. omega arith)

  opens_in_lem : (m : Mode) → opens_in m limit c t begins n ≡ opens_in m limit c (opened t.size) begins n
  opens_in_lem tc = over_same
  opens_in_lem tf = refl
  opens_in_lem tr = over_same
  opens_in_lem trf = over_same

opens_behind : (task : Task) (t : Tally) (begins : Bool) (n : ℕ) → 1 ≤ t.blocks → opens_of task t begins n ≡ behind_of task t.size begins n
unfolding opens_of behind_of
opens_behind task t begins n k = opens_in_lem task.limit task.cost t begins n k (mode_of task.mode)

opens_first : (task : Task) (t : Tally) (n : ℕ) → t.blocks ≡ 0 → opens_of task t true n ≡ true
unfolding opens_of
opens_first task t n e = go (mode_of task.mode)
  where
    go : (m : Mode) → opens_in m task.limit task.cost t true n ≡ true
    go tc = sym (over_first task.limit task.cost t n e)
    go tf = refl
    go tr = sym (over_first task.limit task.cost t n e)
    go trf = sym (over_first task.limit task.cost t n e)

-- ---- further records

-- the first of them is marked
abbrev pub Starts : List (Bool × List ℕ) → Type 0
Starts [] = Unit
Starts ((begins, r) ∷ more) = begins ≡ true

pub starts : (bs : List (List (List ℕ))) → Starts (marked_all bs)
starts [] = tt
starts ([] ∷ bs) = starts bs
starts ((r ∷ rs) ∷ bs) = refl

module _ (f : Format) (task : Task) where
  -- the blocks so far and those that further records make of them
  abbrev pub all_of : List (List (List ℕ)) → List (List ℕ) → List (Bool × List ℕ) → List (List (List ℕ))
  all_of closed [] marks = gathered f (behind_of task) marks
  all_of closed (r ∷ rs) marks = closed ++ gather f (behind_of task) (r ∷ rs) marks

  pub all_done : (closed : List (List (List ℕ))) (now : List (List ℕ)) → so_far closed now ≡ all_of closed now []
  all_done closed [] = refl
  all_done closed (r ∷ rs) = refl

  -- what is filled is not lost
  pub record Least (now more : List (List (List ℕ))) : Type 0 where
    pub blocks : length now ≤ length more
    pub bytes : length (bytes_in f now) ≤ length (bytes_in f more)

  gather_least : (now : List (List ℕ)) (more : List (Bool × List ℕ))
      → (1 ≤ length (gather f (behind_of task) now more)) × (total (cost f) (cost f) now ≤ length (bytes_in f (gather f (behind_of task) now more)))
  gather_least now [] = (omega arith, omega (arith, length-append (block_of f now) [], length_block f now))
  gather_least now ((begins, r) ∷ more) = go (gather_least (now ++ (r ∷ [])) more) (behind_of task (total (cost f) (cost f) now) begins (length r)) refl
    where
      go : (1 ≤ length (gather f (behind_of task) (now ++ (r ∷ [])) more))
          × (total (cost f) (cost f) (now ++ (r ∷ [])) ≤ length (bytes_in f (gather f (behind_of task) (now ++ (r ∷ [])) more)))
          → (q : Bool) → behind_of task (total (cost f) (cost f) now) begins (length r) ≡ q
          → (1 ≤ length (gather f (behind_of task) now ((begins, r) ∷ more)))
          × (total (cost f) (cost f) now ≤ length (bytes_in f (gather f (behind_of task) now ((begins, r) ∷ more))))
      go here true q = rw q (omega arith, omega (arith, length-append (block_of f now) (bytes_in f (gather f (behind_of task) (r ∷ []) more)), length_block f now))
      go here false q = rw q (here.0, omega (arith, here.1, total_snoc 0 (cost f) (cost f) now r))

  pub least : (closed : List (List (List ℕ))) (now : List (List ℕ)) (marks : List (Bool × List ℕ)) → Least (so_far closed now) (all_of closed now marks)
  least closed [] marks = record { blocks = omega arith; bytes = omega arith }
  least closed (r ∷ rs) marks =
      let now = r ∷ rs in
      let more = gather f (behind_of task) now marks in
      let g = gather_least now marks in
      record {
        blocks = omega (arith, g.0, length-append closed (now ∷ []), length-append closed more);
        bytes = omega (arith, g.1, length_snoc f closed now, length_both f closed more);
      }

  -- a tally is the measure of the blocks so far
  pub record Filled (all closed : List (List (List ℕ))) (now : List (List ℕ)) (t : Tally) (marks : List (Bool × List ℕ)) : Type 0 where
    pub left : all_of closed now marks ≡ all
    pub blocks : t.blocks ≡ length (so_far closed now)
    pub size : t.size ≡ size_of f now
    pub bytes : t.bytes ≡ length (bytes_in f (so_far closed now))
    pub first : t.blocks ≡ 0 → Starts marks

  pub filled_start : {all : List (List (List ℕ))} (marks : List (Bool × List ℕ)) → gathered f (behind_of task) marks ≡ all → Starts marks → Filled all [] [] empty marks
  filled_start marks e s = record { left = e; blocks = refl; size = refl; bytes = refl; first = λ z. s }

  module _ (costs : task.cost ≡ cost f) (all closed : List (List (List ℕ))) (t : Tally) (begins : Bool) (r : List ℕ) (more : List (Bool × List ℕ)) where
    -- the record opens a block
    left_opens : (now : List (List ℕ)) → Filled all closed now t ((begins, r) ∷ more) → opens_of task t begins (length r) ≡ true → all_of (so_far closed now) (r ∷ []) more ≡ all
    left_opens [] w o = w.left
    left_opens (x ∷ xs) w o =
        let now = x ∷ xs in
        let k : 1 ≤ t.blocks = omega (arith, w.blocks, length-append closed (now ∷ [])) in
        let q : behind_of task (total (cost f) (cost f) now) begins (length r) ≡ true
        = ap (λ (z : ℕ). behind_of task z begins (length r)) (sym w.size) ∙ sym (opens_behind task t begins (length r) k) ∙ o in
        append_assoc closed (now ∷ []) (gather f (behind_of task) (r ∷ []) more)
        ∙ ap (λ (b : Bool). closed ++ cond b (now ∷ gather f (behind_of task) (r ∷ []) more) (gather f (behind_of task) (now ++ (r ∷ [])) more)) (sym q)
        ∙ w.left

    pub filled_opens : (now : List (List ℕ)) → Filled all closed now t ((begins, r) ∷ more) → opens_of task t begins (length r) ≡ true
        → Filled all (so_far closed now) (r ∷ []) (tally_of task t begins (length r)) more
    filled_opens now w o =
        subst (λ (u : Tally). Filled all (so_far closed now) (r ∷ []) u more) (tally_opens task t begins (length r) o)
        (record {
          left = left_opens now w o;
          blocks = omega (arith, w.blocks, length-append (so_far closed now) ((r ∷ []) ∷ []));
          size = omega arith;
          bytes = omega (arith, w.bytes, length_snoc f (so_far closed now) (r ∷ []));
          first = λ z. absurd (omega arith);
        })

    -- or goes behind the others: then a block is open
    pub behind_some : (now : List (List ℕ)) → Filled all closed now t ((begins, r) ∷ more) → opens_of task t begins (length r) ≡ false → 1 ≤ t.blocks
    behind_some [] w o =
        let b : begins ≡ true = w.first w.blocks in
        absurd (true≢false (sym (opens_first task t (length r) w.blocks) ∙ ap (λ (z : Bool). opens_of task t z (length r)) (sym b) ∙ o))
    behind_some (x ∷ xs) w o = omega (arith, w.blocks, length-append closed ((x ∷ xs) ∷ []))

    pub filled_behind : (now : List (List ℕ)) → Filled all closed now t ((begins, r) ∷ more) → opens_of task t begins (length r) ≡ false
        → Filled all closed (now ++ (r ∷ [])) (tally_of task t begins (length r)) more
    filled_behind [] w o = absurd (omega (arith, behind_some [] w o, w.blocks))
    filled_behind (x ∷ xs) w o =
        let now = x ∷ xs in
        let k : 1 ≤ t.blocks = behind_some now w o in
        let q : behind_of task (total (cost f) (cost f) now) begins (length r) ≡ false
        = ap (λ (z : ℕ). behind_of task z begins (length r)) (sym w.size) ∙ sym (opens_behind task t begins (length r) k) ∙ o in
        subst (λ (u : Tally). Filled all closed (now ++ (r ∷ [])) u more) (tally_behind task t begins (length r) o)
        (record {
          left =
              ap (λ (b : Bool). closed ++ cond b (now ∷ gather f (behind_of task) (r ∷ []) more) (gather f (behind_of task) (now ++ (r ∷ [])) more)) (sym q)
              ∙ w.left;
          blocks = omega (arith, w.blocks, length-append closed (now ∷ []), length-append closed ((now ++ (r ∷ [])) ∷ []));
          size = omega (arith, w.size, total_snoc 0 (cost f) (cost f) now r);
          bytes = omega (arith, w.bytes, length_snoc f closed now, length_snoc f closed (now ++ (r ∷ [])), total_snoc 0 (cost f) (cost f) now r);
          first = λ z. absurd (omega arith);
        })

    -- either way
    pub filled_more : (now : List (List ℕ)) → Filled all closed now t ((begins, r) ∷ more)
        → (next : List (List (List ℕ))) × (last : List (List ℕ)) × Filled all next last (tally_of task t begins (length r)) more
    filled_more now w = go (opens_of task t begins (length r)) refl
      where
        go : (b : Bool) → opens_of task t begins (length r) ≡ b → (next : List (List (List ℕ))) × (last : List (List ℕ)) × Filled all next last (tally_of task t begins (length r)) more
        go true o = (so_far closed now, r ∷ [], filled_opens now w o)
        go false o = (closed, now ++ (r ∷ []), filled_behind now w o)

  -- behind the last record the tally is that of all blocks
  pub filled_end : {all closed : List (List (List ℕ))} {now : List (List ℕ)} {t : Tally} → Filled all closed now t [] → (t.blocks ≡ length all) × (t.bytes ≡ length (bytes_in f all))
  filled_end {all} {closed} {now} w =
      let e : so_far closed now ≡ all = all_done closed now ∙ w.left in
      (w.blocks ∙ ap length e, w.bytes ∙ ap (λ (bs : List (List (List ℕ))). length (bytes_in f bs)) e)
