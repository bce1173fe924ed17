-- The blocks of a reel counted one after the other: each turn of the walk leaves the answer of the rules as it is, and counts no more records than bytes.
use mathlib.Core.Path.{◌≡◌, refl, ap, ap₂, sym, ◌∙◌, subst}
use mathlib.Core.Bool.{Bool, true}
use mathlib.Core.List.{List, ◌∷◌}
use mathlib.Core.Option.{Option, none, some, none-ne-some, some-injective}
use Prim.Native.Nat.{ℕ, zero, suc, ◌+◌, ◌-◌, ◌≤◌, ◌<◌}
use native.Mathlib.Omega.{arith}
use native.Mathlib.Numerals.{add-one}
use lib.Dec.{eqb}
use lib.ListN.{length, drop}
use Rattle.rules.specs.Base.{joined}
use Rattle.rules.specs.Answer.{Answer, fine, refuse, refused, ◌>>=◌, ◌>>◌, unless}
use Rattle.rules.specs.Reel.{block_count, is_reel, blocks_of}
use Rattle.rules.specs.ReelPlaces.{offset_at}
use Rattle.rules.specs.Spanned.{State, sofar, is_closed, segments_in, join_in, finish, spanned_from}
use Rattle.rules.proofs.Reel.Bounds.{reel_most}
use Rattle.rules.proofs.Reel.ReelLaws.{length_blocks}
use Rattle.rules.proofs.Reel.ReelSteps.{offset_most, offset_rises}
use Rattle.rules.proofs.Spanned.SpannedCounts.{Alike, total_of, plus, blocks_end, total_bad, total_good, total_alike}
use Rattle.reels.specs.Header.{header_of, block_part}
use Rattle.std.specs.Prelude.{Some, None, Ok, Err}
use Rattle.reels.specs.declared.ReelError.TheVariants.{NotReel, BadBlock}
use Rattle.reels.proofs.HeaderLaws.{reel_told, no_reel_told, part_length, part_step}
use Rattle.turns.specs.declared.Counts.{Counts}
use Rattle.turns.specs.Turns.{held_of, turned, told_by, Ruled}
use Rattle.turns.specs.Promise.{spanned_read, SpannedAs}
use Rattle.turns.proofs.TurnsLaws.{held_closed, held_length}

-- ---- what was counted before, and what is left

-- so many records were counted before those that are left, in so many blocks
abbrev counted_from : ℕ → ℕ → Answer ℕ → Answer (ℕ × ℕ)
counted_from k r (fine n) = fine (k, r + n)
counted_from k r (refuse x) = refuse x

read_start : (g : ℕ) (s : List ℕ) → is_reel s ≡ true → spanned_read g s ≡ counted_from (block_count s) 0 (total_of (spanned_from g 1 none (blocks_of s)))
unfolding spanned_read unless ◌>>◌ ◌>>=◌ total_of
read_start g s e = rw e (go (spanned_from g 1 none (blocks_of s)))
  where
    go : (x : Answer (List (List (List ℕ)))) → (x >>= λ recs. fine (length (blocks_of s), length (joined recs))) ≡ counted_from (block_count s) 0 (total_of x)
    go (fine recs) = ap₂ (λ (m n : ℕ). fine (m, n)) (length_blocks s e) (let z : length (joined recs) ≡ 0 + length (joined recs) = omega arith in z)
    go (refuse r) = refl

read_more : (k r n : ℕ) (x : Answer ℕ) → counted_from k r (plus n x) ≡ counted_from k (r + n) x
read_more k r n (fine m) = ap (λ (z : ℕ). fine (k, z)) (let z : r + (n + m) ≡ r + n + m = omega arith in z)
read_more k r n (refuse x) = refl

-- a block that is read, and one that is not
record Ends (k : ℕ) (o : Option State) (c : Counts) : Type 0 where
  state : State
  is : o ≡ some state
  records : c.records ≡ k + length state.0
  alike : Alike state.1 (held_of c.held)

turned_some : (k : ℕ) (o : Option State) (c : Counts) → told_by (Some c) ≡ turned k o → Ends k o c
turned_some k none c e = absurd (none-ne-some _ (sym e))
turned_some k (some x) c e =
    let q = some-injective (c.records, eqb c.held 0, c.held) (k + length x.0, is_closed x.1, length (sofar x.1)) e in
    let n : c.records ≡ k + length x.0 = ap (λ (z : ℕ × Bool × ℕ). z.0) q in
    let t : eqb c.held 0 ≡ is_closed x.1 = ap (λ (z : ℕ × Bool × ℕ). z.1) q in
    let h : c.held ≡ length (sofar x.1) = ap (λ (z : ℕ × Bool × ℕ). z.2) q in
    record { state = x; is = refl; records = n; alike = (sym t ∙ sym (held_closed c.held), sym h ∙ sym (held_length c.held)) }

turned_none : (k : ℕ) (o : Option State) → none ≡ turned k o → o ≡ none
turned_none k none e = refl
turned_none k (some x) e = absurd (none-ne-some _ e)

-- ---- the walk over the blocks, which holds the number of a block and the counts before it

pub record Reading (g : ℕ) (s : List ℕ) (blocks : ℕ) (counts : Counts) (i : ℕ) : Type 0 where
  pub reel : is_reel s ≡ true
  pub count : block_count s ≡ blocks
  pub inside : i ≤ blocks
  pub few : counts.records ≤ offset_at s i
  pub low : counts.held ≤ 32752
  pub same : spanned_read g s ≡ counted_from blocks counts.records (total_of (spanned_from g (suc i) (held_of counts.held) (drop i (blocks_of s))))

pub reading_start : (g : ℕ) (s : List ℕ) (k : ℕ) → header_of s ≡ Some k → Reading g s k (record { records = 0; held = 0 }) 0
reading_start g s k e =
    let h = reel_told s k e in
    record {
      reel = h.0;
      count = h.1;
      inside = omega arith;
      few = omega arith;
      low = omega arith;
      same = read_start g s h.0 ∙ ap (λ (n : ℕ). counted_from n 0 (total_of (spanned_from g 1 none (blocks_of s)))) h.1;
    }

module _ {g : ℕ} {s : List ℕ} {blocks : ℕ} {counts : Counts} {i : ℕ} (w : Reading g s blocks counts i) where
  reading_most : counts.records ≤ length s
  reading_most = let c = w.count in omega (arith, w.few, w.inside, offset_most s w.reel i (omega (arith, w.inside)))

  -- where the walk is over
  over : blocks ≤ i → spanned_read g s ≡ counted_from blocks counts.records (total_of (finish (suc blocks) (held_of counts.held)))
  over l =
      let c = w.count in
      let z : i ≡ blocks = omega (arith, w.inside) in
      w.same
      ∙ ap (λ (x : Answer (List (List (List ℕ)))). counted_from blocks counts.records (total_of x)) (blocks_end g (blocks_of s) i (held_of counts.held) (omega (arith, length_blocks s w.reel)))
      ∙ ap (λ (n : ℕ). counted_from blocks counts.records (total_of (finish (suc n) (held_of counts.held)))) z

  -- no record is unfinished
  pub reading_end : blocks ≤ i → counts.held ≡ 0 → SpannedAs g s (Ok (record { blocks = blocks; records = counts.records }))
  unfolding total_of
  reading_end l h =
      record {
        is = sym (over l ∙ ap (λ (n : ℕ). counted_from blocks counts.records (total_of (finish (suc blocks) (held_of n)))) h
            ∙ ap (λ (n : ℕ). fine (blocks, n)) (let y : counts.records + 0 ≡ counts.records = omega arith in y));
        most = reading_most;
      }

  -- one is
  pub reading_unfinished : blocks ≤ i → (counts.held ≡ 0 → ⊥) → SpannedAs g s (Err (BadBlock blocks))
  unfolding total_of
  reading_unfinished l f = record { is = sym (over l ∙ go counts.held f); most = omega arith }
    where
      go : (n : ℕ) → (n ≡ 0 → ⊥) → counted_from blocks counts.records (total_of (finish (suc blocks) (held_of n))) ≡ refused 12 blocks
      go zero f = absurd (f refl)
      go (suc n) f = ap (λ (m : ℕ). refused 12 m) (let y : suc blocks - 1 ≡ blocks = omega arith in y)

  module _ (l : i < blocks) where
    here : i < block_count s
    here = let c = w.count in omega arith

    -- a reel has at most 65,536 bytes
    pub reading_room : counts.records + length (block_part s i) ≤ 65536
    reading_room = omega (arith, w.few, part_length s i w.reel here, offset_rises s w.reel i here, offset_most s w.reel (suc i) here, reel_most s w.reel)

    left : total_of (spanned_from g (suc i) (held_of counts.held) (drop i (blocks_of s))) ≡ total_of (spanned_from g (suc i) (held_of counts.held) (block_part s i ∷ drop (suc i) (blocks_of s)))
    left = ap (λ (bs : List (List ℕ)). total_of (spanned_from g (suc i) (held_of counts.held) bs)) (part_step s i w.reel here)

    -- its records are counted
    pub reading_step : (after : Counts) → Ruled g counts (block_part s i) (Some after) → Reading g s blocks after (i + 1)
    reading_step after j =
        record {
          reel = w.reel;
          count = w.count;
          inside = omega arith;
          few = subst (λ (n : ℕ). after.records ≤ offset_at s n) (sym (add-one i)) (omega (arith, w.few, j.few, part_length s i w.reel here, offset_rises s w.reel i here));
          low = j.low;
          same = step (turned_some counts.records (join_in (held_of counts.held) (segments_in g (block_part s i))) after j.is);
        }
      where
        step : Ends counts.records (join_in (held_of counts.held) (segments_in g (block_part s i))) after
            → spanned_read g s ≡ counted_from blocks after.records (total_of (spanned_from g (suc (i + 1)) (held_of after.held) (drop (i + 1) (blocks_of s))))
        step x =
            let bs = drop (suc i) (blocks_of s) in
            w.same
            ∙ ap (counted_from blocks counts.records) (left ∙ total_good g (suc i) (held_of counts.held) (block_part s i) bs x.state x.is)
            ∙ read_more blocks counts.records (length x.state.0) (total_of (spanned_from g (suc (suc i)) x.state.1 bs))
            ∙ ap (counted_from blocks (counts.records + length x.state.0)) (total_alike g (suc (suc i)) bs x.state.1 (held_of after.held) x.alike)
            ∙ ap₂ (λ (m n : ℕ). counted_from blocks m (total_of (spanned_from g (suc n) (held_of after.held) (drop n (blocks_of s))))) (sym x.records) (sym (add-one i))

    -- it breaks its rule
    pub reading_bad : Ruled g counts (block_part s i) None → SpannedAs g s (Err (BadBlock (i + 1)))
    reading_bad j =
        let bs = drop (suc i) (blocks_of s) in
        let bad = total_bad g (suc i) (held_of counts.held) (block_part s i) bs (turned_none counts.records (join_in (held_of counts.held) (segments_in g (block_part s i))) j.is) in
        record {
          is = sym (w.same ∙ ap (counted_from blocks counts.records) (left ∙ bad) ∙ ap (λ (n : ℕ). refused 12 n) (sym (add-one i)));
          most = omega arith;
        }

pub not_reel : (g : ℕ) (s : List ℕ) → header_of s ≡ None → SpannedAs g s (Err NotReel)
unfolding spanned_read unless ◌>>◌ ◌>>=◌
not_reel g s e = record { is = rw (no_reel_told s e); most = omega arith }
