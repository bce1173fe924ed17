-- The records of a reel counted block by block: each turn of the walk leaves the answer of the rules as it is, and counts no more records than bytes.
use mathlib.Core.Path.{◌≡◌, refl, ap, ap₂, sym, ◌∙◌, subst}
use mathlib.Core.Bool.{true}
use mathlib.Core.List.{List, [], ◌∷◌, ◌++◌}
use mathlib.Core.Option.{Option, none, some}
use Prim.Native.Nat.{ℕ, suc, ◌+◌, ◌≤◌, ◌<◌}
use native.Mathlib.Omega.{arith}
use native.Mathlib.Numerals.{add-one}
use lib.ListN.{length, drop, length-append}
use Rattle.rules.specs.Base.{joined}
use Rattle.rules.specs.Answer.{Answer, fine, refuse, refused, ◌>>=◌, ◌>>◌, unless}
use Rattle.rules.specs.Reel.{block_count, is_reel, blocks_of}
use Rattle.rules.specs.Plan.{Plan}
use Rattle.rules.specs.Blocks.{records_in, records_from}
use Rattle.rules.specs.ReelPlaces.{offset_at}
use Rattle.rules.proofs.Reel.ReelSteps.{offset_most, offset_rises, blocks_end}
use Rattle.rules.proofs.Blocks.TakenLaws.{after, after_none, blocks_good, blocks_bad}
use Rattle.pieces.specs.Form.{plan_by}
use Rattle.reels.specs.Header.{header_of, block_part}
use Rattle.reels.specs.Records.{block_read, BlockSays, reel_read, ReadAs}
use Rattle.pieces.specs.declared.Form.{Form}
use Rattle.std.specs.Prelude.{Some, None, Ok, Err}
use Rattle.reels.specs.declared.ReelError.TheVariants.{NotReel, BadBlock}
use Rattle.reels.proofs.HeaderLaws.{reel_told, no_reel_told, part_length, part_step}

-- ---- what was counted before, and what is left

-- so many blocks and records were counted before those of the answer
abbrev counted_from : ℕ → ℕ → Answer (List (List (List ℕ))) → Answer (ℕ × ℕ)
counted_from k r x = x >>= λ bs. fine (k + length bs, r + length (joined bs))

read_start : (p : Plan) (s : List ℕ) → is_reel s ≡ true → reel_read p s ≡ counted_from 0 0 (records_from p 1 (blocks_of s))
unfolding reel_read unless ◌>>◌ ◌>>=◌
read_start p s e = rw e (go (records_from p 1 (blocks_of s)))
  where
    go : (x : Answer (List (List (List ℕ)))) → (x >>= λ bs. fine (length bs, length (joined bs))) ≡ counted_from 0 0 x
    go (fine bs) =
        ap₂ (λ (m n : ℕ). fine (m, n)) (let z : length bs ≡ 0 + length bs = omega arith in z) (let z : length (joined bs) ≡ 0 + length (joined bs) = omega arith in z)
    go (refuse r) = refl

read_more : (k r : ℕ) (rs : List (List ℕ)) (x : Answer (List (List (List ℕ)))) → counted_from k r (after (rs ∷ []) x) ≡ counted_from (k + 1) (r + length rs) x
unfolding ◌>>=◌
read_more k r rs (fine bs) =
    ap₂ (λ (m n : ℕ). fine (m, n)) (let z : k + suc (length bs) ≡ k + 1 + length bs = omega arith in z)
    (let z : r + length (rs ++ joined bs) ≡ r + length rs + length (joined bs) = omega (arith, length-append rs (joined bs)) in z)
read_more k r rs (refuse x) = refl

read_end : (k r : ℕ) → counted_from k r (fine []) ≡ fine (k + 0, r + 0)
unfolding ◌>>=◌
read_end k r = refl

read_refused : (k r i : ℕ) → counted_from k r (refused 12 i) ≡ refused 12 i
unfolding ◌>>=◌
read_refused k r i = refl

-- a block that is read, and one that is not
block_some : (o : Option (List (List ℕ))) (k : ℕ) → Some k ≡ block_read o → (rs : List (List ℕ)) × (o ≡ some rs) × (k ≡ length rs)
block_some none k e = let z : ◌≡◌ {A = ℕ} 0 1 = cc in absurd (omega arith)
block_some (some rs) k e = (rs, refl, cc)

block_none : (o : Option (List (List ℕ))) → None ≡ block_read o → o ≡ none
block_none none e = refl
block_none (some rs) e = let z : ◌≡◌ {A = ℕ} 0 1 = cc in absurd (omega arith)

-- ---- the walk over the blocks, which holds the number of a block and how many records were counted before it

pub record Reading (form : Form) (s : List ℕ) (blocks records i : ℕ) : Type 0 where
  pub reel : is_reel s ≡ true
  pub count : block_count s ≡ blocks
  pub inside : i ≤ blocks
  pub few : records ≤ offset_at s i
  pub same : reel_read (plan_by form) s ≡ counted_from i records (records_from (plan_by form) (suc i) (drop i (blocks_of s)))

pub reading_start : (form : Form) (s : List ℕ) (k : ℕ) → header_of s ≡ Some k → Reading form s k 0 0
reading_start form s k e =
    let h = reel_told s k e in
    record { reel = h.0; count = h.1; inside = omega arith; few = omega arith; same = read_start (plan_by form) s h.0 }

module _ {form : Form} {s : List ℕ} {blocks records i : ℕ} (w : Reading form s blocks records i) where
  abbrev p : Plan
  p = plan_by form

  pub reading_most : records ≤ length s
  reading_most = let c = w.count in omega (arith, w.few, w.inside, offset_most s w.reel i (omega (arith, w.inside)))

  -- where the walk is over
  pub reading_end : blocks ≤ i → ReadAs form s (Ok (record { blocks = blocks; records = records }))
  reading_end l =
      let c = w.count in
      let z : i ≡ block_count s = omega (arith, w.inside) in
      record {
        is = sym (w.same
            ∙ ap (λ (x : List (List ℕ)). counted_from i records (records_from p (suc i) x)) (ap (λ (n : ℕ). drop n (blocks_of s)) z ∙ blocks_end s w.reel)
            ∙ read_end i records
            ∙ ap₂ (λ (m n : ℕ). fine (m, n)) (let y : i + 0 ≡ blocks = omega (arith, w.inside) in y) (let y : records + 0 ≡ records = omega arith in y));
        most = reading_most;
      }

  module _ (l : i < blocks) where
    here : i < block_count s
    here = let c = w.count in omega arith

    -- block i
    left : records_from p (suc i) (drop i (blocks_of s)) ≡ records_from p (suc i) (block_part s i ∷ drop (suc i) (blocks_of s))
    left = ap (records_from p (suc i)) (part_step s i w.reel here)

    -- it is not empty, since the offsets rise
    pub part_full : 1 ≤ length (block_part s i)
    part_full = omega (arith, part_length s i w.reel here, offset_rises s w.reel i here)

    -- its records are counted
    pub reading_step : (k : ℕ) → BlockSays form (block_part s i) (Some k) → Reading form s blocks (records + k) (i + 1)
    reading_step k j =
        record {
          reel = w.reel;
          count = w.count;
          inside = omega arith;
          few = subst (λ (n : ℕ). records + k ≤ offset_at s n) (sym (add-one i)) (omega (arith, w.few, j.most, part_length s i w.reel here, offset_rises s w.reel i here));
          same = step (block_some (records_in p (block_part s i)) k j.is);
        }
      where
        step : (rs : List (List ℕ)) × (records_in p (block_part s i) ≡ some rs) × (k ≡ length rs)
            → reel_read p s ≡ counted_from (i + 1) (records + k) (records_from p (suc (i + 1)) (drop (i + 1) (blocks_of s)))
        step (rs, e, n) =
            let bs = drop (suc i) (blocks_of s) in
            w.same
            ∙ ap (counted_from i records) (left ∙ sym (after_none (records_from p (suc i) (block_part s i ∷ bs))) ∙ blocks_good p [] (suc i) (block_part s i) bs rs e)
            ∙ read_more i records rs (records_from p (suc (suc i)) bs)
            ∙ ap₂ (λ (m x : ℕ). counted_from (i + 1) (records + m) (records_from p (suc x) (drop x (blocks_of s)))) (sym n) (sym (add-one i))

    -- it breaks its rule
    pub reading_bad : BlockSays form (block_part s i) None → ReadAs form s (Err (BadBlock (i + 1)))
    reading_bad j =
        let bs = drop (suc i) (blocks_of s) in
        let bad = blocks_bad p [] (suc i) (block_part s i) bs (block_none (records_in p (block_part s i)) j.is) in
        record {
          is = sym (w.same ∙ ap (counted_from i records) (left ∙ sym (after_none (records_from p (suc i) (block_part s i ∷ bs))) ∙ bad)
              ∙ read_refused i records (suc i) ∙ ap (λ (n : ℕ). refused 12 n) (sym (add-one i)));
          most = omega arith;
        }

pub not_reel : (form : Form) (s : List ℕ) → header_of s ≡ None → ReadAs form s (Err NotReel)
unfolding reel_read unless ◌>>◌ ◌>>=◌
not_reel form s e = record { is = rw (no_reel_told s e); most = omega arith }
