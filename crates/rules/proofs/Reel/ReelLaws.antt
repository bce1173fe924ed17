-- A reel and its blocks: reading undoes writing, and for bytes writing undoes reading, so that a list of bytes is a reel exactly if it is written from some blocks, none of them empty.
-- The words of the header are the count and the offsets; the parts between the offsets are the blocks. By going along the blocks, or along the offsets.
use mathlib.Core.Path.{◌≡◌, refl, ap, ap₂, sym, ◌∙◌, subst}
use mathlib.Core.Logic.{◌↔◌}
use mathlib.Core.Bool.{true, ◌&&◌}
use mathlib.Core.List.{List, [], ◌∷◌, ◌++◌, append-nil, append_assoc}
use Prim.Native.Nat.{ℕ, suc, ◌+◌, ◌*◌, ◌≤◌, ◌<◌}
use native.Mathlib.Omega.{arith}
use lib.Dec.{ltb, leb, eqb}
use lib.ListN.{length, take, drop, get_or, length-append, length-drop, take-append-drop, drop_of_length-le}
use lib.Seq.{slice, length-slice, length-take-le, take_at, drop_at, drop-append-le}
use borrow.Author.Tests.{ltb-true, leb-true, eqb-true, lt-ltb, le-leb, eq-eqb}
use Rattle.rules.specs.Base.{joined}
use Rattle.rules.specs.Places.{All, no_more, also, Byte}
use Rattle.rules.specs.Reel.{words, word, rising, cut, block_count, first_offset, offsets, is_reel, blocks_of, offset_words, reel_of}
use Rattle.rules.specs.RunRows.{ReelIs}
use Rattle.rules.proofs.Base.Lists.{full_length, length_full}
use Rattle.rules.proofs.Base.Tests.{and_left, and_right}
use Rattle.rules.proofs.Base.AllLaws.{all_append, all_take, all_drop, all_joined}
use Rattle.rules.proofs.Reel.WordLaws.{words_word, length_word, all_word, unwords, take_words, length_words}

-- ---- the header that is written

-- the offsets after the first
abbrev pub nexts : ℕ → List (List ℕ) → List ℕ
nexts a [] = []
nexts a (b ∷ bs) = (a + length b) ∷ nexts (a + length b) bs

length_nexts : (a : ℕ) (bs : List (List ℕ)) → length (nexts a bs) ≡ length bs
length_nexts a [] = refl
length_nexts a (b ∷ bs) = ap suc (length_nexts (a + length b) bs)

words_ends : (a : ℕ) (bs : List (List ℕ)) (s : List ℕ) → a + length (joined bs) < 0x100000000 → words (offset_words a bs ++ s) ≡ a ∷ (nexts a bs ++ words s)
words_ends a [] s l = words_word a s (omega arith)
words_ends a (b ∷ bs) s l =
    ap words (append_assoc (word a) (offset_words (a + length b) bs) s)
    ∙ words_word a (offset_words (a + length b) bs ++ s) (omega arith)
    ∙ ap (a ∷◌) (words_ends (a + length b) bs s (omega (arith, length-append b (joined bs))))

pub length_ends : (a : ℕ) (bs : List (List ℕ)) → length (offset_words a bs) ≡ 4 * length bs + 4
length_ends a [] = length_word a
length_ends a (b ∷ bs) = omega (arith, length-append (word a) (offset_words (a + length b) bs), length_word a, length_ends (a + length b) bs)

pub length_header : (bs : List (List ℕ)) → length (word (length bs) ++ offset_words (4 * length bs + 8) bs) ≡ 4 * length bs + 8
length_header bs = omega (arith, length-append (word (length bs)) (offset_words (4 * length bs + 8) bs), length_word (length bs), length_ends (4 * length bs + 8) bs)

pub length_reel : (bs : List (List ℕ)) → length (reel_of bs) ≡ 4 * length bs + 8 + length (joined bs)
unfolding reel_of
length_reel bs = length-append (word (length bs) ++ offset_words (4 * length bs + 8) bs) (joined bs) ∙ ap (λ (n : ℕ). n + length (joined bs)) (length_header bs)

all_ends : (a : ℕ) (bs : List (List ℕ)) → All Byte (offset_words a bs)
all_ends a [] = all_word a
all_ends a (b ∷ bs) = all_append (all_word a) (all_ends (a + length b) bs)

-- there are no more lists than elements, where none is empty
pub joined_count : {A : Type 0} {bs : List (List A)} → All (λ b. 1 ≤ length b) bs → length bs ≤ length (joined bs)
joined_count no_more = omega arith
joined_count (also {x = b} {xs = bs} h a) = omega (arith, length-append b (joined bs), joined_count a)

-- the reel of blocks of bytes is of bytes
pub all_reel : {bs : List (List ℕ)} → All (All Byte) bs → All Byte (reel_of bs)
unfolding reel_of
all_reel {bs} a = all_append (all_append (all_word (length bs)) (all_ends (4 * length bs + 8) bs)) (all_joined a)

-- ---- blocks that are not empty

rising_nexts : (a : ℕ) {bs : List (List ℕ)} → All (λ b. b ≡ [] → ⊥) bs → rising (a + length (joined bs)) a (nexts a bs) ≡ true
rising_nexts a no_more = eq-eqb a (a + 0) (omega arith)
rising_nexts a (also {x = b} {xs = bs} p h) =
    rw (lt-ltb a (a + length b) (omega (arith, full_length b p)))
    (subst (λ (n : ℕ). rising n (a + length b) (nexts (a + length b) bs) ≡ true)
    (let z : a + length b + length (joined bs) ≡ a + length (b ++ joined bs) = omega (arith, length-append b (joined bs)) in z) (rising_nexts (a + length b) h))

-- ---- reading what was written

-- the parts of the list between the offsets are the blocks
cut_nexts : (before : List ℕ) (a : ℕ) (bs : List (List ℕ)) → length before ≡ a → cut (before ++ joined bs) a (nexts a bs) ≡ bs
cut_nexts before a [] e = refl
cut_nexts before a (b ∷ bs) e =
    let s : before ++ (b ++ joined bs) ≡ (before ++ b) ++ joined bs = sym (append_assoc before b (joined bs)) in
    let l : length (before ++ b) ≡ a + length b = length-append before b ∙ ap (λ (n : ℕ). n + length b) e in
    ap₂ ◌∷◌
    (ap (λ (z : List ℕ). drop a (take (a + length b) z)) s ∙ ap (drop a) (take_at (before ++ b) (joined bs) (a + length b) l) ∙ drop_at before b a e)
    (ap (λ (z : List ℕ). cut z (a + length b) (nexts (a + length b) bs)) s ∙ cut_nexts (before ++ b) (a + length b) bs l)

reel_cut : (bs : List (List ℕ)) → cut (reel_of bs) (4 * length bs + 8) (nexts (4 * length bs + 8) bs) ≡ bs
unfolding reel_of
reel_cut bs = cut_nexts (word (length bs) ++ offset_words (4 * length bs + 8) bs) (4 * length bs + 8) bs (length_header bs)

module _ (bs : List (List ℕ)) (small : length (reel_of bs) ≤ 65536) where
  reel_words : words (reel_of bs) ≡ length bs ∷ ((4 * length bs + 8) ∷ (nexts (4 * length bs + 8) bs ++ words (joined bs)))
  unfolding reel_of
  reel_words =
      ap words (append_assoc (word (length bs)) (offset_words (4 * length bs + 8) bs) (joined bs))
      ∙ words_word (length bs) (offset_words (4 * length bs + 8) bs ++ joined bs) (omega (arith, length_reel bs))
      ∙ ap (length bs ∷◌) (words_ends (4 * length bs + 8) bs (joined bs) (omega (arith, length_reel bs)))

  pub written_count : block_count (reel_of bs) ≡ length bs
  unfolding block_count
  written_count = ap (λ (z : List ℕ). get_or z 0 0) reel_words

  pub written_first : first_offset (reel_of bs) ≡ 4 * length bs + 8
  unfolding first_offset
  written_first = ap (λ (z : List ℕ). get_or z 1 0) reel_words

  written_offsets : offsets (reel_of bs) ≡ nexts (4 * length bs + 8) bs
  unfolding offsets
  written_offsets =
      ap₂ (λ (n : ℕ) (z : List ℕ). take n (drop 2 z)) written_count reel_words
      ∙ take_at (nexts (4 * length bs + 8) bs) (words (joined bs)) (length bs) (length_nexts (4 * length bs + 8) bs)

  -- the blocks of a reel that was written are those it was written from, also where some are empty
  pub written_blocks : blocks_of (reel_of bs) ≡ bs
  unfolding blocks_of
  written_blocks = ap₂ (λ (n : ℕ) (z : List ℕ). cut (reel_of bs) n z) written_first written_offsets ∙ reel_cut bs

  pub written_is : All (λ b. b ≡ [] → ⊥) bs → is_reel (reel_of bs) ≡ true
  unfolding is_reel
  written_is h =
      let n = length_reel bs in
      let c : 4 * block_count (reel_of bs) + 8 ≡ 4 * length bs + 8 = ap (λ (x : ℕ). 4 * x + 8) written_count in
      let rise : rising (length (reel_of bs)) (4 * length bs + 8) (nexts (4 * length bs + 8) bs) ≡ true =
      subst (λ (x : ℕ). rising x (4 * length bs + 8) (nexts (4 * length bs + 8) bs) ≡ true) (sym n) (rising_nexts (4 * length bs + 8) h) in
      rw (le-leb (length (reel_of bs)) 65536 small, c, written_first, written_offsets, le-leb (4 * length bs + 8) (length (reel_of bs)) (omega arith), eq-eqb (4 * length bs + 8) (4 * length bs + 8) refl, rise)

-- a list has at most one list of blocks: those that are read
pub reel_blocks : (s : List ℕ) (bs : List (List ℕ)) → ReelIs s bs → blocks_of s ≡ bs
reel_blocks s bs r = ap blocks_of r.is ∙ written_blocks bs (subst (λ (z : List ℕ). length z ≤ 65536) r.is r.most)

pub reel_is : (s : List ℕ) (bs : List (List ℕ)) → ReelIs s bs → is_reel s ≡ true
reel_is s bs r = ap is_reel r.is ∙ written_is bs (subst (λ (z : List ℕ). length z ≤ 65536) r.is r.most) r.blocks

-- ---- writing what was read

-- what the header test asks
pub record HeaderIs (s : List ℕ) : Type 0 where
  pub most : length s ≤ 65536
  pub there : 4 * block_count s + 8 ≤ length s
  pub first : first_offset s ≡ 4 * block_count s + 8
  pub rises : rising (length s) (first_offset s) (offsets s) ≡ true

pub header_is : (s : List ℕ) → is_reel s ≡ true → HeaderIs s
unfolding is_reel
header_is s e =
    let two = leb (length s) 65536 && leb (4 * block_count s + 8) (length s) in
    let three = two && eqb (first_offset s) (4 * block_count s + 8) in
    let h = and_left three _ e in
    let g = and_left two _ h in
    record {
      most = leb-true (length s) 65536 (and_left (leb (length s) 65536) _ g);
      there = leb-true (4 * block_count s + 8) (length s) (and_right (leb (length s) 65536) _ g);
      first = eqb-true _ _ (and_right two _ h);
      rises = and_right three _ e;
    }

-- there are as many offsets after the first as blocks
pub length_offsets : (s : List ℕ) → 4 * block_count s + 8 ≤ length s → length (offsets s) ≡ block_count s
unfolding offsets
length_offsets s l = length-take-le (block_count s) (drop 2 (words s)) (omega (arith, length-drop 2 (words s), length_words s))

pub rising_most : (e a : ℕ) (os : List ℕ) → rising e a os ≡ true → a ≤ e
rising_most e a [] r = omega (arith, eqb-true a e r)
rising_most e a (o ∷ os) r = omega (arith, ltb-true a o (and_left (ltb a o) _ r), rising_most e o os (and_right (ltb a o) _ r))

pub length_cut : (s : List ℕ) (a : ℕ) (os : List ℕ) → length (cut s a os) ≡ length os
length_cut s a [] = refl
length_cut s a (o ∷ os) = ap suc (length_cut s o os)

pub nexts_cut : (s : List ℕ) (a : ℕ) (os : List ℕ) → rising (length s) a os ≡ true → nexts a (cut s a os) ≡ os
nexts_cut s a [] r = refl
nexts_cut s a (o ∷ os) r =
    let l = ltb-true a o (and_left (ltb a o) _ r) in
    let q = and_right (ltb a o) _ r in
    let e : a + length (slice a o s) ≡ o = omega (arith, length-slice a o s (rising_most (length s) o os q)) in
    ap₂ ◌∷◌ e (ap (λ (n : ℕ). nexts n (cut s o os)) e ∙ nexts_cut s o os q)

-- the blocks one behind the other are the list from the first offset on
pub joined_cut : (s : List ℕ) (a : ℕ) (os : List ℕ) → rising (length s) a os ≡ true → joined (cut s a os) ≡ drop a s
joined_cut s a [] r = sym (drop_of_length-le s {i = a} (omega (arith, eqb-true a (length s) r)))
joined_cut s a (o ∷ os) r =
    let l = ltb-true a o (and_left (ltb a o) _ r) in
    let q = and_right (ltb a o) _ r in
    ap (slice a o s ++◌) (joined_cut s o os q)
    ∙ sym (drop-append-le a (take o s) (drop o s) (omega (arith, length-take-le o s (rising_most (length s) o os q))))
    ∙ ap (drop a) (take-append-drop o s)

full_cut : (s : List ℕ) (a : ℕ) (os : List ℕ) → rising (length s) a os ≡ true → All (λ b. b ≡ [] → ⊥) (cut s a os)
full_cut s a [] r = no_more
full_cut s a (o ∷ os) r =
    let l = ltb-true a o (and_left (ltb a o) _ r) in
    let q = and_right (ltb a o) _ r in
    also (length_full (slice a o s) (omega (arith, length-slice a o s (rising_most (length s) o os q)))) (full_cut s o os q)

all_cut : (s : List ℕ) (a : ℕ) (os : List ℕ) → All Byte s → All (All Byte) (cut s a os)
all_cut s a [] h = no_more
all_cut s a (o ∷ os) h = also (all_drop a (all_take o h)) (all_cut s o os h)

-- the blocks of a list of bytes are lists of bytes
pub all_blocks : (s : List ℕ) → All Byte s → All (All Byte) (blocks_of s)
unfolding blocks_of
all_blocks s h = all_cut s (first_offset s) (offsets s) h

-- no block of a reel is empty
pub full_blocks : (s : List ℕ) → is_reel s ≡ true → All (λ b. b ≡ [] → ⊥) (blocks_of s)
unfolding blocks_of
full_blocks s e = full_cut s (first_offset s) (offsets s) (header_is s e).rises

pub length_blocks : (s : List ℕ) → is_reel s ≡ true → length (blocks_of s) ≡ block_count s
unfolding blocks_of
length_blocks s e = length_cut s (first_offset s) (offsets s) ∙ length_offsets s (header_is s e).there

-- what follows the header are the blocks
pub joined_blocks : (s : List ℕ) → is_reel s ≡ true → joined (blocks_of s) ≡ drop (4 * block_count s + 8) s
unfolding blocks_of
joined_blocks s e = joined_cut s (first_offset s) (offsets s) (header_is s e).rises ∙ ap (λ (n : ℕ). drop n s) (header_is s e).first

pub ends_words : (a : ℕ) (bs : List (List ℕ)) → offset_words a bs ≡ unwords (a ∷ nexts a bs)
ends_words a [] = sym (append-nil (word a))
ends_words a (b ∷ bs) = ap (word a ++◌) (ends_words (a + length b) bs)

-- the first words of a list: the count, the first offset, the others
first_words : (s : List ℕ) → 4 * block_count s + 8 ≤ length s → take (block_count s + 2) (words s) ≡ block_count s ∷ (first_offset s ∷ offsets s)
unfolding block_count first_offset offsets
first_words s l = front (words s) (omega (arith, length_words s))
  where
    front : (ws : List ℕ) → 2 ≤ length ws → take (get_or ws 0 0 + 2) ws ≡ get_or ws 0 0 ∷ (get_or ws 1 0 ∷ take (get_or ws 0 0) (drop 2 ws))
    front [] m = absurd (omega arith)
    front (x ∷ []) m = absurd (omega arith)
    front (x ∷ (y ∷ ws)) m = let z : x + 2 ≡ suc (suc x) = omega arith in rw z

-- the offsets of the blocks that are read are those they were read by
ends_blocks : (s : List ℕ) → is_reel s ≡ true → offset_words (first_offset s) (blocks_of s) ≡ unwords (first_offset s ∷ offsets s)
unfolding blocks_of
ends_blocks s e =
    ends_words (first_offset s) (cut s (first_offset s) (offsets s))
    ∙ ap (λ (z : List ℕ). unwords (first_offset s ∷ z)) (nexts_cut s (first_offset s) (offsets s) (header_is s e).rises)

pub blocks_reel : (s : List ℕ) → All Byte s → is_reel s ≡ true → reel_of (blocks_of s) ≡ s
unfolding reel_of
blocks_reel s h e =
    let w = header_is s e in
    let j : 4 * (block_count s + 2) ≤ length s = omega (arith, w.there) in
    let header : word (length (blocks_of s)) ++ offset_words (4 * length (blocks_of s) + 8) (blocks_of s) ≡ take (4 * block_count s + 8) s =
    ap (λ (k : ℕ). word k ++ offset_words (4 * k + 8) (blocks_of s)) (length_blocks s e)
    ∙ ap (λ (a : ℕ). word (block_count s) ++ offset_words a (blocks_of s)) (sym w.first)
    ∙ ap (word (block_count s) ++◌) (ends_blocks s e)
    ∙ ap unwords (sym (first_words s w.there))
    ∙ sym (take_words (block_count s + 2) s h j)
    ∙ ap (λ (m : ℕ). take m s) (let z : 4 * (block_count s + 2) ≡ 4 * block_count s + 8 = omega arith in z) in
    ap₂ ◌++◌ header (joined_blocks s e) ∙ take-append-drop (4 * block_count s + 8) s

pub reel_of_lem : (s : List ℕ) → All Byte s → is_reel s ≡ true → ReelIs s (blocks_of s)
reel_of_lem s h e = record { is = sym (blocks_reel s h e); blocks = full_blocks s e; most = (header_is s e).most }

-- a list of bytes is a reel exactly if it is the reel of some blocks
pub reel_exactly : (s : List ℕ) → All Byte s → (is_reel s ≡ true) ↔ ((bs : List (List ℕ)) × ReelIs s bs)
reel_exactly s h = (λ e. (blocks_of s, reel_of_lem s h e), λ w. reel_is s w.0 w.1)
