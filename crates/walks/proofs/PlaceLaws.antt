-- The blocks of a reel: a part that is not empty lies in the list between its two offsets, behind the last block there is none, and the data of a piece
-- of a part, and its word, are parts of the reel. By the tests of the two words.
use mathlib.Core.Path.{◌≡◌, refl, ap, sym, ◌∙◌}
use mathlib.Core.Bool.{Bool, true, false, false≢true}
use mathlib.Core.List.{List}
use Prim.Native.Nat.{ℕ, suc, ◌+◌, ◌-◌, ◌*◌, ◌≤◌, ◌<◌}
use native.Mathlib.Omega.{arith}
use lib.Dec.{leb}
use lib.ListN.{length, take, drop, get_or, length-drop}
use lib.Seq.{slice, length-slice, take-take, drop-drop, get_or-take, get_or-drop}
use borrow.Author.Tests.{leb-true, leb-false}
use Rattle.rules.specs.Grammar.{Format, ff, fv, fu, fsp}
use Rattle.rules.specs.Reel.{block_count, is_reel}
use Rattle.rules.specs.Blocks.{Piece, data_of}
use Rattle.rules.specs.Output.{cost}
use Rattle.rules.specs.ReelPlaces.{offset_at, piece_from, good_from, behind}
use Rattle.rules.proofs.Base.Lists.{slice_part}
use Rattle.rules.proofs.Reel.HeaderSteps.{next_at}
use Rattle.rules.proofs.Reel.ReelSteps.{offset_last}
use Rattle.rules.proofs.Blocks.BlockWords.{headed_exactly, word_length_at}
use Rattle.rules.proofs.Blocks.BlockSteps.{data_slice}
use Rattle.reels.specs.Header.{block_part}
use Rattle.reels.proofs.HeaderLaws.{part_there, words_missing, part_outside}
use Rattle.walks.specs.Walking.{end_in}

-- a part that is not empty: both its words are there, and it lies between its offsets
pub record Part (s : List ℕ) (i : ℕ) : Type 0 where
  pub words : 4 * i + 12 ≤ length s
  pub is : block_part s i ≡ slice (offset_at s i) (offset_at s (suc i)) s
  pub ends : offset_at s i + length (block_part s i) ≡ offset_at s (suc i)
  pub most : offset_at s (suc i) ≤ length s

pub part_inside : (s : List ℕ) (i : ℕ) → 0 < length (block_part s i) → Part s i
part_inside s i l = words (leb (4 * i + 12) (length s)) refl
  where
    offsets : 4 * i + 12 ≤ length s → (t : Bool) → leb (offset_at s (suc i)) (length s) ≡ t → Part s i
    offsets h false t = absurd (omega (arith, ap length (part_outside s i (offset_at s (suc i)) h (next_at s i) (leb-false _ _ t))))
    offsets h true t =
        let m = leb-true (offset_at s (suc i)) (length s) t in
        let e = part_there s i h m in
        let n = ap length e ∙ length-slice (offset_at s i) (offset_at s (suc i)) s m in
        record { words = h; is = e; ends = omega arith; most = m }

    words : (t : Bool) → leb (4 * i + 12) (length s) ≡ t → Part s i
    words false t = absurd (omega (arith, ap length (words_missing s i (leb-false _ _ t))))
    words true t = offsets (leb-true (4 * i + 12) (length s) t) (leb (offset_at s (suc i)) (length s)) refl

-- behind the last block of a reel there is none
pub no_part : (s : List ℕ) → is_reel s ≡ true → length (block_part s (block_count s)) ≤ 0
no_part s e = go (leb (length (block_part s (block_count s))) 0) refl
  where
    go : (t : Bool) → leb (length (block_part s (block_count s))) 0 ≡ t → length (block_part s (block_count s)) ≤ 0
    go true t = leb-true (length (block_part s (block_count s))) 0 t
    go false t =
        let l = leb-false (length (block_part s (block_count s))) 0 t in
        let w = part_inside s (block_count s) l in
        absurd (omega (arith, w.ends, w.most, offset_last s e))

-- the data of a piece of a part, as a part of the reel
pub data_place : (s b : List ℕ) (a e : ℕ) (x : Piece) → b ≡ slice a e s → e ≤ length s → a + behind x ≤ e → data_of b x ≡ slice (a + x.place) (a + x.place + x.size) s
data_place s b a e x is m l =
    let n = x.place in
    let k = x.size in
    let y : Piece = record { place = a + n; size = k; third = 0 } in
    data_slice b x
    ∙ ap (λ (z : List ℕ). drop n (take (n + k) z)) (is ∙ slice_part a e s (omega arith))
    ∙ ap (drop n) (take-take (n + k) (e - a) (drop a s) (omega arith))
    ∙ sym (data_slice (drop a s) x)
    ∙ ap (take k) (drop-drop n a s)
    ∙ data_slice s y

-- the bytes of a part are those of the reel
byte_there : (s b : List ℕ) (a e j : ℕ) → b ≡ slice a e s → a + length b ≡ e → e ≤ length s → j < length b → get_or b j 0 ≡ get_or s (a + j) 0
byte_there s b a e j is ends most l =
    ap (λ (z : List ℕ). get_or z j 0) (is ∙ slice_part a e s (omega arith))
    ∙ get_or-take (e - a) (drop a s) j 0 (omega arith)
    ∙ get_or-drop a s j 0

-- a good piece: where its data begins, and where it ends
module _ (n : ℕ) (s b : List ℕ) (a e i : ℕ) (is : b ≡ slice a e s) (ends : a + length b ≡ e) (most : e ≤ length s) (l : i < length b) where
  pub piece_ends : (f : Format) → good_from f n b i ≡ true → (i + cost f ≡ (piece_from f n b i).place) × (end_in f n s (a + i) e ≡ a + behind (piece_from f n b i))
  piece_ends ff g = (omega arith, omega arith)
  piece_ends fv g =
      let w = (headed_exactly 5 (drop i b)).0 g in
      let d = length-drop i b in
      let z = byte_there s b a e i is ends most l in
      let y = byte_there s b a e (i + 1) is ends most (omega (arith, w.least, w.most)) in
      let v : get_or s (a + i + 1) 0 ≡ get_or s (a + (i + 1)) 0 = ap (λ (k : ℕ). get_or s k 0) (let k : a + i + 1 ≡ a + (i + 1) = omega arith in k) in
      (refl, omega (arith, w.least, word_length_at b i, z, y, v))
  piece_ends fu g = (omega arith, omega arith)
  piece_ends fsp g = absurd (false≢true g)
