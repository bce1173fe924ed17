-- The words of FV: those of CodedWords whose third byte is 0. Its records are whole segments, and its walk is the one of 0.
use mathlib.Core.Path.{◌≡◌, refl, ap, ap₂, sym, ◌∙◌, subst}
use mathlib.Core.Logic.{◌↔◌}
use mathlib.Core.Bool.{true, false}
use mathlib.Core.List.{List, [], ◌∷◌, ◌++◌, map, map-map, map-id}
use mathlib.Core.Option.{none, some}
use Prim.Native.Nat.{ℕ, suc, ◌+◌, ◌*◌, ◌≤◌, ◌<◌}
use native.Mathlib.Omega.{arith}
use lib.ListN.{length, take, drop, get_or, length-map}
use lib.Seq.{get_or-drop}
use Rattle.rules.specs.Places.{All, no_more, also, Byte}
use Rattle.rules.specs.Blocks.{Piece, word_length, headed, with_piece, variable_from, data_of}
use Rattle.rules.specs.Output.{length_word, framed}
use Rattle.rules.specs.ReelPlaces.{piece_at}
use Rattle.rules.specs.Spanned.{Segment, segment, part, segment_of, coded_word, spelled, segment_at}
use Rattle.rules.proofs.Base.Lists.{map_same}
use Rattle.rules.proofs.Base.AllLaws.{all_imply, all_map}
use Rattle.rules.proofs.Blocks.CodedWords.{part_of, headed_to_exactly, coded_word_back, coded_word_four, coded_word_bytes, coded_word_says, coded_word_heads, length_spelled, spelled_bytes, walk_good, walk_bad, walk_enough, LiesTo, walk_back, places_of, walk_to, segments_back}
pub use Rattle.rules.proofs.Blocks.CodedWords.{Lies}

-- ---- a word that is read

pub record Headed (low : ℕ) (s : List ℕ) : Type 0 where
  pub least : low ≤ word_length s
  pub most : word_length s ≤ length s
  pub third : get_or s 2 0 ≡ 0
  pub fourth : get_or s 3 0 ≡ 0

pub headed_exactly : (low : ℕ) (s : List ℕ) → (headed low s ≡ true) ↔ Headed low s
headed_exactly low s = (
  λ e. let w = (headed_to_exactly 0 low s).0 e in record { least = w.least; most = w.most; third = omega (arith, w.third); fourth = w.fourth },
  λ w. (headed_to_exactly 0 low s).1 (record { least = w.least; most = w.most; third = omega (arith, w.third); fourth = w.fourth }),
)

-- the word at a place of a block
pub word_length_at : (b : List ℕ) (i : ℕ) → word_length (drop i b) ≡ 256 * get_or b i 0 + get_or b (i + 1) 0
unfolding word_length
word_length_at b i =
    rw (get_or-drop i b 0 0, get_or-drop i b 1 0) (ap (λ (j : ℕ). 256 * get_or b j 0 + get_or b (i + 1) 0) (let z : i + 0 ≡ i = omega arith in z))

-- ---- a word that is written

pub word_fv : (n : ℕ) → length_word n ≡ coded_word 0 n
unfolding coded_word length_word
word_fv n = refl

-- the word of bytes is written as it stands
pub length_word_back : (s : List ℕ) → All Byte s → 4 ≤ length s → get_or s 2 0 ≡ 0 → get_or s 3 0 ≡ 0 → length_word (word_length s) ≡ take 4 s
length_word_back s a l y z = word_fv (word_length s) ∙ ap (λ (c : ℕ). coded_word c (word_length s)) (sym y) ∙ coded_word_back s a l z

pub length_word_four : (n : ℕ) → length (length_word n) ≡ 4
length_word_four n = ap length (word_fv n) ∙ coded_word_four 0 n

pub length_word_bytes : (n : ℕ) → n < 65536 → All Byte (length_word n)
length_word_bytes n l = subst (All Byte) (sym (word_fv n)) (coded_word_bytes 0 n (omega arith) l)

pub length_word_says : (n : ℕ) (s : List ℕ) → n < 65536 → word_length (length_word n ++ s) ≡ n
length_word_says n s l = ap (λ (w : List ℕ). word_length (w ++ s)) (word_fv n) ∙ coded_word_says 0 n s l

pub length_word_heads : (low n : ℕ) (s : List ℕ) → low ≤ n → n < 65536 → n ≤ 4 + length s → headed low (length_word n ++ s) ≡ true
length_word_heads low n s a b c = ap (λ (w : List ℕ). headed low (w ++ s)) (word_fv n) ∙ coded_word_heads 0 low 0 n s (omega arith) a b c

pub length_word_third : (n : ℕ) (s : List ℕ) → get_or (length_word n ++ s) 2 0 ≡ 0
unfolding length_word
length_word_third n s = refl

-- ---- records with their words: whole segments

abbrev pub whole : List ℕ → Segment
whole r = segment true true r

pub framed_fv : (rs : List (List ℕ)) → framed rs ≡ spelled (map whole rs)
framed_fv [] = refl
framed_fv (r ∷ rs) = ap₂ (λ (x : List ℕ) (y : List ℕ). x ++ r ++ y) (word_fv (length r + 4)) (framed_fv rs)

pub length_framed : (r : List ℕ) (rs : List (List ℕ)) → length (framed (r ∷ rs)) ≡ 4 + length r + length (framed rs)
length_framed r rs = omega (arith, ap length (framed_fv (r ∷ rs)), length_spelled (whole r) (map whole rs), ap length (framed_fv rs))

pub framed_bytes : {rs : List (List ℕ)} → All (All Byte) rs → length (framed rs) < 65536 → All Byte (framed rs)
framed_bytes {rs} a l = subst (All Byte) (sym (framed_fv rs)) (spelled_bytes (all_map whole a) (omega (arith, ap length (framed_fv rs))))

pub count_framed : (rs : List (List ℕ)) → length rs ≤ length (framed rs)
count_framed [] = omega arith
count_framed (r ∷ rs) = omega (arith, length_framed r rs, count_framed rs)

-- ---- one step

pub step_good : (k i : ℕ) (s : List ℕ) → headed 5 s ≡ true
    → variable_from (suc k) i s ≡ with_piece (piece_at i s) (variable_from k (i + word_length s) (drop (word_length s) s))
step_good k i s e = walk_good 0 k i s e

pub step_bad : (k i : ℕ) (s : List ℕ) → 1 ≤ length s → headed 5 s ≡ false → variable_from (suc k) i s ≡ none
step_bad k i s l e = walk_bad 0 k i s l e

-- steps past the length change nothing
pub steps_enough : (k m i : ℕ) (s : List ℕ) → length s < k → length s < m → variable_from k i s ≡ variable_from m i s
steps_enough k m i s l h = walk_enough 0 k m i s l h

-- ---- the records that fill the rest of a block

-- a piece of code 0 is a whole segment
zero_whole : (b : List ℕ) (x : Piece) → x.third ≤ 0 → segment_at b x ≡ whole (data_of b x)
unfolding segment_of
zero_whole b x l = ap (λ (c : ℕ). segment_of c (data_of b x)) (let z : x.third ≡ 0 = omega arith in z)

pieces_whole : (b : List ℕ) {xs : List Piece} → All (LiesTo 0 b) xs → map (segment_at b) xs ≡ map whole (map (data_of b) xs)
pieces_whole b no_more = refl
pieces_whole b (also {x = x} h a) = ap₂ ◌∷◌ (zero_whole b x h.1) (pieces_whole b a)

-- the data of the pieces, with words, is the rest of the block again
pub fills_back : (b : List ℕ) (k i : ℕ) (s : List ℕ) (xs : List Piece) → drop i b ≡ s → All Byte s → variable_from k i s ≡ some xs
    → (framed (map (data_of b) xs) ≡ s) × All (Lies b) xs
fills_back b k i s xs d a e =
    let w = walk_back 0 (omega arith) b k i s xs d a e in
    (framed_fv (map (data_of b) xs) ∙ ap spelled (sym (pieces_whole b w.1)) ∙ w.0, all_imply (λ x h. h.0) w.1)

-- where the records of a block stand, from place i on
abbrev pub pieces_of : ℕ → List (List ℕ) → List Piece
pieces_of i [] = []
pieces_of i (r ∷ rs) = record { place = i + 4; size = length r; third = 0 } ∷ pieces_of (i + (length r + 4)) rs

places_fv : (i : ℕ) (rs : List (List ℕ)) → places_of i (map whole rs) ≡ pieces_of i rs
places_fv i [] = refl
places_fv i (r ∷ rs) = ap (record { place = i + 4; size = length r; third = 0 } ∷◌) (places_fv (i + (length r + 4)) rs)

-- records that are written with their words are found
pub fills_to : (k i : ℕ) {rs : List (List ℕ)} → All (λ r. 1 ≤ length r) rs → length (framed rs) < 65536 → length rs < k
    → variable_from k i (framed rs) ≡ some (pieces_of i rs)
fills_to k i {rs} a l m =
    ap (variable_from k i) (framed_fv rs)
    ∙ walk_to 0 k i (all_map whole (all_imply (λ r h. (let z : 0 ≤ 0 = omega arith in z, h)) a)) (omega (arith, ap length (framed_fv rs))) (omega (arith, length-map rs whole))
    ∙ ap some (places_fv i rs)

-- and their data are the records
pub data_back : (b : List ℕ) (i : ℕ) (rs : List (List ℕ)) → drop i b ≡ framed rs → map (data_of b) (pieces_of i rs) ≡ rs
data_back b i rs d =
    let xs = places_of i (map whole rs) in
    ap (map (data_of b)) (sym (places_fv i rs))
    ∙ sym (map-map part (segment_at b) xs ∙ map_same (λ x. part_of x.third (data_of b x)) xs)
    ∙ ap (map part) (segments_back b i (map whole rs) (d ∙ framed_fv rs))
    ∙ map-map part whole rs
    ∙ map-id rs

pub sizes_of : (i : ℕ) (rs : List (List ℕ)) (P : ℕ → Type 0) → All (λ r. P (length r)) rs → All (λ x. P x.size) (pieces_of i rs)
sizes_of i [] P no_more = no_more
sizes_of i (r ∷ rs) P (also h a) = also h (sizes_of (i + (length r + 4)) rs P a)
