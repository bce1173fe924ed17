-- The pieces of a block from a place on, for code that walks the block with a cursor, in FF, FV and FU alike: at the end there are none; a good
-- piece is the first of them, and the others are those from the place behind it on; a bad one spoils them. Each piece takes a byte or more.
use mathlib.Core.Path.{◌≡◌, refl, ap, ap₂, sym, ◌∙◌}
use mathlib.Core.Bool.{Bool, true, false, cond, true≢false}
use mathlib.Core.List.{List, [], ◌∷◌, ◌++◌}
use mathlib.Core.Option.{Option, none, some}
use Prim.Native.Nat.{ℕ, suc, ◌+◌, ◌-◌, ◌/◌, ◌%◌, ◌≤◌, ◌<◌}
use native.Mathlib.Nat.{zero-mod, zero-div, mod-eq_of_lt, mod-eq-sub-mod, div-eq-sub-div}
use native.Mathlib.Omega.{arith}
use lib.Dec.{eqb}
use lib.ListN.{length, drop, length-drop, drop_of_length-le}
use lib.Seq.{slice, drop-drop}
use borrow.Author.Tests.{leb-true, leb-false, ne_eqb}
use Rattle.rules.specs.Base.{is_empty}
use Rattle.rules.specs.Grammar.{Format, ff, fv, fu, fsp}
use Rattle.rules.specs.Blocks.{Piece, fixed_from, word_length, with_piece, variable_from, pieces_in, data_of}
use Rattle.rules.specs.Output.{cost}
use Rattle.rules.specs.ReelPlaces.{piece_at, pieces_at, piece_from, good_from, behind, good_start}
use Rattle.rules.proofs.Base.Lists.{slice_from, not_empty, length_full}
use Rattle.rules.proofs.Blocks.BlockWords.{headed_exactly, step_good, step_bad, steps_enough}

-- ---- the pieces from a place on

-- the pieces of a block are those from its first place on, which is 4 in FV and 0 in FF and FU
pub pieces_start : (f : Format) (n : ℕ) (b : List ℕ) → 1 ≤ length b → pieces_in f n b ≡ cond (good_start f b) (pieces_at f n b (cost f)) none
unfolding pieces_at
pieces_start ff n b l = refl
pieces_start fv n b l = refl
pieces_start fsp n b l = refl
pieces_start fu n [] l = absurd (omega arith)
pieces_start fu n (x ∷ b) l = refl

pub pieces_end : (f : Format) (n : ℕ) (b : List ℕ) (i : ℕ) → length b ≤ i → pieces_at f n b i ≡ some []
unfolding pieces_at
pieces_end ff n b i l = rw (drop_of_length-le b l, zero-mod n, zero-div n)
pieces_end fv n b i l = rw (drop_of_length-le b l)
pieces_end fsp n b i l = rw (drop_of_length-le b l)
pieces_end fu n b i l = rw (drop_of_length-le b l)

-- a good piece lies behind the cursor, and ends in the block
pub good_inside : (f : Format) (n : ℕ) (b : List ℕ) (i : ℕ) → (f ≡ ff → 1 ≤ n) → i < length b → good_from f n b i ≡ true
    → (i ≤ (piece_from f n b i).place) × (i < behind (piece_from f n b i)) × (behind (piece_from f n b i) ≤ length b)
good_inside ff n b i p l e = let h = leb-true (i + n) (length b) e in let q = p refl in (omega arith, omega arith, omega arith)
good_inside fv n b i p l e =
    let w = (headed_exactly 5 (drop i b)).0 e in
    let d = length-drop i b in
    (omega arith, omega (arith, w.least), omega (arith, w.least, w.most))
good_inside fsp n b i p l e = absurd (true≢false (sym e))
good_inside fu n b i p l e = (omega arith, omega arith, omega arith)

some_left : (b : List ℕ) (i : ℕ) → i < length b → is_empty (drop i b) ≡ false
some_left b i l = not_empty (drop i b) (length_full (drop i b) (omega (arith, length-drop i b)))

fixed_step : (n i l m : ℕ) → l % n ≡ m % n → l / n ≡ suc (m / n)
    → cond (eqb (l % n) 0) (some (fixed_from n i (l / n))) none ≡ with_piece (record { place = i; size = n; third = 0 }) (cond (eqb (m % n) 0) (some (fixed_from n (i + n) (m / n))) none)
fixed_step n i l m e d = rw (e, d) (go (eqb (m % n) 0) refl)
  where
    go : (t : Bool) → eqb (m % n) 0 ≡ t
        → cond (eqb (m % n) 0) (some (fixed_from n i (suc (m / n)))) none ≡ with_piece (record { place = i; size = n; third = 0 }) (cond (eqb (m % n) 0) (some (fixed_from n (i + n) (m / n))) none)
    go true t = rw t
    go false t = rw t

pub pieces_good : (f : Format) (n : ℕ) (b : List ℕ) (i : ℕ) → (f ≡ ff → 1 ≤ n) → i < length b → good_from f n b i ≡ true
    → pieces_at f n b i ≡ with_piece (piece_from f n b i) (pieces_at f n b (behind (piece_from f n b i)))
unfolding pieces_at
pieces_good ff n b i p l e =
    let h = leb-true (i + n) (length b) e in
    let d = length-drop i b in
    let d' = length-drop (i + n) b in
    let m : length (drop i b) - n ≡ length (drop (i + n) b) = omega arith in
    let k : n ≤ length (drop i b) = omega arith in
    fixed_step n i (length (drop i b)) (length (drop (i + n) b)) (mod-eq-sub-mod k ∙ ap (λ (z : ℕ). z % n) m)
    (div-eq-sub-div (p refl) k ∙ (let z : (length (drop i b) - n) / n + 1 ≡ suc (length (drop (i + n) b) / n) = rw m (omega arith) in z))
pieces_good fv n b i p l e =
    let s = drop i b in
    let w = (headed_exactly 5 s).0 e in
    let d = length-drop i b in
    let q : i + word_length s ≡ i + 4 + (word_length s - 4) = omega (arith, w.least) in
    step_good (length b) i s e
    ∙ ap (with_piece (piece_at i s))
    (steps_enough (length b) (suc (length b)) (i + word_length s) (drop (word_length s) s) (omega (arith, length-drop (word_length s) s, w.least, w.most)) (omega (arith, length-drop (word_length s) s))
    ∙ ap₂ (variable_from (suc (length b))) q (drop-drop (word_length s) i b ∙ ap (λ (z : ℕ). drop z b) q))
pieces_good fsp n b i p l e = absurd (true≢false (sym e))
pieces_good fu n b i p l e =
    let past : drop (i + (length b - i)) b ≡ [] = drop_of_length-le b {i = i + (length b - i)} (omega arith) in
    rw (some_left b i l, past, length-drop i b)

pub pieces_bad : (f : Format) (n : ℕ) (b : List ℕ) (i : ℕ) → i < length b → good_from f n b i ≡ false → pieces_at f n b i ≡ none
unfolding pieces_at
pieces_bad ff n b i l e =
    let h = leb-false (i + n) (length b) e in
    let d = length-drop i b in
    let m = mod-eq_of_lt {n = length (drop i b)} {m = n} (omega arith) in
    rw (m, ne_eqb (length (drop i b)) 0 (λ z. omega arith))
pieces_bad fv n b i l e = step_bad (length b) i (drop i b) (omega (arith, length-drop i b)) e
pieces_bad fsp n b i l e = rw (some_left b i l)
pieces_bad fu n b i l e = absurd (true≢false e)

-- ---- what is read so far, and what is left

abbrev pub onto : {A : Type 0} → List A → Option (List A) → Option (List A)
onto xs none = none
onto xs (some ys) = some (xs ++ ys)

-- the data of a piece is the part of the block from its place to the place behind it
pub data_slice : (b : List ℕ) (x : Piece) → data_of b x ≡ slice x.place (behind x) b
data_slice b x = sym (slice_from x.place x.size b)
