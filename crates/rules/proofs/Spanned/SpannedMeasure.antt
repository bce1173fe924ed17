-- Counting and writing a filling without building it: how many bytes and blocks the filling of what is pending still takes, step by step; and what a
-- segment adds to the bytes of the open block, a block to those of all.
use mathlib.Core.Path.{◌≡◌, refl, ap, sym, ◌∙◌}
use mathlib.Core.Bool.{Bool, true, false}
use mathlib.Core.List.{List, [], ◌∷◌, ◌++◌, map, append_assoc, append-nil}
use Prim.Native.Nat.{ℕ, suc, ◌+◌, ◌-◌, ◌*◌, ◌≤◌, ◌<◌}
use native.Mathlib.Omega.{arith}
use lib.ListN.{length, take, drop, length-append, length-take, length-map}
use Rattle.rules.specs.Base.{joined}
use Rattle.rules.specs.Places.{All}
use Rattle.rules.specs.Reel.{reel_of}
use Rattle.rules.specs.Output.{length_word}
use Rattle.rules.specs.Spanned.{Segment, segment, part, code, coded_word, spelled, span_of, Parts, segmented}
use Rattle.rules.proofs.Base.Lists.{mapped_last}
use Rattle.rules.proofs.Reel.ReelLaws.{length_reel}
use Rattle.rules.proofs.Blocks.CodedWords.{length_spelled}
use Rattle.rules.proofs.Spanned.SpannedBlocks.{length_span}
use Rattle.rules.proofs.Spanned.SpannedSteps.{filling, filling_start, filling_end, filling_new, filling_all, filling_part}

-- ---- bytes

pub spelled_append : (xs ys : List Segment) → spelled (xs ++ ys) ≡ spelled xs ++ spelled ys
spelled_append [] ys = refl
spelled_append (x ∷ xs) ys =
    let w = coded_word (code x) (length (part x) + 4) ++ part x in ap (w ++◌) (spelled_append xs ys) ∙ sym (append_assoc w (spelled xs) (spelled ys))

-- a segment more in a block
pub spelled_more : (here : List Segment) (s : Segment) → spelled (here ++ (s ∷ [])) ≡ spelled here ++ (coded_word (code s) (length (part s) + 4) ++ part s)
spelled_more here s = spelled_append here (s ∷ []) ∙ ap (spelled here ++◌) (append-nil (coded_word (code s) (length (part s) + 4) ++ part s))

-- a block more: its word, which is known when it is closed, and its segments
pub spans_more : (closed : List (List Segment)) (here : List Segment)
    → joined (map span_of (closed ++ (here ∷ []))) ≡ joined (map span_of closed) ++ (length_word (length (spelled here) + 4) ++ spelled here)
unfolding span_of
spans_more closed here = mapped_last span_of closed here

-- ---- counts of what is left to write

module _ (g : ℕ) where
  abbrev pub bytes_of : Parts g → ℕ
  bytes_of x = length (spelled x.0) + length (joined (map span_of x.1))

  unfoldable pub bytes_left : ℕ → Bool → List (List ℕ) → ℕ
  bytes_left left fresh rs = bytes_of (filling g left fresh rs)

  unfoldable pub blocks_left : ℕ → Bool → List (List ℕ) → ℕ
  blocks_left left fresh rs = length (filling g left fresh rs).1

  pub left_end : (left : ℕ) (fresh : Bool) → (bytes_left left fresh [] ≡ 0) × (blocks_left left fresh [] ≡ 0)
  unfolding bytes_left blocks_left
  left_end left fresh = (ap bytes_of (filling_end g left fresh), ap (λ (x : Parts g). length x.1) (filling_end g left fresh))

  module _ (low : 9 ≤ g) where
    pub left_start : (rs : List (List ℕ)) → (length (joined (map span_of (segmented g rs))) ≡ bytes_left 0 true rs) × (length (segmented g rs) ≡ blocks_left 0 true rs)
    unfolding bytes_left blocks_left
    left_start rs = (
      omega (arith, ap (λ (x : List (List Segment)). length (joined (map span_of x))) (filling_start g rs), ap (λ (x : List Segment). length (spelled x)) (none_yet rs)),
      ap length (filling_start g rs),
    )
      where
        none_yet : (rs : List (List ℕ)) → (filling g 0 true rs).0 ≡ []
        none_yet [] = ap (λ (x : Parts g). x.0) (filling_end g 0 true)
        none_yet (r ∷ rs) = ap (λ (x : Parts g). x.0) (filling_new g low 0 true r rs (omega arith))

    -- the length of the reel, for refusal 15
    pub left_reel : (rs : List (List ℕ)) → length (reel_of (map span_of (segmented g rs))) ≡ 8 + 4 * blocks_left 0 true rs + bytes_left 0 true rs
    left_reel rs =
        let w = left_start rs in omega (arith, length_reel (map span_of (segmented g rs)), w.0, w.1, length-map (segmented g rs) span_of)

    pub left_new : (left : ℕ) (fresh : Bool) (r : List ℕ) (rs : List (List ℕ)) → left < 5
        → (bytes_left left fresh (r ∷ rs) ≡ 4 + bytes_left (g - 4) fresh (r ∷ rs)) × (blocks_left left fresh (r ∷ rs) ≡ suc (blocks_left (g - 4) fresh (r ∷ rs)))
    unfolding bytes_left blocks_left
    left_new left fresh r rs l =
        let y = filling g (g - 4) fresh (r ∷ rs) in
        let e = filling_new g low left fresh r rs l in
        let b = length-append (span_of (filling g (g - 4) fresh (r ∷ rs)).0) (joined (map span_of (filling g (g - 4) fresh (r ∷ rs)).1)) in (
          ap bytes_of e ∙ (let z : bytes_of ([], (filling g (g - 4) fresh (r ∷ rs)).0 ∷ (filling g (g - 4) fresh (r ∷ rs)).1) ≡ 4 + bytes_of (filling g (g - 4) fresh (r ∷ rs)) = omega (arith, b, length_span (filling g (g - 4) fresh (r ∷ rs)).0) in z),
          ap (λ (x : Parts g). length x.1) e,
        )

    pub left_all : (left : ℕ) (fresh : Bool) (r : List ℕ) {rs : List (List ℕ)} → All (λ r. 1 ≤ length r) rs → 1 ≤ length r → length r + 4 ≤ left
        → (bytes_left left fresh (r ∷ rs) ≡ length r + 4 + bytes_left (left - (length r + 4)) true rs) × (blocks_left left fresh (r ∷ rs) ≡ blocks_left (left - (length r + 4)) true rs)
    unfolding bytes_left blocks_left
    left_all left fresh r {rs} a s l =
        let e = filling_all g low left fresh r a s l in
        let b = length_spelled (segment fresh true r) (filling g (left - (length r + 4)) true rs).0 in (
          ap bytes_of e ∙ (let z : bytes_of (segment fresh true r ∷ (filling g (left - (length r + 4)) true rs).0, (filling g (left - (length r + 4)) true rs).1) ≡ length r + 4 + bytes_of (filling g (left - (length r + 4)) true rs) = omega (arith, b) in z),
          ap (λ (x : Parts g). length x.1) e,
        )

    pub left_part : (left : ℕ) (fresh : Bool) (r : List ℕ) {rs : List (List ℕ)} → All (λ r. 1 ≤ length r) rs → 5 ≤ left → left < length r + 4
        → (bytes_left left fresh (r ∷ rs) ≡ left + bytes_left 0 false (drop (left - 4) r ∷ rs)) × (blocks_left left fresh (r ∷ rs) ≡ blocks_left 0 false (drop (left - 4) r ∷ rs))
    unfolding bytes_left blocks_left
    left_part left fresh r {rs} a m l =
        let e = filling_part g low left fresh r a m l in
        let b = length_spelled (segment fresh false (take (left - 4) r)) (filling g 0 false (drop (left - 4) r ∷ rs)).0 in
        let t = length-take (left - 4) r in (
          ap bytes_of e ∙ (let z : bytes_of (segment fresh false (take (left - 4) r) ∷ (filling g 0 false (drop (left - 4) r ∷ rs)).0, (filling g 0 false (drop (left - 4) r ∷ rs)).1) ≡ left + bytes_of (filling g 0 false (drop (left - 4) r ∷ rs)) = omega (arith, b, t) in z),
          ap (λ (x : Parts g). length x.1) e,
        )
