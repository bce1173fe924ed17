-- An output in which blocks are laid, their offsets from place 4 on and their bytes from a base on: a piece more, and the last offset. It holds since the offsets
-- stand before the base, and since a piece goes behind the last byte that was laid, or its block's word over the one that stood there, which is as long.
-- A piece is a record with its word, or a segment with its own.
use mathlib.Core.Path.{◌≡◌, ap, ap₂, sym, ◌∙◌}
use mathlib.Core.List.{List, [], ◌∷◌, ◌++◌, map, append_assoc, map-append}
use Prim.Native.Nat.{ℕ, ◌+◌, ◌*◌, ◌≤◌}
use native.Mathlib.Omega.{arith}
use lib.ListN.{length, length-append, length-map}
use Rattle.rules.specs.Base.{joined}
use Rattle.rules.specs.Halves.{over}
use Rattle.rules.specs.Reel.{word, offset_words, reel_of}
use Rattle.rules.proofs.Base.Lists.{mapped_last}
use Rattle.rules.proofs.Halves.SizeLaws.{length_over}
use Rattle.rules.proofs.Halves.PlaceLaws.{over_nothing, over_behind, over_apart, over_part}
use Rattle.rules.proofs.Reel.WordLaws.{length_word}
use Rattle.rules.proofs.Reel.ReelLaws.{length_ends, length_reel}
use Rattle.rules.proofs.Reel.BlockPlaces.{heads, length_heads, heads_snoc, heads_ends}

-- ---- blocks of pieces

-- a block is the word of its size, and behind it its pieces one after the other
pub record Framing (P : Type 0) : Type 0 where
  pub cost : ℕ
  pub size_word : ℕ → List ℕ
  pub piece : P → List ℕ
  pub body : List P → List ℕ
  pub block : List P → List ℕ
  pub long : (n : ℕ) → length (size_word n) ≡ cost
  pub nothing : body [] ≡ []
  pub behind : (ps : List P) (p : P) → body (ps ++ (p ∷ [])) ≡ body ps ++ piece p
  pub is : (ps : List P) → block ps ≡ size_word (cost + length (body ps)) ++ body ps

module _ {P : Type 0} (x : Framing P) where
  body_one : (p : P) → x.body (p ∷ []) ≡ x.piece p
  body_one p = x.behind [] p ∙ ap (◌++ x.piece p) x.nothing

  pub length_block : (ps : List P) → length (x.block ps) ≡ x.cost + length (x.body ps)
  length_block ps =
      omega (arith, ap length (x.is ps), length-append (x.size_word (x.cost + length (x.body ps))) (x.body ps), x.long (x.cost + length (x.body ps)))

  pub length_behind : (ps : List P) (p : P) → length (x.body (ps ++ (p ∷ []))) ≡ length (x.body ps) + length (x.piece p)
  length_behind ps p = ap length (x.behind ps p) ∙ length-append (x.body ps) (x.piece p)

  -- the bytes of blocks
  abbrev pub bytes_by : List (List P) → List ℕ
  bytes_by bs = joined (map x.block bs)

  pub length_more : (bs : List (List P)) (b : List P) → length (bytes_by (bs ++ (b ∷ []))) ≡ length (bytes_by bs) + (x.cost + length (x.body b))
  length_more bs b = omega (arith, ap length (mapped_last x.block bs b), length-append (bytes_by bs) (x.block b), length_block b)

-- ---- blocks that are laid

module _ {P : Type 0} (x : Framing P) (base : ℕ) (old : List ℕ) where
  abbrev headed : List (List P) → List ℕ
  headed bs = over 4 (heads base (map x.block bs)) old

  abbrev pub laid : List (List P) → List ℕ
  laid bs = over base (bytes_by x bs) (headed bs)

  pub laid_nothing : old ≡ laid []
  laid_nothing = sym (over_nothing base (over 4 [] old) ∙ over_nothing 4 old)

  module _ (bs : List (List P)) (front : 4 * length bs + 4 ≤ base) (room : base + length (bytes_by x bs) ≤ length old) where
    heads_long : length (heads base (map x.block bs)) ≡ 4 * length bs
    heads_long = length_heads base (map x.block bs) ∙ ap (λ (k : ℕ). 4 * k) (length-map bs x.block)

    headed_length : length (headed bs) ≡ length old
    headed_length = length_over 4 (heads base (map x.block bs)) old (omega (arith, heads_long))

    pub laid_length : length (laid bs) ≡ length old
    laid_length = length_over base (bytes_by x bs) (headed bs) (omega (arith, headed_length)) ∙ headed_length

    -- one offset more
    offset_put : 4 * length bs + 8 ≤ base → (at : ℕ) → at ≡ 4 * length bs + 4 → (w : List ℕ) → length w ≡ 4
        → over at w (laid bs) ≡ over base (bytes_by x bs) (over 4 (heads base (map x.block bs) ++ w) old)
    offset_put l at e w k =
        over_apart at base w (bytes_by x bs) (headed bs) (omega arith) (omega (arith, headed_length))
        ∙ ap (over base (bytes_by x bs)) (over_behind 4 at (heads base (map x.block bs)) w old (omega (arith, heads_long)) (omega arith))

    -- the last
    pub laid_ends : base ≡ 4 * length bs + 8 → (at : ℕ) → at ≡ 4 * length bs + 4
        → over at (word (base + length (bytes_by x bs))) (laid bs) ≡ over 4 (offset_words base (map x.block bs) ++ bytes_by x bs) old
    laid_ends b at e =
        let w = word (base + length (bytes_by x bs)) in
        let hs = heads base (map x.block bs) in
        offset_put (omega arith) at e w (length_word (base + length (bytes_by x bs)))
        ∙ over_behind 4 base (hs ++ w) (bytes_by x bs) old (omega (arith, length-append hs w, heads_long, length_word (base + length (bytes_by x bs)))) room
        ∙ ap (λ (y : List ℕ). over 4 (y ++ bytes_by x bs) old) (heads_ends base (map x.block bs))

    -- a piece that opens a block
    module _ (p : P) (l : 4 * length bs + 8 ≤ base) (fits : base + length (bytes_by x (bs ++ ((p ∷ []) ∷ []))) ≤ length old) where
      pub laid_opens : (at start from size end : ℕ) → at ≡ 4 * length bs + 4 → start ≡ base + length (bytes_by x bs) → from ≡ start → size ≡ x.cost + length (x.piece p) → end ≡ from + x.cost
          → over end (x.piece p) (over from (x.size_word size) (over at (word start) (laid bs))) ≡ laid (bs ++ ((p ∷ []) ∷ []))
      laid_opens at start from size end a b e c d =
          let w = word start in
          let hs = heads base (map x.block bs) in
          let j = bytes_by x bs in
          let s = x.size_word size in
          let y = over 4 (hs ++ w) old in
          let one : length (x.body (p ∷ [])) ≡ length (x.piece p) = ap length (body_one x p) in
          let n : length y ≡ length old = length_over 4 (hs ++ w) old (omega (arith, length-append hs w, heads_long, length_word start)) in
          let k : base + length j + (x.cost + length (x.piece p)) ≤ length old = omega (arith, length_more x bs (p ∷ [])) in
          let long_s : length s ≡ x.cost = x.long size in
          ap (λ (o : List ℕ). over end (x.piece p) (over from s o)) (offset_put l at a w (length_word start))
          ∙ ap (over end (x.piece p)) (over_behind base from j s y (e ∙ b) (omega arith))
          ∙ over_behind base end (j ++ s) (x.piece p) y (omega (arith, length-append j s)) (omega arith)
          ∙ ap₂ (λ (u v : List ℕ). over base u (over 4 v old))
          (append_assoc j s (x.piece p)
          ∙ ap (j ++◌)
          (ap₂ (λ (i : ℕ) (q : List ℕ). x.size_word i ++ q) (let z : size ≡ x.cost + length (x.body (p ∷ [])) = omega arith in z) (sym (body_one x p))
          ∙ sym (x.is (p ∷ [])))
          ∙ sym (mapped_last x.block bs (p ∷ [])))
          (ap (λ (i : ℕ). hs ++ word i) b
          ∙ sym (heads_snoc base (map x.block bs) (x.block (p ∷ [])))
          ∙ ap (heads base) (sym (map-append x.block bs ((p ∷ []) ∷ []))))

  -- a piece behind the others
  module _ (closed : List (List P)) (now : List P) (front : 4 * length (closed ++ (now ∷ [])) + 4 ≤ base) (p : P)
      (fits : base + length (bytes_by x (closed ++ ((now ++ (p ∷ [])) ∷ []))) ≤ length old) where
    pub laid_behind : (from size end : ℕ) → from ≡ base + length (bytes_by x closed) → size ≡ x.cost + length (x.body now) + length (x.piece p)
        → end ≡ base + length (bytes_by x (closed ++ (now ∷ [])))
        → over end (x.piece p) (over from (x.size_word size) (laid (closed ++ (now ∷ [])))) ≡ laid (closed ++ ((now ++ (p ∷ [])) ∷ []))
    laid_behind from size end a c d =
        let old_blocks = closed ++ (now ∷ []) in
        let new = now ++ (p ∷ []) in
        let j = bytes_by x closed in
        let before = x.size_word (x.cost + length (x.body now)) in
        let after = x.size_word size in
        let body = x.body now in
        let y = headed old_blocks in
        let more = length_behind x now p in
        let room : base + length (bytes_by x old_blocks) + length (x.piece p) ≤ length old = omega (arith, length_more x closed new, length_more x closed now) in
        let n : length y ≡ length old = headed_length old_blocks front (omega arith) in
        let same : length after ≡ length before = x.long size ∙ sym (x.long (x.cost + length (x.body now))) in
        let is : bytes_by x old_blocks ≡ j ++ (before ++ body) = mapped_last x.block closed now ∙ ap (j ++◌) (x.is now) in
        let long : length (j ++ (after ++ body)) ≡ length (bytes_by x old_blocks)
        = omega (arith, ap length is, length-append j (after ++ body), length-append j (before ++ body), length-append after body, length-append before body) in
        let heads_in : (b : List P) → heads base (map x.block (closed ++ (b ∷ []))) ≡ heads base (map x.block closed) ++ word (base + length (bytes_by x closed))
        = λ b. ap (heads base) (map-append x.block closed (b ∷ [])) ∙ heads_snoc base (map x.block closed) (x.block b) in
        ap (λ (u : List ℕ). over end (x.piece p) (over from after (over base u y))) is
        ∙ ap (over end (x.piece p)) (over_part base from j before after body y a same (omega arith))
        ∙ over_behind base end (j ++ (after ++ body)) (x.piece p) y (omega arith) (omega arith)
        ∙ ap₂ (λ (u v : List ℕ). over base u (over 4 v old))
        (append_assoc j (after ++ body) (x.piece p)
        ∙ ap (j ++◌)
        (append_assoc after body (x.piece p)
        ∙ ap₂ (λ (i : ℕ) (q : List ℕ). x.size_word i ++ q) (let z : size ≡ x.cost + length (x.body new) = omega arith in z) (sym (x.behind now p))
        ∙ sym (x.is new))
        ∙ sym (mapped_last x.block closed new))
        (heads_in now ∙ sym (heads_in new))

-- ---- the reel

-- the block count, and behind it the offsets and the blocks
pub reel_over : (bs : List (List ℕ)) (blocks : ℕ) → blocks ≡ length bs → (old : List ℕ) → length (reel_of bs) ≤ length old
    → over 4 (offset_words (4 * blocks + 8) bs ++ joined bs) (over 0 (word blocks) old) ≡ over 0 (reel_of bs) old
unfolding reel_of
reel_over bs blocks e old fits =
    let body = offset_words (4 * blocks + 8) bs ++ joined bs in
    over_behind 0 4 (word blocks) body old (omega (arith, length_word blocks))
    (omega (arith, length-append (offset_words (4 * blocks + 8) bs) (joined bs), length_ends (4 * blocks + 8) bs, length_reel bs))
    ∙ ap (λ (x : List ℕ). over 0 x old)
    (sym (append_assoc (word blocks) (offset_words (4 * blocks + 8) bs) (joined bs)) ∙ ap (λ (k : ℕ). word k ++ offset_words (4 * k + 8) bs ++ joined bs) e)
