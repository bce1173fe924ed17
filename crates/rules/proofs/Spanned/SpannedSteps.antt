-- Laws for code that walks the segments of a block with a cursor, keeps what is open as a count, and fills blocks segment by segment: where it starts,
-- what a step does, and where it ends. No steps are counted in them.
use mathlib.Core.Path.{◌≡◌, refl, ap, ap₂, sym, ◌∙◌}
use mathlib.Core.Bool.{Bool, true, false, cond, ◌&&◌, true≢false}
use mathlib.Core.List.{List, [], ◌∷◌, ◌++◌, map, append_assoc, append-nil}
use mathlib.Core.Option.{Option, none, some, none-ne-some}
use Prim.Native.Nat.{ℕ, suc, ◌+◌, ◌-◌, ◌%◌, ◌≤◌, ◌<◌}
use native.Mathlib.Omega.{arith}
use lib.Dec.{ltb, leb, eqb}
use lib.ListN.{length, take, drop, get_or, length-append, length-drop, drop_of_length-le}
use lib.Seq.{drop-drop}
use Rattle.rules.specs.Base.{joined}
use Rattle.rules.specs.Places.{All, also}
use Rattle.rules.specs.Blocks.{Piece, word_length, headed, with_piece, data_of, headed_to, walk_from}
use Rattle.rules.specs.ReelPlaces.{piece_at}
use Rattle.rules.specs.Spanned.{Segment, segment, segment_of, segment_at, segments_of, segments_in, is_closed, sofar, same, State, with_record, in_turn, join_from, join_in, Parts, fill_from, segmented}
use Rattle.rules.proofs.Blocks.CodedWords.{headed_to_exactly, walk_good, walk_bad, walk_enough}
use Rattle.rules.proofs.Spanned.SpannedFill.{fill_good, fill_once, fill_left, fill_new, placed_all, placed_some}

-- ---- the pieces of a block from a place on

unfoldable pub walk_at : ℕ → List ℕ → ℕ → Option (List Piece)
walk_at top b i = walk_from top (suc (length b)) i (drop i b)

pub walk_at_end : (top : ℕ) (b : List ℕ) (i : ℕ) → length b ≤ i → walk_at top b i ≡ some []
unfolding walk_at
walk_at_end top b i l = rw (drop_of_length-le b l)

pub walk_at_good : (top : ℕ) (b : List ℕ) (i : ℕ) → headed_to top 5 (drop i b) ≡ true
    → walk_at top b i ≡ with_piece (piece_at i (drop i b)) (walk_at top b (i + word_length (drop i b)))
unfolding walk_at
walk_at_good top b i e =
    let s = drop i b in
    let w = (headed_to_exactly top 5 s).0 e in
    let d = length-drop i b in
    walk_good top (length b) i s e
    ∙ ap (with_piece (piece_at i s))
    (walk_enough top (length b) (suc (length b)) (i + word_length s) (drop (word_length s) s) (omega (arith, length-drop (word_length s) s, w.least, w.most)) (omega (arith, length-drop (word_length s) s))
    ∙ ap (walk_from top (suc (length b)) (i + word_length s)) (drop-drop (word_length s) i b))

pub walk_at_bad : (top : ℕ) (b : List ℕ) (i : ℕ) → i < length b → headed_to top 5 (drop i b) ≡ false → walk_at top b i ≡ none
unfolding walk_at
walk_at_bad top b i l e = walk_bad top (length b) i (drop i b) (omega (arith, length-drop i b)) e

-- ---- the records of a block from a place on, behind what is open

abbrev pub join_pieces : Option (List ℕ) → List ℕ → Option (List Piece) → Option State
join_pieces now b none = none
join_pieces now b (some xs) = join_from now (map (segment_at b) xs)

unfoldable pub join_at : Option (List ℕ) → List ℕ → ℕ → Option State
join_at now b i = join_pieces now b (walk_at 3 b i)

-- only numbers are asked
pub in_turn_count : (now : Option (List ℕ)) (b : Bool) (d : List ℕ) → in_turn now b d ≡ (same b (is_closed now) && leb (length (sofar now) + length d) 32752)
unfolding in_turn
in_turn_count now b d = rw (length-append (sofar now) d)

-- a block of more than 4 bytes and at most g, whose own word is good
pub join_start : (g : ℕ) (now : Option (List ℕ)) (b : List ℕ) → headed 4 b ≡ true → eqb (word_length b) (length b) ≡ true → leb (length b) g ≡ true → 4 < length b
    → join_in now (segments_in g b) ≡ join_at now b 4
unfolding segments_in join_at walk_at
join_start g now b h e m l = rw (h, e) (go (walk_from 3 (suc (length b)) 4 (drop 4 b)) refl)
  where
    some_left : (s : List ℕ) → 1 ≤ length s → walk_from 3 (suc (length b)) 4 s ≡ some [] → ⊥
    some_left s k w = stuck (headed_to 3 5 s) refl
      where
        with_none : (x : Piece) (o : Option (List Piece)) → with_piece x o ≡ some [] → ⊥
        with_none x none q = none-ne-some [] q
        with_none x (some xs) q = let z : suc (length xs) ≡ 0 = ap count q in omega arith
          where
            count : Option (List Piece) → ℕ
            count none = 0
            count (some ys) = length ys

        stuck : (t : Bool) → headed_to 3 5 s ≡ t → ⊥
        stuck true t = with_none (piece_at 4 s) (walk_from 3 (length b) (4 + word_length s) (drop (word_length s) s)) (sym (walk_good 3 (length b) 4 s t) ∙ w)
        stuck false t = none-ne-some [] (sym (walk_bad 3 (length b) 4 s k t) ∙ w)

    go : (o : Option (List Piece)) → walk_from 3 (suc (length b)) 4 (drop 4 b) ≡ o → join_in now (segments_of g b (walk_from 3 (suc (length b)) 4 (drop 4 b))) ≡ join_pieces now b (walk_from 3 (suc (length b)) 4 (drop 4 b))
    go none w = rw w
    go (some []) w = absurd (some_left (drop 4 b) (omega (arith, length-drop 4 b)) w)
    go (some (x ∷ xs)) w = rw (w, m)

pub join_end : (now : Option (List ℕ)) (b : List ℕ) (i : ℕ) → length b ≤ i → join_at now b i ≡ some ([], now)
unfolding join_at
join_end now b i l = rw (walk_at_end 3 b i l)

pub join_bad : (now : Option (List ℕ)) (b : List ℕ) (i : ℕ) → i < length b → headed_to 3 5 (drop i b) ≡ false → join_at now b i ≡ none
unfolding join_at
join_bad now b i l e = rw (walk_at_bad 3 b i l e)

-- a segment whose word is good: in turn it ends its record, or goes on; else the block is refused
pub join_good : (now : Option (List ℕ)) (b : List ℕ) (i : ℕ) → headed_to 3 5 (drop i b) ≡ true
    → join_at now b i
    ≡ cond (in_turn now (ltb (get_or (drop i b) 2 0) 2) (data_of b (piece_at i (drop i b))))
    (cond (eqb (get_or (drop i b) 2 0 % 2) 0)
    (with_record (sofar now ++ data_of b (piece_at i (drop i b))) (join_at none b (i + word_length (drop i b))))
    (join_at (some (sofar now ++ data_of b (piece_at i (drop i b)))) b (i + word_length (drop i b))))
    none
unfolding join_at segment_of
join_good now b i e = rw (walk_at_good 3 b i e) (go (walk_at 3 b (i + word_length (drop i b))))
  where
    x : Piece
    x = piece_at i (drop i b)

    quiet : (t e : Bool) (r : List ℕ) → none ≡ cond t (cond e (with_record r none) none) none
    quiet true true r = refl
    quiet true false r = refl
    quiet false e r = refl

    go : (o : Option (List Piece)) → join_pieces now b (with_piece x o)
        ≡ cond (in_turn now (ltb x.third 2) (data_of b x)) (cond (eqb (x.third % 2) 0) (with_record (sofar now ++ data_of b x) (join_pieces none b o)) (join_pieces (some (sofar now ++ data_of b x)) b o)) none
    go none = quiet (in_turn now (ltb x.third 2) (data_of b x)) (eqb (x.third % 2) 0) (sofar now ++ data_of b x)
    go (some xs) = refl

-- ---- filling, segment by segment

module _ (g : ℕ) where
  unfoldable pub filling : ℕ → Bool → List (List ℕ) → Parts g
  filling left fresh rs = fill_from g (suc (length (joined rs))) left fresh rs

  pub filling_start : (rs : List (List ℕ)) → segmented g rs ≡ (filling 0 true rs).1
  unfolding filling segmented
  filling_start rs = refl

  pub filling_end : (left : ℕ) (fresh : Bool) → filling left fresh [] ≡ ([], [])
  unfolding filling
  filling_end left fresh = refl

  module _ (low : 9 ≤ g) where
    -- steps past the number of bytes change nothing
    pub fill_enough : (k m left : ℕ) (fresh : Bool) {rs : List (List ℕ)} → All (λ r. 1 ≤ length r) rs → (fresh ≡ false → 1 ≤ length rs) → length (joined rs) < k → length (joined rs) < m
        → fill_from g k left fresh rs ≡ fill_from g m left fresh rs
    fill_enough k m left fresh {rs} a n l h = let w = fill_good g low m left fresh a n h in fill_once g low k left fresh w.fills rs w.joins l

    -- a new block
    pub filling_new : (left : ℕ) (fresh : Bool) (r : List ℕ) (rs : List (List ℕ)) → left < 5 → filling left fresh (r ∷ rs) ≡ ([], (filling (g - 4) fresh (r ∷ rs)).0 ∷ (filling (g - 4) fresh (r ∷ rs)).1)
    unfolding filling
    filling_new left fresh r rs l =
        let k = length (joined (r ∷ rs)) in
        fill_new g k left fresh r rs l ∙ ap (λ (x : Parts g). ([], x.0 ∷ x.1)) (sym (fill_left g k (g - 4) fresh r rs (omega arith)))

    -- all that is left of the record
    pub filling_all : (left : ℕ) (fresh : Bool) (r : List ℕ) {rs : List (List ℕ)} → All (λ r. 1 ≤ length r) rs → 1 ≤ length r → length r + 4 ≤ left
        → filling left fresh (r ∷ rs) ≡ (segment fresh true r ∷ (filling (left - (length r + 4)) true rs).0, (filling (left - (length r + 4)) true rs).1)
    unfolding filling
    filling_all left fresh r {rs} a s l =
        let k = length (joined (r ∷ rs)) in
        let n = length-append r (joined rs) in
        fill_left g k left fresh r rs (omega arith)
        ∙ placed_all g k left fresh r rs l
        ∙ ap (λ (x : Parts g). (segment fresh true r ∷ x.0, x.1)) (fill_enough k (suc (length (joined rs))) (left - (length r + 4)) true a (λ e. absurd (true≢false e)) (omega arith) (omega arith))

    -- all that is left of the block; then nothing is left of it
    pub filling_part : (left : ℕ) (fresh : Bool) (r : List ℕ) {rs : List (List ℕ)} → All (λ r. 1 ≤ length r) rs → 5 ≤ left → left < length r + 4
        → filling left fresh (r ∷ rs) ≡ (segment fresh false (take (left - 4) r) ∷ (filling 0 false (drop (left - 4) r ∷ rs)).0, (filling 0 false (drop (left - 4) r ∷ rs)).1)
    unfolding filling
    filling_part left fresh r {rs} a b l =
        let k = length (joined (r ∷ rs)) in
        let n = length-append r (joined rs) in
        let d = length-drop (left - 4) r in
        let m = length-append (drop (left - 4) r) (joined rs) in
        let later = length (joined (drop (left - 4) r ∷ rs)) in
        let some : 1 ≤ length (drop (left - 4) r) = omega arith in
        fill_left g k left fresh r rs b
        ∙ placed_some g k left fresh r rs l
        ∙ ap (λ (x : Parts g). (segment fresh false (take (left - 4) r) ∷ [], x.0 ∷ x.1))
        (fill_enough k (suc later) (g - 4) false (also {x = drop (left - 4) r} some a) (λ e. omega arith) (omega arith) (omega arith) ∙ fill_left g later (g - 4) false (drop (left - 4) r) rs (omega arith))
        ∙ ap (λ (x : Parts g). (segment fresh false (take (left - 4) r) ∷ x.0, x.1)) (sym (fill_new g later 0 false (drop (left - 4) r) rs (omega arith)))

  -- ---- what is written so far, and what is left to write

  -- these blocks are closed, this is in the open one, and the rest is the filling of what is pending; before the first block the open one is empty and full
  pub record Written (rs : List (List ℕ)) (closed : List (List Segment)) (here : List Segment) (left : ℕ) (fresh : Bool) (pending : List (List ℕ)) : Type 0 where
    pub is : [] ∷ segmented g rs ≡ closed ++ ((here ++ (filling left fresh pending).0) ∷ (filling left fresh pending).1)
    pub more : All (λ r. 1 ≤ length r) pending

  pub written_end : (rs : List (List ℕ)) (closed : List (List Segment)) (here : List Segment) (left : ℕ) (fresh : Bool) → Written rs closed here left fresh []
      → [] ∷ segmented g rs ≡ closed ++ (here ∷ [])
  written_end rs closed here left fresh w =
      w.is ∙ ap (λ (x : Parts g). closed ++ ((here ++ x.0) ∷ x.1)) (filling_end left fresh) ∙ ap (λ (x : List Segment). closed ++ (x ∷ [])) (append-nil here)

  module _ (low : 9 ≤ g) where
    pub written_start : {rs : List (List ℕ)} → All (λ r. 1 ≤ length r) rs → Written rs [] [] 0 true rs
    written_start {rs} a = record { is = ap₂ ◌∷◌ (sym (none_yet rs)) (filling_start rs); more = a }
      where
        none_yet : (rs : List (List ℕ)) → (filling 0 true rs).0 ≡ []
        none_yet [] = ap (λ (x : Parts g). x.0) (filling_end 0 true)
        none_yet (r ∷ rs) = ap (λ (x : Parts g). x.0) (filling_new low 0 true r rs (omega arith))

    -- a new block
    pub written_new : (rs : List (List ℕ)) (closed : List (List Segment)) (here : List Segment) (left : ℕ) (fresh : Bool) (r : List ℕ) (pending : List (List ℕ)) → left < 5
        → Written rs closed here left fresh (r ∷ pending) → Written rs (closed ++ (here ∷ [])) [] (g - 4) fresh (r ∷ pending)
    written_new rs closed here left fresh r pending l w =
        let y = filling (g - 4) fresh (r ∷ pending) in
        record {
          is =
              w.is ∙ ap (λ (x : Parts g). closed ++ ((here ++ x.0) ∷ x.1)) (filling_new low left fresh r pending l)
              ∙ ap (λ (x : List Segment). closed ++ (x ∷ (y.0 ∷ y.1))) (append-nil here)
              ∙ sym (append_assoc closed (here ∷ []) (y.0 ∷ y.1));
          more = w.more;
        }

    -- what is left of the record
    pub written_all : (rs : List (List ℕ)) (closed : List (List Segment)) (here : List Segment) (left : ℕ) (fresh : Bool) (r : List ℕ) (pending : List (List ℕ)) → length r + 4 ≤ left
        → Written rs closed here left fresh (r ∷ pending) → Written rs closed (here ++ (segment fresh true r ∷ [])) (left - (length r + 4)) true pending
    written_all rs closed here left fresh r pending l w = go w.more
      where
        go : All (λ r. 1 ≤ length r) (r ∷ pending) → Written rs closed (here ++ (segment fresh true r ∷ [])) (left - (length r + 4)) true pending
        go (also s a) =
            let y = filling (left - (length r + 4)) true pending in
            record {
              is =
                  w.is ∙ ap (λ (x : Parts g). closed ++ ((here ++ x.0) ∷ x.1)) (filling_all low left fresh r a s l)
                  ∙ ap (λ (x : List Segment). closed ++ (x ∷ y.1)) (sym (append_assoc here (segment fresh true r ∷ []) y.0));
              more = a;
            }

    -- what is left of the block
    pub written_part : (rs : List (List ℕ)) (closed : List (List Segment)) (here : List Segment) (left : ℕ) (fresh : Bool) (r : List ℕ) (pending : List (List ℕ)) → 5 ≤ left → left < length r + 4
        → Written rs closed here left fresh (r ∷ pending) → Written rs closed (here ++ (segment fresh false (take (left - 4) r) ∷ [])) 0 false (drop (left - 4) r ∷ pending)
    written_part rs closed here left fresh r pending b l w = go w.more
      where
        go : All (λ r. 1 ≤ length r) (r ∷ pending) → Written rs closed (here ++ (segment fresh false (take (left - 4) r) ∷ [])) 0 false (drop (left - 4) r ∷ pending)
        go (also s a) =
            let y = filling 0 false (drop (left - 4) r ∷ pending) in
            let some : 1 ≤ length (drop (left - 4) r) = omega (arith, length-drop (left - 4) r) in
            record {
              is =
                  w.is ∙ ap (λ (x : Parts g). closed ++ ((here ++ x.0) ∷ x.1)) (filling_part low left fresh r a b l)
                  ∙ ap (λ (x : List Segment). closed ++ (x ∷ y.1)) (sym (append_assoc here (segment fresh false (take (left - 4) r) ∷ []) y.0));
              more = also {x = drop (left - 4) r} some a;
            }
