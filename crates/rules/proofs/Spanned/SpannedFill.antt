-- Filling blocks with segments: what the filling gives is filled and makes the records, and nothing else is. It holds because at each segment
-- what is left of the block and of the record leaves one choice. Over any g of at least 9.
use mathlib.Core.Path.{◌≡◌, refl, ap, sym, ◌∙◌, subst}
use mathlib.Core.Bool.{Bool, true, false, cond, true≢false}
use mathlib.Core.List.{List, [], ◌∷◌, ◌++◌}
use Prim.Native.Nat.{ℕ, zero, suc, ◌+◌, ◌-◌, ◌≤◌, ◌<◌}
use native.Mathlib.Omega.{arith}
use lib.Dec.{leb}
use lib.ListN.{length, take, drop, length-append, length-drop, length-take, take-append-drop}
use lib.Seq.{take_at, drop_at}
use borrow.Author.Tests.{leb-true, leb-false, le-leb, lt-leb}
use Rattle.rules.specs.Base.{joined}
use Rattle.rules.specs.Places.{All, no_more, also}
use Rattle.rules.specs.Spanned.{Segment, segment, part, room_of, Parts, fill_from, segmented, Joined, no_segment, ending, going, Fills, at_end, new_block, takes, Spanned}
use Rattle.rules.proofs.Base.AllLaws.{all_head}

-- ---- what segments make

-- a segment belongs to a record
pub joined_some : {fresh : Bool} {ss : List Segment} {rs : List (List ℕ)} → Joined fresh ss rs → 1 ≤ length ss → 1 ≤ length rs
joined_some no_segment l = l
joined_some (ending j) l = omega arith
joined_some (going j) l = omega arith

-- an open record has a segment to come
pub joined_open : {ss : List Segment} {rs : List (List ℕ)} → Joined false ss rs → 1 ≤ length ss
joined_open (ending j) = omega arith
joined_open (going j) = omega arith

-- segments with data make records with data
pub joined_data : {fresh : Bool} {ss : List Segment} {rs : List (List ℕ)} → Joined fresh ss rs → All (λ s. 1 ≤ length (part s)) ss → All (λ r. 1 ≤ length r) rs
joined_data no_segment a = no_more
joined_data (ending j) (also h a) = also h (joined_data j a)
joined_data (going {d = d} {r = r} j) (also h a) = go (joined_data j a)
  where
    go : {rs : List (List ℕ)} → All (λ r. 1 ≤ length r) (r ∷ rs) → All (λ r. 1 ≤ length r) ((d ++ r) ∷ rs)
    go (also l b) = also {x = d ++ r} (omega (arith, length-append d r)) b

module _ (g : ℕ) where
  pub room_left : (left : ℕ) → 5 ≤ left → room_of g left ≡ left
  unfolding room_of
  room_left left l = rw (le-leb 5 left l)

  pub room_new : (left : ℕ) → left < 5 → room_of g left ≡ g - 4
  unfolding room_of
  room_new left l = rw (lt-leb 5 left l)

  -- one step: into a block with so much room
  abbrev pub placed : ℕ → ℕ → Bool → List ℕ → List (List ℕ) → Parts g
  placed k room fresh r rs =
      let rest = fill_from g k (room - (length r + 4)) true rs in
      let next = fill_from g k (g - 4) false (drop (room - 4) r ∷ rs) in
      cond (leb (length r + 4) room) (segment fresh true r ∷ rest.0, rest.1) (segment fresh false (take (room - 4) r) ∷ [], next.0 ∷ next.1)

  pub fill_left : (k left : ℕ) (fresh : Bool) (r : List ℕ) (rs : List (List ℕ)) → 5 ≤ left → fill_from g (suc k) left fresh (r ∷ rs) ≡ placed k left fresh r rs
  fill_left k left fresh r rs l = rw (le-leb 5 left l, room_left left l)

  pub fill_new : (k left : ℕ) (fresh : Bool) (r : List ℕ) (rs : List (List ℕ)) → left < 5
      → fill_from g (suc k) left fresh (r ∷ rs) ≡ ([], (placed k (g - 4) fresh r rs).0 ∷ (placed k (g - 4) fresh r rs).1)
  fill_new k left fresh r rs l = rw (lt-leb 5 left l, room_new left l)

  pub placed_all : (k room : ℕ) (fresh : Bool) (r : List ℕ) (rs : List (List ℕ)) → length r + 4 ≤ room
      → placed k room fresh r rs ≡ (segment fresh true r ∷ (fill_from g k (room - (length r + 4)) true rs).0, (fill_from g k (room - (length r + 4)) true rs).1)
  placed_all k room fresh r rs l = rw (le-leb (length r + 4) room l)

  pub placed_some : (k room : ℕ) (fresh : Bool) (r : List ℕ) (rs : List (List ℕ)) → room < length r + 4
      → placed k room fresh r rs
      ≡ (segment fresh false (take (room - 4) r) ∷ [], (fill_from g k (g - 4) false (drop (room - 4) r ∷ rs)).0 ∷ (fill_from g k (g - 4) false (drop (room - 4) r ∷ rs)).1)
  placed_some k room fresh r rs l = rw (lt-leb (length r + 4) room l)

  pub placed_part : (k room : ℕ) (fresh : Bool) (d r : List ℕ) (rs : List (List ℕ)) → length d + 4 ≡ room → 1 ≤ length r
      → placed k room fresh (d ++ r) rs ≡ (segment fresh false d ∷ [], (fill_from g k (g - 4) false (r ∷ rs)).0 ∷ (fill_from g k (g - 4) false (r ∷ rs)).1)
  placed_part k room fresh d r rs c some =
      let front : take (room - 4) (d ++ r) ≡ d = take_at d r (room - 4) (omega arith) in
      let back : drop (room - 4) (d ++ r) ≡ r = drop_at d r (room - 4) (omega arith) in
      placed_some k room fresh (d ++ r) rs (omega (arith, length-append d r)) ∙ rw (front, back)

  -- ---- the filling is filled

  pub record Good (left : ℕ) (fresh : Bool) (x : Parts g) (rs : List (List ℕ)) : Type 0 where
    pub fills : Fills g left x.0 x.1
    pub joins : Joined fresh (x.0 ++ joined x.1) rs
    -- where 5 bytes are left something goes into the open block
    pub some : 5 ≤ left → 1 ≤ length rs → 1 ≤ length x.0

  module _ (low : 9 ≤ g) where
    pub fill_good : (k left : ℕ) (fresh : Bool) {rs : List (List ℕ)} → All (λ r. 1 ≤ length r) rs → (fresh ≡ false → 1 ≤ length rs) → length (joined rs) < k
        → Good left fresh (fill_from g k left fresh rs) rs
    fill_good zero left fresh a n l = absurd (omega arith)
    fill_good (suc k) left true no_more n l = record { fills = at_end; joins = no_segment; some = λ b m. m }
    fill_good (suc k) left false no_more n l = absurd (omega (arith, n refl))
    fill_good (suc k) left fresh (also {x = r} {xs = rs} h a) n l =
        go (λ left'. fill_good k left' true a (λ e. absurd (true≢false e)) (omega (arith, length-append r (joined rs))))
        (λ m low some. fill_good k (g - 4) false (also {x = drop m r} some a) (λ e. omega arith) (omega (arith, length-append r (joined rs), length-append (drop m r) (joined rs), length-drop m r)))
        (leb 5 left) refl
      where
        Rest : Type 0
        Rest = (left' : ℕ) → Good left' true (fill_from g k left' true rs) rs

        Next : Type 0
        Next = (m : ℕ) → 1 ≤ m → 1 ≤ length (drop m r) → Good (g - 4) false (fill_from g k (g - 4) false (drop m r ∷ rs)) (drop m r ∷ rs)

        in_room : Rest → Next → (room : ℕ) → 5 ≤ room → (t : Bool) → leb (length r + 4) room ≡ t
            → Good room fresh (placed k room fresh r rs) (r ∷ rs)
        in_room rest next room b true t =
            let q = leb-true (length r + 4) room t in
            let w = rest (room - (length r + 4)) in
            rw (placed_all k room fresh r rs q)
            (record { fills = takes h q (λ e. absurd (true≢false e)) w.fills; joins = ending w.joins; some = λ b m. omega arith })
        in_room rest next room b false t =
            let q = leb-false (length r + 4) room t in
            let c = length-drop (room - 4) r in
            let w = next (room - 4) (omega arith) (omega arith) in
            let c' : length (take (room - 4) r) ≡ room - 4 = omega (arith, length-take (room - 4) r) in
            let j : Joined fresh (segment fresh false (take (room - 4) r) ∷ ((fill_from g k (g - 4) false (drop (room - 4) r ∷ rs)).0 ++ joined (fill_from g k (g - 4) false (drop (room - 4) r ∷ rs)).1)) (r ∷ rs) =
            subst (λ (z : List ℕ). Joined fresh (segment fresh false (take (room - 4) r) ∷ ((fill_from g k (g - 4) false (drop (room - 4) r ∷ rs)).0 ++ joined (fill_from g k (g - 4) false (drop (room - 4) r ∷ rs)).1)) (z ∷ rs))
            (take-append-drop (room - 4) r) (going w.joins) in
            let one : 1 ≤ length (take (room - 4) r) = omega arith in
            let fit : length (take (room - 4) r) + 4 ≤ room = omega arith in
            let full : length (take (room - 4) r) + 4 ≡ room = omega arith in
            let none_left : room - (length (take (room - 4) r) + 4) < 5 = omega arith in
            let filled : 1 ≤ length (fill_from g k (g - 4) false (drop (room - 4) r ∷ rs)).0 = w.some (omega arith) (omega arith) in
            rw (placed_some k room fresh r rs q)
            (record { fills = takes {s = segment fresh false (take (room - 4) r)} one fit (λ e. full) (new_block none_left filled w.fills); joins = j; some = λ b m. omega arith })

        go : Rest → Next → (t : Bool) → leb 5 left ≡ t → Good left fresh (fill_from g (suc k) left fresh (r ∷ rs)) (r ∷ rs)
        go rest next true t = let b = leb-true 5 left t in rw (fill_left k left fresh r rs b) (in_room rest next left b (leb (length r + 4) left) refl)
        go rest next false t =
            let b = leb-false 5 left t in
            let w = in_room rest next (g - 4) (omega arith) (leb (length r + 4) (g - 4)) refl in
            rw (fill_new k left fresh r rs b) (record { fills = new_block b (w.some (omega arith) (omega arith)) w.fills; joins = w.joins; some = λ b' m. absurd (omega arith) })

    -- the filling of records with data is filled, and makes them
    pub segmented_spanned : {rs : List (List ℕ)} → All (λ r. 1 ≤ length r) rs → Spanned g (segmented g rs) rs
    unfolding segmented
    segmented_spanned {rs} a = go (fill_good (suc (length (joined rs))) 0 true a (λ e. absurd (true≢false e)) (omega arith)) (fill_none (length (joined rs)) 0 rs (omega arith))
      where
        fill_none : (k left : ℕ) (rs : List (List ℕ)) → left < 5 → (fill_from g (suc k) left true rs).0 ≡ []
        fill_none k left [] l = refl
        fill_none k left (r ∷ rs) l = ap (λ (x : Parts g). x.0) (fill_new k left true r rs l)

        go : {x : Parts g} → Good 0 true x rs → x.0 ≡ [] → Spanned g x.1 rs
        go {x} w e = record { joins = subst (λ (z : List Segment). Joined true (z ++ joined x.1) rs) e w.joins; fills = subst (λ (z : List Segment). Fills g 0 z x.1) e w.fills }

    -- ---- nothing else is

    pub fills_data : {left : ℕ} {b : List Segment} {bs : List (List Segment)} → Fills g left b bs → All (λ s. 1 ≤ length (part s)) (b ++ joined bs)
    fills_data at_end = no_more
    fills_data (new_block l m w) = fills_data w
    fills_data (takes p q t w) = also p (fills_data w)

    pub fill_once : (k left : ℕ) (fresh : Bool) {b : List Segment} {bs : List (List Segment)} → Fills g left b bs → (rs : List (List ℕ)) → Joined fresh (b ++ joined bs) rs
        → length (joined rs) < k → fill_from g k left fresh rs ≡ (b, bs)
    fill_once zero left fresh w rs j l = absurd (omega arith)
    fill_once (suc k) left fresh at_end [] no_segment l = refl
    fill_once (suc k) left fresh (new_block {b = b} {bs = bs} m f w) [] j l = absurd (omega (arith, joined_some j (omega (arith, length-append b (joined bs)))))
    fill_once (suc k) left fresh (new_block {b = b} {bs = bs} m f w) (r ∷ rs) j l =
        let e : placed k (g - 4) fresh r rs ≡ (b, bs) = sym (fill_left k (g - 4) fresh r rs (omega arith)) ∙ fill_once (suc k) (g - 4) fresh w (r ∷ rs) j l in
        fill_new k left fresh r rs m ∙ ap (λ (x : Parts g). ([], x.0 ∷ x.1)) e
    fill_once (suc k) left fresh (takes p q t w) (d ∷ rs) (ending j) l =
        let e = fill_once k (left - (length d + 4)) true w rs j (omega (arith, length-append d (joined rs))) in
        fill_left k left fresh d rs (omega arith) ∙ placed_all k left fresh d rs q ∙ ap (λ (x : Parts g). (segment fresh true d ∷ x.0, x.1)) e
    fill_once (suc k) left fresh (takes p q t at_end) rs (going j) l = absurd (omega (arith, joined_open j))
    fill_once (suc k) left fresh (takes p q t (takes p' q' t' w)) rs (going j) l = absurd (omega (arith, t refl))
    fill_once (suc k) left fresh (takes p q t (new_block m f w)) rs (going {d = d} {r = r} {rs = rs'} j) l =
        let c = t refl in
        let some : 1 ≤ length r = all_head (joined_data j (fills_data w)) in
        let e = fill_once k (g - 4) false w (r ∷ rs') j (omega (arith, length-append d r, length-append (d ++ r) (joined rs'), length-append r (joined rs'))) in
        fill_left k left fresh (d ++ r) rs' (omega arith) ∙ placed_part k left fresh d r rs' c some ∙ ap (λ (x : Parts g). (segment fresh false d ∷ [], x.0 ∷ x.1)) e
    fill_once (suc k) _ fresh (at_end {left = left}) (r ∷ rs) j l = elim j [ ]

    -- the words allow one list of blocks, and the filling gives it
    pub spanned_once : (bs : List (List Segment)) (rs : List (List ℕ)) → Spanned g bs rs → bs ≡ segmented g rs
    unfolding segmented
    spanned_once bs rs w = sym (ap (λ (x : Parts g). x.1) (fill_once (suc (length (joined rs))) 0 true w.fills rs w.joins (omega arith)))
