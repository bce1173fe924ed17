-- The segments of a block from a place on: at the end there are none, and elsewhere the first stands there and the others behind it, each with data that
-- lies in the block; and those of a block that is read are all from place 4 on. By the steps of the walk over their words.
use mathlib.Core.Path.{◌≡◌, refl, ap, sym, ◌∙◌, subst}
use mathlib.Core.Bool.{Bool, true, false, ◌&&◌, false≢true}
use mathlib.Core.List.{List, [], ◌∷◌, map}
use mathlib.Core.Option.{Option, none, some, none-ne-some, some-injective}
use Prim.Native.Nat.{ℕ, zero, suc, ◌+◌, ◌-◌, ◌%◌, ◌≤◌, ◌<◌, min}
use native.Mathlib.Omega.{arith}
use lib.Dec.{leb, eqb}
use lib.ListN.{length, take, drop, get_or, length-append, length-drop, length-take, drop_of_length-le}
use borrow.Author.Tests.{leb-true, leb-false}
use Rattle.rules.specs.Base.{is_empty, joined}
use Rattle.rules.specs.Places.{All, no_more, also}
use Rattle.rules.specs.Blocks.{Piece, word_length, headed, headed_to, with_piece, walk_from}
use Rattle.rules.specs.ReelPlaces.{piece_at}
use Rattle.rules.specs.Spanned.{Segment, ends, part, segment_of, segment_at, segments_in, segments_of as read_of}
use Rattle.rules.proofs.Blocks.CodedWords.{headed_to_exactly}
use Rattle.rules.proofs.Spanned.SpannedSteps.{walk_at, walk_at_end, walk_at_good, walk_at_bad}
use Rattle.segments.specs.Promise.{all_segments, segments_from}

-- ---- from a place on

pub from_walk : (b : List ℕ) (i : ℕ) → segments_from b i ≡ all_segments b (walk_at 3 b i)
unfolding segments_from walk_at
from_walk b i = refl

pub from_end : (b : List ℕ) (i : ℕ) (ss : List Segment) → length b ≤ i → segments_from b i ≡ some ss → ss ≡ []
from_end b i ss l e = some-injective ss [] (sym e ∙ from_walk b i ∙ ap (all_segments b) (walk_at_end 3 b i l))

pub end_from : (b : List ℕ) (i : ℕ) → length b ≤ i → segments_from b i ≡ some []
end_from b i l = from_walk b i ∙ ap (all_segments b) (walk_at_end 3 b i l)

-- the first segment, and those behind it
pub record First (b : List ℕ) (i : ℕ) (ss : List Segment) : Type 0 where
  pub head : headed_to 3 5 (drop i b) ≡ true
  pub least : 5 ≤ word_length (drop i b)
  pub most : i + word_length (drop i b) ≤ length b
  pub more : List Segment
  pub is : ss ≡ segment_at b (piece_at i (drop i b)) ∷ more
  pub next : segments_from b (i + word_length (drop i b)) ≡ some more

pub from_first : (b : List ℕ) (i : ℕ) (ss : List Segment) → i < length b → segments_from b i ≡ some ss → First b i ss
from_first b i ss l e = go (headed_to 3 5 (drop i b)) refl
  where
    j : ℕ
    j = i + word_length (drop i b)

    step : headed_to 3 5 (drop i b) ≡ true → (o : Option (List Piece)) → walk_at 3 b j ≡ o → First b i ss
    step t none w =
        absurd (none-ne-some ss (sym (from_walk b i ∙ ap (all_segments b) (walk_at_good 3 b i t ∙ ap (with_piece (piece_at i (drop i b))) w)) ∙ e))
    step t (some xs) w =
        let h = (headed_to_exactly 3 5 (drop i b)).0 t in
        let d = length-drop i b in
        record {
          head = t;
          least = h.least;
          most = omega (arith, h.most, h.least);
          more = map (segment_at b) xs;
          is =
              sym (some-injective (segment_at b (piece_at i (drop i b)) ∷ map (segment_at b) xs) ss
              (sym (from_walk b i ∙ ap (all_segments b) (walk_at_good 3 b i t ∙ ap (with_piece (piece_at i (drop i b))) w)) ∙ e));
          next = from_walk b j ∙ ap (all_segments b) w;
        }

    go : (t : Bool) → headed_to 3 5 (drop i b) ≡ t → First b i ss
    go true t = step t (walk_at 3 b j) refl
    go false t = absurd (none-ne-some ss (sym (from_walk b i ∙ ap (all_segments b) (walk_at_bad 3 b i l t)) ∙ e))

-- its data
pub first_data : (b : List ℕ) (i : ℕ) → part (segment_at b (piece_at i (drop i b))) ≡ take (word_length (drop i b) - 4) (drop (i + 4) b)
unfolding segment_of
first_data b i = refl

pub first_ends : (b : List ℕ) (i : ℕ) → ends (segment_at b (piece_at i (drop i b))) ≡ eqb (get_or (drop i b) 2 0 % 2) 0
unfolding segment_of
first_ends b i = refl

pub first_length : (b : List ℕ) (i : ℕ) (ss : List Segment) → First b i ss → length (part (segment_at b (piece_at i (drop i b)))) ≡ word_length (drop i b) - 4
first_length b i ss f =
    let n = word_length (drop i b) - 4 in
    ap length (first_data b i) ∙ length-take n (drop (i + 4) b)
    ∙ (let z : min (word_length (drop i b) - 4) (length (drop (i + 4) b)) ≡ word_length (drop i b) - 4 = omega (arith, length-drop (i + 4) b, f.most, f.least) in z)

-- each has data, and all of it lies in the block
pub from_parts : (k : ℕ) (b : List ℕ) (i : ℕ) (ss : List Segment) → length b ≤ i + k → segments_from b i ≡ some ss
    → All (λ x. 1 ≤ length (part x)) ss × (length (joined (map part ss)) ≤ length b - i)
from_parts zero b i ss m e = subst (λ (xs : List Segment). All (λ x. 1 ≤ length (part x)) xs × (length (joined (map part xs)) ≤ length b - i)) (sym (from_end b i ss (omega arith) e)) (no_more, omega arith)
from_parts (suc k) b i ss m e = go (leb (length b) i) refl (λ more n next. from_parts k b (i + word_length (drop i b)) more n next)
  where
    Parts : List Segment → ℕ → Type 0
    Parts xs j = All (λ x. 1 ≤ length (part x)) xs × (length (joined (map part xs)) ≤ length b - j)

    go : (t : Bool) → leb (length b) i ≡ t
        → ((more : List Segment) → length b ≤ i + word_length (drop i b) + k → segments_from b (i + word_length (drop i b)) ≡ some more → Parts more (i + word_length (drop i b)))
        → Parts ss i
    go true t ih = subst (λ (xs : List Segment). Parts xs i) (sym (from_end b i ss (leb-true (length b) i t) e)) (no_more, omega arith)
    go false t ih =
        let f = from_first b i ss (leb-false (length b) i t) e in
        let x = segment_at b (piece_at i (drop i b)) in
        let w = ih f.more (omega (arith, f.least)) f.next in
        let n = first_length b i ss f in
        let one : 1 ≤ length (part (segment_at b (piece_at i (drop i b)))) = omega (arith, f.least) in
        subst (λ (xs : List Segment). Parts xs i) (sym f.is)
        (also {x = x} one w.0, omega (arith, w.1, f.most, f.least, length-append (part x) (joined (map part f.more))))

-- ---- a block that is read

pub read_from : (g : ℕ) (b : List ℕ) (ss : List Segment) → segments_in g b ≡ some ss → (segments_from b 4 ≡ some ss) × (4 < length b)
unfolding segments_in segments_from
read_from g b ss e = go (headed 4 b && eqb (word_length b) (length b)) refl (walk_from 3 (suc (length b)) 4 (drop 4 b)) refl
  where
    long : (xs : List Piece) → walk_from 3 (suc (length b)) 4 (drop 4 b) ≡ some xs → is_empty xs ≡ false → 4 < length b
    long xs w t = at_least (leb (length b) 4) refl
      where
        at_least : (u : Bool) → leb (length b) 4 ≡ u → 4 < length b
        at_least false u = leb-false (length b) 4 u
        at_least true u =
            let n : drop 4 b ≡ [] = drop_of_length-le b {i = 4} (leb-true (length b) 4 u) in
            let z : some [] ≡ some xs = rw n at w in
            let q : [] ≡ xs = some-injective [] xs z in
            absurd (false≢true (sym t ∙ ap is_empty (sym q)))

    end : (xs : List Piece) → (t : Bool) → leb (length b) g ≡ t → (u : Bool) → is_empty xs ≡ u → read_of g b (some xs) ≡ some ss → (map (segment_at b) xs ≡ ss) × (is_empty xs ≡ false)
    end xs false t u f q = absurd (none-ne-some ss (rw t at q))
    end xs true t true f q = absurd (none-ne-some ss (rw (t, f) at q))
    end xs true t false f q = (some-injective (map (segment_at b) xs) ss (rw (t, f) at q), f)

    go : (t : Bool) → (headed 4 b && eqb (word_length b) (length b)) ≡ t → (o : Option (List Piece)) → walk_from 3 (suc (length b)) 4 (drop 4 b) ≡ o
        → (all_segments b (walk_from 3 (suc (length b)) 4 (drop 4 b)) ≡ some ss) × (4 < length b)
    go false t o w = absurd (none-ne-some ss (rw t at e))
    go true t none w = absurd (none-ne-some ss (rw (t, w) at e))
    go true t (some xs) w =
        let f = end xs (leb (length b) g) refl (is_empty xs) refl (rw (t, w) at e) in
        (ap (all_segments b) w ∙ ap some f.0, long xs w f.1)
