-- A block of FS is read exactly if it is the block of segments with data, of at most g bytes: its pieces fill it, so that their segments make the
-- block again; and the segments of a block that was written are found. And each block of a filling is such a block.
use mathlib.Core.Path.{◌≡◌, refl, ap, ap₂, sym, ◌∙◌, subst}
use mathlib.Core.Logic.{◌↔◌}
use mathlib.Core.Bool.{Bool, true, false, not, ◌&&◌, true≢false, false≢true}
use mathlib.Core.List.{List, [], ◌∷◌, ◌++◌, map}
use mathlib.Core.Option.{Option, none, some, none-ne-some, some-injective}
use Prim.Native.Nat.{ℕ, suc, ◌+◌, ◌≤◌, ◌<◌}
use native.Mathlib.Omega.{arith}
use lib.Dec.{leb, eqb}
use lib.ListN.{length, drop, length-append, length-drop, take-append-drop}
use lib.Seq.{drop_at}
use borrow.Author.Tests.{eqb-true, eq-eqb, leb-true, le-leb}
use Rattle.rules.specs.Base.{is_empty}
use Rattle.rules.specs.Places.{All, no_more, also, Byte}
use Rattle.rules.specs.Blocks.{Piece, word_length, headed, data_of, walk_from}
use Rattle.rules.specs.Output.{length_word}
use Rattle.rules.specs.Spanned.{Segment, part, spelled, span_of, segment_at, segments_of, segments_in, Fills, at_end, new_block, takes, Spanned, SpanIs}
use Rattle.rules.proofs.Base.Tests.{and_left, and_right}
use Rattle.rules.proofs.Base.AllLaws.{all_append, all_drop, all_imply, all_map}
use Rattle.rules.proofs.Blocks.BlockWords.{headed_exactly, length_word_back, length_word_four, length_word_bytes, length_word_says, length_word_heads}
use Rattle.rules.proofs.Blocks.CodedWords.{code_most, part_of, length_spelled, spelled_bytes, count_spelled, LiesTo, walk_back, places_of, walk_to, segments_back}

pub length_span : (ss : List Segment) → length (span_of ss) ≡ length (spelled ss) + 4
unfolding span_of
length_span ss = omega (arith, length-append (length_word (length (spelled ss) + 4)) (spelled ss), length_word_four (length (spelled ss) + 4))

pub span_bytes : {ss : List Segment} → All (λ s. All Byte (part s)) ss → length (span_of ss) < 65536 → All Byte (span_of ss)
unfolding span_of
span_bytes {ss} a l =
    let c = length_span ss in
    all_append (length_word_bytes (length (spelled ss) + 4) (omega (arith, c))) (spelled_bytes a (omega (arith, c)))

-- ---- the pieces of a block are its segments

-- the parts of a reading
record Found (g : ℕ) (b : List ℕ) (ss : List Segment) : Type 0 where
  word : headed 4 b ≡ true
  size : word_length b ≡ length b
  pieces : List Piece
  walk : walk_from 3 (suc (length b)) 4 (drop 4 b) ≡ some pieces
  most : length b ≤ g
  any : is_empty pieces ≡ false
  is : map (segment_at b) pieces ≡ ss

found_of : (g : ℕ) (b : List ℕ) (ss : List Segment) → segments_in g b ≡ some ss → Found g b ss
unfolding segments_in
found_of g b ss e = go (headed 4 b && eqb (word_length b) (length b)) refl (walk_from 3 (suc (length b)) 4 (drop 4 b)) refl
  where
    yes : (xs : List Piece) → (leb (length b) g && not (is_empty xs)) ≡ true → is_empty xs ≡ false
    yes [] t = absurd (false≢true (and_right (leb (length b) g) _ t))
    yes (x ∷ xs) t = refl

    end : (xs : List Piece) → (t : Bool) → (leb (length b) g && not (is_empty xs)) ≡ t → segments_of g b (some xs) ≡ some ss
        → (length b ≤ g) × (is_empty xs ≡ false) × (map (segment_at b) xs ≡ ss)
    end xs false t f = absurd (none-ne-some ss (rw t at f))
    end xs true t f = (leb-true (length b) g (and_left (leb (length b) g) _ t), yes xs t, some-injective _ ss (rw t at f))

    go : (t : Bool) → (headed 4 b && eqb (word_length b) (length b)) ≡ t → (o : Option (List Piece)) → walk_from 3 (suc (length b)) 4 (drop 4 b) ≡ o → Found g b ss
    go false t o w = absurd (none-ne-some ss (rw t at e))
    go true t none w = absurd (none-ne-some ss (rw (t, w) at e))
    go true t (some xs) w =
        let f = end xs (leb (length b) g && not (is_empty xs)) refl (rw (t, w) at e) in
        record {
          word = and_left (headed 4 b) _ t;
          size = eqb-true (word_length b) (length b) (and_right (headed 4 b) _ t);
          pieces = xs;
          walk = w;
          most = f.0;
          any = f.1;
          is = f.2;
        }

of_found : (g : ℕ) (b : List ℕ) (ss : List Segment) → Found g b ss → segments_in g b ≡ some ss
unfolding segments_in
of_found g b ss w = rw (w.word, eq-eqb (word_length b) (length b) w.size, w.walk, le-leb (length b) g w.most, w.any) (ap some w.is)

-- ---- exactly

read_span : (g : ℕ) (b : List ℕ) → All Byte b → (ss : List Segment) → segments_in g b ≡ some ss → SpanIs g b ss
unfolding span_of
read_span g b a ss e =
    let w = found_of g b ss e in
    let h = (headed_exactly 4 b).0 w.word in
    let k = walk_back 3 (omega arith) b (suc (length b)) 4 (drop 4 b) w.pieces refl (all_drop 4 a) w.walk in
    let f : spelled ss ≡ drop 4 b = subst (λ (z : List Segment). spelled z ≡ drop 4 b) w.is k.0 in
    let m : length (spelled ss) + 4 ≡ word_length b = omega (arith, ap length f, length-drop 4 b, h.least, w.size) in
    record {
      is = sym (ap₂ ◌++◌ (ap length_word m ∙ length_word_back b a (omega (arith, h.least, w.size)) h.third h.fourth) f ∙ take-append-drop 4 b);
      some = λ n. some_left w.pieces w.any (w.is ∙ n);
      parts = subst (All (λ s. 1 ≤ length (part s))) w.is (all_map (segment_at b) (all_imply (λ x v. each x v) k.1));
      most = w.most;
    }
  where
    some_left : (xs : List Piece) → is_empty xs ≡ false → map (segment_at b) xs ≡ [] → ⊥
    some_left [] t n = true≢false t
    some_left (x ∷ xs) t n = let z : suc (length (map (segment_at b) xs)) ≡ 0 = ap length n in omega arith

    each : (x : Piece) → LiesTo 3 b x → 1 ≤ length (part (segment_at b x))
    each x v = rw (part_of x.third (data_of b x), v.0.1) v.0.0

pub span_read : (g : ℕ) → g < 65536 → (b : List ℕ) (ss : List Segment) → SpanIs g b ss → segments_in g b ≡ some ss
unfolding span_of
span_read g high b ss v = subst (λ (z : List ℕ). segments_in g z ≡ some ss) (sym v.is) (of_found g (span_of ss) ss found)
  where
    some_pieces : (ss : List Segment) → (ss ≡ [] → ⊥) → is_empty (places_of 4 ss) ≡ false
    some_pieces [] o = absurd (o refl)
    some_pieces (s ∷ ss) o = refl

    found : Found g (span_of ss) ss
    found =
        let n = length (spelled ss) + 4 in
        let c = length_span ss in
        let most : length (span_of ss) ≤ g = omega (arith, ap length v.is, v.most) in
        let past : drop 4 (span_of ss) ≡ spelled ss = drop_at (length_word n) (spelled ss) 4 (length_word_four n) in
        record {
          word = length_word_heads 4 n (spelled ss) (omega arith) (omega arith) (omega arith);
          size = length_word_says n (spelled ss) (omega arith) ∙ sym c;
          pieces = places_of 4 ss;
          walk =
              ap (walk_from 3 (suc (length (span_of ss))) 4) past
              ∙ walk_to 3 (suc (length (span_of ss))) 4 (all_imply (λ s l. (code_most s, l)) v.parts) (omega arith) (omega (arith, count_spelled ss));
          most = most;
          any = some_pieces ss v.some;
          is = segments_back (span_of ss) 4 ss past;
        }

pub span_exactly : (g : ℕ) → g < 65536 → (b : List ℕ) → All Byte b → (ss : List Segment) → (segments_in g b ≡ some ss) ↔ SpanIs g b ss
span_exactly g high b a ss = (read_span g b a ss, span_read g high b ss)

-- a block is the block of one list of segments
pub span_once : (g : ℕ) → g < 65536 → (b : List ℕ) (ss ss' : List Segment) → SpanIs g b ss → SpanIs g b ss' → ss ≡ ss'
span_once g high b ss ss' v v' = some-injective ss ss' (sym (span_read g high b ss v) ∙ span_read g high b ss' v')

-- ---- the blocks of a filling

module _ (g : ℕ) (low : 9 ≤ g) where
  fills_spans : {left : ℕ} {b : List Segment} {bs : List (List Segment)} → Fills g left b bs
      → (length (spelled b) ≤ left) × All (λ s. 1 ≤ length (part s)) b × All (λ c. SpanIs g (span_of c) c) bs
  fills_spans at_end = (omega arith, no_more, no_more)
  fills_spans (new_block {b = b} l f w) =
      let k = fills_spans w in (
        omega arith,
        no_more,
        also {x = b} (record { is = refl; some = λ e. let z : length b ≡ 0 = ap length e in omega arith; parts = k.1; most = omega (arith, length_span b, k.0) }) k.2,
      )
  fills_spans (takes {s = s} {b = b} p q t w) = let k = fills_spans w in (omega (arith, length_spelled s b, k.0), also p k.1, k.2)

  -- each is a good block of at most g bytes, with a segment, and each segment has data
  pub spanned_blocks : {bs : List (List Segment)} {rs : List (List ℕ)} → Spanned g bs rs → All (λ c. SpanIs g (span_of c) c) bs
  spanned_blocks w = (fills_spans w.fills).2
