-- The words of FV and FS alike: what a word that is read says, what a word that is written says, and what each segment makes of the rest of its
-- block. Over the highest third byte, which is 0 in FV and 3 in FS. Each segment takes 5 bytes or more, so that steps past the length change nothing.
use mathlib.Core.Path.{◌≡◌, refl, ap, ap₂, sym, ◌∙◌, subst}
use mathlib.Core.Logic.{◌⊎◌, inl, inr, ◌↔◌}
use mathlib.Core.Bool.{Bool, true, false, ◌&&◌}
use mathlib.Core.List.{List, [], ◌∷◌, ◌++◌, map, append_assoc}
use mathlib.Core.Option.{Option, none, some, none-ne-some, some-injective}
use Prim.Native.Nat.{ℕ, zero, suc, ◌+◌, ◌-◌, ◌*◌, ◌/◌, ◌%◌, ◌≤◌, ◌<◌, min}
use native.Mathlib.Omega.{arith}
use lib.Dec.{leb}
use lib.ListN.{length, take, drop, get_or, length-append, length-drop, length-take, take-append-drop}
use lib.Seq.{take_at, drop_at, drop-drop, take-add}
use borrow.Author.Tests.{eqb-true, eq-eqb, leb-true, le-leb}
use Rattle.rules.specs.Base.{within}
use Rattle.rules.specs.Places.{All, no_more, also, Byte}
use Rattle.rules.specs.Blocks.{Piece, word_length, headed_to, with_piece, walk_from, data_of}
use Rattle.rules.specs.ReelPlaces.{piece_at}
use Rattle.rules.specs.Spanned.{Segment, segment, part, code, segment_of, coded_word, spelled, segment_at}
use Rattle.rules.proofs.Base.Tests.{and_left, and_right, and_both, within_low, within_high, within_of, failing}
use Rattle.rules.proofs.Base.AllLaws.{all_append, all_drop}

-- ---- codes

pub code_of : (c : ℕ) (d : List ℕ) → c ≤ 3 → code (segment_of c d) ≡ c
unfolding segment_of
code_of zero d l = refl
code_of (suc zero) d l = refl
code_of (suc (suc zero)) d l = refl
code_of (suc (suc (suc zero))) d l = refl
code_of (suc (suc (suc (suc c)))) d l = absurd (omega arith)

pub part_of : (c : ℕ) (d : List ℕ) → part (segment_of c d) ≡ d
unfolding segment_of
part_of c d = refl

pub segment_of_lem : (s : Segment) → segment_of (code s) (part s) ≡ s
unfolding segment_of
segment_of_lem (segment true true d) = refl
segment_of_lem (segment true false d) = refl
segment_of_lem (segment false true d) = refl
segment_of_lem (segment false false d) = refl

pub code_most : (s : Segment) → code s ≤ 3
code_most (segment true true d) = omega arith
code_most (segment true false d) = omega arith
code_most (segment false true d) = omega arith
code_most (segment false false d) = omega arith

-- ---- a word that is read

pub record HeadedTo (top low : ℕ) (s : List ℕ) : Type 0 where
  pub least : low ≤ word_length s
  pub most : word_length s ≤ length s
  pub third : get_or s 2 0 ≤ top
  pub fourth : get_or s 3 0 ≡ 0

pub headed_to_exactly : (top low : ℕ) (s : List ℕ) → (headed_to top low s ≡ true) ↔ HeadedTo top low s
unfolding headed_to
headed_to_exactly top low s = (to, λ w. and_both (and_both (within_of low (length s) (word_length s) w.least w.most) (le-leb (get_or s 2 0) top w.third)) (eq-eqb (get_or s 3 0) 0 w.fourth))
  where
    to : headed_to top low s ≡ true → HeadedTo top low s
    to e =
        let l = and_left (within low (length s) (word_length s) && leb (get_or s 2 0) top) _ e in
        let v = and_left (within low (length s) (word_length s)) _ l in
        record {
          least = within_low low (length s) (word_length s) v;
          most = within_high low (length s) (word_length s) v;
          third = leb-true (get_or s 2 0) top (and_right (within low (length s) (word_length s)) _ l);
          fourth = eqb-true (get_or s 3 0) 0 (and_right (within low (length s) (word_length s) && leb (get_or s 2 0) top) _ e);
        }

-- where 4 bytes are not left there is no word
pub headed_to_short : (top low : ℕ) (b : List ℕ) (i : ℕ) → 4 ≤ low → length b < i + 4 → headed_to top low (drop i b) ≡ false
headed_to_short top low b i l h =
    failing (headed_to top low (drop i b)) (headed_to_exactly top low (drop i b)) (λ w. omega (arith, w.least, w.most, length-drop i b))

-- the word of bytes is written as it stands
pub coded_word_back : (s : List ℕ) → All Byte s → 4 ≤ length s → get_or s 3 0 ≡ 0 → coded_word (get_or s 2 0) (word_length s) ≡ take 4 s
unfolding coded_word word_length
coded_word_back [] a l z = absurd (omega arith)
coded_word_back (b0 ∷ []) a l z = absurd (omega arith)
coded_word_back (b0 ∷ (b1 ∷ [])) a l z = absurd (omega arith)
coded_word_back (b0 ∷ (b1 ∷ (b2 ∷ []))) a l z = absurd (omega arith)
coded_word_back (b0 ∷ (b1 ∷ (b2 ∷ (b3 ∷ s)))) (also p (also q a)) l z =
    let d : (256 * b0 + b1) / 256 ≡ b0 = omega arith in
    let m : (256 * b0 + b1) % 256 ≡ b1 = omega arith in
    rw (d, m, z)

-- ---- a word that is written

pub coded_word_four : (c n : ℕ) → length (coded_word c n) ≡ 4
unfolding coded_word
coded_word_four c n = refl

pub coded_word_bytes : (c n : ℕ) → c ≤ 3 → n < 65536 → All Byte (coded_word c n)
unfolding coded_word
coded_word_bytes c n k l =
    let h : n / 256 < 256 = omega arith in
    let m : n % 256 < 256 = omega arith in
    let t : c < 256 = omega arith in
    let z : 0 < 256 = omega arith in
    also h (also m (also t (also z no_more)))

pub coded_word_says : (c n : ℕ) (s : List ℕ) → n < 65536 → word_length (coded_word c n ++ s) ≡ n
unfolding coded_word word_length
coded_word_says c n s l = omega arith

pub coded_word_third : (c n : ℕ) (s : List ℕ) → get_or (coded_word c n ++ s) 2 0 ≡ c
unfolding coded_word
coded_word_third c n s = refl

pub coded_word_heads : (top low c n : ℕ) (s : List ℕ) → c ≤ top → low ≤ n → n < 65536 → n ≤ 4 + length s → headed_to top low (coded_word c n ++ s) ≡ true
unfolding coded_word
coded_word_heads top low c n s t a b l =
    (headed_to_exactly top low (coded_word c n ++ s)).1
    (record { least = rw (coded_word_says c n s b) a; most = rw (coded_word_says c n s b) (omega arith); third = t; fourth = refl })

-- ---- segments with their words

pub length_spelled : (s : Segment) (ss : List Segment) → length (spelled (s ∷ ss)) ≡ 4 + length (part s) + length (spelled ss)
length_spelled s ss =
    let c = code s in
    let n = length (part s) + 4 in
    omega (arith, length-append (coded_word c n ++ part s) (spelled ss), length-append (coded_word c n) (part s), coded_word_four c n)

pub spelled_bytes : {ss : List Segment} → All (λ s. All Byte (part s)) ss → length (spelled ss) < 65536 → All Byte (spelled ss)
spelled_bytes no_more l = no_more
spelled_bytes (also {x = s} {xs = ss} h a) l =
    all_append (all_append (coded_word_bytes (code s) (length (part s) + 4) (code_most s) (omega (arith, length_spelled s ss))) h) (spelled_bytes a (omega (arith, length_spelled s ss)))

-- ---- one step

pub walk_good : (top k i : ℕ) (s : List ℕ) → headed_to top 5 s ≡ true
    → walk_from top (suc k) i s ≡ with_piece (piece_at i s) (walk_from top k (i + word_length s) (drop (word_length s) s))
walk_good top k i [] e = let w = (headed_to_exactly top 5 []).0 e in absurd (omega (arith, w.least, w.most))
walk_good top k i (x ∷ s) e = rw e

pub walk_bad : (top k i : ℕ) (s : List ℕ) → 1 ≤ length s → headed_to top 5 s ≡ false → walk_from top (suc k) i s ≡ none
walk_bad top k i [] l e = absurd (omega arith)
walk_bad top k i (x ∷ s) l e = rw e

-- steps past the length change nothing
pub walk_enough : (top k m i : ℕ) (s : List ℕ) → length s < k → length s < m → walk_from top k i s ≡ walk_from top m i s
walk_enough top zero m i s l h = absurd (omega arith)
walk_enough top (suc k) zero i s l h = absurd (omega arith)
walk_enough top (suc k) (suc m) i [] l h = refl
walk_enough top (suc k) (suc m) i (x ∷ t) l h = go (λ l' h'. walk_enough top k m (i + word_length (x ∷ t)) (drop (word_length (x ∷ t)) (x ∷ t)) l' h') (headed_to top 5 (x ∷ t)) refl
  where
    s : List ℕ
    s = x ∷ t

    go : (length (drop (word_length s) s) < k → length (drop (word_length s) s) < m
        → walk_from top k (i + word_length s) (drop (word_length s) s) ≡ walk_from top m (i + word_length s) (drop (word_length s) s))
        → (t : Bool) → headed_to top 5 s ≡ t → walk_from top (suc k) i s ≡ walk_from top (suc m) i s
    go ih true e =
        let w = (headed_to_exactly top 5 s).0 e in
        let d = length-drop (word_length s) s in
        walk_good top k i s e ∙ ap (with_piece (piece_at i s)) (ih (omega (arith, w.least, w.most)) (omega (arith, w.least, w.most))) ∙ sym (walk_good top m i s e)
    go ih false e = walk_bad top k i s (omega arith) e ∙ sym (walk_bad top m i s (omega arith) e)

-- ---- the segments that fill the rest of a block

-- one step that found a segment
record Step (top k i : ℕ) (s : List ℕ) (xs : List Piece) : Type 0 where
  head : HeadedTo top 5 s
  more : List Piece
  is : xs ≡ piece_at i s ∷ more
  next : walk_from top k (i + word_length s) (drop (word_length s) s) ≡ some more

step_of : (top k i : ℕ) (s : List ℕ) (xs : List Piece) → walk_from top (suc k) i s ≡ some xs → ((s ≡ []) × (xs ≡ [])) ⊎ Step top k i s xs
step_of top k i [] xs e = inl (refl, sym (some-injective [] xs e))
step_of top k i (y ∷ t) xs e = go (headed_to top 5 (y ∷ t)) refl (walk_from top k (i + word_length (y ∷ t)) (drop (word_length (y ∷ t)) (y ∷ t))) refl
  where
    s : List ℕ
    s = y ∷ t

    go : (b : Bool) → headed_to top 5 s ≡ b → (o : Option (List Piece)) → walk_from top k (i + word_length s) (drop (word_length s) s) ≡ o → ((s ≡ []) × (xs ≡ [])) ⊎ Step top k i s xs
    go false eb o eo = absurd (none-ne-some xs (sym (walk_bad top k i s (omega arith) eb) ∙ e))
    go true eb none eo = absurd (none-ne-some xs (sym (walk_good top k i s eb ∙ ap (with_piece (piece_at i s)) eo) ∙ e))
    go true eb (some more) eo =
        inr (record {
          head = (headed_to_exactly top 5 s).0 eb;
          more = more;
          is = sym (some-injective (piece_at i s ∷ more) xs (sym (walk_good top k i s eb ∙ ap (with_piece (piece_at i s)) eo) ∙ e));
          next = eo;
        })

-- a piece that lies in its block: its data is as long as it says
abbrev pub Lies : List ℕ → Piece → Type 0
Lies b x = (1 ≤ x.size) × (length (data_of b x) ≡ x.size)

-- and its code
abbrev pub LiesTo : ℕ → List ℕ → Piece → Type 0
LiesTo top b x = Lies b x × (x.third ≤ top)

-- the segments of the pieces, with words, are the rest of the block again
pub walk_back : (top : ℕ) → top ≤ 3 → (b : List ℕ) (k i : ℕ) (s : List ℕ) (xs : List Piece) → drop i b ≡ s → All Byte s → walk_from top k i s ≡ some xs
    → (spelled (map (segment_at b) xs) ≡ s) × All (LiesTo top b) xs
walk_back top high b zero i s xs d a e = absurd (none-ne-some xs e)
walk_back top high b (suc k) i s xs d a e =
    go (λ more f. walk_back top high b k (i + word_length s) (drop (word_length s) s) more (sym (drop-drop (word_length s) i b) ∙ ap (drop (word_length s)) d) (all_drop (word_length s) a) f)
    (step_of top k i s xs e)
  where
    go : ((more : List Piece) → walk_from top k (i + word_length s) (drop (word_length s) s) ≡ some more → (spelled (map (segment_at b) more) ≡ drop (word_length s) s) × All (LiesTo top b) more)
        → ((s ≡ []) × (xs ≡ [])) ⊎ Step top k i s xs → (spelled (map (segment_at b) xs) ≡ s) × All (LiesTo top b) xs
    go ih (inl x) = (ap (λ (z : List Piece). spelled (map (segment_at b) z)) x.1 ∙ sym x.0, subst (All (LiesTo top b)) (sym x.1) no_more)
    go ih (inr w) =
        let h = w.head in
        let l = h.least in
        let m = h.most in
        let t = get_or s 2 0 in
        let y = piece_at i s in
        let at : drop (i + 4) b ≡ drop 4 s = sym (drop-drop 4 i b) ∙ ap (drop 4) d in
        let inner : data_of b (piece_at i s) ≡ take (word_length s - 4) (drop 4 s) = ap (take (word_length s - 4)) at in
        let size : length (data_of b (piece_at i s)) ≡ word_length s - 4 = ap length inner ∙ length-take (word_length s - 4) (drop 4 s)
        ∙ (let z : min (word_length s - 4) (length (drop 4 s)) ≡ word_length s - 4 = omega (arith, length-drop 4 s) in z) in
        let word : coded_word (code (segment_at b y)) (length (part (segment_at b y)) + 4) ≡ take 4 s =
        ap₂ coded_word (code_of t (data_of b y) (let z : get_or s 2 0 ≤ 3 = omega (arith, h.third) in z))
        (ap (λ (z : List ℕ). length z + 4) (part_of t (data_of b y)) ∙ (let z : length (data_of b (piece_at i s)) + 4 ≡ word_length s = omega arith in z))
        ∙ coded_word_back s a (omega arith) h.fourth in
        let one : coded_word (code (segment_at b y)) (length (part (segment_at b y)) + 4) ++ part (segment_at b y) ≡ take (word_length s) s =
        ap₂ ◌++◌ word (part_of t (data_of b y) ∙ inner) ∙ sym (take-add 4 (word_length s - 4) s) ∙ ap (λ (z : ℕ). take z s) (let z : 4 + (word_length s - 4) ≡ word_length s = omega arith in z) in
        let rest = ih w.more w.next in
        let low : 1 ≤ word_length s - 4 = omega arith in (
          ap (λ (z : List Piece). spelled (map (segment_at b) z)) w.is ∙ ap₂ ◌++◌ one rest.0 ∙ take-append-drop (word_length s) s,
          subst (All (LiesTo top b)) (sym w.is) (also ((low, size), h.third) rest.1),
        )

-- where the segments of a block stand, from place i on
abbrev pub places_of : ℕ → List Segment → List Piece
places_of i [] = []
places_of i (s ∷ ss) = record { place = i + 4; size = length (part s); third = code s } ∷ places_of (i + (length (part s) + 4)) ss

-- a segment with data, whose code is at most top
abbrev pub SegmentTo : ℕ → Segment → Type 0
SegmentTo top s = (code s ≤ top) × (1 ≤ length (part s))

-- segments that are written with their words are found
pub walk_to : (top k i : ℕ) {ss : List Segment} → All (SegmentTo top) ss → length (spelled ss) < 65536 → length ss < k
    → walk_from top k i (spelled ss) ≡ some (places_of i ss)
walk_to top zero i a l m = absurd (omega arith)
walk_to top (suc k) i no_more l m = refl
walk_to top (suc k) i (also {x = s} {xs = ss} h a) l m =
    let c = code s in
    let r = part s in
    let n = length (part s) + 4 in
    let t = spelled (s ∷ ss) in
    let q : spelled (s ∷ ss) ≡ coded_word (code s) (length (part s) + 4) ++ (part s ++ spelled ss) = append_assoc (coded_word c n) r (spelled ss) in
    let f = length_spelled s ss in
    let g = length-append r (spelled ss) in
    let says : word_length (spelled (s ∷ ss)) ≡ length (part s) + 4 = ap word_length q ∙ coded_word_says c n (r ++ spelled ss) (omega arith) in
    let good : headed_to top 5 (spelled (s ∷ ss)) ≡ true = ap (headed_to top 5) q ∙ coded_word_heads top 5 c n (r ++ spelled ss) h.0 (omega (arith, h.1)) (omega arith) (omega arith) in
    let third : get_or (spelled (s ∷ ss)) 2 0 ≡ code s = ap (λ (z : List ℕ). get_or z 2 0) q ∙ coded_word_third c n (r ++ spelled ss) in
    let small : word_length (spelled (s ∷ ss)) - 4 ≡ length (part s) = omega arith in
    let piece : piece_at i t ≡ record { place = i + 4; size = length (part s); third = code s } = λ j. record { place = i + 4; size = small j; third = third j } in
    let past : drop (word_length (spelled (s ∷ ss))) (spelled (s ∷ ss)) ≡ spelled ss =
    ap (λ (z : ℕ). drop z t) says ∙ drop_at (coded_word c n ++ r) (spelled ss) n (length-append (coded_word c n) r ∙ (let z : length (coded_word c n) + length r ≡ n = omega (arith, coded_word_four c n) in z)) in
    walk_good top k i t good
    ∙ ap₂ with_piece piece (ap₂ (walk_from top k) (ap (i +◌) says) past ∙ walk_to top k (i + (length (part s) + 4)) a (omega arith) (omega arith))

-- and they are the segments
pub segments_back : (b : List ℕ) (i : ℕ) (ss : List Segment) → drop i b ≡ spelled ss → map (segment_at b) (places_of i ss) ≡ ss
segments_back b i [] d = refl
segments_back b i (s ∷ ss) d =
    let c = code s in
    let r = part s in
    let n = length (part s) + 4 in
    let q : spelled (s ∷ ss) ≡ coded_word (code s) (length (part s) + 4) ++ (part s ++ spelled ss) = append_assoc (coded_word c n) r (spelled ss) in
    let here : drop (i + 4) b ≡ part s ++ spelled ss = sym (drop-drop 4 i b) ∙ ap (drop 4) (d ∙ q) ∙ drop_at (coded_word c n) (r ++ spelled ss) 4 (coded_word_four c n) in
    let next : drop (i + (length (part s) + 4)) b ≡ spelled ss =
    sym (drop-drop n i b) ∙ ap (drop n) d
    ∙ drop_at (coded_word c n ++ r) (spelled ss) n (length-append (coded_word c n) r ∙ (let z : length (coded_word c n) + length r ≡ n = omega (arith, coded_word_four c n) in z)) in
    ap₂ ◌∷◌ (ap (segment_of c) (ap (take (length r)) here ∙ take_at r (spelled ss) (length r) refl) ∙ segment_of_lem s) (segments_back b (i + (length (part s) + 4)) ss next)

pub count_spelled : (ss : List Segment) → length ss ≤ length (spelled ss)
count_spelled [] = omega arith
count_spelled (s ∷ ss) = omega (arith, length_spelled s ss, count_spelled ss)
