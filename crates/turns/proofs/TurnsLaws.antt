-- The segments of a block counted one after the other: each turn of the walk leaves the counts of the rules as they are, since of an open record only its
-- length is asked.
use mathlib.Core.Path.{◌≡◌, refl, ap, ap₂, sym, ◌∙◌, subst}
use mathlib.Core.Bool.{Bool, true, false, cond, not, ◌&&◌, beq, true≢false, false≢true}
use mathlib.Core.List.{List, [], ◌++◌, map}
use mathlib.Core.Option.{Option, none, some}
use Prim.Native.Nat.{ℕ, zero, suc, ◌+◌, ◌-◌, ◌%◌, ◌≤◌, ◌<◌}
use native.Mathlib.Omega.{arith}
use lib.Dec.{ltb, leb, eqb}
use lib.ListN.{length, drop, get_or, length-append, length-take, length-drop, length-replicate, drop_of_length-le}
use borrow.Author.Tests.{leb-true, leb-false, le-leb, lt-leb, eq-eqb, ne_eqb}
use Rattle.rules.specs.Grammar.{fv}
use Rattle.rules.specs.Blocks.{Piece, word_length, headed, headed_to, data_of, walk_from}
use Rattle.rules.specs.ReelPlaces.{piece_at, good_start}
use Rattle.rules.specs.Spanned.{Segment, segment_at, segments_of, segments_in, is_closed, sofar, same, State, with_record, in_turn, join_in}
use Rattle.rules.proofs.Base.Tests.{and_left, and_right}
use Rattle.rules.proofs.Blocks.CodedWords.{headed_to_exactly}
use Rattle.rules.proofs.Spanned.SpannedSteps.{walk_at, join_at, in_turn_count, join_start, join_end, join_bad, join_good}
use Rattle.rules.proofs.Spanned.SpannedCounts.{counted, Alike, counted_alike}
use Rattle.std.specs.Prelude.{Some, None, Ok}
use Rattle.pieces.specs.Pieces.{piece_of, bad, variable_start, worded_in}
use Rattle.pieces.specs.declared.Cursor.{Cursor}
use Rattle.pieces.specs.declared.FoundPiece.{FoundPiece}
use Rattle.pieces.proofs.PiecesLaws.{worded_told, worded_untold, worded_further, further, start_told, start_untold}
use Rattle.turns.specs.declared.Counts.{Counts}
use Rattle.turns.specs.Turns.{TurnsRead, held_of, in_turn_of, counts_taken, turned, told_by, Walked, Ruled}

-- ---- what is open, as a number

pub held_closed : (n : ℕ) → is_closed (held_of n) ≡ eqb n 0
held_closed zero = refl
held_closed (suc n) = sym (ne_eqb (suc n) 0 (λ e. omega arith))

pub held_length : (n : ℕ) → length (sofar (held_of n)) ≡ n
held_length zero = refl
held_length (suc n) = length-replicate (suc n) 0

held_turn : (n code : ℕ) (d : List ℕ) → in_turn (held_of n) (ltb code 2) d ≡ in_turn_of n code (length d)
unfolding in_turn_of
held_turn n code d = in_turn_count (held_of n) (ltb code 2) d ∙ rw (held_closed n, held_length n)

-- a record that goes on is as long as it was and its segment
held_more : (n : ℕ) (d : List ℕ) → 1 ≤ length d → Alike (some (sofar (held_of n) ++ d)) (held_of (n + length d))
held_more n d l = (
  sym (held_closed (n + length d) ∙ ne_eqb (n + length d) 0 (λ e. omega arith)),
  length-append (sofar (held_of n)) d ∙ ap (λ (k : ℕ). k + length d) (held_length n) ∙ sym (held_length (n + length d)),
)

-- ---- only the counts are told

counts_by : ℕ → Option (ℕ × Bool × ℕ) → Option (ℕ × Bool × ℕ)
counts_by k none = none
counts_by k (some z) = some (k + z.0, z.1, z.2)

turned_by : (k : ℕ) (o : Option State) → turned k o ≡ counts_by k (counted o)
unfolding counts_by
turned_by k none = refl
turned_by k (some x) = refl

turned_alike : (k : ℕ) (now other : Option (List ℕ)) (b : List ℕ) (i : ℕ) → Alike now other → turned k (join_at now b i) ≡ turned k (join_at other b i)
unfolding join_at
turned_alike k now other b i w = turned_by k (join_at now b i) ∙ ap (counts_by k) (go (walk_at 3 b i) refl) ∙ sym (turned_by k (join_at other b i))
  where
    go : (o : Option (List Piece)) → walk_at 3 b i ≡ o → counted (join_at now b i) ≡ counted (join_at other b i)
    go none e = rw e
    go (some xs) e = rw e (counted_alike (map (segment_at b) xs) now other w)

turned_ended : (k : ℕ) (r : List ℕ) (o : Option State) → turned k (with_record r o) ≡ turned (k + 1) o
turned_ended k r none = refl
turned_ended k r (some x) =
    ap (λ (n : ℕ). some (n, is_closed x.1, length (sofar x.1))) (let z : k + suc (length x.0) ≡ k + 1 + length x.0 = omega arith in z)

-- ---- one segment

module _ (b : List ℕ) (i : ℕ) (h : headed_to 3 5 (drop i b) ≡ true) where
  abbrev code : ℕ
  code = get_or (drop i b) 2 0

  abbrev size : ℕ
  size = word_length (drop i b) - 4

  abbrev bytes : List ℕ
  bytes = data_of b (piece_at i (drop i b))

  size_data : (length bytes ≡ size) × (1 ≤ size)
  size_data =
      let w = (headed_to_exactly 3 5 (drop i b)).0 h in
      omega (arith, w.least, w.most, length-take size (drop (i + 4) b), length-drop (i + 4) b, length-drop i b)

  turned_out : (c : Counts) → in_turn_of c.held code size ≡ false → turned c.records (join_at (held_of c.held) b i) ≡ none
  turned_out c e =
      let t : in_turn (held_of c.held) (ltb code 2) bytes ≡ false = held_turn c.held code bytes ∙ ap (in_turn_of c.held code) size_data.0 ∙ e in
      ap (turned c.records) (join_good (held_of c.held) b i h) ∙ rw t

  turned_in : (c : Counts) → in_turn_of c.held code size ≡ true
      → turned c.records (join_at (held_of c.held) b i)
      ≡ turned (counts_taken c code size).records (join_at (held_of (counts_taken c code size).held) b (i + word_length (drop i b)))
  unfolding counts_taken
  turned_in c e =
      let t : in_turn (held_of c.held) (ltb code 2) bytes ≡ true = held_turn c.held code bytes ∙ ap (in_turn_of c.held code) size_data.0 ∙ e in
      ap (turned c.records) (join_good (held_of c.held) b i h) ∙ rw t (go (eqb (code % 2) 0) refl)
    where
      go : (t : Bool) → eqb (code % 2) 0 ≡ t
          → turned c.records (cond (eqb (code % 2) 0) (with_record (sofar (held_of c.held) ++ bytes) (join_at none b (i + word_length (drop i b)))) (join_at (some (sofar (held_of c.held) ++ bytes)) b (i + word_length (drop i b))))
          ≡ turned (counts_taken c code size).records (join_at (held_of (counts_taken c code size).held) b (i + word_length (drop i b)))
      go true t = rw t (turned_ended c.records (sofar (held_of c.held) ++ bytes) (join_at none b (i + word_length (drop i b))))
      go false t =
          rw t
          (turned_alike c.records (some (sofar (held_of c.held) ++ bytes)) (held_of (c.held + length bytes)) b (i + word_length (drop i b))
          (held_more c.held bytes (omega (arith, size_data)))
          ∙ ap (λ (n : ℕ). turned c.records (join_at (held_of (c.held + n)) b (i + word_length (drop i b)))) size_data.0)

-- ---- the test of a segment

pub turn_wrong : (held code size : ℕ) → not (beq (ltb code 2) (eqb held 0)) ≡ true → false ≡ in_turn_of held code size
unfolding in_turn_of
turn_wrong held code size e = go (ltb code 2) (eqb held 0) e
  where
    go : (b c : Bool) → not (beq b c) ≡ true → false ≡ (same b c && leb (held + size) 32752)
    go true true q = absurd (false≢true q)
    go true false q = refl
    go false true q = refl
    go false false q = absurd (false≢true q)

pub turn_right : (held code size : ℕ) → held ≤ 32752 → not (beq (ltb code 2) (eqb held 0)) ≡ false → leb size (32752 - held) ≡ in_turn_of held code size
unfolding in_turn_of
turn_right held code size l e = fits (leb size (32752 - held)) refl ∙ go (ltb code 2) (eqb held 0) e
  where
    fits : (t : Bool) → leb size (32752 - held) ≡ t → leb size (32752 - held) ≡ leb (held + size) 32752
    fits true t = let h = leb-true size (32752 - held) t in t ∙ sym (le-leb (held + size) 32752 (omega arith))
    fits false t = let h = leb-false size (32752 - held) t in t ∙ sym (lt-leb (held + size) 32752 (omega arith))

    go : (b c : Bool) → not (beq b c) ≡ false → leb (held + size) 32752 ≡ (same b c && leb (held + size) 32752)
    go true true q = refl
    go true false q = absurd (true≢false q)
    go false true q = absurd (true≢false q)
    go false false q = refl

-- ---- the counts behind a segment

pub taken_even : (c : Counts) (code size : ℕ) → code % 2 ≡ 0 → record { records = c.records + 1; held = 0 } ≡ counts_taken c code size
unfolding counts_taken
taken_even c code size e = rw (eq-eqb (code % 2) 0 e)

pub taken_odd : (c : Counts) (code size : ℕ) → (code % 2 ≡ 0 → ⊥) → record { records = c.records; held = c.held + size } ≡ counts_taken c code size
unfolding counts_taken
taken_odd c code size f = rw (ne_eqb (code % 2) 0 f)

taken_few : (c : Counts) (code size : ℕ) → (counts_taken c code size).records ≤ c.records + 1
unfolding counts_taken
taken_few c code size = go (eqb (code % 2) 0) refl
  where
    go : (t : Bool) → eqb (code % 2) 0 ≡ t → (counts_taken c code size).records ≤ c.records + 1
    go true t = rw t (omega arith)
    go false t = rw t (omega arith)

taken_low : (c : Counts) (code size : ℕ) → c.held + size ≤ 32752 → (counts_taken c code size).held ≤ 32752
unfolding counts_taken
taken_low c code size l = go (eqb (code % 2) 0) refl
  where
    go : (t : Bool) → eqb (code % 2) 0 ≡ t → (counts_taken c code size).held ≤ 32752
    go true t = rw t (omega arith)
    go false t = rw t l

pub in_turn_most : (held code size : ℕ) → in_turn_of held code size ≡ true → held + size ≤ 32752
unfolding in_turn_of
in_turn_most held code size e = leb-true (held + size) 32752 (and_right (same (ltb code 2) (eqb held 0)) (leb (held + size) 32752) e)

-- ---- the walk over the segments, which holds a place and the counts before it

pub record Going (b : List ℕ) (from : ℕ) (before counts : Counts) (i : ℕ) : Type 0 where
  pub inside : i ≤ length b
  pub few : counts.records ≤ before.records + i
  pub low : counts.held ≤ 32752
  pub same : turned before.records (join_at (held_of before.held) b from) ≡ turned counts.records (join_at (held_of counts.held) b i)

pub going_start : (b : List ℕ) (from : ℕ) (before : Counts) → from ≤ length b → before.held ≤ 32752 → Going b from before before from
going_start b from before l h = record { inside = l; few = omega arith; low = h; same = refl }

module _ {b : List ℕ} {from : ℕ} {before counts : Counts} {i : ℕ} (w : Going b from before counts i) where
  ended_here : turned counts.records (some ([], held_of counts.held)) ≡ told_by (Some counts)
  ended_here =
      rw (held_closed counts.held, held_length counts.held)
      (ap (λ (n : ℕ). some (n, eqb counts.held 0, counts.held)) (let z : counts.records + 0 ≡ counts.records = omega arith in z))

  pub going_end : worded_in 3 b i ≡ Ok None → Walked before b from (Some counts)
  going_end e =
      let l : length b ≤ i = subst (further i (length b)) e (worded_further 3 b i) in
      record {
        is = sym (w.same ∙ ap (turned counts.records) (join_end (held_of counts.held) b i l) ∙ ended_here);
        few = omega (arith, w.few, w.inside);
        low = w.low;
      }

  pub going_bad : worded_in 3 b i ≡ bad → Walked before b from None
  going_bad e =
      let u = worded_untold 3 b i e in
      record {
        is = sym (w.same ∙ ap (turned counts.records) (join_bad (held_of counts.held) b i u.0 u.1));
        few = omega arith;
        low = omega arith;
      }

  module _ (x : FoundPiece) (e : worded_in 3 b i ≡ Ok (Some x)) where
    -- what is read: the data's length, the code and the place behind
    told : (i < length b) × (headed_to 3 5 (drop i b) ≡ true) × (piece_of (piece_at i (drop i b)) ≡ x)
    told = worded_told 3 b i x e

    size_told : word_length (drop i b) - 4 ≡ x.length
    size_told = ap (λ (y : FoundPiece). y.length) told.2

    code_told : get_or (drop i b) 2 0 ≡ x.third
    code_told = ap (λ (y : FoundPiece). y.third) told.2

    next_told : i + 4 + (word_length (drop i b) - 4) ≡ x.next.at
    next_told = ap (λ (y : FoundPiece). y.next.at) told.2

    behind_told : i + word_length (drop i b) ≡ x.next.at
    behind_told = omega (arith, next_told, ((headed_to_exactly 3 5 (drop i b)).0 told.1).least)

    pub going_inside : (i < x.next.at) × (x.next.at ≤ length b)
    going_inside = let f : further i (length b) (Ok (Some x)) = subst (further i (length b)) e (worded_further 3 b i) in (f.2, f.3)

    pub going_out : in_turn_of counts.held x.third x.length ≡ false → Walked before b from None
    going_out t =
        record {
          is = sym (w.same ∙ turned_out b i told.1 counts (ap₂ (in_turn_of counts.held) code_told size_told ∙ t));
          few = omega arith;
          low = omega arith;
        }

    pub going_step : in_turn_of counts.held x.third x.length ≡ true → (after : Counts) → after ≡ counts_taken counts x.third x.length → Going b from before after x.next.at
    going_step t after a =
        subst (λ (y : Counts). Going b from before y x.next.at) (sym a)
        (record {
          inside = going_inside.1;
          few = omega (arith, taken_few counts x.third x.length, w.few, going_inside);
          low = taken_low counts x.third x.length (in_turn_most counts.held x.third x.length t);
          same = w.same
              ∙ turned_in b i told.1 counts (ap₂ (in_turn_of counts.held) code_told size_told ∙ t)
              ∙ ap₂ (λ (c n : ℕ). turned (counts_taken counts c n).records (join_at (held_of (counts_taken counts c n).held) b (i + word_length (drop i b)))) code_told size_told
              ∙ ap (λ (n : ℕ). turned (counts_taken counts x.third x.length).records (join_at (held_of (counts_taken counts x.third x.length).held) b n)) behind_told;
        })

-- ---- the ways in which a block breaks its rule before its segments are looked at

no_segments : (before : Counts) (g : ℕ) (b : List ℕ) → segments_in g b ≡ none → Ruled g before b None
no_segments before g b e = record { is = sym (ap (λ (o : Option (List Segment)). turned before.records (join_in (held_of before.held) o)) e); few = omega arith; low = omega arith }

long_block : (g : ℕ) (b : List ℕ) → g < length b → segments_in g b ≡ none
unfolding segments_in
long_block g b l = go (cond (headed 4 b && eqb (word_length b) (length b)) (walk_from 3 (suc (length b)) 4 (drop 4 b)) none)
  where
    go : (o : Option (List Piece)) → segments_of g b o ≡ none
    go none = refl
    go (some xs) = rw (lt-leb (length b) g l)

bad_start : (g : ℕ) (b : List ℕ) → good_start fv b ≡ false → segments_in g b ≡ none
unfolding segments_in
bad_start g b e = rw e

-- no byte is left for a segment
short_block : (g : ℕ) (b : List ℕ) → length b < 5 → segments_in g b ≡ none
unfolding segments_in
short_block g b l = rw (drop_of_length-le b {i = 4} (omega arith)) (go (headed 4 b && eqb (word_length b) (length b)) (leb (length b) g) refl)
  where
    go : (t u : Bool) → leb (length b) g ≡ u → segments_of g b (cond t (walk_from 3 (suc (length b)) 4 []) none) ≡ none
    go true true e = rw e
    go true false e = rw e
    go false u e = refl

pub rule_long : (before : Counts) (g : ℕ) (b : List ℕ) → g < length b → Ruled g before b None
rule_long before g b l = no_segments before g b (long_block g b l)

pub rule_short : (before : Counts) (g : ℕ) (b : List ℕ) → length b < 5 → Ruled g before b None
rule_short before g b l = no_segments before g b (short_block g b l)

pub rule_start : (before : Counts) (g : ℕ) (b : List ℕ) → variable_start b ≡ None → Ruled g before b None
rule_start before g b e = no_segments before g b (bad_start g b (start_untold b e))

pub start_inside : (b : List ℕ) (c : Cursor) → variable_start b ≡ Some c → 5 ≤ length b → c.at ≤ length b
start_inside b c e l = omega (arith, (start_told b c e).1)

-- the segments decide
pub rule_walked : (before : Counts) (g : ℕ) (b : List ℕ) (c : Cursor) (r : TurnsRead) → variable_start b ≡ Some c → length b ≤ g → 5 ≤ length b
    → Walked before b c.at r → Ruled g before b r
rule_walked before g b c r e m l w =
    let s = start_told b c e in
    let j = join_start g (held_of before.held) b (and_left (headed 4 b) _ s.0) (and_right (headed 4 b) _ s.0) (le-leb (length b) g m) l in
    record { is = w.is ∙ ap (turned before.records) (ap (join_at (held_of before.held) b) s.1 ∙ sym j); few = w.few; low = w.low }
