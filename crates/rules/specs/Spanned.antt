-- Document 02, order 6: spanned records. A block of FS is FV's with segments in place of records: the third byte of a segment's word says
-- whether it begins and ends its record. Here are the segments of a block, the records of the segments of all blocks (refusal 12), and the filling.
use Rattle.std.specs.Prelude.{◌≡◌, Bool, true, false, cond, not, ◌&&◌, List, [], ◌∷◌, ◌++◌, map, ℕ, zero, suc, ◌+◌, ◌-◌, ◌/◌, ◌%◌, ◌≤◌, ◌<◌, ltb, leb, eqb, length, take, drop}
use Rattle.std.proofs.Math.Option.{Option, none, some}
use Rattle.rules.specs.Base.{is_empty, joined}
use Rattle.rules.specs.Answer.{Answer, fine, refused, ◌>>=◌}
use Rattle.rules.specs.Places.{All, Both}
use Rattle.rules.specs.Blocks.{Piece, word_length, headed, walk_from, data_of}
use Rattle.rules.specs.Output.{length_word}

-- ---- segments

-- it begins its record or not, it ends its record or not, and its data
pub data Segment : Type 0 where
  segment : Bool → Bool → List ℕ → Segment

abbrev pub begins : Segment → Bool
begins (segment b e d) = b

abbrev pub ends : Segment → Bool
ends (segment b e d) = e

abbrev pub part : Segment → List ℕ
part (segment b e d) = d

-- a whole record, a first segment, a last one, a middle one
abbrev pub code_of : Bool → Bool → ℕ
code_of true true = 0
code_of true false = 1
code_of false true = 2
code_of false false = 3

abbrev pub code : Segment → ℕ
code (segment b e d) = code_of b e

-- codes 0 and 1 begin a record, 0 and 2 end one
unfoldable pub segment_of : ℕ → List ℕ → Segment
segment_of c d = segment (ltb c 2) (eqb (c % 2) 0) d

-- ---- the block of some segments, and the segments of a block

-- a word of FS: a length in 2 bytes, the code, and a zero byte
unfoldable pub coded_word : ℕ → ℕ → List ℕ
coded_word c n = (n / 256) ∷ (n % 256) ∷ c ∷ 0 ∷ []

abbrev pub spelled : List Segment → List ℕ
spelled [] = []
spelled (s ∷ ss) = coded_word (code s) (length (part s) + 4) ++ part s ++ spelled ss

unfoldable pub span_of : List Segment → List ℕ
span_of ss = length_word (length (spelled ss) + 4) ++ spelled ss

abbrev pub segment_at : List ℕ → Piece → Segment
segment_at b x = segment_of x.third (data_of b x)

abbrev pub segments_of : ℕ → List ℕ → Option (List Piece) → Option (List Segment)
segments_of g b none = none
segments_of g b (some xs) = cond (leb (length b) g && not (is_empty xs)) (some (map (segment_at b) xs)) none

-- at most g bytes; the block's length and 2 zero bytes, then its segments, one or more
unfoldable pub segments_in : ℕ → List ℕ → Option (List Segment)
segments_in g b = segments_of g b (cond (headed 4 b && eqb (word_length b) (length b)) (walk_from 3 (suc (length b)) 4 (drop 4 b)) none)

-- ---- the records of the segments

-- no record is open, or one with so much data
abbrev pub is_closed : Option (List ℕ) → Bool
is_closed none = true
is_closed (some c) = false

abbrev pub sofar : Option (List ℕ) → List ℕ
sofar none = []
sofar (some c) = c

abbrev pub same : Bool → Bool → Bool
same true b = b
same false b = not b

-- records that ended, and what is open then
abbrev pub State : Type 0
State = List (List ℕ) × Option (List ℕ)

abbrev pub with_record : List ℕ → Option State → Option State
with_record r none = none
with_record r (some x) = some (r ∷ x.0, x.1)

-- in turn: it begins a record exactly where none is open; and its record's data is at most 32,752 bytes
unfoldable pub in_turn : Option (List ℕ) → Bool → List ℕ → Bool
in_turn now b d = same b (is_closed now) && leb (length (sofar now ++ d)) 32752

abbrev pub join_from : Option (List ℕ) → List Segment → Option State
join_from now [] = some ([], now)
join_from now (segment b e d ∷ ss) =
    let ended = with_record (sofar now ++ d) (join_from none ss) in
    let goes = join_from (some (sofar now ++ d)) ss in
    cond (in_turn now b d) (cond e ended goes) none

-- one block behind what is open
abbrev pub join_in : Option (List ℕ) → Option (List Segment) → Option State
join_in now none = none
join_in now (some ss) = join_from now ss

-- refusal 12: for each block, from block i on, the records that end in it; a record that is unfinished at the end is refused at the last block
abbrev pub finish : ℕ → Option (List ℕ) → Answer (List (List (List ℕ)))
finish i none = fine []
finish i (some c) = refused 12 (i - 1)

abbrev pub onward : ℕ → Option State → (Option (List ℕ) → Answer (List (List (List ℕ)))) → Answer (List (List (List ℕ)))
onward i none later = refused 12 i
onward i (some x) later = later x.1 >>= λ more. fine (x.0 ∷ more)

abbrev pub spanned_from : ℕ → ℕ → Option (List ℕ) → List (List ℕ) → Answer (List (List (List ℕ)))
spanned_from g i now [] = finish i now
spanned_from g i now (b ∷ bs) = onward i (join_in now (segments_in g b)) (λ after. spanned_from g (suc i) after bs)

-- ---- filling blocks of at most g bytes

module _ (g : ℕ) where
  -- a new block starts when fewer than 5 bytes are left
  unfoldable pub room_of : ℕ → ℕ
  room_of left = cond (leb 5 left) left (g - 4)

  abbrev pub Parts : Type 0
  Parts = List Segment × List (List Segment)

  abbrev pub started : Bool → Parts → Parts
  started true x = x
  started false x = ([], x.0 ∷ x.1)

  -- what goes into the open block, which has so many bytes left, and the blocks behind it; the first record is begun or not
  -- (each segment takes a byte or more, so that one step for each byte, and one, are enough)
  abbrev pub fill_from : ℕ → ℕ → Bool → List (List ℕ) → Parts
  fill_from zero left fresh rs = ([], [])
  fill_from (suc k) left fresh [] = ([], [])
  fill_from (suc k) left fresh (r ∷ rs) =
      let rest = fill_from k (room_of left - (length r + 4)) true rs in
      let next = fill_from k (g - 4) false (drop (room_of left - 4) r ∷ rs) in
      started (leb 5 left)
      (cond (leb (length r + 4) (room_of left))
      (segment fresh true r ∷ rest.0, rest.1)
      (segment fresh false (take (room_of left - 4) r) ∷ [], next.0 ∷ next.1))

  -- at first no block is open: nothing is left of it
  unfoldable pub segmented : List (List ℕ) → List (List Segment)
  segmented rs = (fill_from (suc (length (joined rs))) 0 true rs).1

-- ---- in words

-- segments make records: no record is open (true), or the first record is, and this is what is missing of it
pub data Joined : Bool → List Segment → List (List ℕ) → Type 0 where
  no_segment : Joined true [] []
  ending : {fresh : Bool} {d : List ℕ} {ss : List Segment} {rs : List (List ℕ)} → Joined true ss rs → Joined fresh (segment fresh true d ∷ ss) (d ∷ rs)
  going : {fresh : Bool} {d : List ℕ} {ss : List Segment} {r : List ℕ} {rs : List (List ℕ)}
      → Joined false ss (r ∷ rs) → Joined fresh (segment fresh false d ∷ ss) ((d ++ r) ∷ rs)

-- the blocks are filled: so many bytes are left for the segments of the open block, and others follow
pub data Fills (g : ℕ) : ℕ → List Segment → List (List Segment) → Type 0 where
  at_end : {left : ℕ} → Fills g left [] []
  -- a new block starts when fewer than 5 bytes are left
  new_block : {left : ℕ} {b : List Segment} {bs : List (List Segment)} → left < 5 → 1 ≤ length b → Fills g (g - 4) b bs → Fills g left [] (b ∷ bs)
  -- a segment has data, and takes all that is left unless it ends its record
  takes : {left : ℕ} {s : Segment} {b : List Segment} {bs : List (List Segment)} → 1 ≤ length (part s) → length (part s) + 4 ≤ left
      → (ends s ≡ false → length (part s) + 4 ≡ left) → Fills g (left - (length (part s) + 4)) b bs → Fills g left (s ∷ b) bs

-- these blocks of segments are the filling of the records
pub record Spanned (g : ℕ) (bs : List (List Segment)) (rs : List (List ℕ)) : Type 0 where
  pub joins : Joined true (joined bs) rs
  pub fills : Fills g 0 [] bs

-- a block obeys the rule of FS: it is the block of some segments
pub record SpanIs (g : ℕ) (b : List ℕ) (ss : List Segment) : Type 0 where
  pub is : b ≡ span_of ss
  pub some : ss ≡ [] → ⊥
  pub parts : All (λ s. 1 ≤ length (part s)) ss
  pub most : length b ≤ g

-- blocks hold records: they are blocks of segments, which make the records, each of at most 32,752 bytes
pub record Spans (g : ℕ) (bs : List (List ℕ)) (rs : List (List ℕ)) : Type 0 where
  pub segments : List (List Segment)
  pub blocks : Both (SpanIs g) bs segments
  pub joins : Joined true (joined segments) rs
  pub most : All (λ r. length r ≤ 32752) rs

-- segments in turn: what is open before and after them, and the records that end in them. A segment begins a record exactly where none is open,
-- and takes no record past 32,752 bytes
pub data Turns : Option (List ℕ) → List Segment → List (List ℕ) → Option (List ℕ) → Type 0 where
  no_turn : {now : Option (List ℕ)} → Turns now [] [] now
  end_turn : {now after : Option (List ℕ)} {b : Bool} {d : List ℕ} {ss : List Segment} {rs : List (List ℕ)} → b ≡ is_closed now → length (sofar now ++ d) ≤ 32752
      → Turns none ss rs after → Turns now (segment b true d ∷ ss) ((sofar now ++ d) ∷ rs) after
  go_turn : {now after : Option (List ℕ)} {b : Bool} {d : List ℕ} {ss : List Segment} {rs : List (List ℕ)} → b ≡ is_closed now → length (sofar now ++ d) ≤ 32752
      → Turns (some (sofar now ++ d)) ss rs after → Turns now (segment b false d ∷ ss) rs after

-- the blocks are blocks of segments in turn
pub record InTurn (g : ℕ) (now : Option (List ℕ)) (bs : List (List ℕ)) (after : Option (List ℕ)) : Type 0 where
  pub segments : List (List Segment)
  pub blocks : Both (SpanIs g) bs segments
  pub ended : List (List ℕ)
  pub turns : Turns now (joined segments) ended after

-- block p breaks the rule: up to it the blocks are not blocks of segments in turn; or it is the last and a record is unfinished
pub record BadSpan (g : ℕ) (blocks : List (List ℕ)) (p : ℕ) : Type 0 where
  pub before : List (List ℕ)
  pub block : List ℕ
  pub rest : List (List ℕ)
  pub split : blocks ≡ before ++ (block ∷ rest)
  pub place : p ≡ 1 + length before
  pub breaks : (after : Option (List ℕ)) → InTurn g none (before ++ (block ∷ [])) after → (rest ≡ [] → after ≡ none) → ⊥
