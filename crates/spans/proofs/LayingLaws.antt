-- Segments that are laid one after the other: what a cut puts goes behind those of its block, or opens the next, and what is laid at last is the filling. By what a cut
-- takes, by the laws of the filling, and by those of blocks that are laid.
use mathlib.Core.Path.{◌≡◌, refl, ap, ap₂, sym, ◌∙◌, subst, subst₂}
use mathlib.Core.Bool.{Bool, true, false}
use mathlib.Core.List.{List, [], ◌∷◌, ◌++◌, map}
use Prim.Native.Nat.{ℕ, zero, suc, ◌+◌, ◌-◌, ◌*◌, ◌≤◌, ◌<◌}
use native.Mathlib.Omega.{arith}
use lib.Dec.{ltb, eqb}
use borrow.Author.Tests.{ltb-true, ltb-false, eq-eqb, ne_eqb}
use lib.ListN.{length, take, drop, length-append, length-drop}
use lib.Seq.{length-take-le, take_all}
use Rattle.rules.specs.Base.{joined}
use Rattle.rules.specs.Halves.{over}
use Rattle.rules.specs.Places.{All, also}
use Rattle.rules.specs.Output.{length_word}
use Rattle.rules.specs.Reel.{word, offset_words}
use Rattle.rules.specs.Spanned.{Segment, segment, part, code, code_of, coded_word, spelled, span_of, segmented}
use Rattle.rules.proofs.Blocks.BlockWords.{length_word_four}
use Rattle.rules.proofs.Blocks.CodedWords.{coded_word_four}
use Rattle.rules.proofs.Spanned.SpannedSteps.{Written, written_start, written_new, written_all, written_part, written_end}
use Rattle.rules.proofs.Spanned.SpannedMeasure.{spelled_more}
use Rattle.fillings.specs.declared.Tally.{Tally}
use Rattle.fillings.specs.Offsets.{offset_put}
use Rattle.fillings.proofs.OffsetLaws.{offset_opens, offset_stays}
use Rattle.fillings.proofs.LaidLaws.{Framing, bytes_by, length_more, laid, laid_nothing, laid_length, laid_ends, laid_opens, laid_behind}
use Rattle.cuts.specs.declared.CutTaken.{CutTaken}
use Rattle.cuts.specs.Cutting.{BetweenSegments, full_of, opened_of, cut_of, tally_from}
use Rattle.spans.specs.Putting.{segment_put, put_from}
use Rattle.spans.proofs.PutLaws.{put_none, put_step}
use Rattle.cuts.proofs.CutLaws.{opened_new, opened_same, opened_is, cut_is, tally_none, tally_step, grown}

-- ---- a block is its word and its segments, each with its own

abbrev pub segment_piece : Segment → List ℕ
segment_piece s = coded_word (code s) (length (part s) + 4) ++ part s

pub length_piece : (s : Segment) → length (segment_piece s) ≡ length (part s) + 4
length_piece s = omega (arith, length-append (coded_word (code s) (length (part s) + 4)) (part s), coded_word_four (code s) (length (part s) + 4))

pub span_is : (ss : List Segment) → span_of ss ≡ length_word (4 + length (spelled ss)) ++ spelled ss
unfolding span_of
span_is ss = ap (λ (n : ℕ). length_word n ++ spelled ss) (let z : length (spelled ss) + 4 ≡ 4 + length (spelled ss) = omega arith in z)

abbrev pub spanning : Framing Segment
spanning =
    record {
      cost = 4;
      size_word = length_word;
      piece = segment_piece;
      body = spelled;
      block = span_of;
      long = length_word_four;
      nothing = refl;
      behind = spelled_more;
      is = span_is;
    }

-- ---- the blocks so far

-- those that are closed and the open one, without the one that stands before the first
abbrev pub so_far : List (List Segment) → List Segment → List (List Segment)
so_far closed here = drop 1 (closed ++ (here ∷ []))

so_many : (closed : List (List Segment)) (here : List Segment) → length (so_far closed here) ≡ length closed
so_many closed here = omega (arith, length-drop 1 (closed ++ (here ∷ [])), length-append closed (here ∷ []))

so_opens : (closed : List (List Segment)) (here more : List Segment) → so_far (closed ++ (here ∷ [])) more ≡ so_far closed here ++ (more ∷ [])
so_opens [] here more = refl
so_opens (c ∷ closed) here more = refl

module _ (m base : ℕ) (old : List ℕ) (rs : List (List ℕ)) where
  -- these blocks are laid, and the rest is the filling of what is pending; its first record is begun, or not
  pub record Laying (out : List ℕ) (t : Tally) (fresh : Bool) (pending : List (List ℕ)) : Type 0 where
    pub closed : List (List Segment)
    pub here : List Segment
    pub written : Written m rs closed here (m - t.size) fresh pending
    pub blocks : t.blocks ≡ length closed
    pub fair : BetweenSegments m t
    pub size : 1 ≤ t.blocks → t.size ≡ 4 + length (spelled here)
    pub bytes : t.bytes ≡ length (bytes_by spanning (so_far closed here))
    pub is : out ≡ laid spanning base old (so_far closed here)

  pub laying_start : 9 ≤ m → All (λ r. 1 ≤ length r) rs → Laying old (full_of m) true rs
  laying_start low a =
      record {
        closed = [];
        here = [];
        written = subst (λ (k : ℕ). Written m rs [] [] k true rs) (let z : 0 ≡ m - m = omega arith in z) (written_start m low a);
        blocks = refl;
        fair = record { word = omega arith; none = λ e. omega arith; last = λ l. absurd (omega arith) };
        size = λ l. absurd (omega arith);
        bytes = refl;
        is = laid_nothing spanning base old;
      }

  pub laying_length : {out : List ℕ} {t : Tally} {fresh : Bool} {pending : List (List ℕ)} → Laying out t fresh pending → 4 * t.blocks + 4 ≤ base → base + t.bytes ≤ length old
      → length out ≡ length old
  laying_length w front room =
      let many = so_many w.closed w.here in
      ap length w.is ∙ laid_length spanning base old (so_far w.closed w.here) (omega (arith, w.blocks)) (omega (arith, w.bytes))

  -- ---- a segment more

  module _ (t : Tally) (p : CutTaken) (first last : Bool) (d : List ℕ) (long : length d ≡ p.size) (front : 4 * p.tally.blocks + 4 ≤ base) (room : base + p.tally.bytes ≤ length old) where
    abbrev new : Segment
    new = segment first last d

    -- its word says its length
    put_is : (out : List ℕ) → segment_put base t p first last d out
        ≡ over (base + p.tally.bytes - p.size - 4) (segment_piece (segment first last d)) (over (base + p.tally.bytes - p.tally.size) (length_word p.tally.size) (offset_put base t p.tally out))
    unfolding segment_put
    put_is out =
        ap
        (λ (n : ℕ). over (base + p.tally.bytes - p.size - 4) (coded_word (code_of first last) (n + 4) ++ d)
        (over (base + p.tally.bytes - p.tally.size) (length_word p.tally.size) (offset_put base t p.tally out)))
        (sym long)

    put_opens : (closed : List (List Segment)) (here : List Segment) → t.blocks ≡ length closed → t.bytes ≡ length (bytes_by spanning (so_far closed here))
        → p.tally.blocks ≡ t.blocks + 1 → p.tally.size ≡ 4 + (p.size + 4) → p.tally.bytes ≡ t.bytes + 4 + (p.size + 4)
        → segment_put base t p first last d (laid spanning base old (so_far closed here)) ≡ laid spanning base old (so_far (closed ++ (here ∷ [])) (segment first last d ∷ []))
    put_opens closed here b e one size bytes =
        let bs = so_far closed here in
        let u = p.tally in
        let many = so_many closed here in
        let piece = length_piece new in
        put_is (laid spanning base old bs)
        ∙ ap (λ (x : List ℕ). over (base + u.bytes - p.size - 4) (segment_piece new) (over (base + u.bytes - u.size) (length_word u.size) x))
        (sym (offset_opens base t u (laid spanning base old bs) (omega arith)))
        ∙ laid_opens spanning base old bs (omega arith) (omega arith) new (omega arith)
        (omega (arith, length_more spanning bs (new ∷ []), length_piece new, length-append (segment_piece new) []))
        (4 * u.blocks) (base + t.bytes) (base + u.bytes - u.size) u.size (base + u.bytes - p.size - 4)
        (omega arith) (omega arith) (omega arith) (omega arith) (omega arith)
        ∙ ap (laid spanning base old) (sym (so_opens closed here (new ∷ [])))

    put_behind : (earlier : List (List Segment)) (here : List Segment) → t.blocks ≡ suc (length earlier) → t.bytes ≡ length (bytes_by spanning (earlier ++ (here ∷ [])))
        → t.size ≡ 4 + length (spelled here) → p.tally.blocks ≡ t.blocks → p.tally.size ≡ t.size + (p.size + 4) → p.tally.bytes ≡ t.bytes + (p.size + 4)
        → segment_put base t p first last d (laid spanning base old (earlier ++ (here ∷ []))) ≡ laid spanning base old (earlier ++ ((here ++ (segment first last d ∷ [])) ∷ []))
    put_behind earlier here b e s same size bytes =
        let u = p.tally in
        let now = earlier ++ (here ∷ []) in
        let piece = length_piece new in
        let sum = length_more spanning earlier here in
        put_is (laid spanning base old now)
        ∙ ap (λ (x : List ℕ). over (base + u.bytes - p.size - 4) (segment_piece new) (over (base + u.bytes - u.size) (length_word u.size) x))
        (sym (offset_stays base t u (laid spanning base old now) (omega arith)))
        ∙ laid_behind spanning base old earlier here (omega (arith, length-append earlier (here ∷ []))) new
        (omega (arith, length_more spanning earlier (here ++ (new ∷ [])), ap length (spelled_more here new), length-append (spelled here) (segment_piece new)))
        (base + u.bytes - u.size) u.size (base + u.bytes - p.size - 4)
        (omega arith) (omega arith) (omega arith)

  module _ (low : 9 ≤ m) (out : List ℕ) (t : Tally) (fresh : Bool) (r : List ℕ) (more : List (List ℕ)) (w : Laying out t fresh (r ∷ more))
      (front : 4 * (cut_of m t (length r)).tally.blocks + 4 ≤ base) (room : base + (cut_of m t (length r)).tally.bytes ≤ length old) where
    -- what a segment of the cut's size puts is laid, where the filling goes on behind it
    laying_put : (last : Bool) (d : List ℕ) → length d ≡ (cut_of m t (length r)).size → (next : Bool) (pending : List (List ℕ))
        → ((closed : List (List Segment)) (here : List Segment) → Written m rs closed here (m - (opened_of m t).size) fresh (r ∷ more)
        → Written m rs closed (here ++ (segment fresh last d ∷ [])) (m - (cut_of m t (length r)).tally.size) next pending)
        → Laying (segment_put base t (cut_of m t (length r)) fresh last d out) (cut_of m t (length r)).tally next pending
    laying_put last d long next pending goes = go (ltb (m - t.size) 5) refl
      where
        opens : m - t.size < 5 → Laying (segment_put base t (cut_of m t (length r)) fresh last d out) (cut_of m t (length r)).tally next pending
        opens l =
            let p = cut_of m t (length r) in
            let s = segment fresh last d in
            let c = cut_is m low t (length r) in
            let b = opened_new m t l in
            let many : (opened_of m t).blocks ≡ t.blocks + 1 = sym (ap (λ (x : Tally). x.blocks) b) in
            let size : (opened_of m t).size ≡ 4 = sym (ap (λ (x : Tally). x.size) b) in
            let bytes : (opened_of m t).bytes ≡ t.bytes + 4 = sym (ap (λ (x : Tally). x.bytes) b) in
            let closed = w.closed ++ (w.here ∷ []) in
            let all : length (bytes_by spanning (so_far closed (s ∷ []))) ≡ length (bytes_by spanning (so_far w.closed w.here)) + (4 + length (spelled (s ∷ [])))
            = ap (λ (x : List (List Segment)). length (bytes_by spanning x)) (so_opens w.closed w.here (s ∷ [])) ∙ length_more spanning (so_far w.closed w.here) (s ∷ []) in
            let one : length (spelled (s ∷ [])) ≡ p.size + 4 = omega (arith, length-append (segment_piece s) [], length_piece s) in
            record {
              closed = closed;
              here = s ∷ [];
              written =
                  goes closed []
                  (subst (λ (k : ℕ). Written m rs closed [] k fresh (r ∷ more)) (ap (λ (k : ℕ). m - k) (sym size)) (written_new m low rs w.closed w.here (m - t.size) fresh r more l w.written));
              blocks = omega (arith, c.blocks, w.blocks, length-append w.closed (w.here ∷ []));
              fair = record { word = omega (arith, c.size); none = λ e. absurd (omega (arith, c.blocks)); last = λ k. omega (arith, c.size, c.bytes) };
              size = λ k. omega (arith, c.size);
              bytes = omega (arith, c.bytes, w.bytes);
              is =
                  ap (segment_put base t p fresh last d) w.is
                  ∙ put_opens t p fresh last d long front room w.closed w.here w.blocks w.bytes (omega (arith, c.blocks)) (omega (arith, c.size)) (omega (arith, c.bytes));
            }

        behind : 5 ≤ m - t.size → (closed : List (List Segment)) → t.blocks ≡ length closed → Written m rs closed w.here (m - t.size) fresh (r ∷ more)
            → t.bytes ≡ length (bytes_by spanning (so_far closed w.here)) → out ≡ laid spanning base old (so_far closed w.here)
            → Laying (segment_put base t (cut_of m t (length r)) fresh last d out) (cut_of m t (length r)).tally next pending
        behind l [] many written bytes is = absurd (omega (arith, w.fair.none many))
        behind l (first ∷ earlier) many written bytes is =
            let p = cut_of m t (length r) in
            let s = segment fresh last d in
            let c = cut_is m low t (length r) in
            let b = opened_same m t l in
            let same : (opened_of m t).blocks ≡ t.blocks = sym (ap (λ (x : Tally). x.blocks) b) in
            let size : (opened_of m t).size ≡ t.size = sym (ap (λ (x : Tally). x.size) b) in
            let long_so : (opened_of m t).bytes ≡ t.bytes = sym (ap (λ (x : Tally). x.bytes) b) in
            let before = w.size (omega arith) in
            let fit = w.fair.last (omega arith) in
            let more_spelled : length (spelled (w.here ++ (s ∷ []))) ≡ length (spelled w.here) + (p.size + 4)
            = omega (arith, ap length (spelled_more w.here s), length-append (spelled w.here) (segment_piece s), length_piece s) in
            record {
              closed = first ∷ earlier;
              here = w.here ++ (s ∷ []);
              written = goes (first ∷ earlier) w.here (subst (λ (k : ℕ). Written m rs (first ∷ earlier) w.here k fresh (r ∷ more)) (ap (λ (k : ℕ). m - k) (sym size)) written);
              blocks = omega (arith, c.blocks);
              fair = record { word = omega (arith, c.size); none = λ e. absurd (omega (arith, c.blocks)); last = λ k. omega (arith, c.size, c.bytes) };
              size = λ k. omega (arith, c.size);
              bytes = omega (arith, c.bytes, length_more spanning earlier w.here, length_more spanning earlier (w.here ++ (s ∷ [])));
              is =
                  ap (segment_put base t p fresh last d) is
                  ∙ put_behind t p fresh last d long front room earlier w.here many bytes before (omega (arith, c.blocks)) (omega (arith, c.size)) (omega (arith, c.bytes));
            }

        go : (q : Bool) → ltb (m - t.size) 5 ≡ q → Laying (segment_put base t (cut_of m t (length r)) fresh last d out) (cut_of m t (length r)).tally next pending
        go true q = opens (ltb-true (m - t.size) 5 q)
        go false q = behind (ltb-false (m - t.size) 5 q) w.closed w.blocks w.written w.bytes w.is

    -- all that is left of the record
    laying_all : length r + 4 ≤ m - (opened_of m t).size → Laying (segment_put base t (cut_of m t (length r)) fresh true r out) (cut_of m t (length r)).tally true more
    laying_all l =
        let c = cut_is m low t (length r) in
        laying_put true r (sym (c.all l)) true more
        (λ closed here x.
        subst (λ (k : ℕ). Written m rs closed (here ++ (segment fresh true r ∷ [])) k true more)
        (let z : m - (opened_of m t).size - (length r + 4) ≡ m - (cut_of m t (length r)).tally.size = omega (arith, c.size, c.all l) in z)
        (written_all m low rs closed here (m - (opened_of m t).size) fresh r more l x))

    -- all that is left of the block
    laying_part : m - (opened_of m t).size < length r + 4
        → Laying (segment_put base t (cut_of m t (length r)) fresh false (take (cut_of m t (length r)).size r) out) (cut_of m t (length r)).tally false (drop (cut_of m t (length r)).size r ∷ more)
    laying_part l =
        let c = cut_is m low t (length r) in
        let p = cut_of m t (length r) in
        laying_put false (take p.size r) (length-take-le p.size r c.most) false (drop p.size r ∷ more)
        (λ closed here x.
        subst₂ (λ (n k : ℕ). Written m rs closed (here ++ (segment fresh false (take n r) ∷ [])) k false (drop n r ∷ more))
        (sym (c.part l))
        (let z : 0 ≡ m - (cut_of m t (length r)).tally.size = omega (arith, c.size, c.part l) in z)
        (written_part m low rs closed here (m - (opened_of m t).size) fresh r more (opened_is m low t).room l x))

  -- ---- a record more

  module _ (low : 9 ≤ m) where
    pub laying_from : (k : ℕ) (out : List ℕ) (t : Tally) (fresh : Bool) (r : List ℕ) (more : List (List ℕ)) → length r ≤ k → t.size ≤ m
        → 4 * (tally_from m k t (length r)).blocks + 4 ≤ base → base + (tally_from m k t (length r)).bytes ≤ length old → Laying out t fresh (r ∷ more)
        → Laying (put_from m base k t fresh r out) (tally_from m k t (length r)) true more
    laying_from zero out t fresh r more l i front room w = go w.written.more
      where
        go : All (λ r. 1 ≤ length r) (r ∷ more) → Laying out t true more
        go (also s a) = absurd (omega arith)
    laying_from (suc k) out t fresh r more l i front room w = go (laying_from k) w.written.more (ltb (m - (opened_of m t).size) (length r + 4)) refl
      where
        go : ((out : List ℕ) (t : Tally) (fresh : Bool) (r : List ℕ) (more : List (List ℕ)) → length r ≤ k → t.size ≤ m
            → 4 * (tally_from m k t (length r)).blocks + 4 ≤ base → base + (tally_from m k t (length r)).bytes ≤ length old → Laying out t fresh (r ∷ more)
            → Laying (put_from m base k t fresh r out) (tally_from m k t (length r)) true more)
            → All (λ r. 1 ≤ length r) (r ∷ more) → (q : Bool) → ltb (m - (opened_of m t).size) (length r + 4) ≡ q
            → Laying (put_from m base (suc k) t fresh r out) (tally_from m (suc k) t (length r)) true more
        go ih (also s a) true q =
            let p = cut_of m t (length r) in
            let c = cut_is m low t (length r) in
            let h : m - (opened_of m t).size < length r + 4 = ltb-true (m - (opened_of m t).size) (length r + 4) q in
            let left = drop p.size r in
            let d : length left ≡ length r - p.size = length-drop p.size r in
            let one = c.some s in
            let less = c.part h in
            let room_left = (opened_is m low t).room in
            let e : tally_from m k p.tally (length left) ≡ tally_from m (suc k) t (length r) = ap (tally_from m k p.tally) d ∙ sym (tally_step m k t (length r) s) in
            let eb : (tally_from m k p.tally (length left)).blocks ≡ (tally_from m (suc k) t (length r)).blocks = ap (λ (x : Tally). x.blocks) e in
            let ey : (tally_from m k p.tally (length left)).bytes ≡ (tally_from m (suc k) t (length r)).bytes = ap (λ (x : Tally). x.bytes) e in
            let g = grown m low k p.tally (length left) (omega arith) c.inside in
            let put = segment_put base t p fresh false (take p.size r) out in
            subst₂ (λ (o : List ℕ) (u : Tally). Laying o u true more)
            (ap (λ (last : Bool). put_from m base k p.tally false left (segment_put base t p fresh last (take p.size r) out))
            (sym (ne_eqb p.size (length r) (λ z. omega arith)))
            ∙ sym (put_step m base k t fresh r out s))
            e
            (ih put p.tally false left more (omega arith) c.inside (omega (arith, front, eb)) (omega (arith, room, ey))
            (laying_part low out t fresh r more w (omega (arith, g.blocks, front, eb)) (omega (arith, g.bytes, room, ey)) h))
        go ih (also s a) false q =
            let p = cut_of m t (length r) in
            let c = cut_is m low t (length r) in
            let h : length r + 4 ≤ m - (opened_of m t).size = ltb-false (m - (opened_of m t).size) (length r + 4) q in
            let same = c.all h in
            let e : p.tally ≡ tally_from m (suc k) t (length r)
            = sym (tally_none m k p.tally) ∙ ap (tally_from m k p.tally) (let z : 0 ≡ length r - p.size = omega arith in z) ∙ sym (tally_step m k t (length r) s) in
            let eb : p.tally.blocks ≡ (tally_from m (suc k) t (length r)).blocks = ap (λ (x : Tally). x.blocks) e in
            let ey : p.tally.bytes ≡ (tally_from m (suc k) t (length r)).bytes = ap (λ (x : Tally). x.bytes) e in
            subst₂ (λ (o : List ℕ) (u : Tally). Laying o u true more)
            (ap₂ (λ (d : List ℕ) (last : Bool). segment_put base t p fresh last d out) (sym (take_all p.size r (omega arith))) (sym (eq-eqb p.size (length r) same))
            ∙ sym (put_none m base k p.tally false (drop p.size r) (segment_put base t p fresh (eqb p.size (length r)) (take p.size r) out) (length-drop p.size r ∙ omega arith))
            ∙ sym (put_step m base k t fresh r out s))
            e
            (laying_all low out t fresh r more w (omega (arith, front, eb)) (omega (arith, room, ey)) h)

  -- ---- behind the last record

  pub laying_end : {out : List ℕ} {t : Tally} {fresh : Bool} → Laying out t fresh [] → base ≡ 4 * length (segmented m rs) + 8 → base + t.bytes ≤ length old
      → (at : ℕ) → at ≡ 4 * length (segmented m rs) + 4
      → over at (word (base + t.bytes)) out ≡ over 4 (offset_words base (map span_of (segmented m rs)) ++ joined (map span_of (segmented m rs))) old
  laying_end {out} {t} {fresh} w b room at e =
      let bs = so_far w.closed w.here in
      let same : segmented m rs ≡ bs = ap (drop 1) (written_end m rs w.closed w.here (m - t.size) fresh w.written) in
      let many : length (segmented m rs) ≡ length bs = ap length same in
      ap₂ (λ (n : ℕ) (x : List ℕ). over at (word (base + n)) x) w.bytes w.is
      ∙ laid_ends spanning base old bs (omega arith) (omega (arith, w.bytes)) (omega arith) at (omega arith)
      ∙ ap (λ (x : List (List Segment)). over 4 (offset_words base (map span_of x) ++ joined (map span_of x)) old) (sym same)
