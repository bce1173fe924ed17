-- A segment and a record in their places: what each call leaves is what the rules' segments put over what was lent. By the laws of what is put over an output, and by
-- the cuts of a record.
use mathlib.Core.Path.{◌≡◌, refl, ap, ap₂, sym, ◌∙◌}
use mathlib.Core.Bool.{Bool, true, false}
use mathlib.Core.List.{List, [], ◌∷◌, ◌++◌}
use Prim.Native.Nat.{ℕ, zero, suc, ◌+◌, ◌-◌, ◌≤◌}
use native.Mathlib.Omega.{arith}
use lib.ListN.{length, take, drop, length-take, length-drop}
use lib.Dec.{eqb}
use lib.Seq.{length-take-le, take-take}
use borrow.Rule.Slice.PartMut.{put_mid}
use Rattle.rules.specs.Halves.{over}
use Rattle.rules.specs.Output.{length_word}
use Rattle.rules.specs.Spanned.{code_of, coded_word}
use Rattle.rules.proofs.Base.Lists.{slice_part}
use Rattle.rules.proofs.Halves.SizeLaws.{length_over}
use Rattle.rules.proofs.Halves.PlaceLaws.{over_behind}
use Rattle.rules.proofs.Base.LentParts.{rest_over}
use Rattle.rules.proofs.Blocks.CodedWords.{coded_word_four}
use Rattle.fillings.specs.declared.Tally.{Tally}
use Rattle.fillings.specs.Offsets.{offset_put}
use Rattle.segments.specs.declared.Spot.{Spot}
use Rattle.segments.specs.Promise.{Streams, Copyable, Copied}
use Rattle.cuts.specs.declared.CutTaken.{CutTaken}
use Rattle.cuts.specs.Cutting.{BetweenSegments, cut_of}
use Rattle.spans.specs.Putting.{segment_put, put_from, record_put}
use Rattle.spans.specs.Promise.{Streaming, SegmentFits, SegmentPut, RecordFits}
use Rattle.cuts.proofs.CutLaws.{Going, going_next, going_most, going_more, fair_next}

-- ---- a segment

-- its data is there, and the room for it
pub copyable : {s : List ℕ} {v : Spot} {n : ℕ} → Streaming s v n → (out : List ℕ) (from : ℕ) → from + n ≤ length out
    → Copyable s v n (length (take (length out - from) (drop from out)))
copyable {n = n} y out from l =
    record {
      g = y.g;
      «data» = y.bytes;
      streams = y.streams;
      enough = y.enough;
      fits = let z : n ≤ length (take (length out - from) (drop from out)) = omega (arith, length-take (length out - from) (drop from out), length-drop from out) in z;
    }

pub next_put_lem : {s : List ℕ} {v : Spot} (first last : Bool) (base : ℕ) (t : Tally) (p : CutTaken) (old : List ℕ) → SegmentFits base t p (length old) → (start second third ys : List ℕ) {w : Spot} (k : ℕ)
    → start ≡ offset_put base t p.tally old → second ≡ over (base + p.tally.bytes - p.tally.size) (length_word p.tally.size) start → length second ≡ length old
    → k ≡ code_of first last → third ≡ over (base + p.tally.bytes - p.size - 4) (coded_word k (p.size + 4)) second
    → Copied s v p.size (take (length third - (base + p.tally.bytes - p.size)) (drop (base + p.tally.bytes - p.size) third)) ys w
    → SegmentPut s v first last base t p old (put_mid (base + p.tally.bytes - p.size) (length third - (base + p.tally.bytes - p.size)) third ys) w
unfolding segment_put
next_put_lem {s} {v} first last base t p old fits start second third ys {w} k o a long e b h =
    record { written = λ y. put y; streams = λ y. h.streams y.g y.bytes y.streams y.enough }
  where
    put : (y : Streaming s v p.size)
        → put_mid (base + p.tally.bytes - p.size) (length third - (base + p.tally.bytes - p.size)) third ys
        ≡ over (base + p.tally.bytes - p.size - 4) (coded_word (code_of first last) (p.size + 4) ++ take p.size y.bytes)
        (over (base + p.tally.bytes - p.tally.size) (length_word p.tally.size) (offset_put base t p.tally old))
    put y =
        let from = base + p.tally.bytes - p.size in
        let at = base + p.tally.bytes - p.size - 4 in
        let x = take p.size y.bytes in
        let word = coded_word k (p.size + 4) in
        let n : length x ≡ p.size = length-take-le p.size y.bytes y.enough in
        let four : length word ≡ 4 = coded_word_four k (p.size + 4) in
        let same : length third ≡ length second = ap length b ∙ length_over at word second (omega (arith, fits.inside, fits.segment, fits.whole)) in
        ap (put_mid from (length third - from) third) (h.written y.g y.bytes y.streams y.enough)
        ∙ rest_over from third x (omega (arith, fits.inside))
        ∙ ap (over from x) b
        ∙ over_behind at from word x second (omega (arith, fits.segment, fits.whole)) (omega (arith, fits.inside, fits.segment, fits.whole))
        ∙ ap₂ (λ (i : ℕ) (z : List ℕ). over at (coded_word i (p.size + 4) ++ x) z) e (a ∙ ap (over (base + p.tally.bytes - p.tally.size) (length_word p.tally.size)) o)

-- ---- a record, cut by cut

module _ (m base : ℕ) where
  pub put_none : (k : ℕ) (t : Tally) (first : Bool) (r out : List ℕ) → length r ≡ 0 → put_from m base k t first r out ≡ out
  put_none zero t first r out e = refl
  put_none (suc k) t first [] out e = refl
  put_none (suc k) t first (b ∷ r) out e = absurd (omega arith)

  pub put_step : (k : ℕ) (t : Tally) (first : Bool) (r out : List ℕ) → 1 ≤ length r
      → put_from m base (suc k) t first r out
      ≡ put_from m base k (cut_of m t (length r)).tally false (drop (cut_of m t (length r)).size r)
      (segment_put base t (cut_of m t (length r)) first (eqb (cut_of m t (length r)).size (length r)) (take (cut_of m t (length r)).size r) out)
  put_step k t first [] out l = absurd (omega arith)
  put_step k t first (b ∷ r) out l = refl

-- so many bytes of the record are left, from a spot on; what puts them makes the whole record
pub record Puts (m base : ℕ) {s : List ℕ} {v : Spot} {size : ℕ} (y : Streaming s v size) (start : Tally) (old out : List ℕ) (at : Spot) (t : Tally) (first : Bool) (rest : ℕ) : Type 0 where
  pub left : List ℕ
  pub streams : Streams y.g s at left
  pub enough : rest ≤ length left
  pub steps : ℕ
  pub most : rest ≤ steps
  pub is : record_put m base start (take size y.bytes) old ≡ put_from m base steps t first (take rest left) out

module _ (m base : ℕ) {s : List ℕ} {v : Spot} {size : ℕ} (y : Streaming s v size) (start : Tally) (old : List ℕ) where
  pub puts_start : Puts m base y start old old v start true size
  unfolding record_put
  puts_start =
      record {
        left = y.bytes;
        streams = y.streams;
        enough = y.enough;
        steps = size;
        most = omega arith;
        is = ap (λ (k : ℕ). put_from m base k start true (take size y.bytes) old) (length-take-le size y.bytes y.enough);
      }

  module _ {out : List ℕ} {at : Spot} {t : Tally} {first : Bool} {rest : ℕ} (w : Puts m base y start old out at t first rest) where
    -- so much data streams
    abbrev pub puts_streaming : (n : ℕ) → n ≤ rest → Streaming s at n
    puts_streaming n l = record { g = y.g; bytes = w.left; streams = w.streams; enough = omega (arith, w.enough) }

    pub puts_next : 1 ≤ rest → {p : CutTaken} → p ≡ cut_of m t rest → 1 ≤ p.size → p.size ≤ rest → (last : Bool) → last ≡ eqb p.size rest → {new : List ℕ} {next : Spot}
        → SegmentPut s at first last base t p out new next → Puts m base y start old new next p.tally false (rest - p.size)
    puts_next l {p} e some most last q {new} {next} h = go w.steps w.most w.is
      where
        go : (k : ℕ) → rest ≤ k → record_put m base start (take size y.bytes) old ≡ put_from m base k t first (take rest w.left) out
            → Puts m base y start old new next p.tally false (rest - p.size)
        go zero i z = absurd (omega arith)
        go (suc k) i z =
            let r = take rest w.left in
            let long : length r ≡ rest = length-take-le rest w.left w.enough in
            let x = puts_streaming p.size most in
            let same : cut_of m t (length r) ≡ p = ap (cut_of m t) long ∙ sym e in
            let front : take p.size r ≡ take p.size w.left = take-take p.size rest w.left most in
            let back : drop p.size r ≡ take (rest - p.size) (drop p.size w.left) = slice_part p.size rest w.left most in
            record {
              left = drop p.size w.left;
              streams = h.streams x;
              enough = omega (arith, length-drop p.size w.left, w.enough);
              steps = k;
              most = omega arith;
              is =
                  z ∙ put_step m base k t first r out (omega arith)
                  ∙ ap₂ (λ (u : CutTaken) (n : ℕ). put_from m base k u.tally false (drop u.size r) (segment_put base t u first (eqb u.size n) (take u.size r) out)) same long
                  ∙ ap₂ (λ (a d : List ℕ). put_from m base k p.tally false a (segment_put base t p first (eqb p.size rest) d out)) back front
                  ∙ ap (λ (b : Bool). put_from m base k p.tally false (take (rest - p.size) (drop p.size w.left)) (segment_put base t p first b (take p.size w.left) out)) (sym q)
                  ∙ ap (put_from m base k p.tally false (take (rest - p.size) (drop p.size w.left))) (sym (h.written x));
            }

    pub puts_end : rest ≤ 0 → out ≡ record_put m base start (take size y.bytes) old
    puts_end l = sym (w.is ∙ put_none m base w.steps t first (take rest w.left) out (length-take-le rest w.left w.enough ∙ omega arith))

-- ---- the room for it

module _ {m base : ℕ} {start : Tally} {size room : ℕ} (y : RecordFits m base start size room) {t : Tally} {rest : ℕ} (w : Going m start size t rest) where
  pub next_fits : BetweenSegments m t → 1 ≤ rest → {p : CutTaken} → p ≡ cut_of m t rest → (now : ℕ) → now ≡ room → SegmentFits base t p now
  next_fits f l {p} e now same =
      let n = going_next w l e in
      let a = fair_next y.small.low f rest e in
      let g = going_most n in
      let o = going_more w l e in
      record {
        offset = record { inside = λ k. omega (arith, g.0, y.front, y.inside); low = omega (arith, o, g.1, y.most); few = omega (arith, g.0, y.front, y.most) };
        inside = omega (arith, g.1, y.inside);
        most = omega (arith, g.1, y.most);
        header = y.header;
        whole = a.0.last a.1;
        segment = a.2;
      }
