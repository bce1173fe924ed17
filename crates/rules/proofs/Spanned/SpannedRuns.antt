-- What a finished run in FS wrote: with TC the reel itself, with TR a reel that gives the records taken; so the reel tells the records. And how long
-- the reel can be: at most 851,560 bytes.
use mathlib.Core.Path.{◌≡◌, refl, ap, sym, ◌∙◌, subst}
use mathlib.Core.Bool.{Bool, true, false, ◌&&◌}
use mathlib.Core.List.{List, [], ◌∷◌, ◌++◌, map}
use mathlib.Core.Option.{none}
use Prim.Native.Nat.{ℕ, ◌+◌, ◌-◌, ◌*◌, ◌≤◌, ◌<◌}
use native.Mathlib.Omega.{arith}
use lib.Dec.{leb}
use lib.ListN.{length, drop, length-append}
use borrow.Author.Tests.{leb-true}
use Rattle.rules.specs.Base.{joined}
use Rattle.rules.specs.Answer.{fine, unless}
use Rattle.rules.specs.Places.{All, no_more, also, Byte}
use Rattle.rules.specs.Places.{Both, none_left, both}
use Rattle.rules.specs.Reel.{is_reel, blocks_of, reel_of}
use Rattle.rules.specs.Run.{RunOutput, housed, spanned_out, spanned_ran, spanned_run}
use Rattle.rules.specs.RunRows.{ReelIs}
use Rattle.rules.specs.Spanned.{Segment, segment, part, spelled, span_of, spanned_from, segmented, Joined, no_segment, ending, going, SpanIs, Spans}
use Rattle.rules.specs.RunRows.{GivesSpanned}
use Rattle.rules.proofs.Base.Lists.{drop_less, length_full, full_length}
use Rattle.rules.proofs.Base.Tests.{and_left, and_right}
use Rattle.rules.proofs.Base.AllLaws.{all_imply, all_drop, all_head, both_second, all_map, all_with, all_joined}
use Rattle.rules.proofs.Refusals.AnswerLaws.{fine_same, bind_fine, then_fine, unless_fine}
use Rattle.rules.proofs.Reel.ReelLaws.{reel_blocks, reel_of_lem, blocks_reel, all_blocks, length_reel}
use Rattle.rules.proofs.Blocks.CodedWords.{length_spelled}
use Rattle.rules.proofs.Spanned.SpannedFill.{joined_data, segmented_spanned}
use Rattle.rules.proofs.Spanned.SpannedBlocks.{length_span, spanned_blocks}
use Rattle.rules.proofs.Spanned.SpannedRead.{spans_exactly, spans_once, spanned_spans}
use Rattle.rules.proofs.Spanned.SpannedMeasure.{spelled_append}

-- ---- what a finished run wrote

pub record FinishedSpan (copies : Bool) (g m first room : ℕ) (s : List ℕ) (x : RunOutput) : Type 0 where
  pub reel : is_reel s ≡ true
  pub recs : List (List (List ℕ))
  pub reads : spanned_from g 1 none (blocks_of s) ≡ fine recs
  pub writes : x ≡ spanned_ran (spanned_out copies m (blocks_of s) (drop (first - 1) (joined recs))) (drop (first - 1) (joined recs))
  pub room_most : length x.reel ≤ room
  pub most : length x.reel ≤ 65536

pub housed_fine : (room : ℕ) (y x : RunOutput) → housed room y ≡ fine x → (x ≡ y) × (length x.reel ≤ room) × (length x.reel ≤ 65536)
unfolding housed
housed_fine room y x e =
    let w = then_fine (unless (leb (length y.reel) room && leb (length y.reel) 65536) 15 (length y.reel)) (fine y) x e in
    let t = unless_fine (leb (length y.reel) room && leb (length y.reel) 65536) 15 (length y.reel) w.0 in
    let q = fine_same y x w.1 in (
      sym q,
      subst (λ (z : RunOutput). length z.reel ≤ room) q (leb-true (length y.reel) room (and_left (leb (length y.reel) room) _ t)),
      subst (λ (z : RunOutput). length z.reel ≤ 65536) q (leb-true (length y.reel) 65536 (and_right (leb (length y.reel) room) _ t)),
    )

pub finished_span : (copies : Bool) (g m first room : ℕ) (s : List ℕ) (x : RunOutput) → spanned_run copies g m first room s ≡ fine x → FinishedSpan copies g m first room s x
unfolding spanned_run
finished_span copies g m first room s x e =
    let t = then_fine (unless (is_reel s) 11 0) _ x e in
    let w = bind_fine (spanned_from g 1 none (blocks_of s)) _ x t.1 in
    let taken = drop (first - 1) (joined w.0) in
    let h = housed_fine room (spanned_ran (spanned_out copies m (blocks_of s) taken) taken) x w.2 in
    record { reel = unless_fine (is_reel s) 11 0 t.0; recs = w.0; reads = w.1; writes = h.0; room_most = h.1; most = h.2 }

module _ (g m : ℕ) (low : 9 ≤ g) (high : g < 65536) (low' : 9 ≤ m) (high' : m < 65536) where
  -- the records of a reel have data, of at most 32,752 bytes
  pub spans_data : (bs rs : List (List ℕ)) → Spans g bs rs → All (λ r. (1 ≤ length r) × (length r ≤ 32752)) rs
  spans_data bs rs w = all_with (joined_data w.joins (all_joined (both_second (λ b ss v. v.parts) w.blocks))) w.most

  module _ (first room : ℕ) (s : List ℕ) (a : All Byte s) (x : RunOutput) where
    -- the records of the input
    pub span_input : (copies : Bool) (w : FinishedSpan copies g m first room s x) → GivesSpanned g s (joined w.recs)
    span_input copies w =
        (blocks_of s, reel_of_lem s a w.reel, (spans_exactly g high (all_blocks s a) (joined w.recs)).0 (w.recs, w.reads, refl))

    -- TC: the same
    pub span_copy : FinishedSpan true g m first room s x → x.reel ≡ s
    span_copy w = ap (λ (z : RunOutput). z.reel) w.writes ∙ blocks_reel s a w.reel

    -- TR: what was written gives the records taken
    pub span_back : (w : FinishedSpan false g m first room s x) → GivesSpanned m x.reel (drop (first - 1) (joined w.recs))
    span_back w =
        let taken = drop (first - 1) (joined w.recs) in
        let ok = all_drop (first - 1) (spans_data (span_input false w).0 (joined w.recs) (span_input false w).2) in
        let f = segmented_spanned m low' (all_imply (λ r h. h.0) ok) in (
          map span_of (segmented m taken),
          record {
            is = ap (λ (z : RunOutput). z.reel) w.writes;
            blocks = all_map span_of (all_imply (λ c v. length_full (span_of c) (omega (arith, length_span c))) (spanned_blocks m low' f));
            most = w.most;
          },
          spanned_spans m high' low' f (all_imply (λ r h. h.1) ok),
        )

-- a reel gives one list of records
pub gives_once : (g : ℕ) → g < 65536 → (s : List ℕ) (rs rs' : List (List ℕ)) → GivesSpanned g s rs → GivesSpanned g s rs' → rs ≡ rs'
gives_once g high s rs rs' (bs, r, h) (bs', r', h') =
    let e : bs' ≡ bs = sym (reel_blocks s bs' r') ∙ reel_blocks s bs r in spans_once g high bs rs rs' h (subst (λ (z : List (List ℕ)). Spans g z rs') e h')

-- ---- the reel tells the records taken

module _ (g m : ℕ) (low : 9 ≤ g) (high : g < 65536) (low' : 9 ≤ m) (high' : m < 65536) (first : ℕ) (room room' : ℕ) (s s' : List ℕ) (a : All Byte s) (a' : All Byte s') (x x' : RunOutput) where
  pub span_tells : (copies : Bool) (w : FinishedSpan copies g m first room s x) (w' : FinishedSpan copies g m first room' s' x') → x.reel ≡ x'.reel
      → drop (first - 1) (joined w.recs) ≡ drop (first - 1) (joined w'.recs)
  span_tells true w w' e =
      let q : s' ≡ s = sym (span_copy g m low high low' high' first room' s' a' x' w') ∙ sym e ∙ span_copy g m low high low' high' first room s a x w in
      ap (drop (first - 1))
      (gives_once g high s (joined w.recs) (joined w'.recs) (span_input g m low high low' high' first room s a x true w)
      (subst (λ (z : List ℕ). GivesSpanned g z (joined w'.recs)) q (span_input g m low high low' high' first room' s' a' x' true w')))
  span_tells false w w' e =
      gives_once m high' x.reel (drop (first - 1) (joined w.recs)) (drop (first - 1) (joined w'.recs)) (span_back g m low high low' high' first room s a x w)
      (subst (λ (z : List ℕ). GivesSpanned m z (drop (first - 1) (joined w'.recs))) (sym e) (span_back g m low high low' high' first room' s' a' x' w'))

-- ---- which records a plan converts: those of 1 to 32,752 bytes, and each of these makes blocks that hold it alone

pub converts_span : (g : ℕ) → 9 ≤ g → g < 65536 → (r : List ℕ) → (((1 ≤ length r) × (length r ≤ 32752)) → Spans g (map span_of (segmented g (r ∷ []))) (r ∷ []))
    × ((bs : List (List ℕ)) → Spans g bs (r ∷ []) → (1 ≤ length r) × (length r ≤ 32752))
converts_span g low high r = (
  λ h. spanned_spans g high low (segmented_spanned g low (also {x = r} h.0 no_more)) (also {x = r} h.1 no_more),
  λ bs w. all_head (spans_data g g low high low high bs (r ∷ []) w),
)

-- ---- how long the reel can be

-- bytes of data, blocks and segments
length_joins : {fresh : Bool} {ss : List Segment} {rs : List (List ℕ)} → Joined fresh ss rs → length (spelled ss) ≡ 4 * length ss + length (joined rs)
length_joins no_segment = refl
length_joins (ending {fresh = f} {d = d} {ss = ss} {rs = rs} j) = omega (arith, length_joins j, length_spelled (segment f true d) ss, length-append d (joined rs))
length_joins (going {fresh = f} {d = d} {ss = ss} {r = r} {rs = rs} j) =
    omega (arith, length_joins j, length_spelled (segment f false d) ss, length-append (d ++ r) (joined rs), length-append d r, length-append r (joined rs))

length_blocks : (g : ℕ) {bs : List (List ℕ)} {sss : List (List Segment)} → Both (SpanIs g) bs sss
    → (length (joined bs) ≡ 4 * length bs + length (spelled (joined sss))) × (length bs ≤ length (joined sss)) × (5 * length (joined sss) ≤ length (spelled (joined sss)))
length_blocks g none_left = (refl, omega arith, omega arith)
length_blocks g (both {x = b} {y = ss} {xs = bs} {ys = sss} v h) =
    let k = length_blocks g h in
    let n = length-append ss (joined sss) in
    let q = ap length (spelled_append ss (joined sss)) ∙ length-append (spelled ss) (spelled (joined sss)) in (
      omega (arith, k.0, length-append b (joined bs), ap length v.is, length_span ss),
      omega (arith, k.1, full_length ss v.some),
      omega (arith, k.2, with_data v.parts),
    )
  where
    with_data : {ss : List Segment} → All (λ s. 1 ≤ length (part s)) ss → 5 * length ss ≤ length (spelled ss)
    with_data no_more = omega arith
    with_data (also {x = s} {xs = ss} p a) = omega (arith, with_data a, length_spelled s ss)

blocks_most : (g : ℕ) → g ≤ 32760 → {bs : List (List ℕ)} {sss : List (List Segment)} → Both (SpanIs g) bs sss → length (joined bs) ≤ 32760 * length bs
blocks_most g l none_left = omega arith
blocks_most g l (both {x = b} {xs = bs} v h) = omega (arith, blocks_most g l h, length-append b (joined bs), v.most)

-- a reel holds at most 65,504 bytes of data in FS
pub data_most : (g : ℕ) → g ≤ 32760 → (bs rs : List (List ℕ)) → Spans g bs rs → length (reel_of bs) ≤ 65536 → length (joined rs) ≤ 65504
data_most g l bs rs w h =
    let k = length_blocks g w.blocks in
    let t = blocks_most g l w.blocks in
    let j = length_joins w.joins in
    omega (arith, length_reel bs, k.0, k.1)

-- each block costs 8 bytes besides its segments, each segment 4, and each has a byte or more
pub span_length : (g : ℕ) (bs rs : List (List ℕ)) → Spans g bs rs → length (reel_of bs) ≤ 8 + 13 * length (joined rs)
span_length g bs rs w =
    let k = length_blocks g w.blocks in
    let j = length_joins w.joins in
    omega (arith, length_reel bs, k.0, k.1, k.2)

-- what a run would write, whether or not it is housed: its length is at most 851,560
pub out_most : (copies : Bool) (g m first : ℕ) → 9 ≤ g → g ≤ 32760 → 9 ≤ m → m < 65536 → (s : List ℕ) (bs rs : List (List ℕ)) → ReelIs s bs → Spans g bs rs
    → length (reel_of (spanned_out copies m bs (drop (first - 1) rs))) ≤ 851560
out_most true g m first low high low' high' s bs rs r w = omega (arith, ap length r.is, r.most)
out_most false g m first low high low' high' s bs rs r w =
    let ok = all_drop (first - 1) (spans_data g m low (omega arith) low' high' bs rs w) in
    let out = spanned_spans m high' low' (segmented_spanned m low' (all_imply (λ r h. h.0) ok)) (all_imply (λ r h. h.1) ok) in
    let d : length (joined rs) ≤ 65504 = data_most g high bs rs w (omega (arith, ap length r.is, r.most)) in
    omega (arith, d, span_length m (map span_of (segmented m (drop (first - 1) rs))) (drop (first - 1) rs) out, drop_less (first - 1) rs)
