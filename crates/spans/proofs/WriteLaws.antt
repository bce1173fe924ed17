-- The pass that writes: before each turn the blocks so far are laid, and the tally is their measure. By what a record lays, and by the room that was measured.
use mathlib.Core.Path.{◌≡◌, refl, ap, sym, ◌∙◌, subst, subst₂}
use mathlib.Core.Bool.{true}
use mathlib.Core.List.{List, ◌∷◌, ◌++◌, map}
use Prim.Native.Nat.{ℕ, ◌+◌, ◌*◌, ◌≤◌}
use native.Mathlib.Omega.{arith}
use lib.ListN.{length, take, length-append, length-map}
use lib.Seq.{take_at}
use Rattle.rules.specs.Base.{joined}
use Rattle.rules.specs.Halves.{over}
use Rattle.rules.specs.Reel.{word, reel_of}
use Rattle.rules.specs.Spanned.{span_of, segmented}
use Rattle.rules.proofs.Reel.ReelLaws.{length_reel}
use Rattle.fillings.specs.declared.Tally.{Tally}
use Rattle.fillings.proofs.LaidLaws.{reel_over}
use Rattle.segments.specs.declared.Spot.{Spot}
use Rattle.segments.specs.declared.RecordAhead.{RecordAhead}
use Rattle.segments.proofs.PromiseLaws.{before_streams, before_some}
use Rattle.cuts.specs.Cutting.{full_of, tally_from, behind_record}
use Rattle.spans.specs.Putting.{put_from, record_put}
use Rattle.spans.specs.Promise.{Streaming, RecordFits, RecordPut, SpannedLent}
use Rattle.spans.proofs.MeasureLaws.{Measured}
use Rattle.spans.proofs.LayingLaws.{Laying, laying_start, laying_length, laying_from, laying_end}
use Rattle.spans.proofs.WalkLaws.{Passes, Turn, passes_start, passes_end, turn_small, turn_passes}

-- ---- numbers

module _ {m : ℕ} {s : List ℕ} {v : Spot} {count blocks room : ℕ} (y : SpannedLent m s v count blocks room) where
  abbrev all : List (List ℕ)
  all = map span_of (segmented m y.standing.records)

  reel_long : length (reel_of (map span_of (segmented m y.standing.records))) ≡ 4 * blocks + 8 + length (joined (map span_of (segmented m y.standing.records)))
  reel_long = omega (arith, length_reel all, length-map (segmented m y.standing.records) span_of, y.many)

  pub header_fits : 4 * blocks + 8 ≤ room
  header_fits = omega (arith, reel_long, y.roomy)

  pub few_blocks : 4 * blocks + 8 ≤ 65536
  few_blocks = omega (arith, reel_long, y.most)

  -- the blocks so far are among all
  pub record Within (t : Tally) : Type 0 where
    pub front : 4 * t.blocks + 8 ≤ 4 * blocks + 8
    pub inside : 4 * blocks + 8 + t.bytes ≤ room
    pub most : 4 * blocks + 8 + t.bytes ≤ 65536

  pub within : {t : Tally} {rest : List (List ℕ)} → Measured m y.standing.records t true rest → Within t
  within w =
      record {
        front = omega (arith, w.blocks, y.many);
        inside = omega (arith, w.bytes, reel_long, y.roomy);
        most = omega (arith, w.bytes, reel_long, y.most);
      }

-- the same in an output of the same length
abbrev pub lent_as : {m : ℕ} {s : List ℕ} {v : Spot} {count blocks room next : ℕ} → room ≡ next → SpannedLent m s v count blocks room → SpannedLent m s v count blocks next
lent_as {m} e y =
    record {
      standing = y.standing;
      low = y.low;
      high = y.high;
      many = y.many;
      roomy = subst (λ (n : ℕ). length (reel_of (map span_of (segmented m y.standing.records))) ≤ n) e y.roomy;
      most = y.most;
    }

-- ---- the pass

module _ {m : ℕ} {s : List ℕ} {v : Spot} {count blocks : ℕ} (old : List ℕ) (y : SpannedLent m s v count blocks (length old)) where
  pub record Writes (out : List ℕ) (at : Spot) (t : Tally) (number : ℕ) : Type 0 where
    pub rest : List (List ℕ)
    pub passes : Passes m y.standing at t number rest
    pub laying : Laying m (4 * blocks + 8) old y.standing.records out t true rest

  pub writes_start : {t : Tally} → t ≡ full_of m → Writes old v t 0
  writes_start {t} e =
      record {
        rest = y.standing.records;
        passes = passes_start m y.standing y.low e;
        laying =
            subst (λ (u : Tally). Laying m (4 * blocks + 8) old y.standing.records old u true y.standing.records) (sym e)
            (laying_start m (4 * blocks + 8) old y.standing.records y.low (before_some y.standing.before));
      }

  module _ {out : List ℕ} {at : Spot} {t : Tally} {number : ℕ} (w : Writes out at t number) where
    pub writes_within : Within y t
    writes_within = within y w.passes.measured

    pub writes_length : length out ≡ length old
    writes_length =
        let k = writes_within in
        laying_length m (4 * blocks + 8) old y.standing.records w.laying (omega (arith, k.front)) k.inside

    module _ {a : RecordAhead} (x : Turn m y.standing at t number w.rest a) where
      pub writes_streaming : Streaming s at a.size
      writes_streaming =
          record {
            g = y.standing.g;
            bytes = joined (x.next ∷ x.more);
            streams = before_streams x.before;
            enough = omega (arith, x.size, length-append x.next (joined x.more));
          }

      after : Within y (behind_record m t a.size)
      after = within y (turn_passes m y.standing y.low y.high x refl).measured

      pub writes_fits : RecordFits m (4 * blocks + 8) t a.size (length out)
      writes_fits =
          let k = after in
          record {
            small = turn_small m y.standing y.low y.high x;
            fair = w.laying.fair;
            header = omega arith;
            front = omega (arith, k.front);
            inside = omega (arith, k.inside, writes_length);
            most = k.most;
          }

      pub writes_next : {new : List ℕ} {u : Tally} → RecordPut m (4 * blocks + 8) s at a.size t out new u → Writes new a.behind u (number + 1)
      unfolding writes_streaming behind_record record_put
      writes_next {new} {u} h =
          let base = 4 * blocks + 8 in
          let r = x.next in
          let k = after in
          let front : take a.size (r ++ joined x.more) ≡ r = take_at r (joined x.more) a.size (sym x.size) in
          let is : behind_record m t a.size ≡ tally_from m (length r) t (length r) = ap (behind_record m t) x.size in
          let laying = subst (Laying m base old y.standing.records out t true) x.is w.laying in
          record {
            rest = x.more;
            passes = turn_passes m y.standing y.low y.high x h.is;
            laying =
                subst₂ (λ (o : List ℕ) (z : Tally). Laying m base old y.standing.records o z true x.more)
                (ap (λ (d : List ℕ). put_from m base (length d) t true d out) (sym front) ∙ sym (h.written writes_streaming))
                (sym is ∙ sym h.is)
                (laying_from m base old y.standing.records y.low (length r) out t true r x.more (omega arith) w.passes.measured.inside
                (omega (arith, k.front, ap (λ (z : Tally). z.blocks) is)) (omega (arith, k.inside, ap (λ (z : Tally). z.bytes) is)) laying);
          }

    -- at the end
    pub writes_end : count ≤ number → (first : List ℕ) → old ≡ over 0 (word blocks) first → length (reel_of (map span_of (segmented m y.standing.records))) ≤ length first
        → over (4 * blocks + 4) (word (4 * blocks + 8 + t.bytes)) out ≡ over 0 (reel_of (map span_of (segmented m y.standing.records))) first
    writes_end l first e fits =
        let base = 4 * blocks + 8 in
        let bs = map span_of (segmented m y.standing.records) in
        let k = writes_within in
        let done = subst (Laying m base old y.standing.records out t true) (passes_end m y.standing w.passes l) w.laying in
        laying_end m base old y.standing.records done (omega (arith, y.many)) k.inside (4 * blocks + 4) (omega (arith, y.many))
        ∙ ap (over 4 _) e
        ∙ reel_over bs blocks (y.many ∙ sym (length-map (segmented m y.standing.records) span_of)) first fits
