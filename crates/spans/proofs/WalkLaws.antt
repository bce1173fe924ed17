-- The walk along the records taken: before each turn some of them are left, the tally is the measure of those before, and the numbers are far from wrapping, since a
-- reel has at most 65,536 bytes of data. By what is told of the record ahead, and by the measure of a record.
use mathlib.Core.Path.{◌≡◌, refl, sym, subst}
use mathlib.Core.Bool.{true}
use mathlib.Core.List.{List, [], ◌∷◌, map}
use Prim.Native.Nat.{ℕ, ◌+◌, ◌*◌, ◌≤◌, ◌<◌}
use native.Mathlib.Omega.{arith}
use lib.ListN.{length, length-append}
use Rattle.rules.specs.Base.{joined}
use Rattle.rules.specs.Spanned.{span_of, segmented}
use Rattle.fillings.specs.declared.Tally.{Tally}
use Rattle.segments.specs.declared.Spot.{Spot}
use Rattle.segments.specs.declared.RecordAhead.{RecordAhead}
use Rattle.segments.specs.Promise.{Before, Coming, Comes}
use Rattle.segments.proofs.PromiseLaws.{before_some, before_few}
use Rattle.cuts.specs.Cutting.{CutSmall, full_of, behind_record}
use Rattle.spans.specs.Promise.{SpotStanding, SpannedMeasures}
use Rattle.cuts.proofs.CutLaws.{behind_grown}
use Rattle.spans.proofs.MeasureLaws.{Measured, measured_start, measured_record, measured_end}

module _ (m : ℕ) {s : List ℕ} {v : Spot} {count : ℕ} (y : SpotStanding s v count) where
  -- behind so many records, before the rest
  pub record Passes (at : Spot) (t : Tally) (number : ℕ) (rest : List (List ℕ)) : Type 0 where
    pub before : Before y.g s at rest
    pub counts : number + length rest ≡ count
    pub measured : Measured m y.records t true rest
    pub blocks : t.blocks + length (joined rest) ≤ 65536
    pub bytes : t.bytes + 9 * length (joined rest) ≤ 589824

  -- the record ahead is the first of those that are left
  pub record Turn (at : Spot) (t : Tally) (number : ℕ) (rest : List (List ℕ)) (a : RecordAhead) : Type 0 where
    pub next : List ℕ
    pub more : List (List ℕ)
    pub is : rest ≡ next ∷ more
    pub before : Before y.g s at (next ∷ more)
    pub size : a.size ≡ length next
    pub behind : Before y.g s a.behind more
    pub counts : number + 1 + length more ≡ count
    pub measured : Measured m y.records t true (next ∷ more)
    pub blocks : t.blocks + a.size + length (joined more) ≤ 65536
    pub bytes : t.bytes + 9 * a.size + 9 * length (joined more) ≤ 589824

  pub passes_start : 9 ≤ m → {t : Tally} → t ≡ full_of m → Passes v t 0 y.records
  passes_start low e =
      let few = before_few y.before in
      subst (λ (t : Tally). Passes v t 0 y.records) (sym e)
      (record {
        before = y.before;
        counts = omega (arith, y.counts);
        measured = measured_start m y.records low (before_some y.before);
        blocks = omega arith;
        bytes = omega arith;
      })

  module _ {at : Spot} {t : Tally} {number : ℕ} {rest : List (List ℕ)} (w : Passes at t number rest) where
    pub passes_coming : number < count → Coming s at
    passes_coming l = go rest w.before w.counts
      where
        go : (rest : List (List ℕ)) → Before y.g s at rest → number + length rest ≡ count → Coming s at
        go [] b e = absurd (omega arith)
        go (r ∷ more) b e = record { g = y.g; next = r; more = more; before = b }

    pub passes_turn : number < count → {a : RecordAhead} → Comes s at a → Turn at t number rest a
    passes_turn l {a} h = go rest w.before w.counts w.measured w.blocks w.bytes
      where
        go : (rest : List (List ℕ)) → Before y.g s at rest → number + length rest ≡ count → Measured m y.records t true rest → t.blocks + length (joined rest) ≤ 65536
            → t.bytes + 9 * length (joined rest) ≤ 589824 → Turn at t number rest a
        go [] b e k i j = absurd (omega arith)
        go (r ∷ more) b e k i j =
            let size : a.size ≡ length r = h.size y.g r more b in
            let sum = length-append r (joined more) in
            record {
              next = r;
              more = more;
              is = refl;
              before = b;
              size = size;
              behind = h.behind y.g r more b;
              counts = omega arith;
              measured = k;
              blocks = omega arith;
              bytes = omega arith;
            }

    pub passes_end : count ≤ number → rest ≡ []
    passes_end l = go rest w.counts
      where
        go : (rest : List (List ℕ)) → number + length rest ≡ count → rest ≡ []
        go [] e = refl
        go (r ∷ more) e = absurd (omega arith)

  module _ (low : 9 ≤ m) (high : m < 65536) {at : Spot} {t : Tally} {number : ℕ} {rest : List (List ℕ)} {a : RecordAhead} (x : Turn at t number rest a) where
    pub turn_small : CutSmall m t a.size
    turn_small = record { low = low; high = high; inside = x.measured.inside; blocks = omega (arith, x.blocks); bytes = omega (arith, x.bytes) }

    pub turn_passes : {u : Tally} → u ≡ behind_record m t a.size → Passes a.behind u (number + 1) x.more
    turn_passes e =
        let g = behind_grown m low t a.size x.measured.inside in
        subst (λ (u : Tally). Passes a.behind u (number + 1) x.more) (sym e)
        (record {
          before = x.behind;
          counts = x.counts;
          measured = measured_record m y.records low t x.next x.more a.size x.size x.measured;
          blocks = omega (arith, x.blocks, g.few);
          bytes = omega (arith, x.bytes, g.most);
        })

-- what is measured behind the last record
pub measures : {m : ℕ} {s : List ℕ} {v : Spot} {count : ℕ} → SpotStanding s v count → {at : Spot} {t : Tally} {number : ℕ} → ((y : SpotStanding s v count) → (rest : List (List ℕ)) × Passes m y at t number rest) → count ≤ number
    → SpannedMeasures m s v count t
measures {m} {s} {v} {count} z {at} {t} {number} w l =
    record {
      blocks = λ y. (ended y).0;
      bytes = λ y. (ended y).1;
      few = omega (arith, (w z).1.blocks);
      most = omega (arith, (w z).1.bytes);
    }
  where
    ended : (y : SpotStanding s v count) → (t.blocks ≡ length (segmented m y.records)) × (t.bytes ≡ length (joined (map span_of (segmented m y.records))))
    ended y = measured_end m y.records (subst (Measured m y.records t true) (passes_end m y (w y).1 l) (w y).1.measured)
