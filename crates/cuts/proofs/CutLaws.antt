-- What a cut takes: all that is left of its record, or of its block, and a byte or more. By the room that a block has when it is opened, or has left.
use mathlib.Core.Path.{◌≡◌, refl, ap, sym, ◌∙◌, subst}
use mathlib.Core.Bool.{Bool, true, false}
use Prim.Native.Nat.{ℕ, zero, suc, ◌+◌, ◌-◌, ◌*◌, ◌≤◌, ◌<◌, min}
use native.Mathlib.Omega.{arith}
use lib.Dec.{ltb}
use borrow.Author.Tests.{ltb-true, ltb-false, lt-ltb, le-ltb}
use Rattle.fillings.specs.declared.Tally.{Tally}
use Rattle.cuts.specs.declared.CutTaken.{CutTaken}
use Rattle.cuts.specs.Cutting.{CutSmall, BetweenSegments, full_of, opened_of, part_in, cut_of, tally_from, behind_record}

-- ---- the block that a segment goes into

abbrev pub new_block : Tally → Tally
new_block t = record { blocks = t.blocks + 1; size = 4; bytes = t.bytes + 4 }

module _ (m : ℕ) (t : Tally) where
  pub opened_new : m - t.size < 5 → new_block t ≡ opened_of m t
  unfolding opened_of
  opened_new l = rw (lt-ltb (m - t.size) 5 l)

  pub opened_same : 5 ≤ m - t.size → t ≡ opened_of m t
  unfolding opened_of
  opened_same l = rw (le-ltb (m - t.size) 5 l)

-- it is a new one or the last
pub record Opened (m : ℕ) (t b : Tally) : Type 0 where
  pub room : 5 ≤ m - b.size
  pub least : t.bytes ≤ b.bytes
  pub most : b.bytes ≤ t.bytes + 4
  pub more : t.blocks ≤ b.blocks
  pub one : b.blocks ≤ t.blocks + 1

pub opened_is : (m : ℕ) → 9 ≤ m → (t : Tally) → Opened m t (opened_of m t)
opened_is m low t = go (ltb (m - t.size) 5) refl
  where
    go : (q : Bool) → ltb (m - t.size) 5 ≡ q → Opened m t (opened_of m t)
    go true q =
        subst (Opened m t) (opened_new m t (ltb-true (m - t.size) 5 q))
        (record { room = omega arith; least = omega arith; most = omega arith; more = omega arith; one = omega arith })
    go false q =
        let l : 5 ≤ m - t.size = ltb-false (m - t.size) 5 q in
        subst (Opened m t) (opened_same m t l) (record { room = l; least = omega arith; most = omega arith; more = omega arith; one = omega arith })

-- ---- what a cut takes

pub record Cut (m : ℕ) (b : Tally) (rest : ℕ) (p : CutTaken) : Type 0 where
  pub blocks : p.tally.blocks ≡ b.blocks
  pub size : p.tally.size ≡ b.size + (p.size + 4)
  pub bytes : p.tally.bytes ≡ b.bytes + (p.size + 4)
  pub some : 1 ≤ rest → 1 ≤ p.size
  pub most : p.size ≤ rest
  pub inside : p.tally.size ≤ m
  -- all that is left of the record, or of the block
  pub all : rest + 4 ≤ m - b.size → p.size ≡ rest
  pub part : m - b.size < rest + 4 → p.size ≡ m - b.size - 4

pub cut_is : (m : ℕ) → 9 ≤ m → (t : Tally) (rest : ℕ) → Cut m (opened_of m t) rest (cut_of m t rest)
unfolding cut_of
cut_is m low t rest =
    let o = (opened_is m low t).room in
    record {
      blocks = refl;
      size = refl;
      bytes = refl;
      some = λ l. omega arith;
      most = omega arith;
      inside = omega arith;
      all = λ l. omega arith;
      part = λ l. omega arith;
    }

-- ---- cut by cut

module _ (m : ℕ) where
  pub tally_none : (k : ℕ) (t : Tally) → tally_from m k t 0 ≡ t
  tally_none zero t = refl
  tally_none (suc k) t = refl

  pub tally_step : (k : ℕ) (t : Tally) (rest : ℕ) → 1 ≤ rest → tally_from m (suc k) t rest ≡ tally_from m k (cut_of m t rest).tally (rest - (cut_of m t rest).size)
  tally_step k t zero l = absurd (omega arith)
  tally_step k t (suc n) l = refl

  -- what a tally grows by
  pub record Grown (t : Tally) (rest : ℕ) (u : Tally) : Type 0 where
    pub blocks : t.blocks ≤ u.blocks
    pub few : u.blocks ≤ t.blocks + rest
    pub bytes : t.bytes + rest ≤ u.bytes
    pub most : u.bytes ≤ t.bytes + 9 * rest
    pub inside : u.size ≤ m

  module _ (low : 9 ≤ m) where
    pub grown : (k : ℕ) (t : Tally) (rest : ℕ) → rest ≤ k → t.size ≤ m → Grown t rest (tally_from m k t rest)
    grown zero t rest l i = record { blocks = omega arith; few = omega arith; bytes = omega arith; most = omega arith; inside = i }
    grown (suc k) t zero l i = record { blocks = omega arith; few = omega arith; bytes = omega arith; most = omega arith; inside = i }
    grown (suc k) t (suc n) l i =
        let p = cut_of m t (suc n) in
        let o = opened_is m low t in
        let c = cut_is m low t (suc n) in
        let one : 1 ≤ p.size = c.some (omega arith) in
        let g = grown k p.tally (suc n - p.size) (omega arith) c.inside in
        record {
          blocks = omega (arith, g.blocks, c.blocks, o.more);
          few = omega (arith, g.few, c.blocks, c.most, o.one);
          bytes = omega (arith, g.bytes, c.bytes, c.most, o.least);
          most = omega (arith, g.most, c.bytes, c.most, o.most);
          inside = g.inside;
        }

    pub behind_grown : (t : Tally) (size : ℕ) → t.size ≤ m → Grown t size (behind_record m t size)
    unfolding behind_record
    behind_grown t size i = grown size t size (omega arith) i

-- ---- as the code goes

pub block_is : {m : ℕ} {t : Tally} {rest : ℕ} → CutSmall m t rest → {b : Tally} → b ≡ opened_of m t → Opened m t b
block_is {m} {t} y e = subst (Opened m t) (sym e) (opened_is m y.low t)

pub cut_as : (m : ℕ) (t : Tally) (rest : ℕ) (b : Tally) → b ≡ opened_of m t → (n : ℕ) → n ≡ min rest (m - b.size - 4) → part_in b n ≡ cut_of m t rest
unfolding cut_of
cut_as m t rest b e n q = ap (part_in b) q ∙ ap (λ (x : Tally). part_in x (min rest (m - x.size - 4))) e

-- a cut, and what is left behind it
pub record Next (m : ℕ) (t : Tally) (rest : ℕ) (p : CutTaken) : Type 0 where
  pub some : 1 ≤ rest → 1 ≤ p.size
  pub most : p.size ≤ rest
  pub small : 1 ≤ rest → CutSmall m p.tally (rest - p.size)

pub next_is : {m : ℕ} {t : Tally} {rest : ℕ} → CutSmall m t rest → {p : CutTaken} → p ≡ cut_of m t rest → Next m t rest p
next_is {m} {t} {rest} y e =
    let c = cut_is m y.low t rest in
    let o = opened_is m y.low t in
    subst (Next m t rest) (sym e)
    (record {
      some = c.some;
      most = c.most;
      small = λ l.
          let one = c.some l in
          record {
            low = y.low;
            high = y.high;
            inside = c.inside;
            blocks = omega (arith, c.blocks, c.most, o.one, y.blocks);
            bytes = omega (arith, c.bytes, c.most, o.most, y.bytes);
          };
    })

-- behind some cuts of a record of so many bytes, from a tally on
pub record Going (m : ℕ) (start : Tally) (size : ℕ) (t : Tally) (rest : ℕ) : Type 0 where
  pub steps : ℕ
  pub enough : rest ≤ steps
  pub is : behind_record m start size ≡ tally_from m steps t rest
  pub small : CutSmall m t rest

pub going_start : {m : ℕ} {start : Tally} {size : ℕ} → CutSmall m start size → Going m start size start size
unfolding behind_record
going_start {size = size} y = record { steps = size; enough = omega arith; is = refl; small = y }

module _ {m : ℕ} {start : Tally} {size : ℕ} {t : Tally} where
  pub going_next : {rest : ℕ} → Going m start size t rest → 1 ≤ rest → {p : CutTaken} → p ≡ cut_of m t rest → Going m start size p.tally (rest - p.size)
  going_next {rest} w l {p} e = go w.steps w.enough w.is
    where
      go : (k : ℕ) → rest ≤ k → behind_record m start size ≡ tally_from m k t rest → Going m start size p.tally (rest - p.size)
      go zero h q = absurd (omega arith)
      go (suc k) h q =
          let n = next_is w.small e in
          let one = n.some l in
          record {
            steps = k;
            enough = omega (arith, n.most);
            is = q ∙ tally_step m k t rest l ∙ ap (λ (x : CutTaken). tally_from m k x.tally (rest - x.size)) (sym e);
            small = n.small l;
          }

  pub going_end : {rest : ℕ} → Going m start size t rest → rest ≤ 0 → t ≡ behind_record m start size
  going_end {rest} w l = sym (w.is ∙ ap (tally_from m w.steps t) (let z : rest ≡ 0 = omega arith in z) ∙ tally_none m w.steps t)

module _ {m : ℕ} {start : Tally} {size : ℕ} {t : Tally} {rest : ℕ} (w : Going m start size t rest) where
  -- no tally on the way is past the last
  pub going_most : (t.blocks ≤ (behind_record m start size).blocks) × (t.bytes ≤ (behind_record m start size).bytes)
  going_most =
      let g = grown m w.small.low w.steps t rest w.enough w.small.inside in
      let blocks : (behind_record m start size).blocks ≡ (tally_from m w.steps t rest).blocks = ap (λ (x : Tally). x.blocks) w.is in
      let bytes : (behind_record m start size).bytes ≡ (tally_from m w.steps t rest).bytes = ap (λ (x : Tally). x.bytes) w.is in
      (omega (arith, g.blocks), omega (arith, g.bytes))

  pub going_more : 1 ≤ rest → {p : CutTaken} → p ≡ cut_of m t rest → t.bytes ≤ p.tally.bytes
  going_more l {p} e =
      let c = cut_is m w.small.low t rest in
      let o = opened_is m w.small.low t in
      let same : p.tally.bytes ≡ (cut_of m t rest).tally.bytes = ap (λ (x : CutTaken). x.tally.bytes) e in
      omega (arith, c.bytes, o.least)

-- ---- the last block is one of those so far

pub fair_next : {m : ℕ} → 9 ≤ m → {t : Tally} → BetweenSegments m t → (rest : ℕ) {p : CutTaken} → p ≡ cut_of m t rest → BetweenSegments m p.tally × (1 ≤ p.tally.blocks) × (p.size + 8 ≤ p.tally.size)
fair_next {m} low {t} f rest e = subst (λ (p : CutTaken). BetweenSegments m p.tally × (1 ≤ p.tally.blocks) × (p.size + 8 ≤ p.tally.size)) (sym e) (go (ltb (m - t.size) 5) refl)
  where
    go : (q : Bool) → ltb (m - t.size) 5 ≡ q
        → BetweenSegments m (cut_of m t rest).tally × (1 ≤ (cut_of m t rest).tally.blocks) × ((cut_of m t rest).size + 8 ≤ (cut_of m t rest).tally.size)
    go true q =
        let c = cut_is m low t rest in
        let b = opened_new m t (ltb-true (m - t.size) 5 q) in
        let many : (opened_of m t).blocks ≡ t.blocks + 1 = sym (ap (λ (x : Tally). x.blocks) b) in
        let size : (opened_of m t).size ≡ 4 = sym (ap (λ (x : Tally). x.size) b) in
        let bytes : (opened_of m t).bytes ≡ t.bytes + 4 = sym (ap (λ (x : Tally). x.bytes) b) in (
          record { word = omega (arith, c.size); none = λ e. absurd (omega (arith, c.blocks)); last = λ l. omega (arith, c.size, c.bytes) },
          omega (arith, c.blocks),
          omega (arith, c.size),
        )
    go false q =
        let c = cut_is m low t rest in
        let l : 5 ≤ m - t.size = ltb-false (m - t.size) 5 q in
        let b = opened_same m t l in
        let same : (opened_of m t).blocks ≡ t.blocks = sym (ap (λ (x : Tally). x.blocks) b) in
        let size : (opened_of m t).size ≡ t.size = sym (ap (λ (x : Tally). x.size) b) in
        let bytes : (opened_of m t).bytes ≡ t.bytes = sym (ap (λ (x : Tally). x.bytes) b) in
        let some : 1 ≤ t.blocks = some_block t.blocks refl in (
          record { word = omega (arith, c.size); none = λ e. absurd (omega (arith, c.blocks)); last = λ k. omega (arith, c.size, c.bytes, f.last some) },
          omega (arith, c.blocks),
          omega (arith, c.size, f.word),
        )
      where
        some_block : (k : ℕ) → t.blocks ≡ k → 1 ≤ t.blocks
        some_block zero e = absurd (omega (arith, f.none e, ltb-false (m - t.size) 5 q))
        some_block (suc k) e = omega arith

-- ---- one outcome only

pub full_only_one : (m : ℕ) {x y : Tally} → x ≡ full_of m → y ≡ full_of m → x ≡ y
full_only_one m a b = a ∙ sym b

pub cut_only_one : (m : ℕ) (t : Tally) (rest : ℕ) {x y : CutTaken} → x ≡ cut_of m t rest → y ≡ cut_of m t rest → x ≡ y
cut_only_one m t rest a b = a ∙ sym b

pub behind_only_one : (m : ℕ) (t : Tally) (size : ℕ) {x y : Tally} → x ≡ behind_record m t size → y ≡ behind_record m t size → x ≡ y
behind_only_one m t size a b = a ∙ sym b
