-- The measure of a filling, cut by cut: what is tallied and what is left make all blocks and all bytes. By what a cut takes, and by the laws of the filling.
use mathlib.Core.Path.{◌≡◌, refl, ap, ap₂, sym, ◌∙◌, subst}
use mathlib.Core.Bool.{Bool, true, false}
use mathlib.Core.List.{List, [], ◌∷◌, map}
use Prim.Native.Nat.{ℕ, zero, suc, ◌+◌, ◌-◌, ◌≤◌, ◌<◌}
use native.Mathlib.Omega.{arith}
use lib.Dec.{ltb}
use borrow.Author.Tests.{ltb-true, ltb-false}
use lib.ListN.{length, drop, length-drop}
use Rattle.rules.specs.Base.{joined}
use Rattle.rules.specs.Places.{All, also}
use Rattle.rules.specs.Spanned.{span_of, segmented}
use Rattle.rules.proofs.Spanned.SpannedMeasure.{bytes_left, blocks_left, left_start, left_end, left_new, left_all, left_part}
use Rattle.fillings.specs.declared.Tally.{Tally}
use Rattle.cuts.specs.Cutting.{full_of, opened_of, cut_of, tally_from, behind_record}
use Rattle.cuts.proofs.CutLaws.{opened_new, opened_same, opened_is, cut_is, tally_none, tally_step}

module _ (m : ℕ) (rs : List (List ℕ)) where
  -- this is tallied, and the rest is the filling of what is pending; its first record is begun, or not
  pub record Measured (t : Tally) (fresh : Bool) (pending : List (List ℕ)) : Type 0 where
    pub inside : t.size ≤ m
    pub blocks : t.blocks + blocks_left m (m - t.size) fresh pending ≡ length (segmented m rs)
    pub bytes : t.bytes + bytes_left m (m - t.size) fresh pending ≡ length (joined (map span_of (segmented m rs)))
    pub some : All (λ r. 1 ≤ length r) pending

  pub measured_end : {t : Tally} {fresh : Bool} → Measured t fresh [] → (t.blocks ≡ length (segmented m rs)) × (t.bytes ≡ length (joined (map span_of (segmented m rs))))
  measured_end {t} {fresh} w =
      let e = left_end m (m - t.size) fresh in (omega (arith, w.blocks, e.1), omega (arith, w.bytes, e.0))

  module _ (low : 9 ≤ m) where
    pub measured_start : All (λ r. 1 ≤ length r) rs → Measured (full_of m) true rs
    measured_start a =
        let s = left_start m low rs in
        let z : m - m ≡ 0 = omega arith in
        record {
          inside = omega arith;
          blocks = omega (arith, ap (λ (k : ℕ). blocks_left m k true rs) z, s.1);
          bytes = omega (arith, ap (λ (k : ℕ). bytes_left m k true rs) z, s.0);
          some = a;
        }

    measured_open : (t : Tally) (fresh : Bool) (r : List ℕ) (more : List (List ℕ)) → Measured t fresh (r ∷ more) → Measured (opened_of m t) fresh (r ∷ more)
    measured_open t fresh r more w = go (ltb (m - t.size) 5) refl
      where
        go : (q : Bool) → ltb (m - t.size) 5 ≡ q → Measured (opened_of m t) fresh (r ∷ more)
        go true q =
            let l : m - t.size < 5 = ltb-true (m - t.size) 5 q in
            let n = left_new m low (m - t.size) fresh r more l in
            subst (λ (b : Tally). Measured b fresh (r ∷ more)) (opened_new m t l)
            (record { inside = omega arith; blocks = omega (arith, w.blocks, n.1); bytes = omega (arith, w.bytes, n.0); some = w.some })
        go false q = subst (λ (b : Tally). Measured b fresh (r ∷ more)) (opened_same m t (ltb-false (m - t.size) 5 q)) w

    -- all that is left of the record
    measured_all : (t : Tally) (fresh : Bool) (r : List ℕ) (more : List (List ℕ)) → length r + 4 ≤ m - (opened_of m t).size → Measured t fresh (r ∷ more)
        → Measured (cut_of m t (length r)).tally true more
    measured_all t fresh r more l w = go (measured_open t fresh r more w) w.some
      where
        go : Measured (opened_of m t) fresh (r ∷ more) → All (λ r. 1 ≤ length r) (r ∷ more) → Measured (cut_of m t (length r)).tally true more
        go o (also s a) =
            let b = opened_of m t in
            let u = (cut_of m t (length r)).tally in
            let c = cut_is m low t (length r) in
            let n = left_all m low (m - b.size) fresh r a s l in
            let k : m - u.size ≡ m - b.size - (length r + 4) = omega (arith, c.size, c.all l) in
            record {
              inside = c.inside;
              blocks = ap (λ (i : ℕ). u.blocks + blocks_left m i true more) k ∙ (let z : u.blocks + blocks_left m (m - b.size - (length r + 4)) true more ≡ length (segmented m rs) = omega (arith, o.blocks, n.1, c.blocks) in z);
              bytes = ap (λ (i : ℕ). u.bytes + bytes_left m i true more) k ∙ (let z : u.bytes + bytes_left m (m - b.size - (length r + 4)) true more ≡ length (joined (map span_of (segmented m rs))) = omega (arith, o.bytes, n.0, c.bytes, c.all l) in z);
              some = a;
            }

    -- all that is left of the block
    measured_part : (t : Tally) (fresh : Bool) (r : List ℕ) (more : List (List ℕ)) → m - (opened_of m t).size < length r + 4 → Measured t fresh (r ∷ more)
        → Measured (cut_of m t (length r)).tally false (drop (cut_of m t (length r)).size r ∷ more)
    measured_part t fresh r more l w = go (measured_open t fresh r more w) w.some
      where
        go : Measured (opened_of m t) fresh (r ∷ more) → All (λ r. 1 ≤ length r) (r ∷ more)
            → Measured (cut_of m t (length r)).tally false (drop (cut_of m t (length r)).size r ∷ more)
        go o (also s a) =
            let b = opened_of m t in
            let p = cut_of m t (length r) in
            let c = cut_is m low t (length r) in
            let room = (opened_is m low t).room in
            let n = left_part m low (m - b.size) fresh r a room l in
            let e : m - b.size - 4 ≡ p.size = sym (c.part l) in
            let k : m - p.tally.size ≡ 0 = omega (arith, c.size, c.part l) in
            let left = drop p.size r in
            let same_blocks : blocks_left m 0 false (drop (m - b.size - 4) r ∷ more) ≡ blocks_left m (m - p.tally.size) false (left ∷ more)
            = ap₂ (λ (i j : ℕ). blocks_left m j false (drop i r ∷ more)) e (sym k) in
            let same_bytes : bytes_left m 0 false (drop (m - b.size - 4) r ∷ more) ≡ bytes_left m (m - p.tally.size) false (left ∷ more)
            = ap₂ (λ (i j : ℕ). bytes_left m j false (drop i r ∷ more)) e (sym k) in
            record {
              inside = c.inside;
              blocks = omega (arith, o.blocks, n.1, c.blocks, same_blocks);
              bytes = omega (arith, o.bytes, n.0, c.bytes, c.part l, same_bytes);
              some = also {x = left} (let z : 1 ≤ length left = omega (arith, length-drop p.size r, c.part l) in z) a;
            }

    -- a record more
    pub measured_from : (k : ℕ) (t : Tally) (fresh : Bool) (r : List ℕ) (more : List (List ℕ)) → length r ≤ k → Measured t fresh (r ∷ more)
        → Measured (tally_from m k t (length r)) true more
    measured_from zero t fresh r more l w = go w.some
      where
        go : All (λ r. 1 ≤ length r) (r ∷ more) → Measured t true more
        go (also s a) = absurd (omega arith)
    measured_from (suc k) t fresh r more l w = go (measured_from k) w.some (ltb (m - (opened_of m t).size) (length r + 4)) refl
      where
        go : ((u : Tally) (fresh : Bool) (r : List ℕ) (more : List (List ℕ)) → length r ≤ k → Measured u fresh (r ∷ more) → Measured (tally_from m k u (length r)) true more)
            → All (λ r. 1 ≤ length r) (r ∷ more) → (q : Bool) → ltb (m - (opened_of m t).size) (length r + 4) ≡ q → Measured (tally_from m (suc k) t (length r)) true more
        go ih (also s a) true q =
            let p = cut_of m t (length r) in
            let c = cut_is m low t (length r) in
            let one = c.some s in
            let d = length-drop p.size r in
            subst (λ (u : Tally). Measured u true more)
            (ap (tally_from m k p.tally) d ∙ sym (tally_step m k t (length r) s))
            (ih p.tally false (drop p.size r) more (omega arith) (measured_part t fresh r more (ltb-true (m - (opened_of m t).size) (length r + 4) q) w))
        go ih (also s a) false q =
            let p = cut_of m t (length r) in
            let c = cut_is m low t (length r) in
            let h : length r + 4 ≤ m - (opened_of m t).size = ltb-false (m - (opened_of m t).size) (length r + 4) q in
            let z : 0 ≡ length r - p.size = omega (arith, c.all h) in
            subst (λ (u : Tally). Measured u true more)
            (sym (tally_none m k p.tally) ∙ ap (tally_from m k p.tally) z ∙ sym (tally_step m k t (length r) s))
            (measured_all t fresh r more h w)

    pub measured_record : (t : Tally) (r : List ℕ) (more : List (List ℕ)) (size : ℕ) → size ≡ length r → Measured t true (r ∷ more) → Measured (behind_record m t size) true more
    unfolding behind_record
    measured_record t r more size e w =
        subst (λ (n : ℕ). Measured (tally_from m n t n) true more) (sym e) (measured_from (length r) t true r more (omega arith) w)
