-- The second lowest permitted value is the next after the lowest: what one field permits in a half has no gap, so what all of them permit has none.
use mathlib.Core.Path.{◌≡◌}
use mathlib.Core.Bool.{Bool, true, false, cond}
use mathlib.Core.List.{List, [], ◌∷◌}
use Prim.Native.Nat.{ℕ, suc, ◌-◌, ◌*◌, ◌%◌, ◌≤◌, ◌<◌}
use native.Mathlib.Omega.{arith}
use lib.Dec.{eqb}
use borrow.Author.Tests.{eqb-true, eq-eqb}
use Rattle.rules.specs.Base.{within}
use Rattle.rules.specs.Halves.{Kind, copy, pack, unpack, Field, reads_from}
use Rattle.rules.specs.Permitted.{kind_allows, reads, allows, permitted, choices}
use Rattle.rules.specs.Plan.{Plan, input_halves, allowed, lost_at}
use Rattle.rules.specs.Twins.{lowest, second}
use Rattle.rules.proofs.Base.Tests.{and_left, and_right, and_both, within_low, within_high, within_of}
use Rattle.rules.proofs.Keeping.KeepingLaws.{lowest_passes, second_passes, second_first}
use Rattle.rules.proofs.Twins.TwinLaws.{lost_two}

-- what stands between two values that pass passes too
abbrev NoGap : (ℕ → Bool) → Type 0
NoGap q = (a v b : ℕ) → a ≤ v → v ≤ b → q a ≡ true → q b ≡ true → q v ≡ true

within_gap : (l h : ℕ) → NoGap (within l h)
within_gap l h a v b m n p q = within_of l h v (omega (arith, within_low l h a p)) (omega (arith, within_high l h b q))

one_gap : (w : ℕ) → NoGap (λ v. eqb v w)
one_gap w a v b m n p q = eq-eqb v w (omega (arith, eqb-true a w p, eqb-true b w q))

either_gap : (t : Bool) (x y : ℕ → Bool) → NoGap x → NoGap y → NoGap (λ v. cond t (x v) (y v))
either_gap true x y p q = p
either_gap false x y p q = q

kind_gap : (zone : ℕ) (c : Kind) (j : ℕ) → NoGap (kind_allows zone c j)
kind_gap zone (copy s) j = within_gap 0 15
kind_gap zone (pack n m) j = either_gap (eqb (j % 2) 1) _ _ (within_gap 0 9) (either_gap (eqb j (2 * n - 2)) _ _ (within_gap 10 15) (one_gap zone))
kind_gap zone (unpack n m) j = either_gap (eqb j (2 * n - 1)) _ _ (within_gap 10 15) (within_gap 0 9)

field_gap : (zone : ℕ) (f : Field) (i : ℕ) → NoGap (allows zone f i)
unfolding allows
field_gap zone f i = either_gap (reads f i) _ _ (kind_gap zone f.kind (i - reads_from f)) (within_gap 0 15)

permitted_gap : (zone : ℕ) (fs : List Field) (i : ℕ) → NoGap (permitted zone fs i)
permitted_gap zone [] i a v b m n p q = within_gap 0 15 a v b m n p q
permitted_gap zone (f ∷ fs) i a v b m n p q =
    and_both (field_gap zone f i a v b m n (and_left (allows zone f i a) _ p) (and_left (allows zone f i b) _ q))
    (permitted_gap zone fs i a v b m n (and_right (allows zone f i a) _ p) (and_right (allows zone f i b) _ q))

pub second_next : (p : Plan) (i : ℕ) → 2 ≤ choices (allowed p) i → second (allowed p) i ≡ suc (lowest (allowed p) i)
unfolding allowed
second_next p i c =
    let q = allowed p in
    let low = lowest_passes q i (omega arith) in
    let w = second_passes q i c in
    let next : q i (suc (lowest q i)) ≡ true = permitted_gap p.zone p.fields i (lowest q i) (suc (lowest q i)) (second q i) (omega arith) w.0 low.1 w.2 in
    omega (arith, w.0, second_first q i (suc (lowest q i)) (omega arith) next)

-- of the lost half
pub lost_next : (p : Plan) → lost_at p < input_halves p → second (allowed p) (lost_at p) ≡ suc (lowest (allowed p) (lost_at p))
lost_next p l = second_next p (lost_at p) (lost_two p l)
