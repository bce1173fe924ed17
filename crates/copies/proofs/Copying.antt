-- Bytes that stand before the rest of an output are put over its front: this is what `over` says there.
use mathlib.Core.Path.{◌≡◌, refl, sym, ◌∙◌}
use mathlib.Core.List.{List, ◌++◌}
use Prim.Native.Nat.{ℕ, suc, ◌+◌, ◌<◌}
use native.Mathlib.Numerals.{add-one}
use native.Mathlib.Omega.{arith}
use lib.ListN.{length, take, drop, get_or, set}
use lib.Seq.{take-length, take-suc, drop-cons, set_at, append_snoc, length-take-le}
use Rattle.rules.specs.Halves.{over}
use Rattle.rules.proofs.Base.LentParts.{front_over}

pub copied : (s old : List ℕ) (i : ℕ) → i ≡ length s → take i s ++ drop i old ≡ over 0 s old
copied s old i e = rw (e, take-length) (front_over (length s) old s refl)

-- one byte more, at the seam
pub copied_more : (s old : List ℕ) (i : ℕ) → i < length s → i < length old → set (take i s ++ drop i old) i (get_or s i 0) ≡ take (i + 1) s ++ drop (i + 1) old
copied_more s old i l h =
    rw (drop-cons old i 0 h)
    (set_at (take i s) (get_or old i 0) (drop (suc i) old) (get_or s i 0) i (length-take-le i s (omega arith))
    ∙ sym (append_snoc (take i s) (get_or s i 0) (drop (suc i) old))
    ∙ rw (add-one, take-suc s i 0 l) refl)

-- ---- one outcome only

pub copy_only_one : (s old : List ℕ) {x y : List ℕ} → x ≡ over 0 s old → y ≡ over 0 s old → x ≡ y
copy_only_one s old e g = e ∙ sym g
