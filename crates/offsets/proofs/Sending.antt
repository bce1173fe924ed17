-- Bytes that are put into an output one part behind another: what is done, and what is left. By the laws of what is put over an output.
use mathlib.Core.Path.{◌≡◌, refl, ap, sym, ◌∙◌}
use mathlib.Core.List.{List, [], ◌++◌, append-nil, append_assoc}
use Prim.Native.Nat.{ℕ, ◌+◌, ◌≤◌}
use native.Mathlib.Omega.{arith}
use lib.ListN.{length, length-append}
use Rattle.rules.specs.Halves.{over}
use Rattle.rules.proofs.Halves.SizeLaws.{length_over}
use Rattle.rules.proofs.Halves.PlaceLaws.{over_nothing, over_behind}

-- of all bytes, which go from a place on, those up to another place stand in the output
pub record Sent (from : ℕ) (all old out : List ℕ) (at : ℕ) (left : List ℕ) : Type 0 where
  pub done : List ℕ
  pub is : out ≡ over from done old
  pub here : at ≡ from + length done
  pub split : all ≡ done ++ left
  pub roomy : from + length all ≤ length old

pub sent_start : (from : ℕ) (all old : List ℕ) → from + length all ≤ length old → Sent from all old old from all
sent_start from all old l = record { done = []; is = sym (over_nothing from old); here = omega arith; split = refl; roomy = l }

module _ {from : ℕ} {all old out : List ℕ} {at : ℕ} {left : List ℕ} (s : Sent from all old out at left) where
  pub sent_size : at + length left ≡ from + length all
  sent_size = omega (arith, ap length s.split, length-append s.done left, s.here)

  pub sent_length : length out ≡ length old
  sent_length = ap length s.is ∙ length_over from s.done old (omega (arith, sent_size, s.here, s.roomy))

  pub sent_more : (x y : List ℕ) → left ≡ x ++ y → (next : ℕ) → next ≡ at + length x → (new : List ℕ) → new ≡ over at x out → Sent from all old new next y
  sent_more x y e next n new q =
      record {
        done = s.done ++ x;
        is =
            q
            ∙ ap (over at x) s.is
            ∙ over_behind from at s.done x old s.here (omega (arith, sent_size, s.roomy, ap length e, length-append x y));
        here = omega (arith, s.here, length-append s.done x);
        split = s.split ∙ ap (s.done ++◌) e ∙ sym (append_assoc s.done x y);
        roomy = s.roomy;
      }

  pub sent_end : left ≡ [] → out ≡ over from all old
  sent_end e = s.is ∙ ap (λ (x : List ℕ). over from x old) (sym (s.split ∙ ap (s.done ++◌) e ∙ append-nil s.done))
