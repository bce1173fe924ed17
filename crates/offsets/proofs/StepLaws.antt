-- Offsets a step apart: one goes out at each turn, and behind the last the end. By the number of steps that are left at most.
use mathlib.Core.Path.{◌≡◌, refl, ap, sym, ◌∙◌}
use mathlib.Core.List.{List, [], ◌++◌, append-nil}
use Prim.Native.Nat.{ℕ, zero, suc, ◌+◌, ◌-◌, ◌≤◌, ◌<◌}
use native.Mathlib.Omega.{arith}
use lib.ListN.{length, length-append}
use borrow.Author.Tests.{lt-ltb}
use Rattle.rules.specs.Halves.{over}
use Rattle.rules.specs.Reel.{word}
use Rattle.rules.specs.EvenRecords.{stepped}
use Rattle.rules.proofs.Reel.WordLaws.{length_word}
use Rattle.rules.proofs.Output.EvenFilling.{stepped_end}
use Rattle.offsets.proofs.Sending.{Sent, sent_start, sent_size, sent_length, sent_more, sent_end}

-- the offsets before one stand in the output, and so many steps are left at most
pub record Stepping (step base end : ℕ) (old out : List ℕ) (at next : ℕ) : Type 0 where
  pub fuel : ℕ
  pub enough : end ≤ next + fuel
  pub upto : next ≤ end + step
  pub sent : Sent 4 (stepped (end - base) step base end) old out at (stepped fuel step next end)

pub step_start : (step base end : ℕ) (old : List ℕ) → base ≤ end → 4 + length (stepped (end - base) step base end) ≤ length old → Stepping step base end old old 4 base
step_start step base end old h l =
    record { fuel = end - base; enough = omega arith; upto = omega arith; sent = sent_start 4 (stepped (end - base) step base end) old l }

module _ {step base end : ℕ} {old out : List ℕ} {at next : ℕ} (k : Stepping step base end old out at next) where
  -- the length of what is left
  some_left : (f : ℕ) → end ≤ next + f → next < end → (g : ℕ) × (end ≤ next + (1 + g)) × (stepped f step next end ≡ word next ++ stepped g step (next + step) end)
  some_left zero l h = absurd (omega arith)
  some_left (suc g) l h = (g, omega arith, rw (lt-ltb next end h))

  pub step_room : next < end → at + 4 ≤ length out
  step_room h =
      let w = some_left k.fuel k.enough h in
      omega (arith, sent_size k.sent, sent_length k.sent, k.sent.roomy, ap length w.2, length-append (word next) (stepped w.0 step (next + step) end), length_word next)

  pub step_more : 1 ≤ step → next < end → (new : List ℕ) → new ≡ over at (word next) out → Stepping step base end old new (at + 4) (next + step)
  step_more l h new q =
      let w = some_left k.fuel k.enough h in
      record {
        fuel = w.0;
        enough = omega (arith, w.1);
        upto = omega arith;
        sent = sent_more k.sent (word next) (stepped w.0 step (next + step) end) w.2 (at + 4) (omega (arith, length_word next)) new q;
      }

  -- behind the last
  last_left : end ≤ next → stepped k.fuel step next end ≡ word end ++ []
  last_left h = stepped_end k.fuel step next end h ∙ sym (append-nil (word end))

  pub step_last : end ≤ next → at + 4 ≤ length out
  step_last h =
      omega (arith, sent_size k.sent, sent_length k.sent, k.sent.roomy, ap length (stepped_end k.fuel step next end h), length_word end)

  pub step_end : end ≤ next → (new : List ℕ) → new ≡ over at (word end) out → new ≡ over 4 (stepped (end - base) step base end) old
  step_end h new q = sent_end (sent_more k.sent (word end) [] (last_left h) (at + 4) (omega (arith, length_word end)) new q) refl

-- ---- one outcome only

pub steps_only_one : (step base end : ℕ) (old : List ℕ) {x y : List ℕ} → x ≡ over 4 (stepped (end - base) step base end) old → y ≡ over 4 (stepped (end - base) step base end) old → x ≡ y
steps_only_one step base end old a b = a ∙ sym b
