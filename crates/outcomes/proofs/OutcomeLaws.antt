-- What a run answers is what the rules answer, and what it leaves in the lent output: by the two tests of refusal 15, and since a refusal changes nothing.
use mathlib.Core.Path.{◌≡◌, refl, ap, sym, ◌∙◌}
use mathlib.Core.Bool.{Bool, true, false}
use mathlib.Core.List.{List, ◌++◌}
use Prim.Native.Nat.{ℕ, ◌<◌}
use native.Mathlib.Omega.{arith}
use lib.Dec.{ltb}
use lib.ListN.{length, drop}
use borrow.Author.Tests.{ltb-true, ltb-false, le-leb, lt-leb}
use Rattle.rules.specs.Answer.{Answer, fine, refuse, ◌>>◌, unless}
use Rattle.rules.specs.Run.{RunOutput, housed}
use Rattle.rules.specs.Halves.{over}
use Rattle.rules.specs.Lent.{RunAnswer, run_answer, output_after}
use Rattle.rules.proofs.Base.LentParts.{front_over}
use Rattle.outcomes.specs.declared.Ran.{Ran}
use Rattle.outcomes.specs.Promise.{ran_struct, run_numbers, refused_run, housed_run}

-- ---- the struct

-- it says all that the rules answer
pub run_told : (x : RunAnswer) → run_numbers (ran_struct x) ≡ x
run_told x = refl

-- ---- 15

abbrev pub room_answer : ℕ → RunOutput → Ran
room_answer room x = housed_run room (length x.reel) x.records x.blocks

pub room_is : (room : ℕ) (x : RunOutput) → ran_struct (run_answer (housed room x)) ≡ room_answer room x
unfolding housed housed_run unless ◌>>◌
room_is room x = go (ltb room (length x.reel)) refl (ltb 65536 (length x.reel)) refl
  where
    go : (t : Bool) → ltb room (length x.reel) ≡ t → (u : Bool) → ltb 65536 (length x.reel) ≡ u → ran_struct (run_answer (housed room x)) ≡ room_answer room x
    go true t u w = rw (lt-leb (length x.reel) room (ltb-true room (length x.reel) t), t) refl
    go false t true w = rw (le-leb (length x.reel) room (ltb-false room (length x.reel) t), lt-leb (length x.reel) 65536 (ltb-true 65536 (length x.reel) w), t, w) refl
    go false t false w = rw (le-leb (length x.reel) room (ltb-false room (length x.reel) t), le-leb (length x.reel) 65536 (ltb-false 65536 (length x.reel) w), t, w) refl

-- ---- the lent output

-- a refusal leaves it as it was
pub refuses : (a : Answer RunOutput) (r : Ran) → r ≡ ran_struct (run_answer a) → 0 < r.refusal → (old : List ℕ) → old ≡ output_after old a
refuses (fine x) r e l old = absurd (let z = ap (λ (q : Ran). q.refusal) e in omega arith)
refuses (refuse f) r e l old = refl

-- a finished run puts its reel at the front
pub over_front : (v old new : List ℕ) (x : RunOutput) → x.reel ≡ v → new ≡ over 0 v old → new ≡ output_after old (fine x)
over_front v old new x e h = h ∙ sym (front_over (length v) old v refl) ∙ ap (λ (z : List ℕ). z ++ drop (length z) old) (sym e)

-- ---- one answer

pub refused_only_one : (number place column : ℕ) (x y : Ran) → x ≡ refused_run number place column → y ≡ refused_run number place column → x ≡ y
refused_only_one number place column x y h k = h ∙ sym k

pub housed_only_one : (room size records blocks : ℕ) (x y : Ran) → x ≡ housed_run room size records blocks → y ≡ housed_run room size records blocks → x ≡ y
housed_only_one room size records blocks x y h k = h ∙ sym k
