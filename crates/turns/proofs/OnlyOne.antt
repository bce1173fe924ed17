-- Two outcomes that the promise allows for one input are equal: it says what the answer is, and each answer is that of one outcome.
use mathlib.Core.Path.{◌≡◌, sym, ◌∙◌}
use mathlib.Core.List.{List}
use Prim.Native.Nat.{ℕ}
use Rattle.reels.specs.Records.{ReelRead}
use Rattle.reels.proofs.ReelTold.{answer_once}
use Rattle.turns.specs.Promise.{SpannedAs}

pub only_one_read_spanned : (g : ℕ) (s : List ℕ) (r r' : ReelRead) → SpannedAs g s r → SpannedAs g s r' → r ≡ r'
only_one_read_spanned g s r r' w w' = answer_once r r' (w.is ∙ sym w'.is)
