-- The two offsets are read, and the part between them is lent if there is one.
use mathlib.Core.Path.{refl, ap, ◌∙◌}
use mathlib.Core.List.{List}
use denote.Bor.{Bor}
use Prim.Native.Nat.{ℕ}
use native.Mathlib.Omega.{arith}
use Rattle.reels.proofs.HeaderLaws.{words_missing, part_got}
use Rattle.reels.proofs.block.Goals as goal
use Rattle.reels.proofs.block.Goals.{then-end-lt12-via-then-end-lt12, then-end-lt12-via-else-end-lt12+then-i-end}

pub returns-then-end-lt12 : goal.returns-then-end-lt12
returns-then-end-lt12 c =
    elim c.then-end-lt12.branch [
      | then-end-lt12-via-then-end-lt12 w ↦ words_missing _ _ (omega arith)
      | then-end-lt12-via-else-end-lt12+then-i-end w ↦ words_missing _ _ (omega arith)
    ]

pub returns : goal.returns
returns c =
    ap (λ (x : Bor (List ℕ)). x.now) c.unwrap_or.ensures
    ∙ part_got _ _ _ _ (omega arith) c.word-a.ensures.0 c.word-e.ensures.0 _ _ refl c.get.ensures.lookup.0
