-- The offset is put exactly where a block is opened. By the test of the two tallies.
use mathlib.Core.Path.{◌≡◌, sym, ◌∙◌}
use mathlib.Core.List.{List}
use Prim.Native.Nat.{ℕ, ◌+◌, ◌*◌, ◌≤◌, ◌<◌}
use borrow.Author.Tests.{lt-ltb, le-ltb}
use Rattle.rules.specs.Halves.{over}
use Rattle.rules.specs.Reel.{word}
use Rattle.fillings.specs.declared.Tally.{Tally}
use Rattle.fillings.specs.Offsets.{offset_put}

module _ (base : ℕ) (tally more : Tally) (out : List ℕ) where
  pub offset_opens : tally.blocks < more.blocks → over (4 * more.blocks) (word (base + tally.bytes)) out ≡ offset_put base tally more out
  unfolding offset_put
  offset_opens l = rw (lt-ltb tally.blocks more.blocks l)

  pub offset_stays : more.blocks ≤ tally.blocks → out ≡ offset_put base tally more out
  unfolding offset_put
  offset_stays l = rw (le-ltb tally.blocks more.blocks l)

-- ---- one outcome only

pub offset_only_one : (base : ℕ) (tally more : Tally) (out : List ℕ) {x y : List ℕ} → x ≡ offset_put base tally more out → y ≡ offset_put base tally more out → x ≡ y
offset_only_one base tally more out a b = a ∙ sym b
