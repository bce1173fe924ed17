-- Two outcomes that a promise allows for one input are equal, for each function that other crates call: each promise says what the outcome is.
use mathlib.Core.Path.{◌≡◌, sym, ◌∙◌}
use mathlib.Core.List.{List}
use Prim.Native.Nat.{ℕ}
use Rattle.pieces.specs.declared.Form.{Form}
use Rattle.reels.specs.Header.{HeaderRead, header_of, block_part}
use Rattle.reels.specs.Records.{BlockRead, ReelRead, BlockSays, ReadAs}
use Rattle.reels.proofs.ReelTold.{answer_once}

pub only_one_header : (s : List ℕ) (r r' : HeaderRead) → r ≡ header_of s → r' ≡ header_of s → r ≡ r'
only_one_header s r r' e f = e ∙ sym f

pub only_one_block : (s : List ℕ) (i : ℕ) (r r' : List ℕ) → r ≡ block_part s i → r' ≡ block_part s i → r ≡ r'
only_one_block s i r r' e f = e ∙ sym f

pub only_one_rule : (form : Form) (b : List ℕ) (r r' : BlockRead) → BlockSays form b r → BlockSays form b r' → r ≡ r'
only_one_rule form b r r' j j' = j.is ∙ sym j'.is

pub only_one_read_reel : (form : Form) (s : List ℕ) (r r' : ReelRead) → ReadAs form s r → ReadAs form s r' → r ≡ r'
only_one_read_reel form s r r' w w' = answer_once r r' (w.is ∙ sym w'.is)
