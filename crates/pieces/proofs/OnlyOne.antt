-- Two outcomes that a promise allows for one input are equal, for each function that other crates call: each promise says what the outcome is.
use mathlib.Core.Path.{◌≡◌, sym, ◌∙◌}
use mathlib.Core.List.{List}
use Prim.Native.Nat.{ℕ}
use Rattle.rules.specs.Halves.{over}
use Rattle.rules.specs.Output.{length_word}
use Rattle.rules.specs.Spanned.{coded_word}
use Rattle.rules.specs.Reel.{word}
use Rattle.rules.specs.ReelPlaces.{word_at}
use Rattle.pieces.specs.Pieces.{StartRead, PieceRead, variable_start, start_of, piece_read_of, worded_in}
use Rattle.pieces.specs.declared.Form.{Form}

pub only_one_word : (s : List ℕ) (at r r' : ℕ) → r ≡ word_at s at → r' ≡ word_at s at → r ≡ r'
only_one_word s at r r' e f = e ∙ sym f

pub only_one_start : (form : Form) (b : List ℕ) (r r' : StartRead) → r ≡ start_of form b → r' ≡ start_of form b → r ≡ r'
only_one_start form b r r' e f = e ∙ sym f

pub only_one_variable_start : (b : List ℕ) (r r' : StartRead) → r ≡ variable_start b → r' ≡ variable_start b → r ≡ r'
only_one_variable_start b r r' e f = e ∙ sym f

pub only_one_piece : (form : Form) (b : List ℕ) (i : ℕ) (r r' : PieceRead) → r ≡ piece_read_of form b i → r' ≡ piece_read_of form b i → r ≡ r'
only_one_piece form b i r r' e f = e ∙ sym f

pub only_one_segment : (b : List ℕ) (i : ℕ) (r r' : PieceRead) → r ≡ worded_in 3 b i → r' ≡ worded_in 3 b i → r ≡ r'
only_one_segment b i r r' e f = e ∙ sym f

pub only_one_put_word : (at value : ℕ) (out x x' : List ℕ) → x ≡ over at (word value) out → x' ≡ over at (word value) out → x ≡ x'
only_one_put_word at value out x x' e f = e ∙ sym f

pub only_one_put_coded_word : (at code length : ℕ) (out x x' : List ℕ) → x ≡ over at (coded_word code length) out → x' ≡ over at (coded_word code length) out → x ≡ x'
only_one_put_coded_word at code length out x x' e f = e ∙ sym f

pub only_one_put_length_word : (at length : ℕ) (out x x' : List ℕ) → x ≡ over at (length_word length) out → x' ≡ over at (length_word length) out → x ≡ x'
only_one_put_length_word at length out x x' e f = e ∙ sym f
