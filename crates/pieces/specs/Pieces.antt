-- The pieces of a block one after the other, as they are read.
use Rattle.std.specs.Prelude.{cond, ◌&&◌, List, ℕ, ◌+◌, ltb, leb, length, drop, Option, Some, None, Result, Ok, Err}
use Rattle.rules.specs.Grammar.{Format, fv}
use Rattle.rules.specs.Blocks.{Piece, word_length, headed_to}
use Rattle.rules.specs.Output.{cost}
use Rattle.rules.specs.ReelPlaces.{piece_at, piece_from, good_from, behind, good_start}
use Rattle.terms.specs.Meaning.{format_of}
use Rattle.pieces.specs.declared.Form.{Form}
use Rattle.pieces.specs.declared.Cursor.{Cursor}
use Rattle.pieces.specs.declared.FoundPiece.{FoundPiece}
use Rattle.pieces.specs.declared.NoPiece.{NoPiece}

-- what is read of where the pieces begin: a place, or that the block's own word is bad
abbrev pub StartRead : Type 0
StartRead = Option Cursor

-- what is read at a place of a block: a piece and the place behind it, the end, or what is no piece
abbrev pub PieceRead : Type 0
PieceRead = Result (Option FoundPiece) NoPiece

-- where no piece can be the end
abbrev pub given : Result FoundPiece NoPiece → PieceRead
given (Ok x) = Ok (Some x)
given (Err e) = Err e

-- a word whose third byte is at most top
unfoldable pub length_word_of : ℕ → ℕ → List ℕ → Option ℕ
length_word_of top low s = cond (headed_to top low s) (Some (word_length s)) None

-- where the pieces begin: at 0, in FV at 4; in FV the block's word is asked
unfoldable pub start_in : Format → List ℕ → StartRead
start_in f b = cond (good_start f b) (Some (record { at = cost f })) None

abbrev pub variable_start : List ℕ → StartRead
variable_start b = start_in fv b

abbrev pub start_of : Form → List ℕ → StartRead
start_of form b = start_in (format_of form.format) b

-- a piece and the place behind it
abbrev pub piece_of : Piece → FoundPiece
piece_of x = record { place = x.place; length = x.size; third = x.third; next = record { at = behind x } }

abbrev pub found : Piece → PieceRead
found x = Ok (Some (piece_of x))

-- what is no piece
abbrev pub bad : PieceRead
bad = Err (record {})

-- what stands at place i: the end; a good piece, which takes a byte or more; else no piece
unfoldable pub piece_in : Format → ℕ → List ℕ → ℕ → PieceRead
piece_in f n b i =
    cond (leb (length b) i) (Ok None)
    (cond (good_from f n b i && ltb i (behind (piece_from f n b i))) (found (piece_from f n b i)) bad)

abbrev pub piece_read_of : Form → List ℕ → ℕ → PieceRead
piece_read_of form b i = piece_in (format_of form.format) form.n b i

-- what stands at place i where each piece has a word, whose third byte is at most top: 0 in FV, 3 in FS
unfoldable pub worded_in : ℕ → List ℕ → ℕ → PieceRead
worded_in top b i = cond (leb (length b) i) (Ok None) (cond (headed_to top 5 (drop i b)) (found (piece_at i (drop i b))) bad)

-- a piece of n bytes from i on, in a block of so many bytes
unfoldable pub fixed_piece : ℕ → ℕ → ℕ → Result FoundPiece NoPiece
fixed_piece n i end = cond (leb (i + n) end && ltb i (i + n)) (Ok (piece_of (record { place = i; size = n; third = 0 }))) (Err (record {}))
