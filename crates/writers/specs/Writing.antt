-- The bytes that a record puts: the word of its block, and its own.
use Rattle.std.specs.Prelude.{List, [], ◌++◌, ℕ, ◌+◌, length}
use Rattle.rules.specs.Grammar.{Format, ff, fv, fu, fsp}
use Rattle.rules.specs.Output.{length_word}

-- the word of a block, and of each record: only FV has them
abbrev pub size_word : Format → ℕ → List ℕ
size_word ff n = []
size_word fv n = length_word n
size_word fu n = []
size_word fsp n = []

-- a record in its block
abbrev pub record_piece : Format → List ℕ → List ℕ
record_piece f r = size_word f (length r + 4) ++ r
