-- A reel and its blocks by place, for contracts of code that walks over them: the word at a place, the pieces and the records from a place on.
use Rattle.std.specs.Prelude.{Bool, true, false, cond, ◌&&◌, List, [], ◌∷◌, map, ℕ, suc, ◌+◌, ◌-◌, ◌*◌, ◌/◌, ◌%◌, leb, eqb, length, drop, get_or}
use Rattle.std.proofs.Math.Option.{Option, none, some}
use Rattle.rules.specs.Base.{every, is_empty}
use Rattle.rules.specs.Grammar.{Format, ff, fv, fu, fsp}
use Rattle.rules.specs.Plan.{Plan, record_length}
use Rattle.rules.specs.Blocks.{Piece, fixed_from, word_length, headed, variable_from, least_data, data_of}

-- ---- the reel

-- the number of four bytes
abbrev pub number_of : ℕ → ℕ → ℕ → ℕ → ℕ
number_of a b c d = a * 0x1000000 + b * 0x10000 + c * 0x100 + d

-- the number of the four bytes from place i on
unfoldable pub word_at : List ℕ → ℕ → ℕ
word_at s i = number_of (get_or s i 0) (get_or s (i + 1) 0) (get_or s (i + 2) 0) (get_or s (i + 3) 0)

-- offset number i of the k+1 offsets, from 0
abbrev pub offset_at : List ℕ → ℕ → ℕ
offset_at s i = word_at s (4 * i + 4)

-- ---- the pieces of a block (in FS it has none that are records by themselves, and what follows says nothing of it)

-- the piece of the record at the front of s, which stands at place i
abbrev pub piece_at : ℕ → List ℕ → Piece
piece_at i s = record { place = i + 4; size = word_length s - 4; third = get_or s 2 0 }

-- the pieces from place i on
unfoldable pub pieces_at : Format → ℕ → List ℕ → ℕ → Option (List Piece)
pieces_at ff n b i = cond (eqb (length (drop i b) % n) 0) (some (fixed_from n i (length (drop i b) / n))) none
pieces_at fv n b i = variable_from (suc (length b)) i (drop i b)
pieces_at fu n b i = cond (is_empty (drop i b)) (some []) (some (record { place = i; size = length (drop i b); third = 0 } ∷ []))
pieces_at fsp n b i = cond (is_empty (drop i b)) (some []) none

-- the piece that begins at place i, in FV with its word
abbrev pub piece_from : Format → ℕ → List ℕ → ℕ → Piece
piece_from ff n b i = record { place = i; size = n; third = 0 }
piece_from fv n b i = piece_at i (drop i b)
piece_from fu n b i = record { place = i; size = length b - i; third = 0 }
piece_from fsp n b i = record { place = i; size = 1; third = 0 }

-- it is good: in FF n bytes are left, in FV its word is one
abbrev pub good_from : Format → ℕ → List ℕ → ℕ → Bool
good_from ff n b i = leb (i + n) (length b)
good_from fv n b i = headed 5 (drop i b)
good_from fu n b i = true
good_from fsp n b i = false

-- the place behind a piece
abbrev pub behind : Piece → ℕ
behind x = x.place + x.size

-- in FV the block's own word is good
abbrev pub good_start : Format → List ℕ → Bool
good_start ff b = true
good_start fv b = headed 4 b && eqb (word_length b) (length b)
good_start fu b = true
good_start fsp b = false

-- ---- the records of a block

-- the data of pieces that are all as long as they should be
abbrev pub records_sized : Plan → List ℕ → Option (List Piece) → Option (List (List ℕ))
records_sized p b none = none
records_sized p b (some xs) = cond (every (λ x. leb (least_data p) x.size) xs) (some (map (data_of b) xs)) none

-- the records from place i on
unfoldable pub records_at : Plan → List ℕ → ℕ → Option (List (List ℕ))
records_at p b i = records_sized p b (pieces_at p.format (record_length p.input) b i)
