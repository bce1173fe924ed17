-- The bytes that a segment puts, and those of all segments of a record.
use Rattle.std.specs.Prelude.{Bool, true, false, List, [], ◌∷◌, ◌++◌, ℕ, zero, suc, ◌+◌, ◌-◌, eqb, length, take, drop}
use Rattle.rules.specs.Halves.{over}
use Rattle.rules.specs.Output.{length_word}
use Rattle.rules.specs.Spanned.{code_of, coded_word}
use Rattle.fillings.specs.declared.Tally.{Tally}
use Rattle.fillings.specs.Offsets.{offset_put}
use Rattle.cuts.specs.declared.CutTaken.{CutTaken}
use Rattle.cuts.specs.Cutting.{cut_of}

-- the offset of the block that the segment opens, the word of its block, which says the block's size so far, and its own word and data
unfoldable pub segment_put : ℕ → Tally → CutTaken → Bool → Bool → List ℕ → List ℕ → List ℕ
segment_put base t p first last d out =
    let end = base + p.tally.bytes in
    over (end - p.size - 4) (coded_word (code_of first last) (p.size + 4) ++ d)
    (over (end - p.tally.size) (length_word p.tally.size) (offset_put base t p.tally out))

-- cut by cut, from what is left of a record; it is begun, or not
abbrev pub put_from : ℕ → ℕ → ℕ → Tally → Bool → List ℕ → List ℕ → List ℕ
put_from m base zero t first r out = out
put_from m base (suc k) t first [] out = out
put_from m base (suc k) t first (b ∷ r) out =
    let p = cut_of m t (length (b ∷ r)) in
    let d = take p.size (b ∷ r) in
    put_from m base k p.tally false (drop p.size (b ∷ r)) (segment_put base t p first (eqb p.size (length (b ∷ r))) d out)

-- the whole record
unfoldable pub record_put : ℕ → ℕ → Tally → List ℕ → List ℕ → List ℕ
record_put m base t r out = put_from m base (length r) t true r out
