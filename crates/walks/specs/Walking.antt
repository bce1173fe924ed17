-- What a walk is answered, for every list of bytes and every walk; and which walk leads to a place of a block.
use Rattle.std.specs.Prelude.{Bool, true, false, cond, Option, Some, None, List, ℕ, zero, suc, ◌+◌, ◌-◌, ◌*◌, ◌≤◌, ◌<◌, ltb, leb, length, get_or}
use Rattle.rules.specs.Grammar.{Format, ff, fv, fu, fsp}
use Rattle.rules.specs.Output.{cost}
use Rattle.rules.specs.Reel.{block_count}
use Rattle.rules.specs.ReelPlaces.{word_at, offset_at}
use Rattle.terms.specs.Meaning.{format_of}
use Rattle.pieces.specs.declared.Form.{Form}
use Rattle.walks.specs.declared.Walk.{Walk}
use Rattle.walks.specs.declared.RecordRead.{RecordRead}

-- ---- the answers

-- where a block starts before the reel's end, the offset of its own end is there, and in FV its word
abbrev pub Starting : Form → List ℕ → ℕ → ℕ → Type 0
Starting form s word from = from < length s → (word + 4 ≤ length s) × (from + cost (format_of form.format) ≤ length s)

-- before the first record of the block that starts at a place of the reel, and the offset of whose end stands at another; or behind the last block
unfoldable pub block_start : Form → List ℕ → ℕ → ℕ → Walk
block_start form s word from =
    cond (leb (length s) from) (record { word = word; at = from; end = from; begins = true })
    (record { word = word; at = from + cost (format_of form.format); end = word_at s word; begins = true })

-- before the first record of a reel
unfoldable pub first_walk : Form → List ℕ → Walk
first_walk form s = block_start form s 8 (word_at s 4)

-- behind a record that ends at a place
unfoldable pub behind_at : Form → List ℕ → Walk → ℕ → Walk
behind_at form s w at = cond (ltb at w.end) (record { word = w.word; at = at; end = w.end; begins = false }) (block_start form s (w.word + 4) at)

-- where the record at a place ends, in a block that ends at a place
abbrev pub end_in : Format → ℕ → List ℕ → ℕ → ℕ → ℕ
end_in ff n s at end = at + n
end_in fv n s at end = at + (256 * get_or s at 0 + get_or s (at + 1) 0)
end_in fu n s at end = end
end_in fsp n s at end = end

-- the record at the walk's place, which ends at a place
abbrev pub record_to : Form → List ℕ → Walk → ℕ → RecordRead
record_to form s w end =
    record {
      start = w.at + cost (format_of form.format);
      length = end - (w.at + cost (format_of form.format));
      begins = w.begins;
      next = behind_at form s w end;
    }

unfoldable pub record_of : Form → List ℕ → Walk → Option RecordRead
record_of form s w = cond (leb (length s) w.at) None (Some (record_to form s w (end_in (format_of form.format) form.n s w.at w.end)))

-- the same place, before a record that counts as the first of its block
abbrev pub opened_walk : Walk → Walk
opened_walk w = record { word = w.word; at = w.at; end = w.end; begins = true }

abbrev pub on_record : {A : Type 0} → Option RecordRead → A → (Walk → A) → A
on_record (Some read) end go = go read.next
on_record None end go = end

-- behind so many records, or where there is no further one
abbrev pub onwards : Form → List ℕ → ℕ → Walk → Walk
onwards form s zero w = w
onwards form s (suc k) w = on_record (record_of form s w) w (λ next. onwards form s k next)

unfoldable pub taken_walk : Form → List ℕ → ℕ → Walk
taken_walk form s first = opened_walk (onwards form s (first - 1) (first_walk form s))

-- where record R starts in FF: all before it have n bytes each
unfoldable pub fixed_start : Form → List ℕ → ℕ → ℕ
fixed_start form s first = word_at s 4 + (first - 1) * form.n

-- ---- the places

-- a place before a record: the block, from 0, the place in it, and whether the record counts as the first of its block
pub record Place : Type 0 where
  pub block : ℕ
  pub at : ℕ
  pub begins : Bool

-- before the first record of block i, from 0
abbrev pub block_place : Form → ℕ → Place
block_place form i = record { block = i; at = cost (format_of form.format); begins = true }

-- behind a record that ends at a place of block i, which has so many bytes
unfoldable pub behind_place : Form → ℕ → ℕ → ℕ → Place
behind_place form i at size = cond (ltb at size) (record { block = i; at = at; begins = false }) (block_place form (i + 1))

-- the walk to it; behind the last block it stands at the reel's end
unfoldable pub walk_of : List ℕ → Place → Walk
walk_of s v =
    cond (ltb v.block (block_count s))
    (record { word = 4 * v.block + 8; at = offset_at s v.block + v.at; end = offset_at s (suc v.block); begins = v.begins })
    (record { word = 4 * v.block + 8; at = length s; end = length s; begins = v.begins })
