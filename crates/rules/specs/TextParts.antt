-- Parts of texts, for contracts of code that reads a text from its front: what stands behind a part that was read, and what is no line's end.
use Rattle.std.specs.Prelude.{◌≡◌, List, [], ◌∷◌, ℕ}
use Rattle.rules.specs.Reader.{Read, stopped, Reader, pure, ◌>>=◌, ◌>>◌, ◌or◌, after, text, number}
use Rattle.rules.specs.Halves.{Kind}
use Rattle.rules.specs.Grammar.{Size, two, one, Input, keyed, Item, Start, field_with, kind_reader}

-- ---- lines

-- no line ends with this byte
abbrev pub Inner : ℕ → Type 0
Inner b = b ≡ 0x0A → ⊥

-- ---- readers

-- the reader stopped
pub data Stopped {A : Type 0} : Read A → Type 0 where
  stops : (left : List ℕ) → Stopped (stopped left)

-- a number and the mark behind it
unfoldable pub number_then : ℕ → Reader ℕ
number_then m = do n ← number; after (m ∷ []); pure n

-- `,m)` or `)`, behind `(n`
unfoldable pub size_behind : ℕ → Reader Size
size_behind n = (do text ","; m ← number; text ")"; pure (two n m)) or (do text ")"; pure (one n))

-- `D=l)` behind `(K=l,`
unfoldable pub data_behind : ℕ → Reader Input
data_behind k = do after (68 ∷ 61 ∷ []); d ← number_then 41; pure (keyed k d)

-- `=l,D=l)` behind `(K`
unfoldable pub keyed_behind : Reader Input
keyed_behind = do after (61 ∷ []); k ← number_then 44; data_behind k

-- `K,r),` behind `(`
unfoldable pub key_then : Reader ℕ
key_then = do after (75 ∷ 44 ∷ []); r ← number_then 41; after (44 ∷ []); pure r

-- `,n,m)` behind the letter
unfoldable pub sizes_behind : (ℕ → ℕ → Kind) → Reader Kind
sizes_behind say = do after (44 ∷ []); n ← number_then 44; m ← number_then 41; pure (say n m)

-- what is behind `r,` or `(K,r),`
unfoldable pub field_behind : Start → Reader Item
field_behind s = do k ← kind_reader; after (44 ∷ []); t ← number; pure (field_with s k t)
