-- Short blocks of FF first, in the middle, twice and of one record, and blocks that break their rule, by computation: document 02, order 2.
use mathlib.Core.Path.{◌≡◌, refl}
use mathlib.Core.List.{List, [], ◌∷◌, map}
use Prim.Native.Nat.{ℕ}
use Prim.Native.String.{String}
use Rattle.rules.specs.Base.{ascii, hex}
use Rattle.rules.specs.Answer.{Answer, fine, refused}
use Rattle.rules.specs.Reel.{reel_of}
use Rattle.rules.specs.Run.{RunOutput}
use Rattle.rules.specs.Lent.{run}
use Rattle.rules.specs.Open.{rules}

-- records of 2 bytes, three of them to a block of A
abbrev copy : List String → Answer RunOutput
copy bs = run 65536 (ascii "// U TC,FF,A=(2,6),B=(2,6)\n// END") (reel_of (map (λ s. hex s) bs))

abbrev reblock : List String → Answer RunOutput
reblock bs = run 65536 (ascii "// U TR,FF,A=(2,6),B=(2,4)\n// END") (reel_of (map (λ s. hex s) bs))

-- the second byte of each record from record 2 on
abbrev select : List String → Answer RunOutput
select bs = run 65536 (ascii "// U TF,FF,A=(2,6),B=(1,3),R2\n// FS 2,1,1\n// END") (reel_of (map (λ s. hex s) bs))

abbrev ran : ℕ → ℕ → List String → Answer RunOutput
ran records blocks bs = fine (record { reel = reel_of (map (λ s. hex s) bs); records = records; blocks = blocks })

pub record Table : Type 0 where
  -- TC leaves them
  pub first : copy ("C1C2" ∷ "C3C4C5C6C7C8" ∷ "C9D1D2D3D4D5" ∷ []) ≡ ran 7 3 ("C1C2" ∷ "C3C4C5C6C7C8" ∷ "C9D1D2D3D4D5" ∷ [])
  pub middle : copy ("C3C4C5C6C7C8" ∷ "C1C2C3C4" ∷ "C9D1D2D3D4D5" ∷ []) ≡ ran 8 3 ("C3C4C5C6C7C8" ∷ "C1C2C3C4" ∷ "C9D1D2D3D4D5" ∷ [])
  pub twice : copy ("C1C2" ∷ "C3C4" ∷ "C9D1D2D3D4D5" ∷ "C1C2" ∷ []) ≡ ran 6 4 ("C1C2" ∷ "C3C4" ∷ "C9D1D2D3D4D5" ∷ "C1C2" ∷ [])
  -- TR writes full blocks
  pub filled : reblock ("C1C2" ∷ "C3C4C5C6C7C8" ∷ "C9D1" ∷ []) ≡ ran 5 3 ("C1C2C3C4" ∷ "C5C6C7C8" ∷ "C9D1" ∷ [])
  -- TF gives a block for each block that has a record left
  pub each : select ("C1C2" ∷ "C3C4C5C6" ∷ "C9D1D2D3D4D5" ∷ "C1C2" ∷ []) ≡ ran 6 3 ("C4C6" ∷ "D1D3D5" ∷ "C2" ∷ [])
  -- no multiple of n, in the middle and at the end; over m
  pub odd_middle : copy ("C1C2" ∷ "C3C4C5" ∷ "C9D1" ∷ []) ≡ refused 12 2
  pub odd_end : reblock ("C1C2" ∷ "C3C4" ∷ "C9D1D2" ∷ []) ≡ refused 12 3
  pub over : reblock ("C1C2" ∷ "C3C4C5C6C7C8C9D1" ∷ "C1C2" ∷ []) ≡ refused 12 2

pub table : Table
unfolding rules
table = record { first = refl; middle = refl; twice = refl; filled = refl; each = refl; odd_middle = refl; odd_end = refl; over = refl }
