-- Records of equal length, for contracts of code that counts them: bytes that are such records, and the offsets of the blocks that hold them.
use Rattle.std.specs.Prelude.{◌≡◌, cond, List, [], ◌∷◌, ◌++◌, ℕ, zero, suc, ◌+◌, ◌-◌, ◌*◌, ◌/◌, ltb, length}
use Rattle.rules.specs.Base.{joined}
use Rattle.rules.specs.Places.{All}
use Rattle.rules.specs.Reel.{word}

-- xs is records of n bytes each, one behind the other
pub record Even (n : ℕ) (xs : List ℕ) (rs : List (List ℕ)) : Type 0 where
  pub is : joined rs ≡ xs
  pub each : All (λ r. length r ≡ n) rs

-- TR and TRF: offsets from a place on, a step apart, while they are before the end; and the end (so many steps at most)
abbrev pub stepped : ℕ → ℕ → ℕ → ℕ → List ℕ
stepped zero step at end = word end
stepped (suc f) step at end = let rest = stepped f step (at + step) end in cond (ltb at end) (word at ++ rest) (word end)

-- TF: of the offsets at which input blocks end, each that is behind `from` ends an output block: its records from there on have n bytes each, and their outputs w
abbrev pub ends_behind : (n w from to : ℕ) → List ℕ → List ℕ
ends_behind n w from to [] = []
ends_behind n w from to (o ∷ os) = let rest = ends_behind n w from to os in cond (ltb from o) (word (to + (o - from) / n * w) ++ rest) rest

-- how many these are
abbrev pub count_behind : ℕ → List ℕ → ℕ
count_behind from [] = 0
count_behind from (o ∷ os) = let rest = count_behind from os in cond (ltb from o) (suc rest) rest
