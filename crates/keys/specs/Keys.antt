-- What is answered of key and data joined, also where one of them is outside its limits, and of which fields it is asked where they stand.
use Rattle.std.specs.Prelude.{cond, ℕ, ◌+◌, ◌≤◌, ◌<◌, leb}
use Rattle.terms.specs.declared.Size.{Size}
use Rattle.terms.specs.declared.Size.TheVariants.{Two}
use Rattle.terms.specs.declared.Input.{Input}
use Rattle.terms.specs.declared.Input.TheVariants.{Plain, Keyed}

-- the bytes of key and data together, and what A is then; 0 where one of them is outside its limits
abbrev pub together : ℕ → ℕ → ℕ
together k d = cond (leb k 4096) (cond (leb d 4096) (k + d) 0) 0

abbrev pub joined_of : Input → Size
joined_of (Plain s) = s
joined_of (Keyed k d) = Two (together k d) (together k d)

-- how long the key is; 0 where there is none, or one outside its limits
abbrev pub key_of : Input → ℕ
key_of (Plain s) = 0
key_of (Keyed k d) = cond (leb k 4096) k 0

-- numbers that were read, and a key within its limits
pub record Layable (r size key : ℕ) : Type 0 where
  pub small : r < 100000
  pub short : size < 100000
  pub within : key ≤ 4096
