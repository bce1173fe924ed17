-- How people are shown a byte: by two digits, 0 to 9 and A to F in ASCII, which the rules read as this byte.
use Rattle.std.specs.Prelude.{◌≡◌, ◌⊎◌, List, [], ◌∷◌, ℕ, ◌≤◌, length}
use Rattle.rules.specs.Base.{pairs, digits_of}
use Rattle.rules.specs.Places.{All}

-- a digit: hex 30 to 39, and hex 41 to 46
abbrev pub HexadecimalDigit : ℕ → Type 0
HexadecimalDigit c = ((48 ≤ c) × (c ≤ 57)) ⊎ ((65 ≤ c) × (c ≤ 70))

pub record ShowsByte (byte : ℕ) (r : List ℕ) : Type 0 where
  pub two : 2 ≡ length r
  pub digits : All HexadecimalDigit r
  pub reads : pairs (digits_of r) ≡ byte ∷ []
