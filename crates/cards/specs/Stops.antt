-- Where a text stops, for the column of refusal 3.
use Rattle.std.specs.Prelude.{◌≡◌, List, ℕ, ◌+◌, ◌≤◌, length, drop}

-- of a text that begins at a column this is left: what begins at column `unread`
abbrev pub StopsAt : ℕ → List ℕ → List ℕ → ℕ → Type 0
StopsAt column s left unread = (k : ℕ) × (k ≤ length s) × (left ≡ drop k s) × (unread ≡ column + k)
