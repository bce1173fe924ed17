-- What is promised of the two records that are shown of a plan that loses: of a half, of how long both are, and of what the lent output holds afterwards.
use Rattle.std.specs.Prelude.{◌≡◌, cond, List, [], ◌∷◌, ◌++◌, ℕ, suc, ◌+◌, ◌*◌, ◌≤◌, ◌<◌, eqb, length, drop, get_or}
use Rattle.rules.specs.Halves.{bytes}
use Rattle.rules.specs.Twins.{listed}

-- half i of a record: its value, or the next where it is half h
unfoldable pub raised_in : List ℕ → ℕ → ℕ → ℕ
raised_in values h i = cond (eqb i h) (suc (get_or values i 0)) (get_or values i 0)

-- so many values are halves, half h raised too
pub record Values (values : List ℕ) (h many : ℕ) : Type 0 where
  pub few : many ≤ 8192
  pub halves : (i : ℕ) → i < many → raised_in values h i < 16

-- 2n bytes, and one more where the lost place is 2n
unfoldable pub needed_for : ℕ → ℕ → ℕ
needed_for n lost = cond (eqb lost (2 * n)) (2 * n + 1) (2 * n)

-- both records: no half of the first is raised, and 00 stands behind the second for the tail
unfoldable pub twin_records : List ℕ → ℕ → ℕ → List ℕ
twin_records values n lost =
    bytes (listed (raised_in values (2 * n)) 0 (2 * n)) ++ bytes (listed (raised_in values lost) 0 (2 * n)) ++ cond (eqb lost (2 * n)) (0 ∷ []) []

-- these bytes stand at the front, and those past them stay
abbrev pub WrittenInto : List ℕ → List ℕ → List ℕ → Type 0
WrittenInto new before after = after ≡ new ++ drop (length new) before
