-- The records of a reel one after the other, each with a mark that says whether it is the first of its block; and so for what is made of each
-- record, as its length.
use Rattle.std.specs.Prelude.{Bool, true, false, List, [], ◌∷◌, ◌++◌, ℕ, ◌-◌, drop}

module _ {A : Type 0} where
  -- the records of a block, or those left of it, of which the first has this mark and the others have none
  abbrev pub marked : Bool → List A → List (Bool × A)
  marked begins [] = []
  marked begins (r ∷ rs) = (begins, r) ∷ marked false rs

  -- block after block: the first record of each is marked
  abbrev pub marked_all : List (List A) → List (Bool × A)
  marked_all [] = []
  marked_all (rs ∷ more) = marked true rs ++ marked_all more

  -- the first of some records marked
  abbrev pub opened : List (Bool × A) → List (Bool × A)
  opened [] = []
  opened ((begins, r) ∷ more) = (true, r) ∷ more

  -- the records from number R on: the first of them is the first taken of its block
  unfoldable pub taken_marks : ℕ → List (Bool × A) → List (Bool × A)
  taken_marks first marks = opened (drop (first - 1) marks)

  -- the blocks again: each mark opens one, behind the one that is open
  abbrev pub opened_from : List A → List (Bool × A) → List (List A)
  opened_from now [] = now ∷ []
  opened_from now ((true, r) ∷ more) = now ∷ opened_from (r ∷ []) more
  opened_from now ((false, r) ∷ more) = opened_from (now ++ (r ∷ [])) more

  abbrev pub blocks_marked : List (Bool × A) → List (List A)
  blocks_marked [] = []
  blocks_marked ((begins, r) ∷ more) = opened_from (r ∷ []) more

  -- what is marked
  abbrev pub bytes_of : Bool × A → A
  bytes_of m = m.1

-- what is made of each, with the same mark
abbrev pub on_marked : {A B : Type 0} → (A → B) → Bool × A → Bool × B
on_marked f m = (m.0, f m.1)
