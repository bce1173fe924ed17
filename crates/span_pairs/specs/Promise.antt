-- What is promised of records in pairs in FS, for every good reel that the numbers may be of.
use Rattle.std.specs.Prelude.{◌≡◌, ◌↔◌, Bool, true, List, ℕ, zero, suc, ◌+◌, length, drop, Option, Some, None}
use Rattle.rules.specs.Base.{joined}
use Rattle.rules.specs.Judge.{first_apart}
use Rattle.segments.specs.Promise.{GoodSpans}

-- both reels are good; of ours so many records are passed over and so many are left, and theirs has so many
pub record BothSpanned (ours : List ℕ) (passed count : ℕ) (theirs : List ℕ) (others : ℕ) : Type 0 where
  pub g : ℕ
  pub h : ℕ
  pub recs : List (List (List ℕ))
  pub recs' : List (List (List ℕ))
  pub good : GoodSpans g ours recs
  pub good' : GoodSpans h theirs recs'
  pub counted : passed + count ≡ length (joined recs)
  pub counted' : others ≡ length (joined recs')

-- a test that holds of the same records alone
abbrev pub SameTest : (List ℕ → List ℕ → Bool) → Type 0
SameTest q = (xs ys : List ℕ) → (q xs ys ≡ true) ↔ (xs ≡ ys)

-- a number from 1 on; the rules write 0 for none
abbrev pub number_of : ℕ → Option ℕ
number_of zero = None
number_of (suc n) = Some (suc n)

-- the number of the first record that disagrees or lacks a partner, if one does
pub record SpannedApartAt (ours : List ℕ) (passed count : ℕ) (theirs : List ℕ) (others : ℕ) (n : Option ℕ) : Type 0 where
  pub is : (q : List ℕ → List ℕ → Bool) → SameTest q → (y : BothSpanned ours passed count theirs others)
      → n ≡ number_of (first_apart q 1 (drop passed (joined y.recs)) (joined y.recs'))
