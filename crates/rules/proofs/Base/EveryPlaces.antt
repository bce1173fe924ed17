-- A test of every number of a list by places, for code that goes along it to the end and notes whether one failed: from a place on it is the test there and from
-- the next place on.
use mathlib.Core.Path.{◌≡◌, ap, sym, ◌∙◌}
use mathlib.Core.Bool.{Bool, true, false, ◌&&◌, and-true, and-false}
use mathlib.Core.List.{List}
use Prim.Native.Nat.{ℕ, ◌+◌, ◌≤◌, ◌<◌}
use native.Mathlib.Numerals.{add-one}
use lib.ListN.{length, get_or, drop, drop_of_length-le}
use lib.Seq.{drop-cons}
use Rattle.rules.specs.Base.{every}

module _ (q : ℕ → Bool) (l : List ℕ) where
  -- those before i passed, as `good` says
  abbrev pub Passing : Bool → ℕ → Type 0
  Passing good i = every q l ≡ (good && every q (drop i l))

  module _ (good : Bool) (i : ℕ) where
    pub passing_fails : i < length l → q (get_or l i 0) ≡ false → Passing good i → Passing false (i + 1)
    passing_fails h e p = p ∙ ap (good &&◌) (rw (drop-cons l i 0 h, e)) ∙ and-false good

    pub passing_next : i < length l → q (get_or l i 0) ≡ true → Passing good i → Passing good (i + 1)
    passing_next h e p = p ∙ ap (good &&◌) (rw (add-one i, drop-cons l i 0 h, e))

    pub passing_end : length l ≤ i → Passing good i → good ≡ every q l
    passing_end h p = sym (p ∙ ap (good &&◌) (rw (drop_of_length-le l {i = i} h)) ∙ and-true good)
