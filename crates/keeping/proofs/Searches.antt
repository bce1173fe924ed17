-- Where the searches over the halves end: the lowest half with no permitted value, and the lowest that is missing from the output; and which are missing in all.
-- It holds since the marks count what the rules count, and since every source that was passed is seen, and no other.
use mathlib.Core.Path.{◌≡◌, refl, ap, ap₂, sym, ◌∙◌}
use mathlib.Core.Bool.{Bool, true, false, not, ◌&&◌}
use mathlib.Core.List.{List}
use Prim.Native.Nat.{ℕ, ◌+◌, ◌*◌, ◌≤◌, ◌<◌}
use native.Mathlib.Decide.{dec_lt}
use native.Mathlib.Omega.{arith}
use lib.Dec.{ltb, leb, eqb}
use lib.ListN.{length, get_or, take}
use lib.Seq.{get_or-take, length-take-le}
use borrow.Author.Tests.{not-true, lt-ltb, le-ltb, lt-leb, le-leb}
use Rattle.std.proofs.Common.{Some, None}
use Rattle.std.specs.List.{position}
use Rattle.std.proofs.lemmas.List.Sums.{position_or_len_is}
use Rattle.rules.specs.Base.{every}
use Rattle.rules.specs.Halves.{Source}
use Rattle.rules.specs.Permitted.{count, choices, first_of}
use Rattle.rules.specs.Keeping.{occurs, missing, lost_half}
use Rattle.rules.specs.Plan.{bit}
use Rattle.rules.proofs.Base.Search.{first_most, first_before, first_found}
use Rattle.rules.proofs.Base.Tests.{every_all}
use Rattle.rules.proofs.Base.AllLaws.{all_at}
use Rattle.rules.proofs.Keeping.KeepingSteps.{count_alike, first_nowhere, missing_seen, missing_few, missing_unseen, lost_here, lost_nowhere}
use Rattle.sources.specs.Promise.{Stand}
use Rattle.sources.proofs.Seen.{Seen, taken_from, not_there}
use Rattle.keeping.specs.Marks.{mark_allows, choices_of, MarkSays, permits_in}
use Rattle.keeping.specs.Promise.{place_below, barren_of}

module _ (marks : List ℕ) (h : ℕ) where
  choices_of_lem : choices (permits_in marks) h ≡ choices_of (get_or marks h 0)
  unfolding choices choices_of permits_in
  choices_of_lem = refl

  -- ---- a half with no permitted value

  pub not_barren : eqb (choices_of (get_or marks h 0)) 0 ≡ false → eqb (choices (permits_in marks) h) 0 ≡ false
  not_barren e = ap (λ (c : ℕ). eqb c 0) choices_of_lem ∙ e

pub barren_nowhere : (marks : List ℕ) (n : ℕ) → ((j : ℕ) → j < 2 * n → eqb (choices (permits_in marks) j) 0 ≡ false) → 2 * n ≡ barren_of (permits_in marks) n
unfolding barren_of
barren_nowhere marks n before = sym (first_nowhere (λ i. eqb (choices (permits_in marks) i) 0) (2 * n) before)

-- ---- a mark permits some value

abbrev pub fruitful : ℕ → Bool
fruitful a = not (eqb (choices_of a) 0)

-- where every half has one, none has no permitted value
pub barren_never : (marks : List ℕ) (n : ℕ) → 2 * n ≤ length marks → every fruitful (take (2 * n) marks) ≡ true → 2 * n ≡ barren_of (permits_in marks) n
barren_never marks n long e = barren_nowhere marks n (λ j l. not_barren marks j (not-true _ (some j l)))
  where
    some : (j : ℕ) → j < 2 * n → fruitful (get_or marks j 0) ≡ true
    some j l =
        ap fruitful (sym (get_or-take (2 * n) marks j 0 l))
        ∙ all_at 0 (take (2 * n) marks) (every_all fruitful (take (2 * n) marks) e) j (omega (arith, length-take-le (2 * n) marks long))

-- where a search among so many ends
pub place_found : (many h : ℕ) → h < many → (place : ℕ) → h ≡ place → Some h ≡ place_below many place
place_found many h l place e = rw (← e, lt-ltb h many l)

pub place_none : (many : ℕ) (place : ℕ) → many ≡ place → None ≡ place_below many place
place_none many place e = rw (le-ltb place many (omega arith))

-- the first mark of 2n that permits no value stands at the lowest half with none
pub barren_first : (marks : List ℕ) (n : ℕ) → 2 * n ≤ length marks → position (λ (a : ℕ). eqb (choices_of a) 0) (take (2 * n) marks) ≡ place_below (2 * n) (barren_of (permits_in marks) n)
unfolding barren_of
barren_first marks n long =
    let q : ℕ → Bool = λ j. eqb (choices (permits_in marks) j) 0 in
    let few : first_of q 0 (2 * n) ≤ 2 * n = omega (arith, first_most q 0 (2 * n)) in
    rw (position_or_len_is (λ (a : ℕ). eqb (choices_of a) 0) (take (2 * n) marks) (first_of q 0 (2 * n)) 0 (rw many few) (λ k l. here k (omega arith) ∙ first_before q 0 (2 * n) k (omega arith) l) (λ l. here _ (rw many at l) ∙ first_found q 0 (2 * n) (omega (arith, rw many at l))), many)
  where
    many : length (take (2 * n) marks) ≡ 2 * n
    many = length-take-le (2 * n) marks long

    here : (k : ℕ) → k < 2 * n → eqb (choices_of (get_or (take (2 * n) marks) k 0)) 0 ≡ eqb (choices (permits_in marks) k) 0
    here k l = ap (λ (a : ℕ). eqb (choices_of a) 0) (get_or-take (2 * n) marks k 0 l) ∙ sym (ap (λ (c : ℕ). eqb c 0) (choices_of_lem marks k))

-- ---- a half that is missing from the output

-- half j has fewer than two permitted values, or one of so many output halves is taken from it
abbrev pub Kept : List ℕ → List ℕ → ℕ → ℕ → Type 0
Kept marks sources outputs j = 2 ≤ choices_of (get_or marks j 0) → (i : ℕ) × (i < outputs) × (get_or sources i 0 ≡ j + 1)

module _ (marks : List ℕ) (sources : List ℕ) (n m : ℕ) (ss : List Source) (long : length ss ≡ 2 * m) (stand : Stand sources ss) (outputs : ℕ) (within : outputs ≤ 2 * m) where
  not_missing : (j : ℕ) → Kept marks sources outputs j → missing (permits_in marks) ss j ≡ false
  not_missing j kept = elim (dec_lt (choices (permits_in marks) j) 2) [
    | yes few ↦ missing_few (permits_in marks) ss j few
    | no many ↦
        let w = kept (omega (arith, choices_of_lem marks j)) in
        missing_seen (permits_in marks) ss j (taken_from sources ss stand w.0 j (omega (arith, w.1)) w.2)
  ]

  pub lost_nowhere_of : ((j : ℕ) → j < 2 * n → Kept marks sources outputs j) → 2 * n ≡ lost_half (permits_in marks) ss (2 * n)
  lost_nowhere_of kept = sym (lost_nowhere (permits_in marks) ss (2 * n) (λ j l. not_missing j (kept j l)))

  module _ (h : ℕ) (l : h < 2 * n) where
    pub lost_here_of : ((j : ℕ) → j < h → Kept marks sources outputs j) → 2 ≤ choices_of (get_or marks h 0)
        → (g : ℕ) (seen : List Bool) → 2 * m ≤ g → Seen sources g seen → get_or seen h false ≡ false → h ≡ lost_half (permits_in marks) ss (2 * n)
    lost_here_of kept several g seen over u e =
        sym (lost_here (permits_in marks) ss (2 * n) h l (λ j k. not_missing j (kept j k))
        (missing_unseen (permits_in marks) ss h (omega (arith, choices_of_lem marks h)) (not_there sources ss stand g h seen (omega arith) u e)))

-- ---- every half that is missing

-- a mark and whether its half was seen say whether it is missing
pub missing_says : (a : ℕ) (q : ℕ → ℕ → Bool) (ss : List Source) (i : ℕ) (seen : Bool) → MarkSays a (q i) → seen ≡ occurs i ss
    → bit (not (ltb (choices_of a) 2) && not seen) ≡ bit (missing q ss i)
unfolding choices_of choices missing
missing_says a q ss i seen says e =
    ap₂ (λ (c : ℕ) (t : Bool). bit (not (ltb c 2) && not t)) (count_alike (mark_allows a) (q i) 16 says) e
    ∙ ap (λ (t : Bool). bit (t && not (occurs i ss))) (several (count (q i) 16))
  where
    several : (c : ℕ) → not (ltb c 2) ≡ leb 2 c
    several c = elim (dec_lt c 2) [
      | yes l ↦ rw (lt-ltb c 2 l, lt-leb 2 c l)
      | no l ↦ rw (le-ltb c 2 (omega arith), le-leb 2 c (omega arith))
    ]
