-- What `weigh` answers is what the rules say: the marks permit what the fields permit, and the numbers stand for the sources, so the searches
-- over the arrays end where those of the rules end. And the promise allows one answer alone.
use mathlib.Core.Path.{◌≡◌, refl, ap, sym, ◌∙◌}
use mathlib.Core.List.{List}
use Prim.Native.Nat.{ℕ, zero, suc, ◌*◌, ◌≤◌, ◌<◌}
use native.Mathlib.Omega.{arith}
use lib.Dec.{eqb}
use lib.ListN.{get_or, replicate}
use borrow.Author.Tests.{eq-eqb, ne_eqb, ltb-true, ltb-false}
use mathlib.Core.Bool.{Bool, true, false, cond}
use Rattle.std.proofs.Common.{Option, Some, None, Result, Ok, Err, ltb}
use Rattle.std.proofs.lemmas.Option.{none-some, same_Some}
use Rattle.rules.specs.Answer.{refused, place_of, ◌>>◌, unless}
use Rattle.rules.specs.Halves.{Field as RuleField, sources}
use Rattle.rules.specs.Permitted.{permitted, choices}
use Rattle.rules.specs.Keeping.{missing, lost_half}
use Rattle.rules.specs.Plan.{bit}
use Rattle.rules.specs.Twins.{listed, lowest}
use Rattle.rules.specs.Lent.{zone_f}
use Rattle.rules.proofs.Refusals.AnswerLaws.{fine_same}
use Rattle.rules.proofs.Base.Search.{first_most}
use Rattle.rules.proofs.Keeping.MarkLaws.{choices_alike, first_alike, lost_alike}
use Rattle.rows.specs.Flat.{field_at}
use Rattle.rows.specs.Kept.{fields_in}
use Rattle.sources.specs.Promise.{RowInside}
use Rattle.sources.proofs.Fields.{fair_longer}
use Rattle.keeping.specs.Marks.{MarkSays, permits_in}
use Rattle.keeping.specs.Promise.{answer_of, place_below, barren_of, lost_of, weighed_of}
use Rattle.keeping.specs.declared.Barren.{Barren}

-- fields inside their records lie inside the longest
pub fair_longest : (row : List ℕ) (n m : ℕ) → RowInside row n m → RowInside row 4096 4096
fair_longest row n m fair = record {
  few = fair.few;
  n_high = omega arith;
  m_high = omega arith;
  each = λ k l. fair_longer n m 4096 4096 (field_at row k) fair.n_high fair.m_high (fair.each k l);
}

-- ---- from the arrays to the rules

-- an array begins as zeros
pub zeros : (many i : ℕ) → ◌≡◌ {A = ℕ} (get_or (replicate many 0) i 0) 0
zeros zero i = refl
zeros (suc many) zero = refl
zeros (suc many) (suc i) = zeros many i

module _ (marks : List ℕ) (fs : List RuleField) (n : ℕ) (small : n ≤ 4096) (says : (h : ℕ) → h < 8192 → MarkSays (get_or marks h 0) (permitted zone_f fs h)) where
  alike : (h v : ℕ) → h < 2 * n → v < 16 → permits_in marks h v ≡ permitted zone_f fs h v
  unfolding permits_in
  alike h v l s = says h (omega arith) v s

  pub barren_alike : barren_of (permits_in marks) n ≡ barren_of (permitted zone_f fs) n
  unfolding barren_of
  barren_alike =
      first_alike (λ i. eqb (choices (permits_in marks) i) 0) (λ i. eqb (choices (permitted zone_f fs) i) 0) 0 (2 * n)
      (λ j l. ap (λ (c : ℕ). eqb c 0) (choices_alike (permits_in marks) (permitted zone_f fs) j (λ v s. alike j v (omega arith) s)))

  pub lost_of_lem : (m : ℕ) → lost_half (permits_in marks) (sources zone_f m fs (2 * n)) (2 * n) ≡ lost_of zone_f fs n m
  unfolding lost_of
  lost_of_lem m = lost_alike (permits_in marks) (permitted zone_f fs) (sources zone_f m fs (2 * n)) (2 * n) alike

-- ---- the answer

-- a search that ends in a number below so many found it; one that ends in none went to their end
found_is : (many h place : ℕ) → Some place ≡ place_below many h → (h < many) × (place ≡ h)
found_is many h place = go (ltb h many) refl
  where
    go : (t : Bool) → ltb h many ≡ t → Some place ≡ cond t (Some h) None → (h < many) × (place ≡ h)
    go true t e = (ltb-true h many t, same_Some place h e)
    go false t e = absurd (none-some place (sym e))

none_is : (many h : ℕ) → None ≡ place_below many h → many ≤ h
none_is many h = go (ltb h many) refl
  where
    go : (t : Bool) → ltb h many ≡ t → None ≡ cond t (Some h) None → many ≤ h
    go true t e = absurd (none-some h e)
    go false t e = ltb-false h many t

module _ (zone : ℕ) (fs : List RuleField) (n m : ℕ) where
  pub weighed_barren : (b : ℕ) → Some b ≡ place_below (2 * n) (barren_of (permitted zone fs) n) → refused 10 b ≡ weighed_of zone fs n m
  unfolding weighed_of unless ◌>>◌
  weighed_barren b barren =
      let w = found_is (2 * n) (barren_of (permitted zone fs) n) b barren in
      rw (← w.1, ne_eqb b (2 * n) (λ e. omega arith))

  module _ (none : None ≡ place_below (2 * n) (barren_of (permitted zone fs) n)) where
    fruitful : barren_of (permitted zone fs) n ≡ 2 * n
    unfolding barren_of
    fruitful = omega (arith, none_is (2 * n) (barren_of (permitted zone fs) n) none, first_most (λ i. eqb (choices (permitted zone fs) i) 0) 0 (2 * n))

    lost_most : lost_of zone fs n m ≤ 2 * n
    unfolding lost_of lost_half
    lost_most = omega (arith, first_most (missing (permitted zone fs) (sources zone m fs (2 * n))) 0 (2 * n))

    pub weighed_fruitful : (lost : Option ℕ) → lost ≡ place_below (2 * n) (lost_of zone fs n m) → answer_of (Ok lost) ≡ weighed_of zone fs n m
    unfolding weighed_of unless ◌>>◌
    weighed_fruitful (Some h) e =
        let w = found_is (2 * n) (lost_of zone fs n m) h e in
        rw (eq-eqb _ (2 * n) fruitful, ← w.1, ne_eqb h (2 * n) (λ z. omega arith))
    weighed_fruitful None e =
        rw (eq-eqb _ (2 * n) fruitful, eq-eqb (lost_of zone fs n m) (2 * n) (omega (arith, lost_most, none_is (2 * n) (lost_of zone fs n m) e)))

-- ---- one answer

-- no two cases answer the same
answer_once : (r q : Result (Option ℕ) Barren) → answer_of r ≡ answer_of q → r ≡ q
answer_once (Err r) (Err q) e = ap (λ (h : ℕ). Err (record { half = h })) (ap place_of e)
answer_once (Err r) (Ok None) e = cc
answer_once (Err r) (Ok (Some half)) e = cc
answer_once (Ok None) (Err q) e = cc
answer_once (Ok None) (Ok None) e = refl
answer_once (Ok None) (Ok (Some half)) e = absurd (omega (arith, ap (λ (n : ℕ × ℕ). n.0) (fine_same (1, 0) (0, half) e)))
answer_once (Ok (Some half)) (Err q) e = cc
answer_once (Ok (Some half)) (Ok None) e = absurd (omega (arith, ap (λ (n : ℕ × ℕ). n.0) (fine_same (0, half) (1, 0) e)))
answer_once (Ok (Some half)) (Ok (Some half')) e = ap (λ (h : ℕ). Ok (Some h)) (ap (λ (n : ℕ × ℕ). n.1) (fine_same (0, half) (0, half') e))

pub only_one : (row : List ℕ) (n m : ℕ) (r q : Result (Option ℕ) Barren) → answer_of r ≡ weighed_of zone_f (fields_in row) n m → answer_of q ≡ weighed_of zone_f (fields_in row) n m → r ≡ q
only_one row n m r q e f = answer_once r q (e ∙ sym f)

pub only_one_lowest : (row values values' : List ℕ) → values ≡ listed (lowest (permitted zone_f (fields_in row))) 0 8192
    → values' ≡ listed (lowest (permitted zone_f (fields_in row))) 0 8192 → values ≡ values'
only_one_lowest row values values' e f = e ∙ sym f

pub only_one_missing : (row : List ℕ) (n m : ℕ) (halves halves' : List ℕ)
    → halves ≡ listed (λ (h : ℕ). bit (missing (permitted zone_f (fields_in row)) (sources zone_f m (fields_in row) (2 * n)) h)) 0 8192
    → halves' ≡ listed (λ (h : ℕ). bit (missing (permitted zone_f (fields_in row)) (sources zone_f m (fields_in row) (2 * n)) h)) 0 8192 → halves ≡ halves'
only_one_missing row n m halves halves' e f = e ∙ sym f
