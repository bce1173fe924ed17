-- Refusal 10: the lowest half without a permitted value is found. A half has none exactly if none of its 16 values passes, since a larger number never does.
use mathlib.Core.Path.{◌≡◌, refl, sym, ◌∙◌}
use mathlib.Core.Logic.{◌⊎◌, inl, inr}
use mathlib.Core.Bool.{Bool, true, false, and-false, true≢false}
use mathlib.Core.List.{List, [], ◌∷◌}
use Prim.Native.Nat.{ℕ, zero, suc, ◌+◌, ◌≤◌, ◌<◌}
use native.Mathlib.Nat.{not-suc-le-zero, eq-or-lt_of_le, le_of_suc-le-suc, zero-add}
use native.Mathlib.Omega.{arith}
use lib.Dec.{ltb, leb, eqb}
use borrow.Author.Tests.{ltb-true, ltb-false, eqb-true, eqb-false, eq-eqb, lt-leb}
use Rattle.rules.specs.Answer.{unless}
use Rattle.rules.specs.Halves.{Field}
use Rattle.rules.specs.Permitted.{allows, permitted, count, choices}
use Rattle.rules.specs.Plan.{Plan, input_halves, allowed, barren_half}
use Rattle.rules.specs.InWords.{MayBe}
use Rattle.rules.proofs.Base.Search.{first_none, first_found, first_before, first_most}
use Rattle.rules.proofs.Refusals.Given.{Outcome}
use Rattle.rules.proofs.Halves.AllowedWords.{not_allowed}

count_none : (q : ℕ → Bool) (n : ℕ) → count q n ≡ 0 → (v : ℕ) → v < n → q v ≡ false
count_none q zero e v l = absurd (not-suc-le-zero l)
count_none q (suc n) e v l = go (λ e' h. count_none q n e' v h) (q n) refl (eq-or-lt_of_le (le_of_suc-le-suc l))
  where
    go : (count q n ≡ 0 → v < n → q v ≡ false) → (t : Bool) → q n ≡ t → (v ≡ n) ⊎ (v < n) → q v ≡ false
    go ih true t d = let e' : 1 + count q n ≡ 0 = rw t at e in absurd (omega arith)
    go ih false t (inl d) = rw d t
    go ih false t (inr h) = let e' : 0 + count q n ≡ 0 = rw t at e in ih (omega arith) h

none_count : (q : ℕ → Bool) (n : ℕ) → ((v : ℕ) → q v ≡ false) → count q n ≡ 0
none_count q zero h = refl
none_count q (suc n) h = rw (h n) (omega (arith, none_count q n h))

permitted_large : (zone : ℕ) (fs : List Field) (i v : ℕ) → 16 ≤ v → permitted zone fs i v ≡ false
permitted_large zone [] i v l = rw (lt-leb v 15 (omega arith)) (and-false (leb 0 v))
permitted_large zone (f ∷ fs) i v l = rw (permitted_large zone fs i v l) (and-false (allows zone f i v))

module _ (p : Plan) where
  barren_of : (i : ℕ) → eqb (choices (allowed p) i) 0 ≡ true → (v : ℕ) → MayBe p i v → ⊥
  unfolding choices allowed
  barren_of i e v = (not_allowed p i v).0 (go (ltb v 16) refl)
    where
      go : (t : Bool) → ltb v 16 ≡ t → permitted p.zone p.fields i v ≡ false
      go true t = count_none (permitted p.zone p.fields i) 16 (eqb-true _ 0 e) v (ltb-true v 16 t)
      go false t = permitted_large p.zone p.fields i v (ltb-false v 16 t)

  of_barren : (i : ℕ) → ((v : ℕ) → MayBe p i v → ⊥) → eqb (choices (allowed p) i) 0 ≡ true
  unfolding choices
  of_barren i h = eq-eqb _ 0 (none_count (allowed p i) 16 (λ v. (not_allowed p i v).1 (h v)))

  pub barren_outcome : Outcome 10 (λ h. (h < input_halves p) × ((v : ℕ) → MayBe p h v → ⊥)) (unless (eqb (barren_half p) (input_halves p)) 10 (barren_half p))
  unfolding unless barren_half
  barren_outcome = go (eqb (barren_half p) (input_halves p)) refl
    where
      q : ℕ → Bool
      q i = eqb (choices (allowed p) i) 0

      go : (d : Bool) → eqb (barren_half p) (input_halves p) ≡ d
          → Outcome 10 (λ h. (h < input_halves p) × ((v : ℕ) → MayBe p h v → ⊥)) (unless (eqb (barren_half p) (input_halves p)) 10 (barren_half p))
      go true e =
          rw e (λ h f.
          let n = first_none q 0 (input_halves p) (eqb-true _ _ e ∙ sym (zero-add _)) h (omega arith) (omega (arith, f.0)) in
          true≢false (sym (of_barren h f.1) ∙ n))
      go false e =
          let m = first_most q 0 (input_halves p) in
          let d = eqb-false (barren_half p) (input_halves p) e in
          let l : barren_half p < input_halves p = omega arith in
          rw e (
            refl,
            (l, barren_of (barren_half p) (first_found q 0 (input_halves p) (omega arith))),
            λ h k f. true≢false (sym (of_barren h f.1) ∙ first_before q 0 (input_halves p) h (omega arith) k),
          )
