-- Refusal 4's column: the first part that stands again is found, and there is one where two are alike. By going along the parts with those seen.
use mathlib.Core.Path.{◌≡◌, refl, ap, sym, ◌∙◌, subst}
use mathlib.Core.Logic.{◌⊎◌, inl, inr, ◌↔◌}
use mathlib.Core.Bool.{Bool, true, false, cond, true≢false, false≢true}
use mathlib.Core.List.{List, [], ◌∷◌, ◌++◌, map, map-id}
use Prim.Native.Nat.{ℕ, zero, suc, ◌+◌, ◌≤◌, ◌<◌}
use native.Mathlib.Omega.{arith}
use lib.Dec.{leb}
use lib.ListN.{length}
use borrow.Author.Tests.{leb-true, leb-false, le-leb, eq-eqb, ne_eqb}
use Rattle.rules.specs.Answer.{Refusal, refuse}
use Rattle.rules.specs.Places.{Some, this, that, Both, none_left, both}
use Rattle.rules.specs.Deck.{before_fs}
use Rattle.rules.specs.Grammar.{Parameter, Item, field, cv}
use Rattle.rules.specs.Words.{Worded, fs_words, values_of, again_column}
use Rattle.rules.specs.Asked.{letter, same_letter, cvs, same_cv, cv_column, up_to}
use Rattle.rules.specs.Texts.{FsText}
use Rattle.rules.specs.Rows.{Alike, Twice, again, after}
use Rattle.rules.specs.ColumnRows.{FsParts, Again, this_one, later_one, BothCV, both_cv, CVOn, this_card, later_card, Lowest}
use Rattle.rules.proofs.Base.AllLaws.{both_made, both_first, both_maps}
use Rattle.rules.proofs.Refusals.AnswerLaws.{refuse_same}
use Rattle.rules.proofs.Columns.WordedLaws.{fs_parts, fs_worded}
use Rattle.rules.proofs.Deck.AcceptedLaws.{cvs_append}
use Rattle.rules.proofs.Refusals.Given.{some_map}
use Rattle.rules.proofs.Refusals.ParameterOutcome.{among_some, some_among, alike_letter, alike_of, of_letter}

-- ---- the first part that stands again

module _ {A : Type 0} (test : A → List A → Bool) (Like : A → A → Type 0)
    (exactly : (x : A) (seen : List A) → (test x seen ≡ true) ↔ Some (λ y. Like y x) seen) where
  -- none begins before the first
  pub again_low : {d : ℕ} {seen : List A} {b : ℕ} {ws : List (Worded A)} → Again Like d seen b ws → b ≤ d
  again_low (this_one e s) = omega arith
  again_low (later_one a) = omega (arith, again_low a)

  -- it is found, or there is none
  pub again_found : (seen : List A) (b : ℕ) (ws : List (Worded A))
      → (Again Like (again_column test seen b ws) seen b ws × ((d : ℕ) → d < again_column test seen b ws → Again Like d seen b ws → ⊥)) ⊎ ((d : ℕ) → Again Like d seen b ws → ⊥)
  again_found seen b [] = inr none
    where
      none : (d : ℕ) → Again Like d seen b [] → ⊥
      none d a = long a refl
        where
          long : {ws : List (Worded A)} → Again Like d seen b ws → ws ≡ [] → ⊥
          long (this_one e s) f = let z : ◌≡◌ {A = ℕ} 0 1 = cc in omega arith
          long (later_one a) f = let z : ◌≡◌ {A = ℕ} 0 1 = cc in omega arith
  again_found seen b (w ∷ ws) = go (again_found (w.value ∷ seen) (b + suc (length w.text)) ws) (test w.value seen) refl
    where
      next : ℕ
      next = again_column test (w.value ∷ seen) (b + suc (length w.text)) ws

      past : test w.value seen ≡ false → (d : ℕ) → Again Like d seen b (w ∷ ws) → Again Like d (w.value ∷ seen) (b + suc (length w.text)) ws
      past f d (this_one e s) = absurd (true≢false (sym ((exactly w.value seen).1 s) ∙ f))
      past f d (later_one a) = a

      go : (Again Like next (w.value ∷ seen) (b + suc (length w.text)) ws × ((d : ℕ) → d < next → Again Like d (w.value ∷ seen) (b + suc (length w.text)) ws → ⊥))
          ⊎ ((d : ℕ) → Again Like d (w.value ∷ seen) (b + suc (length w.text)) ws → ⊥)
          → (t : Bool) → test w.value seen ≡ t
          → (Again Like (cond t b next) seen b (w ∷ ws) × ((d : ℕ) → d < cond t b next → Again Like d seen b (w ∷ ws) → ⊥)) ⊎ ((d : ℕ) → Again Like d seen b (w ∷ ws) → ⊥)
      go ih true f = inl (this_one refl ((exactly w.value seen).0 f), λ d l a. omega (arith, again_low a))
      go (inl h) false f = inl (later_one h.0, λ d l a. h.1 d l (past f d a))
      go (inr h) false f = inr (λ d a. h d (past f d a))

  -- what is found where there is one
  pub again_first : (seen : List A) (b : ℕ) (ws : List (Worded A)) (c : ℕ) → Again Like c seen b ws
      → Again Like (again_column test seen b ws) seen b ws × ((d : ℕ) → d < again_column test seen b ws → Again Like d seen b ws → ⊥)
  again_first seen b ws c a = go (again_found seen b ws)
    where
      go : (Again Like (again_column test seen b ws) seen b ws × ((d : ℕ) → d < again_column test seen b ws → Again Like d seen b ws → ⊥)) ⊎ ((d : ℕ) → Again Like d seen b ws → ⊥)
          → Again Like (again_column test seen b ws) seen b ws × ((d : ℕ) → d < again_column test seen b ws → Again Like d seen b ws → ⊥)
      go (inl h) = h
      go (inr h) = absurd (h c a)

-- ---- parameters

pub same_letter_lem : (x : Parameter) (seen : List Parameter) → (same_letter x seen ≡ true) ↔ Some (λ y. Alike y x) seen
same_letter_lem x seen = (
  λ e. some_map (λ y q. alike_of y x (of_letter (letter y) x (sym q))) (among_some (letter x) seen e),
  λ s. some_among (letter x) seen (some_map (λ y a. sym (alike_letter y x a)) s),
)

-- one like a parameter that was seen
alike_again : (x : Parameter) (seen : List Parameter) → Some (λ y. y ≡ x) seen → (b : ℕ) (ws : List (Worded Parameter)) → Some (Alike x) (values_of ws)
    → (c : ℕ) × Again Alike c seen b ws
alike_again x seen s b (w ∷ ws) (this a) = (b, this_one refl (some_map (λ y e. subst (λ (z : Parameter). Alike z w.value) (sym e) a) s))
alike_again x seen s b (w ∷ ws) (that t) = let h = alike_again x (w.value ∷ seen) (that s) (b + suc (length w.text)) ws t in (h.0, later_one h.1)
alike_again x seen s b [] x3 = elim x3 [ ]

pub twice_again : (seen : List Parameter) (b : ℕ) (ws : List (Worded Parameter)) → Twice (values_of ws) → (c : ℕ) × Again Alike c seen b ws
twice_again seen b (w ∷ ws) (again s) =
    let h = alike_again w.value (w.value ∷ seen) (this refl) (b + suc (length w.text)) ws s in (h.0, later_one h.1)
twice_again seen b (w ∷ ws) (after t) = let h = twice_again (w.value ∷ seen) (b + suc (length w.text)) ws t in (h.0, later_one h.1)
twice_again seen b [] x' = elim x' [ ]

-- ---- CV

cv_some : (seen : List Item) → 1 ≤ cvs seen → Some (λ y. BothCV y cv) seen
cv_some [] h = absurd (omega arith)
cv_some (field f ∷ seen) h = that (cv_some seen h)
cv_some (cv ∷ seen) h = this both_cv

some_cv : (seen : List Item) (x : Item) → Some (λ y. BothCV y x) seen → (1 ≤ cvs seen) × (x ≡ cv)
some_cv (field f ∷ seen) x (that s) = some_cv seen x s
some_cv (cv ∷ seen) x (that s) = (omega arith, (some_cv seen x s).1)
some_cv (y ∷ seen) x (this a) = go y x a
  where
    go : (y x : Item) → BothCV y x → (1 ≤ cvs (y ∷ seen)) × (x ≡ cv)
    go cv cv both_cv = (omega arith, refl)
    go _ _ z = elim z [ ]
some_cv [] x x3 = elim x3 [ ]

pub same_cv_lem : (x : Item) (seen : List Item) → (same_cv x seen ≡ true) ↔ Some (λ y. BothCV y x) seen
same_cv_lem (field f) seen = (λ e. absurd (false≢true e), λ s. let e = (some_cv seen (field f) s).1 in let z : ◌≡◌ {A = ℕ} 0 1 = cc in absurd (omega arith))
same_cv_lem cv seen = (λ e. cv_some seen (leb-true 1 (cvs seen) e), λ s. le-leb 1 (cvs seen) (some_cv seen cv s).0)

-- with more than one there is one that stands again
cv_again : (seen : List Item) (b : ℕ) (ws : List (Worded Item)) → cvs seen ≤ 1 → 1 < cvs seen + cvs (values_of ws) → (c : ℕ) × Again BothCV c seen b ws
cv_again seen b [] h k = absurd (omega arith)
cv_again seen b (w ∷ ws) h k = go (λ h k. cv_again (w.value ∷ seen) (b + suc (length w.text)) ws h k) w.value refl (cvs seen) refl
  where
    go : (cvs (w.value ∷ seen) ≤ 1 → 1 < cvs (w.value ∷ seen) + cvs (values_of ws) → (c : ℕ) × Again BothCV c (w.value ∷ seen) (b + suc (length w.text)) ws)
        → (x : Item) → w.value ≡ x → (n : ℕ) → cvs seen ≡ n → (c : ℕ) × Again BothCV c seen b (w ∷ ws)
    go ih (field f) e n m =
        let a : cvs (w.value ∷ seen) ≡ cvs seen = ap (λ (z : Item). cvs (z ∷ seen)) e in
        let d : cvs (w.value ∷ values_of ws) ≡ cvs (values_of ws) = ap (λ (z : Item). cvs (z ∷ values_of ws)) e in
        let r = ih (omega (arith, a)) (omega (arith, a, d)) in
        (r.0, later_one r.1)
    go ih cv e zero m =
        let a : cvs (w.value ∷ seen) ≡ suc (cvs seen) = ap (λ (z : Item). cvs (z ∷ seen)) e in
        let d : cvs (w.value ∷ values_of ws) ≡ suc (cvs (values_of ws)) = ap (λ (z : Item). cvs (z ∷ values_of ws)) e in
        let r = ih (omega (arith, a)) (omega (arith, a, d)) in
        (r.0, later_one r.1)
    go ih cv e (suc n) m = (b, this_one refl (subst (λ (z : Item). Some (λ y. BothCV y z) seen) (sym e) (cv_some seen (omega arith))))

pub cv_on_low : {p c : ℕ} {seen : List Item} {i : ℕ} {cards : List (List (Worded Item))} → CVOn p c seen i cards → i ≤ p
cv_on_low (this_card e a) = omega arith
cv_on_low (later_card h) = omega (arith, cv_on_low h)

-- the words of the cards
pub words_of : {fs : List (List ℕ)} {cards : List (List Item)} → Both FsText fs cards → Both FsParts fs (map fs_words fs)
words_of b = both_made fs_words (both_first (λ o is t. (fs_worded o is t).0) b)

pub of_words : {fs : List (List ℕ)} {cards : List (List (Worded Item))} → Both FsParts fs cards → map fs_words fs ≡ cards
of_words {cards = cards} b = both_maps fs_words (λ ws. ws) fs_parts b ∙ map-id cards

-- the card that is refused has its column
pub cv_column_lem : (seen : List Item) (i : ℕ) (fs : List (List ℕ)) (cards : List (List Item)) → Both FsText fs cards → cvs seen ≤ 1 → (r : Refusal)
    → up_to 4 1 cvs (cvs seen) i cards ≡ refuse r → (r.number ≡ 4) × Lowest (λ c. CVOn r.place c seen i (map fs_words fs)) (cv_column seen i fs r.place)
cv_column_lem seen i [] [] none_left h r e = let z : ◌≡◌ {A = ℕ} 0 1 = cc in absurd (omega arith)
cv_column_lem seen i [] (is ∷ cs) z h r e = elim z [ ]
cv_column_lem seen i (o ∷ os) [] z h r e = elim z [ ]
cv_column_lem seen i (o ∷ os) (is ∷ cs) (both t b) h r e =
    go (λ h f. cv_column_lem (values_of (fs_words o) ++ seen) (suc i) os cs b h r f) (leb (cvs seen + cvs is) 1) refl
  where
    values : values_of (fs_words o) ≡ is
    values = (fs_worded o is t).1

    count : cvs (values_of (fs_words o) ++ seen) ≡ cvs seen + cvs is
    count = omega (arith, cvs_append (values_of (fs_words o)) seen, ap cvs values)

    later : Lowest (λ c. CVOn r.place c (values_of (fs_words o) ++ seen) (suc i) (map fs_words os)) (cv_column (values_of (fs_words o) ++ seen) (suc i) os r.place)
        → Lowest (λ c. CVOn r.place c seen i (map fs_words (o ∷ os))) (cv_column seen i (o ∷ os) r.place)
    later w =
        let n : r.place ≡ i → ⊥ = λ (z : r.place ≡ i). omega (arith, cv_on_low w.0) in
        rw (ne_eqb r.place i n) (later_card w.0, λ d l a. w.1 d l (past n d a))
      where
        past : (r.place ≡ i → ⊥) → (d : ℕ) → CVOn r.place d seen i (map fs_words (o ∷ os)) → CVOn r.place d (values_of (fs_words o) ++ seen) (suc i) (map fs_words os)
        past n d (this_card e a) = absurd (n e)
        past n d (later_card a) = a

    here : 1 < cvs seen + cvs is → Lowest (λ c. CVOn i c seen i (map fs_words (o ∷ os))) (cv_column seen i (o ∷ os) i)
    here k =
        let a = cv_again seen (suc before_fs) (fs_words o) h (omega (arith, ap cvs values)) in
        let w = again_first same_cv BothCV same_cv_lem seen (suc before_fs) (fs_words o) a.0 a.1 in
        rw (eq-eqb i i refl) (this_card refl w.0, λ d l a. past d l a (w.1 d l))
      where
        past : (d : ℕ) → d < again_column same_cv seen (suc before_fs) (fs_words o) → CVOn i d seen i (map fs_words (o ∷ os)) → (Again BothCV d seen (suc before_fs) (fs_words o) → ⊥) → ⊥
        past d l (this_card e a) m = m a
        past d l (later_card a) m = omega (arith, cv_on_low a)

    go : (cvs (values_of (fs_words o) ++ seen) ≤ 1 → up_to 4 1 cvs (cvs (values_of (fs_words o) ++ seen)) (suc i) cs ≡ refuse r
        → (r.number ≡ 4) × Lowest (λ c. CVOn r.place c (values_of (fs_words o) ++ seen) (suc i) (map fs_words os)) (cv_column (values_of (fs_words o) ++ seen) (suc i) os r.place))
        → (t : Bool) → leb (cvs seen + cvs is) 1 ≡ t
        → (r.number ≡ 4) × Lowest (λ c. CVOn r.place c seen i (map fs_words (o ∷ os))) (cv_column seen i (o ∷ os) r.place)
    go ih true f =
        let w = ih (omega (arith, count, leb-true (cvs seen + cvs is) 1 f)) (ap (λ (n : ℕ). up_to 4 1 cvs n (suc i) cs) count ∙ rw f at e) in
        (w.0, later w.1)
    go ih false f =
        let q : record { number = 4; place = i; column = 0 } ≡ r = refuse_same {A = Unit {0}} _ r (rw f at e) in
        subst (λ (z : Refusal). (z.number ≡ 4) × Lowest (λ c. CVOn z.place c seen i (map fs_words (o ∷ os))) (cv_column seen i (o ∷ os) z.place)) q
        (refl, here (leb-false (cvs seen + cvs is) 1 f))
