-- What the tests that go along the FS cards say of one card more, and of more on the last card: the cards before it are judged as they were, and
-- the last card's own test comes behind them. So the card that is refused can be noted while the cards are read.
use mathlib.Core.Path.{◌≡◌, refl, ap, sym, ◌∙◌}
use mathlib.Core.Bool.{Bool, true, false, cond}
use mathlib.Core.List.{List, [], ◌∷◌, ◌++◌}
use Prim.Native.Nat.{ℕ, zero, suc, ◌+◌, ◌≤◌, ◌<◌}
use native.Mathlib.Nat.{zero-add, add-zero}
use native.Mathlib.Omega.{arith}
use lib.Dec.{leb, eqb}
use lib.ListN.{length, length-append}
use borrow.Author.Tests.{leb-true, le-leb, lt-leb, ne_eqb}
use Rattle.rules.specs.Base.{joined}
use Rattle.rules.specs.Answer.{Answer, fine, refuse, refused, ◌>>◌, unless, each}
use Rattle.rules.specs.Grammar.{Item}
use Rattle.rules.specs.Asked.{fields_of, cvs, up_to}
use Rattle.rules.specs.Rows.{on_all_cards}
use Rattle.rules.proofs.Refusals.AnswerLaws.{not_fine}
use Rattle.rules.proofs.Deck.AcceptedLaws.{fields_append, cvs_append}

-- ---- a place that was noted, where 0 is none

abbrev pub noted : ℕ → ℕ → Answer Unit
noted number zero = fine tt
noted number (suc place) = refused number (suc place)

-- a test that fails behind others is noted where nothing was noted before it, also if it failed already
noted_more : (number w place : ℕ) (x : Answer Unit) (t : Bool) → 1 ≤ place → noted number w ≡ (x >> unless t number place)
    → noted number (cond (eqb w 0) place w) ≡ (x >> unless false number place)
unfolding ◌>>◌ unless
noted_more number zero zero x t l e = absurd (omega arith)
noted_more number zero (suc place) (fine a) t l e = refl
noted_more number zero (suc place) (refuse r) t l e = absurd (not_fine r tt (sym e))
noted_more number (suc w) place (fine a) true l e = absurd (not_fine _ tt e)
noted_more number (suc w) place (fine a) false l e = rw (ne_eqb (suc w) 0 (λ q. omega arith)) e
noted_more number (suc w) place (refuse r) t l e = rw (ne_eqb (suc w) 0 (λ q. omega arith)) e

-- ---- what the cards hold, added up

pub total_append : (f : List Item → ℕ) (cs ds : List (List Item)) → on_all_cards f (cs ++ ds) ≡ on_all_cards f cs + on_all_cards f ds
total_append f [] ds = sym (zero-add _)
total_append f (c ∷ cs) ds = omega (arith, total_append f cs ds)

pub total_last : (f : List Item → ℕ) (cs : List (List Item)) (c : List Item) → on_all_cards f (cs ++ (c ∷ [])) ≡ on_all_cards f cs + f c
total_last f cs c = omega (arith, total_append f cs (c ∷ []))

pub total_fields : (cs : List (List Item)) → on_all_cards (λ c. length (fields_of c)) cs ≡ length (fields_of (joined cs))
total_fields [] = refl
total_fields (c ∷ cs) =
    omega (arith, total_fields cs, ap length (fields_append c (joined cs)), length-append (fields_of c) (fields_of (joined cs)))

pub total_cvs : (cs : List (List Item)) → on_all_cards cvs cs ≡ cvs (joined cs)
total_cvs [] = refl
total_cvs (c ∷ cs) = omega (arith, total_cvs cs, cvs_append c (joined cs))

module _ (number limit : ℕ) (f : List Item → ℕ) where
  up_to_last : (before i : ℕ) (cs : List (List Item)) (c : List Item)
      → up_to number limit f before i (cs ++ (c ∷ [])) ≡ (up_to number limit f before i cs >> unless (leb (before + on_all_cards f cs + f c) limit) number (i + length cs))
  unfolding ◌>>◌ unless
  up_to_last before i [] c = rw (add-zero before, add-zero i) (go (leb (before + f c) limit))
    where
      go : (t : Bool) → cond t (fine tt) (refused number i) ≡ unless t number i
      go true = refl
      go false = refl
  up_to_last before i (d ∷ cs) c = go (up_to_last (before + f d) (suc i) cs c) (leb (before + f d) limit) refl
    where
      go : up_to number limit f (before + f d) (suc i) (cs ++ (c ∷ [])) ≡ (up_to number limit f (before + f d) (suc i) cs >> unless (leb (before + f d + on_all_cards f cs + f c) limit) number (suc i + length cs))
          → (t : Bool) → leb (before + f d) limit ≡ t
          → up_to number limit f before i (d ∷ (cs ++ (c ∷ []))) ≡ (up_to number limit f before i (d ∷ cs) >> unless (leb (before + on_all_cards f (d ∷ cs) + f c) limit) number (i + suc (length cs)))
      go ih true t =
          let a : before + f d + on_all_cards f cs + f c ≡ before + (f d + on_all_cards f cs) + f c = omega arith in
          let b : suc i + length cs ≡ i + suc (length cs) = omega arith in
          rw t (rw (a, b) at ih)
      go ih false t = rw t

  -- while they are within the limit
  pub up_to_fine : (before i : ℕ) (cs : List (List Item)) → before ≤ limit → up_to number limit f before i cs ≡ fine tt → before + on_all_cards f cs ≤ limit
  up_to_fine before i [] l e = omega arith
  up_to_fine before i (c ∷ cs) l e = go (λ m h. up_to_fine (before + f c) (suc i) cs m h) (leb (before + f c) limit) refl
    where
      go : (before + f c ≤ limit → up_to number limit f (before + f c) (suc i) cs ≡ fine tt → before + f c + on_all_cards f cs ≤ limit)
          → (t : Bool) → leb (before + f c) limit ≡ t → before + (f c + on_all_cards f cs) ≤ limit
      go ih true t = omega (arith, ih (leb-true (before + f c) limit t) (rw t at e))
      go ih false t = absurd (not_fine _ tt (rw t at e))

  -- one card more on which nothing stands
  pub up_to_empty : (cs : List (List Item)) → f [] ≡ 0 → up_to number limit f 0 2 (cs ++ ([] ∷ [])) ≡ up_to number limit f 0 2 cs
  unfolding ◌>>◌ unless
  up_to_empty cs z = up_to_last 0 2 cs [] ∙ go (up_to number limit f 0 2 cs) refl
    where
      go : (x : Answer Unit) → up_to number limit f 0 2 cs ≡ x → (x >> unless (leb (0 + on_all_cards f cs + f []) limit) number (2 + length cs)) ≡ x
      go (fine a) e = rw (le-leb (0 + on_all_cards f cs + f []) limit (omega (arith, up_to_fine 0 2 cs (omega arith) e)))
      go (refuse r) e = refl

  module _ (w : ℕ) (cs : List (List Item)) (c d : List Item) (h : noted number w ≡ up_to number limit f 0 2 (cs ++ (c ∷ []))) where
    -- as many on the last card: as it was
    pub noted_equal : f d ≡ f c → noted number w ≡ up_to number limit f 0 2 (cs ++ (d ∷ []))
    noted_equal e =
        h
        ∙ up_to_last 0 2 cs c
        ∙ ap (λ (n : ℕ). up_to number limit f 0 2 cs >> unless (leb (0 + on_all_cards f cs + n) limit) number (2 + length cs)) (sym e)
        ∙ sym (up_to_last 0 2 cs d)

    -- more on the last card, within the limit: as it was
    pub noted_within : f c ≤ f d → on_all_cards f (cs ++ (d ∷ [])) ≤ limit → noted number w ≡ up_to number limit f 0 2 (cs ++ (d ∷ []))
    noted_within g l =
        let m : 0 + on_all_cards f cs + f d ≤ limit = omega (arith, total_last f cs d) in
        let k : 0 + on_all_cards f cs + f c ≤ limit = omega arith in
        h
        ∙ up_to_last 0 2 cs c
        ∙ ap (λ (t : Bool). up_to number limit f 0 2 cs >> unless t number (2 + length cs)) (le-leb _ limit k ∙ sym (le-leb _ limit m))
        ∙ sym (up_to_last 0 2 cs d)

    -- more on the last card, over the limit: this card, where none was noted before
    pub noted_over : limit < on_all_cards f (cs ++ (d ∷ [])) → noted number (cond (eqb w 0) (2 + length cs) w) ≡ up_to number limit f 0 2 (cs ++ (d ∷ []))
    noted_over l =
        noted_more number w (2 + length cs) (up_to number limit f 0 2 cs) _ (omega arith) (h ∙ up_to_last 0 2 cs c)
        ∙ ap (λ (t : Bool). up_to number limit f 0 2 cs >> unless t number (2 + length cs)) (sym (lt-leb _ limit (omega (arith, total_last f cs d))))
        ∙ sym (up_to_last 0 2 cs d)

-- ---- a test of each card

module _ (number : ℕ) (q : List Item → Bool) where
  each_last : (i : ℕ) (cs : List (List Item)) (c : List Item) → each number q i (cs ++ (c ∷ [])) ≡ (each number q i cs >> unless (q c) number (i + length cs))
  unfolding each ◌>>◌ unless
  each_last i [] c = rw (add-zero i) (go (q c))
    where
      go : (t : Bool) → cond t (fine tt) (refused number i) ≡ unless t number i
      go true = refl
      go false = refl
  each_last i (d ∷ cs) c = go (each_last (suc i) cs c) (q d) refl
    where
      go : each number q (suc i) (cs ++ (c ∷ [])) ≡ (each number q (suc i) cs >> unless (q c) number (suc i + length cs))
          → (t : Bool) → q d ≡ t → each number q i (d ∷ (cs ++ (c ∷ []))) ≡ (each number q i (d ∷ cs) >> unless (q c) number (i + suc (length cs)))
      go ih true t = let b : suc i + length cs ≡ i + suc (length cs) = omega arith in rw t (rw b at ih)
      go ih false t = rw t

  pub each_empty : (cs : List (List Item)) → q [] ≡ true → each number q 2 (cs ++ ([] ∷ [])) ≡ each number q 2 cs
  unfolding ◌>>◌ unless
  each_empty cs z = each_last 2 cs [] ∙ go (each number q 2 cs)
    where
      go : (x : Answer Unit) → (x >> unless (q []) number (2 + length cs)) ≡ x
      go (fine a) = rw z
      go (refuse r) = refl

  module _ (w : ℕ) (cs : List (List Item)) (c d : List Item) (h : noted number w ≡ each number q 2 (cs ++ (c ∷ []))) where
    -- the last card is judged as it was
    pub noted_same : q d ≡ q c → noted number w ≡ each number q 2 (cs ++ (d ∷ []))
    noted_same e =
        h ∙ each_last 2 cs c ∙ ap (λ (t : Bool). each number q 2 cs >> unless t number (2 + length cs)) (sym e) ∙ sym (each_last 2 cs d)

    -- it fails: this card, where none was noted before
    pub noted_fails : q d ≡ false → noted number (cond (eqb w 0) (2 + length cs) w) ≡ each number q 2 (cs ++ (d ∷ []))
    noted_fails e =
        noted_more number w (2 + length cs) (each number q 2 cs) (q c) (omega arith) (h ∙ each_last 2 cs c)
        ∙ ap (λ (t : Bool). each number q 2 cs >> unless t number (2 + length cs)) (sym e)
        ∙ sym (each_last 2 cs d)
