-- Refusals 3, 4, 6 and 7 of the FS cards: the first operand that is not of its grammar, the card with the second CV or the 65th field, the first card with a
-- field outside its limits. By going along the cards with what stood before.
use mathlib.Core.Path.{◌≡◌, refl, ap, sym, ◌∙◌, subst}
use mathlib.Core.Logic.{◌↔◌}
use mathlib.Core.Bool.{Bool, true, false, and-false, true≢false}
use mathlib.Core.List.{List, [], ◌∷◌, ◌++◌}
use Prim.Native.Nat.{ℕ, suc, ◌+◌, ◌≤◌, ◌<◌}
use native.Mathlib.Omega.{arith}
use lib.Dec.{leb}
use lib.ListN.{length}
use borrow.Author.Tests.{leb-true, leb-false}
use Rattle.rules.specs.Base.{every}
use Rattle.rules.specs.Answer.{fine, ◌>>=◌}
use Rattle.rules.specs.Places.{Some, this, that, Found, here, later, Both, none_left, both}
use Rattle.rules.specs.Reader.{Read, read, stopped, Reader}
use Rattle.rules.specs.Deck.{before_fs}
use Rattle.rules.specs.Grammar.{Item, fs_operand}
use Rattle.rules.specs.Asked.{grammatical, items_from, up_to}
use Rattle.rules.specs.Rows.{on_all_cards, CardOf}
use Rattle.rules.proofs.Refusals.AnswerLaws.{not_fine, fine_same, bind_fine}
use Rattle.rules.proofs.Refusals.Given.{Outcome, outcome_same, outcome_bind, found_low, found_nil, found_past}
use Rattle.rules.proofs.Base.FoundLaws.{nil_split}

-- ---- refusal 3: an operand is not of its grammar

abbrev pub Stops : {A : Type 0} → Read A → Type 0
Stops {A} x = (a : A) (left : List ℕ) → x ≡ read a left → ⊥

pub grammatical_outcome : {A : Type 0} (i b : ℕ) (o : List ℕ) (x : Read A) → Outcome 3 (λ p. (p ≡ i) × Stops x) (grammatical i b o x)
grammatical_outcome i b o (read a left) = λ p f. f.1 a left refl
grammatical_outcome i b o (stopped left) = (refl, (refl, λ a l e. let z : ◌≡◌ {A = ℕ} 0 1 = cc in omega arith), λ q l f. omega (arith, f.0))

pub grammatical_fine : {A : Type 0} (i b : ℕ) (o : List ℕ) (x : Read A) (a : A) → grammatical i b o x ≡ fine a → (left : List ℕ) × (x ≡ read a left)
grammatical_fine i b o (read c left) a e = (left, ap (λ z. read z left) (fine_same c a e))
grammatical_fine i b o (stopped left) a e = absurd (not_fine _ a e)

pub items_outcome : (i : ℕ) (os : List (List ℕ)) → Outcome 3 (λ p. Found (λ o. Stops (fs_operand o)) p i os) (items_from i os)
unfolding ◌>>=◌
items_outcome i [] = λ p f. found_nil f
items_outcome i (o ∷ os) = go (items_outcome (suc i) os) (fs_operand o) refl
  where
    go : Outcome 3 (λ p. Found (λ o. Stops (fs_operand o)) p (suc i) os) (items_from (suc i) os) → (r : Read (List Item)) → fs_operand o ≡ r
        → Outcome 3 (λ p. Found (λ o. Stops (fs_operand o)) p i (o ∷ os)) (items_from i (o ∷ os))
    go ih (read is left) e =
        rw e
        (outcome_bind 3 _ (items_from (suc i) os) (λ more. is ∷ more)
        (outcome_same 3 _ _ (items_from (suc i) os) (λ p f. later f) (λ p f. found_past (λ h. h is left e) f) ih))
    go ih (stopped left) e =
        rw e
        (refl, here refl (λ a l d. let z : stopped left ≡ read a l = sym e ∙ d in let y : ◌≡◌ {A = ℕ} 0 1 = cc in omega arith), λ q h f. omega (arith, found_low f))

pub items_fine : (i : ℕ) (os : List (List ℕ)) (cards : List (List Item)) → items_from i os ≡ fine cards
    → Both (λ o is. (left : List ℕ) × (fs_operand o ≡ read is left)) os cards
items_fine i [] cards e = subst (Both (λ o is. (left : List ℕ) × (fs_operand o ≡ read is left)) []) (fine_same [] cards e) none_left
items_fine i (o ∷ os) cards e =
    let w = bind_fine (grammatical i before_fs o (fs_operand o)) _ cards e in
    let x = bind_fine (items_from (suc i) os) _ cards w.2 in
    subst (Both (λ o is. (left : List ℕ) × (fs_operand o ≡ read is left)) (o ∷ os)) (fine_same (w.0 ∷ x.0) cards x.2)
    (both (grammatical_fine i before_fs o (fs_operand o) w.0 w.1) (items_fine (suc i) os x.0 x.1))

-- a reader that reads exactly the whole texts of a grammar
module _ {A : Type 0} (reader : Reader A) (Text : List ℕ → A → Type 0) (exactly : (o : List ℕ) (a : A) → (reader o ≡ read a []) ↔ Text o a)
    (all_read : (o : List ℕ) (a : A) (left : List ℕ) → reader o ≡ read a left → left ≡ []) where
  pub read_text : (o : List ℕ) (a : A) (left : List ℕ) → reader o ≡ read a left → Text o a
  read_text o a left e = (exactly o a).0 (e ∙ ap (read a) (all_read o a left e))

  pub stops_text : (o : List ℕ) → Stops (reader o) → (a : A) → Text o a → ⊥
  stops_text o h a t = h a [] ((exactly o a).1 t)

  pub text_stops : (o : List ℕ) → ((a : A) → Text o a → ⊥) → Stops (reader o)
  text_stops o h a left e = h a (read_text o a left e)

-- ---- refusals 4 and 6: what the cards hold, added up

record CardFrom (f : List Item → ℕ) (k sum i : ℕ) (cards : List (List Item)) (p : ℕ) : Type 0 where
  before : List (List Item)
  card : List Item
  rest : List (List Item)
  split : cards ≡ before ++ (card ∷ rest)
  place : p ≡ i + length before
  fewer : sum + on_all_cards f before < k
  enough : k ≤ sum + on_all_cards f before + f card

up_to_sum : (c limit : ℕ) (f : List Item → ℕ) (sum i : ℕ) (cards : List (List Item)) → sum ≤ limit
    → Outcome c (CardFrom f (suc limit) sum i cards) (up_to c limit f sum i cards)
up_to_sum c limit f sum i [] l = λ p h. nil_split h.before h.card h.rest h.split
up_to_sum c limit f sum i (x ∷ xs) l = go (λ m. up_to_sum c limit f (sum + f x) (suc i) xs m) (leb (sum + f x) limit) refl
  where
    to : (p : ℕ) → CardFrom f (suc limit) (sum + f x) (suc i) xs p → CardFrom f (suc limit) sum i (x ∷ xs) p
    to p h =
        record {
          before = x ∷ h.before;
          card = h.card;
          rest = h.rest;
          split = ap (x ∷◌) h.split;
          place = omega (arith, h.place);
          fewer = omega (arith, h.fewer);
          enough = omega (arith, h.enough);
        }

    back : sum + f x ≤ limit → (p : ℕ) (b : List (List Item)) (y : List Item) (r : List (List Item)) → x ∷ xs ≡ b ++ (y ∷ r) → p ≡ i + length b
        → sum + on_all_cards f b < suc limit → suc limit ≤ sum + on_all_cards f b + f y → CardFrom f (suc limit) (sum + f x) (suc i) xs p
    back m p [] y r e q a d = let z : x ≡ y = cc in let d' : suc limit ≤ sum + 0 + f x = rw (← z) at d in absurd (omega arith)
    back m p (w ∷ b) y r e q a d =
        let z : w ≡ x = cc in
        let a' : sum + (f x + on_all_cards f b) < suc limit = rw z at a in
        let d' : suc limit ≤ sum + (f x + on_all_cards f b) + f y = rw z at d in
        record { before = b; card = y; rest = r; split = cc; place = omega arith; fewer = omega arith; enough = omega arith }

    go : (sum + f x ≤ limit → Outcome c (CardFrom f (suc limit) (sum + f x) (suc i) xs) (up_to c limit f (sum + f x) (suc i) xs)) → (t : Bool) → leb (sum + f x) limit ≡ t
        → Outcome c (CardFrom f (suc limit) sum i (x ∷ xs)) (up_to c limit f sum i (x ∷ xs))
    go ih true t =
        let m = leb-true (sum + f x) limit t in
        rw t
        (outcome_same c _ _ (up_to c limit f (sum + f x) (suc i) xs) to
        (λ p h. back m p h.before h.card h.rest h.split h.place h.fewer h.enough) (ih m))
    go ih false t =
        rw t (
          refl,
          record { before = []; card = x; rest = xs; split = refl; place = omega arith; fewer = omega arith; enough = omega (arith, leb-false (sum + f x) limit t) },
          λ q m h. omega (arith, h.place),
        )

pub up_to_outcome : (c limit : ℕ) (f : List Item → ℕ) (cards : List (List Item)) → Outcome c (CardOf f (suc limit) cards) (up_to c limit f 0 2 cards)
up_to_outcome c limit f cards = outcome_same c _ _ (up_to c limit f 0 2 cards) to back (up_to_sum c limit f 0 2 cards (omega arith))
  where
    to : (p : ℕ) → CardFrom f (suc limit) 0 2 cards p → CardOf f (suc limit) cards p
    to p h =
        record {
          before = h.before;
          card = h.card;
          rest = h.rest;
          split = h.split;
          place = h.place;
          fewer = omega (arith, h.fewer);
          enough = omega (arith, h.enough);
        }

    back : (p : ℕ) → CardOf f (suc limit) cards p → CardFrom f (suc limit) 0 2 cards p
    back p h =
        record {
          before = h.before;
          card = h.card;
          rest = h.rest;
          split = h.split;
          place = h.place;
          fewer = omega (arith, h.fewer);
          enough = omega (arith, h.enough);
        }

-- ---- refusal 7: a field outside its limits

pub every_some : {A : Type 0} (q : A → Bool) (xs : List A) → every q xs ≡ false → Some (λ x. q x ≡ false) xs
every_some q [] e = absurd (true≢false e)
every_some q (x ∷ xs) e = go (λ e'. every_some q xs e') (q x) refl
  where
    go : (every q xs ≡ false → Some (λ x. q x ≡ false) xs) → (t : Bool) → q x ≡ t → Some (λ x. q x ≡ false) (x ∷ xs)
    go ih true t = that (ih (rw t at e))
    go ih false t = this t

pub some_every : {A : Type 0} (q : A → Bool) (xs : List A) → Some (λ x. q x ≡ false) xs → every q xs ≡ false
some_every q (x ∷ xs) (this e) = rw e
some_every q (x ∷ xs) (that s) = rw (some_every q xs s) (and-false (q x))
some_every {A = A} q [] x' = elim x' [ ]
