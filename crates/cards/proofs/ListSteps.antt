-- The first card with some of what is counted, as CV or a field taken from the key, as the last card holds more: an item that is not counted does not change it, and
-- one that is counted is the first or changes nothing. CV is no field.
use mathlib.Core.Path.{◌≡◌, refl, ap, sym, ◌∙◌}
use mathlib.Core.Bool.{Bool, true, false, cond}
use mathlib.Core.List.{List, [], ◌∷◌, ◌++◌, append-nil}
use Prim.Native.Nat.{ℕ, zero, suc, ◌+◌, ◌≤◌}
use native.Mathlib.Nat.{add-zero, zero-add}
use native.Mathlib.Omega.{arith}
use lib.Dec.{eqb}
use lib.ListN.{length}
use borrow.Author.Tests.{ne_eqb}
use Rattle.rules.specs.Grammar.{CardField, Item, cv}
use Rattle.rules.specs.Asked.{fields_of}
use Rattle.rules.specs.Plan.{key_fields}
use Rattle.rules.proofs.Deck.AcceptedLaws.{fields_append}
use Rattle.terms.specs.Meaning.{first_card}

-- CV on the last card is no field
pub no_field_lem : (c : List Item) → fields_of (c ++ (cv ∷ [])) ≡ fields_of c
no_field_lem c = fields_append c (cv ∷ []) ∙ append-nil (fields_of c)

-- fields taken from the key, of two lists
pub keys_append : (xs ys : List CardField) → key_fields (xs ++ ys) ≡ key_fields xs + key_fields ys
keys_append [] ys = sym (zero-add _)
keys_append (f ∷ xs) ys = omega (arith, keys_append xs ys)

-- ---- the first card with some of what q counts

module _ (q : List Item → ℕ) where
  first_last : (i : ℕ) (cs : List (List Item)) (c : List Item) → 1 ≤ i
      → first_card q i (cs ++ (c ∷ [])) ≡ cond (eqb (first_card q i cs) 0) (cond (eqb (q c) 0) 0 (i + length cs)) (first_card q i cs)
  first_last i [] c l = rw (add-zero i)
  first_last i (d ∷ cs) c l = go (first_last (suc i) cs c (omega arith)) (eqb (q d) 0) refl
    where
      go : first_card q (suc i) (cs ++ (c ∷ [])) ≡ cond (eqb (first_card q (suc i) cs) 0) (cond (eqb (q c) 0) 0 (suc i + length cs)) (first_card q (suc i) cs)
          → (t : Bool) → eqb (q d) 0 ≡ t
          → first_card q i (d ∷ (cs ++ (c ∷ []))) ≡ cond (eqb (first_card q i (d ∷ cs)) 0) (cond (eqb (q c) 0) 0 (i + suc (length cs))) (first_card q i (d ∷ cs))
      go ih true t = let e : suc i + length cs ≡ i + suc (length cs) = omega arith in rw t (rw e at ih)
      go ih false t = rw (t, ne_eqb i 0 (λ q. omega arith))

  -- a card with none of it
  pub first_empty : (cs : List (List Item)) → q [] ≡ 0 → first_card q 2 (cs ++ ([] ∷ [])) ≡ first_card q 2 cs
  first_empty cs e = first_last 2 cs [] (omega arith) ∙ rw e (go (first_card q 2 cs))
    where
      go : (k : ℕ) → cond (eqb k 0) 0 k ≡ k
      go zero = refl
      go (suc k) = rw (ne_eqb (suc k) 0 (λ q. omega arith))

  -- as much of it on the last card
  pub first_same : (cs : List (List Item)) (c d : List Item) → q d ≡ q c → first_card q 2 (cs ++ (d ∷ [])) ≡ first_card q 2 (cs ++ (c ∷ []))
  first_same cs c d e =
      first_last 2 cs d (omega arith)
      ∙ ap (λ (n : ℕ). cond (eqb (first_card q 2 cs) 0) (cond (eqb n 0) 0 (2 + length cs)) (first_card q 2 cs)) e
      ∙ sym (first_last 2 cs c (omega arith))

  -- some of it on the last card, whatever stood there before
  pub first_more : (cs : List (List Item)) (c d : List Item) → 1 ≤ q d
      → first_card q 2 (cs ++ (d ∷ [])) ≡ cond (eqb (first_card q 2 (cs ++ (c ∷ []))) 0) (2 + length cs) (first_card q 2 (cs ++ (c ∷ [])))
  first_more cs c d h =
      first_last 2 cs d (omega arith)
      ∙ ap (λ (t : Bool). cond (eqb (first_card q 2 cs) 0) (cond t 0 (2 + length cs)) (first_card q 2 cs)) (ne_eqb (q d) 0 (λ z. omega arith))
      ∙ go (first_card q 2 cs) (eqb (q c) 0)
      ∙ sym (ap (λ (k : ℕ). cond (eqb k 0) (2 + length cs) k) (first_last 2 cs c (omega arith)))
    where
      place : ℕ
      place = 2 + length cs

      go : (k : ℕ) (t : Bool) → cond (eqb k 0) place k ≡ cond (eqb (cond (eqb k 0) (cond t 0 place) k) 0) place (cond (eqb k 0) (cond t 0 place) k)
      go zero true = refl
      go zero false = let e : eqb place 0 ≡ false = ne_eqb place 0 (λ q. omega arith) in rw e
      go (suc k) t = let e : eqb (suc k) 0 ≡ false = ne_eqb (suc k) 0 (λ q. omega arith) in rw (e, e)
