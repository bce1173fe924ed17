-- What is read from a place of a text on: what is left behind a part is the text from a later place on.
use mathlib.Core.Path.{◌≡◌, refl, ap, sym, ◌∙◌}
use mathlib.Core.Bool.{Bool, false}
use Rattle.std.specs.Prelude.{IsTrue}
use mathlib.Core.List.{List, [], ◌∷◌}
use Prim.Native.Nat.{ℕ, suc, ◌+◌, ◌≤◌, ◌<◌}
use native.Mathlib.Numerals.{add-one}
use native.Mathlib.Omega.{arith}
use lib.ListN.{length, get_or, drop, length-drop}
use lib.Seq.{drop-drop, drop-cons}
use borrow.Author.Tests.{eq-eqb, ne_eqb}
use Rattle.rules.specs.Reader.{read, stopped, Reader, after, number}
use Rattle.rules.specs.TextParts.{number_then}
use Rattle.rules.proofs.Grammar.ChoiceLaws.{byte_inside, byte_front, mark_there, mark_not}
use Rattle.readers.specs.Meaning.{Reads, Stops, ReadsFrom, StopsFrom}

-- places of a part, as places of the whole
module _ {A : Type 0} (p : Reader A) (s : List ℕ) (from : ℕ) (l : from ≤ length s) where
  pub placed_read : (a : A) (n : ℕ) → Reads p (drop from s) a n → ReadsFrom p from s a (from + n)
  placed_read a n r = (omega (arith, length-drop from s, r.0), r.1 ∙ ap (read a) (drop-drop n from s))

  pub placed_stop : (n : ℕ) → Stops p (drop from s) n → StopsFrom p from s (from + n)
  placed_stop n r = (omega (arith, length-drop from s, r.0), r.1 ∙ ap stopped (drop-drop n from s))

-- more marks than one, by the first of them
module _ (m : ℕ) (more : List ℕ) (s : List ℕ) (i : ℕ) where
  marks_there : m < 256 → get_or s i 256 ≡ m → after (m ∷ more) (drop i s) ≡ after more (drop (i + 1) s)
  marks_there h e =
      let f : drop i s ≡ m ∷ drop (suc i) s = drop-cons s i 256 (byte_inside s i m e h) ∙ ap (λ (b : ℕ). b ∷ drop (suc i) s) e in
      ap (after (m ∷ more)) f ∙ rw (eq-eqb m m refl) (ap (λ (j : ℕ). after more (drop j s)) (sym (add-one i)))

  pub marks_not : (get_or s i 256 ≡ m → ⊥) → after (m ∷ more) (drop i s) ≡ stopped (drop i s)
  marks_not h = go (drop i s) (λ e. h (sym (byte_front s i) ∙ e))
    where
      go : (x : List ℕ) → (get_or x 0 256 ≡ m → ⊥) → after (m ∷ more) x ≡ stopped x
      go [] h = refl
      go (b ∷ x) h = rw (ne_eqb m b (λ e. h (sym e)))

-- two marks
module _ (a b : ℕ) (s : List ℕ) (i : ℕ) (first : get_or s i 256 ≡ a) (small : a < 256) where
  pub both_there : b < 256 → get_or s (i + 1) 256 ≡ b → after (a ∷ b ∷ []) (drop i s) ≡ read tt (drop (i + 2) s)
  both_there h e =
      let z : i + 1 + 1 ≡ i + 2 = omega arith in
      marks_there a (b ∷ []) s i small first ∙ mark_there b s (i + 1) h e ∙ ap (λ (j : ℕ). read tt (drop j s)) z

  pub second_not : (get_or s (i + 1) 256 ≡ b → ⊥) → after (a ∷ b ∷ []) (drop i s) ≡ stopped (drop (i + 1) s)
  second_not h = marks_there a (b ∷ []) s i small first ∙ mark_not b s (i + 1) h

-- a number and the mark behind it
module _ (mark : ℕ) (s : List ℕ) (from : ℕ) where
  pub then_read : (v n : ℕ) → ReadsFrom number from s v n → mark < 256 → get_or s n 256 ≡ mark → ReadsFrom (number_then mark) from s v (n + 1)
  unfolding number_then
  then_read v n r h e = (omega (arith, byte_inside s n mark e h), rw (r.1, mark_there mark s n h e))

  pub then_other : (v n : ℕ) → ReadsFrom number from s v n → (get_or s n 256 ≡ mark → ⊥) → StopsFrom (number_then mark) from s n
  unfolding number_then
  then_other v n r h = (r.0, rw (r.1, mark_not mark s n h))

  pub then_stop : (a : ℕ) → StopsFrom number from s a → StopsFrom (number_then mark) from s a
  unfolding number_then
  then_stop a r = (r.0, rw r.1)

-- a mark that a test did not find
pub not_there : {P : Type 0} (b : Bool) → (P → IsTrue b) → b ≡ false → P → ⊥
not_there b h e p = let t = h p in cc
