-- The reader of numbers is prompt: it stops at the first byte if that is no digit, and otherwise at the sixth digit.
use mathlib.Core.Path.{◌≡◌, refl, ap, sym, ◌∙◌, subst}
use mathlib.Core.Bool.{Bool, true, false, cond}
use mathlib.Core.List.{List, [], ◌∷◌, ◌++◌, append-nil}
use Prim.Native.Nat.{ℕ, ◌≤◌, ◌<◌}
use native.Mathlib.Omega.{arith}
use lib.Dec.{leb}
use lib.ListN.{length, drop, take, length-append, length-drop, length-take, take-append-drop}
use lib.Seq.{drop-append-le, take-append-le}
use borrow.Author.Tests.{leb-true, leb-false, le-leb, lt-leb}
use Rattle.rules.specs.Places.{no_more, also}
use Rattle.rules.specs.Reader.{Read, read, stopped, is_digit, digits, past, decimal, number}
use Rattle.rules.specs.Texts.{NumberText}
use Rattle.rules.specs.Columns.{GoesOn}
use Rattle.rules.proofs.Base.AllLaws.{all_take}
use Rattle.rules.proofs.Grammar.NumberLaws.{digits_past, all_digits, number_sound}
use Rattle.rules.proofs.Grammar.Prompt.{left_of, Near, both_read, both_stop, both_past, Prompt, not_stopped, stopped_left}

past_less : (s : List ℕ) → length (past s) ≤ length s
past_less s = omega (arith, ap length (digits_past s), length-append (digits s) (past s))

-- ---- where it stops

number_live : (s left : List ℕ) → number s ≡ stopped left → (x : List ℕ) × (s ≡ x ++ left) × GoesOn NumberText x
unfolding number
number_live s left = go (leb 1 (length (digits s))) (leb (length (digits s)) 5) refl refl
  where
    go : (t u : Bool) → leb 1 (length (digits s)) ≡ t → leb (length (digits s)) 5 ≡ u
        → cond t (cond u (read (decimal 0 (digits s)) (past s)) (stopped (drop 5 s))) (stopped s) ≡ stopped left → (x : List ℕ) × (s ≡ x ++ left) × GoesOn NumberText x
    go true true e f h = absurd (not_stopped (decimal 0 (digits s)) (past s) left h)
    go true false e f h =
        let n : 5 < length (digits s) = leb-false (length (digits s)) 5 f in
        let d : take 5 s ≡ take 5 (digits s) = ap (take 5) (digits_past s) ∙ take-append-le 5 (digits s) (past s) (omega arith) in
        let c : length (take 5 (digits s)) ≡ 5 = omega (arith, length-take 5 (digits s)) in (
          take 5 (digits s),
          sym (take-append-drop 5 s) ∙ ap (λ (l : List ℕ). l ++ drop 5 s) d ∙ ap (λ (l : List ℕ). take 5 (digits s) ++ l) (stopped_left (drop 5 s) left h),
          ([], decimal 0 (take 5 (digits s)), subst (λ (l : List ℕ). NumberText l (decimal 0 (take 5 (digits s)))) (sym (append-nil (take 5 (digits s)))) (record { digits = all_take 5 (all_digits s); one = omega arith; five = omega arith; value = refl })),
        )
    go false u e f h = ([], stopped_left s left h, (48 ∷ [], 0, record { digits = also {x = 48} (omega arith, omega arith) no_more; one = omega arith; five = omega arith; value = refl }))

-- ---- what it looks at

-- the digits at the front end before b, or go past it
data Front (w : List ℕ) (b : ℕ) (l m : List ℕ) : Type 0 where
  ends : (v : List ℕ) → digits (w ++ (b ∷ l)) ≡ digits (w ++ (b ∷ m)) → length (digits (w ++ (b ∷ l))) ≤ length w
      → past (w ++ (b ∷ l)) ≡ v ++ (b ∷ l) → past (w ++ (b ∷ m)) ≡ v ++ (b ∷ m) → Front w b l m
  goes : length w < length (digits (w ++ (b ∷ l))) → length w < length (digits (w ++ (b ∷ m)))
      → length (past (w ++ (b ∷ l))) ≤ length l → length (past (w ++ (b ∷ m))) ≤ length m → Front w b l m

front : (w : List ℕ) (b : ℕ) (l m : List ℕ) → Front w b l m
front [] b l m = go (is_digit b) refl
  where
    go : (t : Bool) → is_digit b ≡ t → Front [] b l m
    go true e = goes (rw e (omega arith)) (rw e (omega arith)) (rw e (past_less l)) (rw e (past_less m))
    go false e = ends [] (rw e refl) (rw e (omega arith)) (rw e refl) (rw e refl)
front (x ∷ w) b l m = go (is_digit x) refl (front w b l m)
  where
    go : (t : Bool) → is_digit x ≡ t → Front w b l m → Front (x ∷ w) b l m
    go true e (ends v d k p q) = ends v (rw e (ap (λ (z : List ℕ). x ∷ z) d)) (rw e (omega arith)) (rw e p) (rw e q)
    go true e (goes d k p q) = goes (rw e (omega arith)) (rw e (omega arith)) (rw e p) (rw e q)
    go false e f = ends (x ∷ w) (rw e refl) (rw e (omega arith)) (rw e refl) (rw e refl)

-- an answer on s, from the count of digits
abbrev answer : List ℕ → Bool → Bool → Read ℕ
answer s t u = cond t (cond u (read (decimal 0 (digits s)) (past s)) (stopped (drop 5 s))) (stopped s)

answer_past : (w : List ℕ) (b : ℕ) (l : List ℕ) (u : Bool) → length w < 5 → length (past (w ++ (b ∷ l))) ≤ length l
    → length (left_of (answer (w ++ (b ∷ l)) true u)) ≤ length l
answer_past w b l true h k = k
answer_past w b l false h k = omega (arith, length-drop 5 (w ++ (b ∷ l)), length-append w (b ∷ l))

number_near : (w : List ℕ) (b : ℕ) (l m : List ℕ) → Near b l m (number (w ++ (b ∷ l))) (number (w ++ (b ∷ m)))
unfolding number
number_near w b l m = go (front w b l m)
  where
    s : List ℕ
    s = w ++ (b ∷ l)

    r : List ℕ
    r = w ++ (b ∷ m)

    same : (v : List ℕ) (t u : Bool) → leb 1 (length (digits s)) ≡ t → leb (length (digits s)) 5 ≡ u → length (digits s) ≤ length w
        → Near b l m (cond t (cond u (read (decimal 0 (digits s)) (v ++ (b ∷ l))) (stopped (drop 5 s))) (stopped s)) (cond t (cond u (read (decimal 0 (digits s)) (v ++ (b ∷ m))) (stopped (drop 5 r))) (stopped r))
    same v true true e f k = both_read (decimal 0 (digits s)) v
    same v true false e f k =
        let n : 5 ≤ length w = omega (arith, leb-false (length (digits s)) 5 f) in
        rw (drop-append-le 5 w (b ∷ l) n, drop-append-le 5 w (b ∷ m) n) (both_stop (drop 5 w))
    same v false u e f k = both_stop w

    far : (t : Bool) → leb 5 (length w) ≡ t → length w < length (digits s) → length w < length (digits r)
        → length (past s) ≤ length l → length (past r) ≤ length m → Near b l m (number s) (number r)
    far true e d k p q =
        let n : 5 ≤ length w = leb-true 5 (length w) e in
        rw (le-leb 1 (length (digits s)) (omega arith), le-leb 1 (length (digits r)) (omega arith), lt-leb (length (digits s)) 5 (omega arith), lt-leb (length (digits r)) 5 (omega arith), drop-append-le 5 w (b ∷ l) n, drop-append-le 5 w (b ∷ m) n)
        (both_stop (drop 5 w))
    far false e d k p q =
        let n : length w < 5 = leb-false 5 (length w) e in
        rw (le-leb 1 (length (digits s)) (omega arith), le-leb 1 (length (digits r)) (omega arith))
        (both_past (answer_past w b l (leb (length (digits s)) 5) n p) (answer_past w b m (leb (length (digits r)) 5) n q))

    go : Front w b l m → Near b l m (number s) (number r)
    go (ends v d k p q) = rw (sym d, p, q) (same v (leb 1 (length (digits s))) (leb (length (digits s)) 5) refl refl k)
    go (goes d k p q) = far (leb 5 (length w)) refl d k p q

pub prompt_number : Prompt NumberText number
prompt_number =
    record {
      sound = number_sound;
      some = (48 ∷ [], 0, record { digits = also {x = 48} (omega arith, omega arith) no_more; one = omega arith; five = omega arith; value = refl });
      live = number_live;
      near = number_near;
    }
