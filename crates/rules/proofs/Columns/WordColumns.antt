-- Columns part by part. A list read with its parts' texts is the list read without them, and stops where that stops; the numbers of a text are those of its
-- parts, since a mark between two parts is no digit. So the first number outside its limits, and the first part that stands again, are found by going along
-- the parts, and one part more only matters where nothing was found before it.
use mathlib.Core.Path.{◌≡◌, refl, ap, ap₂, sym, ◌∙◌, subst}
use mathlib.Core.Bool.{Bool, true, false, cond, not, ◌&&◌, ◌||◌}
use mathlib.Core.List.{List, [], ◌∷◌, ◌++◌, map, append-nil}
use Prim.Native.Nat.{ℕ, zero, suc, ◌+◌, ◌≤◌}
use Prim.Native.String.{String}
use native.Mathlib.Omega.{arith}
use lib.Dec.{leb, eqb}
use lib.ListN.{length, take, drop, take-append-drop}
use borrow.Author.Tests.{ne_eqb}
use Rattle.rules.specs.Base.{ascii, every, joined}
use Rattle.rules.specs.Places.{All, no_more, also}
use Rattle.rules.specs.Reader.{Read, read, stopped, Reader, pure, onward, or_else, text, nothing, is_digit, rest_then, list_by, list_of}
use Rattle.rules.specs.Grammar.{Parameter}
use Rattle.rules.specs.Words.{Worded, worded, values_of, again_column, number_columns, Limit, within_limits, outside_column, first_column, outside_in, outside_among}
use Rattle.rules.specs.Texts.{ListText, RestText}
use Rattle.rules.specs.Asked.{letter, among, same_letter}
use Rattle.rules.specs.ColumnRows.{WordIs}
use Rattle.rules.proofs.Columns.WordedLaws.{worded_reads}

-- ---- lists with their parts' texts

abbrev pub plain_read : {A : Type 0} → Read (List (Worded A)) → Read (List A)
plain_read (read ws left) = read (values_of ws) left
plain_read (stopped left) = stopped left

module _ {A : Type 0} where
  plain_or : (x y : Read (List (Worded A))) → plain_read (or_else x y) ≡ or_else (plain_read x) (plain_read y)
  plain_or (read ws left) y = refl
  plain_or (stopped x) (read ws left) = refl
  plain_or (stopped x) (stopped y) = go (leb (length x) (length y))
    where
      go : (t : Bool) → plain_read {A = A} (cond t (stopped x) (stopped y)) ≡ cond t (stopped x) (stopped y)
      go true = refl
      go false = refl

  plain_more : (w : Worded A) (x : Read (List (Worded A))) → plain_read (onward x (λ ws. pure (w ∷ ws))) ≡ onward (plain_read x) (λ is. pure (w.value ∷ is))
  plain_more w (read ws left) = refl
  plain_more w (stopped left) = refl

module _ {A : Type 0} (mark : String) (item : Reader A) where
  plain_rest : (list : Reader (List (Worded A))) (plain : Reader (List A)) → ((s : List ℕ) → plain_read (list s) ≡ plain s) → (s : List ℕ)
      → plain_read (rest_then mark (worded item) list s) ≡ rest_then mark item plain s
  unfolding rest_then
  plain_rest list plain h s = plain_or (onward (nothing s) (λ a. pure [])) (onward (text mark s) (λ a. list)) ∙ ap₂ or_else (first s) (second (text mark s))
    where
      first : (s : List ℕ) → plain_read {A = A} (onward (nothing s) (λ a. pure [])) ≡ onward (nothing s) (λ a. pure [])
      first [] = refl
      first (b ∷ s) = refl

      second : (x : Read (Unit {0})) → plain_read (onward x (λ a. list)) ≡ onward x (λ a. plain)
      second (read a left) = h left
      second (stopped left) = refl

  plain_by : (k : ℕ) (s : List ℕ) → plain_read (list_by mark (worded item) k s) ≡ list_by mark item k s
  unfolding worded
  plain_by zero s = refl
  plain_by (suc k) s = go (λ t. plain_by k t) (item s) refl
    where
      go : ((t : List ℕ) → plain_read (list_by mark (worded item) k t) ≡ list_by mark item k t) → (x : Read A) → item s ≡ x
          → plain_read (list_by mark (worded item) (suc k) s) ≡ list_by mark item (suc k) s
      go h (read i left) e =
          rw e
          (plain_more _ (rest_then mark (worded item) (list_by mark (worded item) k) left)
          ∙ ap (λ (x : Read (List A)). onward x (λ is. pure (i ∷ is))) (plain_rest (list_by mark (worded item) k) (list_by mark item k) h left))
      go h (stopped left) e = rw e refl

  pub list_plain : (s : List ℕ) → plain_read (list_of mark (worded item) s) ≡ list_of mark item s
  unfolding list_of
  list_plain s = plain_by (suc (length s)) s

-- ---- a part with its text

module _ {A : Type 0} (p : Reader A) (s : List ℕ) where
  -- a part that took so many bytes
  pub word_taken : (a : A) (n : ℕ) → p s ≡ read a (drop n s) → worded p s ≡ read (record { value = a; text = take n s }) (drop n s)
  word_taken a n e =
      let q : take n s ++ drop n s ≡ s = take-append-drop n s in
      subst (λ (z : List ℕ). worded p z ≡ read (record { value = a; text = take n s }) (drop n s)) q
      (worded_reads p (take n s) (drop n s) (record { value = a; text = take n s }) refl (ap p q ∙ e))

  pub worded_stops : (left : List ℕ) → p s ≡ stopped left → worded p s ≡ stopped left
  unfolding worded
  worded_stops left e = rw e refl

-- ---- the columns of numbers

-- a text that begins d columns on from column c
pub columns_shift : (t : Bool) (c d : ℕ) (s : List ℕ) → number_columns t (c + d) s ≡ map (λ k. c + k) (number_columns t d s)
columns_shift t c d [] = refl
columns_shift t c d (b ∷ s) =
    let e : suc (c + d) ≡ c + suc d = omega arith in
    go (is_digit b && not t) (ap (λ (k : ℕ). number_columns (is_digit b) k s) e ∙ columns_shift (is_digit b) c (suc d) s)
  where
    go : (u : Bool) → number_columns (is_digit b) (suc (c + d)) s ≡ map (λ k. c + k) (number_columns (is_digit b) (suc d) s)
        → cond u ((c + d) ∷ number_columns (is_digit b) (suc (c + d)) s) (number_columns (is_digit b) (suc (c + d)) s)
        ≡ map (λ k. c + k) (cond u (d ∷ number_columns (is_digit b) (suc d) s) (number_columns (is_digit b) (suc d) s))
    go true h = ap (λ (l : List ℕ). (c + d) ∷ l) h
    go false h = h

-- none begins before the first
pub columns_low : (t : Bool) (c : ℕ) (s : List ℕ) → 1 ≤ c → All (λ k. 1 ≤ k) (number_columns t c s)
columns_low t c [] l = no_more
columns_low t c (b ∷ s) l = go (is_digit b && not t) (columns_low (is_digit b) (suc c) s (omega arith))
  where
    go : (u : Bool) → All (λ k. 1 ≤ k) (number_columns (is_digit b) (suc c) s) → All (λ k. 1 ≤ k) (cond u (c ∷ number_columns (is_digit b) (suc c) s) (number_columns (is_digit b) (suc c) s))
    go true a = also l a
    go false a = a

-- those of a text with a mark in it are those before it and those behind it
columns_mark : (t : Bool) (c m : ℕ) → is_digit m ≡ false → (x z : List ℕ) → number_columns t c (x ++ (m ∷ z)) ≡ number_columns t c x ++ number_columns false (suc (c + length x)) z
columns_mark t c m f [] z = let e : suc c ≡ suc (c + 0) = omega arith in rw f (ap (λ (k : ℕ). number_columns false k z) e)
columns_mark t c m f (b ∷ x) z =
    let e : suc (suc c + length x) ≡ suc (c + suc (length x)) = omega arith in
    go (is_digit b && not t) (columns_mark (is_digit b) (suc c) m f x z ∙ ap (λ (k : ℕ). number_columns (is_digit b) (suc c) x ++ number_columns false k z) e)
  where
    go : (u : Bool) → number_columns (is_digit b) (suc c) (x ++ (m ∷ z)) ≡ number_columns (is_digit b) (suc c) x ++ number_columns false (suc (c + suc (length x))) z
        → cond u (c ∷ number_columns (is_digit b) (suc c) (x ++ (m ∷ z))) (number_columns (is_digit b) (suc c) (x ++ (m ∷ z)))
        ≡ cond u (c ∷ number_columns (is_digit b) (suc c) x) (number_columns (is_digit b) (suc c) x) ++ number_columns false (suc (c + suc (length x))) z
    go true h = ap (λ (l : List ℕ). c ∷ l) h
    go false h = h

-- ---- the first number outside its limits

pub first_zero : (a : ℕ) → first_column a 0 ≡ a
first_zero zero = refl
first_zero (suc a) = rw (ne_eqb (suc a) 0 (λ q. omega arith))

pub first_some : (a b : ℕ) → 1 ≤ a → first_column a b ≡ a
first_some a b l = rw (ne_eqb a 0 (λ q. omega arith))

pub first_assoc : (a b c : ℕ) → first_column (first_column a b) c ≡ first_column a (first_column b c)
first_assoc zero b c = refl
first_assoc (suc a) b c = rw (ne_eqb (suc a) 0 (λ q. omega arith), ne_eqb (suc a) 0 (λ q. omega arith))

outside_append : (cs : List ℕ) (ls : List Limit) (ds : List ℕ) (ms : List Limit) → length cs ≡ length ls → All (λ k. 1 ≤ k) cs
    → outside_column (cs ++ ds) (ls ++ ms) ≡ first_column (outside_column cs ls) (outside_column ds ms)
outside_append [] [] ds ms e a = refl
outside_append [] (l ∷ ls) ds ms e a = absurd (omega arith)
outside_append (c ∷ cs) [] ds ms e a = absurd (omega arith)
outside_append (c ∷ cs) (l ∷ ls) ds ms e (also p a) = go (within_limits l) (outside_append cs ls ds ms (omega arith) a)
  where
    go : (t : Bool) → outside_column (cs ++ ds) (ls ++ ms) ≡ first_column (outside_column cs ls) (outside_column ds ms)
        → cond t (outside_column (cs ++ ds) (ls ++ ms)) c ≡ first_column (cond t (outside_column cs ls) c) (outside_column ds ms)
    go true h = h
    go false h = sym (first_some c (outside_column ds ms) p)

-- there is none exactly if all are within their limits
pub outside_none : (cs : List ℕ) (ls : List Limit) → length cs ≡ length ls → All (λ k. 1 ≤ k) cs → eqb (outside_column cs ls) 0 ≡ every within_limits ls
outside_none [] [] e a = refl
outside_none [] (l ∷ ls) e a = absurd (omega arith)
outside_none (c ∷ cs) [] e a = absurd (omega arith)
outside_none (c ∷ cs) (l ∷ ls) e (also p a) = go (within_limits l) (outside_none cs ls (omega arith) a)
  where
    go : (t : Bool) → eqb (outside_column cs ls) 0 ≡ every within_limits ls → eqb (cond t (outside_column cs ls) c) 0 ≡ (t && every within_limits ls)
    go true h = h
    go false h = ne_eqb c 0 (λ q. omega arith)

-- nothing is asked of a part without limits
pub outside_free : (cs : List ℕ) → outside_column cs [] ≡ 0
outside_free [] = refl
outside_free (c ∷ cs) = refl

-- ---- part by part

module _ {A : Type 0} (mark : String) (m : ℕ) (only : ascii mark ≡ m ∷ []) (plain : is_digit m ≡ false) (ItemIs : List ℕ → A → Type 0) (numbers : A → List Limit)
    (count : (x : List ℕ) (a : A) → ItemIs x a → (c : ℕ) → length (number_columns false c x) ≡ length (numbers a)) where
  -- the numbers of a rest stand behind those of the part before it
  record Behind (c : ℕ) (y : List ℕ) (more : List (Worded A)) : Type 0 where
    columns : List ℕ
    stand : (x : List ℕ) (b : ℕ) → c ≡ b + suc (length x) → number_columns false b (x ++ y) ≡ number_columns false b x ++ columns
    outside : outside_column columns (joined (map numbers (values_of more))) ≡ outside_among numbers c more

  pub outside_parts : {s : List ℕ} {ws : List (Worded A)} → ListText mark (WordIs ItemIs) s ws → (c : ℕ) → 1 ≤ c
      → outside_column (number_columns false c s) (joined (map numbers (values_of ws))) ≡ outside_among numbers c ws
  outside_parts t =
      elim t as (λ s ws t. (c : ℕ) → 1 ≤ c → outside_column (number_columns false c s) (joined (map numbers (values_of ws))) ≡ outside_among numbers c ws) (λ y more t. (c : ℕ) → 1 ≤ c → Behind c y more) [
        | ListText.item {x = x} {y = y} {a = w} {more = more} i (r → h) ↦ λ c l. part x y w more i (λ d k. h d k) c l
        | RestText.nothing ↦ λ c l. record { columns = []; stand = λ x b e. ap (number_columns false b) (append-nil x) ∙ sym (append-nil (number_columns false b x)); outside = refl }
        | RestText.marked {y = y} {more = more} (u → h) ↦ λ c l. record {
          columns = number_columns false c y;
          stand = λ x b e. marked x y b c e;
          outside = h c l;
        }
      ]
    where
      marked : (x y : List ℕ) (b c : ℕ) → c ≡ b + suc (length x) → number_columns false b (x ++ (ascii mark ++ y)) ≡ number_columns false b x ++ number_columns false c y
      marked x y b c e =
          let k : suc (b + length x) ≡ c = omega arith in
          ap (λ (z : List ℕ). number_columns false b (x ++ (z ++ y))) only ∙ columns_mark false b m plain x y ∙ ap (λ (j : ℕ). number_columns false b x ++ number_columns false j y) k

      part : (x y : List ℕ) (w : Worded A) (more : List (Worded A)) → WordIs ItemIs x w → ((d : ℕ) → 1 ≤ d → Behind d y more) → (c : ℕ) → 1 ≤ c
          → outside_column (number_columns false c (x ++ y)) (joined (map numbers (values_of (w ∷ more)))) ≡ outside_among numbers c (w ∷ more)
      part x y w more i h c l =
          let z = h (c + suc (length x)) (omega arith) in
          ap (λ (ks : List ℕ). outside_column ks (numbers w.value ++ joined (map numbers (values_of more)))) (z.stand x c refl)
          ∙ outside_append (number_columns false c x) (numbers w.value) z.columns (joined (map numbers (values_of more))) (count x w.value i.0 c) (columns_low false c x l)
          ∙ ap (first_column (outside_column (number_columns false c x) (numbers w.value))) z.outside
          ∙ ap (λ (u : List ℕ). first_column (outside_column (number_columns false c u) (numbers w.value)) (outside_among numbers (c + suc (length u)) more)) (sym i.1)

-- ---- one part more

-- the columns that parts take, with the mark behind each
abbrev pub width : {A : Type 0} → List (Worded A) → ℕ
width [] = 0
width (w ∷ ws) = suc (length w.text) + width ws

pub width_last : {A : Type 0} (ws : List (Worded A)) (w : Worded A) → width (ws ++ (w ∷ [])) ≡ width ws + suc (length w.text)
width_last [] w = omega arith
width_last (v ∷ ws) w = omega (arith, width_last ws w)

pub values_last : {A : Type 0} (ws : List (Worded A)) (w : Worded A) → values_of (ws ++ (w ∷ [])) ≡ values_of ws ++ (w.value ∷ [])
values_last [] w = refl
values_last (v ∷ ws) w = ap (λ l. v.value ∷ l) (values_last ws w)

pub outside_last : {A : Type 0} (numbers : A → List Limit) (c : ℕ) (ws : List (Worded A)) (w : Worded A)
    → outside_among numbers c (ws ++ (w ∷ [])) ≡ first_column (outside_among numbers c ws) (outside_in numbers (c + width ws) w)
outside_last numbers c [] w = let e : c ≡ c + 0 = omega arith in first_zero (outside_in numbers c w) ∙ ap (λ (k : ℕ). outside_in numbers k w) e
outside_last numbers c (v ∷ ws) w =
    let e : (c + suc (length v.text)) + width ws ≡ c + (suc (length v.text) + width ws) = omega arith in
    ap (first_column (outside_in numbers c v)) (outside_last numbers (c + suc (length v.text)) ws w)
    ∙ sym (first_assoc (outside_in numbers c v) (outside_among numbers (c + suc (length v.text)) ws) (outside_in numbers ((c + suc (length v.text)) + width ws) w))
    ∙ ap (λ (k : ℕ). first_column (outside_among numbers c (v ∷ ws)) (outside_in numbers k w)) e

pub again_last : (seen : List Parameter) (c : ℕ) → 1 ≤ c → (ws : List (Worded Parameter)) (w : Worded Parameter)
    → again_column same_letter seen c (ws ++ (w ∷ []))
    ≡ first_column (again_column same_letter seen c ws) (cond (among (letter w.value) (map letter (values_of ws)) || same_letter w.value seen) (c + width ws) 0)
again_last seen c l [] w = let e : c ≡ c + 0 = omega arith in ap (λ (k : ℕ). cond (same_letter w.value seen) k 0) e
again_last seen c l (v ∷ ws) w =
    let e : (c + suc (length v.text)) + width ws ≡ c + (suc (length v.text) + width ws) = omega arith in
    go (same_letter v.value seen)
    (again_last (v.value ∷ seen) (c + suc (length v.text)) (omega arith) ws w
    ∙ ap₂ (λ (t : Bool) (k : ℕ). first_column (again_column same_letter (v.value ∷ seen) (c + suc (length v.text)) ws) (cond t k 0))
    (turn (among (letter w.value) (map letter (values_of ws))) (eqb (letter w.value) (letter v.value)) (same_letter w.value seen)) e)
  where
    turn : (a b d : Bool) → (a || (b || d)) ≡ ((b || a) || d)
    turn true true d = refl
    turn true false d = refl
    turn false true d = refl
    turn false false d = refl

    go : (t : Bool) → again_column same_letter (v.value ∷ seen) (c + suc (length v.text)) (ws ++ (w ∷ []))
        ≡ first_column (again_column same_letter (v.value ∷ seen) (c + suc (length v.text)) ws)
        (cond (among (letter w.value) (map letter (values_of (v ∷ ws))) || same_letter w.value seen) (c + (suc (length v.text) + width ws)) 0)
        → cond t c (again_column same_letter (v.value ∷ seen) (c + suc (length v.text)) (ws ++ (w ∷ [])))
        ≡ first_column (cond t c (again_column same_letter (v.value ∷ seen) (c + suc (length v.text)) ws))
        (cond (among (letter w.value) (map letter (values_of (v ∷ ws))) || same_letter w.value seen) (c + (suc (length v.text) + width ws)) 0)
    go true h = sym (first_some c _ l)
    go false h = h
