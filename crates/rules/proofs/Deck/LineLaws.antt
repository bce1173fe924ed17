-- The lines of a deck, found in one pass: a text is the lines that hex 0A ended so far and the line that is begun, and one more byte adds to the
-- begun line or ends it. By going along the text.
use mathlib.Core.Path.{◌≡◌, refl, ap, sym, ◌∙◌, subst}
use mathlib.Core.Logic.{◌⊎◌, inl, inr}
use mathlib.Core.Bool.{Bool, true, false, cond}
use mathlib.Core.List.{List, [], ◌∷◌, ◌++◌, append-nil, append_assoc}
use Prim.Native.Nat.{ℕ, suc, ◌+◌, ◌≤◌, ◌<◌}
use native.Mathlib.Numerals.{add-one}
use native.Mathlib.Omega.{arith}
use lib.Dec.{eqb}
use lib.ListN.{length, get_or, take, drop, length-append, length-drop, drop_of_length-le}
use lib.Seq.{slice, slice_empty, take-suc, take-length, drop-append-le, drop-cons, length-take-le}
use borrow.Author.Tests.{eqb-true, eqb-false, ne_eqb}
use Rattle.rules.specs.Places.{All, no_more, also}
use Rattle.rules.specs.Deck.{onto, lines}
use Rattle.rules.specs.TextParts.{Inner}
use Rattle.rules.proofs.Base.Lists.{slice_rest}
use Rattle.rules.proofs.Base.AllLaws.{all_append}

-- the lines, each with its end
abbrev pub ended : List (List ℕ) → List ℕ
ended [] = []
ended (l ∷ ls) = l ++ (0x0A ∷ ended ls)

ended_append : (ls ms : List (List ℕ)) → ended (ls ++ ms) ≡ ended ls ++ ended ms
ended_append [] ms = refl
ended_append (l ∷ ls) ms = rw (ended_append ls ms) (sym (append_assoc l (0x0A ∷ ended ls) (ended ms)))

-- ---- line by line

-- a line with its end, and what is behind it
pub lines_line : {l : List ℕ} (rest : List ℕ) → All Inner l → lines (l ++ 0x0A ∷ rest) ≡ l ∷ lines rest
lines_line rest no_more = refl
lines_line rest (also {x = x} n a) = rw (ne_eqb x 0x0A n, lines_line rest a)

-- a last line without its end
pub lines_last : (b : ℕ) {l : List ℕ} → Inner b → All Inner l → lines (b ∷ l) ≡ (b ∷ l) ∷ []
lines_last b n no_more = rw (ne_eqb b 0x0A n)
lines_last b n (also {x = x} m a) = rw (ne_eqb b 0x0A n, lines_last x m a)

pub lines_ended : {ls : List (List ℕ)} (rest : List ℕ) → All (All Inner) ls → lines (ended ls ++ rest) ≡ ls ++ lines rest
lines_ended rest no_more = refl
lines_ended rest (also {x = l} {xs = ls} a more) =
    rw (append_assoc l (0x0A ∷ ended ls) rest, lines_line (ended ls ++ rest) a, lines_ended rest more)

-- ---- in one pass

-- x is the lines `done`, each with its end, and the line `begun`
pub record Passed (x : List ℕ) (done : List (List ℕ)) (begun : List ℕ) : Type 0 where
  pub clean : All (All Inner) done
  pub plain : All Inner begun
  pub is : x ≡ ended done ++ begun

pub passed_none : Passed [] [] []
passed_none = record { clean = no_more; plain = no_more; is = refl }

-- what follows x follows the begun line
pub passed_lines : {x : List ℕ} {done : List (List ℕ)} {begun : List ℕ} → Passed x done begun → (y : List ℕ) → lines (x ++ y) ≡ done ++ lines (begun ++ y)
passed_lines {x} {done} {begun} p y = rw (p.is, append_assoc (ended done) begun y) (lines_ended (begun ++ y) p.clean)

-- a byte of the line
pub passed_byte : {x : List ℕ} {done : List (List ℕ)} {begun : List ℕ} → Passed x done begun → (b : ℕ) → Inner b
    → Passed (x ++ (b ∷ [])) done (begun ++ (b ∷ []))
passed_byte {x} {done} {begun} p b n =
    record {
      clean = p.clean;
      plain = all_append p.plain (also n no_more);
      is = rw p.is (append_assoc (ended done) begun (b ∷ []));
    }

-- the line's end
pub passed_end : {x : List ℕ} {done : List (List ℕ)} {begun : List ℕ} → Passed x done begun → Passed (x ++ (0x0A ∷ [])) (done ++ (begun ∷ [])) []
passed_end {x} {done} {begun} p =
    record {
      clean = all_append p.clean (also p.plain no_more);
      plain = no_more;
      is = rw (p.is, ended_append done (begun ∷ []), append-nil) (append_assoc (ended done) begun (0x0A ∷ []));
    }

-- the text's end: nothing is begun, or the begun line is the last
pub passed_all : {x : List ℕ} {done : List (List ℕ)} → Passed x done [] → lines x ≡ done
passed_all {x} {done} p = ap lines (sym (append-nil x)) ∙ passed_lines p [] ∙ append-nil done

pub passed_last : {x : List ℕ} {done : List (List ℕ)} {begun : List ℕ} → Passed x done begun → 1 ≤ length begun → lines x ≡ done ++ (begun ∷ [])
passed_last {x} {done} {begun} p h =
    ap lines (sym (append-nil x)) ∙ passed_lines p [] ∙ ap (λ (ls : List (List ℕ)). done ++ ls) (ap lines (append-nil begun) ∙ last p.plain h)
  where
    last : {l : List ℕ} → All Inner l → 1 ≤ length l → lines l ≡ l ∷ []
    last no_more h = absurd (omega arith)
    last (also {x = b} n a) h = lines_last b n a

-- every text is so
pub passed_of : (x : List ℕ) → (done : List (List ℕ)) × (begun : List ℕ) × Passed x done begun
passed_of [] = ([], [], passed_none)
passed_of (b ∷ x) = let r = passed_of x in go (eqb b 0x0A) refl r.0 r.1 r.2
  where
    front : (n : Inner b) (done : List (List ℕ)) (begun : List ℕ) → All (All Inner) done → All Inner begun → x ≡ ended done ++ begun
        → (done : List (List ℕ)) × (begun : List ℕ) × Passed (b ∷ x) done begun
    front n _ begun no_more a e = ([], b ∷ begun, record { clean = no_more; plain = also n a; is = ap (λ (l : List ℕ). b ∷ l) e })
    front n _ begun (also {x = l} {xs = ls} c cs) a e =
        ((b ∷ l) ∷ ls, begun, record { clean = also (also n c) cs; plain = a; is = ap (λ (l : List ℕ). b ∷ l) e })

    go : (t : Bool) → eqb b 0x0A ≡ t → (done : List (List ℕ)) (begun : List ℕ) → Passed x done begun
        → (done : List (List ℕ)) × (begun : List ℕ) × Passed (b ∷ x) done begun
    go true e done begun p = (
      [] ∷ done,
      begun,
      record { clean = also no_more p.clean; plain = p.plain; is = ap (λ (l : List ℕ). b ∷ l) p.is ∙ ap (λ (z : ℕ). z ∷ (ended done ++ begun)) (eqb-true b 0x0A e) },
    )
    go false e done begun p = front (eqb-false b 0x0A e) done begun p.clean p.plain p.is

module _ {A : Type 0} where
  last_same : (xs ys : List A) (a b : A) → xs ++ (a ∷ []) ≡ ys ++ (b ∷ []) → (xs ≡ ys) × (a ≡ b)
  last_same [] [] a b e = (refl, cc)
  last_same [] (y ∷ ys) a b e = absurd (let z = ap length e in let n = length-append ys (b ∷ []) in omega arith)
  last_same (x ∷ xs) [] a b e = absurd (let z = ap length e in let n = length-append xs (a ∷ []) in omega arith)
  last_same (x ∷ xs) (y ∷ ys) a b e =
      let h : x ≡ y = cc in
      let f : xs ++ (a ∷ []) ≡ ys ++ (b ∷ []) = cc in
      let r = last_same xs ys a b f in
      let g = r.0 in
      (cc, r.1)

-- ---- the lines as a whole

-- hex 0A stands in no line
pub lines_clean : (deck : List ℕ) → All (All Inner) (lines deck)
lines_clean deck = let r = passed_of deck in go r.0 r.1 r.2
  where
    go : (done : List (List ℕ)) (begun : List ℕ) → Passed deck done begun → All (All Inner) (lines deck)
    go done [] p = rw (passed_all p) p.clean
    go done (b ∷ l) p = rw (passed_last p (omega arith)) (all_append p.clean (also p.plain no_more))

-- with their ends they are the deck, whose last line may lack it
pub lines_deck : (deck : List ℕ) → (ended (lines deck) ≡ deck) ⊎ (ended (lines deck) ≡ deck ++ (0x0A ∷ []))
lines_deck deck = let r = passed_of deck in go r.0 r.1 r.2
  where
    go : (done : List (List ℕ)) (begun : List ℕ) → Passed deck done begun → (ended (lines deck) ≡ deck) ⊎ (ended (lines deck) ≡ deck ++ (0x0A ∷ []))
    go done [] p = inl (ap ended (passed_all p) ∙ sym (append-nil (ended done)) ∙ sym p.is)
    go done (b ∷ l) p =
        inr
        (ap ended (passed_last p (omega arith))
        ∙ ended_append done ((b ∷ l) ∷ [])
        ∙ sym (append_assoc (ended done) (b ∷ l) (0x0A ∷ []))
        ∙ ap (λ (x : List ℕ). x ++ (0x0A ∷ [])) (sym p.is))

pub deck_lines : {ls : List (List ℕ)} → All (All Inner) ls → lines (ended ls) ≡ ls
deck_lines {ls} a = ap lines (sym (append-nil (ended ls))) ∙ lines_ended [] a ∙ append-nil ls

-- there are no more lines than bytes
pub lines_most : (deck : List ℕ) → length (lines deck) ≤ length deck
lines_most [] = omega arith
lines_most (b ∷ deck) = go (eqb b 0x0A) (lines deck) (lines_most deck)
  where
    go : (t : Bool) (ls : List (List ℕ)) → length ls ≤ length deck → length (cond t ([] ∷ ls) (onto b ls)) ≤ suc (length deck)
    go true ls h = omega arith
    go false [] h = omega arith
    go false (l ∷ ls) h = omega arith

-- ---- by places

-- one byte longer
pub slice_longer : (f t : ℕ) (l : List ℕ) → f ≤ t → t < length l → slice f (suc t) l ≡ slice f t l ++ (get_or l t 0 ∷ [])
slice_longer f t l h k =
    ap (drop f) (take-suc l t 0 k) ∙ drop-append-le f (take t l) (get_or l t 0 ∷ []) (let z = length-take-le t l (omega arith) in omega arith)

-- what holds of every byte from f to t
module _ {P : ℕ → Type 0} (l : List ℕ) where
  pub all_slice_none : (f : ℕ) → All P (slice f f l)
  all_slice_none f = rw (slice_empty f l) no_more

  pub all_slice_byte : (f t : ℕ) → f ≤ t → t < length l → P (get_or l t 0) → All P (slice f t l) → All P (slice f (t + 1) l)
  all_slice_byte f t h k p a = rw (add-one t, slice_longer f t l h k) (all_append a (also p no_more))

module _ (deck : List ℕ) where
  -- the next line ends at t
  pub next_line : (f t : ℕ) → f ≤ t → t < length deck → All Inner (slice f t deck) → get_or deck t 0 ≡ 0x0A
      → lines (drop f deck) ≡ slice f t deck ∷ lines (drop (t + 1) deck)
  next_line f t h k a e =
      let d : drop t deck ≡ 0x0A ∷ drop (t + 1) deck = rw (add-one t) (drop-cons deck t 0 k ∙ ap (λ (b : ℕ). b ∷ drop (suc t) deck) e) in
      ap lines (sym (slice_rest f t deck h (omega arith)) ∙ ap (λ (l : List ℕ). slice f t deck ++ l) d) ∙ lines_line (drop (t + 1) deck) a

  -- the last line has no end
  pub last_line : (f : ℕ) → f < length deck → All Inner (slice f (length deck) deck) → lines (drop f deck) ≡ drop f deck ∷ []
  last_line f h a = passed_last (record { clean = no_more; plain = subst (All Inner) (ap (drop f) (take-length deck)) a; is = refl }) (let z = length-drop f deck in omega arith)

  -- there is no line left
  pub no_line : (f : ℕ) → length deck ≤ f → lines (drop f deck) ≡ []
  no_line f h = rw (drop_of_length-le deck {i = f} h)

-- the bytes before i are passed, the lines `done` are ended, and a line is begun at f
pub record Scanned (deck : List ℕ) (f i : ℕ) (done : List (List ℕ)) : Type 0 where
  pub begins : f ≤ i
  pub inside : i ≤ length deck
  pub passed : Passed (take i deck) done (slice f i deck)
