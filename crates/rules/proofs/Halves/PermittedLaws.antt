-- What a field permits, by place: which test a half of its input must pass, and that checking field by field is checking half by half. It holds
-- since a field asks nothing of the halves that it does not read, and since the order of tests joined by && does not matter.
use mathlib.Core.Path.{◌≡◌, refl, ap, sym, ◌∙◌}
use mathlib.Core.Bool.{Bool, true, false, cond, ◌&&◌}
use mathlib.Core.List.{List, [], ◌∷◌, ◌++◌}
use Prim.Native.Nat.{ℕ, zero, suc, ◌+◌, ◌-◌, ◌*◌, ◌%◌, ◌≤◌, ◌<◌}
use native.Mathlib.Nat.{not-suc-le-zero}
use native.Mathlib.Omega.{arith}
use lib.Dec.{ltb, eqb}
use lib.ListN.{length, take, get_or}
use lib.Seq.{take-suc}
use borrow.Author.Tests.{ltb-true, ltb-false, eqb-true, lt-ltb, le-ltb, le-leb, lt-leb, eq-eqb, ne_eqb}
use Rattle.rules.specs.Places.{All, no_more, also, Byte}
use Rattle.rules.specs.Halves.{halves, Kind, copy, pack, unpack, input_size, Field, reads_from, reads_many}
use Rattle.rules.specs.Permitted.{digit, sign, any, kind_allows, reads, allows, permitted}
use Rattle.rules.specs.Output.{may_be}
use Rattle.rules.specs.InWords.{Digit, Sign}
use Rattle.rules.proofs.Base.Tests.{and_left, and_right, and_both, within_low, within_high, within_of}
use Rattle.rules.proofs.Base.AllLaws.{all_append, all_left, all_right, at_all}
use Rattle.rules.proofs.Halves.BytePlaces.{halves_high}

-- two tests that pass together are one
pub same_test : (a b : Bool) → (a ≡ true → b ≡ true) → (b ≡ true → a ≡ true) → a ≡ b
same_test true b f g = sym (f refl)
same_test false true f g = g refl
same_test false false f g = refl

-- ---- digits and signs, in words

pub digit_told : (v : ℕ) → digit v ≡ true → Digit v
digit_told v t = within_high 0 9 v t

pub digit_of : (v : ℕ) → Digit v → digit v ≡ true
digit_of v l = within_of 0 9 v (omega arith) l

pub sign_told : (v : ℕ) → sign v ≡ true → Sign v
sign_told v t = (within_low 10 15 v t, within_high 10 15 v t)

pub sign_of : (v : ℕ) → Sign v → sign v ≡ true
sign_of v l = within_of 10 15 v l.0 l.1

-- ---- what a half of a field's own input may be

module _ (zone n m v : ℕ) where
  -- pack: a low half is a digit
  pub pack_low_allows : (j i : ℕ) → j ≡ 2 * i + 1 → kind_allows zone (pack n m) j v ≡ digit v
  pack_low_allows j i p = rw (eq-eqb (j % 2) 1 (omega arith))

  -- the last high half is a sign
  pub pack_last_allows : (j : ℕ) → j + 2 ≡ 2 * n → kind_allows zone (pack n m) j v ≡ sign v
  pack_last_allows j p = rw (ne_eqb (j % 2) 1 (λ q. omega arith), eq-eqb j (2 * n - 2) (omega arith))

  -- every other high half is the zone
  pub pack_high_allows : (j i : ℕ) → j ≡ 2 * i → i + 1 < n → kind_allows zone (pack n m) j v ≡ eqb v zone
  pack_high_allows j i p h = rw (ne_eqb (j % 2) 1 (λ q. omega arith), ne_eqb j (2 * n - 2) (λ q. omega arith))

  -- unpack: the last half is a sign
  pub unpack_last_allows : (j : ℕ) → j + 1 ≡ 2 * n → kind_allows zone (unpack n m) j v ≡ sign v
  unpack_last_allows j p = rw (eq-eqb j (2 * n - 1) (omega arith))

  -- every other half is a digit
  pub unpack_digit_allows : (j : ℕ) → j + 1 < 2 * n → kind_allows zone (unpack n m) j v ≡ digit v
  unpack_digit_allows j h = rw (ne_eqb j (2 * n - 1) (λ q. omega arith))

-- what is permitted is a half
pub any_of : (v : ℕ) → v < 16 → any v ≡ true
any_of v h = within_of 0 15 v (omega arith) (omega arith)

pub any_small : (v : ℕ) → any v ≡ true → v < 16
any_small v t = omega (arith, within_high 0 15 v t)

pub kind_small : (zone : ℕ) → zone < 16 → (c : Kind) (j v : ℕ) → kind_allows zone c j v ≡ true → v < 16
kind_small zone z (copy s) j v t = any_small v t
kind_small zone z (pack n m) j v t = go (eqb (j % 2) 1) (eqb j (2 * n - 2)) t
  where
    go : (a b : Bool) → cond a (digit v) (cond b (sign v) (eqb v zone)) ≡ true → v < 16
    go true b t = omega (arith, digit_told v t)
    go false true t = omega (arith, (sign_told v t).1)
    go false false t = omega (arith, eqb-true v zone t)
kind_small zone z (unpack n m) j v t = go (eqb j (2 * n - 1)) t
  where
    go : (a : Bool) → cond a (sign v) (digit v) ≡ true → v < 16
    go true t = omega (arith, (sign_told v t).1)
    go false t = omega (arith, digit_told v t)

-- ---- the input of a field

-- s may be the input of a field of kind c
pub record PermittedInput (zone : ℕ) (c : Kind) (s : List ℕ) : Type 0 where
  pub size : length s ≡ input_size c
  pub each : (j : ℕ) → j < 2 * input_size c → kind_allows zone c j (get_or (halves s) j 0) ≡ true

pub permitted_bytes : (zone : ℕ) → zone < 16 → (c : Kind) (s : List ℕ) → PermittedInput zone c s → All Byte s
permitted_bytes zone z c s ok = at_all 0 s (λ i h. one i h)
  where
    one : (i : ℕ) → i < length s → get_or s i 0 < 256
    one i h =
        let t = kind_small zone z c (2 * i) (get_or (halves s) (2 * i) 0) (ok.each (2 * i) (omega (arith, ok.size))) in
        omega (arith, t, halves_high s i (2 * i) refl)

-- ---- what a field allows of a half of the record

module _ (zone : ℕ) (f : Field) (v : ℕ) where
  pub allows_inside : (h j : ℕ) → h ≡ reads_from f + j → j < reads_many f → allows zone f h v ≡ kind_allows zone f.kind j v
  unfolding allows reads
  allows_inside h j p l =
      rw (le-leb (reads_from f) h (omega arith), lt-ltb h (reads_from f + reads_many f) (omega arith))
      (ap (λ (i : ℕ). kind_allows zone f.kind i v) (let z : h - reads_from f ≡ j = omega arith in z))

  pub allows_before : (h : ℕ) → h < reads_from f → allows zone f h v ≡ any v
  unfolding allows reads
  allows_before h l = rw (lt-leb (reads_from f) h l)

  pub allows_after : (h : ℕ) → reads_from f + reads_many f ≤ h → allows zone f h v ≡ any v
  unfolding allows reads
  allows_after h l = rw (le-leb (reads_from f) h (omega arith), le-ltb h (reads_from f + reads_many f) l)

-- a half is before what a field reads, or in it, or after it
pub data Where (f : Field) (h : ℕ) : Type 0 where
  before : h < reads_from f → Where f h
  inside : (j : ℕ) → h ≡ reads_from f + j → j < reads_many f → Where f h
  after : reads_from f + reads_many f ≤ h → Where f h

pub where_is : (f : Field) (h : ℕ) → Where f h
where_is f h = go (ltb h (reads_from f)) refl (ltb h (reads_from f + reads_many f)) refl
  where
    go : (s : Bool) → ltb h (reads_from f) ≡ s → (t : Bool) → ltb h (reads_from f + reads_many f) ≡ t → Where f h
    go true s t u = before (ltb-true h (reads_from f) s)
    go false s true u =
        let l : reads_from f ≤ h = ltb-false h (reads_from f) s in
        let k : h < reads_from f + reads_many f = ltb-true h (reads_from f + reads_many f) u in
        inside (h - reads_from f) (omega arith) (omega arith)
    go false s false u = after (ltb-false h (reads_from f + reads_many f) u)

-- ---- what all fields permit

module _ (zone h v : ℕ) where
  pub permitted_any : (fs : List Field) → permitted zone fs h v ≡ true → any v ≡ true
  permitted_any [] t = t
  permitted_any (f ∷ fs) t = permitted_any fs (and_right (allows zone f h v) _ t)

  pub permitted_all : (fs : List Field) → permitted zone fs h v ≡ true → All (λ f. allows zone f h v ≡ true) fs
  permitted_all [] t = no_more
  permitted_all (f ∷ fs) t = also (and_left (allows zone f h v) _ t) (permitted_all fs (and_right (allows zone f h v) _ t))

  pub all_permitted : any v ≡ true → {fs : List Field} → All (λ f. allows zone f h v ≡ true) fs → permitted zone fs h v ≡ true
  all_permitted s no_more = s
  all_permitted s (also t ts) = and_both t (all_permitted s ts)

  -- fields asked in any order: first those of one list, then those of the other
  pub permitted_append : (fs gs : List Field) → permitted zone (fs ++ gs) h v ≡ (permitted zone fs h v && permitted zone gs h v)
  permitted_append fs gs =
      same_test _ _
      (λ t. let a = permitted_all (fs ++ gs) t in let s = permitted_any (fs ++ gs) t in
      and_both (all_permitted s (all_left fs gs a)) (all_permitted s (all_right fs gs a)))
      (λ t. let p = and_left (permitted zone fs h v) _ t in let q = and_right (permitted zone fs h v) _ t in
      all_permitted (permitted_any fs p) (all_append (permitted_all fs p) (permitted_all gs q)))

  -- one more field
  pub permitted_step : (d : Field) (fs : List Field) (i : ℕ) → i < length fs
      → permitted zone (take (suc i) fs) h v ≡ (allows zone (get_or fs i d) h v && permitted zone (take i fs) h v)
  permitted_step d fs i l =
      ap (λ (gs : List Field). permitted zone gs h v) (take-suc fs i d l)
      ∙ permitted_append (take i fs) (get_or fs i d ∷ [])
      ∙ same_test _ _
      (λ t. and_both (and_left (allows zone (get_or fs i d) h v) _ (and_right (permitted zone (take i fs) h v) _ t)) (and_left (permitted zone (take i fs) h v) _ t))
      (λ t. let p = and_right (allows zone (get_or fs i d) h v) _ t in
      and_both p (and_both (and_left (allows zone (get_or fs i d) h v) _ t) (permitted_any (take i fs) p)))

-- ---- the halves of a record, one by one

module _ (q : ℕ → ℕ → Bool) where
  pub may_be_at : (b : ℕ) (hs : List ℕ) → may_be q b hs ≡ true → (j h : ℕ) → h ≡ b + j → j < length hs → q h (get_or hs j 0) ≡ true
  may_be_at b [] t j h p l = absurd (not-suc-le-zero l)
  may_be_at b (x ∷ hs) t zero h p l = let z : h ≡ b = omega arith in rw z (and_left (q b x) _ t)
  may_be_at b (x ∷ hs) t (suc j) h p l = may_be_at (suc b) hs (and_right (q b x) _ t) j h (omega arith) (omega arith)

  pub at_may_be : (b : ℕ) (hs : List ℕ) → ((j h : ℕ) → h ≡ b + j → j < length hs → q h (get_or hs j 0) ≡ true) → may_be q b hs ≡ true
  at_may_be b [] f = refl
  at_may_be b (x ∷ hs) f =
      and_both (f zero b (omega arith) (omega arith)) (at_may_be (suc b) hs (λ j h p l. f (suc j) h (omega arith) (omega arith)))
