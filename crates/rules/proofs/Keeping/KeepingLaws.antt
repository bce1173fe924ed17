-- Demand 3 for halves: a half that is not missing is told by the output; for a missing one there are two inputs that differ in it alone and
-- have one output. It holds since a half with one permitted value is known, a half that the output is taken from stands in it, and a change
-- of any other half changes no half of the output.
use mathlib.Core.Path.{◌≡◌, refl, ap, sym, ◌∙◌}
use mathlib.Core.Logic.{◌⊎◌, inl, inr}
use mathlib.Core.Bool.{Bool, true, false, cond, ◌&&◌, true≢false, false≢true}
use mathlib.Core.List.{List, [], ◌∷◌, map}
use Prim.Native.Nat.{ℕ, zero, suc, ◌+◌, ◌≤◌, ◌<◌}
use native.Mathlib.Nat.{zero-add, eq-or-lt_of_le, le_of_suc-le-suc, not-suc-le-zero}
use native.Mathlib.Omega.{arith}
use lib.Dec.{ltb, leb, eqb}
use lib.ListN.{length, get_or, get_or-eq_default}
use borrow.Author.Tests.{eqb-true, eqb-false, ltb-true, ltb-false, leb-true, leb-false, lt-ltb, eq-eqb, ne_eqb, not-true}
use Rattle.rules.specs.Halves.{Source, from, constant, value, value_in}
use Rattle.rules.specs.Permitted.{count, choices, first_of}
use Rattle.rules.specs.Keeping.{occurs, missing}
use Rattle.rules.specs.Twins.{listed, lowest, second, raised}
use Rattle.rules.proofs.Base.Tests.{and_left, and_right, and_both}
use Rattle.rules.proofs.Base.Search.{first_found, first_least}
use Rattle.rules.proofs.Halves.ListedLaws.{length_listed, get_d_listed}

-- ---- counting

module _ (q : ℕ → Bool) where
  count_one : (n b : ℕ) → b < n → q b ≡ true → 1 ≤ count q n
  count_one zero b h e = absurd (not-suc-le-zero h)
  count_one (suc n) b h e = go (λ l. count_one n b l e) (eq-or-lt_of_le (le_of_suc-le-suc h))
    where
      go : (b < n → 1 ≤ count q n) → (b ≡ n) ⊎ (b < n) → 1 ≤ count q (suc n)
      go ih (inl p) = let e' : q n ≡ true = rw p at e in rw e' (omega arith)
      go ih (inr l) = omega (arith, ih l)

  -- where at most one number passes, two that pass are one
  count_same : (n a b : ℕ) → count q n ≤ 1 → a < n → b < n → q a ≡ true → q b ≡ true → a ≡ b
  count_same zero a b c ha hb ea eb = absurd (not-suc-le-zero ha)
  count_same (suc n) a b c ha hb ea eb =
      go (λ la lb. count_same n a b (omega arith) la lb ea eb) (eq-or-lt_of_le (le_of_suc-le-suc ha)) (eq-or-lt_of_le (le_of_suc-le-suc hb))
    where
      last : (m : ℕ) → m ≡ n → q m ≡ true → count q n ≤ 0
      last m p e = let e' : q n ≡ true = rw p at e in let c' : 1 + count q n ≤ 1 = rw e' at c in omega arith

      go : (a < n → b < n → a ≡ b) → (a ≡ n) ⊎ (a < n) → (b ≡ n) ⊎ (b < n) → a ≡ b
      go ih (inl p) (inl r) = p ∙ sym r
      go ih (inl p) (inr l) = omega (arith, last a p ea, count_one n b l eb)
      go ih (inr l) (inl p) = omega (arith, last b p eb, count_one n a l ea)
      go ih (inr la) (inr lb) = ih la lb

  -- the highest number below n that passes
  abbrev highest : ℕ → ℕ
  highest zero = zero
  highest (suc n) = cond (q n) n (highest n)

  highest_passes : (n : ℕ) → 1 ≤ count q n → (highest n < n) × (q (highest n) ≡ true)
  highest_passes zero h = absurd (not-suc-le-zero h)
  highest_passes (suc n) h = go (λ l. highest_passes n l) (q n) refl
    where
      go : (1 ≤ count q n → (highest n < n) × (q (highest n) ≡ true)) → (t : Bool) → q n ≡ t → (highest (suc n) < suc n) × (q (highest (suc n)) ≡ true)
      go ih true e = rw e (omega arith, e)
      go ih false e = let h' : 1 ≤ 0 + count q n = rw e at h in let w = ih (omega arith) in rw e (omega (arith, w.0), w.1)

  -- two numbers that pass
  two_of : (n : ℕ) → 2 ≤ count q n → (a b : ℕ) × (a < b) × (b < n) × (q a ≡ true) × (q b ≡ true)
  two_of zero h = absurd (not-suc-le-zero h)
  two_of (suc n) h = go (λ l. two_of n l) (q n) refl
    where
      go : (2 ≤ count q n → (a b : ℕ) × (a < b) × (b < n) × (q a ≡ true) × (q b ≡ true)) → (t : Bool) → q n ≡ t
          → (a b : ℕ) × (a < b) × (b < suc n) × (q a ≡ true) × (q b ≡ true)
      go ih true e = let h' : 2 ≤ 1 + count q n = rw e at h in let w = highest_passes n (omega arith) in (highest n, n, w.0, omega arith, w.1, e)
      go ih false e = let h' : 2 ≤ 0 + count q n = rw e at h in let w = ih (omega arith) in (w.0, w.1, w.2, omega (arith, w.3), w.4, w.5)

-- ---- sources

-- a half that the output is taken from stands in it
told : (xs ys : List ℕ) (i : ℕ) (ss : List Source) → occurs i ss ≡ true → map (value_in xs) ss ≡ map (value_in ys) ss → get_or xs i 0 ≡ get_or ys i 0
told xs ys i [] o e = absurd (false≢true o)
told xs ys i (constant c ∷ ss) o e = told xs ys i ss o (cc)
told xs ys i (from j ∷ ss) o e = go (λ o'. told xs ys i ss o' (cc)) (eqb i j) refl
  where
    go : (occurs i ss ≡ true → get_or xs i 0 ≡ get_or ys i 0) → (t : Bool) → eqb i j ≡ t → get_or xs i 0 ≡ get_or ys i 0
    go ih true t = let p : i ≡ j = eqb-true i j t in let e' : get_or xs j 0 ≡ get_or ys j 0 = cc in rw p e'
    go ih false t = ih (rw t at o)

-- inputs that differ in a half alone that the output is not taken from have one output
untold : (xs ys : List ℕ) (i : ℕ) → ((j : ℕ) → (j ≡ i → ⊥) → get_or xs j 0 ≡ get_or ys j 0) → (ss : List Source) → occurs i ss ≡ false
    → map (value_in xs) ss ≡ map (value_in ys) ss
untold xs ys i same [] o = refl
untold xs ys i same (constant c ∷ ss) o = ap (value c ∷◌) (untold xs ys i same ss o)
untold xs ys i same (from j ∷ ss) o = go (λ o'. untold xs ys i same ss o') (eqb i j) refl
  where
    go : (occurs i ss ≡ false → map (value_in xs) ss ≡ map (value_in ys) ss) → (t : Bool) → eqb i j ≡ t → map (value_in xs) (from j ∷ ss) ≡ map (value_in ys) (from j ∷ ss)
    go ih true t = absurd (true≢false (rw t at o))
    go ih false t = rw (same j (λ e. eqb-false i j t (sym e)), ih (rw t at o))

-- ---- the lowest values

module _ (q : ℕ → ℕ → Bool) (i : ℕ) where
  -- a half with a permitted value has a lowest one
  pub lowest_passes : 1 ≤ choices q i → (lowest q i < 16) × (q i (lowest q i) ≡ true)
  unfolding choices lowest
  lowest_passes c =
      let w = highest_passes (q i) 16 c in
      let l : first_of (q i) 0 16 < 16 = omega (arith, first_least (q i) 0 16 _ (omega arith) w.1, w.0) in
      (l, first_found (q i) 0 16 l)

  -- and none lower
  pub lowest_first : (v : ℕ) → q i v ≡ true → lowest q i ≤ v
  unfolding lowest
  lowest_first v e = first_least (q i) 0 16 v (omega arith) e

  -- a half with two has one above
  pub second_passes : 2 ≤ choices q i → (lowest q i < second q i) × (second q i < 16) × (q i (second q i) ≡ true)
  unfolding choices second
  second_passes c =
      let w = two_of (q i) 16 c in
      let above : ℕ → Bool = λ v. ltb (lowest q i) v && q i v in
      let b : above w.1 ≡ true = and_both (lt-ltb (lowest q i) w.1 (omega (arith, w.2, lowest_first w.0 w.4))) w.5 in
      let l : first_of above 0 16 < 16 = omega (arith, first_least above 0 16 w.1 (omega arith) b, w.3) in
      let e = first_found above 0 16 l in
      (ltb-true _ _ (and_left (ltb (lowest q i) (first_of above 0 16)) _ e), l, and_right (ltb (lowest q i) (first_of above 0 16)) _ e)

  -- and none between
  pub second_first : (v : ℕ) → lowest q i < v → q i v ≡ true → second q i ≤ v
  unfolding second
  second_first v l e = first_least (λ v. ltb (lowest q i) v && q i v) 0 16 v (omega arith) (and_both (lt-ltb _ _ l) e)

-- ---- so many halves, and which values each may have; ss are the sources of the output's halves

module _ (q : ℕ → ℕ → Bool) (many : ℕ) where
  -- so many halves, each of a permitted value
  pub record Permitted (xs : List ℕ) : Type 0 where
    pub size : length xs ≡ many
    pub small : (i : ℕ) → i < many → get_or xs i 0 < 16
    pub holds : (i : ℕ) → i < many → q i (get_or xs i 0) ≡ true

  module _ (ss : List Source) where
    -- a half that is not missing is told by the output
    pub kept_at : (i : ℕ) → i < many → missing q ss i ≡ false → (xs ys : List ℕ) → Permitted xs → Permitted ys
        → map (value_in xs) ss ≡ map (value_in ys) ss → get_or xs i 0 ≡ get_or ys i 0
    unfolding choices missing
    kept_at i l kept xs ys gx gy e = go (leb 2 (choices q i)) refl (occurs i ss) refl
      where
        go : (t : Bool) → leb 2 (choices q i) ≡ t → (o : Bool) → occurs i ss ≡ o → get_or xs i 0 ≡ get_or ys i 0
        go true t true o = told xs ys i ss o e
        go true t false o = absurd (true≢false (rw (t, o) at kept))
        go false t o _ =
            count_same (q i) 16 (get_or xs i 0) (get_or ys i 0) (omega (arith, leb-false 2 (choices q i) t)) (gx.small i l) (gy.small i l) (gx.holds i l) (gy.holds i l)

    -- two inputs of permitted halves that differ in half i alone and have one output
    pub record Pair (i : ℕ) (xs ys : List ℕ) : Type 0 where
      pub of_xs : Permitted xs
      pub of_ys : Permitted ys
      pub apart : get_or xs i 0 ≡ get_or ys i 0 → ⊥
      pub alike : (j : ℕ) → (j ≡ i → ⊥) → get_or xs j 0 ≡ get_or ys j 0
      pub outputs : map (value_in xs) ss ≡ map (value_in ys) ss

  -- each half of its lowest permitted value, and the same but for half i, which has the one above
  abbrev pub lowests : List ℕ
  lowests = listed (lowest q) 0 many

  abbrev pub raiseds : ℕ → List ℕ
  raiseds i = listed (raised q i) 0 many

  pub lowest_at : (i : ℕ) → i < many → get_or lowests i 0 ≡ lowest q i
  lowest_at i l = get_d_listed (lowest q) 0 many i l ∙ ap (lowest q) (zero-add i)

  pub raised_here : (i : ℕ) → i < many → get_or (raiseds i) i 0 ≡ second q i
  unfolding raised
  raised_here i l = get_d_listed (raised q i) 0 many i l ∙ ap (raised q i) (zero-add i) ∙ rw (eq-eqb i i refl)

  pub alike : (i j : ℕ) → (j ≡ i → ⊥) → get_or lowests j 0 ≡ get_or (raiseds i) j 0
  unfolding raised
  alike i j n = go (ltb j many) refl
    where
      go : (t : Bool) → ltb j many ≡ t → get_or lowests j 0 ≡ get_or (raiseds i) j 0
      go true t =
          let l = ltb-true j many t in
          lowest_at j l ∙ sym (get_d_listed (raised q i) 0 many j l ∙ ap (raised q i) (zero-add j) ∙ rw (ne_eqb j i n))
      go false t =
          let l = ltb-false j many t in
          get_or-eq_default lowests 0 (omega (arith, length_listed (lowest q) 0 many)) ∙ sym (get_or-eq_default (raiseds i) 0 (omega (arith, length_listed (raised q i) 0 many)))

  module _ (some : (i : ℕ) → i < many → 1 ≤ choices q i) where
    -- an input of permitted halves
    pub lowest_halves : Permitted lowests
    lowest_halves =
        record {
          size = length_listed (lowest q) 0 many;
          small = λ i l. rw (lowest_at i l) (lowest_passes q i (some i l)).0;
          holds = λ i l. rw (lowest_at i l) (lowest_passes q i (some i l)).1;
        }

    module _ (i : ℕ) (two : 2 ≤ choices q i) where
      raised_at : (j : ℕ) → j < many → (get_or (raiseds i) j 0 < 16) × (q j (get_or (raiseds i) j 0) ≡ true)
      unfolding raised
      raised_at j l = rw (get_d_listed (raised q i) 0 many j l, zero-add) (go (eqb j i) refl)
        where
          go : (t : Bool) → eqb j i ≡ t → (raised q i j < 16) × (q j (raised q i j) ≡ true)
          go true t = let e : j ≡ i = eqb-true j i t in rw t (rw e ((second_passes q i two).1, (second_passes q i two).2))
          go false t = rw t (lowest_passes q j (some j l))

      pub raised_halves : Permitted (raiseds i)
      raised_halves = record { size = length_listed (raised q i) 0 many; small = λ j l. (raised_at j l).0; holds = λ j l. (raised_at j l).1 }

    -- where a half is missing there is such a pair
    pub lost_pair : (ss : List Source) (i : ℕ) → i < many → missing q ss i ≡ true → Pair ss i lowests (raiseds i)
    unfolding missing
    lost_pair ss i l e =
        let two = leb-true 2 (choices q i) (and_left (leb 2 (choices q i)) _ e) in
        let o = not-true (occurs i ss) (and_right (leb 2 (choices q i)) _ e) in
        record {
          of_xs = lowest_halves;
          of_ys = raised_halves i two;
          apart = λ same. omega (arith, sym (lowest_at i l) ∙ same ∙ raised_here i l, (second_passes q i two).0);
          alike = alike i;
          outputs = untold lowests (raiseds i) i (alike i) ss o;
        }
