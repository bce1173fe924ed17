-- TR and TRF put as many records into each block as fit, in order: what the filling gives is so, and nothing else is. It holds because a
-- block that fits never ends where another block that fits, and begins the same list, goes on. Over any limit and any costs.
use mathlib.Core.Path.{◌≡◌, refl, ap, ap₂, sym, ◌∙◌}
use mathlib.Core.Bool.{Bool, true, false}
use mathlib.Core.List.{List, [], ◌∷◌, ◌++◌, append_assoc}
use Prim.Native.Nat.{ℕ, ◌+◌, ◌≤◌, ◌<◌}
use native.Mathlib.Omega.{arith}
use lib.ListN.{length, length-append}
use borrow.Author.Tests.{leb-true, leb-false, le-leb}
use Rattle.rules.specs.Base.{joined}
use Rattle.rules.specs.Places.{All, no_more, also}
use Rattle.rules.specs.Output.{total, fits, fill, filled}
use Rattle.rules.specs.InWords.{Packed, no_block, last_block, full_block}
use Rattle.rules.proofs.Base.AllLaws.{all_append}

module _ (limit c d : ℕ) where
  -- what two lists of records take in one block, but for the block's own cost, is what they take apart
  pub total_append : (xs ys : List (List ℕ)) → total c d (xs ++ ys) + c ≡ total c d xs + total c d ys
  total_append [] ys = omega arith
  total_append (x ∷ xs) ys = omega (arith, total_append xs ys)

  -- a record more takes its data and d
  pub total_snoc : (xs : List (List ℕ)) (r : List ℕ) → total c d (xs ++ (r ∷ [])) ≡ total c d xs + (d + length r)
  total_snoc xs r = omega (arith, total_append xs (r ∷ []))

  pub total_least : (xs : List (List ℕ)) → c ≤ total c d xs
  total_least [] = omega arith
  total_least (x ∷ xs) = omega (arith, total_least xs)

  pub fits_true : (rs : List (List ℕ)) → fits limit c d rs ≡ true → total c d rs ≤ limit
  unfolding fits
  fits_true rs e = leb-true (total c d rs) limit e

  pub fits_false : (rs : List (List ℕ)) → fits limit c d rs ≡ false → limit < total c d rs
  unfolding fits
  fits_false rs e = leb-false (total c d rs) limit e

  pub fits_of : (rs : List (List ℕ)) → total c d rs ≤ limit → fits limit c d rs ≡ true
  unfolding fits
  fits_of rs l = le-leb (total c d rs) limit l

  -- ---- as many as fit, in order

  pub fill_all : (now rs : List (List ℕ)) → joined (fill limit c d now rs) ≡ now ++ rs
  fill_all now [] = refl
  fill_all now (r ∷ rs) = go (fill_all (now ++ (r ∷ [])) rs) (fill_all (r ∷ []) rs) (fits limit c d (now ++ (r ∷ []))) refl
    where
      go : joined (fill limit c d (now ++ (r ∷ [])) rs) ≡ (now ++ (r ∷ [])) ++ rs → joined (fill limit c d (r ∷ []) rs) ≡ (r ∷ []) ++ rs
          → (t : Bool) → fits limit c d (now ++ (r ∷ [])) ≡ t → joined (fill limit c d now (r ∷ rs)) ≡ now ++ (r ∷ rs)
      go here next true t = rw t (here ∙ append_assoc now (r ∷ []) rs)
      go here next false t = rw t (ap (now ++◌) next)

  -- the blocks hold the records, in order
  pub filled_all : (rs : List (List ℕ)) → joined (filled limit c d rs) ≡ rs
  filled_all [] = refl
  filled_all (r ∷ rs) = fill_all (r ∷ []) rs

  -- the block now open begins the first block
  fill_head : (r : List ℕ) (x rs : List (List ℕ)) → (y : List (List ℕ)) × (bs : List (List (List ℕ))) × (fill limit c d (r ∷ x) rs ≡ (r ∷ y) ∷ bs)
  fill_head r x [] = (x, [], refl)
  fill_head r x (a ∷ rs) = go (fill_head r (x ++ (a ∷ [])) rs) (fits limit c d ((r ∷ x) ++ (a ∷ []))) refl
    where
      go : (y : List (List ℕ)) × (bs : List (List (List ℕ))) × (fill limit c d (r ∷ (x ++ (a ∷ []))) rs ≡ (r ∷ y) ∷ bs) → (t : Bool)
          → fits limit c d ((r ∷ x) ++ (a ∷ [])) ≡ t → (y : List (List ℕ)) × (bs : List (List (List ℕ))) × (fill limit c d (r ∷ x) (a ∷ rs) ≡ (r ∷ y) ∷ bs)
      go w true t = (w.0, w.1, rw t w.2)
      go w false t = (x, fill limit c d (a ∷ []) rs, rw t)

  pub fill_packed : (now : List (List ℕ)) {rs : List (List ℕ)} → 1 ≤ length now → total c d now ≤ limit → All (λ r. total c d (r ∷ []) ≤ limit) rs
      → Packed limit c d (fill limit c d now rs)
  fill_packed now l f no_more = last_block l f
  fill_packed now l f (also {x = r} {xs = rs} e a) =
      go (λ t. fill_packed (now ++ (r ∷ [])) (omega (arith, length-append now (r ∷ []))) t a) (fill_packed (r ∷ []) (omega arith) e a)
      (fill_head r [] rs) (fits limit c d (now ++ (r ∷ []))) refl
    where
      go : (total c d (now ++ (r ∷ [])) ≤ limit → Packed limit c d (fill limit c d (now ++ (r ∷ [])) rs)) → Packed limit c d (fill limit c d (r ∷ []) rs)
          → (y : List (List ℕ)) × (bs : List (List (List ℕ))) × (fill limit c d (r ∷ []) rs ≡ (r ∷ y) ∷ bs) → (t : Bool)
          → fits limit c d (now ++ (r ∷ [])) ≡ t → Packed limit c d (fill limit c d now (r ∷ rs))
      go here next w true t = rw t (here (fits_true (now ++ (r ∷ [])) t))
      go here next w false t = rw (t, w.2) (full_block l f (fits_false (now ++ (r ∷ [])) t) (rw w.2 at next))

  -- where each record fits by itself, the filling is so
  pub filled_packed : {rs : List (List ℕ)} → All (λ r. total c d (r ∷ []) ≤ limit) rs → Packed limit c d (filled limit c d rs)
  filled_packed no_more = no_block
  filled_packed (also {x = r} e a) = fill_packed (r ∷ []) (omega arith) e a

  -- ---- it is the only one

  -- of two blocks that begin one list, one begins the other
  data Begins (x y : List (List ℕ)) (s t : List (List ℕ)) : Type 0 where
    same : x ≡ y → s ≡ t → Begins x y s t
    less : (r : List ℕ) (u : List (List ℕ)) → y ≡ x ++ (r ∷ u) → s ≡ (r ∷ u) ++ t → Begins x y s t
    more : (r : List ℕ) (u : List (List ℕ)) → x ≡ y ++ (r ∷ u) → t ≡ (r ∷ u) ++ s → Begins x y s t

  begins : (x y s t : List (List ℕ)) → x ++ s ≡ y ++ t → Begins x y s t
  begins [] [] s t e = same refl e
  begins [] (b ∷ y) s t e = less b y refl e
  begins (a ∷ x) [] s t e = more a x refl (sym e)
  begins (a ∷ x) (b ∷ y) s t e = go (begins x y s t (cc))
    where
      z : a ≡ b
      z = cc

      go : Begins x y s t → Begins (a ∷ x) (b ∷ y) s t
      go (same d q) = same (ap₂ ◌∷◌ z d) q
      go (less r u d q) = less r u (ap₂ ◌∷◌ (sym z) d) q
      go (more r u d q) = more r u (ap₂ ◌∷◌ z d) q

  -- a block that fits does not go on where the next record overfills
  overfull : (x u : List (List ℕ)) (r : List ℕ) → limit < total c d (x ++ (r ∷ [])) → total c d (x ++ (r ∷ u)) ≤ limit → ⊥
  overfull x u r f t = omega (arith, total_snoc x r, total_append x (r ∷ u), total_least u)

  pub packed_block : {b : List (List ℕ)} {bs : List (List (List ℕ))} → Packed limit c d (b ∷ bs) → (1 ≤ length b) × (total c d b ≤ limit)
  packed_block (last_block l f) = (l, f)
  packed_block (full_block l f o h) = (l, f)

  pub packed_rest : {b : List (List ℕ)} {bs : List (List (List ℕ))} → Packed limit c d (b ∷ bs) → Packed limit c d bs
  packed_rest (last_block l f) = no_block
  packed_rest (full_block l f o h) = h

  -- the first block of a packed list does not end before another that fits and begins the same list
  too_short : {b : List (List ℕ)} {bs : List (List (List ℕ))} → Packed limit c d (b ∷ bs) → (y t : List (List ℕ)) (r : List ℕ) (u : List (List ℕ))
      → total c d y ≤ limit → y ≡ b ++ (r ∷ u) → joined bs ≡ (r ∷ u) ++ t → ⊥
  too_short {b} (last_block l f) y t r u g e q = let n : 0 ≡ length ((r ∷ u) ++ t) = ap length q in omega arith
  too_short {b} (full_block {r = r'} l f o h) y t r u g e q =
      let z : r ≡ r' = cc in
      let o' : limit < total c d (b ++ (r ∷ [])) = rw z o in
      overfull b u r o' (rw (← e) g)

  -- two fillings of the same records, in order, are equal
  pub packed_once : (bs cs : List (List (List ℕ))) → Packed limit c d bs → Packed limit c d cs → joined bs ≡ joined cs → bs ≡ cs
  packed_once [] [] x y e = refl
  packed_once [] (z ∷ cs) x y e = let n : 0 ≡ length (z ++ joined cs) = ap length e in absurd (omega (arith, length-append z (joined cs), (packed_block y).0))
  packed_once (b ∷ bs) [] x y e = let n : length (b ++ joined bs) ≡ 0 = ap length e in absurd (omega (arith, length-append b (joined bs), (packed_block x).0))
  packed_once (b ∷ bs) (z ∷ cs) x y e = go (λ px py q. packed_once bs cs px py q) (begins b z (joined bs) (joined cs) e)
    where
      go : (Packed limit c d bs → Packed limit c d cs → joined bs ≡ joined cs → bs ≡ cs) → Begins b z (joined bs) (joined cs) → b ∷ bs ≡ z ∷ cs
      go ih (same d q) = ap₂ ◌∷◌ d (ih (packed_rest x) (packed_rest y) q)
      go ih (less r u d q) = absurd (too_short x z (joined cs) r u (packed_block y).1 d q)
      go ih (more r u d q) = absurd (too_short y b (joined bs) r u (packed_block x).1 d q)

  -- each record of a block that fits, fits by itself
  pub alone : (b : List (List ℕ)) → total c d b ≤ limit → All (λ r. total c d (r ∷ []) ≤ limit) b
  alone [] l = no_more
  alone (r ∷ b) l = also {x = r} (omega (arith, total_least b)) (alone b (omega arith))

  packed_alone : {bs : List (List (List ℕ))} → Packed limit c d bs → All (λ r. total c d (r ∷ []) ≤ limit) (joined bs)
  packed_alone no_block = no_more
  packed_alone (last_block {b = b} l f) = all_append (alone b f) no_more
  packed_alone (full_block {b = b} l f o h) = all_append (alone b f) (packed_alone h)

  -- whatever is packed is the filling of its records
  pub packed_filled : (bs : List (List (List ℕ))) → Packed limit c d bs → bs ≡ filled limit c d (joined bs)
  packed_filled bs x = packed_once bs (filled limit c d (joined bs)) x (filled_packed (packed_alone x)) (sym (filled_all (joined bs)))
