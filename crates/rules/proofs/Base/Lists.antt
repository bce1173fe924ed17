-- Laws of lists that the libraries do not have: parts, lists joined, maps. By going along the list.
use mathlib.Core.Path.{◌≡◌, refl, ap, sym, ◌∙◌}
use mathlib.Core.Bool.{Bool, true, false, ◌&&◌}
use mathlib.Core.List.{List, [], ◌∷◌, ◌++◌, map, append-nil, append_assoc, map-append, map-id}
use Prim.Native.Nat.{ℕ, zero, suc, ◌+◌, ◌-◌, ◌≤◌}
use native.Mathlib.Omega.{arith}
use lib.ListN.{length, take, drop, length-append, take-append-drop}
use lib.Seq.{slice, length-take-le, take-nil, take-take, drop-append-le}
use Rattle.rules.specs.Base.{every, is_empty, joined}

module _ {A : Type 0} where
  -- ---- none and some

  pub no_length : (xs : List A) → length xs ≡ 0 → xs ≡ []
  no_length [] e = refl
  no_length (x ∷ xs) e = absurd (omega arith)

  pub full_length : (xs : List A) → (xs ≡ [] → ⊥) → 1 ≤ length xs
  full_length [] f = absurd (f refl)
  full_length (x ∷ xs) f = omega arith

  pub length_full : (xs : List A) → 1 ≤ length xs → xs ≡ [] → ⊥
  length_full xs l e = let z : length xs ≡ 0 = ap length e in omega arith

  pub not_empty : (xs : List A) → (xs ≡ [] → ⊥) → is_empty xs ≡ false
  not_empty [] f = absurd (f refl)
  not_empty (x ∷ xs) f = refl

  -- ---- parts

  -- n elements from a on
  pub slice_from : (a n : ℕ) (l : List A) → slice a (a + n) l ≡ take n (drop a l)
  slice_from zero n l = ap (λ (k : ℕ). take k l) (let z : 0 + n ≡ n = omega arith in z)
  slice_from (suc a) n [] = ap (drop (suc a)) (take-nil (suc a + n)) ∙ sym (take-nil n)
  slice_from (suc a) n (x ∷ l) = ap (λ (k : ℕ). drop (suc a) (take k (x ∷ l))) (let z : suc a + n ≡ suc (a + n) = omega arith in z) ∙ slice_from a n l

  -- a part, as code takes it
  pub slice_part : (f t : ℕ) (l : List A) → f ≤ t → slice f t l ≡ take (t - f) (drop f l)
  slice_part f t l h = ap (λ (k : ℕ). slice f k l) (let z : t ≡ f + (t - f) = omega arith in z) ∙ slice_from f (t - f) l

  -- a part, and all that is behind it
  pub slice_rest : (f t : ℕ) (l : List A) → f ≤ t → t ≤ length l → slice f t l ++ drop t l ≡ drop f l
  slice_rest f t l h k = sym (drop-append-le f (take t l) (drop t l) (omega (arith, length-take-le t l k))) ∙ ap (drop f) (take-append-drop t l)

  -- two parts, one behind the other, are one
  pub slice_slice : (f m t : ℕ) (l : List A) → f ≤ m → m ≤ t → t ≤ length l → slice f m l ++ slice m t l ≡ slice f t l
  slice_slice f m t l a b c = ap (λ (x : List A). drop f x ++ slice m t l) (sym (take-take m t l b)) ∙ slice_rest f m (take t l) a (omega (arith, length-take-le t l c))

  -- a part of the first n elements
  pub take_drop : (i j n : ℕ) (l : List A) → j + i ≤ n → take i (drop j (take n l)) ≡ take i (drop j l)
  take_drop i j n l h = sym (slice_from j i (take n l)) ∙ ap (drop j) (take-take (j + i) n l h) ∙ slice_from j i l

  pub drop_append : (k : ℕ) (xs ys : List A) → drop k (xs ++ ys) ≡ drop k xs ++ drop (k - length xs) ys
  drop_append zero xs ys = rw (let z : 0 - length xs ≡ 0 = omega arith in z)
  drop_append (suc k) [] ys = ap (λ (n : ℕ). drop n ys) (let z : suc k ≡ suc k - 0 = omega arith in z)
  drop_append (suc k) (x ∷ xs) ys = drop_append k xs ys ∙ rw (let z : suc k - suc (length xs) ≡ k - length xs = omega arith in z)

  -- ---- lists joined

  pub joined_append : (xs ys : List (List A)) → joined (xs ++ ys) ≡ joined xs ++ joined ys
  joined_append [] ys = refl
  joined_append (x ∷ xs) ys = ap (x ++◌) (joined_append xs ys) ∙ sym (append_assoc x (joined xs) (joined ys))

  pub joined_last : (xs : List (List A)) (x : List A) → joined (xs ++ (x ∷ [])) ≡ joined xs ++ x
  joined_last xs x = joined_append xs (x ∷ []) ∙ ap (joined xs ++◌) (append-nil x)

  pub drop_less : (n : ℕ) (xs : List (List A)) → length (joined (drop n xs)) ≤ length (joined xs)
  drop_less zero xs = omega arith
  drop_less (suc n) [] = omega arith
  drop_less (suc n) (x ∷ xs) = omega (arith, drop_less n xs, length-append x (joined xs))

-- ---- maps

module _ {A B : Type 0} (f : A → B) where
  pub map_take : (n : ℕ) (xs : List A) → map f (take n xs) ≡ take n (map f xs)
  map_take zero xs = refl
  map_take (suc n) [] = refl
  map_take (suc n) (x ∷ xs) = ap (f x ∷◌) (map_take n xs)

  pub map_drop : (n : ℕ) (xs : List A) → map f (drop n xs) ≡ drop n (map f xs)
  map_drop zero xs = refl
  map_drop (suc n) [] = refl
  map_drop (suc n) (x ∷ xs) = map_drop n xs

  pub map_joined : (bs : List (List A)) → map f (joined bs) ≡ joined (map (map f) bs)
  map_joined [] = refl
  map_joined (b ∷ bs) = map-append f b (joined bs) ∙ ap (map f b ++◌) (map_joined bs)

-- functions that say the same of each element
pub map_same : {A B : Type 0} {f g : A → B} → ((x : A) → f x ≡ g x) → (xs : List A) → map f xs ≡ map g xs
map_same h xs = λ i. map (λ x. h x i) xs

pub map_own : {A : Type 0} {f : A → A} → ((x : A) → f x ≡ x) → (xs : List A) → map f xs ≡ xs
map_own h xs = map_same h xs ∙ map-id xs

-- lists made of elements, joined
pub mapped_append : {A B : Type 0} (f : A → List B) (xs ys : List A) → joined (map f (xs ++ ys)) ≡ joined (map f xs) ++ joined (map f ys)
mapped_append f xs ys = ap joined (map-append f xs ys) ∙ joined_append (map f xs) (map f ys)

pub mapped_last : {A B : Type 0} (f : A → List B) (xs : List A) (x : A) → joined (map f (xs ++ (x ∷ []))) ≡ joined (map f xs) ++ f x
mapped_last f xs x = mapped_append f xs (x ∷ []) ∙ ap (joined (map f xs) ++◌) (append-nil (f x))

-- ---- a test of each element

pub every_append : {A : Type 0} (q : A → Bool) (xs ys : List A) → every q (xs ++ ys) ≡ (every q xs && every q ys)
every_append q [] ys = refl
every_append q (x ∷ xs) ys = go (q x) (every_append q xs ys)
  where
    go : (t : Bool) → every q (xs ++ ys) ≡ (every q xs && every q ys) → (t && every q (xs ++ ys)) ≡ ((t && every q xs) && every q ys)
    go true e = e
    go false e = refl
