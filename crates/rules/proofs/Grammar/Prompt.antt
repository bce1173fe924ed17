-- A reader stops at the first byte at which no continuation could be right. It is prompt for a grammar: what it reads is of the grammar; where it
-- stops, what it passed can go on; and what it answers depends on no byte behind the first that it leaves. Each way to put readers together keeps this.
use mathlib.Core.Path.{◌≡◌, refl, ap, sym, ◌∙◌, subst, subst₂}
use mathlib.Core.Logic.{◌⊎◌, inl, inr}
use mathlib.Core.Bool.{Bool, true, false, cond}
use mathlib.Core.List.{List, [], ◌∷◌, ◌++◌, append-nil, append_assoc}
use Prim.Native.Nat.{ℕ, suc, ◌-◌, ◌≤◌, ◌<◌}
use Prim.Native.String.{String}
use native.Mathlib.Omega.{arith}
use lib.Dec.{leb, eqb}
use lib.ListN.{length, drop, take, length-append, take-append-drop}
use lib.Seq.{take-append-le, take-append_seam}
use borrow.Author.Tests.{leb-true, leb-false, le-leb, lt-leb, eqb-true}
use Rattle.rules.specs.Base.{ascii}
use Rattle.rules.specs.Reader.{Read, read, stopped, Reader, pure, onward, ◌>>=◌, ◌>>◌, or_else, ◌or◌, after, text, nothing}
use Rattle.rules.specs.Columns.{GoesOn, NoWay, no_way, stops_short, RightTo}
use Rattle.rules.proofs.Grammar.ReaderLaws.{not_read, read_value, read_left, Sound, sound_pure, sound_or, sound_bind, text_sound}

-- ---- the notion

-- what is left
abbrev pub left_of : {A : Type 0} → Read A → List ℕ
left_of (read a left) = left
left_of (stopped left) = left

-- two answers, on texts that are alike up to a byte b, with l and m behind it: the same before b or at it, or both past it
pub data Near {A : Type 0} (b : ℕ) (l m : List ℕ) : Read A → Read A → Type 0 where
  both_read : (a : A) (v : List ℕ) → Near b l m (read a (v ++ (b ∷ l))) (read a (v ++ (b ∷ m)))
  both_stop : (v : List ℕ) → Near b l m (stopped (v ++ (b ∷ l))) (stopped (v ++ (b ∷ m)))
  both_past : {r q : Read A} → length (left_of r) ≤ length l → length (left_of q) ≤ length m → Near b l m r q

pub record Prompt {A : Type 0} (T : List ℕ → A → Type 0) (p : Reader A) : Type 0 where
  pub sound : Sound T p
  -- there is a text
  pub some : GoesOn T []
  -- where it stops, what it passed can go on
  pub live : (s left : List ℕ) → p s ≡ stopped left → (x : List ℕ) × (s ≡ x ++ left) × GoesOn T x
  -- no byte behind the first that it leaves counts
  pub near : (w : List ℕ) (b : ℕ) (l m : List ℕ) → Near b l m (p (w ++ (b ∷ l))) (p (w ++ (b ∷ m)))

-- ---- answers

module _ {A : Type 0} where
  pub not_stopped : (a : A) (left x : List ℕ) → read a left ≡ stopped x → ⊥
  not_stopped a left x e = let z : ◌≡◌ {A = ℕ} 0 1 = cc in omega arith

  pub stopped_left : (x y : List ℕ) → ◌≡◌ {A = Read A} (stopped x) (stopped y) → x ≡ y
  stopped_left x y e = cc

  pub or_stopped : (r q : Read A) (left : List ℕ) → or_else r q ≡ stopped left
      → (x : List ℕ) × (y : List ℕ) × (r ≡ stopped x) × (q ≡ stopped y) × ((left ≡ x) ⊎ (left ≡ y))
  or_stopped (read a x) q left e = absurd (not_stopped a x left e)
  or_stopped (stopped x) (read a y) left e = absurd (not_stopped a y left e)
  or_stopped (stopped x) (stopped y) left e = (x, y, refl, refl, go (leb (length x) (length y)) e)
    where
      go : (t : Bool) → ◌≡◌ {A = Read A} (cond t (stopped x) (stopped y)) (stopped left) → (left ≡ x) ⊎ (left ≡ y)
      go true e = inl (sym (stopped_left x left e))
      go false e = inr (sym (stopped_left y left e))

module _ {A B : Type 0} where
  pub bind_stopped : (r : Read A) (f : A → Reader B) (left : List ℕ) → onward r f ≡ stopped left
      → (r ≡ stopped left) ⊎ ((a : A) × (mid : List ℕ) × (r ≡ read a mid) × (f a mid ≡ stopped left))
  bind_stopped (read a mid) f left e = inr (a, mid, refl, e)
  bind_stopped (stopped x) f left e = inl (ap stopped (stopped_left x left e))

-- ---- what is left is a part

module _ {A : Type 0} (T : List ℕ → A → Type 0) (p : Reader A) where
  pub prompt_less : Prompt T p → (s : List ℕ) → length (left_of (p s)) ≤ length s
  prompt_less h s = go (p s) refl
    where
      go : (r : Read A) → p s ≡ r → length (left_of r) ≤ length s
      go (read a left) e = let x = h.sound s a left e in omega (arith, ap length x.1, length-append x.0 left)
      go (stopped left) e = let x = h.live s left e in omega (arith, ap length x.1, length-append x.0 left)

  -- a wider grammar
  pub prompt_map : (U : List ℕ → A → Type 0) → ((x : List ℕ) (a : A) → T x a → U x a) → Prompt T p → Prompt U p
  prompt_map U f h =
      record {
        sound = λ s a left e. let x = h.sound s a left e in (x.0, x.1, f x.0 a x.2);
        some = (h.some.0, h.some.1, f h.some.0 h.some.1 h.some.2);
        live = λ s left e. let x = h.live s left e in (x.0, x.1, (x.2.0, x.2.1, f (x.0 ++ x.2.0) x.2.1 x.2.2));
        near = h.near;
      }

-- ---- nothing more to read, and two parts

module _ {A : Type 0} (T : List ℕ → A → Type 0) where
  pub prompt_pure : (a : A) → T [] a → Prompt T (pure a)
  prompt_pure a t =
      record {
        sound = sound_pure T a t;
        some = ([], a, t);
        live = λ s left e. absurd (not_stopped a s left e);
        near = λ w b l m. both_read a w;
      }

module _ {A B : Type 0} (U : List ℕ → A → Type 0) (T : List ℕ → B → Type 0) (p : Reader A) (f : A → Reader B) (h : Prompt U p)
    (k : (x : List ℕ) (a : A) → U x a → Prompt (λ y b. T (x ++ y) b) (f a)) where
  -- what goes on behind what p reads
  behind : (s : List ℕ) (a : A) (left : List ℕ) → p s ≡ read a left → (x : List ℕ) × (s ≡ x ++ left) × Prompt (λ y b. T (x ++ y) b) (f a)
  behind s a left e = let x = h.sound s a left e in (x.0, x.1, k x.0 a x.2)

  bind_some : (x : List ℕ) (y : List ℕ) (a : A) → U (x ++ y) a → GoesOn T x
  bind_some x y a u =
      let z = (k (x ++ y) a u).some in
      (y ++ z.0, z.1, subst (λ (l : List ℕ). T l z.1) (append_assoc x y z.0) z.2)

  bind_live : (s left : List ℕ) → (p >>= f) s ≡ stopped left → (x : List ℕ) × (s ≡ x ++ left) × GoesOn T x
  bind_live s left e = go (bind_stopped (p s) f left e)
    where
      go : (p s ≡ stopped left) ⊎ ((a : A) × (mid : List ℕ) × (p s ≡ read a mid) × (f a mid ≡ stopped left)) → (x : List ℕ) × (s ≡ x ++ left) × GoesOn T x
      go (inl e) = let x = h.live s left e in (x.0, x.1, bind_some x.0 x.2.0 x.2.1 x.2.2)
      go (inr (a, mid, e, g)) =
          let x = behind s a mid e in
          let y = x.2.live mid left g in (
            x.0 ++ y.0,
            x.1 ∙ ap (λ (l : List ℕ). x.0 ++ l) y.1 ∙ sym (append_assoc x.0 y.0 left),
            (y.2.0, y.2.1, subst (λ (l : List ℕ). T l y.2.1) (sym (append_assoc x.0 y.0 y.2.0)) y.2.2),
          )

  bind_less : (s : List ℕ) (n : ℕ) (r : Read A) → p s ≡ r → length (left_of r) ≤ n → length (left_of (onward r f)) ≤ n
  bind_less s n (read a left) e i = let z = prompt_less _ (f a) (behind s a left e).2 left in omega arith
  bind_less s n (stopped left) e i = i

  bind_near : (w : List ℕ) (b : ℕ) (l m : List ℕ) → Near b l m ((p >>= f) (w ++ (b ∷ l))) ((p >>= f) (w ++ (b ∷ m)))
  bind_near w b l m = go refl refl (h.near w b l m)
    where
      go : {r q : Read A} → p (w ++ (b ∷ l)) ≡ r → p (w ++ (b ∷ m)) ≡ q → Near b l m r q → Near b l m (onward r f) (onward q f)
      go e g (both_read a v) = (behind (w ++ (b ∷ l)) a (v ++ (b ∷ l)) e).2.near v b l m
      go e g (both_stop v) = both_stop v
      go e g (both_past {r = r} {q = q} i j) = both_past (bind_less (w ++ (b ∷ l)) (length l) r e i) (bind_less (w ++ (b ∷ m)) (length m) q g j)

  pub prompt_bind : Prompt T (p >>= f)
  prompt_bind =
      record {
        sound = sound_bind U T p f h.sound (λ x a u. (k x a u).sound);
        some = bind_some [] h.some.0 h.some.1 h.some.2;
        live = bind_live;
        near = bind_near;
      }

-- ---- one of two

-- where p stops and q reads, q is no further back than p
abbrev pub Behind : {A : Type 0} → Reader A → Reader A → Type 0
Behind {A} p q = (s x : List ℕ) (a : A) (y : List ℕ) → p s ≡ stopped x → q s ≡ read a y → length y ≤ length x

-- of two that stopped, one that is past n bytes takes the other with it
further_first : (A : Type 0) (x y : List ℕ) (n : ℕ) → length x ≤ n → length (left_of (or_else {A = A} (stopped x) (stopped y))) ≤ n
further_first A x y n h = go (leb (length x) (length y)) refl
  where
    go : (t : Bool) → leb (length x) (length y) ≡ t → length (left_of {A = A} (cond t (stopped x) (stopped y))) ≤ n
    go true e = h
    go false e = let z : length y < length x = leb-false (length x) (length y) e in omega arith

further_second : (A : Type 0) (x y : List ℕ) (n : ℕ) → length y ≤ n → length (left_of (or_else {A = A} (stopped x) (stopped y))) ≤ n
further_second A x y n h = go (leb (length x) (length y)) refl
  where
    go : (t : Bool) → leb (length x) (length y) ≡ t → length (left_of {A = A} (cond t (stopped x) (stopped y))) ≤ n
    go true e = let z : length x ≤ length y = leb-true (length x) (length y) e in omega arith
    go false e = h

second_past : {A : Type 0} (x : List ℕ) (r : Read A) (n : ℕ) → length (left_of r) ≤ n → length (left_of (or_else (stopped x) r)) ≤ n
second_past x (read a y) n h = h
second_past {A} x (stopped y) n h = further_second A x y n h

-- both stop before b
both_further : {A : Type 0} (b : ℕ) (l m v u : List ℕ)
    → Near {A = A} b l m (or_else (stopped (v ++ (b ∷ l))) (stopped (u ++ (b ∷ l)))) (or_else (stopped (v ++ (b ∷ m))) (stopped (u ++ (b ∷ m))))
both_further {A} b l m v u = go (leb (length v) (length u)) refl
  where
    same : (k : List ℕ) (t : Bool) → leb (length v) (length u) ≡ t → leb (length (v ++ (b ∷ k))) (length (u ++ (b ∷ k))) ≡ t
    same k true e = le-leb (length (v ++ (b ∷ k))) (length (u ++ (b ∷ k))) (let z : length v ≤ length u = leb-true (length v) (length u) e in omega (arith, length-append v (b ∷ k), length-append u (b ∷ k)))
    same k false e = lt-leb (length (v ++ (b ∷ k))) (length (u ++ (b ∷ k))) (let z : length u < length v = leb-false (length v) (length u) e in omega (arith, length-append v (b ∷ k), length-append u (b ∷ k)))

    go : (t : Bool) → leb (length v) (length u) ≡ t
        → Near {A = A} b l m (or_else (stopped (v ++ (b ∷ l))) (stopped (u ++ (b ∷ l)))) (or_else (stopped (v ++ (b ∷ m))) (stopped (u ++ (b ∷ m))))
    go true e = rw (same l true e, same m true e) (both_stop v)
    go false e = rw (same l false e, same m false e) (both_stop u)

module _ {A : Type 0} (T : List ℕ → A → Type 0) (p q : Reader A) (h : Prompt T p) (k : Prompt T q) (back : Behind p q) where
  or_live : (s left : List ℕ) → (p or q) s ≡ stopped left → (x : List ℕ) × (s ≡ x ++ left) × GoesOn T x
  or_live s left e = let o = or_stopped (p s) (q s) left e in go o.0 o.1 o.2 o.3 o.4
    where
      go : (x y : List ℕ) → p s ≡ stopped x → q s ≡ stopped y → (left ≡ x) ⊎ (left ≡ y) → (x : List ℕ) × (s ≡ x ++ left) × GoesOn T x
      go x y f g (inl i) = h.live s left (f ∙ ap stopped (sym i))
      go x y f g (inr i) = k.live s left (g ∙ ap stopped (sym i))

  or_past : (s : List ℕ) (n : ℕ) (r t : Read A) → p s ≡ r → q s ≡ t → length (left_of r) ≤ n → length (left_of (or_else r t)) ≤ n
  or_past s n (read a x) t e f i = i
  or_past s n (stopped x) (read a y) e f i = let z = back s x a y e f in omega arith
  or_past s n (stopped x) (stopped y) e f i = further_first A x y n i

  or_near : (w : List ℕ) (b : ℕ) (l m : List ℕ) → Near b l m ((p or q) (w ++ (b ∷ l))) ((p or q) (w ++ (b ∷ m)))
  or_near w b l m = go refl refl (h.near w b l m)
    where
      second : {t u : Read A} (v : List ℕ) → Near b l m t u → Near b l m (or_else (stopped (v ++ (b ∷ l))) t) (or_else (stopped (v ++ (b ∷ m))) u)
      second v (both_read a y) = both_read a y
      second v (both_stop y) = both_further b l m v y
      second v (both_past {r = t} {q = u} i j) = both_past (second_past (v ++ (b ∷ l)) t (length l) i) (second_past (v ++ (b ∷ m)) u (length m) j)

      go : {r t : Read A} → p (w ++ (b ∷ l)) ≡ r → p (w ++ (b ∷ m)) ≡ t → Near b l m r t
          → Near b l m (or_else r (q (w ++ (b ∷ l)))) (or_else t (q (w ++ (b ∷ m))))
      go e f (both_read a v) = both_read a v
      go e f (both_stop v) = second v (k.near w b l m)
      go e f (both_past {r = r} {q = t} i j) =
          both_past (or_past (w ++ (b ∷ l)) (length l) r (q (w ++ (b ∷ l))) e refl i) (or_past (w ++ (b ∷ m)) (length m) t (q (w ++ (b ∷ m))) f refl j)

  pub prompt_or : Prompt T (p or q)
  prompt_or = record { sound = sound_or T p q h.sound k.sound; some = h.some; live = or_live; near = or_near }

-- ---- a text, the end, a number

-- where a text stops
pub after_live : (ps s left : List ℕ) → after ps s ≡ stopped left → (x : List ℕ) × (y : List ℕ) × (s ≡ x ++ left) × (ps ≡ x ++ y) × (1 ≤ length y)
after_live [] s left e = absurd (not_stopped tt s left e)
after_live (p ∷ ps) [] left e = ([], p ∷ ps, stopped_left [] left e, refl, omega arith)
after_live (p ∷ ps) (x ∷ xs) left e = go (λ f. after_live ps xs left f) (eqb p x) refl e
  where
    go : (after ps xs ≡ stopped left → (z : List ℕ) × (y : List ℕ) × (xs ≡ z ++ left) × (ps ≡ z ++ y) × (1 ≤ length y)) → (t : Bool) → eqb p x ≡ t
        → cond t (after ps xs) (stopped (x ∷ xs)) ≡ stopped left → (z : List ℕ) × (y : List ℕ) × (x ∷ xs ≡ z ++ left) × (p ∷ ps ≡ z ++ y) × (1 ≤ length y)
    go ih true f e =
        let i = ih e in
        let c : p ≡ x = eqb-true p x f in
        (x ∷ i.0, i.1, ap (λ (l : List ℕ). x ∷ l) i.2, (let d = i.3 in cc), i.4)
    go ih false f e = ([], p ∷ ps, stopped_left (x ∷ xs) left e, refl, omega arith)

after_less : (ps s : List ℕ) → length (left_of (after ps s)) ≤ length s
after_less [] s = omega arith
after_less (p ∷ ps) [] = omega arith
after_less (p ∷ ps) (x ∷ xs) = go (eqb p x) (after_less ps xs)
  where
    go : (t : Bool) → length (left_of (after ps xs)) ≤ length xs → length (left_of (cond t (after ps xs) (stopped (x ∷ xs)))) ≤ suc (length xs)
    go true h = omega arith
    go false h = omega arith

after_near : (ps w : List ℕ) (b : ℕ) (l m : List ℕ) → Near b l m (after ps (w ++ (b ∷ l))) (after ps (w ++ (b ∷ m)))
after_near [] w b l m = both_read tt w
after_near (p ∷ ps) [] b l m = go (eqb p b)
  where
    go : (t : Bool) → Near b l m (cond t (after ps l) (stopped (b ∷ l))) (cond t (after ps m) (stopped (b ∷ m)))
    go true = both_past (after_less ps l) (after_less ps m)
    go false = both_stop []
after_near (p ∷ ps) (x ∷ w) b l m = go (eqb p x) (after_near ps w b l m)
  where
    go : (t : Bool) → Near b l m (after ps (w ++ (b ∷ l))) (after ps (w ++ (b ∷ m)))
        → Near b l m (cond t (after ps (w ++ (b ∷ l))) (stopped (x ∷ (w ++ (b ∷ l))))) (cond t (after ps (w ++ (b ∷ m))) (stopped (x ∷ (w ++ (b ∷ m)))))
    go true h = h
    go false h = both_stop (x ∷ w)

-- a text
abbrev pub Exactly : String → List ℕ → Unit {0} → Type 0
Exactly t x u = x ≡ ascii t

pub prompt_mark : (t : String) → Prompt (Exactly t) (text t)
unfolding text
prompt_mark t =
    record {
      sound = λ s u left e. (ascii t, text_sound t s u left e, refl);
      some = (ascii t, tt, refl);
      live = λ s left e. let x = after_live (ascii t) s left e in (x.0, x.2, (x.1, tt, sym x.3));
      near = λ w b l m. after_near (ascii t) w b l m;
    }

module _ {A : Type 0} (T : List ℕ → A → Type 0) where
  -- a text, and what is behind it
  pub prompt_text : (t : String) (q : Reader A) → Prompt (λ y a. T (ascii t ++ y) a) q → Prompt T (text t >> q)
  prompt_text t q h =
      prompt_bind (Exactly t) T (text t) (λ u. q) (prompt_mark t)
      (λ x u e. prompt_map _ q (λ y a. T (x ++ y) a) (λ y a z. subst (λ (l : List ℕ). T (l ++ y) a) (sym e) z) h)

  -- the end
  pub prompt_end : (a : A) → T [] a → Prompt T (nothing >> pure a)
  prompt_end a t = record { sound = reads; some = ([], a, t); live = ends; near = nears }
    where
      reads : Sound T (nothing >> pure a)
      reads [] b left e = ([], read_left a b [] left e, subst (T []) (read_value a b [] left e) t)
      reads (x ∷ s) b left e = absurd (not_read (x ∷ s) b left e)

      ends : (s left : List ℕ) → (nothing >> pure a) s ≡ stopped left → (x : List ℕ) × (s ≡ x ++ left) × GoesOn T x
      ends [] left e = absurd (not_stopped a [] left e)
      ends (x ∷ s) left e = ([], stopped_left (x ∷ s) left e, ([], a, t))

      nears : (w : List ℕ) (b : ℕ) (l m : List ℕ) → Near b l m ((nothing >> pure a) (w ++ (b ∷ l))) ((nothing >> pure a) (w ++ (b ∷ m)))
      nears [] b l m = both_stop []
      nears (x ∷ w) b l m = both_stop (x ∷ w)

-- ---- the column: a prompt reader that reads each text of the grammar stops at the first column with no way on

take_one : (x : List ℕ) (b : ℕ) (l y : List ℕ) → take (suc (length x)) (x ++ (b ∷ l)) ++ y ≡ x ++ (b ∷ y)
take_one [] b l y = refl
take_one (c ∷ x) b l y = ap (λ (z : List ℕ). c ∷ z) (take_one x b l y)

module _ {A : Type 0} (T : List ℕ → A → Type 0) where
  -- what can go on, can go on from each byte before
  pub goes_back : (x : List ℕ) (n : ℕ) → GoesOn T x → GoesOn T (take n x)
  goes_back x n (y, a, t) =
      let e : x ++ y ≡ take n x ++ (drop n x ++ y) = ap (λ (z : List ℕ). z ++ y) (sym (take-append-drop n x)) ∙ append_assoc (take n x) (drop n x) y in
      (drop n x ++ y, a, subst (λ (z : List ℕ). T z a) e t)

  not_before : (x left : List ℕ) → GoesOn T x → (c : ℕ) → c ≤ length x → NoWay T (x ++ left) c → ⊥
  not_before x left on c h (no_way i e j g k) = k (subst (GoesOn T) (sym (take-append-le c x left h)) (goes_back x c on))
  not_before x left on c h (stops_short i g k) = omega (arith, length-append x left)

module _ {A : Type 0} (T : List ℕ → A → Type 0) (p : Reader A) (h : Prompt T p) where
  -- behind the byte at which it stopped anything may stand
  pub still_stops : (x : List ℕ) (b : ℕ) (l m : List ℕ) → p (x ++ (b ∷ l)) ≡ stopped (b ∷ l) → p (x ++ (b ∷ m)) ≡ stopped (b ∷ m)
  still_stops x b l m e = go refl e (h.near x b l m)
    where
      nil : (v : List ℕ) → v ++ (b ∷ l) ≡ b ∷ l → v ≡ []
      nil [] f = refl
      nil (c ∷ v) f = absurd (omega (arith, ap length f, length-append v (b ∷ l)))

      go : {r q : Read A} → p (x ++ (b ∷ m)) ≡ q → r ≡ stopped (b ∷ l) → Near b l m r q → p (x ++ (b ∷ m)) ≡ stopped (b ∷ m)
      go g e (both_read a v) = absurd (not_stopped a (v ++ (b ∷ l)) (b ∷ l) e)
      go g e (both_stop v) = g ∙ ap (λ (z : List ℕ). stopped (z ++ (b ∷ m))) (nil v (stopped_left (v ++ (b ∷ l)) (b ∷ l) e))
      go g e (both_past {r = r} {q = q} i j) = absurd (omega (arith, i, ap (λ (z : Read A). length (left_of z)) e))

  module _ (reads : (s : List ℕ) (a : A) → T s a → p s ≡ read a []) where
    no_more_lem : (x left : List ℕ) → GoesOn T x → p (x ++ left) ≡ stopped left → NoWay T (x ++ left) (suc (length x))
    no_more_lem x [] on e = stops_short (omega (arith, length-append x [])) (subst (GoesOn T) (sym (append-nil x)) on) (λ a t. not_read [] a [] (sym e ∙ reads (x ++ []) a t))
    no_more_lem x (b ∷ l) on e = no_way (length x) refl (omega (arith, length-append x (b ∷ l))) (subst (GoesOn T) (sym (take-append_seam x (b ∷ l))) on) stuck
      where
        stuck : GoesOn T (take (suc (length x)) (x ++ (b ∷ l))) → ⊥
        stuck (y, a, t) =
            let g : take (suc (length x)) (x ++ (b ∷ l)) ++ y ≡ x ++ (b ∷ y) = take_one x b l y in
            not_read (b ∷ y) a [] (sym (still_stops x b l y e) ∙ reads (x ++ (b ∷ y)) a (subst (λ (z : List ℕ). T z a) g t))

    right_front : (x left : List ℕ) → GoesOn T x → p (x ++ left) ≡ stopped left → RightTo T (x ++ left) (length x)
    right_front x left on e =
        record {
          inside = omega (arith, length-append x left);
          on = subst (GoesOn T) (sym (take-append_seam x left)) on;
          first = not_before T x left on;
          then = no_more_lem x left on e;
        }

    -- it stops exactly behind the bytes that are right
    pub right_to : (s left : List ℕ) → p s ≡ stopped left → RightTo T s (length s - length left)
    right_to s left e =
        let x = h.live s left e in
        let n : length x.0 ≡ length s - length left = omega (arith, ap length x.1, length-append x.0 left) in
        subst₂ (λ (z : List ℕ) (k : ℕ). RightTo T z k) (sym x.1) n (right_front x.0 left x.2 (ap p (sym x.1) ∙ e))
