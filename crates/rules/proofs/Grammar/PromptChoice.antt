-- Which choices keep a reader prompt: the second, where it reads and the first stops, is no further back than the first. So it is if they begin with
-- different bytes, or with texts of which the first is at most one byte longer than the second.
use mathlib.Core.Path.{◌≡◌, refl, ap, sym, ◌∙◌}
use mathlib.Core.Logic.{◌⊎◌, inl, inr}
use mathlib.Core.Bool.{Bool, true, false}
use mathlib.Core.List.{List, [], ◌∷◌, ◌++◌}
use Prim.Native.Nat.{ℕ, suc, ◌+◌, ◌≤◌, ◌<◌}
use Prim.Native.String.{String}
use native.Mathlib.Omega.{arith}
use lib.Dec.{eqb}
use lib.ListN.{length, length-append}
use borrow.Author.Tests.{eqb-true}
use Rattle.rules.specs.Base.{ascii}
use Rattle.rules.specs.Reader.{read, stopped, Reader, ◌>>=◌, ◌>>◌, ◌or◌, text, is_digit, number}
use Rattle.rules.proofs.Grammar.ReaderLaws.{not_read, bind_read, text_sound, both_stopped}
use Rattle.rules.proofs.Grammar.NumberLaws.{digit_is, number_not, number_end}
use Rattle.rules.proofs.Grammar.Prompt.{Prompt, stopped_left, or_stopped, bind_stopped, Behind, after_live}

-- what is read leaves no more than there was
read_less : {A : Type 0} (T : List ℕ → A → Type 0) (q : Reader A) → Prompt T q → (s : List ℕ) (a : A) (y : List ℕ) → q s ≡ read a y → length y ≤ length s
read_less T q h s a y e = let x = h.sound s a y e in omega (arith, ap length x.1, length-append x.0 y)

-- ---- more than two

module _ {A : Type 0} where
  pub behind_both : (p q r : Reader A) → Behind p r → Behind q r → Behind (p or q) r
  behind_both p q r h k s x a y e f = let o = or_stopped (p s) (q s) x e in go o.0 o.1 o.2 o.3 o.4
    where
      go : (v w : List ℕ) → p s ≡ stopped v → q s ≡ stopped w → (x ≡ v) ⊎ (x ≡ w) → length y ≤ length x
      go v w i j (inl g) = h s x a y (i ∙ ap stopped (sym g)) f
      go v w i j (inr g) = k s x a y (j ∙ ap stopped (sym g)) f

-- ---- different first bytes

-- it stops at once, unless the first byte is one of lo to hi
abbrev pub Starts : {A : Type 0} → ℕ → ℕ → Reader A → Type 0
Starts lo hi p = (s : List ℕ) → (p s ≡ stopped s) ⊎ ((b : ℕ) × (l : List ℕ) × (s ≡ b ∷ l) × (lo ≤ b) × (b ≤ hi))

pub starts_mark : (t : String) (c : ℕ) (cs : List ℕ) → ascii t ≡ c ∷ cs → Starts c c (text t)
unfolding text
starts_mark t c cs e [] = inl (rw e refl)
starts_mark t c cs e (b ∷ s) = go (eqb c b) refl
  where
    go : (u : Bool) → eqb c b ≡ u → (text t (b ∷ s) ≡ stopped (b ∷ s)) ⊎ ((d : ℕ) × (l : List ℕ) × (b ∷ s ≡ d ∷ l) × (c ≤ d) × (d ≤ c))
    go true f = let z : c ≡ b = eqb-true c b f in inr (b, s, refl, omega arith, omega arith)
    go false f = inl (rw (e, f) refl)

pub starts_number : Starts 48 57 number
starts_number [] = inl number_end
starts_number (b ∷ s) = go (is_digit b) refl
  where
    go : (u : Bool) → is_digit b ≡ u → (number (b ∷ s) ≡ stopped (b ∷ s)) ⊎ ((d : ℕ) × (l : List ℕ) × (b ∷ s ≡ d ∷ l) × (48 ≤ d) × (d ≤ 57))
    go true f = let z = digit_is b f in inr (b, s, refl, z.0, z.1)
    go false f = inl (number_not b s f)

module _ {A B : Type 0} (lo hi : ℕ) (p : Reader A) (f : A → Reader B) where
  pub starts_bind : Starts lo hi p → Starts lo hi (p >>= f)
  starts_bind h s = go (h s)
    where
      go : (p s ≡ stopped s) ⊎ ((b : ℕ) × (l : List ℕ) × (s ≡ b ∷ l) × (lo ≤ b) × (b ≤ hi))
          → ((p >>= f) s ≡ stopped s) ⊎ ((b : ℕ) × (l : List ℕ) × (s ≡ b ∷ l) × (lo ≤ b) × (b ≤ hi))
      go (inl e) = inl (rw e refl)
      go (inr k) = inr k

module _ {A : Type 0} where
  -- from a lower byte, and to a higher
  pub starts_or : (lo hi lo' hi' : ℕ) (p q : Reader A) → lo ≤ lo' → hi ≤ hi' → Starts lo hi p → Starts lo' hi' q → Starts lo hi' (p or q)
  starts_or lo hi lo' hi' p q a b h k s = go (h s) (k s)
    where
      go : (p s ≡ stopped s) ⊎ ((b : ℕ) × (l : List ℕ) × (s ≡ b ∷ l) × (lo ≤ b) × (b ≤ hi))
          → (q s ≡ stopped s) ⊎ ((b : ℕ) × (l : List ℕ) × (s ≡ b ∷ l) × (lo' ≤ b) × (b ≤ hi'))
          → ((p or q) s ≡ stopped s) ⊎ ((b : ℕ) × (l : List ℕ) × (s ≡ b ∷ l) × (lo ≤ b) × (b ≤ hi'))
      go (inl e) (inl f) = inl (both_stopped s e f)
      go (inr (c, l, e, i, j)) f = inr (c, l, e, i, omega arith)
      go (inl e) (inr (c, l, f, i, j)) = inr (c, l, f, omega arith, j)

  pub apart : (T : List ℕ → A → Type 0) (lo hi lo' hi' : ℕ) (p q : Reader A) → Prompt T q → Starts lo hi p → Starts lo' hi' q → (hi < lo') ⊎ (hi' < lo) → Behind p q
  apart T lo hi lo' hi' p q k h i d s x a y e f = go (h s) (i s)
    where
      front : (b c : ℕ) (l m : List ℕ) → s ≡ b ∷ l → s ≡ c ∷ m → b ≡ c
      front b c l m e f = let z = sym e ∙ f in cc

      go : (p s ≡ stopped s) ⊎ ((b : ℕ) × (l : List ℕ) × (s ≡ b ∷ l) × (lo ≤ b) × (b ≤ hi))
          → (q s ≡ stopped s) ⊎ ((b : ℕ) × (l : List ℕ) × (s ≡ b ∷ l) × (lo' ≤ b) × (b ≤ hi')) → length y ≤ length x
      go (inl g) j = rw (stopped_left x s (sym e ∙ g)) (read_less T q k s a y f)
      go (inr g) (inl j) = absurd (not_read s a y (sym j ∙ f))
      go (inr (b, l, g, v, w)) (inr (c, m, j, v', w')) = absurd (never d)
        where
          never : (hi < lo') ⊎ (hi' < lo) → ⊥
          never (inl n) = omega (arith, front b c l m g j)
          never (inr n) = omega (arith, front b c l m g j)

-- ---- texts

-- a text stops before its last byte is passed
text_stop : (t : String) (s x : List ℕ) → text t s ≡ stopped x → length s < length x + length (ascii t)
unfolding text
text_stop t s x e =
    let z = after_live (ascii t) s x e in
    omega (arith, ap length z.2, ap length z.3, length-append z.0 x, length-append z.0 z.1, z.4)

text_read : (t : String) (s : List ℕ) (u : Unit) (y : List ℕ) → text t s ≡ read u y → length s ≡ length (ascii t) + length y
text_read t s u y e = ap length (text_sound t s u y e) ∙ length-append (ascii t) y

-- a text that is at most one byte longer than the other
pub marks_behind : (t u : String) → length (ascii t) ≤ suc (length (ascii u)) → Behind (text t) (text u)
marks_behind t u h s x a y e f = omega (arith, text_stop t s x e, text_read u s a y f)

module _ {A : Type 0} (T : List ℕ → A → Type 0) (t u : String) (p q : Reader A) where
  -- with something behind each: the second does not read where the first is past its text and stops
  pub texts_behind : length (ascii t) ≤ suc (length (ascii u)) → Prompt T q
      → ((v w x : List ℕ) → ascii t ++ v ≡ ascii u ++ w → p v ≡ stopped x → ⊥) → Behind (text t >> p) (text u >> q)
  texts_behind h k never s x a y e f = go (bind_stopped (text t s) (λ v. p) x e)
    where
      go : (text t s ≡ stopped x) ⊎ ((v : Unit {0}) × (mid : List ℕ) × (text t s ≡ read v mid) × (p mid ≡ stopped x)) → length y ≤ length x
      go (inl g) =
          let i = bind_read (text u s) (λ v. q) a y f in
          omega (arith, text_stop t s x g, text_read u s i.0 i.1 i.2, read_less T q k i.1 a y i.3)
      go (inr (v, mid, g, j)) =
          let i = bind_read (text u s) (λ v. q) a y f in
          absurd (never mid i.1 x (sym (text_sound t s v mid g) ∙ text_sound u s i.0 i.1 i.2) j)
