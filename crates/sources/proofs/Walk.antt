-- A loop that goes along a list and stores at each place something that stands in a relation to what was there:
--     Upto        after the places below i: those below i stand in the relation, the others are as they were
--     upto-none   where the loop begins at i: what does not change stands in the relation below i
--     upto-more   one turn
--     upto_all    where the loop has ended at e: what does not change stands in the relation from e on
use mathlib.Core.Path.{◌≡◌, refl, sym, subst, ◌∙◌}
use mathlib.Core.List.{List}
use Prim.Native.Nat.{ℕ, ◌+◌, ◌≤◌, ◌<◌}
use native.Mathlib.Decide.{dec_lt, ℕ_discrete}
use native.Mathlib.Omega.{arith}
use lib.ListN.{length, get_or, set, length-set}
use lib.Seq.{get_or-set_same, get_or-set_other}

pub record Upto {A : Type 0} (d : A) (R : ℕ → A → A → Type 0) (l₀ l : List A) (i : ℕ) : Type 0 where
  pub len : length l ≡ length l₀
  pub low : (k : ℕ) → k < i → k < length l₀ → R k (get_or l₀ k d) (get_or l k d)
  pub high : (k : ℕ) → i ≤ k → get_or l k d ≡ get_or l₀ k d

module _ {A : Type 0} (d : A) (R : ℕ → A → A → Type 0) (l₀ : List A) where
  pub upto_none : (i : ℕ) → ((k : ℕ) (a : A) → k < i → R k a a) → Upto d R l₀ l₀ i
  upto_none i same = record { len = refl; low = λ k h l. same k (get_or l₀ k d) h; high = λ k h. refl }

  pub upto_more : (l : List A) (i next : ℕ) (v : A) → next ≡ i + 1 → i < length l₀ → R i (get_or l i d) v → Upto d R l₀ l i → Upto d R l₀ (set l i v) next
  upto_more l i next v n h r u = record {
    len = length-set l i v ∙ u.len;
    low = low;
    high = λ k hk. get_or-set_other l i k v d (λ q. let z : k ≡ i = q in omega arith) ∙ u.high k (omega arith);
  }
    where
      here : R i (get_or l₀ i d) (get_or (set l i v) i d)
      here =
          subst (λ (b : A). R i (get_or l₀ i d) b) (sym (get_or-set_same l i v d (subst (λ (n : ℕ). i < n) (sym u.len) h)))
          (subst (λ (a : A). R i a v) (u.high i (omega arith)) r)

      low : (k : ℕ) → k < next → k < length l₀ → R k (get_or l₀ k d) (get_or (set l i v) k d)
      low k hk hl = elim (ℕ_discrete k i) [
        | yes q ↦ subst (λ (j : ℕ). R j (get_or l₀ j d) (get_or (set l i v) j d)) (sym q) here
        | no q ↦ subst (λ (b : A). R k (get_or l₀ k d) b) (sym (get_or-set_other l i k v d q)) (u.low k (omega arith) hl)
      ]

  pub upto_all : (l : List A) (e : ℕ) → ((k : ℕ) (a : A) → e ≤ k → R k a a) → Upto d R l₀ l e → (k : ℕ) → k < length l₀ → R k (get_or l₀ k d) (get_or l k d)
  upto_all l e same u k h = elim (dec_lt k e) [
    | yes lt ↦ u.low k lt h
    | no ge ↦ subst (λ (b : A). R k (get_or l₀ k d) b) (sym (u.high k (omega arith))) (same k (get_or l₀ k d) (omega arith))
  ]
