-- The seen marks: of the output halves passed, each marks the input half that it is taken from, and nothing else is marked. So where all were passed, the
-- seen halves are those that occur among the sources.
use mathlib.Core.Path.{◌≡◌, refl, ap, sym, subst, ◌∙◌}
use mathlib.Core.Bool.{Bool, true, false, false≢true}
use mathlib.Core.List.{List}
use Prim.Native.Nat.{ℕ, suc, ◌+◌, ◌-◌, ◌≤◌, ◌<◌}
use native.Mathlib.Decide.{ℕ_discrete}
use native.Mathlib.Nat.{not-suc-le-zero}
use native.Mathlib.Omega.{arith}
use lib.ListN.{length, get_or, set, replicate, get_or-replicate, length-replicate, length-set}
use lib.Seq.{get_or-set_same, get_or-set_other}
use borrow.Author.Count.{below_more}
use Rattle.rules.specs.Halves.{Source, from, constant}
use Rattle.rules.specs.Keeping.{occurs}
use Rattle.rules.proofs.Keeping.KeepingSteps.{occurs_at, occurs_nowhere}
use Rattle.sources.specs.Promise.{numbered, nowhere, Stand}

pub record Seen (sources : List ℕ) (g : ℕ) (seen : List Bool) : Type 0 where
  pub long : length seen ≡ 8192
  pub some : (h : ℕ) → h < 8192 → get_or seen h false ≡ true → (i : ℕ) × (i < g) × (get_or sources i 0 ≡ h + 1)
  pub all : (i : ℕ) → i < g → 0 < get_or sources i 0 → get_or seen (get_or sources i 0 - 1) false ≡ true

stays : (seen : List Bool) (at h : ℕ) → at < length seen → get_or seen h false ≡ true → get_or (set seen at true) h false ≡ true
stays seen at h l t = elim (ℕ_discrete h at) [
  | yes e ↦ rw e (get_or-set_same seen at true false l)
  | no n ↦ get_or-set_other seen at h true false n ∙ t
]

module _ (sources : List ℕ) where
  pub seen_none : Seen sources 0 (replicate 8192 false)
  seen_none = record {
    long = length-replicate {A = Bool} 8192 false;
    some = λ h l t. absurd (false≢true (sym (get_or-replicate {A = Bool} 8192 h false false l) ∙ t));
    all = λ i l s. absurd (not-suc-le-zero l);
  }

  module _ (g : ℕ) (seen : List Bool) (u : Seen sources g seen) where
    -- the next output half is taken from an input half
    pub seen_hit : (at : ℕ) → get_or sources g 0 ≡ at + 1 → at < 8192 → Seen sources (g + 1) (set seen at true)
    seen_hit at e s = record {
      long = length-set seen at true ∙ u.long;
      some = λ h l t. elim (ℕ_discrete h at) [
        | yes q ↦ (g, omega arith, e ∙ ap (λ (x : ℕ). x + 1) (sym q))
        | no n ↦ let w = u.some h l (sym (get_or-set_other seen at h true false n) ∙ t) in (w.0, omega (arith, w.1), w.2)
      ];
      all =
          below_more (λ (i : ℕ). 0 < get_or sources i 0 → get_or (set seen at true) (get_or sources i 0 - 1) false ≡ true) g
          (λ i l b. stays seen at (get_or sources i 0 - 1) (rw u.long s) (u.all i l b))
          (λ b. let z : get_or sources g 0 - 1 ≡ at = omega arith in rw z (get_or-set_same seen at true false (rw u.long s)));
    }

    -- or from none
    pub seen_miss : get_or sources g 0 ≤ 0 → Seen sources (g + 1) seen
    seen_miss s = record {
      long = u.long;
      some = λ h l t. let w = u.some h l t in (w.0, omega (arith, w.1), w.2);
      all = below_more (λ (i : ℕ). 0 < get_or sources i 0 → get_or seen (get_or sources i 0 - 1) false ≡ true) g u.all (λ b. absurd (omega arith));
    }

-- ---- which halves occur among the sources

numbered_from : (x : Source) (j : ℕ) → numbered x ≡ j + 1 → x ≡ from j
numbered_from (from i) j e = ap from (let z : i ≡ j = omega arith in z)
numbered_from (constant c) j e = absurd (omega arith)

module _ (sources : List ℕ) (ss : List Source) (stand : Stand sources ss) where
  -- an output half is taken from the half that its number says
  pub taken_from : (i j : ℕ) → i < length ss → get_or sources i 0 ≡ j + 1 → occurs j ss ≡ true
  unfolding Stand
  taken_from i j l e = occurs_at j nowhere i ss l (numbered_from (get_or ss i nowhere) j (sym (stand i l) ∙ e))

  module _ (g h : ℕ) (seen : List Bool) where
    pub not_there : length ss ≤ g → Seen sources g seen → get_or seen h false ≡ false → occurs h ss ≡ false
    unfolding Stand
    not_there over u e = occurs_nowhere h nowhere ss none
      where
        none : (i : ℕ) → i < length ss → get_or ss i nowhere ≡ from h → ⊥
        none i k f =
            let n : get_or sources i 0 ≡ suc h = stand i k ∙ ap numbered f in
            let s : get_or sources i 0 - 1 ≡ h = omega arith in
            let t : get_or seen (get_or sources i 0 - 1) false ≡ true = u.all i (omega arith) (omega arith) in
            false≢true (sym e ∙ subst (λ (x : ℕ). get_or seen x false ≡ true) s t)

    -- where all output halves were passed, the seen ones are those that they are taken from
    pub seen_occurs : g ≡ length ss → h < 8192 → Seen sources g seen → get_or seen h false ≡ occurs h ss
    seen_occurs end l u = go (get_or seen h false) refl
      where
        go : (t : Bool) → get_or seen h false ≡ t → t ≡ occurs h ss
        go true e = let w = u.some h l e in sym (taken_from w.0 h (omega (arith, w.1, end)) w.2)
        go false e = sym (not_there (omega (arith, end)) u e)
