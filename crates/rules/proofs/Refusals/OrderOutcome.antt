-- Refusals 1 and 2: the first line that is no card is found, and of the cards the first at fault; where none is, the cards are one U card, FS cards and one
-- END card. By going along the lines and the cards with the place of the next.
use mathlib.Core.Path.{◌≡◌, refl, ap, ◌∙◌}
use mathlib.Core.Bool.{Bool, true, false}
use mathlib.Core.List.{List, [], ◌∷◌, ◌++◌, map}
use Prim.Native.Nat.{ℕ, suc, ◌+◌, ◌≤◌, ◌<◌}
use native.Mathlib.Omega.{arith}
use lib.Dec.{ltb, leb}
use lib.ListN.{length}
use borrow.Author.Tests.{ltb-true, ltb-false, leb-true, leb-false}
use Rattle.rules.specs.Answer.{fine}
use Rattle.rules.specs.Places.{Some, this, that, Found, here, later}
use Rattle.rules.specs.Deck.{Card, u_card, fs_card, end_card}
use Rattle.rules.specs.Order.{fs_from, Operands, ordered}
use Rattle.rules.specs.Rows.{IsU, a_u, IsEnd, an_end, Fault, no_card, not_u, other_u, after_end, no_end_lem, over_64}
use Rattle.rules.proofs.Refusals.AnswerLaws.{not_fine, fine_same, bind_fine}
use Rattle.rules.proofs.Refusals.Given.{Outcome, outcome_same, outcome_bind, found_low, found_nil, found_past, some_long}

-- ---- refusal 2

-- U, FS and END cards differ
abbrev face : Card → ℕ
face (u_card b o) = 0
face (fs_card o) = 1
face end_card = 2

u_face : {c : Card} → IsU c → face c ≡ 0
u_face a_u = refl

end_face : {c : Card} → IsEnd c → face c ≡ 2
end_face an_end = refl

fs_no_u : {o : List ℕ} → IsU (fs_card o) → ⊥
fs_no_u h = omega (arith, u_face h)

end_no_u : IsU end_card → ⊥
end_no_u h = omega (arith, u_face h)

fs_no_end : {o : List ℕ} → IsEnd (fs_card o) → ⊥
fs_no_end h = omega (arith, end_face h)

u_no_end : {b : ℕ} {o : List ℕ} → IsEnd (u_card b o) → ⊥
u_no_end h = omega (arith, end_face h)

-- the cards from place i on, after a U card and FS cards: card p is at fault, or one past the last is
data Late (i : ℕ) (cs : List Card) (p : ℕ) : Type 0 where
  late_u : Found IsU p i cs → Late i cs p
  late_end : (q : ℕ) → q < p → p < i + length cs → Found IsEnd q i cs → Late i cs p
  late_none : (Some IsEnd cs → ⊥) → p ≡ i + length cs → Late i cs p
  late_over : 64 < p → i ≤ p → p < i + length cs → Late i cs p

late_low : (i : ℕ) (cs : List Card) (p : ℕ) → Late i cs p → i ≤ p
late_low i cs p (late_u f) = found_low f
late_low i cs p (late_end q l h f) = omega (arith, found_low f)
late_low i cs p (late_none n e) = omega arith
late_low i cs p (late_over a b c) = b

no_end : {x : Card} {cs : List Card} → (IsEnd x → ⊥) → (Some IsEnd cs → ⊥) → Some IsEnd (x ∷ cs) → ⊥
no_end g h (this e) = g e
no_end g h (that s) = h s

late_fs : (i : ℕ) (o : List ℕ) (cs : List Card) (p : ℕ) → Late (suc i) cs p → Late i (fs_card o ∷ cs) p
late_fs i o cs p (late_u f) = late_u (later f)
late_fs i o cs p (late_end q l h f) = late_end q l (omega arith) (later f)
late_fs i o cs p (late_none n e) = late_none (no_end fs_no_end n) (omega arith)
late_fs i o cs p (late_over a b c) = late_over a (omega arith) (omega arith)

fs_late : (i : ℕ) (o : List ℕ) (cs : List Card) (p : ℕ) → i ≤ 64 → Late i (fs_card o ∷ cs) p → Late (suc i) cs p
fs_late i o cs p m (late_u f) = late_u (found_past fs_no_u f)
fs_late i o cs p m (late_end q l h f) = late_end q l (omega arith) (found_past fs_no_end f)
fs_late i o cs p m (late_none n e) = late_none (λ s. n (that s)) (omega arith)
fs_late i o cs p m (late_over a b c) = late_over a (omega arith) (omega arith)

late_end_lem : (i : ℕ) (cs : List Card) (p : ℕ) → i ≤ 64 → p ≤ i → Late i (end_card ∷ cs) p → ⊥
late_end_lem i cs p m l (late_u f) = omega (arith, found_low (found_past end_no_u f))
late_end_lem i cs p m l (late_end q h k f) = omega (arith, found_low f)
late_end_lem i cs p m l (late_none n e) = n (this an_end)
late_end_lem i cs p m l (late_over a b c) = omega arith

fs_outcome : (i : ℕ) (cs : List Card) → Outcome 2 (Late i cs) (fs_from i cs)
fs_outcome i [] = (refl, late_none (λ s. omega (arith, some_long s)) (omega arith), λ q l f. omega (arith, late_low i [] q f))
fs_outcome i (u_card b o ∷ cs) = (refl, late_u (here refl a_u), λ q l f. omega (arith, late_low i (u_card b o ∷ cs) q f))
fs_outcome i (fs_card o ∷ cs) = go (fs_outcome (suc i) cs) (leb i 64) refl
  where
    go : Outcome 2 (Late (suc i) cs) (fs_from (suc i) cs) → (t : Bool) → leb i 64 ≡ t → Outcome 2 (Late i (fs_card o ∷ cs)) (fs_from i (fs_card o ∷ cs))
    go ih true t =
        rw t
        (outcome_bind 2 _ (fs_from (suc i) cs) (λ os. o ∷ os)
        (outcome_same 2 _ _ (fs_from (suc i) cs) (λ p f. late_fs i o cs p f) (λ p f. fs_late i o cs p (leb-true i 64 t) f) ih))
    go ih false t = rw t (refl, late_over (leb-false i 64 t) (omega arith) (omega arith), λ q l f. omega (arith, late_low i (fs_card o ∷ cs) q f))
fs_outcome i (end_card ∷ cs) = go (leb i 64) refl cs
  where
    go : (t : Bool) → leb i 64 ≡ t → (cs : List Card) → Outcome 2 (Late i (end_card ∷ cs)) (fs_from i (end_card ∷ cs))
    go false t cs = rw t (refl, late_over (leb-false i 64 t) (omega arith) (omega arith), λ q l f. omega (arith, late_low i (end_card ∷ cs) q f))
    go true t [] = rw t (λ p f. at p f (ltb i p) refl)
      where
        high : (p : ℕ) → i < p → Late i (end_card ∷ []) p → ⊥
        high p l (late_u f) = found_nil (found_past end_no_u f)
        high p l (late_end q h k f) = omega arith
        high p l (late_none n e) = n (this an_end)
        high p l (late_over a b c) = omega arith

        at : (p : ℕ) → Late i (end_card ∷ []) p → (b : Bool) → ltb i p ≡ b → ⊥
        at p f true e = high p (ltb-true i p e) f
        at p f false e = late_end_lem i [] p (leb-true i 64 t) (omega (arith, ltb-false i p e)) f
    go true t (c ∷ cs) =
        rw t
        (refl, late_end i (omega arith) (omega arith) (here refl an_end), λ q l f. late_end_lem i (c ∷ cs) q (leb-true i 64 t) (omega arith) f)

late_fault : (b : ℕ) (o : List ℕ) (cs : List Card) (p : ℕ) → Late 2 cs p → Fault (u_card b o ∷ cs) p
late_fault b o cs p (late_u f) = other_u (found_low f) (later f)
late_fault b o cs p (late_end q l h f) = after_end q l (omega arith) (later f)
late_fault b o cs p (late_none n e) = no_end_lem (no_end u_no_end n) (omega arith)
late_fault b o cs p (late_over a h c) = over_64 a (omega arith)

fault_late : (b : ℕ) (o : List ℕ) (cs : List Card) (p : ℕ) → Fault (u_card b o ∷ cs) p → Late 2 cs p
fault_late b o cs p (no_card e q) = let z : ◌≡◌ {A = ℕ} 0 1 = cc in absurd (omega arith)
fault_late b o cs p (not_u e f) = absurd (omega (arith, found_low (found_past (λ h. h a_u) f)))
fault_late b o cs p (other_u l (here e x)) = absurd (omega arith)
fault_late b o cs p (other_u l (later f)) = late_u f
fault_late b o cs p (after_end q l h f) = late_end q l (omega arith) (found_past u_no_end f)
fault_late b o cs p (no_end_lem n e) = late_none (λ s. n (that s)) (omega arith)
fault_late b o cs p (over_64 a h) = late_over a (omega arith) (omega arith)

fault_low : (cs : List Card) (p : ℕ) → Fault cs p → 1 ≤ p
fault_low cs p (no_card e q) = omega arith
fault_low cs p (not_u e f) = omega arith
fault_low cs p (other_u l f) = omega arith
fault_low cs p (after_end q l h f) = omega (arith, found_low f)
fault_low cs p (no_end_lem n e) = omega arith
fault_low cs p (over_64 a b) = omega arith

pub order_outcome : (cs : List Card) → Outcome 2 (Fault cs) (ordered cs)
order_outcome [] = (refl, no_card refl refl, λ q l f. omega (arith, fault_low [] q f))
order_outcome (u_card b o ∷ cs) =
    outcome_bind 2 _ (fs_from 2 cs) _ (outcome_same 2 _ _ (fs_from 2 cs) (λ p f. late_fault b o cs p f) (λ p f. fault_late b o cs p f) (fs_outcome 2 cs))
order_outcome (fs_card o ∷ cs) = (refl, not_u refl (here refl fs_no_u), λ q l f. omega (arith, fault_low _ q f))
order_outcome (end_card ∷ cs) = (refl, not_u refl (here refl end_no_u), λ q l f. omega (arith, fault_low _ q f))

fs_fine : (i : ℕ) (cs : List Card) (fs : List (List ℕ)) → fs_from i cs ≡ fine fs → cs ≡ map fs_card fs ++ (end_card ∷ [])
fs_fine i [] fs e = absurd (not_fine _ fs e)
fs_fine i (u_card b o ∷ cs) fs e = absurd (not_fine _ fs e)
fs_fine i (fs_card o ∷ cs) fs e = go (λ os h. fs_fine (suc i) cs os h) (leb i 64) refl
  where
    go : ((os : List (List ℕ)) → fs_from (suc i) cs ≡ fine os → cs ≡ map fs_card os ++ (end_card ∷ [])) → (t : Bool) → leb i 64 ≡ t
        → fs_card o ∷ cs ≡ map fs_card fs ++ (end_card ∷ [])
    go ih true t =
        let w = bind_fine (fs_from (suc i) cs) (λ os. fine (o ∷ os)) fs (rw t at e) in
        let q : o ∷ w.0 ≡ fs = fine_same (o ∷ w.0) fs w.2 in
        rw (← q) (ap (fs_card o ∷◌) (ih w.0 w.1))
    go ih false t = absurd (not_fine _ fs (rw t at e))
fs_fine i (end_card ∷ cs) fs e = go (leb i 64) refl cs e
  where
    go : (t : Bool) → leb i 64 ≡ t → (cs : List Card) → fs_from i (end_card ∷ cs) ≡ fine fs → end_card ∷ cs ≡ map fs_card fs ++ (end_card ∷ [])
    go false t cs e = absurd (not_fine _ fs (rw t at e))
    go true t [] e = let e' : fine [] ≡ fine fs = rw t at e in let q : [] ≡ fs = fine_same [] fs e' in rw (← q)
    go true t (c ∷ cs) e = absurd (not_fine _ fs (rw t at e))

-- where no card is at fault, the cards are a U card, FS cards and an END card
pub order_fine : (cs : List Card) (os : Operands) → ordered cs ≡ fine os → cs ≡ u_card os.before os.u ∷ (map fs_card os.fs ++ (end_card ∷ []))
order_fine [] os e = absurd (not_fine _ os e)
order_fine (u_card b o ∷ cs) os e =
    let w = bind_fine (fs_from 2 cs) _ os e in
    let q = fine_same _ os w.2 in
    ap (u_card b o ∷◌) (fs_fine 2 cs w.0 w.1) ∙ ap (λ (z : Operands). u_card z.before z.u ∷ (map fs_card z.fs ++ (end_card ∷ []))) q
order_fine (fs_card o ∷ cs) os e = absurd (not_fine _ os e)
order_fine (end_card ∷ cs) os e = absurd (not_fine _ os e)
