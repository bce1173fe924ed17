-- The table of refusals where twins are asked for: 1 to 10 as for a plan, 16 where it keeps, and 15 where it loses and the room is too short. By following the
-- tests; rows 15 and 16 never apply together, since a plan that keeps has no lost place.
use mathlib.Core.Path.{◌≡◌, refl, sym, ◌∙◌, subst}
use mathlib.Core.Logic.{◌↔◌, inl, inr}
use mathlib.Core.Bool.{Bool, true, false, not}
use mathlib.Core.List.{List}
use Prim.Native.Nat.{ℕ, ◌<◌}
use native.Mathlib.Omega.{arith}
use lib.Dec.{ltb, leb}
use lib.ListN.{length}
use borrow.Author.Tests.{ltb-true, ltb-false, leb-false, lt-leb}
use Rattle.rules.specs.Answer.{Answer, fine, refused_at, ◌>>◌, unless}
use Rattle.rules.specs.Plan.{Plan, plan_of, lost_at, keeps}
use Rattle.rules.specs.Rows.{Asks, ◌⊳◌, No, Done, GivenBy}
use Rattle.rules.specs.ColumnRows.{Column, Lowest}
use Rattle.rules.specs.Demand.{Keeping, LostPlace}
use Rattle.rules.specs.Accepted.{Accepted}
use Rattle.rules.specs.Lent.{zone_f, plan}
use Rattle.rules.specs.Twins.{twins, Shown, shown, twins_into}
use Rattle.rules.specs.TwinWords.{Needs, RowRoom, Row16, RowTwins}
use Rattle.rules.proofs.Refusals.Given.{unless_outcome, Clear, clear_next, Upto, stage, upto_bind, upto_then, given_exactly, fine_exactly}
use Rattle.rules.proofs.Deck.AcceptedLaws.{accepted, zone_of}
use Rattle.rules.proofs.Refusals.PlanTable.{upto_plan, plan_asks, asks_once, one_more, further_most}
use Rattle.rules.proofs.Columns.ColumnTable.{lowest_zero, Columned, columned_bind, columned_then, columned_unless, columned_plan, columns}
use Rattle.rules.proofs.Keeping.Twins.{lost_place}
use Rattle.rules.proofs.Keeping.Demand3.{kept_plan, not_lost}
use Rattle.rules.proofs.Twins.TwinLaws.{length_first, length_second, length_more, length_twins}

-- ---- one lost place

pub lost_once : (p : Plan) (a b : ℕ) → LostPlace p a → LostPlace p b → a ≡ b
lost_once p a b (inl x) (inl y) = go (ltb a b) refl (ltb b a) refl
  where
    go : (t : Bool) → ltb a b ≡ t → (u : Bool) → ltb b a ≡ u → a ≡ b
    go true t u v = absurd (y.2 a (ltb-true a b t) x.1)
    go false t true v = absurd (x.2 b (ltb-true b a v) y.1)
    go false t false v = omega (arith, ltb-false a b t, ltb-false b a v)
lost_once p a b (inl x) (inr y) = absurd (y.1 a x.0 x.1)
lost_once p a b (inr x) (inl y) = absurd (x.1 b y.0 y.1)
lost_once p a b (inr x) (inr y) = x.0 ∙ sym y.0

-- both records have as many bytes as are needed
needs_twins : (p : Plan) → LostPlace p (lost_at p) → Needs p (lost_at p) (length (twins p))
needs_twins p (inl x) = inl (x.0, omega (arith, length_twins p, length_first p, length_second p x.0))
needs_twins p (inr x) = inr (x.0, omega (arith, length_twins p, length_first p, length_more p x.0))

needs_once : (p : Plan) (lost a b : ℕ) → Needs p lost a → Needs p lost b → a ≡ b
needs_once p lost a b (inl x) (inl y) = x.1 ∙ sym y.1
needs_once p lost a b (inl x) (inr y) = absurd (omega (arith, x.0, y.0))
needs_once p lost a b (inr x) (inl y) = absurd (omega (arith, x.0, y.0))
needs_once p lost a b (inr x) (inr y) = x.1 ∙ sym y.1

-- ---- the table

module _ (deck : List ℕ) (room : ℕ) where
  abbrev Rows : ℕ → ℕ → Type 0
  Rows = RowTwins zone_f deck room

  module _ (pl : Plan) (e : plan_of zone_f deck ≡ fine pl) where
    abbrev tested : Answer Shown
    tested = unless (not (keeps pl)) 16 0 >> (unless (leb (length (twins pl)) room) 15 (length (twins pl)) >> fine (shown pl))

    z : pl.zone < 16
    z = rw (zone_of zone_f deck pl e) (omega arith)

    ok : Accepted pl
    ok = accepted zone_f deck pl e

    -- what the rows say of the deck's plan they say of this one
    own : (W : Plan → Type 0) (pl' : Plan) → Asks zone_f deck pl' → W pl' → W pl
    own W pl' a w = subst W (asks_once zone_f deck Done pl pl' e a) w

    upto_kept : keeps pl ≡ true → Clear Rows 15 0 → Upto Rows 17 0 tested
    unfolding unless ◌>>◌
    upto_kept k c =
        let told = kept_plan pl z ok k in
        let c16 = clear_next Rows 15 0 c (λ q l r. not_lost pl r.2 told (own (λ p. LostPlace p r.2) r.0 r.1 r.3)) in
        rw k ((pl, plan_asks zone_f deck Done pl e, refl, told), c16.0, c16.1)

    upto_room : LostPlace pl (lost_at pl) → Clear Rows 15 0 → Upto Rows 16 0 (unless (leb (length (twins pl)) room) 15 (length (twins pl)))
    upto_room at c =
        stage Rows 15 0 _ (unless (leb (length (twins pl)) room) 15 (length (twins pl))) (unless_outcome (leb (length (twins pl)) room) 15 (length (twins pl))) c
        (λ p f. (pl, plan_asks zone_f deck Done pl e, lost_at pl, at, subst (Needs pl (lost_at pl)) (sym f.0) (needs_twins pl at), omega (arith, f.0, leb-false (length (twins pl)) room f.1)))
        (λ p l r. from p r.2 (own (λ q. LostPlace q r.2) r.0 r.1 r.3) (own (λ q. Needs q r.2 p) r.0 r.1 r.4) r.5)
      where
        from : (p lost : ℕ) → LostPlace pl lost → Needs pl lost p → room < p → (p ≡ length (twins pl)) × (leb (length (twins pl)) room ≡ false)
        from p lost w n l =
            let same : p ≡ length (twins pl) = needs_once pl (lost_at pl) p (length (twins pl)) (subst (λ (h : ℕ). Needs pl h p) (lost_once pl lost (lost_at pl) w at) n) (needs_twins pl at) in
            (same, lt-leb (length (twins pl)) room (omega arith))

    upto_lost : keeps pl ≡ false → Clear Rows 15 0 → Upto Rows 17 0 tested
    unfolding unless ◌>>◌
    upto_lost k c =
        let at = lost_place pl z ok k in
        rw k (upto_then Rows 16 0 17 0 (unless (leb (length (twins pl)) room) 15 (length (twins pl))) (fine (shown pl)) (upto_room at c) (λ f c16.
        clear_next Rows 16 0 c16 (λ q l r. not_lost pl (lost_at pl) (own Keeping r.0 r.1 r.3) at)))

    upto_tested : Clear Rows 15 0 → Upto Rows 17 0 tested
    upto_tested c = go (keeps pl) refl
      where
        go : (b : Bool) → keeps pl ≡ b → Upto Rows 17 0 tested
        go true k = upto_kept k c
        go false k = upto_lost k c

  upto_twins : Upto Rows 17 0 (twins_into room deck)
  unfolding twins_into plan
  upto_twins =
      upto_bind Rows 11 0 17 0 (plan_of zone_f deck) _ (upto_plan zone_f deck (No ⊳ No ⊳ No ⊳ No ⊳ RowRoom zone_f deck room ⊳ Row16 zone_f deck room ⊳ Done)) (λ pl e c.
      let c1 = clear_next Rows 11 0 c (λ q l r. r) in
      let c2 = clear_next Rows 12 0 c1 (λ q l r. r) in
      let c3 = clear_next Rows 13 0 c2 (λ q l r. r) in
      upto_tested pl e (clear_next Rows 14 0 c3 (λ q l r. r)))

  twins_most : (n p : ℕ) → Rows n p → n < 17
  twins_most = further_most zone_f deck _ 6 (one_more No _ 5 (one_more No _ 4 (one_more No _ 3 (one_more No _ 2 (one_more _ _ 1 (one_more _ _ 0 (λ j p x. absurd x)))))))

  twins_table : (n p : ℕ) → ((c : ℕ) × (twins_into room deck ≡ refused_at n p c)) ↔ GivenBy Rows n p
  twins_table = given_exactly Rows 17 (twins_into room deck) upto_twins twins_most

  pub twins_made : ((x : Shown) × (twins_into room deck ≡ fine x)) ↔ ((n p : ℕ) → Rows n p → ⊥)
  twins_made = fine_exactly Rows 17 (twins_into room deck) upto_twins twins_most

  -- ---- with its column

  columned_twins : Columned deck (twins_into room deck)
  unfolding twins_into plan
  columned_twins =
      columned_bind deck (plan_of zone_f deck) _ (columned_plan deck zone_f) (λ p e.
      columned_then deck _ _ (columned_unless deck _ 16 0 (λ q. lowest_zero)) (λ e2.
      columned_then deck _ _ (columned_unless deck _ 15 _ (λ q. lowest_zero)) (λ e3. tt)))

  pub twins_columns : (n p c : ℕ) → (twins_into room deck ≡ refused_at n p c) ↔ (GivenBy Rows n p × Lowest (Column deck p n) c)
  twins_columns = columns deck (twins_into room deck) Rows twins_table columned_twins
