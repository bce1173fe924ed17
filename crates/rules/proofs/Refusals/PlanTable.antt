-- The table of refusals of a plan: a deck is refused with n at p exactly if row n applies at p, at no lower place, and no row of a lower number applies; with a
-- lent table row 15 too. By following the tests of a plan with the rows that are already clear.
use mathlib.Core.Path.{◌≡◌, refl, ap, sym, ◌∙◌, subst}
use mathlib.Core.Logic.{◌↔◌, ◌⊎◌, inl, inr}
use mathlib.Core.Bool.{Bool, true, false, not, ◌&&◌, ◌||◌, and-false, true≢false, false≢true}
use mathlib.Core.List.{List, [], ◌∷◌}
use Prim.Native.Nat.{ℕ, zero, suc, ◌+◌, ◌-◌, ◌≤◌, ◌<◌}
use native.Mathlib.Omega.{arith}
use lib.Dec.{ltb, leb, eqb}
use lib.ListN.{length}
use borrow.Author.Tests.{ltb-true, ltb-false, leb-false, eqb-false, ne_eqb, lt-leb}
use Rattle.rules.specs.Base.{is_empty, joined}
use Rattle.rules.specs.Answer.{fine, refused_at, unless, each}
use Rattle.rules.specs.Places.{Some, Found}
use Rattle.rules.specs.Grammar.{Format, fv, Input, in_key, CardField, Item}
use Rattle.rules.specs.Asked.{Asked, asked_of, fields_of, cvs}
use Rattle.rules.specs.Plan.{Plan, plan_of, assembled, sound, combined, selects, is_fv, record_length, joined_size, part_length, is_keyed, key_fields, key_fits, card_fits, inside_part, input_halves, barren_half}
use Rattle.rules.specs.InWords.{MayBe}
use Rattle.rules.specs.Lent.{zone_f, plan, plan_into}
use Rattle.rules.specs.Rows.{Required, IsKeyed, KeyFits, Inside, Asks, Row8, Row9, Row10, PlanRows, Row, ◌⊳◌, No, Done, GivenBy}
use Rattle.rules.specs.RunRows.{RowTable, RowInto}
use Rattle.rules.proofs.Base.Lists.{not_empty}
use Rattle.rules.proofs.Refusals.AnswerLaws.{fine_same, bind_fine, then_fine, unless_fine}
use Rattle.rules.proofs.Deck.LimitLaws.{required_exactly, keys_exactly, inside_exactly, is_fv_lem}
use Rattle.rules.proofs.Keys.KeyLaws.{some_key, key_some, is_keyed_lem, keyed_is}
use Rattle.rules.proofs.Base.Tests.{and_left, and_right, and_both, never_true, fails, failing}
use Rattle.rules.proofs.Refusals.Given.{found_low, found_map, found_either, found_some, unless_outcome, each_outcome, Clear, clear_next, Upto, stage, stage_to, upto_bind, upto_then, given_exactly, fine_exactly}
use Rattle.rules.proofs.Refusals.BarrenOutcome.{barren_outcome}
use Rattle.rules.proofs.Refusals.AskedTable.{AsksOnce, asked_once, upto_asked, asked_says}

-- ---- refusal 8

-- the sentences R of the U card and the wanted FS card, together or one by one
module _ {R : Type 0} where
  one_broken : (s : Bool) (cards : List (List Item)) → (R × (s ≡ true → not (is_empty cards) ≡ true) → ⊥) → (R → ⊥) ⊎ ((s ≡ true) × (cards ≡ []))
  one_broken false cards h = inl (λ r. h (r, λ e. absurd (false≢true e)))
  one_broken true [] h = inr (refl, refl)
  one_broken true (c ∷ cards) h = inl (λ r. h (r, λ e. refl))

  broken_one : (s : Bool) (cards : List (List Item)) → (R → ⊥) ⊎ ((s ≡ true) × (cards ≡ [])) → R × (s ≡ true → not (is_empty cards) ≡ true) → ⊥
  broken_one s cards (inl h) w = h w.0
  broken_one s cards (inr x) w = false≢true (sym (ap (λ (z : List (List Item)). not (is_empty z)) x.1) ∙ w.1 x.0)

not_fv : (f : Format) → (f ≡ fv → ⊥) → is_fv f ≡ false
not_fv f h = never_true (is_fv f) (λ e. h (is_fv_lem f e))

-- what rows 8 and 9 say of what is asked
abbrev Requires : Asked → Type 0
Requires a =
    Required a.utility.mode a.utility.format (joined_size a.utility.input) a.utility.output a.utility.first
    × KeyFits a.utility.mode a.utility.format a.utility.input

abbrev Broken : ℕ → Asked → Type 0
Broken p a =
    ((p ≡ 1) × (Requires a → ⊥))
    ⊎ (((p ≡ 1) × (selects a.utility.mode ≡ true) × (a.cards ≡ []))
    ⊎ (((p ≡ 2) × (selects a.utility.mode ≡ false) × (a.cards ≡ [] → ⊥))
    ⊎ (((a.utility.format ≡ fv → ⊥) × Found (λ c. 1 ≤ cvs c) p 2 a.cards)
    ⊎ ((IsKeyed a.utility.input → ⊥) × Found (λ c. Some (λ f. f.part ≡ in_key) (fields_of c)) p 2 a.cards))))

abbrev Beyond : ℕ → Asked → Type 0
Beyond p a = Found (λ f. Inside (part_length a.utility.input f.part) (record_length a.utility.output) f.field → ⊥) p 1 (fields_of (joined a.cards))

module _ (zone : ℕ) (deck : List ℕ) (more : ℕ → ℕ → Type 0) where
  abbrev Rows : ℕ → ℕ → Type 0
  Rows = PlanRows zone deck more

  module _ (a : Asked) (w : AsksOnce deck a) where
    row8 : (p : ℕ) → Row8 deck p → Broken p a
    row8 p r = subst (Broken p) (asked_once deck (record { utility = r.3; cards = r.1 }) a (r.0, r.2, r.4) w) r.5

    row8_of : (p : ℕ) → Broken p a → Row8 deck p
    row8_of p b = (w.0, a.cards, w.1, a.utility, w.2, b)

    abbrev sounds : Bool
    sounds = sound (assembled zone a) (not (is_empty a.cards)) && key_fits a.utility.mode a.utility.format a.utility.input

    upto_sound : Clear Rows 8 0 → Upto Rows 8 2 (unless sounds 8 1)
    unfolding assembled
    upto_sound c =
        stage_to Rows 8 0 2 _ (unless sounds 8 1) (unless_outcome sounds 8 1) c
        (λ p f. (row8_of p (to p f.0 (one_broken (selects a.utility.mode) a.cards (fails sounds exactly f.1))), omega (arith, f.0)))
        (λ p l h r. go p h (row8 p r))
      where
        exactly : (sounds ≡ true) ↔ (Requires a × (selects a.utility.mode ≡ true → not (is_empty a.cards) ≡ true))
        exactly =
            let s = required_exactly (assembled zone a) (not (is_empty a.cards)) in
            let k = keys_exactly a.utility.mode a.utility.format a.utility.input in
            let own = sound (assembled zone a) (not (is_empty a.cards)) in (
              λ e. let w = s.0 (and_left own _ e) in ((w.0, k.0 (and_right own _ e)), w.1),
              λ w. and_both (s.1 (w.0.0, w.1)) (k.1 w.0.1),
            )

        to : (p : ℕ) → p ≡ 1 → (Requires a → ⊥) ⊎ ((selects a.utility.mode ≡ true) × (a.cards ≡ [])) → Broken p a
        to p e (inl x) = inl (e, x)
        to p e (inr x) = inr (inl (e, x.0, x.1))

        go : (p : ℕ) → p < 2 → Broken p a → (p ≡ 1) × (sounds ≡ false)
        go p h (inl x) = (x.0, failing sounds exactly (broken_one (selects a.utility.mode) a.cards (inl x.1)))
        go p h (inr (inl x)) = (x.0, failing sounds exactly (broken_one (selects a.utility.mode) a.cards (inr (x.1, x.2))))
        go p h (inr (inr (inl x))) = absurd (omega (arith, x.0))
        go p h (inr (inr (inr (inl x)))) = absurd (omega (arith, found_low x.1))
        go p h (inr (inr (inr (inr x)))) = absurd (omega (arith, found_low x.1))

    abbrev cards_wanted : Bool
    cards_wanted = selects a.utility.mode || is_empty a.cards

    -- an FS card in TC or TR; place 2 may still be that of a CV
    upto_wanted : Clear Rows 8 2 → Upto Rows 8 2 (unless cards_wanted 8 2)
    unfolding unless
    upto_wanted c = go (selects a.utility.mode) refl (is_empty a.cards) refl
      where
        go : (s : Bool) → selects a.utility.mode ≡ s → (b : Bool) → is_empty a.cards ≡ b → Upto Rows 8 2 (unless cards_wanted 8 2)
        go true es b eb = rw es c
        go false es true eb = rw (es, eb) c
        go false es false eb = rw (es, eb) (row8_of 2 (inr (inr (inl (refl, es, λ e. true≢false (ap is_empty (sym e) ∙ eb))))), c.0, c.1)

    -- CV outside FV, or a field taken from the key without keys
    upto_fitting : cards_wanted ≡ true → Clear Rows 8 2 → Upto Rows 9 0 (each 8 (card_fits a.utility.format a.utility.input) 2 a.cards)
    unfolding card_fits
    upto_fitting k c =
        stage Rows 8 2 _ (each 8 (card_fits f i) 2 a.cards) (each_outcome 8 (card_fits f i) 2 a.cards) c
        (λ p x. row8_of p (inr (inr (inr (to p (found_either (found_map (λ c e. and_fails (cv_fits c) (keys_fit c) e) x)))))))
        (λ p l r. go p l (row8 p r))
      where
        f : Format
        f = a.utility.format

        i : Input
        i = a.utility.input

        cv_fits : List Item → Bool
        cv_fits c = is_fv f || eqb (cvs c) 0

        keys_fit : List Item → Bool
        keys_fit c = is_keyed i || eqb (key_fields (fields_of c)) 0

        and_fails : (x y : Bool) → (x && y) ≡ false → (x ≡ false) ⊎ (y ≡ false)
        and_fails false y e = inl refl
        and_fails true y e = inr e

        none : (b : Bool) (n : ℕ) → (b || eqb n 0) ≡ false → (b ≡ false) × (n ≡ 0 → ⊥)
        none true n e = absurd (true≢false e)
        none false n e = (refl, eqb-false n 0 e)

        to : (p : ℕ) → Found (λ c. cv_fits c ≡ false) p 2 a.cards ⊎ Found (λ c. keys_fit c ≡ false) p 2 a.cards
            → ((f ≡ fv → ⊥) × Found (λ c. 1 ≤ cvs c) p 2 a.cards) ⊎ ((IsKeyed i → ⊥) × Found (λ c. Some (λ f. f.part ≡ in_key) (fields_of c)) p 2 a.cards)
        to p (inl x) =
            let c = found_some x in
            inl (λ q. true≢false (sym (ap is_fv q) ∙ (none (is_fv f) (cvs c.0) c.1).0), found_map (λ c e. let d = (none (is_fv f) (cvs c) e).1 in omega arith) x)
        to p (inr x) =
            let c = found_some x in
            inr (
              λ q. true≢false (sym (is_keyed_lem q) ∙ (none (is_keyed i) (key_fields (fields_of c.0)) c.1).0),
              found_map (λ c e. some_key (fields_of c) (none (is_keyed i) (key_fields (fields_of c)) e).1) x,
            )

        no_keys : (IsKeyed i → ⊥) → is_keyed i ≡ false
        no_keys h = never_true (is_keyed i) (λ t. h (keyed_is i t))

        go : (p : ℕ) → 2 ≤ p → Broken p a → Found (λ c. card_fits f i c ≡ false) p 2 a.cards
        go p h (inl x) = absurd (omega (arith, x.0))
        go p h (inr (inl x)) = absurd (omega (arith, x.0))
        go p h (inr (inr (inl x))) = absurd (true≢false (sym k ∙ rw x.1 (not_empty a.cards x.2)))
        go p h (inr (inr (inr (inl x)))) = found_map (λ c m. rw (not_fv f x.0, ne_eqb (cvs c) 0 (λ z. omega arith)) refl) x.1
        go p h (inr (inr (inr (inr x)))) =
            found_map (λ c m. rw (no_keys x.0, ne_eqb (key_fields (fields_of c)) 0 (key_some (fields_of c) m)) (and-false (cv_fits c))) x.1

    -- ---- row 9

    row9 : (p : ℕ) → Row9 deck p → Beyond p a
    row9 p r = subst (Beyond p) (asked_once deck (record { utility = r.3; cards = r.1 }) a (r.0, r.2, r.4) w) r.5

    upto_inside : Clear Rows 9 0 → Upto Rows 10 0 (each 9 (inside_part a.utility.input a.utility.output) 1 (fields_of (joined a.cards)))
    unfolding inside_part
    upto_inside c =
        stage Rows 9 0 _ (each 9 test 1 (fields_of (joined a.cards))) (each_outcome 9 test 1 (fields_of (joined a.cards))) c
        (λ p f. (w.0, a.cards, w.1, a.utility, w.2, found_map (λ f q. fails (test f) (inside_exactly _ _ f.field) q) f))
        (λ p l r. found_map (λ f q. failing (test f) (inside_exactly _ _ f.field) q) (row9 p r))
      where
        test : CardField → Bool
        test = inside_part a.utility.input a.utility.output

    -- ---- row 10 speaks of the plan

    asks : Asks zone deck (assembled zone a)
    asks = (w.0, a.cards, w.1, a.utility, w.2, refl)

    asks_same : (pl : Plan) → Asks zone deck pl → pl ≡ assembled zone a
    asks_same pl x = x.5 ∙ ap (assembled zone) (asked_once deck (record { utility = x.3; cards = x.1 }) a (x.0, x.2, x.4) w)

    abbrev made : Plan
    made = assembled zone a

    upto_barren : Clear Rows 10 0 → Upto Rows 11 0 (unless (eqb (barren_half made) (input_halves made)) 10 (barren_half made))
    upto_barren c =
        stage Rows 10 0 _ (unless (eqb (barren_half made) (input_halves made)) 10 (barren_half made)) (barren_outcome made) c
        (λ p f. (made, asks, f.0, f.1))
        (λ p l r. subst (λ (z : Plan). (p < input_halves z) × ((v : ℕ) → MayBe z p v → ⊥)) (asks_same r.0 r.1) (r.2, r.3))

    upto_combined : Clear Rows 8 0 → Upto Rows 11 0 (combined zone a)
    unfolding combined
    upto_combined c =
        upto_then Rows 8 2 11 0 _ _ (upto_sound c) (λ e1 c1.
        upto_then Rows 8 2 11 0 _ _ (upto_wanted c1) (λ e2 c2. let k = unless_fine cards_wanted 8 2 e2 in
        upto_then Rows 9 0 11 0 _ _ (upto_fitting k c2) (λ e3 c3.
        upto_then Rows 10 0 11 0 _ _ (upto_inside c3) (λ e4 c4. upto_barren c4))))

  pub upto_plan : Upto Rows 11 0 (plan_of zone deck)
  unfolding plan_of
  upto_plan =
      upto_bind Rows 8 0 11 0 _ _ (upto_asked deck (Row8 deck ⊳ Row9 deck ⊳ Row10 zone deck ⊳ more)) (λ a e1 c1.
      upto_then Rows 11 0 11 0 _ _ (upto_combined a (asked_says deck Done a e1) c1) (λ e2 c2. c2))

  -- a plan that is made is what the cards ask for
  pub plan_asks : (pl : Plan) → plan_of zone deck ≡ fine pl → Asks zone deck pl
  unfolding plan_of
  plan_asks pl e =
      let s1 = bind_fine (asked_of deck) _ pl e in
      let s2 = then_fine (combined zone s1.0) _ pl s1.2 in
      let w = asks s1.0 (asked_says deck Done s1.0 s1.1) in
      subst (Asks zone deck) (fine_same _ pl s2.1) w

  -- and they ask for no other
  pub asks_once : (pl pl' : Plan) → plan_of zone deck ≡ fine pl → Asks zone deck pl' → pl' ≡ pl
  unfolding plan_of
  asks_once pl pl' e x =
      let s1 = bind_fine (asked_of deck) _ pl e in
      let s2 = then_fine (combined zone s1.0) _ pl s1.2 in
      asks_same s1.0 (asked_says deck Done s1.0 s1.1) pl' x ∙ fine_same _ pl s2.1

  -- past row 10 stand the further rows
  plan_most : (n p : ℕ) → Rows n p → (n < 11) ⊎ more (n - 11) p
  plan_most n p r = go (ltb n 11) refl
    where
      go : (t : Bool) → ltb n 11 ≡ t → (n < 11) ⊎ more (n - 11) p
      go true t = inl (ltb-true n 11 t)
      go false t =
          let l = ltb-false n 11 t in
          let e : n ≡ suc (suc (suc (suc (suc (suc (suc (suc (suc (suc (suc (n - 11))))))))))) = omega arith in
          inr (subst (λ (k : ℕ). Rows k p) e r)

-- ---- the table of a plan

module _ (zone : ℕ) (deck : List ℕ) where
  row_most : (n p : ℕ) → Row zone deck n p → n < 11
  row_most n p r = go (plan_most zone deck Done n p r)
    where
      go : (n < 11) ⊎ ⊥ → n < 11
      go (inl l) = l
      go (inr h) = absurd h

  -- refused with n at p exactly if the table gives n at p
  pub plan_table : (n p : ℕ) → ((c : ℕ) × (plan_of zone deck ≡ refused_at n p c)) ↔ GivenBy (Row zone deck) n p
  plan_table = given_exactly (Row zone deck) 11 (plan_of zone deck) (upto_plan zone deck Done) row_most

  -- a plan is made exactly if no row applies
  pub plan_made : ((pl : Plan) × (plan_of zone deck ≡ fine pl)) ↔ ((n p : ℕ) → Row zone deck n p → ⊥)
  plan_made = fine_exactly (Row zone deck) 11 (plan_of zone deck) (upto_plan zone deck Done) row_most

-- rows of which so many are left, and one more before them
pub one_more : (row : ℕ → Type 0) (rows : ℕ → ℕ → Type 0) (k : ℕ) → ((j p : ℕ) → rows j p → j < k) → (j p : ℕ) → (row ⊳ rows) j p → j < suc k
one_more row rows k h zero p x = omega arith
one_more row rows k h (suc j) p x = omega (arith, h j p x)

-- so many further rows are those from 11 on
pub further_most : (zone : ℕ) (deck : List ℕ) (more : ℕ → ℕ → Type 0) (k : ℕ) → ((j p : ℕ) → more j p → j < k) → (n p : ℕ) → PlanRows zone deck more n p → n < 11 + k
further_most zone deck more k h n p r = go (plan_most zone deck more n p r)
  where
    go : (n < 11) ⊎ more (n - 11) p → n < 11 + k
    go (inl l) = omega arith
    go (inr x) = omega (arith, h (n - 11) p x)

-- five further rows are 11 to 15
pub five_most : (a b c d e : ℕ → Type 0) (zone : ℕ) (deck : List ℕ) (n p : ℕ) → PlanRows zone deck (a ⊳ b ⊳ c ⊳ d ⊳ e ⊳ Done) n p → n < 16
five_most a b c d e zone deck =
    further_most zone deck _ 5 (one_more a _ 4 (one_more b _ 3 (one_more c _ 2 (one_more d _ 1 (one_more e _ 0 (λ j p x. absurd x))))))

-- ---- the table of a plan with a lent table of so many entries

module _ (entries : ℕ) (deck : List ℕ) where
  abbrev RowsInto : ℕ → ℕ → Type 0
  RowsInto = RowInto zone_f deck entries

  upto_entries : (pl : Plan) → plan_of zone_f deck ≡ fine pl → Clear RowsInto 15 0 → Upto RowsInto 16 0 (unless (leb (length pl.fields) entries) 15 (length pl.fields))
  upto_entries pl e c =
      stage RowsInto 15 0 _ (unless (leb (length pl.fields) entries) 15 (length pl.fields))
      (unless_outcome (leb (length pl.fields) entries) 15 (length pl.fields)) c
      (λ p f. (pl, plan_asks zone_f deck Done pl e, f.0, leb-false (length pl.fields) entries f.1))
      (λ p l r.
      subst (λ (z : Plan). (p ≡ length z.fields) × (leb (length z.fields) entries ≡ false)) (asks_once zone_f deck Done pl r.0 e r.1)
      (r.2, lt-leb (length r.0.fields) entries r.3))

  upto_into : Upto RowsInto 16 0 (plan_into entries deck)
  unfolding plan_into plan
  upto_into =
      upto_bind RowsInto 11 0 16 0 (plan_of zone_f deck) _ (upto_plan zone_f deck (No ⊳ No ⊳ No ⊳ No ⊳ RowTable zone_f deck entries ⊳ Done)) (λ pl e c.
      let c1 = clear_next RowsInto 11 0 c (λ q l r. r) in
      let c2 = clear_next RowsInto 12 0 c1 (λ q l r. r) in
      let c3 = clear_next RowsInto 13 0 c2 (λ q l r. r) in
      let c4 = clear_next RowsInto 14 0 c3 (λ q l r. r) in
      upto_then RowsInto 16 0 16 0 _ _ (upto_entries pl e c4) (λ e5 c5. c5))

  into_most : (n p : ℕ) → RowsInto n p → n < 16
  into_most = five_most No No No No (RowTable zone_f deck entries) zone_f deck

  pub into_table : (n p : ℕ) → ((c : ℕ) × (plan_into entries deck ≡ refused_at n p c)) ↔ GivenBy (RowInto zone_f deck entries) n p
  into_table = given_exactly RowsInto 16 (plan_into entries deck) upto_into into_most

  pub into_made : ((pl : Plan) × (plan_into entries deck ≡ fine pl)) ↔ ((n p : ℕ) → RowInto zone_f deck entries n p → ⊥)
  into_made = fine_exactly RowsInto 16 (plan_into entries deck) upto_into into_most
