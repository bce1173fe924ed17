-- Rows 1 to 7 of the table: what the cards are read as is refused with n at p exactly if row n is the first that applies, and p its first place. A deck says
-- one thing at most, so that a row which speaks of what the deck says speaks of what was read.
use mathlib.Core.Path.{◌≡◌, refl, ap₂, sym, ◌∙◌, subst}
use mathlib.Core.Logic.{◌⊎◌, inl, inr}
use mathlib.Core.Bool.{false, true≢false}
use mathlib.Core.List.{List, [], ◌∷◌, ◌++◌, map}
use mathlib.Core.Option.{Option, none, some, none-ne-some}
use Prim.Native.Nat.{ℕ, ◌≤◌, ◌<◌}
use native.Mathlib.Nat.{not-suc-le-zero}
use native.Mathlib.Omega.{arith}
use lib.ListN.{length}
use Rattle.rules.specs.Base.{every}
use Rattle.rules.specs.Answer.{fine, unless, each}
use Rattle.rules.specs.Places.{Some, Found}
use Rattle.rules.specs.Deck.{Card, u_card, fs_card, end_card, lines, card_of}
use Rattle.rules.specs.Order.{cards_from, Operands as Ordered, ordered, operands_of}
use Rattle.rules.specs.Grammar.{Parameter, Item, u_operand, fs_operand}
use Rattle.rules.specs.Texts.{CardText, UText, FsText}
use Rattle.rules.specs.Asked.{grammatical, items_from, Cards as Said, cards_of, letter, distinct, fields_of, cvs, up_to, once, given, Utility, complete, utility_limits, field_limits, limits, Asked, asked_of}
use Rattle.rules.specs.Rows.{CardsAre, Fault, OperandsAre, Row3, Says, Twice, CardOf, Row4, Missing, Complete, UtilityWithin, FieldWithin, Row7, CardRows}
use Rattle.rules.proofs.Refusals.AnswerLaws.{reads_fine, fine_same, bind_fine, then_fine, located_fine, unless_fine}
use Rattle.rules.proofs.Deck.LimitLaws.{utility_within, field_within}
use Rattle.rules.proofs.Deck.CardLaws.{card_exactly, card_once}
use Rattle.rules.proofs.Grammar.GrammarLaws.{u_exactly, u_left, u_once, fs_exactly, fs_left, fs_once}
use Rattle.rules.proofs.Refusals.Given.{reads_outcome, found_low, found_map, some_map, upto_located, unless_outcome, each_outcome, Clear, Upto, stage, stage_to, upto_bind, upto_then}
use Rattle.rules.proofs.Refusals.OrderOutcome.{order_outcome, order_fine}
use Rattle.rules.proofs.Refusals.ParameterOutcome.{twice_of, of_twice, missing_outcome, complete_fine, complete_same}
use Rattle.rules.proofs.Refusals.CardsOutcome.{Stops, grammatical_outcome, grammatical_fine, items_outcome, items_fine, read_text, stops_text, text_stops, up_to_outcome, every_some, some_every}
use Rattle.rules.proofs.Base.AllLaws.{both_map, both_same}
use Rattle.rules.proofs.Base.Tests.{fails, failing}

-- ---- a deck says one thing

no_card_text : (l : List ℕ) → card_of l ≡ none → (c : Card) → CardText l c → ⊥
no_card_text l e c t = none-ne-some c (sym e ∙ (card_exactly l c).1 t)

text_no_card : (l : List ℕ) → ((c : Card) → CardText l c → ⊥) → card_of l ≡ none
text_no_card l h = go (card_of l) refl
  where
    go : (o : Option Card) → card_of l ≡ o → card_of l ≡ none
    go none e = e
    go (some c) e = absurd (h c ((card_exactly l c).0 e))

cards_same : (deck : List ℕ) (cs ds : List Card) → CardsAre deck cs → CardsAre deck ds → cs ≡ ds
cards_same deck cs ds a b = both_same card_once a b

fs_same : (fs gs : List (List ℕ)) → map fs_card fs ++ (end_card ∷ []) ≡ map fs_card gs ++ (end_card ∷ []) → fs ≡ gs
fs_same [] [] e = refl
fs_same [] (g ∷ gs) e = let z : ◌≡◌ {A = ℕ} 0 1 = cc in absurd (omega arith)
fs_same (f ∷ fs) [] e = let z : ◌≡◌ {A = ℕ} 0 1 = cc in absurd (omega arith)
fs_same (f ∷ fs) (g ∷ gs) e = let h : f ≡ g = cc in ap₂ ◌∷◌ h (fs_same fs gs cc)

pub operands_same : (deck : List ℕ) (h h' : ℕ) (u u' : List ℕ) (fs fs' : List (List ℕ)) → OperandsAre deck h u fs → OperandsAre deck h' u' fs' → (h ≡ h') × (u ≡ u') × (fs ≡ fs')
operands_same deck h h' u u' fs fs' a b =
    let e : u_card h u ∷ (map fs_card fs ++ (end_card ∷ [])) ≡ u_card h' u' ∷ (map fs_card fs' ++ (end_card ∷ [])) = cards_same deck _ _ a b in
    (cc, cc, fs_same fs fs' cc)

pub says_same : (deck : List ℕ) (us us' : List Parameter) (cards cards' : List (List Item)) → Says deck us cards → Says deck us' cards'
    → (us ≡ us') × (cards ≡ cards')
says_same deck us us' cards cards' s t =
    let w = operands_same deck s.before t.before s.u t.u s.fs t.fs s.operands t.operands in (
      u_once t.u us us' (subst (λ (z : List ℕ). UText z us) w.1 s.says_u) t.says_u,
      both_same fs_once s.says_fs (rw w.2 t.says_fs),
    )

-- the deck says this, and nothing is missing; and nothing stands twice
abbrev pub AsksFor : List ℕ → Asked → Type 0
AsksFor deck a = (us : List Parameter) × Says deck us a.cards × Complete us a.utility

abbrev pub AsksOnce : List ℕ → Asked → Type 0
AsksOnce deck a = (us : List Parameter) × Says deck us a.cards × Complete us a.utility × (Twice us → ⊥)

pub asked_once : (deck : List ℕ) (a b : Asked) → AsksFor deck a → AsksOnce deck b → a ≡ b
asked_once deck a b (us, s, f) (us', t, g, once) =
    let w = says_same deck us us' a.cards b.cards s t in
    let e = complete_same us' a.utility b.utility once (subst (λ (z : List Parameter). Complete z a.utility) w.0 f) g in
    λ k. record { utility = e k; cards = w.1 k }

module _ (deck : List ℕ) (more : ℕ → ℕ → Type 0) where
  abbrev Rows : ℕ → ℕ → Type 0
  Rows = CardRows deck more

  clear_start : Clear Rows 1 0
  clear_start = (λ q l. absurd (not-suc-le-zero l), λ m q l r. let e : m ≡ 0 = omega arith in subst (λ (k : ℕ). Rows k q) e r)

  -- ---- rows 1 and 2

  cards_of_lem : (cs : List Card) → cards_from 1 (lines deck) ≡ fine cs → CardsAre deck cs
  cards_of_lem cs e = both_map (λ l c q. (card_exactly l c).0 q) (reads_fine 1 card_of 1 (lines deck) cs e)

  upto_operands : Upto Rows 3 0 (operands_of deck)
  unfolding operands_of
  upto_operands =
      upto_bind Rows 2 0 3 0 (cards_from 1 (lines deck)) ordered
      (stage Rows 1 0 _ (cards_from 1 (lines deck)) (reads_outcome 1 card_of 1 (lines deck)) clear_start (λ p f. found_map no_card_text f) (λ p l r. found_map text_no_card r))
      (λ cs e c.
      stage Rows 2 0 (Fault cs) (ordered cs) (order_outcome cs) c (λ p f. (cs, cards_of_lem cs e, f))
      (λ p l r. subst (λ (z : List Card). Fault z p) (cards_same deck r.0 cs r.1 (cards_of_lem cs e)) r.2))

  pub operands_of_lem : (os : Ordered) → operands_of deck ≡ fine os → OperandsAre deck os.before os.u os.fs
  unfolding operands_of
  operands_of_lem os e =
      let w = bind_fine (cards_from 1 (lines deck)) ordered os e in
      subst (CardsAre deck) (order_fine w.0 os w.2) (cards_of_lem w.0 w.1)

  -- ---- row 3

  module _ (os : Ordered) (o : OperandsAre deck os.before os.u os.fs) where
    abbrev Bad : ℕ → List ℕ → List (List ℕ) → Type 0
    Bad p u fs = ((p ≡ 1) × ((us : List Parameter) → UText u us → ⊥)) ⊎ Found (λ o. (is : List Item) → FsText o is → ⊥) p 2 fs

    row3 : (p : ℕ) → Row3 deck p → Bad p os.u os.fs
    row3 p r =
        let w = operands_same deck r.0 os.before r.1 os.u r.2 os.fs r.3 o in
        subst (λ (z : List ℕ). Bad p z os.fs) w.1 (subst (λ (z : List (List ℕ)). Bad p r.1 z) w.2 r.4)

    upto_u : Clear Rows 3 0 → Upto Rows 3 2 (grammatical 1 os.before os.u (u_operand os.u))
    upto_u c =
        stage_to Rows 3 0 2 _ (grammatical 1 os.before os.u (u_operand os.u)) (grammatical_outcome 1 os.before os.u (u_operand os.u)) c
        (λ p f. ((os.before, os.u, os.fs, o, inl (f.0, stops_text u_operand UText u_exactly u_left os.u f.1)), omega (arith, f.0)))
        (λ p l h r. go p h (row3 p r))
      where
        go : (p : ℕ) → p < 2 → Bad p os.u os.fs → (p ≡ 1) × Stops (u_operand os.u)
        go p h (inl x) = (x.0, text_stops u_operand UText u_exactly u_left os.u x.1)
        go p h (inr f) = absurd (omega (arith, found_low f))

    upto_fs : Clear Rows 3 2 → Upto Rows 4 0 (items_from 2 os.fs)
    upto_fs c =
        stage Rows 3 2 _ (items_from 2 os.fs) (items_outcome 2 os.fs) c
        (λ p f. (os.before, os.u, os.fs, o, inr (found_map (stops_text fs_operand FsText fs_exactly fs_left) f))) (λ p l r. go p l (row3 p r))
      where
        go : (p : ℕ) → 2 ≤ p → Bad p os.u os.fs → Found (λ o. Stops (fs_operand o)) p 2 os.fs
        go p h (inl x) = absurd (omega (arith, x.0))
        go p h (inr f) = found_map (text_stops fs_operand FsText fs_exactly fs_left) f

    upto_cards : Clear Rows 3 0 → Upto Rows 4 0 (cards_of os)
    unfolding cards_of
    upto_cards c =
        upto_bind Rows 3 2 4 0 _ _ (upto_u c) (λ us e1 c1.
        upto_bind Rows 4 0 4 0 _ _ (upto_fs c1) (λ is e2 c2. c2))

    pub says_of : (c : Said) → cards_of os ≡ fine c → Says deck c.parameters c.items
    unfolding cards_of
    says_of c e =
        let s1 = bind_fine (grammatical 1 os.before os.u (u_operand os.u)) _ c e in
        let s2 = bind_fine (items_from 2 os.fs) _ c s1.2 in
        let u = grammatical_fine 1 os.before os.u (u_operand os.u) s1.0 s1.1 in
        subst (λ (z : Said). Says deck z.parameters z.items) (fine_same _ c s2.2)
        (record {
          before = os.before;
          u = os.u;
          fs = os.fs;
          operands = o;
          says_u = read_text u_operand UText u_exactly u_left os.u s1.0 u.0 u.1;
          says_fs = both_map (λ o is w. read_text fs_operand FsText fs_exactly fs_left o is w.0 w.1) (items_fine 2 os.fs s2.0 s2.1);
        })

  -- ---- rows 4 to 6

  module _ (us : List Parameter) (cards : List (List Item)) (s : Says deck us cards) where
    -- what holds of what the deck says holds of these
    carry : (T : List Parameter → List (List Item) → Type 0) (us' : List Parameter) (cards' : List (List Item)) → Says deck us' cards' → T us' cards' → T us cards
    carry T us' cards' t x =
        let w = says_same deck us' us cards' cards t s in
        subst (λ (z : List Parameter). T z cards) w.0 (subst (λ (z : List (List Item)). T us' z) w.1 x)

    row4 : (p : ℕ) → Row4 deck p → ((p ≡ 1) × Twice us) ⊎ CardOf cvs 2 cards p
    row4 p r = carry (λ us cards. ((p ≡ 1) × Twice us) ⊎ CardOf cvs 2 cards p) r.0 r.1 r.2 r.3

    upto_twice : Clear Rows 4 0 → Upto Rows 4 2 (unless (distinct (map letter us)) 4 1)
    upto_twice c =
        stage_to Rows 4 0 2 _ (unless (distinct (map letter us)) 4 1) (unless_outcome (distinct (map letter us)) 4 1) c
        (λ p f. ((us, cards, s, inl (f.0, twice_of us f.1)), omega (arith, f.0))) (λ p l h r. go p h (row4 p r))
      where
        go : (p : ℕ) → p < 2 → ((p ≡ 1) × Twice us) ⊎ CardOf cvs 2 cards p → (p ≡ 1) × (distinct (map letter us) ≡ false)
        go p h (inl x) = (x.0, of_twice us x.1)
        go p h (inr f) = absurd (omega (arith, f.place))

    upto_cvs : Clear Rows 4 2 → Upto Rows 5 0 (up_to 4 1 cvs 0 2 cards)
    upto_cvs c = stage Rows 4 2 _ (up_to 4 1 cvs 0 2 cards) (up_to_outcome 4 1 cvs cards) c (λ p f. (us, cards, s, inr f)) (λ p l r. go p l (row4 p r))
      where
        go : (p : ℕ) → 2 ≤ p → ((p ≡ 1) × Twice us) ⊎ CardOf cvs 2 cards p → CardOf cvs 2 cards p
        go p h (inl x) = absurd (omega (arith, x.0))
        go p h (inr f) = f

    upto_complete : Clear Rows 5 0 → Upto Rows 6 0 (complete (given us))
    upto_complete c =
        stage Rows 5 0 _ (complete (given us)) (missing_outcome us) c (λ p f. (us, cards, s, f.0, f.1))
        (λ p l r. carry (λ us cards. (p ≡ 1) × Missing us) r.0 r.1 r.2 (r.3, r.4))

    upto_count : Clear Rows 6 0 → Upto Rows 7 0 (up_to 6 64 (λ c. length (fields_of c)) 0 2 cards)
    upto_count c =
        stage Rows 6 0 _ (up_to 6 64 (λ c. length (fields_of c)) 0 2 cards) (up_to_outcome 6 64 (λ c. length (fields_of c)) cards) c (λ p f. (us, cards, s, f))
        (λ p l r. carry (λ us cards. CardOf (λ c. length (fields_of c)) 65 cards p) r.0 r.1 r.2 r.3)

    -- ---- row 7

    module _ (u : Utility) (full : Complete us u) (single : Twice us → ⊥) where
      abbrev Outside : ℕ → Utility → List (List Item) → Type 0
      Outside p u cards = ((p ≡ 1) × (UtilityWithin u → ⊥)) ⊎ Found (λ c. Some (λ f. FieldWithin f.field → ⊥) (fields_of c)) p 2 cards

      row7 : (p : ℕ) → Row7 deck p → Outside p u cards
      row7 p r =
          subst (λ (z : Asked). Outside p z.utility z.cards)
          (asked_once deck (record { utility = r.3; cards = r.1 }) (record { utility = u; cards = cards }) (r.0, r.2, r.4) (us, s, full, single)) r.5

      upto_sizes : Clear Rows 7 0 → Upto Rows 7 2 (unless (utility_limits u) 7 1)
      upto_sizes c =
          stage_to Rows 7 0 2 _ (unless (utility_limits u) 7 1) (unless_outcome (utility_limits u) 7 1) c
          (λ p f. ((us, cards, s, u, full, inl (f.0, fails (utility_limits u) (utility_within u) f.1)), omega (arith, f.0)))
          (λ p l h r. go p h (row7 p r))
        where
          go : (p : ℕ) → p < 2 → Outside p u cards → (p ≡ 1) × (utility_limits u ≡ false)
          go p h (inl x) = (x.0, failing (utility_limits u) (utility_within u) x.1)
          go p h (inr f) = absurd (omega (arith, found_low f))

      upto_fields : Clear Rows 7 2 → Upto Rows 8 0 (each 7 (λ c. every field_limits (fields_of c)) 2 cards)
      upto_fields c =
          stage Rows 7 2 _ (each 7 (λ c. every field_limits (fields_of c)) 2 cards) (each_outcome 7 (λ c. every field_limits (fields_of c)) 2 cards) c
          (λ p f. (us, cards, s, u, full, inr (found_map (λ c e. some_map (λ f q. fails (field_limits f) (field_within f) q) (every_some field_limits (fields_of c) e)) f)))
          (λ p l r. go p l (row7 p r))
        where
          go : (p : ℕ) → 2 ≤ p → Outside p u cards → Found (λ c. every field_limits (fields_of c) ≡ false) p 2 cards
          go p h (inl x) = absurd (omega (arith, x.0))
          go p h (inr f) = found_map (λ c e. some_every field_limits (fields_of c) (some_map (λ f q. failing (field_limits f) (field_within f) q) e)) f

      upto_limits : (os : Ordered) → Clear Rows 6 0 → Upto Rows 8 0 (limits os (record { parameters = us; items = cards }) u)
      unfolding limits
      upto_limits os c =
          upto_then Rows 7 0 8 0 _ _ (upto_count c) (λ e1 c1.
          upto_then Rows 7 2 8 0 _ _ (upto_located Rows 7 2 _ (unless (utility_limits u) 7 1) (upto_sizes c1)) (λ e2 c2.
          upto_located Rows 8 0 _ (each 7 (λ c. every field_limits (fields_of c)) 2 cards) (upto_fields c2)))

  upto_once : (os : Ordered) (c : Said) → Says deck c.parameters c.items → Clear Rows 4 0 → Upto Rows 5 0 (once os c)
  unfolding once
  upto_once os c s k =
      upto_then Rows 4 2 5 0 _ _ (upto_located Rows 4 2 _ (unless (distinct (map letter c.parameters)) 4 1) (upto_twice c.parameters c.items s k)) (λ e k1.
      upto_located Rows 5 0 _ (up_to 4 1 cvs 0 2 c.items) (upto_cvs c.parameters c.items s k1))

  pub not_twice : (os : Ordered) (c : Said) → once os c ≡ fine tt → Twice c.parameters → ⊥
  unfolding once
  not_twice os c e t = true≢false (sym (unless_fine (distinct (map letter c.parameters)) 4 1 (located_fine _ _ tt (then_fine _ _ tt e).0)) ∙ of_twice c.parameters t)

  -- ---- all of them

  pub upto_asked : Upto Rows 8 0 (asked_of deck)
  unfolding asked_of
  upto_asked =
      upto_bind Rows 3 0 8 0 _ _ upto_operands (λ os e1 c1. let o = operands_of_lem os e1 in
      upto_bind Rows 4 0 8 0 _ _ (upto_cards os o c1) (λ c e2 c2. let s = says_of os o c e2 in
      upto_then Rows 5 0 8 0 _ _ (upto_once os c s c2) (λ e3 c3.
      upto_bind Rows 6 0 8 0 _ _ (upto_complete c.parameters c.items s c3) (λ u e4 c4. let f = complete_fine c.parameters u e4 in
      upto_then Rows 8 0 8 0 _ _ (upto_limits c.parameters c.items s u f (not_twice os c e3) os c4) (λ e5 c5. c5)))))

  -- what is asked is what the deck says
  pub asked_says : (a : Asked) → asked_of deck ≡ fine a → AsksOnce deck a
  unfolding asked_of
  asked_says a e =
      let s1 = bind_fine (operands_of deck) _ a e in
      let s2 = bind_fine (cards_of s1.0) _ a s1.2 in
      let s3 = then_fine (once s1.0 s2.0) _ a s2.2 in
      let s4 = bind_fine (complete (given s2.0.parameters)) _ a s3.1 in
      let s5 = then_fine (limits s1.0 s2.0 s4.0) _ a s4.2 in
      let s = says_of s1.0 (operands_of_lem s1.0 s1.1) s2.0 s2.1 in
      let f = complete_fine s2.0.parameters s4.0 s4.1 in
      subst (AsksOnce deck) (fine_same _ a s5.1) (s2.0.parameters, s, f, not_twice s1.0 s2.0 s3.0)
