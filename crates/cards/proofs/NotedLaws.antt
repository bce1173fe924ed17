-- What is noted once so many cards are read: how many fields there are, the card of CV, and the cards that refusals 4, 6 and 7 name. It is kept by a card
-- more, and by a field or a CV more on the last card.
use mathlib.Core.Path.{◌≡◌, refl, ap, sym, ◌∙◌}
use mathlib.Core.Bool.{Bool, true, false, cond, ◌&&◌, and-true, and-false}
use mathlib.Core.List.{List, [], ◌∷◌, ◌++◌, append-nil, append_assoc}
use Prim.Native.Nat.{ℕ, ◌+◌, ◌≤◌, ◌<◌, min}
use native.Mathlib.Omega.{arith}
use lib.Dec.{ltb, eqb}
use lib.ListN.{length, length-append}
use borrow.Author.Tests.{ltb-true, ltb-false, eqb-true, eqb-false}
use Rattle.rules.specs.Base.{joined, every}
use Rattle.rules.specs.Answer.{each}
use Rattle.rules.specs.Grammar.{Part, in_data, in_key, CardField, Item, field, cv}
use Rattle.rules.specs.Asked.{fields_of, cvs, up_to, field_limits}
use Rattle.rules.specs.Plan.{is_key, key_fields}
use Rattle.rules.specs.Rows.{on_all_cards}
use Rattle.rules.proofs.Base.Lists.{every_append, joined_last}
use Rattle.rules.proofs.Deck.AcceptedLaws.{fields_append, cvs_append}
use Rattle.rules.proofs.Deck.CardSteps.{noted, total_last, total_fields, total_cvs, up_to_empty, noted_equal, noted_within, noted_over, each_empty, noted_same, noted_fails}
use Rattle.terms.specs.Meaning.{cv_card, key_card}
use Rattle.terms.proofs.PlanOf.{cv_said}
use Rattle.cards.specs.declared.Noted.{Noted}
use Rattle.cards.specs.Selected.{nothing_noted, field_counted, key_noted, beyond_noted, field_noted, second_noted, cv_noted}
use Rattle.cards.proofs.ListSteps.{no_field_lem, keys_append, first_empty, first_same, first_more}

-- all fields of the cards
abbrev pub all_fields : List (List Item) → List CardField
all_fields cs = fields_of (joined cs)

-- how many fields stand on a card, and whether their numbers are within their limits
abbrev pub many_fields : List Item → ℕ
many_fields c = length (fields_of c)

abbrev pub limited : List Item → Bool
limited c = every field_limits (fields_of c)

-- how many fields on a card are taken from the key
abbrev pub keys_on : List Item → ℕ
keys_on c = key_fields (fields_of c)

-- what is noted of these cards
pub record Tells (n : Noted) (cs : List (List Item)) : Type 0 where
  pub count : n.count ≡ min 64 (length (all_fields cs))
  pub over : noted 6 n.sixty_fifth ≡ up_to 6 64 many_fields 0 2 cs
  pub cv : n.cv ≡ cv_card 2 cs
  pub keyed : n.keyed ≡ key_card 2 cs
  pub twice : noted 4 n.second_cv ≡ up_to 4 1 cvs 0 2 cs
  pub beyond : noted 7 n.beyond ≡ each 7 limited 2 cs

-- no card yet
pub tells_none : (key : ℕ) → Tells (nothing_noted key) []
unfolding each
tells_none key = record { count = refl; over = refl; cv = refl; keyed = refl; twice = refl; beyond = refl }

-- ---- a card more

pub no_items : (cs : List (List Item)) → joined (cs ++ ([] ∷ [])) ≡ joined cs
no_items cs = joined_last cs [] ∙ append-nil (joined cs)

pub tells_card : (n : Noted) (cs : List (List Item)) → Tells n cs → Tells n (cs ++ ([] ∷ []))
tells_card n cs h =
    record {
      count = h.count ∙ sym (ap (λ (l : List Item). min 64 (length (fields_of l))) (no_items cs));
      over = h.over ∙ sym (up_to_empty 6 64 many_fields cs refl);
      cv = h.cv ∙ sym (first_empty cvs cs refl);
      keyed = h.keyed ∙ sym (first_empty keys_on cs refl);
      twice = h.twice ∙ sym (up_to_empty 4 1 cvs cs refl);
      beyond = h.beyond ∙ sym (each_empty 7 limited cs refl);
    }

-- ---- a field more

module _ (cs : List (List Item)) (c : List Item) where
  abbrev pub with_last : List (List Item)
  with_last = cs ++ (c ∷ [])

  abbrev pub with_more : Item → List (List Item)
  with_more i = cs ++ ((c ++ (i ∷ [])) ∷ [])

  joined_more : (i : Item) → joined (with_more i) ≡ joined with_last ++ (i ∷ [])
  joined_more i =
      joined_last cs (c ++ (i ∷ [])) ∙ sym (append_assoc (joined cs) c (i ∷ [])) ∙ sym (ap (λ (l : List Item). l ++ (i ∷ [])) (joined_last cs c))

  pub more_fields : (f : CardField) → all_fields (with_more (field f)) ≡ all_fields with_last ++ (f ∷ [])
  more_fields f = ap fields_of (joined_more (field f)) ∙ fields_append (joined with_last) (field f ∷ [])

  pub same_fields : all_fields (with_more cv) ≡ all_fields with_last
  same_fields = ap fields_of (joined_more cv) ∙ no_field_lem (joined with_last)

  abbrev pub card : ℕ
  card = 2 + length cs

  module _ (n : Noted) (h : Tells n with_last) (f : CardField) where
    many : length (all_fields (with_more (field f))) ≡ length (all_fields with_last) + 1
    many = ap length (more_fields f) ∙ length-append (all_fields with_last) (f ∷ [])

    one_more : many_fields (c ++ (field f ∷ [])) ≡ many_fields c + 1
    one_more = ap length (fields_append c (field f ∷ [])) ∙ length-append (fields_of c) (f ∷ [])

    -- what the field's numbers do not touch, and the card k of the first field that is taken from the key
    record Counted (x : Noted) (k : ℕ) : Type 0 where
      keyed : x.keyed ≡ k
      count : x.count ≡ min 64 (length (all_fields (with_more (field f))))
      over : noted 6 x.sixty_fifth ≡ up_to 6 64 many_fields 0 2 (with_more (field f))
      cv : x.cv ≡ n.cv
      twice : x.second_cv ≡ n.second_cv
      beyond : x.beyond ≡ n.beyond

    tells_counted : Counted (field_counted n card) n.keyed
    unfolding field_counted
    tells_counted = go (ltb n.count 64) refl
      where
        total_more : on_all_cards many_fields (with_more (field f)) ≡ length (all_fields with_last) + 1
        total_more = total_fields (with_more (field f)) ∙ many

        go : (t : Bool) → ltb n.count 64 ≡ t → Counted (field_counted n card) n.keyed
        go true e =
            let l : n.count < 64 = ltb-true n.count 64 e in
            rw e (record {
              count = omega (arith, many, h.count);
              over = noted_within 6 64 many_fields n.sixty_fifth cs c (c ++ (field f ∷ [])) h.over (omega (arith, one_more)) (omega (arith, total_more, h.count));
              cv = refl;
              keyed = refl;
              twice = refl;
              beyond = refl;
            })
        go false e =
            let l : 64 ≤ n.count = ltb-false n.count 64 e in
            rw e (record {
              count = omega (arith, many, h.count);
              over = noted_over 6 64 many_fields n.sixty_fifth cs c (c ++ (field f ∷ [])) h.over (omega (arith, total_more, h.count));
              cv = refl;
              keyed = refl;
              twice = refl;
              beyond = refl;
            })

    -- the first field that is taken from the key
    keys_more : keys_on (c ++ (field f ∷ [])) ≡ keys_on c + key_fields (f ∷ [])
    keys_more = ap key_fields (fields_append c (field f ∷ [])) ∙ keys_append (fields_of c) (f ∷ [])

    abbrev Named : Noted → Type 0
    Named x = Counted x (key_card 2 (with_more (field f)))

    tells_named : (x : Noted) → Counted x n.keyed → Named (key_noted x card f.part)
    tells_named x p = go f.part refl
      where
        go : (q : Part) → f.part ≡ q → Named (key_noted x card q)
        go in_data e =
            let none : key_fields (f ∷ []) ≡ 0 = ap (λ (k : Part). cond (is_key k) 1 0 + 0) e in
            record {
              count = p.count;
              over = p.over;
              cv = p.cv;
              keyed = p.keyed ∙ h.keyed ∙ sym (first_same keys_on cs c (c ++ (field f ∷ [])) (omega (arith, keys_more, none)));
              twice = p.twice;
              beyond = p.beyond;
            }
        go in_key e =
            let one : key_fields (f ∷ []) ≡ 1 = ap (λ (k : Part). cond (is_key k) 1 0 + 0) e in
            record {
              count = p.count;
              over = p.over;
              cv = p.cv;
              keyed =
                  ap (λ (k : ℕ). cond (eqb k 0) card k) (p.keyed ∙ h.keyed) ∙ sym (first_more keys_on cs c (c ++ (field f ∷ [])) (omega (arith, keys_more, one)));
              twice = p.twice;
              beyond = p.beyond;
            }

    limited_more : limited (c ++ (field f ∷ [])) ≡ (limited c && field_limits f)
    limited_more =
        ap (every field_limits) (fields_append c (field f ∷ []))
        ∙ every_append field_limits (fields_of c) (f ∷ [])
        ∙ ap (λ (t : Bool). limited c && t) (and-true (field_limits f))

    cvs_same : cvs (c ++ (field f ∷ [])) ≡ cvs c
    cvs_same = omega (arith, cvs_append c (field f ∷ []))

    -- the field's numbers are within their limits exactly if no column is given
    pub tells_field : (outside : ℕ) → eqb outside 0 ≡ field_limits f → Tells (field_noted n card f.part outside) (with_more (field f))
    unfolding field_noted
    tells_field outside fair = go (tells_named (field_counted n card) tells_counted) (eqb outside 0) refl
      where
        twice_same : (x : Noted) → Named x → noted 4 x.second_cv ≡ up_to 4 1 cvs 0 2 (with_more (field f))
        twice_same x p = ap (noted 4) p.twice ∙ noted_equal 4 1 cvs n.second_cv cs c (c ++ (field f ∷ [])) h.twice cvs_same

        cv_same : (x : Noted) → Named x → x.cv ≡ cv_card 2 (with_more (field f))
        cv_same x p = p.cv ∙ h.cv ∙ sym (first_same cvs cs c (c ++ (field f ∷ [])) cvs_same)

        fails : eqb outside 0 ≡ false → noted 7 (cond (eqb n.beyond 0) card n.beyond) ≡ each 7 limited 2 (with_more (field f))
        fails e =
            noted_fails 7 limited n.beyond cs c (c ++ (field f ∷ [])) h.beyond
            (limited_more ∙ ap (λ (t : Bool). limited c && t) (sym fair ∙ e) ∙ and-false (limited c))

        go : Named (key_noted (field_counted n card) card f.part) → (t : Bool) → eqb outside 0 ≡ t → Tells (field_noted n card f.part outside) (with_more (field f))
        go p true e =
            rw e (record {
              count = p.count;
              over = p.over;
              cv = cv_same _ p;
              keyed = p.keyed;
              twice = twice_same _ p;
              beyond =
                  ap (noted 7) p.beyond
                  ∙ noted_same 7 limited n.beyond cs c (c ++ (field f ∷ [])) h.beyond (limited_more ∙ ap (λ (t : Bool). limited c && t) (sym fair ∙ e) ∙ and-true (limited c));
            })
        go p false e = rw e (by (eqb n.beyond 0) refl)
          where
            by : (t : Bool) → eqb n.beyond 0 ≡ t → Tells (cond (eqb n.beyond 0) (beyond_noted (key_noted (field_counted n card) card f.part) card outside) (key_noted (field_counted n card) card f.part)) (with_more (field f))
            by true t = rw t (record { count = p.count; over = p.over; cv = cv_same _ p; keyed = p.keyed; twice = twice_same _ p; beyond = ap (λ (b : Bool). noted 7 (cond b card n.beyond)) (sym t) ∙ fails e })
            by false t =
                rw t (record {
                  count = p.count;
                  over = p.over;
                  cv = cv_same _ p;
                  keyed = p.keyed;
                  twice = twice_same _ p;
                  beyond = ap (noted 7) p.beyond ∙ ap (λ (b : Bool). noted 7 (cond b card n.beyond)) (sym t) ∙ fails e;
                })

  -- ---- a CV more

  module _ (n : Noted) (h : Tells n with_last) where
    cv_total : on_all_cards cvs (with_more cv) ≡ cvs (joined with_last) + 1
    cv_total = omega (arith, total_last cvs cs (c ++ (cv ∷ [])), total_last cvs cs c, total_cvs with_last, cvs_append c (cv ∷ []))

    -- a CV stands on a card exactly if its card is noted
    cv_known : eqb n.cv 0 ≡ eqb (cvs (joined with_last)) 0
    cv_known = ap (λ (k : ℕ). eqb k 0) h.cv ∙ cv_said 2 (omega arith) with_last

    more_cv : cv_card 2 (with_more cv) ≡ cond (eqb n.cv 0) card n.cv
    more_cv = first_more cvs cs c (c ++ (cv ∷ [])) (omega (arith, cvs_append c (cv ∷ []))) ∙ sym (ap (λ (k : ℕ). cond (eqb k 0) card k) h.cv)

    pub tells_cv : (column : ℕ) → Tells (cv_noted n card column) (with_more cv)
    unfolding cv_noted
    tells_cv column = go (eqb n.cv 0) refl
      where
        count : n.count ≡ min 64 (length (all_fields (with_more cv)))
        count = h.count ∙ sym (ap (λ (l : List CardField). min 64 (length l)) same_fields)

        over : noted 6 n.sixty_fifth ≡ up_to 6 64 many_fields 0 2 (with_more cv)
        over = noted_equal 6 64 many_fields n.sixty_fifth cs c (c ++ (cv ∷ [])) h.over (ap length (no_field_lem c))

        beyond : noted 7 n.beyond ≡ each 7 limited 2 (with_more cv)
        beyond = noted_same 7 limited n.beyond cs c (c ++ (cv ∷ [])) h.beyond (ap (every field_limits) (no_field_lem c))

        keyed : n.keyed ≡ key_card 2 (with_more cv)
        keyed = h.keyed ∙ sym (first_same keys_on cs c (c ++ (cv ∷ [])) (ap key_fields (no_field_lem c)))

        go : (t : Bool) → eqb n.cv 0 ≡ t → Tells (cv_noted n card column) (with_more cv)
        go true e =
            let z : cvs (joined with_last) ≡ 0 = eqb-true (cvs (joined with_last)) 0 (sym cv_known ∙ e) in
            rw e (record {
              count = count;
              over = over;
              cv = sym (more_cv ∙ ap (λ (t : Bool). cond t card n.cv) e);
              keyed = keyed;
              twice = noted_within 4 1 cvs n.second_cv cs c (c ++ (cv ∷ [])) h.twice (omega (arith, cvs_append c (cv ∷ []))) (omega (arith, cv_total));
              beyond = beyond;
            })
        go false e = rw e (by (eqb n.second_cv 0) refl)
          where
            some : (k : ℕ) → (k ≡ 0 → ⊥) → 1 ≤ k
            some k q = omega arith

            second : noted 4 (cond (eqb n.second_cv 0) card n.second_cv) ≡ up_to 4 1 cvs 0 2 (with_more cv)
            second =
                let z : 1 ≤ cvs (joined with_last) = some (cvs (joined with_last)) (eqb-false (cvs (joined with_last)) 0 (sym cv_known ∙ e)) in
                noted_over 4 1 cvs n.second_cv cs c (c ++ (cv ∷ [])) h.twice (omega (arith, cv_total))

            same_cv_lem : n.cv ≡ cv_card 2 (with_more cv)
            same_cv_lem = sym (more_cv ∙ ap (λ (t : Bool). cond t card n.cv) e)

            by : (t : Bool) → eqb n.second_cv 0 ≡ t → Tells (cond (eqb n.second_cv 0) (second_noted n card column) n) (with_more cv)
            by true t =
                rw t (record { count = count; over = over; cv = same_cv_lem; keyed = keyed; twice = ap (λ (b : Bool). noted 4 (cond b card n.second_cv)) (sym t) ∙ second; beyond = beyond })
            by false t =
                rw t (record { count = count; over = over; cv = same_cv_lem; keyed = keyed; twice = ap (λ (b : Bool). noted 4 (cond b card n.second_cv)) (sym t) ∙ second; beyond = beyond })
