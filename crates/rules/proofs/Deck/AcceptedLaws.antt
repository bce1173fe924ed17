-- The plan of a deck that is accepted satisfies every sentence that could have refused it: each step of the answer was fine, so its test held.
use mathlib.Core.Path.{◌≡◌, refl, ap, sym, ◌∙◌, subst}
use mathlib.Core.Bool.{Bool, true, false, not, ◌||◌, true≢false, false≢true}
use mathlib.Core.List.{List, [], ◌∷◌, ◌++◌, map}
use Prim.Native.Nat.{ℕ, suc, ◌+◌, ◌≤◌, ◌<◌}
use native.Mathlib.Nat.{zero-add}
use native.Mathlib.Omega.{arith}
use lib.Dec.{leb, eqb}
use lib.ListN.{length, length-append, length-map}
use borrow.Author.Tests.{leb-true, eqb-true, eqb-false}
use Rattle.rules.specs.Base.{every, is_empty, joined}
use Rattle.rules.specs.Places.{All, no_more, also}
use Rattle.rules.specs.Answer.{fine}
use Rattle.rules.specs.Grammar.{Format, ff, fv, fu, fsp, Input, Parameter, CardField, Item, field, cv}
use Rattle.rules.specs.Order.{Operands}
use Rattle.rules.specs.Asked.{Asked, asked_of, limits, fields_of, cvs, up_to, field_limits}
use Rattle.rules.specs.Permitted.{choices}
use Rattle.rules.specs.Plan.{Plan, assembled, plan_of, combined, sound, selects, is_fv, record_length, key_length, part_length, through, is_keyed, key_fields, key_fits, card_fits, inside_part, input_halves, allowed, barren_half}
use Rattle.rules.specs.Rows.{UtilityWithin, FieldWithin}
use Rattle.rules.specs.Accepted.{Accepted}
use Rattle.rules.proofs.Base.Tests.{and_left, and_right, every_all}
use Rattle.rules.proofs.Base.AllLaws.{all_append, all_imply, all_map, all_both, all_with, all_of}
use Rattle.rules.proofs.Refusals.AnswerLaws.{not_fine, fine_same, bind_fine, then_fine, located_fine, unless_fine, each_fine}
use Rattle.rules.proofs.Base.Search.{first_none}
use Rattle.rules.proofs.Keys.KeyLaws.{no_key_field, joined_within, Joined, Named, through_joined}
use Rattle.rules.proofs.Deck.LimitLaws.{utility_within, field_within, inside_exactly, required_exactly}

-- ---- the fields of all cards

pub fields_append : (x y : List Item) → fields_of (x ++ y) ≡ fields_of x ++ fields_of y
fields_append [] y = refl
fields_append (field f ∷ x) y = ap (f ∷◌) (fields_append x y)
fields_append (cv ∷ x) y = fields_append x y

pub cvs_append : (x y : List Item) → cvs (x ++ y) ≡ cvs x + cvs y
cvs_append [] y = sym (zero-add _)
cvs_append (field f ∷ x) y = cvs_append x y
cvs_append (cv ∷ x) y = omega (arith, cvs_append x y)

pub all_fields_lem : (q : CardField → Bool) (cards : List (List Item)) → All (λ c. every q (fields_of c) ≡ true) cards → All (λ f. q f ≡ true) (fields_of (joined cards))
all_fields_lem q [] a = no_more
all_fields_lem q (c ∷ cards) (also p a) = rw (fields_append c (joined cards)) (all_append (every_all q (fields_of c) p) (all_fields_lem q cards a))

-- what a count over cards that stays within its limit says of all cards together
few_fields : (c limit before i : ℕ) (cards : List (List Item)) → before ≤ limit → up_to c limit (λ card. length (fields_of card)) before i cards ≡ fine tt
    → before + length (fields_of (joined cards)) ≤ limit
few_fields c limit before i [] h e = omega arith
few_fields c limit before i (card ∷ cards) h e = go (λ l e'. few_fields c limit (before + length (fields_of card)) (suc i) cards l e') (leb (before + length (fields_of card)) limit) refl
  where
    go : (before + length (fields_of card) ≤ limit → up_to c limit (λ x. length (fields_of x)) (before + length (fields_of card)) (suc i) cards ≡ fine tt
        → before + length (fields_of card) + length (fields_of (joined cards)) ≤ limit)
        → (t : Bool) → leb (before + length (fields_of card)) limit ≡ t → before + length (fields_of (joined (card ∷ cards))) ≤ limit
    go ih true t =
        omega (arith, ih (leb-true (before + length (fields_of card)) limit t) (rw t at e), ap length (fields_append card (joined cards)), length-append (fields_of card) (fields_of (joined cards)))
    go ih false t = absurd (not_fine _ tt (rw t at e))

-- CV on no card
no_cv_lem : (cards : List (List Item)) → All (λ c. eqb (cvs c) 0 ≡ true) cards → cvs (joined cards) ≡ 0
no_cv_lem [] a = refl
no_cv_lem (c ∷ cards) (also p a) = omega (arith, cvs_append c (joined cards), eqb-true (cvs c) 0 p, no_cv_lem cards a)

-- ---- the steps of the answer

-- nothing outside its limits was asked for
abbrev pub Limited : Asked → Type 0
Limited a = (os : Operands) × (us : List Parameter) × (limits os (record { parameters = us; items = a.cards }) a.utility ≡ fine tt)

record Steps (zone : ℕ) (p : Plan) : Type 0 where
  asked : Asked
  is : assembled zone asked ≡ p
  limited : Limited asked
  combines : combined zone asked ≡ fine tt

pub limited_of : (deck : List ℕ) (a : Asked) → asked_of deck ≡ fine a → Limited a
unfolding asked_of
limited_of deck a e =
    let s1 = bind_fine _ _ a e in
    let s2 = bind_fine _ _ a s1.2 in
    let s3 = then_fine _ _ a s2.2 in
    let s4 = bind_fine _ _ a s3.1 in
    let s5 = then_fine _ _ a s4.2 in
    let q = fine_same _ a s5.1 in
    subst Limited q (s1.0, s2.0.parameters, s5.0)

steps : (zone : ℕ) (deck : List ℕ) (p : Plan) → plan_of zone deck ≡ fine p → Steps zone p
unfolding plan_of
steps zone deck p e =
    let s1 = bind_fine _ _ p e in
    let s2 = then_fine _ _ p s1.2 in
    record { asked = s1.0; is = fine_same _ p s2.1; limited = limited_of deck s1.0 s1.1; combines = s2.0 }

-- ---- what each step says

module _ (a : Asked) (w : Limited a) where
  limits_few : length (fields_of (joined a.cards)) ≤ 64
  unfolding limits
  limits_few = let s1 = then_fine _ _ tt w.2 in omega (arith, few_fields 6 64 0 2 a.cards (omega arith) s1.0)

  pub limits_utility : UtilityWithin a.utility
  unfolding limits
  limits_utility = let s1 = then_fine _ _ tt w.2 in let s2 = then_fine _ _ tt s1.1 in (utility_within a.utility).0 (unless_fine _ 7 1 (located_fine _ _ tt s2.0))

  pub limits_fields : All (λ f. FieldWithin f.field) (fields_of (joined a.cards))
  unfolding limits
  limits_fields =
      let s1 = then_fine _ _ tt w.2 in
      let s2 = then_fine _ _ tt s1.1 in
      all_imply (λ f q. (field_within f).0 q) (all_fields_lem field_limits a.cards (each_fine 7 _ 2 a.cards (located_fine _ _ tt s2.1)))

pub record Combines (zone : ℕ) (a : Asked) : Type 0 where
  pub sounds : sound (assembled zone a) (not (is_empty a.cards)) ≡ true
  pub keys : key_fits a.utility.mode a.utility.format a.utility.input ≡ true
  pub cards_wanted : (selects a.utility.mode || is_empty a.cards) ≡ true
  pub cards_fit : All (λ c. card_fits a.utility.format a.utility.input c ≡ true) a.cards
  pub insides : All (λ f. inside_part a.utility.input a.utility.output f ≡ true) (fields_of (joined a.cards))
  pub barren : barren_half (assembled zone a) ≡ input_halves (assembled zone a)

pub combines : (zone : ℕ) (a : Asked) → combined zone a ≡ fine tt → Combines zone a
unfolding combined
combines zone a e =
    let p = assembled zone a in
    let s1 = then_fine _ _ tt e in
    let s2 = then_fine _ _ tt s1.1 in
    let s3 = then_fine _ _ tt s2.1 in
    let s4 = then_fine _ _ tt s3.1 in
    record {
      sounds = and_left (sound p (not (is_empty a.cards))) _ (unless_fine _ 8 1 s1.0);
      keys = and_right (sound p (not (is_empty a.cards))) _ (unless_fine _ 8 1 s1.0);
      cards_wanted = unless_fine _ 8 2 s2.0;
      cards_fit = each_fine 8 _ 2 a.cards s3.0;
      insides = each_fine 9 _ 1 (fields_of (joined a.cards)) s4.0;
      barren = eqb-true (barren_half p) (input_halves p) (unless_fine _ 10 (barren_half p) s4.1);
    }

no_cards : (cards : List (List Item)) (s : Bool) → (s || is_empty cards) ≡ true → s ≡ false → cards ≡ []
no_cards [] s e q = refl
no_cards (c ∷ cards) true e q = absurd (true≢false q)
no_cards (c ∷ cards) false e q = absurd (false≢true e)

-- CV is given only in FV
carried : (cards : List (List Item)) (f : Format) → All (λ c. (is_fv f || eqb (cvs c) 0) ≡ true) cards → not (eqb (cvs (joined cards)) 0) ≡ true → f ≡ fv
carried cards fv a e = refl
carried cards ff a e = absurd (false≢true (rw (no_cv_lem cards a) at e))
carried cards fu a e = absurd (false≢true (rw (no_cv_lem cards a) at e))
carried cards fsp a e = absurd (false≢true (rw (no_cv_lem cards a) at e))

module _ (f : Format) (i : Input) where
  cv_fits : {cards : List (List Item)} → All (λ c. card_fits f i c ≡ true) cards → All (λ c. (is_fv f || eqb (cvs c) 0) ≡ true) cards
  unfolding card_fits
  cv_fits a = all_imply (λ c e. and_left (is_fv f || eqb (cvs c) 0) _ e) a

  -- and a field is taken from the key only with keys
  pub key_fits_lem : (cards : List (List Item)) → All (λ c. card_fits f i c ≡ true) cards → All (Named i) (fields_of (joined cards))
  unfolding card_fits
  key_fits_lem [] no_more = no_more
  key_fits_lem (c ∷ cards) (also e a) = rw (fields_append c (joined cards)) (all_append (go (is_keyed i) refl) (key_fits_lem cards a))
    where
      go : (t : Bool) → is_keyed i ≡ t → All (Named i) (fields_of c)
      go true t = all_of (λ f n. absurd (true≢false (sym t ∙ n))) (fields_of c)
      go false t =
          let z = eqb-true (key_fields (fields_of c)) 0 (rw t at (and_right (is_fv f || eqb (cvs c) 0) _ e)) in
          all_imply (λ x q n. q) (no_key_field (fields_of c) z)

some_value : (p : Plan) → barren_half p ≡ input_halves p → (i : ℕ) → i < input_halves p → 1 ≤ choices (allowed p) i
unfolding barren_half
some_value p e i l =
    let t = first_none (λ i. eqb (choices (allowed p) i) 0) 0 (input_halves p) (e ∙ sym (zero-add _)) i (omega arith) (omega arith) in
    omega (arith, eqb-false (choices (allowed p) i) 0 t)

-- its fields lie inside key and data joined
pub fields_joined : (zone : ℕ) (a : Asked) → Limited a → Combines zone a
    → All (Joined a.utility.input (record_length a.utility.output)) (map (through (key_length a.utility.input)) (fields_of (joined a.cards)))
unfolding inside_part
fields_joined zone a l c =
    let i = a.utility.input in
    let b = record_length a.utility.output in
    all_map (through (key_length i))
    (all_both (λ f w n. through_joined a.utility.format i b f (limits_utility a l).input w.0 ((inside_exactly (part_length i f.part) b f.field).0 w.1) n)
    (all_with (limits_fields a l) c.insides) (key_fits_lem a.utility.format i a.cards c.cards_fit))

accepted_of : (zone : ℕ) (a : Asked) → Limited a → Combines zone a → Accepted (assembled zone a)
unfolding assembled
accepted_of zone a l c =
    let u = limits_utility a l in
    let fs = fields_of (joined a.cards) in
    let k = through (key_length a.utility.input) in
    let joins = fields_joined zone a l c in
    record {
      few = omega (arith, limits_few a l, length-map fs k);
      input = joined_within a.utility.format a.utility.input u.input;
      output = u.output;
      first = u.first;
      limits = all_imply (λ f j. j.within) joins;
      required = ((required_exactly (assembled zone a) (not (is_empty a.cards))).0 c.sounds).0;
      no_field_lem = λ s. ap (λ (cs : List (List Item)). map k (fields_of (joined cs))) (no_cards a.cards (selects a.utility.mode) c.cards_wanted s);
      no_cv = λ s. ap (λ (cs : List (List Item)). not (eqb (cvs (joined cs)) 0)) (no_cards a.cards (selects a.utility.mode) c.cards_wanted s);
      with_fv = carried a.cards a.utility.format (cv_fits a.utility.format a.utility.input c.cards_fit);
      insides = all_imply (λ f j. j.inside) joins;
      some = some_value (assembled zone a) c.barren;
    }

pub accepted : (zone : ℕ) (deck : List ℕ) (p : Plan) → plan_of zone deck ≡ fine p → Accepted p
accepted zone deck p e =
    let w = steps zone deck p e in
    subst Accepted w.is (accepted_of zone w.asked w.limited (combines zone w.asked w.combines))

zone_assembled : (zone : ℕ) (a : Asked) → (assembled zone a).zone ≡ zone
unfolding assembled
zone_assembled zone a = refl

-- the plan has the zone that it was asked with
pub zone_of : (zone : ℕ) (deck : List ℕ) (p : Plan) → plan_of zone deck ≡ fine p → p.zone ≡ zone
zone_of zone deck p e = let w = steps zone deck p e in subst (λ (z : Plan). z.zone ≡ zone) w.is (zone_assembled zone w.asked)
