-- What stands once so many cards are read: what is noted of them, and the row of their fields, where none has a number outside its limits and there are at most 64.
-- It is kept by an item more and by a card more.
use mathlib.Core.Path.{◌≡◌, refl, ap, sym, ◌∙◌, subst}
use mathlib.Core.Bool.{Bool, true, false, ◌&&◌}
use mathlib.Core.List.{List, [], ◌∷◌, ◌++◌, append-nil, append_assoc, map, map-append}
use Prim.Native.Nat.{ℕ, suc, ◌+◌, ◌*◌, ◌≤◌, ◌<◌, min}
use native.Mathlib.Omega.{arith}
use lib.Dec.{ltb, eqb}
use lib.ListN.{length, length-append, length-map}
use borrow.Author.Tests.{lt-ltb, ltb-true, ltb-false}
use Rattle.rules.specs.Base.{every}
use Rattle.rules.specs.Places.{All, also}
use Rattle.rules.specs.Deck.{before_fs}
use Rattle.rules.specs.Grammar.{Part, in_data, in_key, CardField, Item, field, cv}
use Rattle.rules.specs.Halves.{over}
use Rattle.rules.specs.Words.{Worded, values_of, outside_in}
use Rattle.rules.specs.Asked.{fields_of, field_limits, item_numbers}
use Rattle.rules.proofs.Base.Lists.{every_append}
use Rattle.rules.proofs.Base.Tests.{and_left, and_right}
use Rattle.rules.proofs.Deck.AcceptedLaws.{fields_append}
use Rattle.rules.proofs.Columns.NumberLimits.{item_limits}
use Rattle.terms.specs.Meaning.{laid}
use Rattle.rows.specs.Flat.{flat_of}
use Rattle.rows.specs.Kept.{row_of}
use Rattle.rows.proofs.RowLaws.{row_more}
use Rattle.cards.specs.declared.Noted.{Noted}
use Rattle.cards.specs.Selected.{field_counted, field_noted, cv_noted, kept_row, NotedRow, with_item, with_words, no_selection, with_card, with_cards}
use Rattle.cards.proofs.NotedLaws.{all_fields, Tells, tells_none, no_items, tells_card, more_fields, same_fields, tells_field, tells_cv}

-- ---- the row

-- it holds these fields, behind a key of so many bytes, where they are few and their numbers within their limits
abbrev pub Rowed : ℕ → List ℕ → List CardField → Type 0
Rowed key row fs = every field_limits fs ≡ true → length fs ≤ 64 → row ≡ row_of (map (laid key) fs)

pub record Holds (key : ℕ) (t : NotedRow) (cs : List (List Item)) : Type 0 where
  pub same : t.0.key ≡ key
  pub tells : Tells t.0 cs
  pub row : Rowed key t.1 (all_fields cs)

-- no column is given for a part exactly if its numbers are within their limits
abbrev pub Fair : Worded Item → Type 0
Fair w = (c : ℕ) → 1 ≤ c → eqb (outside_in item_numbers c w) 0 ≡ item_limits w.value

-- the key stays
pub field_key : (n : Noted) (card : ℕ) (part : Part) (out : ℕ) → (field_noted n card part out).key ≡ n.key
unfolding field_noted field_counted
field_key n card part out = go (ltb n.count 64) refl part (eqb out 0) refl (eqb n.beyond 0) refl
  where
    go : (c : Bool) → ltb n.count 64 ≡ c → (q : Part) → (a : Bool) → eqb out 0 ≡ a → (b : Bool) → eqb n.beyond 0 ≡ b → (field_noted n card q out).key ≡ n.key
    go true g in_data true e b f = rw (g, e)
    go true g in_data false e true f = rw (g, e, f)
    go true g in_data false e false f = rw (g, e, f)
    go true g in_key true e b f = rw (g, e)
    go true g in_key false e true f = rw (g, e, f)
    go true g in_key false e false f = rw (g, e, f)
    go false g in_data true e b f = rw (g, e)
    go false g in_data false e true f = rw (g, e, f)
    go false g in_data false e false f = rw (g, e, f)
    go false g in_key true e b f = rw (g, e)
    go false g in_key false e true f = rw (g, e, f)
    go false g in_key false e false f = rw (g, e, f)

pub cv_key : (n : Noted) (card column : ℕ) → (cv_noted n card column).key ≡ n.key
unfolding cv_noted
cv_key n card column = go (eqb n.cv 0) refl (eqb n.second_cv 0) refl
  where
    go : (a : Bool) → eqb n.cv 0 ≡ a → (b : Bool) → eqb n.second_cv 0 ≡ b → (cv_noted n card column).key ≡ n.key
    go true e b f = rw e
    go false e true f = rw (e, f)
    go false e false f = rw (e, f)

item_key : (card column out : ℕ) (i : Item) (t : NotedRow) → (with_item card column out i t).0.key ≡ t.0.key
unfolding with_item
item_key card column out (field f) t = field_key t.0 card f.part out
item_key card column out cv t = cv_key t.0 card column

pub words_key : (card column : ℕ) (ws : List (Worded Item)) (t : NotedRow) → (with_words card column ws t).0.key ≡ t.0.key
words_key card column [] t = refl
words_key card column (w ∷ ws) t =
    let out = outside_in item_numbers column w in
    words_key card (column + suc (length w.text)) ws (with_item card column out w.value t) ∙ item_key card column out w.value t

-- a field more
kept_field : (key count : ℕ) (fs : List CardField) → count ≡ min 64 (length fs) → (f : CardField) (out : ℕ) → eqb out 0 ≡ field_limits f → (row : List ℕ) → Rowed key row fs
    → Rowed key (kept_row count out (laid key f) row) (fs ++ (f ∷ []))
unfolding kept_row
kept_field key count fs e f out fair row h a l =
    let m : length (fs ++ (f ∷ [])) ≡ length fs + 1 = length-append fs (f ∷ []) in
    let b : (every field_limits fs && every field_limits (f ∷ [])) ≡ true = sym (every_append field_limits fs (f ∷ [])) ∙ a in
    let g : field_limits f ≡ true = and_left (field_limits f) true (and_right (every field_limits fs) (every field_limits (f ∷ [])) b) in
    let k : count ≡ length (map (laid key) fs) = omega (arith, length-map fs (laid key)) in
    let q : count < 64 = omega arith in
    rw (fair ∙ g, lt-ltb count 64 q)
    (ap (λ (j : ℕ). over (5 * j) (flat_of (laid key f ∷ [])) row) k
    ∙ row_more (map (laid key) fs) (laid key f) row (h (and_left (every field_limits fs) (every field_limits (f ∷ [])) b) (omega arith)) (omega (arith, length-map fs (laid key)))
    ∙ ap row_of (sym (map-append (laid key) fs (f ∷ []))))

holds_item : (key : ℕ) (cs : List (List Item)) (c : List Item) (i : Item) (t : NotedRow) (column out : ℕ) → eqb out 0 ≡ item_limits i → Holds key t (cs ++ (c ∷ []))
    → Holds key (with_item (2 + length cs) column out i t) (cs ++ ((c ++ (i ∷ [])) ∷ []))
unfolding with_item
holds_item key cs c (field f) t column out fair h =
    record {
      same = field_key t.0 (2 + length cs) f.part out ∙ h.same;
      tells = tells_field cs c t.0 h.tells f out fair;
      row =
          subst (Rowed key (kept_row t.0.count out (laid t.0.key f) t.1)) (sym (more_fields cs c f))
          (subst (λ (k : ℕ). Rowed key (kept_row t.0.count out (laid k f) t.1) (all_fields (cs ++ (c ∷ [])) ++ (f ∷ []))) (sym h.same)
          (kept_field key t.0.count (all_fields (cs ++ (c ∷ []))) h.tells.count f out fair t.1 h.row));
    }
holds_item key cs c cv t column out fair h =
    record {
      same = cv_key t.0 (2 + length cs) column ∙ h.same;
      tells = tells_cv cs c t.0 h.tells column;
      row = subst (Rowed key t.1) (sym (same_fields cs c)) h.row;
    }

-- the items of a card
holds_words : (key : ℕ) (cs : List (List Item)) (c : List Item) (ws : List (Worded Item)) (t : NotedRow) (column : ℕ) → 1 ≤ column → All Fair ws → Holds key t (cs ++ (c ∷ []))
    → Holds key (with_words (2 + length cs) column ws t) (cs ++ ((c ++ values_of ws) ∷ []))
holds_words key cs c [] t column l a h = subst (λ (d : List Item). Holds key t (cs ++ (d ∷ []))) (sym (append-nil c)) h
holds_words key cs c (w ∷ ws) t column l (also f a) h =
    let next = with_item (2 + length cs) column (outside_in item_numbers column w) w.value t in
    subst (λ (d : List Item). Holds key (with_words (2 + length cs) (column + suc (length w.text)) ws next) (cs ++ (d ∷ []))) (append_assoc c (w.value ∷ []) (values_of ws))
    (holds_words key cs (c ++ (w.value ∷ [])) ws next (column + suc (length w.text)) (omega arith) a
    (holds_item key cs c w.value t column (outside_in item_numbers column w) (f column l) h))

-- ---- card by card

module _ (key : ℕ) where
  holds_none : Holds key (no_selection key) []
  unfolding no_selection
  holds_none = record { same = refl; tells = tells_none key; row = λ a l. refl }

  holds_card : (cs : List (List Item)) (ws : List (Worded Item)) (t : NotedRow) → All Fair ws → Holds key t cs → Holds key (with_card (2 + length cs) ws t) (cs ++ (values_of ws ∷ []))
  unfolding with_card
  holds_card cs ws t a h =
      let none = ap (λ (l : List Item). fields_of l) (no_items cs) in
      holds_words key cs [] ws t (suc before_fs) (omega arith) a
      (record { same = h.same; tells = tells_card t.0 cs h.tells; row = subst (Rowed key t.1) (sym none) h.row })

  -- all of them
  holds_from : (cs : List (List Item)) (wss : List (List (Worded Item))) (t : NotedRow) → All (All Fair) wss → Holds key t cs
      → Holds key (with_cards (2 + length cs) wss t) (cs ++ map values_of wss)
  holds_from cs [] t a h = subst (Holds key t) (sym (append-nil cs)) h
  holds_from cs (ws ∷ wss) t (also f a) h =
      let e : 2 + length (cs ++ (values_of ws ∷ [])) ≡ suc (2 + length cs) = omega (arith, length-append cs (values_of ws ∷ [])) in
      subst (Holds key (with_cards (suc (2 + length cs)) wss (with_card (2 + length cs) ws t))) (append_assoc cs (values_of ws ∷ []) (map values_of wss))
      (subst (λ (n : ℕ). Holds key (with_cards n wss (with_card (2 + length cs) ws t)) ((cs ++ (values_of ws ∷ [])) ++ map values_of wss)) e
      (holds_from (cs ++ (values_of ws ∷ [])) wss (with_card (2 + length cs) ws t) a (holds_card cs ws t f h)))

  pub holds_cards : (wss : List (List (Worded Item))) → All (All Fair) wss → Holds key (with_cards 2 wss (no_selection key)) (map values_of wss)
  holds_cards wss a = holds_from [] wss (no_selection key) a holds_none

-- ---- how many fields are fieldCounted, whatever was before

-- those of an item more, up to 64
item_many : (card column out : ℕ) (i : Item) (t : NotedRow) → t.0.count ≤ 64 → (with_item card column out i t).0.count ≡ min 64 (t.0.count + length (fields_of (i ∷ [])))
unfolding with_item cv_noted field_noted field_counted
item_many card column out cv t l = go (eqb t.0.cv 0) refl (eqb t.0.second_cv 0) refl
  where
    go : (a : Bool) → eqb t.0.cv 0 ≡ a → (b : Bool) → eqb t.0.second_cv 0 ≡ b → (cv_noted t.0 card column).count ≡ min 64 (t.0.count + 0)
    go true e b f = rw e (omega arith)
    go false e true f = rw (e, f) (omega arith)
    go false e false f = rw (e, f) (omega arith)
item_many card column out (field f) t l = go f.part ∙ many (ltb t.0.count 64) refl
  where
    many : (c : Bool) → ltb t.0.count 64 ≡ c → (field_counted t.0 card).count ≡ min 64 (t.0.count + 1)
    many true g = let q = ltb-true t.0.count 64 g in rw g (omega arith)
    many false g = let q = ltb-false t.0.count 64 g in rw g (omega arith)

    go : (q : Part) → (field_noted t.0 card q out).count ≡ (field_counted t.0 card).count
    go q = by q (eqb out 0) refl (eqb t.0.beyond 0) refl
      where
        by : (q : Part) (a : Bool) → eqb out 0 ≡ a → (b : Bool) → eqb t.0.beyond 0 ≡ b → (field_noted t.0 card q out).count ≡ (field_counted t.0 card).count
        by in_data true e b f = rw e
        by in_data false e true f = rw (e, f)
        by in_data false e false f = rw (e, f)
        by in_key true e b f = rw e
        by in_key false e true f = rw (e, f)
        by in_key false e false f = rw (e, f)

-- those of a card more, up to 64
pub words_many : (card column : ℕ) (ws : List (Worded Item)) (t : NotedRow) → t.0.count ≤ 64
    → (with_words card column ws t).0.count ≡ min 64 (t.0.count + length (fields_of (values_of ws)))
words_many card column [] t l = omega arith
words_many card column (w ∷ ws) t l =
    let next = with_item card column (outside_in item_numbers column w) w.value t in
    let a = item_many card column (outside_in item_numbers column w) w.value t l in
    let b = words_many card (column + suc (length w.text)) ws next (omega (arith, a)) in
    let m = ap length (fields_append (w.value ∷ []) (values_of ws)) ∙ length-append (fields_of (w.value ∷ [])) (fields_of (values_of ws)) in
    omega (arith, a, b, m)
