-- The columns that are noted are those of the rules. What is noted first stays, so it is found by going along the items and the cards: once for whatever is
-- noted, and then for a CV that stands again and for a number outside its limits.
use mathlib.Core.Path.{◌≡◌, refl, ap, ap₂, sym, ◌∙◌}
use mathlib.Core.Logic.{◌⊎◌, inl, inr}
use mathlib.Core.Bool.{Bool, true, false, cond}
use mathlib.Core.List.{List, [], ◌∷◌, ◌++◌, map}
use Prim.Native.Nat.{ℕ, zero, suc, ◌+◌, ◌≤◌}
use native.Mathlib.Omega.{arith}
use lib.Dec.{ltb, leb, eqb}
use lib.ListN.{length, replicate}
use borrow.Author.Tests.{eq-eqb, ne_eqb, le-leb}
use Rattle.rules.specs.Base.{joined}
use Rattle.rules.specs.Places.{Both, none_left, both}
use Rattle.rules.specs.Deck.{before_fs}
use Rattle.rules.specs.Grammar.{Part, in_data, in_key, Item, field, cv}
use Rattle.rules.specs.Texts.{ItemText, FsText}
use Rattle.rules.specs.Words.{Worded, fs_words, values_of, again_column, number_columns, outside_column, first_column, outside_in, outside_among}
use Rattle.rules.specs.Asked.{cvs, same_cv, cv_column, item_numbers, field_column}
use Rattle.rules.proofs.Deck.AcceptedLaws.{cvs_append}
use Rattle.rules.proofs.Columns.WordedLaws.{fs_worded}
use Rattle.rules.proofs.Columns.NumberColumns.{item_count}
use Rattle.rules.proofs.Columns.WordColumns.{first_some, outside_free, outside_parts}
use Rattle.cards.specs.declared.Noted.{Noted}
use Rattle.cards.specs.Selected.{field_counted, key_noted, field_noted, cv_noted, NotedRow, with_item, with_words, no_selection, with_card, with_cards}

-- ---- what an item leaves

-- what is noted of a second CV, and of a number outside its limits
abbrev second : Noted → ℕ × ℕ
second n = (n.second_cv, n.second_column)

abbrev outside : Noted → ℕ × ℕ
outside n = (n.beyond, n.beyond_column)

counted_leaves : (n : Noted) (card : ℕ) → ((field_counted n card).cv ≡ n.cv) × (second (field_counted n card) ≡ second n) × (outside (field_counted n card) ≡ outside n)
unfolding field_counted
counted_leaves n card = go (ltb n.count 64) refl
  where
    go : (t : Bool) → ltb n.count 64 ≡ t → ((field_counted n card).cv ≡ n.cv) × (second (field_counted n card) ≡ second n) × (outside (field_counted n card) ≡ outside n)
    go true e = rw e (refl, refl, refl)
    go false e = rw e (refl, refl, refl)

-- so does the part of a field
named_leaves : (n : Noted) (card : ℕ) (part : Part)
    → ((key_noted (field_counted n card) card part).cv ≡ n.cv) × (second (key_noted (field_counted n card) card part) ≡ second n) × (outside (key_noted (field_counted n card) card part) ≡ outside n)
named_leaves n card in_data = counted_leaves n card
named_leaves n card in_key = counted_leaves n card

-- a field leaves what is noted of CV
field_leaves : (n : Noted) (card : ℕ) (part : Part) (out : ℕ) → ((field_noted n card part out).cv ≡ n.cv) × (second (field_noted n card part out) ≡ second n)
unfolding field_noted
field_leaves n card part out = go (eqb out 0) refl (eqb n.beyond 0) refl
  where
    go : (t : Bool) → eqb out 0 ≡ t → (u : Bool) → eqb n.beyond 0 ≡ u → ((field_noted n card part out).cv ≡ n.cv) × (second (field_noted n card part out) ≡ second n)
    go true e u f = rw e ((named_leaves n card part).0, (named_leaves n card part).1)
    go false e true f = rw (e, f) ((named_leaves n card part).0, (named_leaves n card part).1)
    go false e false f = rw (e, f) ((named_leaves n card part).0, (named_leaves n card part).1)

-- CV leaves what is noted of numbers
cv_leaves : (n : Noted) (card column : ℕ) → outside (cv_noted n card column) ≡ outside n
unfolding cv_noted
cv_leaves n card column = go (eqb n.cv 0) refl (eqb n.second_cv 0) refl
  where
    go : (t : Bool) → eqb n.cv 0 ≡ t → (u : Bool) → eqb n.second_cv 0 ≡ u → outside (cv_noted n card column) ≡ outside n
    go true e u f = rw e refl
    go false e true f = rw (e, f) refl
    go false e false f = rw (e, f) refl

-- ---- what was noted stays

module _ (get : Noted → ℕ × ℕ) (keeps : (card column out : ℕ) (i : Item) (t : NotedRow) → ((get t.0).0 ≡ 0 → ⊥) → get (with_item card column out i t).0 ≡ get t.0) where
  words_stay : (card column : ℕ) (ws : List (Worded Item)) (t : NotedRow) → ((get t.0).0 ≡ 0 → ⊥) → get (with_words card column ws t).0 ≡ get t.0
  words_stay card column [] t n = refl
  words_stay card column (w ∷ ws) t n =
      let k = keeps card column (outside_in item_numbers column w) w.value t n in
      words_stay card (column + suc (length w.text)) ws (with_item card column (outside_in item_numbers column w) w.value t) (λ z. n (sym (ap (λ (x : ℕ × ℕ). x.0) k) ∙ z)) ∙ k

  cards_stay : (card : ℕ) (cs : List (List (Worded Item))) (t : NotedRow) → ((get t.0).0 ≡ 0 → ⊥) → get (with_cards card cs t).0 ≡ get t.0
  unfolding with_card
  cards_stay card [] t n = refl
  cards_stay card (ws ∷ cs) t n =
      let k = words_stay card (suc before_fs) ws t n in
      cards_stay (suc card) cs (with_card card ws t) (λ z. n (sym (ap (λ (x : ℕ × ℕ). x.0) k) ∙ z)) ∙ k

second_keeps : (card column out : ℕ) (i : Item) (t : NotedRow) → ((second t.0).0 ≡ 0 → ⊥) → second (with_item card column out i t).0 ≡ second t.0
unfolding with_item cv_noted
second_keeps card column out (field f) t n = (field_leaves t.0 card f.part out).1
second_keeps card column out cv t n = go (eqb t.0.cv 0) refl
  where
    go : (u : Bool) → eqb t.0.cv 0 ≡ u → second (cv_noted t.0 card column) ≡ second t.0
    go true e = rw e refl
    go false e = rw (e, ne_eqb t.0.second_cv 0 n) refl

outside_keeps : (card column out : ℕ) (i : Item) (t : NotedRow) → ((outside t.0).0 ≡ 0 → ⊥) → outside (with_item card column out i t).0 ≡ outside t.0
unfolding with_item field_noted
outside_keeps card column out cv t n = cv_leaves t.0 card column
outside_keeps card column out (field f) t n = go (eqb out 0) refl
  where
    go : (u : Bool) → eqb out 0 ≡ u → outside (field_noted t.0 card f.part out) ≡ outside t.0
    go true e = rw e (named_leaves t.0 card f.part).2
    go false e = rw (e, ne_eqb t.0.beyond 0 n) (named_leaves t.0 card f.part).2

-- ---- what is noted first, item by item and card by card

-- `find` is the column at which an item is noted, or 0, with what was seen before it; `step` is what is seen behind it
module _ (get : Noted → ℕ × ℕ) (keeps : (card column out : ℕ) (i : Item) (t : NotedRow) → ((get t.0).0 ≡ 0 → ⊥) → get (with_item card column out i t).0 ≡ get t.0)
    {S : Type 0} (find : S → ℕ → Worded Item → ℕ) (step : S → Worded Item → S) (Clear : Noted → S → Type 0) (none : (n : Noted) (s : S) → Clear n s → (get n).0 ≡ 0)
    (item : (card column : ℕ) → 1 ≤ card → 1 ≤ column → (w : Worded Item) (t : NotedRow) (s : S) → Clear t.0 s
    → ((find s column w ≡ 0) × Clear (with_item card column (outside_in item_numbers column w) w.value t).0 (step s w))
    ⊎ ((1 ≤ find s column w) × (get (with_item card column (outside_in item_numbers column w) w.value t).0 ≡ (card, find s column w)))) where
  abbrev pub seek : S → ℕ → List (Worded Item) → ℕ
  seek s column [] = 0
  seek s column (w ∷ ws) = let later = seek (step s w) (column + suc (length w.text)) ws in first_column (find s column w) later

  abbrev pub steps : S → List (Worded Item) → S
  steps s [] = s
  steps s (w ∷ ws) = steps (step s w) ws

  -- after the items of a card: nothing yet, or it stands on it
  noted_words : (card column : ℕ) → 1 ≤ card → 1 ≤ column → (ws : List (Worded Item)) (t : NotedRow) (s : S) → Clear t.0 s
      → Clear (with_words card column ws t).0 (steps s ws) ⊎ (get (with_words card column ws t).0 ≡ (card, seek s column ws))
  noted_words card column l k [] t s c = inl c
  noted_words card column l k (w ∷ ws) t s c =
      go (λ u r d. noted_words card (column + suc (length w.text)) l (omega arith) ws u r d) (item card column l k w t s c)
    where
      next : ℕ
      next = column + suc (length w.text)

      after : NotedRow
      after = with_item card column (outside_in item_numbers column w) w.value t

      go : ((u : NotedRow) (r : S) → Clear u.0 r → Clear (with_words card next ws u).0 (steps r ws) ⊎ (get (with_words card next ws u).0 ≡ (card, seek r next ws)))
          → ((find s column w ≡ 0) × Clear after.0 (step s w)) ⊎ ((1 ≤ find s column w) × (get after.0 ≡ (card, find s column w)))
          → Clear (with_words card next ws after).0 (steps (step s w) ws) ⊎ (get (with_words card next ws after).0 ≡ (card, seek s column (w ∷ ws)))
      go on (inl q) = shift (on after (step s w) q.1)
        where
          shift : Clear (with_words card next ws after).0 (steps (step s w) ws) ⊎ (get (with_words card next ws after).0 ≡ (card, seek (step s w) next ws))
              → Clear (with_words card next ws after).0 (steps (step s w) ws) ⊎ (get (with_words card next ws after).0 ≡ (card, seek s column (w ∷ ws)))
          shift (inl x) = inl x
          shift (inr x) = inr (x ∙ ap (λ (j : ℕ). (card, first_column j (seek (step s w) next ws))) (sym q.0))
      go on (inr q) =
          inr
          (words_stay get keeps card next ws after (λ z. let j : card ≡ 0 = sym (ap (λ (x : ℕ × ℕ). x.0) q.1) ∙ z in omega arith)
          ∙ q.1
          ∙ ap (λ (j : ℕ). (card, j)) (sym (first_some (find s column w) (seek (step s w) next ws) q.0)))

  -- the column on card p of the cards from card i on
  abbrev pub column_at : S → ℕ → List (List ℕ) → ℕ → ℕ
  column_at s i [] p = 0
  column_at s i (o ∷ os) p = let later = column_at (steps s (fs_words o)) (suc i) os p in cond (eqb p i) (seek s (suc before_fs) (fs_words o)) later

  -- after some cards: nothing, or it stands on one of them
  noted_cards : (card : ℕ) → 1 ≤ card → (os : List (List ℕ)) (t : NotedRow) (s : S) → Clear t.0 s
      → ((get (with_cards card (map fs_words os) t).0).0 ≡ 0)
      ⊎ ((card ≤ (get (with_cards card (map fs_words os) t).0).0)
      × ((get (with_cards card (map fs_words os) t).0).1 ≡ column_at s card os (get (with_cards card (map fs_words os) t).0).0))
  unfolding with_card
  noted_cards card l [] t s c = inl (none t.0 s c)
  noted_cards card l (o ∷ os) t s c =
      go (λ r d. noted_cards (suc card) (omega arith) os (with_card card (fs_words o) t) r d) (noted_words card (suc before_fs) l (omega arith) (fs_words o) t s c)
    where
      ws : List (Worded Item)
      ws = fs_words o

      next : NotedRow
      next = with_card card ws t

      end : Noted
      end = (with_cards (suc card) (map fs_words os) next).0

      later : ((get end).0 ≡ 0) ⊎ ((suc card ≤ (get end).0) × ((get end).1 ≡ column_at (steps s ws) (suc card) os (get end).0))
          → ((get end).0 ≡ 0) ⊎ ((card ≤ (get end).0) × ((get end).1 ≡ column_at s card (o ∷ os) (get end).0))
      later (inl z) = inl z
      later (inr z) = inr (omega (arith, z.0), rw (ne_eqb (get end).0 card (λ q. omega (arith, z.0))) z.1)

      go : ((r : S) → Clear next.0 r → ((get end).0 ≡ 0) ⊎ ((suc card ≤ (get end).0) × ((get end).1 ≡ column_at r (suc card) os (get end).0)))
          → Clear next.0 (steps s ws) ⊎ (get next.0 ≡ (card, seek s (suc before_fs) ws))
          → ((get end).0 ≡ 0) ⊎ ((card ≤ (get end).0) × ((get end).1 ≡ column_at s card (o ∷ os) (get end).0))
      go on (inl q) = later (on (steps s ws) q)
      go on (inr q) =
          let f : get end ≡ (card, seek s (suc before_fs) ws)
          = cards_stay get keeps (suc card) (map fs_words os) next (λ z. let k : card ≡ 0 = sym (ap (λ (x : ℕ × ℕ). x.0) q) ∙ z in omega arith) ∙ q in
          let p : (get end).0 ≡ card = ap (λ (x : ℕ × ℕ). x.0) f in
          inr (omega (arith, p), ap (λ (x : ℕ × ℕ). x.1) f ∙ sym (ap (λ (b : Bool). cond b (seek s (suc before_fs) ws) (column_at (steps s ws) (suc card) os (get end).0)) (eq-eqb (get end).0 card p)))

-- ---- the second CV

-- no second CV yet, and a CV is noted exactly if one was seen, k in all
record Single (n : Noted) (k : ℕ) : Type 0 where
  none : n.second_cv ≡ 0
  seen : eqb n.cv 0 ≡ eqb k 0

-- a CV stands again where one was seen
abbrev find_cv : ℕ → ℕ → Worded Item → ℕ
find_cv k column w = cond (same_cv w.value (replicate k cv)) column 0

abbrev step_cv : ℕ → Worded Item → ℕ
step_cv k w = cvs (w.value ∷ []) + k

cvs_many : (k : ℕ) → cvs (replicate k cv) ≡ k
cvs_many zero = refl
cvs_many (suc k) = ap suc (cvs_many k)

cv_item : (card column : ℕ) → 1 ≤ card → 1 ≤ column → (w : Worded Item) (t : NotedRow) (k : ℕ) → Single t.0 k
    → ((find_cv k column w ≡ 0) × Single (with_item card column (outside_in item_numbers column w) w.value t).0 (step_cv k w))
    ⊎ ((1 ≤ find_cv k column w) × (second (with_item card column (outside_in item_numbers column w) w.value t).0 ≡ (card, find_cv k column w)))
unfolding with_item cv_noted
cv_item card column l m w t k s = go w.value
  where
    out : ℕ
    out = outside_in item_numbers column w

    go : (i : Item)
        → ((cond (same_cv i (replicate k cv)) column 0 ≡ 0) × Single (with_item card column out i t).0 (cvs (i ∷ []) + k))
        ⊎ ((1 ≤ cond (same_cv i (replicate k cv)) column 0) × (second (with_item card column out i t).0 ≡ (card, cond (same_cv i (replicate k cv)) column 0)))
    go (field f) =
        let h = field_leaves t.0 card f.part out in
        let z : 0 + k ≡ k = omega arith in
        inl (refl, record { none = ap (λ (x : ℕ × ℕ). x.0) h.1 ∙ s.none; seen = ap (λ (x : ℕ). eqb x 0) h.0 ∙ s.seen ∙ ap (λ (x : ℕ). eqb x 0) (sym z) })
    go cv = by k s.seen (cvs_many k)
      where
        by : (j : ℕ) → eqb t.0.cv 0 ≡ eqb j 0 → cvs (replicate j cv) ≡ j
            → ((cond (same_cv cv (replicate j cv)) column 0 ≡ 0) × Single (with_item card column out cv t).0 (cvs (cv ∷ []) + j))
            ⊎ ((1 ≤ cond (same_cv cv (replicate j cv)) column 0) × (second (with_item card column out cv t).0 ≡ (card, cond (same_cv cv (replicate j cv)) column 0)))
        by zero e q = inl (refl, rw e (record { none = s.none; seen = ne_eqb card 0 (λ z. omega arith) ∙ sym (ne_eqb (cvs (cv ∷ []) + 0) 0 (λ z. omega arith)) }))
        by (suc j) e q =
            let a : leb 1 (cvs (replicate (suc j) cv)) ≡ true = le-leb 1 (cvs (replicate (suc j) cv)) (omega arith) in
            let b : eqb t.0.cv 0 ≡ false = e ∙ ne_eqb (suc j) 0 (λ z. omega arith) in
            inr (rw a m, rw (a, b, eq-eqb t.0.second_cv 0 s.none) refl)

-- which is what the rules look for
cv_same : (i : Item) (xs ys : List Item) → cvs xs ≡ cvs ys → same_cv i xs ≡ same_cv i ys
cv_same (field f) xs ys e = refl
cv_same cv xs ys e = ap (leb 1) e

cv_seek : (k column : ℕ) → 1 ≤ column → (ws : List (Worded Item)) (xs : List Item) → cvs xs ≡ k
    → seek second second_keeps find_cv step_cv Single (λ n s c. c.none) cv_item k column ws ≡ again_column same_cv xs column ws
cv_seek k column l [] xs e = refl
cv_seek k column l (w ∷ ws) xs e =
    let q : cvs (w.value ∷ xs) ≡ cvs (w.value ∷ []) + k = omega (arith, e, cvs_append (w.value ∷ []) xs) in
    ap₂ first_column (ap (λ (b : Bool). cond b column 0) (cv_same w.value (replicate k cv) xs (cvs_many k ∙ sym e)))
    (cv_seek (cvs (w.value ∷ []) + k) (column + suc (length w.text)) (omega arith) ws (w.value ∷ xs) q)
    ∙ two (same_cv w.value xs)
  where
    two : (b : Bool) → first_column (cond b column 0) (again_column same_cv (w.value ∷ xs) (column + suc (length w.text)) ws) ≡ cond b column (again_column same_cv (w.value ∷ xs) (column + suc (length w.text)) ws)
    two true = first_some column _ l
    two false = refl

cv_steps : (k : ℕ) (ws : List (Worded Item)) → steps second second_keeps find_cv step_cv Single (λ n s c. c.none) cv_item k ws ≡ cvs (values_of ws) + k
cv_steps k [] = let e : k ≡ 0 + k = omega arith in e
cv_steps k (w ∷ ws) = omega (arith, cv_steps (cvs (w.value ∷ []) + k) ws, cvs_append (w.value ∷ []) (values_of ws))

cv_at : (k i : ℕ) (os : List (List ℕ)) (p : ℕ) (xs : List Item) → cvs xs ≡ k
    → column_at second second_keeps find_cv step_cv Single (λ n s c. c.none) cv_item k i os p ≡ cv_column xs i os p
cv_at k i [] p xs e = refl
cv_at k i (o ∷ os) p xs e =
    ap₂ (cond (eqb p i)) (cv_seek k (suc before_fs) (omega arith) (fs_words o) xs e)
    (cv_at (steps second second_keeps find_cv step_cv Single (λ n s c. c.none) cv_item k (fs_words o)) (suc i) os p (values_of (fs_words o) ++ xs)
    (omega (arith, e, cvs_append (values_of (fs_words o)) xs, cv_steps k (fs_words o))))

-- ---- the first number outside its limits

-- none yet; nothing seen before matters
abbrev Inner : Noted → Unit {0} → Type 0
Inner n u = n.beyond ≡ 0

abbrev find_outside : Unit {0} → ℕ → Worded Item → ℕ
find_outside u column w = outside_in item_numbers column w

outside_item : (card column : ℕ) → 1 ≤ card → 1 ≤ column → (w : Worded Item) (t : NotedRow) (u : Unit {0}) → Inner t.0 u
    → ((find_outside u column w ≡ 0) × Inner (with_item card column (outside_in item_numbers column w) w.value t).0 u)
    ⊎ ((1 ≤ find_outside u column w) × (outside (with_item card column (outside_in item_numbers column w) w.value t).0 ≡ (card, find_outside u column w)))
unfolding with_item field_noted
outside_item card column l m w t u s = go w.value refl (outside_in item_numbers column w) refl
  where
    go : (i : Item) → w.value ≡ i → (out : ℕ) → outside_in item_numbers column w ≡ out
        → ((out ≡ 0) × ((with_item card column out i t).0.beyond ≡ 0)) ⊎ ((1 ≤ out) × (outside (with_item card column out i t).0 ≡ (card, out)))
    go cv e out o =
        let z : out ≡ 0 = sym o ∙ ap (λ (x : Item). outside_in item_numbers column (record { value = x; text = w.text })) e ∙ outside_free (number_columns false column w.text) in
        inl (z, ap (λ (x : ℕ × ℕ). x.0) (cv_leaves t.0 card column) ∙ s)
    go (field f) e zero o = inl (refl, ap (λ (x : ℕ × ℕ). x.0) (named_leaves t.0 card f.part).2 ∙ s)
    go (field f) e (suc out) o = inr (omega arith, rw (ne_eqb (suc out) 0 (λ z. omega arith), eq-eqb t.0.beyond 0 s) refl)

outside_seek : (column : ℕ) (ws : List (Worded Item))
    → seek outside outside_keeps find_outside (λ u w. u) Inner (λ n s c. c) outside_item tt column ws ≡ outside_among item_numbers column ws
outside_seek column [] = refl
outside_seek column (w ∷ ws) = ap (first_column (outside_in item_numbers column w)) (outside_seek (column + suc (length w.text)) ws)

outside_at : (i : ℕ) (os : List (List ℕ)) (cs : List (List Item)) → Both FsText os cs → (p : ℕ)
    → column_at outside outside_keeps find_outside (λ u w. u) Inner (λ n s c. c) outside_item tt i os p ≡ field_column i os cs p
outside_at i [] [] none_left p = refl
outside_at i [] (_ ∷ _) z p = elim z [ ]
outside_at i (_ ∷ _) [] z p = elim z [ ]
outside_at i (o ∷ os) (is ∷ cs) (both t b) p =
    let w = fs_worded o is t in
    let found : outside_among item_numbers (suc before_fs) (fs_words o) ≡ outside_column (number_columns false (suc before_fs) o) (joined (map item_numbers is))
    = sym (outside_parts "/" 47 refl refl ItemText item_numbers (λ x a t c. item_count c t) w.0 (suc before_fs) (omega arith))
    ∙ ap (λ (xs : List Item). outside_column (number_columns false (suc before_fs) o) (joined (map item_numbers xs))) w.1 in
    ap₂ (cond (eqb p i)) (outside_seek (suc before_fs) (fs_words o) ∙ found) (outside_at (suc i) os cs b p)

-- ---- all cards

module _ (key : ℕ) (os : List (List ℕ)) where
  abbrev end : Noted
  end = (with_cards 2 (map fs_words os) (no_selection key)).0

  pub cv_column_lem : (end.second_cv ≡ 0 → ⊥) → end.second_column ≡ cv_column [] 2 os end.second_cv
  unfolding no_selection
  cv_column_lem n = go (noted_cards second second_keeps find_cv step_cv Single (λ n s c. c.none) cv_item 2 (omega arith) os (no_selection key) 0 (record { none = refl; seen = refl }))
    where
      go : (end.second_cv ≡ 0)
          ⊎ ((2 ≤ end.second_cv) × (end.second_column ≡ column_at second second_keeps find_cv step_cv Single (λ n s c. c.none) cv_item 0 2 os end.second_cv))
          → end.second_column ≡ cv_column [] 2 os end.second_cv
      go (inl z) = absurd (n z)
      go (inr z) = z.1 ∙ cv_at 0 2 os end.second_cv [] refl

  pub number_column : (cs : List (List Item)) → Both FsText os cs → (end.beyond ≡ 0 → ⊥) → end.beyond_column ≡ field_column 2 os cs end.beyond
  unfolding no_selection
  number_column cs b n = go (noted_cards outside outside_keeps find_outside (λ u w. u) Inner (λ n s c. c) outside_item 2 (omega arith) os (no_selection key) tt refl)
    where
      go : (end.beyond ≡ 0)
          ⊎ ((2 ≤ end.beyond) × (end.beyond_column ≡ column_at outside outside_keeps find_outside (λ u w. u) Inner (λ n s c. c) outside_item tt 2 os end.beyond))
          → end.beyond_column ≡ field_column 2 os cs end.beyond
      go (inl z) = absurd (n z)
      go (inr z) = z.1 ∙ outside_at 2 os cs b end.beyond
