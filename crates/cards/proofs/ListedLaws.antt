-- How a list of items is read, item by item with their columns: an item and its rest, a rest that is nothing, and a rest that is a slash and a list. By the rules'
-- own steps of a list, for items with their texts.
use mathlib.Core.Path.{◌≡◌, refl, ap, sym, ◌∙◌, subst}
use mathlib.Core.Bool.{false}
use mathlib.Core.List.{List, [], ◌∷◌}
use Prim.Native.Nat.{ℕ, suc, ◌+◌, ◌≤◌, ◌<◌}
use native.Mathlib.Omega.{arith}
use lib.ListN.{length, take, drop, get_or, length-drop}
use lib.Seq.{drop-cons, drop-drop, length-take-le}
use borrow.Author.Tests.{eq-eqb}
use Rattle.rules.specs.Places.{All, no_more, also}
use Rattle.rules.specs.Reader.{Read, read, stopped, pure, onward, list_of, rest_of}
use Rattle.rules.specs.Grammar.{Item, field, cv, item}
use Rattle.rules.specs.Texts.{ListText, RestText, ItemText, FsText}
use Rattle.rules.specs.Words.{Worded, worded, fs_words, number_columns, outside_column, outside_in}
use Rattle.rules.specs.Asked.{item_numbers}
use Rattle.rules.specs.ColumnRows.{WordIs}
use Rattle.rules.proofs.Grammar.ReaderLaws.{Within}
use Rattle.rules.proofs.Grammar.ItemLaws.{within_item}
use Rattle.rules.proofs.Grammar.ListLaws.{list_item, list_stop, rest_end, rest_mark, rest_other}
use Rattle.rules.proofs.Deck.LimitLaws.{field_within}
use Rattle.rules.proofs.Columns.WordedLaws.{within_worded, fs_worded}
use Rattle.rules.proofs.Columns.WordColumns.{word_taken, worded_stops, columns_shift, columns_low, outside_none}
use Rattle.rules.proofs.Columns.NumberColumns.{item_count}
use Rattle.rules.proofs.Columns.NumberLimits.{item_exactly}
use Rattle.terms.specs.declared.Kind.{Kind}
use Rattle.terms.specs.declared.Kind.TheVariants.{Copy, Pack, Unpack}
use Rattle.terms.specs.declared.Part.{Part}
use Rattle.terms.specs.declared.Field.{Field}
use Rattle.terms.specs.Meaning.{kind_of, field_of, part_of, card_field, laid}
use Rattle.rows.specs.Flat.{Short}
use Rattle.readers.specs.declared.Places.{Places}
use Rattle.std.specs.Prelude.{Result, Ok, Err}
use Rattle.readers.specs.declared.Stop.{Stop}
use Rattle.readers.specs.Meaning.{Reads, places_in, field_places, ItemSays, a_field, a_cv}
use Rattle.readers.proofs.Callers.{item_places, places_inside}
use Rattle.limits.specs.Limits.{shifted, field_outside}
use Rattle.keys.proofs.KeyLaws.{laid_short}
use Rattle.cards.specs.declared.Noted.{Noted}
use Rattle.cards.specs.Selected.{field_noted, cv_noted, kept_row, NotedRow, with_item, with_words, ListSays}
use Rattle.cards.proofs.RowLaws.{Fair, words_key}

abbrev takes : Within 1 (worded item)
takes = within_worded item within_item

-- ---- a list

module _ (card column : ℕ) (t : NotedRow) (s : List ℕ) where
  -- an item, and then its rest
  module _ (i : Item) (n : ℕ) (e : Reads item s i n) where
    abbrev word : Worded Item
    word = record { value = i; text = take n s }

    pub listed_item : (r : Result Noted ℕ) (row : List ℕ)
        → ListSays card (1 + (column + n)) (column + n) (with_item card column (outside_in item_numbers column word) i t) (drop n s) (rest_of "/" (worded item) (drop n s)) r row
        → ListSays card column column t s (list_of "/" (worded item) s) r row
    listed_item r row h =
        subst (λ (x : Read (List (Worded Item))). ListSays card column column t s x r row)
        (sym (list_item "/" (worded item) takes s word (drop n s) (word_taken item s i n e.1)))
        (go (rest_of "/" (worded item) (drop n s)) r h)
      where
        after : NotedRow
        after = with_item card column (outside_in item_numbers column word) i t

        next : 1 + (column + n) ≡ column + suc (length (take n s))
        next = omega (arith, length-take-le n s e.0)

        go : (x : Read (List (Worded Item))) (r : Result Noted ℕ) → ListSays card (1 + (column + n)) (column + n) after (drop n s) x r row
            → ListSays card column column t s (onward x (λ ws. pure (word ∷ ws))) r row
        go (read ws left) (Ok m) h =
            (h.0 ∙ ap (λ (c : ℕ). (with_words card c ws after).0) next, h.1 ∙ ap (λ (c : ℕ). (with_words card c ws after).1) next)
        go (read ws left) (Err u) h = absurd h
        go (stopped left) (Ok m) h = absurd h
        go (stopped left) (Err u) (k, l, d, q) = (n + k, omega (arith, length-drop n s, e.0), d ∙ drop-drop k n s, omega arith)

  pub listed_none : (stop : Stop) → ItemSays s (Err stop) → (row : List ℕ) → ListSays card column column t s (list_of "/" (worded item) s) (Err (column + stop.at)) row
  listed_none stop e row =
      let a = stop.at in
      subst (λ (x : Read (List (Worded Item))). ListSays card column column t s x (Err (column + a)) row)
      (sym (list_stop "/" (worded item) takes s (drop a s) (worded_stops item s (drop a s) e.1))) (a, e.0, refl, refl)

  -- ---- a rest

  abbrev RestSays : Result Noted ℕ → List ℕ → Type 0
  RestSays r row = ListSays card (1 + column) column t s (rest_of "/" (worded item) s) r row

  pub rest_ended : length s ≡ 0 → RestSays (Ok t.0) t.1
  rest_ended z =
      subst (λ (x : Read (List (Worded Item))). ListSays card (1 + column) column t s x (Ok t.0) t.1) (sym (empty s z)) (refl, refl)
    where
      empty : (s : List ℕ) → length s ≡ 0 → rest_of "/" (worded item) s ≡ read [] []
      empty [] z = rest_end "/" (worded item)
      empty (b ∷ s) z = absurd (omega arith)

  pub rest_slash : 0 < length s → get_or s 0 0 ≡ 47 → (part : List ℕ) → part ≡ drop 1 s → (r : Result Noted ℕ) (row : List ℕ)
      → ListSays card (column + 1) (column + 1) t part (list_of "/" (worded item) part) r row → RestSays r row
  rest_slash l e part q r row h =
      let d : s ≡ 47 ∷ drop 1 s = drop-cons s 0 0 l ∙ ap (λ (b : ℕ). b ∷ drop 1 s) e in
      subst (λ (x : Read (List (Worded Item))). ListSays card (1 + column) column t s x r row)
      (sym (ap (rest_of "/" (worded item)) d ∙ rest_mark "/" (worded item) takes 47 refl (drop 1 s)))
      (go (list_of "/" (worded item) (drop 1 s)) r (subst (λ (l : List ℕ). ListSays card (column + 1) (column + 1) t l (list_of "/" (worded item) l) r row) q h))
    where
      go : (x : Read (List (Worded Item))) (r : Result Noted ℕ) → ListSays card (column + 1) (column + 1) t (drop 1 s) x r row → ListSays card (1 + column) column t s x r row
      go (read ws left) (Ok m) h =
          let c : column + 1 ≡ 1 + column = omega arith in
          (h.0 ∙ ap (λ (b : ℕ). (with_words card b ws t).0) c, h.1 ∙ ap (λ (b : ℕ). (with_words card b ws t).1) c)
      go (read ws left) (Err u) h = absurd h
      go (stopped left) (Ok m) h = absurd h
      go (stopped left) (Err u) (k, m, d, q) = (1 + k, omega (arith, length-drop 1 s), d ∙ drop-drop k 1 s, omega arith)

  pub rest_other_byte : 0 < length s → (get_or s 0 0 ≡ 47 → ⊥) → (row : List ℕ) → RestSays (Err column) row
  rest_other_byte l e row =
      let d : s ≡ get_or s 0 0 ∷ drop 1 s = drop-cons s 0 0 l in
      subst (λ (x : Read (List (Worded Item))). ListSays card (1 + column) column t s x (Err column) row)
      (sym (ap (rest_of "/" (worded item)) d ∙ rest_other "/" (worded item) takes 47 refl (get_or s 0 0) (drop 1 s) e ∙ ap stopped (sym d)))
      (0, omega arith, refl, omega arith)

-- ---- the numbers of a field

module _ (s : List ℕ) (part : Part) (f : Field) (p : Places) (n : ℕ) (e : ItemSays s (a_field part f p n)) where
  abbrev the_word : Worded Item
  the_word = record { value = field (card_field part f); text = take n s }

  columns_are : (column : ℕ) → number_columns false column (take n s) ≡ shifted column (field_places f.kind p)
  columns_are column =
      let z : column + 0 ≡ column = omega arith in
      ap (λ (c : ℕ). number_columns false c (take n s)) (sym z) ∙ columns_shift false column 0 (take n s) ∙ ap (shifted column) (item_places s part f p n e)

  -- the column of the first outside its limits, as code finds it
  pub outside_is : (column : ℕ) → field_outside part f p column ≡ outside_in item_numbers column the_word
  outside_is column = ap (λ (cs : List ℕ). outside_column cs (item_numbers (field (card_field part f)))) (sym (columns_are column))

  -- each begins inside the field
  pub places_low : (p.r < n) × (p.input < n) × (p.output < n) × (p.t < n)
  places_low =
      let l : length (take n s) ≡ n = length-take-le n s e.0.0 in
      go f.kind refl (subst (All (λ k. k < length (take n s))) (item_places s part f p n e) (places_inside (take n s))) l
    where
      cells : p ≡ places_in (number_columns false 0 (take n s))
      cells = e.2

      four : All (λ k. k < length (take n s)) (field_places Pack p) → length (take n s) ≡ n → (p.r < n) × (p.input < n) × (p.output < n) × (p.t < n)
      four (also a (also b (also c (also d e)))) l = (omega arith, omega arith, omega arith, omega arith)

      go : (k : Kind) → f.kind ≡ k → All (λ k. k < length (take n s)) (field_places f.kind p) → length (take n s) ≡ n → (p.r < n) × (p.input < n) × (p.output < n) × (p.t < n)
      go Copy q a l =
          let same : p ≡ places_in (field_places Copy p) = cells ∙ ap places_in (item_places s part f p n e ∙ ap (λ (k : Kind). field_places k p) q) in
          let o : p.output ≡ p.input = ap (λ (x : Places). x.output) same in
          three (subst (λ (k : Kind). All (λ k. k < length (take n s)) (field_places k p)) q a) o l
        where
          three : All (λ k. k < length (take n s)) (field_places Copy p) → p.output ≡ p.input → length (take n s) ≡ n → (p.r < n) × (p.input < n) × (p.output < n) × (p.t < n)
          three (also a (also b (also c d))) o l = (omega arith, omega arith, omega arith, omega arith)
      go Pack q a l = four (subst (λ (k : Kind). All (λ k. k < length (take n s)) (field_places k p)) q a) l
      go Unpack q a l = four (subst (λ (k : Kind). All (λ k. k < length (take n s)) (field_places k p)) q a) l

  -- as many as have limits
  many : (column : ℕ) → length (number_columns false column (take n s)) ≡ length (item_numbers (field (card_field part f)))
  unfolding field_of card_field
  many column = ap length (columns_are column) ∙ go f.kind
    where
      go : (k : Kind) → length (shifted column (field_places k p)) ≡ length (item_numbers (field (record { part = part_of part; field = record { r = f.r; kind = kind_of k f.input f.output; t = f.t } })))
      go Copy = refl
      go Pack = refl
      go Unpack = refl

  -- where none is outside its limits, 16 bits hold them, behind a key within its limits
  pub kept_short : (key column : ℕ) → key ≤ 4096 → 1 ≤ column → outside_in item_numbers column the_word ≡ 0 → Short (laid key (card_field part f))
  kept_short key column h l z =
      laid_short key (card_field part f) h
      ((field_within (card_field part f)).0
      (sym (outside_none (number_columns false column (take n s)) (item_numbers (field (card_field part f))) (many column) (columns_low false column (take n s) l) ∙ item_exactly (field (card_field part f)))
      ∙ eq-eqb (outside_in item_numbers column the_word) 0 z))

-- ---- the parts of an FS operand

word_fair : (w : Worded Item) → ItemText w.text w.value → Fair w
word_fair w t c l = outside_none (number_columns false c w.text) (item_numbers w.value) (item_count c t) (columns_low false c w.text l) ∙ item_exactly w.value

parts_all : {s : List ℕ} {ws : List (Worded Item)} → ListText "/" (WordIs ItemText) s ws → All Fair ws
parts_all t =
    elim t as (λ s ws t. All Fair ws) (λ s ws t. All Fair ws) [
      | ListText.item {x = x} {a = w} i (r → h) ↦ also (word_fair w (subst (λ (z : List ℕ). ItemText z w.value) (sym i.1) i.0)) h
      | RestText.nothing ↦ no_more
      | RestText.marked (l → h) ↦ h
    ]

pub words_fair : (o : List ℕ) (is : List Item) → FsText o is → All Fair (fs_words o)
words_fair o is t = parts_all (fs_worded o is t).0

-- ---- an item, as code takes it

module _ (card column : ℕ) (t : NotedRow) (s : List ℕ) where
  -- a field: its first number outside its limits, the row, and what is noted
  pub listed_field : (part : Part) (f : Field) (p : Places) (n : ℕ) → ItemSays s (a_field part f p n)
      → (out : ℕ) → out ≡ field_outside part f p column
      → (own : Field) → field_of own ≡ laid t.0.key (card_field part f)
      → (row : List ℕ) → row ≡ kept_row t.0.count out (field_of own) t.1
      → (m : Noted) → m ≡ field_noted t.0 card (part_of part) out
      → (rest : List ℕ) → rest ≡ drop n s
      → (r : Result Noted ℕ) (end : List ℕ) → ListSays card (1 + (column + n)) (column + n) (m, row) rest (rest_of "/" (worded item) rest) r end
      → ListSays card column column t s (list_of "/" (worded item) s) r end
  unfolding with_item card_field
  listed_field part f p n e out o own v row k m w rest d r end h =
      let q : out ≡ outside_in item_numbers column (the_word s part f p n e) = o ∙ outside_is s part f p n e column in
      listed_item card column t s (field (card_field part f)) n e.0 r end
      (subst (λ (x : List ℕ). ListSays card (1 + (column + n)) (column + n) (with_item card column (outside_in item_numbers column (the_word s part f p n e)) (field (card_field part f)) t) x (rest_of "/" (worded item) x) r end) d
      (subst (λ (x : NotedRow). ListSays card (1 + (column + n)) (column + n) x rest (rest_of "/" (worded item) rest) r end)
      (λ i. ((w ∙ ap (field_noted t.0 card (part_of part)) q) i, (k ∙ (λ j. kept_row t.0.count (q j) (v j) t.1)) i)) h))

  pub listed_cv : (n : ℕ) → ItemSays s (a_cv n) → (m : Noted) → m ≡ cv_noted t.0 card column → (part : List ℕ) → part ≡ drop n s
      → (r : Result Noted ℕ) (end : List ℕ) → ListSays card (1 + (column + n)) (column + n) (m, t.1) part (rest_of "/" (worded item) part) r end
      → ListSays card column column t s (list_of "/" (worded item) s) r end
  unfolding with_item
  listed_cv n e m w part d r end h =
      listed_item card column t s cv n e r end
      (subst (λ (x : List ℕ). ListSays card (1 + (column + n)) (column + n) (cv_noted t.0 card column, t.1) x (rest_of "/" (worded item) x) r end) d
      (subst (λ (x : Noted). ListSays card (1 + (column + n)) (column + n) (x, t.1) part (rest_of "/" (worded item) part) r end) w h))

-- ---- a card

-- the key is what it was, where the card could be read
pub key_kept : (card : ℕ) (t : NotedRow) (o : List ℕ) (n : Noted) (row : List ℕ) → ListSays card 7 7 t o (list_of "/" (worded item) o) (Ok n) row
    → n.key ≡ t.0.key
key_kept card t o n row h = go (list_of "/" (worded item) o) h
  where
    go : (x : Read (List (Worded Item))) → ListSays card 7 7 t o x (Ok n) row → n.key ≡ t.0.key
    go (read ws left) h = ap (λ (n : Noted). n.key) h.0 ∙ words_key card 7 ws t
    go (stopped left) h = absurd h
