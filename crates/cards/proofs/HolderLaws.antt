-- How the card of a field is sought, card by card: as many fields are counted as the cards so far hold, so that the first card with which they are more than the
-- field's place is the one it stands on. An accepted deck holds at most 64 fields, so that none of them is left out of the count.
use mathlib.Core.Path.{◌≡◌, refl, ap, sym, ◌∙◌}
use mathlib.Core.List.{List, [], ◌∷◌}
use mathlib.Core.Option.{Option}
use Prim.Native.Nat.{ℕ, suc, ◌+◌, ◌-◌, ◌≤◌, ◌<◌, min}
use native.Mathlib.Omega.{arith}
use lib.ListN.{length, drop, get_or, replicate, length-append, length-replicate, get_or-replicate, get_or-append}
use lib.Seq.{slice, get_or-append-add}
use Rattle.rules.specs.Base.{joined}
use Rattle.rules.specs.Places.{All}
use Rattle.rules.specs.Answer.{Answer, fine}
use Rattle.rules.specs.Reader.{Read, read, stopped, list_of}
use Rattle.rules.specs.Deck.{Card, u_card, fs_card, before_fs}
use Rattle.rules.specs.Grammar.{Item, item, fs_operand}
use Rattle.rules.specs.Words.{Worded, worded, values_of}
use Rattle.rules.specs.Asked.{fields_of, items_from, Asked as RuleAsked, asked_of}
use Rattle.rules.proofs.Refusals.AnswerLaws.{fine_same, bind_fine}
use Rattle.rules.proofs.Deck.AcceptedLaws.{fields_append}
use Rattle.rules.proofs.Refusals.CardsOutcome.{grammatical_fine}
use Rattle.rules.proofs.Columns.WordColumns.{plain_read, list_plain}
use Rattle.terms.specs.Meaning.{field_cards}
use Rattle.lines.specs.Meaning.{IsCard}
use Rattle.std.specs.Prelude.{Ok, Err}
use Rattle.cards.specs.declared.Noted.{Noted}
use Rattle.cards.specs.declared.CardAt.{CardAt}
use Rattle.cards.specs.declared.CardAt.TheVariants.{UAt}
use Rattle.terms.specs.declared.Asked.{Asked}
use Rattle.cards.specs.declared.CardRefusal.{CardRefusal}
use Rattle.cards.specs.Selected.{NotedRow, ListSays, with_words}
use Rattle.cards.specs.Deck.{cards_in, fs_first, OperandAt, Operandless, CardAtSays, FsFine}
use Rattle.cards.specs.Promise.{Accepts, DeckSays, InOrder, card_of_field}
use Rattle.cards.proofs.NotedLaws.{all_fields, many_fields}
use Rattle.cards.proofs.RowLaws.{words_key, words_many}
use Rattle.cards.proofs.DeckLaws.{no_more_lem}
use Rattle.cards.proofs.OrderedLaws.{asked_order, all_cards, first_known, asked_read}
use Rattle.cards.proofs.PromiseLaws.{accepted, refused_as}

-- ---- the card of a field

-- a field of the first card, and one behind it
card_first : (card : ℕ) (c : List Item) (cs : List (List Item)) (i : ℕ) → i < many_fields c → get_or (field_cards card (c ∷ cs)) i 0 ≡ card
card_first card c cs i l =
    get_or-append (replicate (many_fields c) card) (field_cards (suc card) cs) 0 i (omega (arith, length-replicate (many_fields c) card))
    ∙ get_or-replicate (many_fields c) i card 0 l

card_behind : (card : ℕ) (c : List Item) (cs : List (List Item)) (i : ℕ) → get_or (field_cards card (c ∷ cs)) (many_fields c + i) 0 ≡ get_or (field_cards (suc card) cs) i 0
card_behind card c cs i =
    ap (λ (n : ℕ). get_or (field_cards card (c ∷ cs)) (n + i) 0) (sym (length-replicate (many_fields c) card))
    ∙ get_or-append-add (replicate (many_fields c) card) (field_cards (suc card) cs) i 0

-- ---- cards that can be read

-- the first of them, and the others
record Reading (card : ℕ) (o : List ℕ) (os : List (List ℕ)) (cs : List (List Item)) : Type 0 where
  items : List Item
  others : List (List Item)
  are : cs ≡ items ∷ others
  left : List ℕ
  reads : fs_operand o ≡ read items left
  next : items_from (suc card) os ≡ fine others

reading : (card : ℕ) (o : List ℕ) (os : List (List ℕ)) (cs : List (List Item)) → items_from card (o ∷ os) ≡ fine cs → Reading card o os cs
reading card o os cs e =
    let w = bind_fine _ _ cs e in
    let x = bind_fine (items_from (suc card) os) _ cs w.2 in
    let g = grammatical_fine card before_fs o (fs_operand o) w.0 w.1 in
    record { items = w.0; others = x.0; are = sym (fine_same (w.0 ∷ x.0) cs x.2); left = g.0; reads = g.1; next = x.1 }

-- what is noted of it is that of its words
noted_words : (card : ℕ) (t : NotedRow) (o : List ℕ) (is : List Item) (left : List ℕ) → fs_operand o ≡ read is left → (n : Noted) (row : List ℕ)
    → ListSays card (suc before_fs) (suc before_fs) t o (list_of "/" (worded item) o) (Ok n) row → (ws : List (Worded Item)) × (n ≡ (with_words card (suc before_fs) ws t).0) × (values_of ws ≡ is)
unfolding fs_operand
noted_words card t o is left e n row says = go (list_of "/" (worded item) o) refl says
  where
    go : (x : Read (List (Worded Item))) → list_of "/" (worded item) o ≡ x → ListSays card (suc before_fs) (suc before_fs) t o x (Ok n) row
        → (ws : List (Worded Item)) × (n ≡ (with_words card (suc before_fs) ws t).0) × (values_of ws ≡ is)
    go (read ws more) q h = let m = h.0 in let p : read (values_of ws) more ≡ read is left = sym (sym (list_plain "/" item o) ∙ ap plain_read q) ∙ e in (ws, m, cc)
    go (stopped more) q h = absurd h

-- and it does not stop
no_stop : (card : ℕ) (t : NotedRow) (o : List ℕ) (is : List Item) (left : List ℕ) → fs_operand o ≡ read is left → (unread : ℕ) (row : List ℕ)
    → ListSays card (suc before_fs) (suc before_fs) t o (list_of "/" (worded item) o) (Err unread) row → ⊥
unfolding fs_operand
no_stop card t o is left e unread row says = go (list_of "/" (worded item) o) refl says
  where
    go : (x : Read (List (Worded Item))) → list_of "/" (worded item) o ≡ x → ListSays card (suc before_fs) (suc before_fs) t o x (Err unread) row → ⊥
    go (read ws more) q h = h
    go (stopped more) q h =
        let p : stopped more ≡ read is left = sym (sym (list_plain "/" item o) ∙ ap plain_read q) ∙ e in
        let z : ◌≡◌ {A = ℕ} 0 1 = cc in
        omega arith

-- its fields are counted
counts : (card : ℕ) (t : NotedRow) (o : List ℕ) (is : List Item) (left : List ℕ) → fs_operand o ≡ read is left → t.0.count ≤ 64 → (n : Noted) (row : List ℕ)
    → ListSays card (suc before_fs) (suc before_fs) t o (list_of "/" (worded item) o) (Ok n) row → n.count ≡ min 64 (t.0.count + many_fields is)
counts card t o is left e l n row says =
    let w = noted_words card t o is left e n row says in
    ap (λ n. n.count) w.1 ∙ words_many card (suc before_fs) w.0 t l ∙ ap (λ (c : List Item). min 64 (t.0.count + many_fields c)) w.2

-- and the key stays
holds_key : (card : ℕ) (t : NotedRow) (o : List ℕ) (is : List Item) (left : List ℕ) → fs_operand o ≡ read is left → (n : Noted) (row : List ℕ)
    → ListSays card (suc before_fs) (suc before_fs) t o (list_of "/" (worded item) o) (Ok n) row → n.key ≡ t.0.key
holds_key card t o is left e n row says = let w = noted_words card t o is left e n row says in ap (λ n. n.key) w.1 ∙ words_key card (suc before_fs) w.0 t

-- ---- card by card

-- the field stands on none of the cards before this card, which hold so many fields: its card is sought among the others
pub record Seeking (deck : List ℕ) (from field count card at : ℕ) : Type 0 where
  pub low : card ≤ 2 + at
  pub others : List (List Item)
  pub reads : items_from card (fs_first (cards_in (drop at deck))) ≡ fine others
  pub few : count + length (all_fields others) ≤ 64
  pub before : count ≤ field
  pub on : (cs : List (List Item)) → items_from 2 (fs_first (cards_in (drop from deck))) ≡ fine cs → get_or (field_cards card others) (field - count) 0 ≡ get_or (field_cards 2 cs) field 0

pub seeking_start : (deck : List ℕ) (from field : ℕ) → FsFine (fs_first (cards_in (drop from deck))) → Seeking deck from field 0 2 from
seeking_start deck from field h =
    record {
      low = omega arith;
      others = h.cards;
      reads = h.items;
      few = omega (arith, h.few);
      before = omega arith;
      on =
          λ cs e.
          let z : field - 0 ≡ field = omega arith in
          let s : h.cards ≡ cs = fine_same h.cards cs (sym h.items ∙ e) in
          λ i. get_or (field_cards 2 (s i)) (z i) 0;
    }

module _ (deck : List ℕ) (from field : ℕ) (t : NotedRow) (card at : ℕ) (g : Seeking deck from field t.0.count card at) where
  abbrev count : ℕ
  count = t.0.count

  -- this is the card of the field
  abbrev pub Held : ℕ → Type 0
  Held r = (cs : List (List Item)) → items_from 2 (fs_first (cards_in (drop from deck))) ≡ fine cs → r ≡ get_or (field_cards 2 cs) field 0

  -- no FS card is left
  ended : fs_first (cards_in (drop at deck)) ≡ [] → Held 0
  ended e cs f =
      let s : [] ≡ g.others = fine_same [] g.others (sym (ap (items_from card) e) ∙ g.reads) in
      ap (λ (os : List (List Item)). get_or (field_cards card os) (field - count) 0) s ∙ g.on cs f

  pub seeking_none : Operandless (cards_in (drop at deck)) → Held 0
  seeking_none h = ended (no_more_lem (cards_in (drop at deck)) h)

  pub seeking_u : (b start end next : ℕ) → OperandAt (u_card b) deck at start end next → Held 0
  seeking_u b start end next h = ended (ap fs_first h.is)

  -- an FS card, and what was read of it
  module _ (start end next : ℕ) (h : OperandAt fs_card deck at start end next) where
    abbrev operand : List ℕ
    operand = slice start end deck

    here : Reading card operand (fs_first (cards_in (drop next deck))) g.others
    here = reading card operand (fs_first (cards_in (drop next deck))) g.others (sym (ap (λ (cs : List (Option Card)). items_from card (fs_first cs)) h.is) ∙ g.reads)

    -- it can be read
    pub seeking_stop : (unread : ℕ) (row : List ℕ) → ListSays card (suc before_fs) (suc before_fs) t operand (list_of "/" (worded item) operand) (Err unread) row → ⊥
    seeking_stop unread row says = no_stop card t operand here.items here.left here.reads unread row says

    module _ (n : Noted) (row : List ℕ) (says : ListSays card (suc before_fs) (suc before_fs) t operand (list_of "/" (worded item) operand) (Ok n) row) where
      all_few : count + (many_fields here.items + length (all_fields here.others)) ≤ 64
      all_few =
          omega (
            arith,
            g.few,
            ap (λ (cs : List (List Item)). length (all_fields cs)) here.are,
            ap length (fields_append here.items (joined here.others)),
            length-append (fields_of here.items) (all_fields here.others),
          )

      count_is : n.count ≡ count + many_fields here.items
      count_is = omega (arith, all_few, counts card t operand here.items here.left here.reads (omega (arith, all_few)) n row says)

      pub seeking_key : n.key ≡ t.0.key
      seeking_key = holds_key card t operand here.items here.left here.reads n row says

      -- the field stands on it
      pub seeking_found : field < n.count → Held card
      seeking_found l cs e =
          sym (card_first card here.items here.others (field - count) (omega (arith, l, count_is, g.before)))
          ∙ sym (ap (λ (os : List (List Item)). get_or (field_cards card os) (field - count) 0) here.are)
          ∙ g.on cs e

      -- or it does not: the next card comes
      pub seeking_more : n.count ≤ field → Seeking deck from field n.count (suc card) next
      seeking_more l =
          record {
            low = omega (arith, g.low, h.on);
            others = here.others;
            reads = here.next;
            few = omega (arith, all_few, count_is);
            before = l;
            on =
                λ cs e.
                let z : many_fields here.items + (field - n.count) ≡ field - count = omega (arith, l, count_is) in
                sym (card_behind card here.items here.others (field - n.count))
                ∙ ap (λ (k : ℕ). get_or (field_cards card (here.items ∷ here.others)) k 0) z
                ∙ sym (ap (λ (os : List (List Item)). get_or (field_cards card os) (field - count) 0) here.are)
                ∙ g.on cs e;
          }

-- ---- the deck

module _ (deck row : List ℕ) where
  -- a refused deck has no card of a field
  pub refused_card : (v : CardRefusal) → DeckSays deck (Err v) row → (field : ℕ) → 0 ≡ card_of_field (asked_of deck) field
  refused_card v h field = sym (ap (λ (x : Answer RuleAsked). card_of_field x field) (refused_as deck row v h.reads))

  -- what an accepted deck asks for was read of its cards, which are in order
  module _ (asked : Asked) (h : DeckSays deck (Ok asked) row) where
    asks : (a : RuleAsked) × (asked_of deck ≡ fine a) × Accepts asked row a
    asks = accepted deck row asked h.reads

    order : (fs : ℕ) × InOrder deck fs
    order = asked_order deck asks.0 asks.1

    pub accepted_cards : All IsCard (cards_in deck)
    accepted_cards = all_cards deck order.0 order.1

    pub accepted_first : (x : CardAt) → CardAtSays deck 0 x → ((start end next : ℕ) → x ≡ UAt start end next → ⊥) → ⊥
    accepted_first x k t = first_known deck order.0 order.1 x k t

    module _ (start end next : ℕ) (u : OperandAt (u_card (start - 0)) deck 0 start end next) where
      cards_read : items_from 2 (fs_first (cards_in (drop next deck))) ≡ fine asks.0.cards
      cards_read = asked_read deck order.0 order.1 start end next u asks.0 asks.1

      -- the FS cards hold at most 64 fields
      pub accepted_fine : FsFine (fs_first (cards_in (drop next deck)))
      accepted_fine = record { cards = asks.0.cards; items = cards_read; few = omega (arith, asks.2.means.count, asks.2.means.few) }

      -- the card of a field among the FS cards is that of the deck
      pub accepted_card : (field c : ℕ) → ((cs : List (List Item)) → items_from 2 (fs_first (cards_in (drop next deck))) ≡ fine cs → c ≡ get_or (field_cards 2 cs) field 0)
          → c ≡ card_of_field (asked_of deck) field
      accepted_card field c k = k asks.0.cards cards_read ∙ sym (ap (λ (x : Answer RuleAsked). card_of_field x field) asks.1)
