-- What a deck whose cards are in order says, by what was read of its U card and of its FS cards: refusal 3 at the first that could not be read, or what
-- refusals 4 to 7 leave. The cards of an accepted deck are in order, and what it asks for was read of them.
use mathlib.Core.Path.{◌≡◌, refl, ap, sym, ◌∙◌, subst}
use mathlib.Core.List.{List, [], ◌∷◌, ◌++◌, map, map-map, map-id}
use mathlib.Core.Option.{some}
use Prim.Native.Nat.{ℕ, suc, ◌+◌, ◌-◌, ◌≤◌}
use native.Mathlib.Omega.{arith}
use lib.ListN.{length, drop}
use lib.Seq.{slice}
use Rattle.rules.specs.Places.{All, no_more, also, Found, Both}
use Rattle.rules.specs.Answer.{Refusal, Answer, fine, refuse, refused, refused_at, ◌>>=◌}
use Rattle.rules.specs.Reader.{Read, read, stopped, list_of}
use Rattle.rules.specs.Deck.{Card, u_card, fs_card, end_card}
use Rattle.rules.specs.Order.{Operands, operands_of}
use Rattle.rules.specs.Grammar.{Parameter, Item, parameter, u_operand, fs_operand}
use Rattle.rules.specs.Texts.{UText, FsText}
use Rattle.rules.specs.Words.{Worded, worded, parts_of, u_words, fs_words, values_of}
use Rattle.rules.specs.Asked.{grammatical, items_from, Cards, cards_of, Asked as RuleAsked, asked_of}
use Rattle.rules.proofs.Refusals.AnswerLaws.{not_fine, fine_same, refuse_same, bind_fine, fine_bind, then_fine}
use Rattle.rules.proofs.Refusals.Given.{Outcome, found_low}
use Rattle.rules.proofs.Grammar.GrammarLaws.{u_exactly, u_left, fs_exactly, fs_left}
use Rattle.rules.proofs.Refusals.CardsOutcome.{Stops, items_outcome, items_fine, read_text}
use Rattle.rules.proofs.Base.AllLaws.{both_map, both_first, both_length, both_maps, all_map}
use Rattle.rules.proofs.Columns.ColumnSteps.{grammatical_at}
use Rattle.rules.proofs.Columns.WordedLaws.{fs_worded}
use Rattle.rules.proofs.Columns.WordColumns.{plain_read, list_plain}
use Rattle.lines.specs.Meaning.{IsCard}
use Rattle.lines.specs.Ordering.{card_count}
use Rattle.keys.specs.Keys.{key_of}
use Rattle.cards.specs.declared.CardAt.{CardAt}
use Rattle.cards.specs.declared.CardAt.TheVariants.{UAt, FsAt, NoOperand}
use Rattle.cards.specs.declared.URead.{URead}
use Rattle.cards.specs.declared.Unread.{Unread}
use Rattle.cards.specs.declared.Noted.{Noted}
use Rattle.std.specs.Prelude.{Result, Ok, Err}
use Rattle.cards.specs.Selected.{NotedRow, no_selection, with_cards}
use Rattle.cards.specs.Parameters.{UListed}
use Rattle.cards.specs.Deck.{cards_in, fs_first, OperandAt, Operandless, CardAtSays, FsRead, FsSaid}
use Rattle.cards.specs.CardRefusals.{judged_as}
use Rattle.cards.specs.Promise.{card_refusal, refused_deck, DeckAnswered, DeckReads, InOrder}
use Rattle.cards.proofs.RowLaws.{Fair, Holds, holds_cards}
use Rattle.cards.proofs.ListedLaws.{words_fair}
use Rattle.cards.proofs.DeckLaws.{fs_all, cards_ordered}
use Rattle.cards.proofs.RefusalLaws.{judging, judged_said}

-- ---- the cards that could not be read, and how many there are

items_refused : (os : List (List ℕ)) (x : Refusal) → items_from 2 os ≡ refuse x → (x.number ≡ 3) × (2 ≤ x.place)
items_refused os x e =
    let o = subst (Outcome 3 (λ p. Found (λ o. Stops (fs_operand o)) p 2 os)) e (items_outcome 2 os) in
    (o.0, found_low o.1)

-- the parts of FS cards that could be read: their numbers, and the items that they are
values_of_lem : (os : List (List ℕ)) (cs : List (List Item)) → Both FsText os cs → All (All Fair) (map fs_words os) × (map values_of (map fs_words os) ≡ cs)
values_of_lem os cs b = (
  all_map fs_words (both_first words_fair b),
  map-map values_of fs_words os ∙ both_maps (λ o. values_of (fs_words o)) (λ c. c) (λ o c t. (fs_worded o c t).1) b ∙ map-id cs,
)

-- ---- the deck

operands_in : (deck : List ℕ) (fs : ℕ) → InOrder deck fs → (os : Operands) × (operands_of deck ≡ fine os) × (length os.fs ≡ fs)
operands_in deck fs e =
    let b = bind_fine (operands_of deck) _ (2 + fs) e in
    let n : 2 + length b.0.fs ≡ 2 + fs = fine_same _ _ b.2 in
    (b.0, b.1, omega arith)

-- refusals 1 and 2
pub order_refused : (deck : List ℕ) (number place : ℕ) → card_count (operands_of deck) ≡ refused number place → (row : List ℕ) → DeckReads deck (refused_deck number place 0) row
unfolding asked_of ◌>>=◌
order_refused deck number place e row = go (operands_of deck) refl e
  where
    go : (x : Answer Operands) → operands_of deck ≡ x → card_count x ≡ refused number place → DeckReads deck (refused_deck number place 0) row
    go (fine os) q e = absurd (not_fine _ _ (sym e))
    go (refuse r) q e = let s = refuse_same _ _ (sym e) in rw q (λ i. card_refusal (s i).number (s i).place (s i).column)

-- there are a U card and an END card
pub order_many : (deck : List ℕ) (n : ℕ) → card_count (operands_of deck) ≡ fine n → 2 ≤ n
order_many deck n e =
    let b = bind_fine (operands_of deck) _ n e in
    let m : 2 + length b.0.fs ≡ n = fine_same _ _ b.2 in
    omega arith

pub in_order : (deck : List ℕ) (n : ℕ) → card_count (operands_of deck) ≡ fine n → InOrder deck (n - 2)
in_order deck n e = let m : n ≡ 2 + (n - 2) = omega (arith, order_many deck n e) in e ∙ ap (λ (k : ℕ). fine k) m

-- the cards of an accepted deck are in order
pub asked_order : (deck : List ℕ) (a : RuleAsked) → asked_of deck ≡ fine a → (fs : ℕ) × InOrder deck fs
unfolding asked_of
asked_order deck a e = let b = bind_fine (operands_of deck) _ a e in (length b.0.fs, fine_bind (operands_of deck) _ b.0 b.1)

module _ (deck : List ℕ) (fs : ℕ) (order : InOrder deck fs) where
  abbrev operands : Operands
  operands = (operands_in deck fs order).0

  cards_are : cards_in deck ≡ some (u_card operands.before operands.u) ∷ map some (map fs_card operands.fs ++ (end_card ∷ []))
  cards_are = cards_ordered deck operands (operands_in deck fs order).1

  -- each line is a card
  pub all_cards : All IsCard (cards_in deck)
  all_cards = subst (All IsCard) (sym cards_are) (also tt (each (map fs_card operands.fs ++ (end_card ∷ []))))
    where
      each : (cs : List Card) → All IsCard (map some cs)
      each [] = no_more
      each (c ∷ cs) = also tt (each cs)

  -- the first card is a U card
  first_u : Operandless (cards_in deck) → ⊥
  first_u h = subst Operandless cards_are h

  first_not_fs : (start end next : ℕ) → OperandAt fs_card deck 0 start end next → ⊥
  first_not_fs start end next h =
      let e : some (u_card operands.before operands.u) ∷ map some (map fs_card operands.fs ++ (end_card ∷ [])) ≡ some (fs_card (slice start end deck)) ∷ cards_in (drop next deck)
      = sym cards_are ∙ h.is in
      let z : ◌≡◌ {A = ℕ} 0 1 = cc in
      omega arith

  -- so that what was read of it has the number of `UAt`
  pub first_known : (r : CardAt) → CardAtSays deck 0 r → ((start end next : ℕ) → r ≡ UAt start end next → ⊥) → ⊥
  first_known (UAt start end next) h k = k start end next refl
  first_known (FsAt start end next) h k = first_not_fs start end next h
  first_known NoOperand h k = first_u h

  asked_by : asked_of deck ≡ (cards_of operands >>= judging operands)
  unfolding asked_of
  asked_by = fine_bind (operands_of deck) _ operands (operands_in deck fs order).1

  -- what an accepted deck asks for was read of its FS cards
  asked_items : (a : RuleAsked) → asked_of deck ≡ fine a → items_from 2 operands.fs ≡ fine a.cards
  unfolding cards_of
  asked_items a e =
      let c = bind_fine (cards_of operands) _ a (sym asked_by ∙ e) in
      let u = bind_fine (grammatical 1 operands.before operands.u (u_operand operands.u)) _ c.0 c.1 in
      let i = bind_fine (items_from 2 operands.fs) _ c.0 u.2 in
      let o = then_fine _ _ a c.2 in
      let k = bind_fine _ _ a o.1 in
      let l = then_fine _ _ a k.2 in
      i.1 ∙ ap (λ (x : Cards). fine x.items) (fine_same _ c.0 i.2) ∙ ap (λ (x : RuleAsked). fine x.cards) (fine_same _ a l.1)

  module _ (start end next : ℕ) (h : OperandAt (u_card (start - 0)) deck 0 start end next) where
    first_is_lem : some (u_card operands.before operands.u) ∷ map some (map fs_card operands.fs ++ (end_card ∷ [])) ≡ some (u_card (start - 0) (slice start end deck)) ∷ cards_in (drop next deck)
    first_is_lem = sym cards_are ∙ h.is

    before_is : start + 1 ≡ suc operands.before
    before_is = let e = first_is_lem in let b : operands.before ≡ start - 0 = cc in omega arith

    u_is : slice start end deck ≡ operands.u
    u_is = let e = first_is_lem in cc

    fs_are : fs_first (cards_in (drop next deck)) ≡ operands.fs
    fs_are =
        let e = first_is_lem in
        let t : map some (map fs_card operands.fs ++ (end_card ∷ [])) ≡ cards_in (drop next deck) = cc in
        sym (ap fs_first t) ∙ fs_all operands.fs

    pub asked_read : (a : RuleAsked) → asked_of deck ≡ fine a → items_from 2 (fs_first (cards_in (drop next deck))) ≡ fine a.cards
    asked_read a e = ap (items_from 2) fs_are ∙ asked_items a e

    abbrev words : List ℕ → Read (List (Worded Parameter))
    words s = list_of "," (worded parameter) s

    -- what was read of the U card
    abbrev pub Listed : Result URead Unread → Type 0
    Listed r = UListed (start + 1) (slice start end deck) (words (slice start end deck)) r

    listed : (r : Result URead Unread) → Listed r → UListed (suc operands.before) operands.u (words operands.u) r
    listed r l = subst (λ (s : List ℕ). UListed (suc operands.before) s (words s) r) u_is (subst (λ (c : ℕ). UListed c (slice start end deck) (words (slice start end deck)) r) before_is l)

    u_plain : (x : Read (List (Worded Parameter))) → words operands.u ≡ x → u_operand operands.u ≡ plain_read x
    unfolding u_operand
    u_plain x e = sym (list_plain "," parameter operands.u) ∙ ap plain_read e

    -- the U card could not be read
    pub unread_u : (unread : Unread) → Listed (Err unread) → (row : List ℕ) → DeckReads deck (refused_deck 3 unread.card unread.column) row
    unfolding cards_of ◌>>=◌
    unread_u unread l row = go (words operands.u) refl (listed (Err unread) l)
      where
        go : (x : Read (List (Worded Parameter))) → words operands.u ≡ x → UListed (suc operands.before) operands.u x (Err unread) → DeckReads deck (refused_deck 3 unread.card unread.column) row
        go (read ws left) e l = absurd l
        go (stopped left) e (one, (k, m, d, u)) =
            let c : operands.before + suc k ≡ unread.column = omega arith in
            let g : grammatical 1 operands.before operands.u (u_operand operands.u) ≡ refused_at 3 1 unread.column
            = grammatical_at 1 operands.before operands.u (u_operand operands.u) k m (u_plain (stopped left) e ∙ ap stopped d) ∙ ap (refused_at 3 1) c in
            let q : asked_of deck ≡ refused_at 3 1 unread.column = asked_by ∙ rw g refl in
            subst (λ (a : Answer RuleAsked). DeckAnswered a (refused_deck 3 unread.card unread.column) row) (sym q) (λ i. card_refusal 3 (one i) unread.column)

    module _ (r : URead) (l : Listed (Ok r)) where
      abbrev key : ℕ
      key = key_of r.state.input

      abbrev pub FsListed : Result Noted Unread → List ℕ → Type 0
      FsListed f row = FsSaid 2 (no_selection (key_of r.state.input)) (fs_first (cards_in (drop next deck))) f row

      fs_said : (f : Result Noted Unread) (row : List ℕ) → FsListed f row → FsSaid 2 (no_selection key) operands.fs f row
      fs_said f row k = subst (λ (os : List (List ℕ)). FsSaid 2 (no_selection key) os f row) fs_are k

      -- the parameters could be read
      read_of : (ws : List (Worded Parameter)) (left : List ℕ) → words operands.u ≡ read ws left
          → grammatical 1 operands.before operands.u (u_operand operands.u) ≡ fine (values_of ws)
      read_of ws left e = ap (grammatical 1 operands.before operands.u) (u_plain (read ws left) e)

      -- an FS card could not be read
      pub unread_fs : (f : Unread) (row : List ℕ) → FsListed (Err f) row → DeckReads deck (refused_deck 3 f.card f.column) row
      unfolding cards_of ◌>>=◌
      unread_fs f row k = go (words operands.u) refl (listed (Ok r) l) (items_from 2 operands.fs) refl (fs_said (Err f) row k)
        where
          go : (x : Read (List (Worded Parameter))) → words operands.u ≡ x → UListed (suc operands.before) operands.u x (Ok r)
              → (y : Answer (List (List Item))) → items_from 2 operands.fs ≡ y → FsRead 2 (no_selection key) operands.fs y (Err f) row → DeckReads deck (refused_deck 3 f.card f.column) row
          go (stopped left) e l y q w = absurd l
          go (read ws left) e l (fine cs) q w = absurd w
          go (read ws left) e l (refuse x) q w =
              let v : asked_of deck ≡ refuse x = asked_by ∙ rw (read_of ws left e, q) refl in
              subst (λ (a : Answer RuleAsked). DeckAnswered a (refused_deck 3 f.card f.column) row) (sym v)
              (λ i. card_refusal (sym (items_refused operands.fs x q).0 i) (w.0 i) (w.1 i))

      -- all could be read
      pub all_read : (noted : Noted) (row : List ℕ) → FsListed (Ok noted) row → DeckReads deck (judged_as r.state r.outside noted fs) row
      unfolding cards_of ◌>>=◌ u_words
      all_read noted row k = go (words operands.u) refl (listed (Ok r) l) (items_from 2 operands.fs) refl (fs_said (Ok noted) row k)
        where
          go : (x : Read (List (Worded Parameter))) → words operands.u ≡ x → UListed (suc operands.before) operands.u x (Ok r)
              → (y : Answer (List (List Item))) → items_from 2 operands.fs ≡ y → FsRead 2 (no_selection key) operands.fs y (Ok noted) row → DeckReads deck (judged_as r.state r.outside noted fs) row
          go (stopped left) e l y q w = absurd l
          go (read ws left) e l (refuse x) q w = absurd w
          go (read ws left) e l (fine cs) q w =
              let b : Both FsText operands.fs cs = both_map (λ o is x. read_text fs_operand FsText fs_exactly fs_left o is x.0 x.1) (items_fine 2 operands.fs cs q) in
              let v = values_of_lem operands.fs cs b in
              let m : fs ≡ length cs = sym (operands_in deck fs order).2 ∙ both_length b in
              let t : UText operands.u (values_of ws) = read_text u_operand UText u_exactly u_left operands.u (values_of ws) left (u_plain (read ws left) e) in
              let a : asked_of deck ≡ judging operands (record { parameters = values_of ws; items = cs }) = asked_by ∙ rw (read_of ws left e, q) refl in
              subst (λ (x : Answer RuleAsked). DeckAnswered x (judged_as r.state r.outside noted fs) row) (sym a)
              (judged_said operands r.state r.outside ws t (ap parts_of e) l.0 l.1 (noted, row) w cs b
              (subst (λ (x : NotedRow). Holds key x cs) (sym w) (subst (Holds key (with_cards 2 (map fs_words operands.fs) (no_selection key))) v.1 (holds_cards key (map fs_words operands.fs) v.0))) fs m)
