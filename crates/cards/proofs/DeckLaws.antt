-- Where the operand of a card stands in its deck, and how the FS cards are read one after another: what is right of the cards from here on is right of
-- all of them.
use mathlib.Core.Path.{◌≡◌, refl, ap, sym, ◌∙◌, subst}
use mathlib.Core.List.{List, [], ◌∷◌, ◌++◌, map}
use mathlib.Core.Option.{Option, none, some}
use Prim.Native.Nat.{ℕ, suc, ◌+◌, ◌-◌, ◌≤◌, ◌<◌}
use native.Mathlib.Omega.{arith}
use lib.ListN.{length, take, drop, length-drop}
use lib.Seq.{slice, take-take, drop-drop, length-slice}
use Rattle.rules.specs.Places.{All}
use Rattle.rules.specs.Answer.{Answer, fine, refuse, ◌>>=◌}
use Rattle.rules.specs.Reader.{Read, read, stopped, list_of}
use Rattle.rules.specs.Deck.{lines, Card, u_card, fs_card, end_card, before_fs, card_of}
use Rattle.rules.specs.Order.{Operands, operands_of}
use Rattle.rules.specs.Grammar.{Item, item, fs_operand}
use Rattle.rules.specs.Words.{Worded, worded, parts_of, fs_words, values_of}
use Rattle.rules.specs.Asked.{items_from}
use Rattle.rules.proofs.Base.Lists.{slice_from, slice_part}
use Rattle.rules.proofs.Base.AllLaws.{all_head}
use Rattle.rules.proofs.Refusals.AnswerLaws.{bind_fine}
use Rattle.rules.proofs.Refusals.OrderOutcome.{order_fine}
use Rattle.rules.proofs.Deck.ScanLaws.{cards_each}
use Rattle.rules.proofs.Columns.WordColumns.{plain_read, list_plain}
use Rattle.std.specs.Prelude.{None, Some, Result, Ok, Err}
use Rattle.lines.specs.declared.CardRead.{CardRead}
use Rattle.lines.specs.declared.LineRead.{LineRead}
use Rattle.lines.specs.Meaning.{CardSays, IsCard, LineSays}
use Rattle.cards.specs.declared.Noted.{Noted}
use Rattle.cards.specs.declared.Unread.{Unread}
use Rattle.cards.specs.Selected.{NotedRow, ListSays, no_selection, with_card, with_cards}
use Rattle.cards.specs.Deck.{cards_in, fs_first, OperandAt, Operandless, FsRead, FsSaid}

-- ---- a part of a part

slice_within : (a e f t : ℕ) (l : List ℕ) → a + t ≤ e → slice f t (slice a e l) ≡ slice (a + f) (a + t) l
slice_within a e f t l h =
    ap (drop f) (sym (slice_from a t (take e l)) ∙ ap (drop a) (take-take (a + t) e l h)) ∙ drop-drop f a (take (a + t) l)

-- what is said of the list that a card's operand is lent as, `&deck[from..to]`
pub lent_list : (card : ℕ) (t : NotedRow) (deck : List ℕ) (from to : ℕ) → from ≤ to → (r : Result Noted ℕ) (row : List ℕ)
    → ListSays card 7 7 t (take (to - from) (drop from deck)) (list_of "/" (worded item) (take (to - from) (drop from deck))) r row
    → ListSays card 7 7 t (slice from to deck) (list_of "/" (worded item) (slice from to deck)) r row
lent_list card t deck from to h r row = subst (λ (o : List ℕ). ListSays card 7 7 t o (list_of "/" (worded item) o) r row) (sym (slice_part from to deck h))

-- ---- the card at a place

module _ (deck : List ℕ) (at : ℕ) (line : LineRead) (h : LineSays deck at (Some line)) where
  abbrev bytes : List ℕ
  bytes = slice at line.end deck

  line_first : cards_in (drop at deck) ≡ card_of bytes ∷ cards_in (drop line.next deck)
  line_first = ap (map card_of) h.4

  -- what is said of the line as it is lent, `&deck[at..line.end]`
  pub lent_line : (r : CardRead) → CardSays (take (line.end - at) (drop at deck)) (Some r) → CardSays bytes (Some r)
  lent_line r = subst (λ (l : List ℕ). CardSays l (Some r)) (sym (slice_part at line.end deck h.1))

  pub line_card : All IsCard (cards_in (drop at deck)) → IsCard (card_of bytes)
  line_card a = all_head (subst (All IsCard) line_first a)

  pub line_length : length bytes ≡ line.end - at
  line_length = length-slice at line.end deck h.2

  pub operand_at : (card : List ℕ → Card) (start stop : ℕ) → start ≤ stop → stop ≤ length bytes → card_of bytes ≡ some (card (slice start stop bytes))
      → OperandAt card deck at (at + start) (at + stop) line.next
  operand_at card start stop l m e =
      let n : at + stop ≤ line.end = omega (arith, line_length, h.1) in
      record {
        on = omega (arith, h.0, h.1, h.3);
        within = omega (arith, h.3);
        from = omega arith;
        upto = omega (arith, h.2);
        is = line_first ∙ ap (◌∷ cards_in (drop line.next deck)) (e ∙ ap (λ (o : List ℕ). some (card o)) (slice_within at line.end start stop deck n));
      }

  pub end_at : card_of bytes ≡ some end_card → Operandless (cards_in (drop at deck))
  end_at e = subst Operandless (sym (line_first ∙ ap (◌∷ cards_in (drop line.next deck)) e)) tt

pub nothing_at : (deck : List ℕ) (at : ℕ) → LineSays deck at None → Operandless (cards_in (drop at deck))
nothing_at deck at h = subst Operandless (sym (ap (map card_of) h.1)) tt

-- ---- the FS cards

pub no_more_lem : (cs : List (Option Card)) → Operandless cs → fs_first cs ≡ []
no_more_lem [] h = refl
no_more_lem (none ∷ cs) h = refl
no_more_lem (some (u_card b o) ∷ cs) h = absurd h
no_more_lem (some (fs_card o) ∷ cs) h = absurd h
no_more_lem (some end_card ∷ cs) h = refl

module _ (card : ℕ) (t : NotedRow) (row o : List ℕ) (os : List (List ℕ)) where
  -- a card whose operand could be read, and then the others
  pub said_card : (r : Result Noted Unread) (ws : List (Worded Item)) (left : List ℕ) → list_of "/" (worded item) o ≡ read ws left → FsSaid (suc card) (with_card card ws t) os r row → FsSaid card t (o ∷ os) r row
  unfolding ◌>>=◌ fs_operand fs_words
  said_card r ws left e h =
      let p : fs_operand o ≡ read (values_of ws) left = sym (list_plain "/" item o) ∙ ap plain_read e in
      let q : fs_words o ≡ ws = ap parts_of e in
      rw p (go q (items_from (suc card) os) r h)
    where
      go : fs_words o ≡ ws → (x : Answer (List (List Item))) (r : Result Noted Unread) → FsRead (suc card) (with_card card ws t) os x r row
          → FsRead card t (o ∷ os) (x >>= λ more. fine (values_of ws ∷ more)) r row
      go q (fine cs) (Ok n) h = h ∙ ap (λ (v : List (Worded Item)). with_cards (suc card) (map fs_words os) (with_card card v t)) (sym q)
      go q (fine cs) (Err u) h = absurd h
      go q (refuse x) (Ok n) h = absurd h
      go q (refuse x) (Err u) h = h

  -- and one that could not
  pub said_stop : (k : ℕ) → k ≤ length o → list_of "/" (worded item) o ≡ stopped (drop k o) → (column : ℕ) → column ≡ suc before_fs + k → FsSaid card t (o ∷ os) (Err (record { card = card; column = column })) row
  unfolding ◌>>=◌ fs_operand
  said_stop k l e column c =
      let p : fs_operand o ≡ stopped (drop k o) = sym (list_plain "/" item o) ∙ ap plain_read e in
      let n : length o - length (drop k o) ≡ k = omega (arith, length-drop k o) in
      rw p (refl, c ∙ (let z : suc before_fs + k ≡ before_fs + suc (length o - length (drop k o)) = omega arith in z))

-- what is right of the FS cards from here on is right of all of them
pub record Selecting (deck : List ℕ) (start key : ℕ) (t : NotedRow) (card at : ℕ) : Type 0 where
  pub low : card ≤ 2 + at
  pub on : (r : Result Noted Unread) (row : List ℕ) → FsSaid card t (fs_first (cards_in (drop at deck))) r row → FsSaid 2 (no_selection key) (fs_first (cards_in (drop start deck))) r row

pub selecting_start : (deck : List ℕ) (start key : ℕ) → Selecting deck start key (no_selection key) 2 start
selecting_start deck start key = record { low = omega arith; on = λ r row h. h }

module _ (deck : List ℕ) (from key : ℕ) (t : NotedRow) (card at : ℕ) (g : Selecting deck from key t card at) where
  abbrev pub Whole : Result Noted Unread → List ℕ → Type 0
  Whole r row = FsSaid 2 (no_selection key) (fs_first (cards_in (drop from deck))) r row

  -- no FS card is left
  abbrev all : Result Noted Unread
  all = Ok t.0

  ended : fs_first (cards_in (drop at deck)) ≡ [] → Whole all t.1
  ended e = g.on all t.1 (subst (λ (os : List (List ℕ)). FsSaid card t os all t.1) (sym e) refl)

  pub selecting_none : Operandless (cards_in (drop at deck)) → Whole all t.1
  selecting_none h = ended (no_more_lem (cards_in (drop at deck)) h)

  pub selecting_u : (b start end next : ℕ) → OperandAt (u_card b) deck at start end next → Whole all t.1
  selecting_u b start end next h = ended (ap fs_first h.is)

  module _ (start end next : ℕ) (h : OperandAt fs_card deck at start end next) where
    abbrev operand : List ℕ
    operand = slice start end deck

    fs_first_lem : fs_first (cards_in (drop at deck)) ≡ operand ∷ fs_first (cards_in (drop next deck))
    fs_first_lem = ap fs_first h.is

    -- what `list` gave of the card
    module _ (row : List ℕ) where
      -- it could not be read
      pub selecting_stop : (column : ℕ) → ListSays card (suc before_fs) (suc before_fs) t operand (list_of "/" (worded item) operand) (Err column) row
          → Whole (Err (record { card = card; column = column })) row
      selecting_stop column says = g.on r row (subst (λ (os : List (List ℕ)). FsSaid card t os r row) (sym fs_first_lem) (go (list_of "/" (worded item) operand) refl says))
        where
          r : Result Noted Unread
          r = Err (record { card = card; column = column })

          go : (y : Read (List (Worded Item))) → list_of "/" (worded item) operand ≡ y → ListSays card (suc before_fs) (suc before_fs) t operand y (Err column) row
              → FsSaid card t (operand ∷ fs_first (cards_in (drop next deck))) (Err (record { card = card; column = column })) row
          go (read ws left) e h = absurd h
          go (stopped left) e (k, l, d, u) = said_stop card t row operand (fs_first (cards_in (drop next deck))) k l (e ∙ ap stopped d) column u

      -- it could: the next card comes
      pub selecting_more : (n : Noted) → ListSays card (suc before_fs) (suc before_fs) t operand (list_of "/" (worded item) operand) (Ok n) row
          → Selecting deck from key (n, row) (suc card) next
      unfolding with_card
      selecting_more n says =
          let on : at < next = h.on in
          record { low = omega (arith, g.low); on = λ r row' k. g.on r row' (subst (λ (os : List (List ℕ)). FsSaid card t os r row') (sym fs_first_lem) (go r row' k (list_of "/" (worded item) operand) refl says)) }
        where
          go : (r : Result Noted Unread) (row' : List ℕ) → FsSaid (suc card) (n, row) (fs_first (cards_in (drop next deck))) r row' → (y : Read (List (Worded Item))) → list_of "/" (worded item) operand ≡ y
              → ListSays card (suc before_fs) (suc before_fs) t operand y (Ok n) row → FsSaid card t (operand ∷ fs_first (cards_in (drop next deck))) r row'
          go r row' k (read ws left) e h =
              said_card card t row' operand (fs_first (cards_in (drop next deck))) r ws left e
              (subst (λ (x : NotedRow). FsSaid (suc card) x (fs_first (cards_in (drop next deck))) r row') (λ i. (h.0 i, h.1 i)) k)
          go r row' k (stopped left) e h = absurd h

-- ---- a deck in order

pub fs_all : (fs : List (List ℕ)) → fs_first (map some (map fs_card fs ++ (end_card ∷ []))) ≡ fs
fs_all [] = refl
fs_all (o ∷ fs) = ap (o ∷◌) (fs_all fs)

-- its cards are a U card, FS cards and an END card
pub cards_ordered : (deck : List ℕ) (os : Operands) → operands_of deck ≡ fine os → cards_in deck ≡ some (u_card os.before os.u) ∷ map some (map fs_card os.fs ++ (end_card ∷ []))
unfolding operands_of
cards_ordered deck os e =
    let w = bind_fine _ _ os e in
    cards_each 1 (lines deck) w.0 w.1 ∙ ap (map some) (order_fine w.0 os w.2)
