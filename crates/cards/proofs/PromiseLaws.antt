-- The promise of `read_deck` allows one answer to a deck and one row, and no refusal has number 0: what the answer means in the rules determines each of its
-- parts, and no row of the table has number 0. That of `field_card` allows one card, which it names.
use mathlib.Core.Path.{◌≡◌, refl, ap, sym, ◌∙◌, subst}
use mathlib.Core.Bool.{true, false, true≢false}
use mathlib.Core.List.{List, []}
use Rattle.std.specs.Result.{is_err}
use Rattle.rows.specs.Kept.{row_of}
use Prim.Native.Nat.{ℕ, zero, suc, ◌≤◌}
use native.Mathlib.Omega.{arith}
use Rattle.rules.specs.Answer.{Refusal, Answer, fine, refuse, refused_at}
use Rattle.rules.specs.Grammar.{mode_is, format_is, output_is}
use Rattle.rules.specs.Asked.{Asked as RuleAsked, asked_of}
use Rattle.rules.specs.Plan.{joined_size}
use Rattle.rules.specs.Rows.{Done, CardRows}
use Rattle.rules.proofs.Refusals.Given.{Upto}
use Rattle.rules.proofs.Refusals.AskedTable.{upto_asked}
use Rattle.terms.specs.declared.Mode.{Mode}
use Rattle.terms.specs.declared.Format.{Format}
use Rattle.terms.specs.declared.Size.{Size}
use Rattle.terms.specs.declared.Asked.{Asked}
use Rattle.terms.specs.Meaning.{mode_of, format_of, size_of, utility_of}
use Rattle.readers.specs.declared.UParameter.TheVariants.{ModeIs, FormatIs, OutputIs}
use Rattle.readers.proofs.OnlyOne.{parameter_once}
use Rattle.std.specs.Prelude.{Result, Ok, Err}
use Rattle.cards.specs.declared.CardRefusal.{CardRefusal}
use Rattle.cards.specs.Promise.{nothing_asked, Accepts, DeckAnswered, DeckReads, DeckSays, card_of_field}

-- ---- one accepted deck

mode_once : (m n : Mode) → mode_of m ≡ mode_of n → m ≡ n
mode_once m n e = let q : ModeIs m ≡ ModeIs n = parameter_once (ModeIs m) (ModeIs n) (ap (λ x. mode_is x) e) in cc

format_once : (f g : Format) → format_of f ≡ format_of g → f ≡ g
format_once f g e = let q : FormatIs f ≡ FormatIs g = parameter_once (FormatIs f) (FormatIs g) (ap (λ x. format_is x) e) in cc

size_once : (z y : Size) → size_of z ≡ size_of y → z ≡ y
size_once z y e = let q : OutputIs z ≡ OutputIs y = parameter_once (OutputIs z) (OutputIs y) (ap (λ x. output_is x) e) in cc

module _ (one other : Asked) (one_row other_row : List ℕ) (a : RuleAsked) (x : Accepts one one_row a) (y : Accepts other other_row a) where
  utilities : utility_of one ≡ utility_of other
  utilities = x.means.utility ∙ sym y.means.utility

  asked_once : one ≡ other
  unfolding utility_of
  asked_once =
      let u = utilities in
      let m : one.mode ≡ other.mode = mode_once one.mode other.mode (λ i. (u i).mode) in
      let f : one.format ≡ other.format = format_once one.format other.format (λ i. (u i).format) in
      let n : one.input ≡ other.input = size_once one.input other.input (λ i. joined_size (u i).input) in
      let o : one.output ≡ other.output = size_once one.output other.output (λ i. (u i).output) in
      let c : one.count ≡ other.count = x.means.count ∙ sym y.means.count in
      let s : one.fs ≡ other.fs = x.means.fs ∙ sym y.means.fs in
      let v : one.cv ≡ other.cv = x.means.cv ∙ sym y.means.cv in
      let k : one.key ≡ other.key = x.means.key ∙ sym y.means.key in
      let w : one.keyed ≡ other.keyed = x.means.keyed ∙ sym y.means.keyed in
      λ i. record { mode = m i; format = f i; input = n i; output = o i; first = (u i).first; key = k i; count = c i; fs = s i; cv = v i; keyed = w i }

  accepts_once : (one ≡ other) × (one_row ≡ other_row)
  accepts_once = (asked_once, x.fields ∙ sym y.fields)

pub nothing_only_one : {r q : Asked} → r ≡ nothing_asked → q ≡ nothing_asked → r ≡ q
nothing_only_one e f = e ∙ sym f

-- ---- what a caller learns

some_refusal : (deck : List ℕ) (x : Refusal) → asked_of deck ≡ refuse x → 1 ≤ x.number
some_refusal deck x e =
    let g : Upto (CardRows deck Done) {A = RuleAsked} 8 0 (refuse x) = subst (Upto (CardRows deck Done) {A = RuleAsked} 8 0) e (upto_asked deck Done) in
    go x.number g.0
  where
    go : (n : ℕ) → CardRows deck Done n x.place → 1 ≤ n
    go zero h = absurd h
    go (suc n) h = omega arith

module _ (deck row : List ℕ) where
  -- the deck is accepted
  pub accepted : (x : Asked) → DeckReads deck (Ok x) row → (a : RuleAsked) × (asked_of deck ≡ fine a) × Accepts x row a
  accepted x h = go (asked_of deck) refl h
    where
      go : (y : Answer RuleAsked) → asked_of deck ≡ y → DeckAnswered y (Ok x) row → (a : RuleAsked) × (asked_of deck ≡ fine a) × Accepts x row a
      go (fine a) q h = (a, q, h)
      go (refuse y) q h = absurd h

  module _ (v : CardRefusal) (h : DeckReads deck (Err v) row) where
    -- it is refused, as the answer says
    pub refused_as : asked_of deck ≡ refused_at v.number v.place v.column
    refused_as = go (asked_of deck) refl h
      where
        go : (y : Answer RuleAsked) → asked_of deck ≡ y → DeckAnswered y (Err v) row → asked_of deck ≡ refused_at v.number v.place v.column
        go (fine a) q h = absurd h
        go (refuse y) q h = q ∙ (λ i. refused_at (sym h i).number (sym h i).place (sym h i).column)

    -- by a number that is not 0
    pub refused_some : 1 ≤ v.number
    refused_some = some_refusal deck (record { number = v.number; place = v.place; column = v.column }) refused_as

-- nothing is said of the row of a deck that is refused but that it is cleared
pub cleared : (deck : List ℕ) (v : CardRefusal) (before after : List ℕ) → DeckReads deck (Err v) before → DeckReads deck (Err v) after
cleared deck v before after h = go (asked_of deck) h
  where
    go : (x : Answer RuleAsked) → DeckAnswered x (Err v) before → DeckAnswered x (Err v) after
    go (fine a) h = h
    go (refuse x) h = h

-- a refused deck's row is cleared, an accepted deck's kept
pub says_cleared : (deck : List ℕ) (r : Result Asked CardRefusal) (before after : List ℕ) → is_err r ≡ true → DeckReads deck r before → after ≡ row_of [] → DeckSays deck r after
says_cleared deck (Ok x) before after e h k = absurd (true≢false (sym e))
says_cleared deck (Err v) before after e h k = record { reads = cleared deck v before after h; none = λ w f. k }

pub says_kept : (deck : List ℕ) (r : Result Asked CardRefusal) (row : List ℕ) → is_err r ≡ false → DeckReads deck r row → DeckSays deck r row
says_kept deck (Ok x) row e h = record { reads = h; none = λ v f. absurd (true≢false (sym (ap is_err f))) }
says_kept deck (Err v) row e h = absurd (true≢false e)

-- ---- one outcome

pub only_one : (deck : List ℕ) (r q : Result Asked CardRefusal) (one_row other_row : List ℕ) → DeckSays deck r one_row → DeckSays deck q other_row → (r ≡ q) × (one_row ≡ other_row)
only_one deck r q one_row other_row e f = go (asked_of deck) r q refl refl e.reads f.reads
  where
    go : (x : Answer RuleAsked) (s t : Result Asked CardRefusal) → r ≡ s → q ≡ t → DeckAnswered x s one_row → DeckAnswered x t other_row → (r ≡ q) × (one_row ≡ other_row)
    go (fine a) (Ok x) (Ok y) k l g h = let w = accepts_once x y one_row other_row a g h in (k ∙ ap Ok w.0 ∙ sym l, w.1)
    go (fine a) (Err v) t k l g h = absurd g
    go (fine a) (Ok x) (Err v) k l g h = absurd h
    go (refuse x) (Ok y) t k l g h = absurd g
    go (refuse x) (Err v) (Ok y) k l g h = absurd h
    go (refuse x) (Err v) (Err w) k l g h = (k ∙ ap Err (g ∙ sym h) ∙ sym l, e.none v k ∙ sym (f.none w l))

pub card_only_one : (deck : List ℕ) (field : ℕ) {r q : ℕ} → r ≡ card_of_field (asked_of deck) field → q ≡ card_of_field (asked_of deck) field → r ≡ q
card_only_one deck field e f = e ∙ sym f
