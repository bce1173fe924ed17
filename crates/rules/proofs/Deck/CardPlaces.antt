-- Cards by places, for code that goes along a line byte by byte: what a definition says from a place on, it says of the byte there and from the next
-- place on. Each is one step of the definition.
use mathlib.Core.Path.{◌≡◌, refl, ap, sym, ◌∙◌, subst}
use mathlib.Core.Bool.{Bool, true, false, cond}
use mathlib.Core.List.{List, [], ◌∷◌, ◌++◌, append-nil}
use mathlib.Core.Option.{none, some}
use Prim.Native.Nat.{ℕ, ◌+◌, ◌≤◌, ◌<◌}
use native.Mathlib.Numerals.{add-one}
use native.Mathlib.Omega.{arith}
use lib.ListN.{length, get_or, drop, drop_of_length-le}
use lib.Seq.{slice, drop-cons}
use borrow.Author.Tests.{eq-eqb, ne_eqb, le-leb, lt-leb}
use Rattle.rules.specs.Base.{ascii, within, every}
use Rattle.rules.specs.Places.{All, no_more, also}
use Rattle.rules.specs.Reader.{Read, read, stopped, after, text}
use Rattle.rules.specs.Deck.{tidy, Card, u_card, fs_card, end_card, operand, shape, shaped, card_of}
use Rattle.rules.specs.TextParts.{Stopped, stops}
use Rattle.rules.proofs.Base.Lists.{slice_rest}
use Rattle.rules.proofs.Grammar.ReaderLaws.{or_stops, bind_stops, text_sound}
use Rattle.rules.proofs.Deck.CardLaws.{shape_u, shape_utt, shape_fs, shape_end, shape_end_blank}

-- ---- a text's bytes

module _ (p s : List ℕ) (i : ℕ) where
  pub after_next : i < length p → i < length s → get_or s i 0 ≡ get_or p i 0 → after (drop i p) (drop i s) ≡ after (drop (i + 1) p) (drop (i + 1) s)
  after_next l m e = rw (add-one i, drop-cons p i 0 l, drop-cons s i 0 m, eq-eqb (get_or p i 0) (get_or s i 0) (sym e))

  pub after_other : i < length p → i < length s → (get_or s i 0 ≡ get_or p i 0 → ⊥) → after (drop i p) (drop i s) ≡ stopped (drop i s)
  after_other l m h = rw (drop-cons p i 0 l, drop-cons s i 0 m, ne_eqb (get_or p i 0) (get_or s i 0) (λ e. h (sym e)))

  pub after_short : i < length p → length s ≤ i → after (drop i p) (drop i s) ≡ stopped []
  after_short l h = rw (drop-cons p i 0 l, drop_of_length-le s {i = i} h)

  pub after_end : length p ≤ i → after (drop i p) (drop i s) ≡ read tt (drop i s)
  after_end h = rw (drop_of_length-le p {i = i} h)

-- 1 to 80 bytes
module _ (l : List ℕ) where
  pub tidy_plain : 1 ≤ length l → length l ≤ 80 → tidy l ≡ every (within 0x20 0x7E) l
  unfolding tidy
  tidy_plain a b = rw (le-leb 1 (length l) a, le-leb (length l) 80 b)

  pub tidy_long : 80 < length l → tidy l ≡ false
  unfolding tidy
  tidy_long h = rw (le-leb 1 (length l) (omega arith), lt-leb (length l) 80 h)

pub tidy_empty : tidy [] ≡ false
unfolding tidy
tidy_empty = refl

-- ---- the operand

module _ (l : List ℕ) (i : ℕ) where
  pub operand_blank : i < length l → get_or l i 0 ≡ 0x20 → operand (drop i l) ≡ []
  operand_blank h e = rw (drop-cons l i 0 h, eq-eqb (get_or l i 0) 0x20 e)

  pub operand_end : length l ≤ i → operand (drop i l) ≡ []
  operand_end h = rw (drop_of_length-le l {i = i} h)

behind_operand : {x : List ℕ} (y : List ℕ) → All (λ b. b ≡ 0x20 → ⊥) x → operand (x ++ y) ≡ x ++ operand y
behind_operand y no_more = refl
behind_operand y (also {x = b} {xs = x} n a) = rw (ne_eqb b 0x20 n) (ap (λ (l : List ℕ). b ∷ l) (behind_operand y a))

-- the operand from f on runs to t, where a blank stands or the line ends
pub operand_slice : (l : List ℕ) (f t : ℕ) → f ≤ t → t ≤ length l → All (λ b. b ≡ 0x20 → ⊥) (slice f t l) → operand (drop t l) ≡ []
    → operand (drop f l) ≡ slice f t l
operand_slice l f t h k a e =
    ap operand (sym (slice_rest f t l h k))
    ∙ behind_operand (drop t l) a
    ∙ ap (λ (o : List ℕ). slice f t l ++ o) e
    ∙ append-nil (slice f t l)

-- ---- the card

stopped_end : (b : ℕ) (s : List ℕ) → (b ≡ 0x20 → ⊥) → Stopped (shape (ascii "// END" ++ b ∷ s))
unfolding shape text
stopped_end b s h =
    let x : List ℕ = ascii "END" ++ b ∷ s in
    or_stops (or_stops (or_stops (stops x) (stops x)) (stops x)) (rw (ne_eqb b 0x20 h) (stops (b ∷ s)))

stopped_card : (l : List ℕ) → Stopped (shape l) → card_of l ≡ none
unfolding card_of
stopped_card l x = go (tidy l)
  where
    gone : {r : Read Card} → Stopped r → shaped r ≡ none
    gone (stops left) = refl

    go : (t : Bool) → cond t (shaped (shape l)) none ≡ none
    go true = gone x
    go false = refl

module _ (l : List ℕ) where
  pub card_untidy : tidy l ≡ false → card_of l ≡ none
  unfolding card_of
  card_untidy e = rw e

  module _ (plain : tidy l ≡ true) (s : List ℕ) (u : Unit) where
    pub card_u : text "// U " l ≡ read u s → card_of l ≡ some (u_card 5 (operand s))
    unfolding card_of
    card_u e = rw plain (ap shaped (ap shape (text_sound "// U " l u s e) ∙ shape_u s))

    pub card_utt : text "// UTT " l ≡ read u s → card_of l ≡ some (u_card 7 (operand s))
    unfolding card_of
    card_utt e = rw plain (ap shaped (ap shape (text_sound "// UTT " l u s e) ∙ shape_utt s))

    pub card_fs : text "// FS " l ≡ read u s → card_of l ≡ some (fs_card (operand s))
    unfolding card_of
    card_fs e = rw plain (ap shaped (ap shape (text_sound "// FS " l u s e) ∙ shape_fs s))

  -- END alone, or with a blank behind it
  pub card_end : tidy l ≡ true → (u : Unit) → text "// END" l ≡ read u [] → card_of l ≡ some end_card
  unfolding card_of
  card_end plain u e = rw plain (ap shaped (ap shape (text_sound "// END" l u [] e) ∙ shape_end))

  pub card_end_blank : tidy l ≡ true → (u : Unit) (s : List ℕ) → text "// END" l ≡ read u (0x20 ∷ s) → card_of l ≡ some end_card
  unfolding card_of
  card_end_blank plain u s e = rw plain (ap shaped (ap shape (text_sound "// END" l u (0x20 ∷ s) e) ∙ shape_end_blank s))

  -- END with another byte behind it
  pub card_end_other : (u : Unit) (b : ℕ) (s : List ℕ) → text "// END" l ≡ read u (b ∷ s) → (b ≡ 0x20 → ⊥) → card_of l ≡ none
  card_end_other u b s e h = stopped_card l (subst (λ (z : List ℕ). Stopped (shape z)) (sym (text_sound "// END" l u (b ∷ s) e)) (stopped_end b s h))

  -- none of the four texts
  pub card_none : Stopped (text "// U " l) → Stopped (text "// UTT " l) → Stopped (text "// FS " l) → Stopped (text "// END" l) → card_of l ≡ none
  unfolding shape
  card_none a b c d = stopped_card l (or_stops (or_stops (or_stops (bind_stops _ a) (bind_stops _ b)) (bind_stops _ c)) (bind_stops _ d))
