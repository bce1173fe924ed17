-- What a loop along a line finds at its end is what the answers about the line say: one step of a definition at each way out of the loop. What a
-- card's fourth and fifth byte tell of it holds by cases on the card's text.
use mathlib.Core.Path.{◌≡◌, refl, ap, sym, ◌∙◌, subst}
use mathlib.Core.Logic.{inl, inr}
use mathlib.Core.Bool.{Bool, true, false, not, cond, ◌&&◌}
use mathlib.Core.List.{List, [], ◌∷◌, ◌++◌}
use Rattle.std.specs.Prelude.{None, Some, is_none, unwrap_or, ◌==◌}
use mathlib.Core.Option.{Option, none, some}
use Prim.Native.Nat.{ℕ, zero-le, suc, min, ◌+◌, ◌-◌, ◌≤◌, ◌<◌}
use Prim.Native.String.{String}
use native.Mathlib.Omega.{arith}
use lib.Dec.{ltb, leb, eqb}
use lib.Pointwise.{pointwise}
use Rattle.std.specs.List.{position, position_or_len, starts_with}
use Rattle.std.proofs.lemmas.List.{take_at, drop_at}
use lib.ListN.{length, get_or, take, drop, drop_of_length-le, length-append, length-drop}
use lib.Seq.{slice, take-length, take_all, drop-cons, drop-drop, get_or-drop}
use borrow.Author.Tests.{eqb-true, eqb-false, ltb-false, leb-true, leb-false}
use Rattle.rules.specs.Base.{ascii, every}
use Rattle.rules.specs.Places.{All, no_more, also}
use Rattle.rules.specs.Reader.{read, text}
use Rattle.rules.specs.Deck.{tidy, Card, u_card, fs_card, end_card, operand, card_of}
use Rattle.rules.specs.Texts.{ShapeText}
use Rattle.rules.specs.TextParts.{stops, Inner}
use Rattle.rules.proofs.Base.Lists.{slice_from, slice_slice}
use Rattle.rules.proofs.Base.AllLaws.{all_append}
use Rattle.rules.proofs.Deck.CardLaws.{operand_of, card_exactly}
use Rattle.rules.proofs.Deck.LineLaws.{next_line, last_line, no_line}
use Rattle.rules.proofs.Deck.CardPlaces.{card_untidy, card_u, card_utt, card_fs, card_end, card_end_blank, card_end_other, card_none}
use Rattle.lines.specs.Meaning.{BeginsSays, OperandEnds, CardSays, IsCard, inner, PassedSays, LineSays}
use Rattle.lines.specs.Ordering.{card_kind_of}
use Rattle.lines.specs.declared.CardRead.TheVariants.{UCard, FsCard, EndCard}
use Rattle.lines.specs.declared.CardKind.TheVariants.{Utility, Select, End}

pub not_both : true ≡ false → ⊥
not_both e = let z : ◌≡◌ {A = ℕ} 0 1 = cc in omega arith

-- ---- whether a line begins with a text

-- of a text and a line by their first bytes
next_says : (x y : ℕ) (p s : List ℕ) (same begins : Bool) → eqb x y ≡ same → BeginsSays p s begins → BeginsSays (x ∷ p) (y ∷ s) (same && begins)
next_says x y p s true true e (h, q) = (omega arith, rw e q)
next_says x y p s true false e h = rw e h
next_says x y p s false begins e h = rw e (stops (y ∷ s))

starts_says : (p s : List ℕ) → BeginsSays p s (pointwise eqb p (take (length p) s))
starts_says [] s = (zero-le, refl)
starts_says (x ∷ p) [] = stops []
starts_says (x ∷ p) (y ∷ s) = next_says x y p s (eqb x y) (pointwise eqb p (take (length p) s)) refl (starts_says p s)

-- as `starts_with` finds it
pub begins_says : {b : Bool} (p s : List ℕ) → b ≡ starts_with eqb s p → BeginsSays p s b
begins_says p s e = subst (BeginsSays p s) (sym e) (starts_says p s)

-- ---- the first of a byte

module _ (byte : ℕ) where
  -- how many bytes stand before it
  abbrev pub before : List ℕ → ℕ
  before l = position_or_len (λ b. b == byte) l

  abbrev Other : ℕ → Type 0
  Other b = b ≡ byte → ⊥

  pub before_inside : (l : List ℕ) → before l ≤ length l
  before_inside [] = zero-le
  before_inside (x ∷ l) = go (before_inside l) (eqb x byte)
    where
      go : before l ≤ length l → (t : Bool) → cond (not t) (1 + before l) 0 ≤ suc (length l)
      go h true = zero-le
      go h false = omega arith

  -- as `position` finds it
  pub before_found : (l : List ℕ) → unwrap_or (position (λ b. b == byte) l) (length l) ≡ before l
  before_found l = go (ltb (before l) (length l)) refl
    where
      go : (t : Bool) → ltb (before l) (length l) ≡ t → unwrap_or (cond t (Some (before l)) None) (length l) ≡ before l
      go true e = refl
      go false e = omega (arith, before_inside l, ltb-false (before l) (length l) e)

  pub before_others : (l : List ℕ) → All Other (take (before l) l)
  before_others [] = no_more
  before_others (x ∷ l) = go (before_others l) (eqb x byte) refl
    where
      go : All Other (take (before l) l) → (t : Bool) → eqb x byte ≡ t → All Other (take (cond (not t) (1 + before l) 0) (x ∷ l))
      go h true e = no_more
      go h false e = let z : 1 + before l ≡ suc (before l) = omega arith in rw z (also (eqb-false x byte e) h)

  pub before_is : (l : List ℕ) → before l < length l → get_or l (before l) 0 ≡ byte
  before_is [] h = absurd (omega arith)
  before_is (x ∷ l) h = go (before_is l) (eqb x byte) refl h
    where
      go : (before l < length l → get_or l (before l) 0 ≡ byte) → (t : Bool) → eqb x byte ≡ t → cond (not t) (1 + before l) 0 < suc (length l)
          → get_or (x ∷ l) (cond (not t) (1 + before l) 0) 0 ≡ byte
      go f true e k = eqb-true x byte e
      go f false e k = let z : 1 + before l ≡ suc (before l) = omega arith in rw z (f (omega arith))

-- ---- where an operand ends

operand_before : (l : List ℕ) → operand l ≡ take (before 0x20 l) l
operand_before [] = refl
operand_before (x ∷ l) = go (operand_before l) (eqb x 0x20)
  where
    go : operand l ≡ take (before 0x20 l) l → (t : Bool) → cond t [] (x ∷ operand l) ≡ take (cond (not t) (1 + before 0x20 l) 0) (x ∷ l)
    go h true = refl
    go h false = let z : 1 + before 0x20 l ≡ suc (before 0x20 l) = omega arith in rw z (ap (λ (o : List ℕ). x ∷ o) h)

-- the bytes from a place on, as code lends them
pub lent_rest : (l : List ℕ) (start : ℕ) → take (length l - start) (drop start l) ≡ drop start l
lent_rest l start = take_all (length l - start) (drop start l) (omega (arith, length-drop start l))

pub operand_ends : (l : List ℕ) (start : ℕ) → start ≤ length l → OperandEnds l start (start + before 0x20 (drop start l))
operand_ends l start h =
    record {
      from = omega arith;
      upto = omega (arith, before_inside 0x20 (drop start l), length-drop start l);
      is = operand_before (drop start l) ∙ sym (slice_from start (before 0x20 (drop start l)) l);
    }

-- ---- which card a line is

-- what a text's reader reads
text_read : (t : String) (l : List ℕ) → BeginsSays (ascii t) l true → text t l ≡ read tt (drop (length (ascii t)) l)
unfolding text
text_read t l b = b.1

module _ (l : List ℕ) where
  pub kind_untidy : tidy l ≡ false → None ≡ card_kind_of (card_of l)
  kind_untidy e = rw (card_untidy l e)

  module _ (plain : tidy l ≡ true) where
    pub kind_u : BeginsSays (ascii "// U ") l true → Some Utility ≡ card_kind_of (card_of l)
    kind_u b = rw (card_u l plain (drop 5 l) tt (text_read "// U " l b))

    pub kind_utt : BeginsSays (ascii "// UTT ") l true → Some Utility ≡ card_kind_of (card_of l)
    kind_utt b = rw (card_utt l plain (drop 7 l) tt (text_read "// UTT " l b))

    pub kind_fs : BeginsSays (ascii "// FS ") l true → Some Select ≡ card_kind_of (card_of l)
    kind_fs b = rw (card_fs l plain (drop 6 l) tt (text_read "// FS " l b))

    -- END alone, or with a blank behind it
    pub kind_end : BeginsSays (ascii "// END") l true → length l ≡ 6 → Some End ≡ card_kind_of (card_of l)
    kind_end b e =
        rw (card_end l plain tt (text_read "// END" l b ∙ ap (λ (x : List ℕ). read tt x) (drop_of_length-le l {i = 6} (omega arith))))

    pub kind_end_blank : BeginsSays (ascii "// END") l true → 6 < length l → get_or l 6 0 ≡ 0x20 → Some End ≡ card_kind_of (card_of l)
    kind_end_blank b h e =
        rw (card_end_blank l plain tt (drop 7 l)
        (text_read "// END" l b ∙ ap (λ (x : List ℕ). read tt x) (drop-cons l 6 0 h ∙ ap (λ (z : ℕ). z ∷ drop 7 l) e)))

  pub kind_end_other : BeginsSays (ascii "// END") l true → 6 < length l → (get_or l 6 0 ≡ 0x20 → ⊥) → None ≡ card_kind_of (card_of l)
  kind_end_other b h n =
      rw (card_end_other l tt (get_or l 6 0) (drop 7 l) (text_read "// END" l b ∙ ap (λ (x : List ℕ). read tt x) (drop-cons l 6 0 h)) n)

  pub kind_none : BeginsSays (ascii "// U ") l false → BeginsSays (ascii "// UTT ") l false → BeginsSays (ascii "// FS ") l false
      → BeginsSays (ascii "// END") l false → None ≡ card_kind_of (card_of l)
  unfolding text
  kind_none a b c d = rw (card_none l a b c d)

-- a line of no kind is no card, and every other line is one
pub other_none : (card : Option Card) → is_none (card_kind_of card) ≡ true → card ≡ none
other_none none e = refl
other_none (some (u_card b o)) e = absurd (not_both (sym e))
other_none (some (fs_card o)) e = absurd (not_both (sym e))
other_none (some end_card) e = absurd (not_both (sym e))

pub known_card : (card : Option Card) → is_none (card_kind_of card) ≡ false → IsCard card
known_card none e = absurd (not_both e)
known_card (some c) e = tt

-- ---- what card a line is that is one: its fourth byte tells FS and END, its fifth U from UTT

text_five : {l : List ℕ} {c : Card} → ShapeText l c → 5 ≤ length l
text_five (ShapeText.U t) = omega arith
text_five (ShapeText.UTT t) = omega arith
text_five (ShapeText.FS t) = omega arith
text_five ShapeText.END = omega arith
text_five (ShapeText.end_blank comment) = omega arith

text_fs : {l : List ℕ} {c : Card} → ShapeText l c → get_or l 3 0 ≡ 0x46
    → (6 ≤ length l) × (take 6 l ≡ ascii "// FS ") × (c ≡ fs_card (operand (drop 6 l)))
text_fs (ShapeText.U t) e = absurd (omega arith)
text_fs (ShapeText.UTT t) e = absurd (omega arith)
text_fs (ShapeText.FS t) e = (omega arith, refl, ap fs_card (sym (operand_of t)))
text_fs ShapeText.END e = absurd (omega arith)
text_fs (ShapeText.end_blank comment) e = absurd (omega arith)

text_end : {l : List ℕ} {c : Card} → ShapeText l c → get_or l 3 0 ≡ 0x45 → c ≡ end_card
text_end (ShapeText.U t) e = absurd (omega arith)
text_end (ShapeText.UTT t) e = absurd (omega arith)
text_end (ShapeText.FS t) e = absurd (omega arith)
text_end ShapeText.END e = refl
text_end (ShapeText.end_blank comment) e = refl

text_u : {l : List ℕ} {c : Card} → ShapeText l c → (get_or l 3 0 ≡ 0x46 → ⊥) → (get_or l 3 0 ≡ 0x45 → ⊥) → get_or l 4 0 ≡ 0x20
    → (take 5 l ≡ ascii "// U ") × (c ≡ u_card 5 (operand (drop 5 l)))
text_u (ShapeText.U t) f g e = (refl, ap (u_card 5) (sym (operand_of t)))
text_u (ShapeText.UTT t) f g e = absurd (omega arith)
text_u (ShapeText.FS t) f g e = absurd (f refl)
text_u ShapeText.END f g e = absurd (g refl)
text_u (ShapeText.end_blank comment) f g e = absurd (g refl)

text_utt : {l : List ℕ} {c : Card} → ShapeText l c → (get_or l 3 0 ≡ 0x46 → ⊥) → (get_or l 3 0 ≡ 0x45 → ⊥) → (get_or l 4 0 ≡ 0x20 → ⊥)
    → (7 ≤ length l) × (take 7 l ≡ ascii "// UTT ") × (c ≡ u_card 7 (operand (drop 7 l)))
text_utt (ShapeText.U t) f g e = absurd (e refl)
text_utt (ShapeText.UTT t) f g e = (omega arith, refl, ap (u_card 7) (sym (operand_of t)))
text_utt (ShapeText.FS t) f g e = absurd (f refl)
text_utt ShapeText.END f g e = absurd (g refl)
text_utt (ShapeText.end_blank comment) f g e = absurd (g refl)

module _ (l : List ℕ) (known : IsCard (card_of l)) where
  -- the card and its text
  card_text : (c : Card) × (card_of l ≡ some c) × ShapeText l c
  card_text = go (card_of l) refl known
    where
      go : (card : Option Card) → card_of l ≡ card → IsCard card → (c : Card) × (card_of l ≡ some c) × ShapeText l c
      go none e k = absurd k
      go (some c) e k = (c, e, ((card_exactly l c).0 e).shape)

  pub five_bytes : 5 ≤ length l
  five_bytes = text_five card_text.2

  pub card_says_end : get_or l 3 0 ≡ 0x45 → CardSays l (Some EndCard)
  card_says_end e = card_text.1 ∙ ap some (text_end card_text.2 e)

  module _ (letter : get_or l 3 0 ≡ 0x46) where
    pub six_bytes : 6 ≤ length l
    six_bytes = (text_fs card_text.2 letter).0

    pub card_says_fs : {e : ℕ} → OperandEnds l 6 e → CardSays l (Some (FsCard 6 e))
    card_says_fs o =
        let t = text_fs card_text.2 letter in
        (t.1, o.from, o.upto, card_text.1 ∙ ap some (t.2 ∙ ap fs_card o.is))

  module _ (not_fs : get_or l 3 0 ≡ 0x46 → ⊥) (not_end : get_or l 3 0 ≡ 0x45 → ⊥) where
    pub card_says_u : {e : ℕ} → get_or l 4 0 ≡ 0x20 → OperandEnds l 5 e → CardSays l (Some (UCard 5 e))
    card_says_u b o =
        let t = text_u card_text.2 not_fs not_end b in
        (inl t.0, o.from, o.upto, card_text.1 ∙ ap some (t.1 ∙ ap (u_card 5) o.is))

    module _ (fifth : get_or l 4 0 ≡ 0x20 → ⊥) where
      pub seven_bytes : 7 ≤ length l
      seven_bytes = (text_utt card_text.2 not_fs not_end fifth).0

      pub card_says_utt : {e : ℕ} → OperandEnds l 7 e → CardSays l (Some (UCard 7 e))
      card_says_utt o =
          let t = text_utt card_text.2 not_fs not_end fifth in
          (inr t.1, o.from, o.upto, card_text.1 ∙ ap some (t.2 ∙ ap (u_card 7) o.is))

-- ---- the line that begins at a place

-- no line ends in a part whose bytes all pass
inner_all : (l : List ℕ) → every inner l ≡ true → All Inner l
inner_all [] e = no_more
inner_all (b ∷ l) e = go (λ h. inner_all l h) (eqb b 0x0A) refl
  where
    go : (every inner l ≡ true → All Inner l) → (t : Bool) → eqb b 0x0A ≡ t → All Inner (b ∷ l)
    go ih true t = absurd (not_both (sym (rw t at e)))
    go ih false t = also (eqb-false b 0x0A t) (ih (rw t at e))

-- a block further, where the bytes that are left are the block and others
pub passed_block : (deck : List ℕ) (at end : ℕ) (block rest : List ℕ) → PassedSays deck at end → drop end deck ≡ block ++ rest → length block ≡ 8
    → every inner block ≡ true → (rest ≡ drop (end + 8) deck) × PassedSays deck at (end + 8)
passed_block deck at end block rest p left n e =
    let inside : end + 8 ≤ length deck = omega (arith, p.1, length-drop end deck, ap length left, length-append block rest) in
    let is : slice end (end + 8) deck ≡ block = slice_from end 8 deck ∙ ap (take 8) left ∙ take_at block rest 8 n in (
      sym (sym (drop-drop 8 end deck) ∙ ap (drop 8) left ∙ drop_at block rest 8 n),
      (
        omega (arith, p.0),
        inside,
        subst (All Inner) (slice_slice at end (end + 8) deck p.0 (omega arith) inside) (all_append p.2 (subst (All Inner) (sym is) (inner_all block e))),
      ),
    )

module _ (deck : List ℕ) (at : ℕ) where
  pub line_says_none : length deck ≤ at → LineSays deck at None
  line_says_none h = (h, no_line deck at h)

  -- the line ends at t, where its end stands or the deck's
  module _ (t next : ℕ) (less : at < length deck) (p : PassedSays deck at t) (n : next ≡ min (t + 1) (length deck)) where
    ends : (t < length deck → get_or deck t 0 ≡ 0x0A) → LineSays deck at (Some (record { end = t; next = next }))
    ends e = go (leb (length deck) t) refl
      where
        go : (b : Bool) → leb (length deck) t ≡ b → LineSays deck at (Some (record { end = t; next = next }))
        go true b =
            let k : length deck ≤ t = leb-true (length deck) t b in
            let z : t ≡ length deck = omega (arith, p.1) in
            let s : slice at t deck ≡ drop at deck = ap (λ (n : ℕ). slice at n deck) z ∙ ap (drop at) (take-length deck) in (
              less,
              p.0,
              p.1,
              omega arith,
              last_line deck at less (subst (λ (n : ℕ). All Inner (slice at n deck)) z p.2)
                  ∙ rw (s, no_line deck next (omega arith)),
            )
        go false b =
            let k : t < length deck = leb-false (length deck) t b in
            let z : next ≡ t + 1 = omega arith in (
              less,
              p.0,
              p.1,
              omega arith,
              rw z (next_line deck at t p.0 k p.2 (e k)),
            )

  -- behind what is passed the first line feed ends the line
  pub line_says : (from size next : ℕ) → at < length deck → PassedSays deck at from → size ≡ before 0x0A (drop from deck) → next ≡ min (length deck) (from + size + 1)
      → LineSays deck at (Some (record { end = from + size; next = next }))
  line_says from size next less p e n =
      let rest : List ℕ = drop from deck in
      let inside : from + size ≤ length deck = omega (arith, p.1, e, before_inside 0x0A rest, length-drop from deck) in
      let others : All Inner (slice from (from + size) deck)
      = subst (All Inner) (sym (slice_from from size deck)) (subst (λ (k : ℕ). All Inner (take k rest)) (sym e) (before_others 0x0A rest)) in
      ends (from + size) next less
      (omega (arith, p.0), inside, subst (All Inner) (slice_slice at from (from + size) deck p.0 (omega arith) inside) (all_append p.2 others))
      (omega arith)
      (λ k. sym (get_or-drop from deck size 0) ∙ ap (λ (k : ℕ). get_or rest k 0) e ∙ before_is 0x0A rest (omega (arith, e, length-drop from deck)))
