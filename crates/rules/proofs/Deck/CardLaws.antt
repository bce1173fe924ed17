-- The reader of cards reads exactly the cards of the grammar: a card's text decides its shape by its first bytes, and the operand runs to the first
-- blank, which is found by going along the card.
use mathlib.Core.Path.{◌≡◌, refl, ap, sym, ◌∙◌, subst}
use mathlib.Core.Logic.{◌⊎◌, inl, inr, ◌↔◌}
use mathlib.Core.Bool.{Bool, true, false, cond}
use mathlib.Core.List.{List, [], ◌∷◌, ◌++◌}
use mathlib.Core.Option.{none, some}
use Prim.Native.Nat.{ℕ, ◌≤◌}
use Prim.Native.String.{String}
use native.Mathlib.Omega.{arith}
use lib.Dec.{eqb}
use lib.ListN.{length}
use borrow.Author.Tests.{eqb-true, eqb-false, ne_eqb}
use Rattle.rules.specs.Base.{ascii, within, every}
use Rattle.rules.specs.Places.{All, no_more, also}
use Rattle.rules.specs.Reader.{Read, read, stopped, Reader, ◌>>◌, ◌or◌, text}
use Rattle.rules.specs.Deck.{tidy, Card, u_card, fs_card, end_card, operand, with_operand, without_operand, shape, shaped, card_of}
use Rattle.rules.specs.Texts.{OperandText, to_end, to_blank, ShapeText, CardText}
use Rattle.rules.specs.TextParts.{stops}
use Rattle.rules.proofs.Base.Tests.{and_left, and_right, and_both, within_low, within_high, within_of, every_all, all_every}
use Rattle.rules.proofs.Base.AllLaws.{all_imply}
use Rattle.rules.proofs.Grammar.ReaderLaws.{not_read, read_value, or_read, or_stops, or_first, or_second, bind_read, text_sound}

-- ---- operands

-- the operand of any text
pub operand_text : (s : List ℕ) → OperandText s (operand s)
operand_text [] = to_end no_more
operand_text (x ∷ xs) = go (eqb x 32) refl (operand_text xs)
  where
    longer : {s o : List ℕ} → (x ≡ 32 → ⊥) → OperandText s o → OperandText (x ∷ s) (x ∷ o)
    longer n (to_end a) = to_end (also n a)
    longer n (to_blank comment a) = to_blank comment (also n a)

    go : (t : Bool) → eqb x 32 ≡ t → OperandText xs (operand xs) → OperandText (x ∷ xs) (cond t [] (x ∷ operand xs))
    go true e h = subst (λ (b : ℕ). OperandText (b ∷ xs) []) (sym (eqb-true x 32 e)) (to_blank xs no_more)
    go false e h = longer (eqb-false x 32 e) h

operand_blank : (o comment : List ℕ) → All (λ b. b ≡ 32 → ⊥) o → operand (o ++ ascii " " ++ comment) ≡ o
operand_blank _ comment no_more = refl
operand_blank _ comment (also {x = x} {xs = o} n a) = rw (ne_eqb x 32 n) (ap (λ (l : List ℕ). x ∷ l) (operand_blank o comment a))

operand_end : (o : List ℕ) → All (λ b. b ≡ 32 → ⊥) o → operand o ≡ o
operand_end _ no_more = refl
operand_end _ (also {x = x} {xs = o} n a) = rw (ne_eqb x 32 n) (ap (λ (l : List ℕ). x ∷ l) (operand_end o a))

pub operand_of : {s o : List ℕ} → OperandText s o → operand s ≡ o
operand_of (to_end {o = o} a) = operand_end o a
operand_of (to_blank {o = o} comment a) = operand_blank o comment a

-- ---- shapes

-- a reader of whole texts
abbrev Whole : (List ℕ → Card → Type 0) → Reader Card → Type 0
Whole T p = (s : List ℕ) (c : Card) (left : List ℕ) → p s ≡ read c left → T s c

whole_or : (T : List ℕ → Card → Type 0) (p q : Reader Card) → Whole T p → Whole T q → Whole T (p or q)
whole_or T p q v w s c left e = go (or_read (p s) (q s) c left e)
  where
    go : (p s ≡ read c left) ⊎ (q s ≡ read c left) → T s c
    go (inl f) = v s c left f
    go (inr f) = w s c left f

whole_text : (T : List ℕ → Card → Type 0) (t : String) (q : Reader Card) → Whole (λ y c. T (ascii t ++ y) c) q → Whole T (text t >> q)
whole_text T t q w s c left e =
    let i = bind_read (text t s) (λ u. q) c left e in
    subst (λ (l : List ℕ). T l c) (sym (text_sound t s i.0 i.1 i.2)) (w i.1 c left i.3)

whole_operand : (T : List ℕ → Card → Type 0) (card : List ℕ → Card) → ((s o : List ℕ) → OperandText s o → T s (card o)) → Whole T (with_operand card)
whole_operand T card h s c left e = subst (T s) (read_value (card (operand s)) c [] left e) (h s (operand s) (operand_text s))

whole_end : Whole (λ y c. ShapeText (ascii "// END" ++ y) c) without_operand
whole_end [] c left e = subst (ShapeText (ascii "// END")) (read_value end_card c [] left e) ShapeText.END
whole_end (b ∷ s) c left e = go (eqb b 32) refl e
  where
    go : (t : Bool) → eqb b 32 ≡ t → cond t (read end_card []) (stopped (b ∷ s)) ≡ read c left → ShapeText (ascii "// END" ++ b ∷ s) c
    go true f e =
        subst (λ (z : ℕ). ShapeText (ascii "// END" ++ z ∷ s) c) (sym (eqb-true b 32 f))
        (subst (ShapeText (ascii "// END " ++ s)) (read_value end_card c [] left e) (ShapeText.end_blank s))
    go false f e = absurd (not_read (b ∷ s) c left e)

shape_sound : Whole ShapeText shape
unfolding shape
shape_sound =
    whole_or ShapeText _ _
    (whole_or ShapeText _ _
    (whole_or ShapeText _ _
    (whole_text ShapeText "// U " _ (whole_operand _ (u_card 5) (λ s o t. ShapeText.U t)))
    (whole_text ShapeText "// UTT " _ (whole_operand _ (u_card 7) (λ s o t. ShapeText.UTT t))))
    (whole_text ShapeText "// FS " _ (whole_operand _ fs_card (λ s o t. ShapeText.FS t))))
    (whole_text ShapeText "// END" _ whole_end)

-- the card by its first bytes
module _ (s : List ℕ) where
  pub shape_u : shape (ascii "// U " ++ s) ≡ read (u_card 5 (operand s)) []
  unfolding shape text
  shape_u = refl

  pub shape_utt : shape (ascii "// UTT " ++ s) ≡ read (u_card 7 (operand s)) []
  unfolding shape text
  shape_utt = refl

  pub shape_fs : shape (ascii "// FS " ++ s) ≡ read (fs_card (operand s)) []
  unfolding shape text
  shape_fs =
      let x : List ℕ = ascii "FS " ++ s in
      or_first _ (fs_card (operand s)) [] (or_second _ (fs_card (operand s)) [] (or_stops (stops x) (stops x)) refl)

  pub shape_end_blank : shape (ascii "// END " ++ s) ≡ read end_card []
  unfolding shape text
  shape_end_blank = let x : List ℕ = ascii "END " ++ s in or_second _ end_card [] (or_stops (or_stops (stops x) (stops x)) (stops x)) refl

pub shape_end : shape (ascii "// END") ≡ read end_card []
unfolding shape text
shape_end = refl

shape_reads : {l : List ℕ} {c : Card} → ShapeText l c → shape l ≡ read c []
shape_reads (ShapeText.U {x = x} t) = shape_u x ∙ ap (λ (o : List ℕ). read (u_card 5 o) []) (operand_of t)
shape_reads (ShapeText.UTT {x = x} t) = shape_utt x ∙ ap (λ (o : List ℕ). read (u_card 7 o) []) (operand_of t)
shape_reads (ShapeText.FS {x = x} t) = shape_fs x ∙ ap (λ (o : List ℕ). read (fs_card o) []) (operand_of t)
shape_reads ShapeText.END = shape_end
shape_reads (ShapeText.end_blank comment) = shape_end_blank comment

-- ---- cards

no_card : (c : Card) → none ≡ some c → ⊥
no_card c e = let z : ◌≡◌ {A = ℕ} 0 1 = cc in omega arith

-- 1 to 80 bytes, each hex 20 to 7E
pub tidy_exactly : (l : List ℕ) → (tidy l ≡ true) ↔ ((1 ≤ length l) × (length l ≤ 80) × All (λ b. (0x20 ≤ b) × (b ≤ 0x7E)) l)
unfolding tidy
tidy_exactly l = (
  λ t. let n = and_left (within 1 80 (length l)) (every (within 32 126) l) t in (
    within_low 1 80 (length l) n,
    within_high 1 80 (length l) n,
    all_imply (λ b h. (within_low 32 126 b h, within_high 32 126 b h)) (every_all (within 32 126) l (and_right (within 1 80 (length l)) _ t)),
  ),
  λ h. and_both {a = within 1 80 (length l)} (within_of 1 80 (length l) h.0 h.1)
      (all_every (within 32 126) (all_imply (λ b k. within_of 32 126 b k.0 k.1) h.2)),
)

-- a card is read exactly where its text is one
pub card_exactly : (l : List ℕ) (c : Card) → (card_of l ≡ some c) ↔ CardText l c
unfolding card_of
card_exactly l c = (λ e. sound (tidy l) refl (shape l) refl e, λ t. rw ((tidy_exactly l).1 (t.one, t.eighty, t.plain), shape_reads t.shape))
  where
    sound : (t : Bool) → tidy l ≡ t → (r : Read Card) → shape l ≡ r → cond t (shaped r) none ≡ some c → CardText l c
    sound true t (read d left) e f =
        let h = (tidy_exactly l).0 t in
        let g : d ≡ c = cc in
        record { one = h.0; eighty = h.1; plain = h.2; shape = subst (ShapeText l) g (shape_sound l d left e) }
    sound true t (stopped left) e f = absurd (no_card c f)
    sound false t r e f = absurd (no_card c f)

-- in one way only
pub card_once : (l : List ℕ) (c d : Card) → CardText l c → CardText l d → c ≡ d
card_once l c d t u = let e : some c ≡ some d = sym ((card_exactly l c).1 t) ∙ (card_exactly l d).1 u in cc
