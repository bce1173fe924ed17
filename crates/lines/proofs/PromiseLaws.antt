-- Each promise of this crate allows one outcome only, for every input: what an answer says of the line or the deck decides its places.
use mathlib.Core.Path.{◌≡◌, refl, ap, sym, ◌∙◌}
use mathlib.Core.Logic.{◌⊎◌, inl, inr}
use mathlib.Core.List.{List}
use Rattle.std.specs.Prelude.{Option, None, Some, Result, Ok, Err}
use mathlib.Core.Option.{some}
use Prim.Native.Nat.{ℕ, ◌≤◌}
use native.Mathlib.Omega.{arith}
use lib.ListN.{length, get_or, take}
use lib.Seq.{slice, get_or-take, length-take-le, length-slice}
use Rattle.rules.specs.Base.{ascii}
use Rattle.rules.specs.Answer.{refused, refusal_of, place_of}
use Rattle.rules.specs.Deck.{u_card, fs_card, card_of}
use Rattle.rules.specs.Order.{operands_of}
use Rattle.rules.proofs.Refusals.AnswerLaws.{not_fine, fine_same}
use Rattle.lines.specs.Meaning.{CardSays, LineSays}
use Rattle.lines.specs.Ordering.{card_kind_of, with_line, order_of, card_count, answer_of}
use Rattle.lines.specs.declared.CardRead.{CardRead}
use Rattle.lines.specs.declared.CardRead.TheVariants.{UCard, FsCard, EndCard}
use Rattle.lines.specs.declared.LineRead.{LineRead}
use Rattle.lines.specs.declared.CardKind.{CardKind}
use Rattle.lines.specs.declared.LinesSeen.{LinesSeen}
use Rattle.lines.specs.declared.Disorder.{Disorder}
use Rattle.lines.specs.declared.Disorder.TheVariants.{NoCard, Misplaced}

never : ◌≡◌ {A = ℕ} 0 1 → ⊥
never z = omega arith

-- ---- card, and operand, whose promise is the same

module _ (l : List ℕ) where
  -- a first text decides where the operand starts
  first_text : (t : List ℕ) (start : ℕ) → start ≤ length l → take start l ≡ t → start ≡ length t
  first_text t start h e = omega (arith, length-take-le start l h, ap length e)

  -- U and UTT differ in their fifth byte
  u_or_utt : (s t : ℕ) → s ≡ 5 → t ≡ 7 → take s l ≡ ascii "// U " → take t l ≡ ascii "// UTT " → ⊥
  u_or_utt s t a b e f =
      let x : get_or l 4 0 ≡ 32 = sym (get_or-take s l 4 0 (omega arith)) ∙ ap (λ (z : List ℕ). get_or z 4 0) e in
      let y : get_or l 4 0 ≡ 84 = sym (get_or-take t l 4 0 (omega arith)) ∙ ap (λ (z : List ℕ). get_or z 4 0) f in
      omega arith

  u_start : (s t : ℕ) → s ≤ length l → t ≤ length l → (take s l ≡ ascii "// U ") ⊎ (take s l ≡ ascii "// UTT ")
      → (take t l ≡ ascii "// U ") ⊎ (take t l ≡ ascii "// UTT ") → s ≡ t
  u_start s t h k (inl e) (inl f) = omega (arith, first_text (ascii "// U ") s h e, first_text (ascii "// U ") t k f)
  u_start s t h k (inl e) (inr f) = absurd (u_or_utt s t (first_text (ascii "// U ") s h e) (first_text (ascii "// UTT ") t k f) e f)
  u_start s t h k (inr e) (inl f) = absurd (u_or_utt t s (first_text (ascii "// U ") t k f) (first_text (ascii "// UTT ") s h e) f e)
  u_start s t h k (inr e) (inr f) = omega (arith, first_text (ascii "// UTT ") s h e, first_text (ascii "// UTT ") t k f)

  -- an operand decides where it ends
  same_end : (s t e f : ℕ) → s ≡ t → s ≤ e → e ≤ length l → t ≤ f → f ≤ length l → slice s e l ≡ slice t f l → e ≡ f
  same_end s t e f z a b c d q = omega (arith, length-slice s e l b, length-slice t f l d, ap length q)

  pub card_only_one : (r q : Option CardRead) → CardSays l r → CardSays l q → r ≡ q
  card_only_one (Some (UCard s e)) (Some (UCard t f)) x y =
      let z : s ≡ t = u_start s t (omega arith) (omega arith) x.0 y.0 in
      let v : some (u_card s (slice s e l)) ≡ some (u_card t (slice t f l)) = sym x.3 ∙ y.3 in
      let w : e ≡ f = same_end s t e f z x.1 x.2 y.1 y.2 (cc) in
      cc
  card_only_one (Some (UCard s e)) (Some (FsCard t f)) x y = absurd (never (cc (x.3, y.3)))
  card_only_one (Some (UCard s e)) (Some EndCard) x y = absurd (never (cc x.3))
  card_only_one (Some (UCard s e)) None x y = absurd (never (cc x.3))
  card_only_one (Some (FsCard s e)) (Some (UCard t f)) x y = absurd (never (cc (x.3, y.3)))
  card_only_one (Some (FsCard s e)) (Some (FsCard t f)) x y =
      let z : s ≡ t = omega (arith, first_text (ascii "// FS ") s (omega arith) x.0, first_text (ascii "// FS ") t (omega arith) y.0) in
      let v : some (fs_card (slice s e l)) ≡ some (fs_card (slice t f l)) = sym x.3 ∙ y.3 in
      let w : e ≡ f = same_end s t e f z x.1 x.2 y.1 y.2 (cc) in
      cc
  card_only_one (Some (FsCard s e)) (Some EndCard) x y = absurd (never (cc x.3))
  card_only_one (Some (FsCard s e)) None x y = absurd (never (cc x.3))
  card_only_one (Some EndCard) (Some (UCard t f)) x y = absurd (never (cc y.3))
  card_only_one (Some EndCard) (Some (FsCard t f)) x y = absurd (never (cc y.3))
  card_only_one (Some EndCard) (Some EndCard) x y = refl
  card_only_one (Some EndCard) None x y = absurd (never (cc))
  card_only_one None (Some (UCard t f)) x y = absurd (never (cc y.3))
  card_only_one None (Some (FsCard t f)) x y = absurd (never (cc y.3))
  card_only_one None (Some EndCard) x y = absurd (never (cc))
  card_only_one None None x y = refl

-- ---- kind

pub kind_only_one : (l : List ℕ) {r q : Option CardKind} → r ≡ card_kind_of (card_of l) → q ≡ card_kind_of (card_of l) → r ≡ q
kind_only_one l e f = e ∙ sym f

-- ---- line

module _ (deck : List ℕ) (at : ℕ) where
  pub line_only_one : (r q : Option LineRead) → LineSays deck at r → LineSays deck at q → r ≡ q
  line_only_one (Some l) (Some m) x y =
      let v : slice at l.end deck ≡ slice at m.end deck = cc (x.4, y.4) in
      let w : l.end ≡ m.end = omega (arith, length-slice at l.end deck x.2, length-slice at m.end deck y.2, ap length v) in
      let z : l.next ≡ m.next = omega arith in
      λ i. Some (record { end = w i; next = z i })
  line_only_one (Some l) None x y = absurd (omega arith)
  line_only_one None (Some m) x y = absurd (omega arith)
  line_only_one None None x y = refl

-- ---- the order of the cards

-- what an answer says decides it
pub answer_once : (r q : Result ℕ Disorder) → answer_of r ≡ answer_of q → r ≡ q
answer_once (Ok c) (Ok d) e = ap Ok (fine_same c d e)
answer_once (Ok c) (Err (NoCard q)) e = absurd (not_fine _ c (sym e))
answer_once (Ok c) (Err (Misplaced q)) e = absurd (not_fine _ c (sym e))
answer_once (Err (NoCard p)) (Ok d) e = absurd (not_fine _ d e)
answer_once (Err (Misplaced p)) (Ok d) e = absurd (not_fine _ d e)
answer_once (Err (NoCard p)) (Err (NoCard q)) e = ap (λ (n : ℕ). Err (NoCard n)) (ap place_of e)
answer_once (Err (Misplaced p)) (Err (Misplaced q)) e = ap (λ (n : ℕ). Err (Misplaced n)) (ap place_of e)
answer_once (Err (NoCard p)) (Err (Misplaced q)) e = absurd (omega (arith, ap refusal_of e))
answer_once (Err (Misplaced p)) (Err (NoCard q)) e = absurd (omega (arith, ap refusal_of e))

-- a refusal is its number and its place
pub answer_refused : (d : Disorder) → answer_of (Err d) ≡ refused (refusal_of (answer_of (Err d))) (place_of (answer_of (Err d)))
answer_refused (NoCard p) = refl
answer_refused (Misplaced p) = refl

module _ (seen : LinesSeen) where
  pub with_line_only_one : (kind : Option CardKind) {r q : LinesSeen} → r ≡ with_line seen kind → q ≡ with_line seen kind → r ≡ q
  with_line_only_one kind e f = e ∙ sym f

  pub order_of_only_one : (r q : Result ℕ Disorder) → answer_of r ≡ order_of seen → answer_of q ≡ order_of seen → r ≡ q
  order_of_only_one r q e f = answer_once r q (e ∙ sym f)

pub order_only_one : (deck : List ℕ) (r q : Result ℕ Disorder) → answer_of r ≡ card_count (operands_of deck) → answer_of q ≡ card_count (operands_of deck) → r ≡ q
order_only_one deck r q e f = answer_once r q (e ∙ sym f)
