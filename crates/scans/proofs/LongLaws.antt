-- A deck of more than 5,184 bytes is refused by 1 or 2, whatever its length: where no line is marked, each has at most 80 bytes and its end, and there
-- are at most 64 of them. By going along the lines.
use mathlib.Core.Path.{◌≡◌, refl, ap, ◌∙◌}
use mathlib.Core.Logic.{◌⊎◌, inl, inr, ⊎_elim}
use mathlib.Core.Bool.{Bool, true, false, cond}
use mathlib.Core.List.{List, [], ◌∷◌}
use Prim.Native.Nat.{ℕ, suc, ◌+◌, ◌*◌, ◌≤◌, ◌<◌}
use native.Mathlib.Omega.{arith}
use lib.Dec.{ltb, leb, eqb}
use lib.ListN.{length, length-append}
use borrow.Author.Tests.{leb-true, leb-false, ltb-false}
use Rattle.std.specs.Prelude.{Option, None, Some, is_none}
use Rattle.rules.specs.Answer.{refused}
use Rattle.rules.specs.Deck.{lines, card_of}
use Rattle.rules.proofs.Deck.LineLaws.{ended, lines_deck}
use Rattle.rules.proofs.Deck.CardPlaces.{tidy_long, card_untidy}
use Rattle.lines.specs.Ordering.{one_more, first_marked, card_kind_of, faulty, misplaced, with_line, order_of}
use Rattle.lines.specs.declared.CardKind.{CardKind}
use Rattle.lines.specs.declared.CardKind.TheVariants.{Utility, Select, End}
use Rattle.lines.specs.declared.LinesSeen.{LinesSeen}
use Rattle.lines.proofs.MeaningLaws.{not_both}
use Rattle.lines.proofs.SeenSteps.{order_bad, order_fault}
use Rattle.lines.proofs.SeenLaws.{no_line, with_lines, kinds, bad_stays, fault_stays, next_place}
use Rattle.scans.specs.Scanning.{no_bytes, scan_from, scanned_of}
use Rattle.scans.proofs.DeckLaws.{held_none, held_piece, held_lines}

-- ---- a line that is not marked

first_none : (old : Option ℕ) (marked : Bool) (place : ℕ) → first_marked old marked place ≡ None → marked ≡ false
first_none (Some p) marked place e = cc
first_none None true place e = cc
first_none None false place e = refl

faulty_few : (place : ℕ) (ended : Bool) → faulty place ended ≡ false → place ≤ 64
faulty_few place ended e = go (eqb place 1) ended e
  where
    go : (t d : Bool) → cond t true (cond d true (ltb 64 place)) ≡ false → place ≤ 64
    go true d e = absurd (not_both e)
    go false true e = absurd (not_both e)
    go false false e = ltb-false 64 place e

placed_few : (k : Option CardKind) (place : ℕ) (ended : Bool) → is_none k ≡ false → misplaced k place ended ≡ false → place ≤ 64
placed_few (Some Utility) place ended o e = omega (arith, ltb-false 1 place e)
placed_few (Some Select) place ended o e = faulty_few place ended e
placed_few (Some End) place ended o e = faulty_few place ended e
placed_few None place ended o e = absurd (not_both o)

card_short : (l : List ℕ) → is_none (card_kind_of (card_of l)) ≡ false → length l ≤ 80
card_short l e = go (leb (length l) 80) refl
  where
    go : (t : Bool) → leb (length l) 80 ≡ t → length l ≤ 80
    go true t = leb-true (length l) 80 t
    go false t = absurd (not_both (rw (card_untidy l (tidy_long l (leb-false (length l) 80 t))) at e))

-- ---- lines of which none is marked

marked_or : (o : Option ℕ) → (o ≡ None) ⊎ ((p : ℕ) × (o ≡ Some p))
marked_or None = inl refl
marked_or (Some p) = inr (p, refl)

-- what is not marked at the end never was
bad_never : (t : LinesSeen) (ks : List (Option CardKind)) → (with_lines t ks).bad ≡ None → t.bad ≡ None
bad_never t ks e = go (marked_or t.bad)
  where
    go : (t.bad ≡ None) ⊎ ((p : ℕ) × (t.bad ≡ Some p)) → t.bad ≡ None
    go (inl z) = z
    go (inr (p, z)) = let s = bad_stays t ks p z in cc

fault_never : (t : LinesSeen) (ks : List (Option CardKind)) → (with_lines t ks).fault ≡ None → t.fault ≡ None
fault_never t ks e = go (marked_or t.fault)
  where
    go : (t.fault ≡ None) ⊎ ((p : ℕ) × (t.fault ≡ Some p)) → t.fault ≡ None
    go (inl z) = z
    go (inr (p, z)) = let s = fault_stays t ks p z in cc

unmarked_short : (t : LinesSeen) (n : ℕ) (ls : List (List ℕ)) → t.lines ≡ n → n ≤ 64 → (with_lines t (kinds ls)).bad ≡ None → (with_lines t (kinds ls)).fault ≡ None
    → (n + length ls ≤ 64) × (length (ended ls) ≤ 81 * length ls)
unmarked_short t n [] e h good right = omega arith
unmarked_short t n (l ∷ ls) e h good right =
    let k : Option CardKind = card_kind_of (card_of l) in
    let place : one_more t.lines ≡ suc n = next_place t n e (omega arith) in
    let o : is_none k ≡ false = first_none t.bad (is_none k) (one_more t.lines) (bad_never (with_line t k) (kinds ls) good) in
    let m : misplaced k (one_more t.lines) t.ended ≡ false
    = first_none t.fault (misplaced k (one_more t.lines) t.ended) (one_more t.lines) (fault_never (with_line t k) (kinds ls) right) in
    let few : one_more t.lines ≤ 64 = placed_few k (one_more t.lines) t.ended o m in
    let r = unmarked_short (with_line t k) (suc n) ls place (omega arith) good right in
    omega (arith, r.0, r.1, card_short l o, length-append l (0x0A ∷ ended ls))

-- ---- decks

deck_ended : (x : List ℕ) → length x ≤ length (ended (lines x))
deck_ended x = ⊎_elim (λ e. omega (arith, ap length e)) (λ e. omega (arith, ap length e, length-append x (0x0A ∷ []))) (lines_deck x)

-- a long deck is refused
pub long_refused : (x : List ℕ) → 5184 < length x
    → (p : ℕ) × ((scanned_of (scan_from no_bytes x) ≡ refused 1 p) ⊎ (scanned_of (scan_from no_bytes x) ≡ refused 2 p))
long_refused x h = go (marked_or t.bad) (marked_or t.fault)
  where
    t : LinesSeen
    t = with_lines no_line (kinds (lines x))

    is : scanned_of (scan_from no_bytes x) ≡ order_of t
    is = held_lines x (scan_from no_bytes x) (held_piece x held_none)

    go : (t.bad ≡ None) ⊎ ((p : ℕ) × (t.bad ≡ Some p)) → (t.fault ≡ None) ⊎ ((p : ℕ) × (t.fault ≡ Some p))
        → (p : ℕ) × ((scanned_of (scan_from no_bytes x) ≡ refused 1 p) ⊎ (scanned_of (scan_from no_bytes x) ≡ refused 2 p))
    go (inr (p, m)) f = (p, inl (is ∙ order_bad t p m))
    go (inl e) (inr (p, m)) = (p, inr (is ∙ order_fault t e p m))
    go (inl e) (inl f) = let r = unmarked_short no_line 0 (lines x) refl (omega arith) e f in absurd (omega (arith, r.0, r.1, deck_ended x))
