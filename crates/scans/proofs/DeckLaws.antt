-- A scan of a deck comes to its refusal 1 or 2, or to the number of its cards, in whatever pieces the deck is fed: after any bytes the state holds
-- what the lines ended so far come to, and as much of the begun line as a card can have. By going along the bytes.
use mathlib.Core.Path.{◌≡◌, refl, ap, sym, ◌∙◌, subst}
use mathlib.Core.Bool.{Bool, true, false}
use mathlib.Core.List.{List, [], ◌∷◌, ◌++◌, append-nil, append_assoc, map-append}
use Prim.Native.Nat.{ℕ, suc, min, ◌≤◌, ◌<◌}
use native.Mathlib.Omega.{arith}
use lib.Dec.{leb, eqb}
use lib.ListN.{length, take, length-append, length-set}
use lib.Seq.{take-suc-set}
use borrow.Author.Tests.{eqb-true, eqb-false, leb-true, leb-false}
use Rattle.rules.specs.Deck.{lines, card_of}
use Rattle.rules.specs.Order.{operands_of}
use Rattle.rules.proofs.Deck.LineLaws.{Passed, passed_none, passed_byte, passed_end, passed_all, passed_last}
use Rattle.rules.proofs.Deck.CardPlaces.{tidy_long, card_untidy}
use Rattle.lines.specs.Ordering.{most, card_kind_of, with_line, order_of, card_count}
use Rattle.std.specs.Prelude.{Option}
use Rattle.lines.specs.declared.CardKind.{CardKind}
use Rattle.lines.specs.declared.LinesSeen.{LinesSeen}
use Rattle.lines.proofs.SeenLaws.{no_line, with_lines, with_lines_more, kinds, deck_seen}
use Rattle.scans.specs.Scanning.{begun_kind, line_ended, with_byte, step_of, no_bytes, scan_from, scanned_of}
use Rattle.scans.specs.declared.Scanner.{Scanner}
use Rattle.scans.proofs.StepLaws.{begun_long, begun_short, byte_kept, byte_past, step_end, step_byte, scanned_between, scanned_inside}

-- ---- pieces

-- feeding x and then y is feeding x with y behind it
pub scan_pieces : (st : Scanner) (x y : List ℕ) → scan_from (scan_from st x) y ≡ scan_from st (x ++ y)
scan_pieces st [] y = refl
scan_pieces st (b ∷ x) y = scan_pieces (step_of st b) x y

-- ---- what a state holds

seen_ended : (st : Scanner) → (line_ended st).seen ≡ with_line st.seen (begun_kind st)
seen_ended st = refl

-- after the bytes x
pub record Held (x : List ℕ) (st : Scanner) : Type 0 where
  pub done : List (List ℕ)
  pub line : List ℕ
  pub passed : Passed x done line
  pub seen : st.seen ≡ with_lines no_line (kinds done)
  pub room : length st.begun ≡ 80
  pub long : st.size ≡ min (length line) 81
  pub kept : length line ≤ 80 → take (length line) st.begun ≡ line

pub held_none : Held [] no_bytes
unfolding no_bytes
held_none =
    record { done = []; line = []; passed = passed_none; seen = refl; room = refl; long = refl; kept = λ h. refl }

-- the begun line is judged as the whole line is
held_kind : {x : List ℕ} {st : Scanner} (h : Held x st) → begun_kind st ≡ card_kind_of (card_of h.line)
held_kind {x} {st} h = go (leb (length h.line) 80) refl
  where
    go : (t : Bool) → leb (length h.line) 80 ≡ t → begun_kind st ≡ card_kind_of (card_of h.line)
    go true t =
        let m : length h.line ≤ 80 = leb-true (length h.line) 80 t in
        let e : st.size ≡ length h.line = omega (arith, h.long) in
        begun_short st (omega arith) ∙ ap (λ (n : ℕ). card_kind_of (card_of (take n st.begun))) e ∙ ap (λ (l : List ℕ). card_kind_of (card_of l)) (h.kept m)
    go false t =
        let m : 80 < length h.line = leb-false (length h.line) 80 t in
        begun_long st (omega (arith, h.long)) ∙ sym (ap card_kind_of (card_untidy h.line (tidy_long h.line m)))

held_seen : {x : List ℕ} {st : Scanner} (h : Held x st) → (line_ended st).seen ≡ with_lines no_line (kinds (h.done ++ (h.line ∷ [])))
held_seen {x} {st} h =
    let k : Option CardKind = card_kind_of (card_of h.line) in
    seen_ended st
    ∙ ap (with_line st.seen) (held_kind h)
    ∙ ap (λ (t : LinesSeen). with_line t k) h.seen
    ∙ sym (with_lines_more no_line (kinds h.done) k)
    ∙ ap (with_lines no_line) (sym (map-append (λ l. card_kind_of (card_of l)) h.done (h.line ∷ [])))

-- a line ends
held_end : {x : List ℕ} {st : Scanner} → Held x st → Held (x ++ (0x0A ∷ [])) (line_ended st)
held_end {x} {st} h =
    record {
      done = h.done ++ (h.line ∷ []);
      line = [];
      passed = passed_end h.passed;
      seen = held_seen h;
      room = h.room;
      long = refl;
      kept = λ m. refl;
    }

-- a byte more
held_byte : {x : List ℕ} {st : Scanner} (b : ℕ) → (b ≡ 0x0A → ⊥) → Held x st → Held (x ++ (b ∷ [])) (with_byte st b)
held_byte {x} {st} b n h = go (leb 80 (length h.line)) refl
  where
    longer : length (h.line ++ (b ∷ [])) ≡ suc (length h.line)
    longer = omega (arith, length-append h.line (b ∷ []))

    go : (t : Bool) → leb 80 (length h.line) ≡ t → Held (x ++ (b ∷ [])) (with_byte st b)
    go false t =
        let m : length h.line < 80 = leb-false 80 (length h.line) t in
        let e : st.size ≡ length h.line = omega (arith, h.long) in
        subst (Held (x ++ (b ∷ []))) (byte_kept st b (omega arith))
        (record {
          done = h.done;
          line = h.line ++ (b ∷ []);
          passed = passed_byte h.passed b n;
          seen = h.seen;
          room = length-set st.begun st.size b ∙ h.room;
          long = omega (arith, longer);
          kept = λ z. rw (longer, e)
              (take-suc-set st.begun (length h.line) b (omega (arith, h.room)) ∙ ap (λ (l : List ℕ). l ++ (b ∷ [])) (h.kept (omega arith)));
        })
    go true t =
        let m : 80 ≤ length h.line = leb-true 80 (length h.line) t in
        subst (Held (x ++ (b ∷ []))) (byte_past st b (omega (arith, h.long)))
        (record {
          done = h.done;
          line = h.line ++ (b ∷ []);
          passed = passed_byte h.passed b n;
          seen = h.seen;
          room = h.room;
          long = omega (arith, longer);
          kept = λ z. absurd (omega (arith, longer));
        })

held_step : {x : List ℕ} {st : Scanner} (b : ℕ) → Held x st → Held (x ++ (b ∷ [])) (step_of st b)
held_step {x} {st} b h = go (eqb b 0x0A) refl
  where
    go : (t : Bool) → eqb b 0x0A ≡ t → Held (x ++ (b ∷ [])) (step_of st b)
    go true t =
        let e : b ≡ 0x0A = eqb-true b 0x0A t in
        subst (Held (x ++ (b ∷ []))) (sym (step_end st b e)) (subst (λ (z : ℕ). Held (x ++ (z ∷ [])) (line_ended st)) (sym e) (held_end h))
    go false t =
        let n : b ≡ 0x0A → ⊥ = eqb-false b 0x0A t in
        subst (Held (x ++ (b ∷ []))) (sym (step_byte st b n)) (held_byte b n h)

-- a piece more
pub held_piece : {x : List ℕ} {st : Scanner} (y : List ℕ) → Held x st → Held (x ++ y) (scan_from st y)
held_piece {x} {st} [] h = subst (λ (l : List ℕ). Held l st) (sym (append-nil x)) h
held_piece {x} {st} (b ∷ y) h =
    subst (λ (l : List ℕ). Held l (scan_from (step_of st b) y)) (append_assoc x (b ∷ []) y) (held_piece {x = x ++ (b ∷ [])} y (held_step b h))

-- ---- what a scan comes to

-- it is what judging the lines of the deck comes to
pub held_lines : (x : List ℕ) (st : Scanner) → Held x st → scanned_of st ≡ order_of (with_lines no_line (kinds (lines x)))
held_lines x st h = go h.line refl
  where
    go : (line : List ℕ) → h.line ≡ line → scanned_of st ≡ order_of (with_lines no_line (kinds (lines x)))
    go [] e =
        scanned_between st (omega (arith, h.long, ap length e))
        ∙ rw (passed_all (subst (Passed x h.done) e h.passed)) (ap order_of h.seen)
    go (b ∷ l) e =
        scanned_inside st (λ z. omega (arith, h.long, ap length e))
        ∙ rw (passed_last h.passed (omega (arith, ap length e))) (ap order_of (held_seen h))

-- a state that holds a deck answers for it
pub held_deck : (x : List ℕ) (st : Scanner) → Held x st → length x < most → scanned_of st ≡ card_count (operands_of x)
held_deck x st h few = held_lines x st h ∙ deck_seen x few

-- the scan of a deck
pub scanned_deck : (x : List ℕ) → length x < most → scanned_of (scan_from no_bytes x) ≡ card_count (operands_of x)
scanned_deck x few = held_deck x (scan_from no_bytes x) (held_piece x held_none) few

-- in two pieces
pub scanned_pieces : (x y : List ℕ) → length (x ++ y) < most → scanned_of (scan_from (scan_from no_bytes x) y) ≡ card_count (operands_of (x ++ y))
scanned_pieces x y few = ap scanned_of (scan_pieces no_bytes x y) ∙ scanned_deck (x ++ y) few
