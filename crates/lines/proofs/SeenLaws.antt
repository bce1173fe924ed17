-- Judging a deck's lines one after another comes to the refusal 1 or 2 of the rules, or to the number of the cards. What was marked first stays
-- marked; as long as nothing is marked, the rules say of the lines left what is still to come. By going along the lines, and then the cards.
use mathlib.Core.Path.{◌≡◌, refl, ap, sym, ◌∙◌}
use mathlib.Core.Bool.{Bool, true, false}
use mathlib.Core.List.{List, [], ◌∷◌, ◌++◌, map}
use Rattle.std.specs.Prelude.{Option as Perhaps, None, Some, is_none}
use mathlib.Core.Option.{Option, none, some}
use Prim.Native.Nat.{ℕ, suc, ◌+◌, ◌≤◌, ◌<◌}
use native.Mathlib.Omega.{arith}
use lib.Dec.{ltb, leb}
use lib.ListN.{length, drop, length-map}
use lib.Seq.{slice}
use borrow.Author.Tests.{lt-ltb, le-ltb, leb-true, leb-false}
use Rattle.rules.specs.Answer.{Answer, fine, refuse, refused, Refusal, ◌>>=◌}
use Rattle.rules.specs.Deck.{lines, Card, u_card, fs_card, end_card, card_of}
use Rattle.rules.specs.Order.{cards_from, nothing_from, fs_from, ordered, operands_of}
use Rattle.rules.proofs.Refusals.AnswerLaws.{not_fine}
use Rattle.rules.proofs.Deck.LineLaws.{lines_most}
use Rattle.rules.proofs.Deck.ScanLaws.{cards_each, made_refused}
use Rattle.lines.specs.Meaning.{LineSays}
use Rattle.lines.specs.Ordering.{most, one_more, card_kind_of, closed, misplaced, with_line, order_of, card_count}
use Rattle.lines.specs.declared.CardKind.{CardKind}
use Rattle.lines.specs.declared.CardKind.TheVariants.{Utility, Select, End}
use Rattle.lines.specs.declared.LinesSeen.{LinesSeen}
use Rattle.lines.specs.declared.LineRead.{LineRead}
use Rattle.lines.proofs.SeenSteps.{one_more_below, first_stays, first_place, first_unmarked, faulty_first, faulty_ended, faulty_past, order_bad, order_fault, order_cards, order_open}

-- no line has been judged
abbrev pub no_line : LinesSeen
no_line = record { lines = 0; bad = None; fault = None; ended = false }

-- lines are judged one after another
abbrev pub with_lines : LinesSeen → List (Perhaps CardKind) → LinesSeen
with_lines t [] = t
with_lines t (k ∷ ks) = with_lines (with_line t k) ks

pub with_lines_more : (t : LinesSeen) (ks : List (Perhaps CardKind)) (k : Perhaps CardKind) → with_lines t (ks ++ (k ∷ [])) ≡ with_line (with_lines t ks) k
with_lines_more t [] k = refl
with_lines_more t (j ∷ ks) k = with_lines_more (with_line t j) ks k

abbrev pub kinds : List (List ℕ) → List (Perhaps CardKind)
kinds ls = map (λ l. card_kind_of (card_of l)) ls

abbrev faces : List Card → List (Perhaps CardKind)
faces cs = map (λ c. card_kind_of (some c)) cs

-- n lines have been judged, and nothing is marked
record Clear (t : LinesSeen) (n : ℕ) (ended : Bool) : Type 0 where
  pub count : t.lines ≡ n
  pub good : t.bad ≡ None
  pub right : t.fault ≡ None
  pub end : t.ended ≡ ended

-- ---- what is marked stays

pub bad_stays : (t : LinesSeen) (ks : List (Perhaps CardKind)) (p : ℕ) → t.bad ≡ Some p → (with_lines t ks).bad ≡ Some p
bad_stays t [] p e = e
bad_stays t (k ∷ ks) p e = bad_stays (with_line t k) ks p (first_stays (is_none k) (one_more t.lines) t.bad p e)

pub fault_stays : (t : LinesSeen) (ks : List (Perhaps CardKind)) (p : ℕ) → t.fault ≡ Some p → (with_lines t ks).fault ≡ Some p
fault_stays t [] p e = e
fault_stays t (k ∷ ks) p e =
    fault_stays (with_line t k) ks p (first_stays (misplaced k (one_more t.lines) t.ended) (one_more t.lines) t.fault p e)

is_card : (c : Card) → is_none (card_kind_of (some c)) ≡ false
is_card (u_card b o) = refl
is_card (fs_card o) = refl
is_card end_card = refl

card_good : (t : LinesSeen) (c : Card) → (with_line t (card_kind_of (some c))).bad ≡ t.bad
card_good t c = first_unmarked (is_none (card_kind_of (some c))) (one_more t.lines) t.bad (is_card c)

cards_good : (t : LinesSeen) (cs : List Card) → (with_lines t (faces cs)).bad ≡ t.bad
cards_good t [] = refl
cards_good t (c ∷ cs) = cards_good (with_line t (card_kind_of (some c))) cs ∙ card_good t c

-- ---- refusal 1

pub next_place : (t : LinesSeen) (n : ℕ) → t.lines ≡ n → n < most → one_more t.lines ≡ suc n
next_place t n e h = let l : t.lines < most = omega arith in omega (arith, one_more_below t.lines l)

-- the first line that is no card is marked
bad_first : (n : ℕ) (ls : List (List ℕ)) (r : Refusal) (t : LinesSeen) → t.lines ≡ n → t.bad ≡ None → n + length ls ≤ most → cards_from (suc n) ls ≡ refuse r
    → (r.number ≡ 1) × ((with_lines t (kinds ls)).bad ≡ Some r.place) × (r.column ≡ 0)
bad_first n [] r t e g h f = absurd (not_fine r [] (sym f))
bad_first n (l ∷ ls) r t e g h f =
    go (λ k p q u. bad_first (suc n) ls r (with_line t k) p q (omega arith) u) (card_of l) refl
  where
    place : one_more t.lines ≡ suc n
    place = next_place t n e (omega arith)

    go : ((k : Perhaps CardKind) → (with_line t k).lines ≡ suc n → (with_line t k).bad ≡ None → cards_from (suc (suc n)) ls ≡ refuse r
        → (r.number ≡ 1) × ((with_lines (with_line t k) (kinds ls)).bad ≡ Some r.place) × (r.column ≡ 0))
        → (o : Option Card) → card_of l ≡ o → (r.number ≡ 1) × ((with_lines t (kinds (l ∷ ls))).bad ≡ Some r.place) × (r.column ≡ 0)
    go ih none d =
        let v : refuse (record { number = 1; place = suc n; column = 0 }) ≡ refuse r = rw d at f in
        let w : record { number = 1; place = suc n; column = 0 } ≡ r = cc in
        let p : suc n ≡ r.place = ap (λ (z : Refusal). z.place) w in
        let b : (with_line t None).bad ≡ Some r.place = first_place true (one_more t.lines) t.bad g refl ∙ ap Some (place ∙ p) in (
          sym (ap (λ (z : Refusal). z.number) w),
          rw d (bad_stays (with_line t None) (kinds ls) r.place b),
          sym (ap (λ (z : Refusal). z.column) w),
        )
    go ih (some c) d =
        let v = made_refused (cards_from (suc (suc n)) ls) (λ cs. c ∷ cs) r (rw d at f) in
        rw d (ih (card_kind_of (some c)) place (card_good t c ∙ g) v)

-- ---- refusal 2

-- the card is at fault, and is the first
module _ {t : LinesSeen} {n : ℕ} {e : Bool} (clear : Clear t n e) (less : n < most) where
  at_fault : (c : Card) (cs : List Card) → misplaced (card_kind_of (some c)) (suc n) e ≡ true → order_of (with_lines t (faces (c ∷ cs))) ≡ refused 2 (suc n)
  at_fault c cs m =
      let k : Perhaps CardKind = card_kind_of (some c) in
      let place : one_more t.lines ≡ suc n = next_place t n clear.count less in
      let marked : misplaced k (one_more t.lines) t.ended ≡ true = rw (place, clear.end) m in
      let f : (with_line t k).fault ≡ Some (suc n)
      = first_place (misplaced k (one_more t.lines) t.ended) (one_more t.lines) t.fault clear.right marked ∙ ap Some place in
      let b : (with_lines (with_line t k) (faces cs)).bad ≡ None = cards_good (with_line t k) cs ∙ card_good t c ∙ clear.good in
      order_fault (with_lines (with_line t k) (faces cs)) b (suc n) (fault_stays (with_line t k) (faces cs) (suc n) f)

  -- the card is in its place
  in_place : (c : Card) → misplaced (card_kind_of (some c)) (suc n) e ≡ false → Clear (with_line t (card_kind_of (some c))) (suc n) (closed (card_kind_of (some c)) e)
  in_place c m =
      let k : Perhaps CardKind = card_kind_of (some c) in
      let place : one_more t.lines ≡ suc n = next_place t n clear.count less in
      let marked : misplaced k (one_more t.lines) t.ended ≡ false = rw (place, clear.end) m in
      record {
        count = place;
        good = card_good t c ∙ clear.good;
        right = first_unmarked (misplaced k (one_more t.lines) t.ended) (one_more t.lines) t.fault marked ∙ clear.right;
        end = ap (closed k) clear.end;
      }

  none_left : e ≡ false → order_of t ≡ refused 2 (suc n)
  none_left f = order_open t clear.good clear.right (clear.end ∙ f) ∙ ap (λ (p : ℕ). refused 2 p) (next_place t n clear.count less)

-- what is read of the cards after the first, where n are before them
abbrev answer_from : ℕ → Answer (List (List ℕ)) → Answer ℕ
answer_from n (refuse r) = refuse r
answer_from n (fine os) = fine (suc n + length os)

-- after an END card nothing may stand
end_seen : (t : LinesSeen) (n : ℕ) (cs : List Card) → Clear t (suc n) true → suc n + length cs < most
    → order_of (with_lines t (faces cs)) ≡ answer_from n (nothing_from (suc (suc n)) cs)
end_seen t n [] k h = order_cards t k.good k.right k.end ∙ ap (λ (m : ℕ). fine m) (let z : t.lines ≡ suc n + 0 = omega (arith, k.count) in z)
end_seen t n (c ∷ cs) k h = at_fault k (omega arith) c cs (wrong c)
  where
    second : suc (suc n) ≡ 1 → ⊥
    second z = omega arith

    wrong : (c : Card) → misplaced (card_kind_of (some c)) (suc (suc n)) true ≡ true
    wrong (u_card b o) = lt-ltb 1 (suc (suc n)) (omega arith)
    wrong (fs_card o) = faulty_ended (suc (suc n)) true second refl
    wrong end_card = faulty_ended (suc (suc n)) true second refl

fs_more : (n : ℕ) (o : List ℕ) (x : Answer (List (List ℕ))) → answer_from (suc n) x ≡ answer_from n (x >>= λ os. fine (o ∷ os))
unfolding ◌>>=◌
fs_more n o (refuse r) = refl
fs_more n o (fine os) = ap (λ (m : ℕ). fine m) (let z : suc (suc n) + length os ≡ suc n + suc (length os) = omega arith in z)

-- after a U card
fs_seen : (t : LinesSeen) (n : ℕ) (cs : List Card) → 1 ≤ n → Clear t n false → n + length cs < most
    → order_of (with_lines t (faces cs)) ≡ answer_from n (fs_from (suc n) cs)
fs_seen t n [] one k h = none_left k (omega arith) refl
fs_seen t n (u_card b o ∷ cs) one k h = at_fault k (omega arith) (u_card b o) cs (lt-ltb 1 (suc n) (omega arith))
fs_seen t n (fs_card o ∷ cs) one k h = go (λ j. fs_seen (with_line t (Some Select)) (suc n) cs (omega arith) j (omega arith)) (leb (suc n) 64) refl
  where
    wrong : misplaced (Some Select) (suc n) false ≡ ltb 64 (suc n)
    wrong = faulty_past (suc n) false (λ z. omega arith) refl

    go : (Clear (with_line t (Some Select)) (suc n) false → order_of (with_lines (with_line t (Some Select)) (faces cs)) ≡ answer_from (suc n) (fs_from (suc (suc n)) cs))
        → (b : Bool) → leb (suc n) 64 ≡ b
        → order_of (with_lines t (faces (fs_card o ∷ cs))) ≡ answer_from n (fs_from (suc n) (fs_card o ∷ cs))
    go ih true b =
        rw b
        (ih (in_place k (omega arith) (fs_card o) (wrong ∙ le-ltb 64 (suc n) (leb-true (suc n) 64 b)))
        ∙ fs_more n o (fs_from (suc (suc n)) cs))
    go ih false b = rw b (at_fault k (omega arith) (fs_card o) cs (wrong ∙ lt-ltb 64 (suc n) (leb-false (suc n) 64 b)))
fs_seen t n (end_card ∷ cs) one k h = go (leb (suc n) 64) refl
  where
    wrong : misplaced (Some End) (suc n) false ≡ ltb 64 (suc n)
    wrong = faulty_past (suc n) false (λ z. omega arith) refl

    go : (b : Bool) → leb (suc n) 64 ≡ b → order_of (with_lines t (faces (end_card ∷ cs))) ≡ answer_from n (fs_from (suc n) (end_card ∷ cs))
    go true b =
        rw b
        (end_seen (with_line t (Some End)) n cs (in_place k (omega arith) end_card (wrong ∙ le-ltb 64 (suc n) (leb-true (suc n) 64 b))) (omega arith))
    go false b = rw b (at_fault k (omega arith) end_card cs (wrong ∙ lt-ltb 64 (suc n) (leb-false (suc n) 64 b)))

u_first : (b : ℕ) (o : List ℕ) (x : Answer (List (List ℕ))) → answer_from 1 x ≡ card_count (x >>= λ os. fine (record { before = b; u = o; fs = os }))
unfolding ◌>>=◌
u_first b o (refuse r) = refl
u_first b o (fine os) = refl

-- the cards
ordered_seen : (t : LinesSeen) (cs : List Card) → Clear t 0 false → length cs < most → order_of (with_lines t (faces cs)) ≡ card_count (ordered cs)
unfolding ◌>>=◌
ordered_seen t [] k h = none_left k (omega arith) refl
ordered_seen t (u_card b o ∷ cs) k h =
    fs_seen (with_line t (Some Utility)) 1 cs (omega arith) (in_place k (omega arith) (u_card b o) (le-ltb 1 1 (omega arith))) (omega arith)
    ∙ u_first b o (fs_from 2 cs)
ordered_seen t (fs_card o ∷ cs) k h = at_fault k (omega arith) (fs_card o) cs (faulty_first 1 false refl)
ordered_seen t (end_card ∷ cs) k h = at_fault k (omega arith) end_card cs (faulty_first 1 false refl)

-- ---- the lines

map_kinds : (ls : List (List ℕ)) → map card_kind_of (map card_of ls) ≡ kinds ls
map_kinds [] = refl
map_kinds (l ∷ ls) = ap (card_kind_of (card_of l) ∷◌) (map_kinds ls)

map_faces : (cs : List Card) → map card_kind_of (map some cs) ≡ faces cs
map_faces [] = refl
map_faces (c ∷ cs) = ap (card_kind_of (some c) ∷◌) (map_faces cs)

lines_seen : (t : LinesSeen) (ls : List (List ℕ)) → Clear t 0 false → length ls < most
    → order_of (with_lines t (kinds ls)) ≡ card_count (cards_from 1 ls >>= ordered)
unfolding ◌>>=◌
lines_seen t ls k h = go (cards_from 1 ls) refl
  where
    go : (x : Answer (List Card)) → cards_from 1 ls ≡ x → order_of (with_lines t (kinds ls)) ≡ card_count (x >>= ordered)
    go (refuse r) e =
        let w = bad_first 0 ls r t k.count k.good (omega arith) e in
        order_bad (with_lines t (kinds ls)) r.place w.1 ∙ rw (w.0, w.2) refl
    go (fine cs) e =
        let m = cards_each 1 ls cs e in
        let f : kinds ls ≡ faces cs = rw (← map_kinds ls, m) (map_faces cs) in
        let s : length cs ≡ length ls = sym (length-map cs some) ∙ sym (ap length m) ∙ length-map ls card_of in
        ap (λ (ks : List (Perhaps CardKind)). order_of (with_lines t ks)) f ∙ ordered_seen t cs k (omega arith)

-- all lines of a deck
pub deck_seen : (x : List ℕ) → length x < most → order_of (with_lines no_line (kinds (lines x))) ≡ card_count (operands_of x)
unfolding operands_of
deck_seen x few =
    lines_seen no_line (lines x) (record { count = refl; good = refl; right = refl; end = refl }) (omega (arith, lines_most x))

-- ---- a deck whose lines from a place on are left

-- judging what is left comes to what judging all comes to
abbrev pub Left : List ℕ → ℕ → LinesSeen → Type 0
Left x at t = with_lines no_line (kinds (lines x)) ≡ with_lines t (kinds (lines (drop at x)))

-- one more is judged
pub left_line : (x : List ℕ) (at : ℕ) (line : LineRead) (t : LinesSeen) → LineSays x at (Some line) → Left x at t
    → Left x line.next (with_line t (card_kind_of (card_of (slice at line.end x))))
left_line x at line t l e = e ∙ ap (λ (ls : List (List ℕ)). with_lines t (kinds ls)) l.4

-- none is left
pub left_none : (x : List ℕ) (at : ℕ) (t : LinesSeen) → LineSays x at None → Left x at t → with_lines no_line (kinds (lines x)) ≡ t
left_none x at t l e = e ∙ ap (λ (ls : List (List ℕ)). with_lines t (kinds ls)) l.1
