-- A scan that is settled comes to refusal 1, at the same place whatever follows: the first line that is no card stays the first, and a line that is longer than any
-- card is none where it ends. By going along the bytes.
use mathlib.Core.Path.{◌≡◌, refl, ap, sym, ◌∙◌}
use mathlib.Core.Logic.{◌⊎◌, inl, inr}
use mathlib.Core.Bool.{Bool, true, false}
use mathlib.Core.List.{List, [], ◌∷◌}
use Prim.Native.Nat.{ℕ, ◌<◌}
use native.Mathlib.Omega.{arith}
use lib.Dec.{ltb, leb, eqb}
use borrow.Author.Tests.{eqb-true, eqb-false, leb-true, leb-false, ltb-true}
use Rattle.std.specs.Prelude.{Option, None, Some, is_none}
use Rattle.rules.specs.Answer.{refused}
use Rattle.lines.specs.Ordering.{one_more, first_marked}
use Rattle.lines.proofs.SeenSteps.{first_stays, first_place, order_bad}
use Rattle.scans.specs.Scanning.{begun_kind, line_ended, with_byte, step_of, scan_from, scanned_of, settled}
use Rattle.scans.specs.declared.Scanner.{Scanner}
use Rattle.scans.proofs.StepLaws.{begun_long, byte_kept, byte_past, step_end, step_byte, scanned_between, scanned_inside}

-- ---- steps

module _ (st : Scanner) where
  bad_ended : (line_ended st).seen.bad ≡ first_marked st.seen.bad (is_none (begun_kind st)) (one_more st.seen.lines)
  bad_ended = refl

  module _ (b : ℕ) where
    -- a byte more of the begun line changes nothing that has ended
    byte_bad : (with_byte st b).seen.bad ≡ st.seen.bad
    byte_bad = go (leb 80 st.size) refl
      where
        go : (t : Bool) → leb 80 st.size ≡ t → (with_byte st b).seen.bad ≡ st.seen.bad
        go true t = ap (λ (z : Scanner). z.seen.bad) (sym (byte_past st b (leb-true 80 st.size t)))
        go false t = ap (λ (z : Scanner). z.seen.bad) (sym (byte_kept st b (leb-false 80 st.size t)))

-- ---- what it comes to

-- refusal 1 at this place is settled: by a line that has ended, or by the begun one
abbrev SettledAt : Scanner → ℕ → Type 0
SettledAt st p = (st.seen.bad ≡ Some p) ⊎ ((st.seen.bad ≡ None) × (80 < st.size) × (one_more st.seen.lines ≡ p))

-- the begun line, longer than any card, is marked where it ends
long_marked : (st : Scanner) → st.seen.bad ≡ None → 80 < st.size → first_marked st.seen.bad (is_none (begun_kind st)) (one_more st.seen.lines) ≡ Some (one_more st.seen.lines)
long_marked st e h = first_place (is_none (begun_kind st)) (one_more st.seen.lines) st.seen.bad e (ap is_none (begun_long st h))

ended_at : (st : Scanner) (p : ℕ) → SettledAt st p → (line_ended st).seen.bad ≡ Some p
ended_at st p (inl s) = bad_ended st ∙ first_stays (is_none (begun_kind st)) (one_more st.seen.lines) st.seen.bad p s
ended_at st p (inr s) = bad_ended st ∙ long_marked st s.0 s.1 ∙ ap Some s.2

answer_at_lem : (st : Scanner) (p : ℕ) → SettledAt st p → scanned_of st ≡ refused 1 p
answer_at_lem st p s = go (eqb st.size 0) refl s
  where
    go : (t : Bool) → eqb st.size 0 ≡ t → SettledAt st p → scanned_of st ≡ refused 1 p
    go false t s = scanned_inside st (eqb-false st.size 0 t) ∙ order_bad (line_ended st).seen p (ended_at st p s)
    go true t (inl s) = scanned_between st (eqb-true st.size 0 t) ∙ order_bad st.seen p s
    go true t (inr s) = absurd (omega (arith, eqb-true st.size 0 t, s.1))

byte_at : (st : Scanner) (b p : ℕ) → SettledAt st p → SettledAt (with_byte st b) p
byte_at st b p (inl s) = inl (byte_bad st b ∙ s)
byte_at st b p (inr s) =
    let e : ◌≡◌ {A = Scanner} _ (with_byte st b) = byte_past st b (omega (arith, s.1)) in
    inr (byte_bad st b ∙ s.0, omega (arith, ap (λ (z : Scanner). z.size) e), sym (ap (λ (z : Scanner). one_more z.seen.lines) e) ∙ s.2)

step_at : (st : Scanner) (b p : ℕ) → SettledAt st p → SettledAt (step_of st b) p
step_at st b p s = go (eqb b 0x0A) refl
  where
    go : (t : Bool) → eqb b 0x0A ≡ t → SettledAt (step_of st b) p
    go true t = rw (step_end st b (eqb-true b 0x0A t)) (inl (ended_at st p s))
    go false t = rw (step_byte st b (eqb-false b 0x0A t)) (byte_at st b p s)

scan_at : (st : Scanner) (bytes : List ℕ) (p : ℕ) → SettledAt st p → scanned_of (scan_from st bytes) ≡ refused 1 p
scan_at st [] p s = answer_at_lem st p s
scan_at st (b ∷ bytes) p s = scan_at (step_of st b) bytes p (step_at st b p s)

is_at : (st : Scanner) → settled st ≡ true → (p : ℕ) × SettledAt st p
is_at st e = go st.seen.bad refl
  where
    go : (o : Option ℕ) → st.seen.bad ≡ o → (p : ℕ) × SettledAt st p
    go (Some p) b = (p, inl b)
    go None b =
        let long : ltb 80 st.size ≡ true = rw b at e in
        (one_more st.seen.lines, inr (b, ltb-true 80 st.size long, refl))

-- ---- whatever follows

pub settled_stays : (st : Scanner) (bytes : List ℕ) → settled st ≡ true → scanned_of (scan_from st bytes) ≡ scanned_of st
settled_stays st bytes e = let s = is_at st e in scan_at st bytes s.0 s.1 ∙ sym (answer_at_lem st s.0 s.1)
