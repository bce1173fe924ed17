-- When a record agrees with an output record: exactly where the fields, written over its bytes, change nothing, and it ends with the tail. It holds since at a
-- position that a field writes the bytes do not depend on what the fields are written over, and at any other they are what was there.
use mathlib.Core.Path.{◌≡◌, refl, ap, sym, subst, ◌∙◌}
use mathlib.Core.Bool.{Bool, true, false, cond, ◌||◌, true≢false, false≢true}
use mathlib.Core.List.{List, [], ◌∷◌, ◌++◌}
use mathlib.Core.Logic.{◌↔◌, ◌⊎◌, inl, inr}
use Prim.Native.Nat.{ℕ, zero, suc, ◌+◌, ◌-◌, ◌≤◌, ◌<◌}
use native.Mathlib.Decide.{dec_le}
use native.Mathlib.Nat.{not-suc-le-zero}
use native.Mathlib.Omega.{arith}
use lib.Dec.{ltb, leb, eqb}
use lib.ListN.{length, take, drop, get_or, replicate, length-append, length-drop, length-replicate, get_or-append}
use lib.Seq.{length-take-le, get_or-append-add, get_or-drop, get_or-take, ext_get_or}
use borrow.Author.Tests.{ltb-true, ltb-false, leb-true, leb-false, eqb-true, le-leb, lt-ltb, le-ltb, eq-eqb}
use Rattle.rules.specs.Base.{◌⇒◌}
use Rattle.rules.specs.Places.{All, no_more, also}
use Rattle.rules.specs.Halves.{output_size, Field, over}
use Rattle.rules.specs.Plan.{Plan, selects, record_length}
use Rattle.rules.specs.Output.{selected, out_record}
use Rattle.rules.specs.RecordParts.{Fits, field_bytes, written_bytes}
use Rattle.rules.specs.Accepted.{Accepted}
use Rattle.rules.specs.JudgeWords.{WritesAt}
use Rattle.rules.specs.Judge.{writes_at, written_by, is_written, agree_from, agrees}
use Rattle.rules.proofs.Base.Tests.{and_left, and_right, and_both, asked, asks}
use Rattle.rules.proofs.Halves.SizeLaws.{length_over}
use Rattle.rules.proofs.Halves.PlaceLaws.{over_inside, over_before, over_after}
use Rattle.rules.proofs.Halves.FieldSteps.{length_field_bytes, field_room, length_written_bytes, out_bytes_lem}
use Rattle.rules.proofs.Halves.RecordLaws.{fits_of}
use Rattle.rules.proofs.Runs.Never.{output_other}

-- ---- by positions

module _ (q : ℕ → Bool) where
  pub agree_length : (i : ℕ) (xs ys : List ℕ) → agree_from q i xs ys ≡ true → length xs ≡ length ys
  agree_length i [] [] e = refl
  agree_length i [] (y ∷ ys) e = absurd (false≢true e)
  agree_length i (x ∷ xs) [] e = absurd (false≢true e)
  agree_length i (x ∷ xs) (y ∷ ys) e = ap suc (agree_length (suc i) xs ys (and_right (q i ⇒ eqb x y) _ e))

  -- what stands at place j, from 0, is at position i + j
  pub agree_at : (i : ℕ) (xs ys : List ℕ) → agree_from q i xs ys ≡ true → (j g : ℕ) → g ≡ i + j → j < length xs → q g ≡ true → get_or xs j 0 ≡ get_or ys j 0
  agree_at i [] ys e j g p l h = absurd (not-suc-le-zero l)
  agree_at i (x ∷ xs) [] e j g p l h = absurd (false≢true e)
  agree_at i (x ∷ xs) (y ∷ ys) e zero g p l h =
      let here : g ≡ i = omega arith in
      eqb-true x y (asked (q i) (eqb x y) (and_left (q i ⇒ eqb x y) _ e) (subst (λ (k : ℕ). q k ≡ true) here h))
  agree_at i (x ∷ xs) (y ∷ ys) e (suc j) g p l h = agree_at (suc i) xs ys (and_right (q i ⇒ eqb x y) _ e) j g (omega arith) (omega arith) h

  pub at_agree : (i : ℕ) (xs ys : List ℕ) → length xs ≡ length ys → ((j g : ℕ) → g ≡ i + j → j < length xs → q g ≡ true → get_or xs j 0 ≡ get_or ys j 0)
      → agree_from q i xs ys ≡ true
  at_agree i [] [] e f = refl
  at_agree i [] (y ∷ ys) e f = absurd (omega arith)
  at_agree i (x ∷ xs) [] e f = absurd (omega arith)
  at_agree i (x ∷ xs) (y ∷ ys) e f =
      and_both (asks (q i) (eqb x y) (λ h. eq-eqb x y (f 0 i (omega arith) (omega arith) h)))
      (at_agree (suc i) xs ys (omega arith) (λ j g p l h. f (suc j) g (omega arith) (omega arith) h))

-- ---- one field

-- a field writes a position
pub writes_exactly : (i : ℕ) (f : Field) → (writes_at i f ≡ true) ↔ WritesAt i f
unfolding writes_at
writes_exactly i f = (
  λ e. (leb-true f.t i (and_left (leb f.t i) _ e), ltb-true i (f.t + output_size f.kind) (and_right (leb f.t i) _ e)),
  λ w. and_both (le-leb f.t i w.0) (lt-ltb i (f.t + output_size f.kind) w.1),
)

writes_outside : (f : Field) (i : ℕ) → writes_at i f ≡ false → (i < f.t) ⊎ (f.t + output_size f.kind ≤ i)
unfolding writes_at
writes_outside f i e = go (leb f.t i) refl
  where
    go : (t : Bool) → leb f.t i ≡ t → (i < f.t) ⊎ (f.t + output_size f.kind ≤ i)
    go true t = inr (ltb-false i (f.t + output_size f.kind) (rw t at e))
    go false t = inl (leb-false f.t i t)

module _ (zone a b : ℕ) (r : List ℕ) (long : a ≤ length r) where
  module _ (f : Field) (h : Fits a b f) (out : List ℕ) (o : length out ≡ b) (j : ℕ) where
    -- the field's byte
    over_written : writes_at (suc j) f ≡ true → get_or (over (f.t - 1) (field_bytes zone f r) out) j 0 ≡ get_or (field_bytes zone f r) (j - (f.t - 1)) 0
    over_written w =
        let i = (writes_exactly (suc j) f).0 w in
        over_inside (f.t - 1) (field_bytes zone f r) out 0 (field_room zone a b r long f out h o) j (j - (f.t - 1)) (omega (arith, i.0, h.t_low))
        (omega (arith, i.0, i.1, h.t_low, length_field_bytes zone a b r long f h))

    -- what was there
    over_unwritten : writes_at (suc j) f ≡ false → get_or (over (f.t - 1) (field_bytes zone f r) out) j 0 ≡ get_or out j 0
    over_unwritten w = go (writes_outside f (suc j) w)
      where
        room : f.t - 1 + length (field_bytes zone f r) ≤ length out
        room = field_room zone a b r long f out h o

        go : (suc j < f.t) ⊎ (f.t + output_size f.kind ≤ suc j) → get_or (over (f.t - 1) (field_bytes zone f r) out) j 0 ≡ get_or out j 0
        go (inl l) = over_before (f.t - 1) (field_bytes zone f r) out 0 room j (omega arith)
        go (inr l) = over_after (f.t - 1) (field_bytes zone f r) out 0 room j (omega (arith, h.t_low, length_field_bytes zone a b r long f h))

  -- ---- the fields

  over_long : (f : Field) → Fits a b f → (out : List ℕ) → length out ≡ b → length (over (f.t - 1) (field_bytes zone f r) out) ≡ b
  over_long f h out o = length_over (f.t - 1) (field_bytes zone f r) out (field_room zone a b r long f out h o) ∙ o

  -- a position that none writes is as it was
  unwritten_stays : (fs : List Field) → All (Fits a b) fs → (out : List ℕ) → length out ≡ b → (j : ℕ) → written_by (suc j) fs ≡ false
      → get_or (written_bytes zone fs r out) j 0 ≡ get_or out j 0
  unwritten_stays [] no_more out o j w = refl
  unwritten_stays (f ∷ fs) (also h hs) out o j w = go (unwritten_stays fs hs (over (f.t - 1) (field_bytes zone f r) out) (over_long f h out o) j) (writes_at (suc j) f) refl
    where
      go : (written_by (suc j) fs ≡ false → get_or (written_bytes zone fs r (over (f.t - 1) (field_bytes zone f r) out)) j 0 ≡ get_or (over (f.t - 1) (field_bytes zone f r) out) j 0)
          → (t : Bool) → writes_at (suc j) f ≡ t → get_or (written_bytes zone fs r (over (f.t - 1) (field_bytes zone f r) out)) j 0 ≡ get_or out j 0
      go ih true t = absurd (true≢false (rw t at w))
      go ih false t = ih (rw t at w) ∙ over_unwritten f h out o j t

  -- a position that one writes does not depend on what the fields are written over
  written_alike : (fs : List Field) → All (Fits a b) fs → (x y : List ℕ) → length x ≡ b → length y ≡ b → (j : ℕ)
      → (written_by (suc j) fs ≡ true) ⊎ (get_or x j 0 ≡ get_or y j 0) → get_or (written_bytes zone fs r x) j 0 ≡ get_or (written_bytes zone fs r y) j 0
  written_alike [] no_more x y lx ly j (inl e) = absurd (false≢true e)
  written_alike [] no_more x y lx ly j (inr e) = e
  written_alike (f ∷ fs) (also h hs) x y lx ly j w =
      written_alike fs hs (over (f.t - 1) (field_bytes zone f r) x) (over (f.t - 1) (field_bytes zone f r) y) (over_long f h x lx) (over_long f h y ly) j (go (writes_at (suc j) f) refl w)
    where
      go : (t : Bool) → writes_at (suc j) f ≡ t → (written_by (suc j) (f ∷ fs) ≡ true) ⊎ (get_or x j 0 ≡ get_or y j 0)
          → (written_by (suc j) fs ≡ true) ⊎ (get_or (over (f.t - 1) (field_bytes zone f r) x) j 0 ≡ get_or (over (f.t - 1) (field_bytes zone f r) y) j 0)
      go true t w = inr (over_written f h x lx j t ∙ sym (over_written f h y ly j t))
      go false t (inl e) = inl (rw t at e)
      go false t (inr e) = inr (over_unwritten f h x lx j t ∙ e ∙ sym (over_unwritten f h y ly j t))

  -- they change nothing exactly where every position that one writes is as over blanks
  pub unchanged_agrees : (fs : List Field) → All (Fits a b) fs → (theirs : List ℕ) → length theirs ≡ b
      → (written_bytes zone fs r theirs ≡ theirs) ↔ (agree_from (λ i. written_by i fs) 1 (written_bytes zone fs r (replicate b 0x40)) theirs ≡ true)
  unchanged_agrees fs h theirs o = (onward, back)
    where
      blank_long : length (replicate {A = ℕ} b 0x40) ≡ b
      blank_long = length-replicate {A = ℕ} b 0x40

      size : length (written_bytes zone fs r (replicate b 0x40)) ≡ b
      size = length_written_bytes zone a b r long fs (replicate b 0x40) h blank_long

      size' : length (written_bytes zone fs r theirs) ≡ b
      size' = length_written_bytes zone a b r long fs theirs h o

      alike : (j : ℕ) → written_by (suc j) fs ≡ true → get_or (written_bytes zone fs r (replicate b 0x40)) j 0 ≡ get_or (written_bytes zone fs r theirs) j 0
      alike j w = written_alike fs h (replicate b 0x40) theirs blank_long o j (inl w)

      onward : written_bytes zone fs r theirs ≡ theirs → agree_from (λ i. written_by i fs) 1 (written_bytes zone fs r (replicate b 0x40)) theirs ≡ true
      onward e =
          at_agree (λ i. written_by i fs) 1 (written_bytes zone fs r (replicate b 0x40)) theirs (size ∙ sym o)
          (λ j g p l w. alike j (subst (λ (k : ℕ). written_by k fs ≡ true) (let z : g ≡ suc j = omega arith in z) w) ∙ ap (λ (x : List ℕ). get_or x j 0) e)

      back : agree_from (λ i. written_by i fs) 1 (written_bytes zone fs r (replicate b 0x40)) theirs ≡ true → written_bytes zone fs r theirs ≡ theirs
      back e = ext_get_or 0 (written_bytes zone fs r theirs) theirs (size' ∙ sym o) (λ j l. go j (omega (arith, size', size)) (written_by (suc j) fs) refl)
        where
          go : (j : ℕ) → j < length (written_bytes zone fs r (replicate b 0x40)) → (t : Bool) → written_by (suc j) fs ≡ t → get_or (written_bytes zone fs r theirs) j 0 ≡ get_or theirs j 0
          go j l true t =
              sym (alike j t) ∙ agree_at (λ i. written_by i fs) 1 (written_bytes zone fs r (replicate b 0x40)) theirs e j (suc j) (omega arith) l t
          go j l false t = unwritten_stays fs h theirs o j t

-- ---- with TF or TRF

-- what follows B's n bytes
abbrev pub tail_out : Plan → List ℕ → List ℕ
tail_out p r = cond p.carries (drop (record_length p.input) r) []

module _ (p : Plan) (ok : Accepted p) (sel : selects p.mode ≡ true) (r : List ℕ) (long : record_length p.input ≤ length r) where
  -- B's n bytes
  front : List ℕ
  front = written_bytes p.zone p.fields r (replicate (record_length p.output) 0x40)

  out_parts : out_record p r ≡ front ++ tail_out p r
  unfolding out_record selected front
  out_parts = rw sel (ap (λ (x : List ℕ). x ++ tail_out p r) (out_bytes_lem p.zone _ _ r long p.fields (fits_of p ok)))

  length_front : length front ≡ record_length p.output
  unfolding front
  length_front =
      length_written_bytes p.zone _ _ r long p.fields (replicate (record_length p.output) 0x40) (fits_of p ok) (length-replicate {A = ℕ} (record_length p.output) 0x40)

  length_out : length (out_record p r) ≡ record_length p.output + length (tail_out p r)
  length_out = ap length out_parts ∙ length-append front (tail_out p r) ∙ ap (λ (n : ℕ). n + length (tail_out p r)) length_front

  -- a byte of them, and one of the tail
  out_front : (j : ℕ) → j < record_length p.output → get_or (out_record p r) j 0 ≡ get_or front j 0
  out_front j l = ap (λ (x : List ℕ). get_or x j 0) out_parts ∙ get_or-append front (tail_out p r) 0 j (omega (arith, length_front))

  out_tail : (j k : ℕ) → j ≡ record_length p.output + k → get_or (out_record p r) j 0 ≡ get_or (tail_out p r) k 0
  out_tail j k e =
      ap (λ (x : List ℕ). get_or x j 0) out_parts
      ∙ ap (λ (g : ℕ). get_or (front ++ tail_out p r) g 0) (let z : j ≡ length front + k = omega (arith, length_front) in z)
      ∙ get_or-append-add front (tail_out p r) k 0

  -- which positions are written
  written_or : (i : ℕ) → is_written p i ≡ (ltb (record_length p.output) i || written_by i p.fields)
  unfolding is_written
  written_or i = rw sel

  written_front : (i : ℕ) → i ≤ record_length p.output → is_written p i ≡ written_by i p.fields
  written_front i l = written_or i ∙ ap (λ (t : Bool). t || written_by i p.fields) (le-ltb (record_length p.output) i l)

  written_tail : (i : ℕ) → record_length p.output < i → is_written p i ≡ true
  written_tail i l = written_or i ∙ ap (λ (t : Bool). t || written_by i p.fields) (lt-ltb (record_length p.output) i l)

  module _ (theirs : List ℕ) where
    -- the fields over the first bytes of theirs
    unchanged : record_length p.output ≤ length theirs
        → (written_bytes p.zone p.fields r (take (record_length p.output) theirs) ≡ take (record_length p.output) theirs)
        ↔ (agree_from (λ i. written_by i p.fields) 1 front (take (record_length p.output) theirs) ≡ true)
    unfolding front
    unchanged l = unchanged_agrees p.zone _ _ r long p.fields (fits_of p ok) (take (record_length p.output) theirs) (length-take-le (record_length p.output) theirs l)

    module _ (e : agrees p (out_record p r) theirs ≡ true) where
      as_long : length theirs ≡ record_length p.output + length (tail_out p r)
      unfolding agrees
      as_long = sym (agree_length (is_written p) 1 (out_record p r) theirs e) ∙ length_out

      same_at : (j : ℕ) → j < length (out_record p r) → is_written p (suc j) ≡ true → get_or (out_record p r) j 0 ≡ get_or theirs j 0
      unfolding agrees
      same_at j l w = agree_at (is_written p) 1 (out_record p r) theirs e j (suc j) (omega arith) l w

      front_agrees : agree_from (λ i. written_by i p.fields) 1 front (take (record_length p.output) theirs) ≡ true
      front_agrees =
          at_agree (λ i. written_by i p.fields) 1 front (take (record_length p.output) theirs)
          (length_front ∙ sym (length-take-le (record_length p.output) theirs (omega (arith, as_long))))
          (λ j g q l w. at j (omega (arith, length_front)) (subst (λ (k : ℕ). written_by k p.fields ≡ true) (let z : g ≡ suc j = omega arith in z) w))
        where
          at : (j : ℕ) → j < record_length p.output → written_by (suc j) p.fields ≡ true → get_or front j 0 ≡ get_or (take (record_length p.output) theirs) j 0
          at j l w =
              sym (out_front j l)
              ∙ same_at j (omega (arith, length_out)) (written_front (suc j) (omega arith) ∙ w)
              ∙ sym (get_or-take (record_length p.output) theirs j 0 l)

      tail_same : drop (record_length p.output) theirs ≡ tail_out p r
      tail_same =
          let many : length (drop (record_length p.output) theirs) ≡ length (tail_out p r) = length-drop (record_length p.output) theirs ∙ omega (arith, as_long) in
          ext_get_or 0 (drop (record_length p.output) theirs) (tail_out p r) many
          (λ j l.
          get_or-drop (record_length p.output) theirs j 0
          ∙ sym (same_at (record_length p.output + j) (omega (arith, length_out, many)) (written_tail (suc (record_length p.output + j)) (omega arith)))
          ∙ out_tail (record_length p.output + j) j refl)

    module _ (size : length theirs ≡ record_length p.output + length (tail_out p r))
        (first : written_bytes p.zone p.fields r (take (record_length p.output) theirs) ≡ take (record_length p.output) theirs)
        (rest : drop (record_length p.output) theirs ≡ tail_out p r) where
      front_at : (j : ℕ) → j < record_length p.output → written_by (suc j) p.fields ≡ true → get_or (out_record p r) j 0 ≡ get_or theirs j 0
      front_at j l w =
          out_front j l
          ∙ agree_at (λ i. written_by i p.fields) 1 front (take (record_length p.output) theirs) ((unchanged (omega arith)).0 first) j (suc j) (omega arith) (omega (arith, length_front)) w
          ∙ get_or-take (record_length p.output) theirs j 0 l

      tail_at : (j : ℕ) → record_length p.output ≤ j → get_or (out_record p r) j 0 ≡ get_or theirs j 0
      tail_at j l =
          let z : record_length p.output + (j - record_length p.output) ≡ j = omega arith in
          out_tail j (j - record_length p.output) (sym z)
          ∙ ap (λ (x : List ℕ). get_or x (j - record_length p.output) 0) (sym rest)
          ∙ get_or-drop (record_length p.output) theirs (j - record_length p.output) 0
          ∙ ap (λ (g : ℕ). get_or theirs g 0) z

      agree_parts : agrees p (out_record p r) theirs ≡ true
      unfolding agrees
      agree_parts =
          at_agree (is_written p) 1 (out_record p r) theirs (length_out ∙ sym size)
          (λ j g q l w. at j (subst (λ (k : ℕ). is_written p k ≡ true) (let z : g ≡ suc j = omega arith in z) w))
        where
          at : (j : ℕ) → is_written p (suc j) ≡ true → get_or (out_record p r) j 0 ≡ get_or theirs j 0
          at j w = elim (dec_le (record_length p.output) j) [ yes l ↦ tail_at j l | no l ↦ front_at j (omega arith) (sym (written_front (suc j) (omega arith)) ∙ w) ]

    -- theirs is as long, the fields over its first bytes change nothing, and it ends with the tail
    pub agrees_selected : (agrees p (out_record p r) theirs ≡ true)
        ↔ ((length theirs ≡ record_length p.output + length (tail_out p r))
        × (written_bytes p.zone p.fields r (take (record_length p.output) theirs) ≡ take (record_length p.output) theirs)
        × (drop (record_length p.output) theirs ≡ tail_out p r))
    agrees_selected = (λ e. (as_long e, (unchanged (omega (arith, as_long e))).1 (front_agrees e), tail_same e), λ h. agree_parts h.0 h.1 h.2)

-- ---- with TC or TR

module _ (p : Plan) (sel : selects p.mode ≡ false) where
  written_each : (i : ℕ) → is_written p i ≡ true
  unfolding is_written
  written_each i = rw sel

  -- every position is compared
  pub agrees_same : (xs ys : List ℕ) → (agrees p xs ys ≡ true) ↔ (xs ≡ ys)
  unfolding agrees
  agrees_same xs ys = (
    λ e. ext_get_or 0 xs ys (agree_length (is_written p) 1 xs ys e) (λ j l. agree_at (is_written p) 1 xs ys e j (suc j) (omega arith) l (written_each (suc j))),
    λ e. at_agree (is_written p) 1 xs ys (ap length e) (λ j g q l w. ap (λ (x : List ℕ). get_or x j 0) e),
  )

  -- the output record is the record
  pub agrees_carried : (r theirs : List ℕ) → (agrees p (out_record p r) theirs ≡ true) ↔ (r ≡ theirs)
  agrees_carried r theirs = subst (λ (x : List ℕ). (agrees p x theirs ≡ true) ↔ (r ≡ theirs)) (sym (output_other p sel r)) (agrees_same r theirs)
