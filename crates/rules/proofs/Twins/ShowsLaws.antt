-- What a field shows of the halves that it reads: what it writes holds a half exactly if, in words, some half that it writes is taken from it. Of a pack or an
-- unpack this is found by how many halves of what it reads stand behind the half: the words name each place of the output by its distance from the end.
use mathlib.Core.Path.{◌≡◌, refl, ap, ap₂, sym, subst, ◌∙◌}
use mathlib.Core.Logic.{◌↔◌, ◌⊎◌, inl, inr}
use mathlib.Core.Bool.{Bool, true, false, ◌&&◌, ◌||◌, true≢false}
use mathlib.Core.List.{List, ◌∷◌}
use Prim.Native.Nat.{ℕ, zero, suc, ◌+◌, ◌-◌, ◌*◌, ◌/◌, ◌%◌, ◌≤◌, ◌<◌}
use native.Mathlib.Nat.{not-suc-le-zero}
use native.Mathlib.Decide.{dec_lt}
use native.Mathlib.Omega.{arith}
use lib.Dec.{ltb, leb, eqb}
use lib.ListN.{length, take, drop, get_or}
use borrow.Author.Tests.{ltb-true, leb-true, eqb-true, eqb-false, lt-ltb, le-leb, eq-eqb}
use Rattle.rules.specs.Halves.{Kind, copy, pack, unpack, input_size, output_size, Field, reads_from, reads_many, writes_from, made, converted, field_halves, Source, from, constant, froms}
use Rattle.rules.specs.Permitted.{kind_allows, reads, allows}
use Rattle.rules.specs.Keeping.{occurs}
use Rattle.rules.specs.RecordParts.{Fits}
use Rattle.rules.specs.InWords.{Writes, FieldTakes, copied, packed_high, packed_low, packed_digit, packed_fill, unpacked_high, unpacked_low, unpacked_digit, unpacked_fill, unpacked_zone}
use Rattle.rules.specs.Twins.{shows}
use Rattle.rules.specs.TwinWords.{Reads, Drops, pack_drops, unpack_drops}
use Rattle.rules.proofs.Base.Tests.{and_left, and_right, and_both, or_told, or_left, or_right}
use Rattle.rules.proofs.Halves.SizeLaws.{length_field_halves}
use Rattle.rules.proofs.Halves.PermittedLaws.{same_test, pack_high_allows, allows_inside}
use Rattle.rules.proofs.Halves.SourceSteps.{length_froms}
use Rattle.rules.proofs.Halves.SourceWords.{field_takes, field_source}
use Rattle.rules.proofs.Keeping.KeepingSteps.{occurs_at, occurs_where}

-- ---- tests of a number of halves behind a half

-- a pack keeps the last byte, and of the low halves before it as many as 2m - 2
abbrev pack_shows : ℕ → ℕ → Bool
pack_shows m right = ltb right 2 || (eqb (right % 2) 0 && ltb (right / 2 + 1) (2 * m))

abbrev PackShows : ℕ → ℕ → Type 0
PackShows m right = (right < 2) ⊎ ((right % 2 ≡ 0) × (right / 2 + 1 < 2 * m))

pack_told : (m right : ℕ) → pack_shows m right ≡ true → PackShows m right
pack_told m right e = go (or_told (ltb right 2) _ e)
  where
    go : (ltb right 2 ≡ true) ⊎ ((eqb (right % 2) 0 && ltb (right / 2 + 1) (2 * m)) ≡ true) → PackShows m right
    go (inl t) = inl (ltb-true right 2 t)
    go (inr t) = inr (eqb-true _ _ (and_left (eqb (right % 2) 0) _ t), ltb-true _ _ (and_right (eqb (right % 2) 0) _ t))

pack_of : (m right : ℕ) → PackShows m right → pack_shows m right ≡ true
pack_of m right (inl l) = or_left _ _ (lt-ltb right 2 l)
pack_of m right (inr w) = or_right (ltb right 2) _ (and_both (eq-eqb (right % 2) 0 w.0) (lt-ltb (right / 2 + 1) (2 * m) w.1))

-- an unpack keeps the last byte, and of the halves before it as many as m - 1
abbrev unpack_shows : ℕ → ℕ → Bool
unpack_shows m right = ltb right 2 || leb right m

abbrev UnpackShows : ℕ → ℕ → Type 0
UnpackShows m right = (right < 2) ⊎ (right ≤ m)

unpack_told : (m right : ℕ) → unpack_shows m right ≡ true → UnpackShows m right
unpack_told m right e = go (or_told (ltb right 2) _ e)
  where
    go : (ltb right 2 ≡ true) ⊎ (leb right m ≡ true) → UnpackShows m right
    go (inl t) = inl (ltb-true right 2 t)
    go (inr t) = inr (leb-true right m t)

unpack_of : (m right : ℕ) → UnpackShows m right → unpack_shows m right ≡ true
unpack_of m right (inl l) = or_left _ _ (lt-ltb right 2 l)
unpack_of m right (inr l) = or_right (ltb right 2) _ (le-leb right m l)

-- ---- what a field reads

pub reads_words : (f : Field) (h : ℕ) → (reads f h ≡ true) ↔ Reads f h
unfolding reads
reads_words f h = (
  λ t. (leb-true (reads_from f) h (and_left (leb (reads_from f) h) _ t), ltb-true h (reads_from f + reads_many f) (and_right (leb (reads_from f) h) _ t)),
  λ w. and_both (le-leb (reads_from f) h w.0) (lt-ltb h (reads_from f + reads_many f) w.1),
)

drop_froms : (k i n : ℕ) → k ≤ n → drop k (froms i n) ≡ froms (i + k) (n - k)
drop_froms zero i n l = ap₂ froms (let z : i ≡ i + 0 = omega arith in z) (let z : n ≡ n - 0 = omega arith in z)
drop_froms (suc k) i zero l = absurd (not-suc-le-zero l)
drop_froms (suc k) i (suc n) l =
    drop_froms k (suc i) n (omega arith) ∙ ap₂ froms (let z : suc i + k ≡ i + suc k = omega arith in z) (let z : n - k ≡ suc n - suc k = omega arith in z)

take_froms : (k i n : ℕ) → k ≤ n → take k (froms i n) ≡ froms i k
take_froms zero i n l = refl
take_froms (suc k) i zero l = absurd (not-suc-le-zero l)
take_froms (suc k) i (suc n) l = ap (from i ∷◌) (take_froms k (suc i) n (omega arith))

-- how much longer the input is does not matter
module _ (zone h : ℕ) (f : Field) where
  read_froms : (many : ℕ) → reads_from f + reads_many f ≤ many → take (reads_many f) (drop (reads_from f) (froms 0 many)) ≡ froms (reads_from f) (reads_many f)
  read_froms many l =
      ap (take (reads_many f)) (drop_froms (reads_from f) 0 many (omega arith))
      ∙ take_froms (reads_many f) (0 + reads_from f) (many - reads_from f) (omega arith)
      ∙ ap (λ (i : ℕ). froms i (reads_many f)) (let z : 0 + reads_from f ≡ reads_from f = omega arith in z)

  pub shows_longer : (many many' : ℕ) → reads_from f + reads_many f ≤ many → reads_from f + reads_many f ≤ many' → shows zone many h f ≡ shows zone many' h f
  unfolding shows field_halves
  shows_longer many many' l l' =
      ap (λ (xs : List Source). occurs h (converted zone constant f.kind xs)) (read_froms many l ∙ sym (read_froms many' l'))

-- ---- one field

module _ (zone a b : ℕ) (f : Field) (fit : Fits a b f) (h : ℕ) where
  long : length (field_halves zone constant f (froms 0 (2 * a))) ≡ 2 * output_size f.kind
  long = length_field_halves zone constant a b f (froms 0 (2 * a)) fit (length_froms 0 (2 * a))

  -- what a field writes holds half h exactly if, in words, some half that it writes is taken from it
  pub shows_takes : shows zone (2 * a) h f ≡ true → (g : ℕ) × Writes f g × FieldTakes zone f g (from h)
  unfolding shows
  shows_takes t =
      let e = constant (made 0) in
      let o = occurs_where h e (field_halves zone constant f (froms 0 (2 * a))) t in
      let g = writes_from f + o.0 in
      let w : Writes f g = (omega arith, omega (arith, o.1, long)) in
      let y = field_source zone a b f fit e g w f.kind refl in
      let s : from h ≡ y.0 =
      sym o.2 ∙ ap (λ (j : ℕ). get_or (field_halves zone constant f (froms 0 (2 * a))) j e) (let z : o.0 ≡ g - writes_from f = omega arith in z)
      ∙ field_takes zone a b f fit e g y.0 w y.1 in
      (g, w, subst (FieldTakes zone f g) (sym s) y.1)

  pub takes_shows : (g : ℕ) → Writes f g → FieldTakes zone f g (from h) → shows zone (2 * a) h f ≡ true
  unfolding shows
  takes_shows g w t =
      let e = constant (made 0) in
      occurs_at h e (g - writes_from f) (field_halves zone constant f (froms 0 (2 * a))) (omega (arith, w.0, w.1, long)) (field_takes zone a b f fit e g (from h) w t)

  wide : (c : Kind) → f.kind ≡ c → 2 * output_size f.kind ≡ 2 * output_size c
  wide c q = ap (λ (k : Kind). 2 * output_size k) q

  reading : (c : Kind) → f.kind ≡ c → reads_many f ≡ 2 * input_size c
  reading c q = ap (λ (k : Kind). 2 * input_size k) q

  output_one : (c : Kind) → f.kind ≡ c → 1 ≤ output_size c
  output_one c q = subst (λ (k : Kind). 1 ≤ output_size k) q fit.output_low

  -- by the kind of field; right is how many halves that it reads stand behind half h
  pub shows_copy : (s : ℕ) → f.kind ≡ copy s → Reads f h → shows zone (2 * a) h f ≡ true
  shows_copy s q r =
      let j = h - reads_from f in
      takes_shows (writes_from f + j) (omega arith, omega (arith, r.0, r.1, wide (copy s) q, reading (copy s) q))
      (subst (λ (i : ℕ). FieldTakes zone f (writes_from f + j) (from i)) (let z : reads_from f + j ≡ h = omega (arith, r.0) in z) (copied j q refl))

  module _ (n m : ℕ) (q : f.kind ≡ pack n m) (right : ℕ) (p : h + 1 + right ≡ reads_from f + 2 * n) where
    -- what a pack takes from half h
    pack_takes : (g : ℕ) (x : Source) → Writes f g → FieldTakes zone f g x → x ≡ from h → PackShows m right
    pack_takes g x w (packed_high {n = n'} {i = i} k e r) s = let y : n ≡ n' = cc in let z : i ≡ h = cc in inl (omega arith)
    pack_takes g x w (packed_low {n = n'} {i = i} k e r) s = let y : n ≡ n' = cc in let z : i ≡ h = cc in inl (omega arith)
    pack_takes g x w (packed_digit {n = n'} {m = m'} {i = i} d k e l r) s =
        let y : n ≡ n' = cc in let y' : m ≡ m' = cc in let z : i ≡ h = cc in
        let c : right ≡ 2 * d + 2 = omega arith in
        inr (omega arith, omega (arith, w.0))
    pack_takes g x w (packed_fill d k e l) s = absurd (true≢false (cc))
    pack_takes g x w (copied j k e) s = absurd (true≢false (cc))
    pack_takes g x w (unpacked_high k e r) s = absurd (true≢false (cc))
    pack_takes g x w (unpacked_low k e r) s = absurd (true≢false (cc))
    pack_takes g x w (unpacked_digit d k e l r) s = absurd (true≢false (cc))
    pack_takes g x w (unpacked_fill d k e l) s = absurd (true≢false (cc))
    pack_takes g x w (unpacked_zone i k e l) s = absurd (true≢false (cc))

    pack_shown : shows zone (2 * a) h f ≡ true → PackShows m right
    pack_shown t = let y = shows_takes t in pack_takes y.0 (from h) y.1 y.2 refl

    pack_one : 1 ≤ m
    pack_one = output_one (pack n m) q

    pack_last : right < 2 → shows zone (2 * a) h f ≡ true
    pack_last l = elim (dec_lt right 1) [
      | yes z ↦
          takes_shows (writes_from f + 2 * m - 2) (omega (arith, pack_one), omega (arith, pack_one, wide (pack n m) q))
          (packed_high q (omega (arith, pack_one)) (omega arith))
      | no z ↦
          takes_shows (writes_from f + 2 * m - 1) (omega (arith, pack_one), omega (arith, pack_one, wide (pack n m) q))
          (packed_low q (omega (arith, pack_one)) (omega arith))
    ]

    pack_shows_lem : Reads f h → PackShows m right → shows zone (2 * a) h f ≡ true
    pack_shows_lem r (inl l) = pack_last l
    pack_shows_lem r (inr w) = elim (dec_lt right 2) [
      | yes l ↦ pack_last l
      | no l ↦
          let d = right / 2 - 1 in
          let c : right ≡ 2 * d + 2 = omega (arith, w.0) in
          let s : d + 3 ≤ 2 * m = omega (arith, w.1) in
          takes_shows (writes_from f + 2 * m - 3 - d) (omega arith, omega (arith, wide (pack n m) q)) (packed_digit d q (omega arith) (omega (arith, r.0)) (omega arith))
    ]

    -- what it reads and does not show is too far left, or the zone
    pack_hidden : Reads f h → shows zone (2 * a) h f ≡ false → Drops f h ⊎ ((v : ℕ) → v < 16 → allows zone f h v ≡ true → v ≡ zone)
    pack_hidden r e = go (eqb (right % 2) 0) refl
      where
        none : PackShows m right → ⊥
        none w = true≢false (sym (pack_shows_lem r w) ∙ e)

        two : 2 ≤ right
        two = elim (dec_lt right 2) [
          | yes l ↦ absurd (none (inl l))
          | no l ↦ omega arith
        ]

        go : (t : Bool) → eqb (right % 2) 0 ≡ t → Drops f h ⊎ ((v : ℕ) → v < 16 → allows zone f h v ≡ true → v ≡ zone)
        go true t =
            let even = eqb-true (right % 2) 0 t in
            elim (dec_lt (right / 2 + 1) (2 * m)) [
              | yes l ↦ absurd (none (inr (even, l)))
              | no l ↦ inl (pack_drops (right / 2 - 1) q (omega (arith, two)) (omega (arith, two)))
            ]
        go false t =
            let odd : right % 2 ≡ 1 = omega (arith, eqb-false (right % 2) 0 t) in
            let i = n - 1 - right / 2 in
            let z : h ≡ reads_from f + 2 * i = omega (arith, r.0, two) in
            inr (λ v _ k. eqb-true v zone (
            sym (
            allows_inside zone f v h (2 * i) z (omega (arith, reading (pack n m) q))
            ∙ ap (λ (c : Kind). kind_allows zone c (2 * i) v) q
            ∙ pack_high_allows zone n m v (2 * i) i refl (omega (arith, two)))
            ∙ k))

  pub shows_pack : (n m : ℕ) → f.kind ≡ pack n m → Reads f h → (right : ℕ) → h + 1 + right ≡ reads_from f + 2 * n
      → shows zone (2 * a) h f ≡ (ltb right 2 || (eqb (right % 2) 0 && ltb (right / 2 + 1) (2 * m)))
  shows_pack n m q r right p = same_test _ _ (λ t. pack_of m right (pack_shown n m q right p t)) (λ t. pack_shows_lem n m q right p r (pack_told m right t))

  module _ (n m : ℕ) (q : f.kind ≡ unpack n m) (right : ℕ) (p : h + 1 + right ≡ reads_from f + 2 * n) where
    -- what an unpack takes from half h
    unpack_takes : (g : ℕ) (x : Source) → Writes f g → FieldTakes zone f g x → x ≡ from h → UnpackShows m right
    unpack_takes g x w (unpacked_high {n = n'} {i = i} k e r) s = let y : n ≡ n' = cc in let z : i ≡ h = cc in inl (omega arith)
    unpack_takes g x w (unpacked_low {n = n'} {i = i} k e r) s = let y : n ≡ n' = cc in let z : i ≡ h = cc in inl (omega arith)
    unpack_takes g x w (unpacked_digit {n = n'} {m = m'} {i = i} d k e l r) s =
        let y : n ≡ n' = cc in let y' : m ≡ m' = cc in let z : i ≡ h = cc in
        let c : right ≡ d + 2 = omega arith in
        inr (omega (arith, w.0))
    unpack_takes g x w (unpacked_fill d k e l) s = absurd (true≢false (cc))
    unpack_takes g x w (unpacked_zone i k e l) s = absurd (true≢false (cc))
    unpack_takes g x w (copied j k e) s = absurd (true≢false (cc))
    unpack_takes g x w (packed_high k e r) s = absurd (true≢false (cc))
    unpack_takes g x w (packed_low k e r) s = absurd (true≢false (cc))
    unpack_takes g x w (packed_digit d k e l r) s = absurd (true≢false (cc))
    unpack_takes g x w (packed_fill d k e l) s = absurd (true≢false (cc))

    unpack_shown : shows zone (2 * a) h f ≡ true → UnpackShows m right
    unpack_shown t = let y = shows_takes t in unpack_takes y.0 (from h) y.1 y.2 refl

    unpack_one : 1 ≤ m
    unpack_one = output_one (unpack n m) q

    unpack_last : right < 2 → shows zone (2 * a) h f ≡ true
    unpack_last l = elim (dec_lt right 1) [
      | yes z ↦
          takes_shows (writes_from f + 2 * m - 2) (omega (arith, unpack_one), omega (arith, unpack_one, wide (unpack n m) q))
          (unpacked_high q (omega (arith, unpack_one)) (omega arith))
      | no z ↦
          takes_shows (writes_from f + 2 * m - 1) (omega (arith, unpack_one), omega (arith, unpack_one, wide (unpack n m) q))
          (unpacked_low q (omega (arith, unpack_one)) (omega arith))
    ]

    unpack_shows_lem : Reads f h → UnpackShows m right → shows zone (2 * a) h f ≡ true
    unpack_shows_lem r (inl l) = unpack_last l
    unpack_shows_lem r (inr s) = elim (dec_lt right 2) [
      | yes l ↦ unpack_last l
      | no l ↦
          let d = right - 2 in
          let c : right ≡ d + 2 = omega arith in
          takes_shows (writes_from f + 2 * m - 3 - 2 * d) (omega arith, omega (arith, wide (unpack n m) q)) (unpacked_digit d q (omega arith) (omega (arith, r.0)) (omega arith))
    ]

    unpack_hidden : Reads f h → shows zone (2 * a) h f ≡ false → Drops f h
    unpack_hidden r e = unpack_drops (right - 2) q (omega (arith, two)) (omega (arith, far))
      where
        none : UnpackShows m right → ⊥
        none w = true≢false (sym (unpack_shows_lem r w) ∙ e)

        two : 2 ≤ right
        two = elim (dec_lt right 2) [
          | yes l ↦ absurd (none (inl l))
          | no l ↦ omega arith
        ]

        far : m < right
        far = elim (dec_lt m right) [
          | yes l ↦ l
          | no l ↦ absurd (none (inr (omega arith)))
        ]

  pub shows_unpack : (n m : ℕ) → f.kind ≡ unpack n m → Reads f h → (right : ℕ) → h + 1 + right ≡ reads_from f + 2 * n
      → shows zone (2 * a) h f ≡ (ltb right 2 || leb right m)
  shows_unpack n m q r right p = same_test _ _ (λ t. unpack_of m right (unpack_shown n m q right p t)) (λ t. unpack_shows_lem n m q right p r (unpack_told m right t))

  -- a half that a field reads and does not show is a digit that it drops, or the zone of a pack, which may have one value alone
  pub not_shown : Reads f h → shows zone (2 * a) h f ≡ false → Drops f h ⊎ ((v : ℕ) → v < 16 → allows zone f h v ≡ true → v ≡ zone)
  not_shown r e = go f.kind refl
    where
      behind : (c : Kind) → f.kind ≡ c → h + 1 + (reads_from f + 2 * input_size c - 1 - h) ≡ reads_from f + 2 * input_size c
      behind c q = omega (arith, r.1, reading c q)

      go : (c : Kind) → f.kind ≡ c → Drops f h ⊎ ((v : ℕ) → v < 16 → allows zone f h v ≡ true → v ≡ zone)
      go (copy s) q = absurd (true≢false (sym (shows_copy s q r) ∙ e))
      go (pack n m) q = pack_hidden n m q (reads_from f + 2 * n - 1 - h) (behind (pack n m) q) r e
      go (unpack n m) q = inl (unpack_hidden n m q (reads_from f + 2 * n - 1 - h) (behind (unpack n m) q) r e)

  -- a half that it drops it does not show
  pub drops_not : Drops f h → shows zone (2 * a) h f ≡ false
  drops_not w = go (shows zone (2 * a) h f) refl
    where
      not_it : Drops f h → shows zone (2 * a) h f ≡ true → ⊥
      not_it (pack_drops {n = n} {m = m} d q p l) t = which (pack_shown n m q (2 * d + 2) (omega arith) t)
        where
          which : PackShows m (2 * d + 2) → ⊥
          which (inl s) = omega arith
          which (inr s) = omega (arith, s.1)
      not_it (unpack_drops {n = n} {m = m} d q p l) t = which (unpack_shown n m q (d + 2) (omega arith) t)
        where
          which : UnpackShows m (d + 2) → ⊥
          which (inl s) = omega arith
          which (inr s) = omega arith

      go : (t : Bool) → shows zone (2 * a) h f ≡ t → t ≡ false
      go true t = absurd (not_it w t)
      go false t = refl
