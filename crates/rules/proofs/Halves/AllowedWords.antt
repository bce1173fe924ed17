-- A half may be v in the paper's words exactly if the definition allows it: a field asks the same of a half by its byte as by its place in the field, and
-- asks nothing of a half that it does not read.
use mathlib.Core.Path.{◌≡◌, refl, ap, sym, ◌∙◌}
use mathlib.Core.Logic.{◌↔◌}
use mathlib.Core.Bool.{Bool, true, false, true≢false}
use Prim.Native.Nat.{ℕ, ◌+◌, ◌*◌, ◌/◌, ◌%◌, ◌<◌}
use native.Mathlib.Omega.{arith}
use lib.Dec.{eqb}
use borrow.Author.Tests.{eqb-true, eqb-false, eq-eqb}
use Rattle.rules.specs.Halves.{Kind, copy, pack, unpack, input_size, Field, reads_from}
use Rattle.rules.specs.Permitted.{kind_allows, allows}
use Rattle.rules.specs.Plan.{Plan, allowed}
use Rattle.rules.specs.InWords.{IsHigh, IsLow, Allows, MayBe}
use Rattle.rules.proofs.Base.AllLaws.{all_imply}
use Rattle.rules.proofs.Halves.PermittedLaws.{digit_told, digit_of, sign_told, sign_of, pack_low_allows, pack_last_allows, pack_high_allows, unpack_last_allows, unpack_digit_allows, any_of, any_small, allows_inside, allows_before, allows_after, Where, before, inside, after, where_is, permitted_any, permitted_all, all_permitted}

-- ---- one field

module _ (zone : ℕ) (f : Field) (h v : ℕ) where
  -- by kind, at a place of what the field reads
  at_place : (c : Kind) → f.kind ≡ c → (j : ℕ) → h ≡ reads_from f + j → j < 2 * input_size c → allows zone f h v ≡ kind_allows zone c j v
  at_place c q j p l =
      allows_inside zone f v h j p (omega (arith, ap (λ (k : Kind). 2 * input_size k) q)) ∙ ap (λ (k : Kind). kind_allows zone k j v) q

  allows_told : allows zone f h v ≡ true → Allows zone f h v
  allows_told t =
      record {
        pack_high = λ n m i q l p. eqb-true v zone (sym (at_place (pack n m) q (2 * i) p (omega arith) ∙ pack_high_allows zone n m v (2 * i) i refl l) ∙ t);
        pack_last = λ n m i q l p. sign_told v (sym (at_place (pack n m) q (2 * i) p (omega arith) ∙ pack_last_allows zone n m v (2 * i) (omega arith)) ∙ t);
        pack_low = λ n m i q l p. digit_told v (sym (at_place (pack n m) q (2 * i + 1) (omega arith) (omega arith) ∙ pack_low_allows zone n m v (2 * i + 1) i refl) ∙ t);
        unpack_last = λ n m i q l p. sign_told v (sym (at_place (unpack n m) q (2 * i + 1) (omega arith) (omega arith) ∙ unpack_last_allows zone n m v (2 * i + 1) (omega arith)) ∙ t);
        unpack_low = λ n m i q l p. digit_told v (sym (at_place (unpack n m) q (2 * i + 1) (omega arith) (omega arith) ∙ unpack_digit_allows zone n m v (2 * i + 1) (omega arith)) ∙ t);
        unpack_high = λ n m i q l p. digit_told v (sym (at_place (unpack n m) q (2 * i) p (omega arith) ∙ unpack_digit_allows zone n m v (2 * i) (omega arith)) ∙ t);
      }

  module _ (s : v < 16) (w : Allows zone f h v) (j : ℕ) (p : h ≡ reads_from f + j) where
    -- the halves of byte j / 2 are j and its neighbour
    high : j % 2 ≡ 0 → IsHigh f (j / 2) h
    high e = omega arith

    low : j % 2 ≡ 1 → IsLow f (j / 2) h
    low e = omega arith

    pack_of : (n m : ℕ) → f.kind ≡ pack n m → j < 2 * n → kind_allows zone (pack n m) j v ≡ true
    pack_of n m q l = go (eqb (j % 2) 1) refl (eqb (j / 2 + 1) n) refl
      where
        go : (odd : Bool) → eqb (j % 2) 1 ≡ odd → (last : Bool) → eqb (j / 2 + 1) n ≡ last → kind_allows zone (pack n m) j v ≡ true
        go true a last b =
            let o = eqb-true (j % 2) 1 a in
            pack_low_allows zone n m v j (j / 2) (omega arith) ∙ digit_of v (w.pack_low n m (j / 2) q (omega arith) (low o))
        go false a true b =
            let e : j % 2 ≡ 0 = omega (arith, eqb-false (j % 2) 1 a) in
            let z = eqb-true (j / 2 + 1) n b in
            pack_last_allows zone n m v j (omega arith) ∙ sign_of v (w.pack_last n m (j / 2) q z (high e))
        go false a false b =
            let e : j % 2 ≡ 0 = omega (arith, eqb-false (j % 2) 1 a) in
            let z : j / 2 + 1 < n = omega (arith, eqb-false (j / 2 + 1) n b) in
            pack_high_allows zone n m v j (j / 2) (omega arith) z ∙ eq-eqb v zone (w.pack_high n m (j / 2) q z (high e))

    unpack_of : (n m : ℕ) → f.kind ≡ unpack n m → j < 2 * n → kind_allows zone (unpack n m) j v ≡ true
    unpack_of n m q l = go (eqb (j + 1) (2 * n)) refl (eqb (j % 2) 1) refl
      where
        go : (last : Bool) → eqb (j + 1) (2 * n) ≡ last → (odd : Bool) → eqb (j % 2) 1 ≡ odd → kind_allows zone (unpack n m) j v ≡ true
        go true a odd b =
            let z = eqb-true (j + 1) (2 * n) a in
            let o : j % 2 ≡ 1 = omega arith in
            unpack_last_allows zone n m v j z ∙ sign_of v (w.unpack_last n m (j / 2) q (omega arith) (low o))
        go false a true b =
            let z : j + 1 < 2 * n = omega (arith, eqb-false (j + 1) (2 * n) a) in
            let o = eqb-true (j % 2) 1 b in
            unpack_digit_allows zone n m v j z ∙ digit_of v (w.unpack_low n m (j / 2) q (omega arith) (low o))
        go false a false b =
            let z : j + 1 < 2 * n = omega (arith, eqb-false (j + 1) (2 * n) a) in
            let e : j % 2 ≡ 0 = omega (arith, eqb-false (j % 2) 1 b) in
            unpack_digit_allows zone n m v j z ∙ digit_of v (w.unpack_high n m (j / 2) q (omega arith) (high e))

    kind_of_lem : (c : Kind) → f.kind ≡ c → j < 2 * input_size c → kind_allows zone c j v ≡ true
    kind_of_lem (copy n) q l = any_of v s
    kind_of_lem (pack n m) q l = pack_of n m q l
    kind_of_lem (unpack n m) q l = unpack_of n m q l

  allows_of : v < 16 → Allows zone f h v → allows zone f h v ≡ true
  allows_of s w = go (where_is f h)
    where
      go : Where f h → allows zone f h v ≡ true
      go (before l) = allows_before zone f v h l ∙ any_of v s
      go (inside j p l) = allows_inside zone f v h j p l ∙ kind_of_lem s w j p f.kind refl l
      go (after l) = allows_after zone f v h l ∙ any_of v s

-- ---- all fields

pub may_be : (p : Plan) (h v : ℕ) → (allowed p h v ≡ true) ↔ MayBe p h v
unfolding allowed
may_be p h v = (
  λ t. record {
    half = any_small v (permitted_any p.zone h v p.fields t);
    fields = all_imply (λ f e. allows_told p.zone f h v e) (permitted_all p.zone h v p.fields t);
  },
  λ w. all_permitted p.zone h v (any_of v w.half) (all_imply (λ f e. allows_of p.zone f h v w.half e) w.fields),
)

-- so what is not allowed is not permitted in words, and the other way
pub not_allowed : (p : Plan) (h v : ℕ) → (allowed p h v ≡ false) ↔ (MayBe p h v → ⊥)
not_allowed p h v = (λ e w. true≢false (sym ((may_be p h v).1 w) ∙ e), λ n. go n (allowed p h v) refl)
  where
    go : (MayBe p h v → ⊥) → (t : Bool) → allowed p h v ≡ t → allowed p h v ≡ false
    go n true t = absurd (n ((may_be p h v).0 t))
    go n false t = t
