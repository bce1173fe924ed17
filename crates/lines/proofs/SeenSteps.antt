-- A line more, and what all come to, for code that judges them: what each way through the code answers is what the definitions say. By the tests on the
-- way.
use Rattle.std.specs.Prelude.{Option, None, Some}
use Rattle.std.specs.Option.{option_or}
use Rattle.std.specs.Bool.{then_some}
use mathlib.Core.Path.{◌≡◌, refl}
use mathlib.Core.Bool.{Bool, true, false}
use Prim.Native.Nat.{ℕ, ◌+◌, ◌≤◌, ◌<◌}
use native.Mathlib.Omega.{arith}
use lib.Dec.{ltb}
use borrow.Author.Tests.{eq-eqb, ne_eqb}
use Rattle.rules.specs.Answer.{fine, refused}
use Rattle.lines.specs.Ordering.{most, one_more, first_marked, faulty, order_of}
use Rattle.lines.specs.declared.LinesSeen.{LinesSeen}

-- ---- places

pub one_more_below : (n : ℕ) → n < most → one_more n ≡ n + 1
one_more_below n h = omega arith

pub one_more_most : (n : ℕ) → most ≤ n → one_more n ≡ most
one_more_most n h = omega arith

module _ (marked : Bool) (place : ℕ) where
  pub first_stays : (old : Option ℕ) (p : ℕ) → old ≡ Some p → first_marked old marked place ≡ Some p
  first_stays old p e = rw e

  pub first_place : (old : Option ℕ) → old ≡ None → marked ≡ true → first_marked old marked place ≡ Some place
  first_place old e m = rw (e, m)

  pub first_unmarked : (old : Option ℕ) → marked ≡ false → first_marked old marked place ≡ old
  first_unmarked None m = rw m
  first_unmarked (Some p) m = refl

-- as code finds it
pub first_or : (old : Option ℕ) (marked : Bool) (place : ℕ) → option_or old (then_some marked place) ≡ first_marked old marked place
first_or (Some p) marked place = refl
first_or None true place = refl
first_or None false place = refl

module _ (place : ℕ) (ended : Bool) where
  pub faulty_first : place ≡ 1 → faulty place ended ≡ true
  faulty_first e = rw (eq-eqb place 1 e)

  pub faulty_ended : (place ≡ 1 → ⊥) → ended ≡ true → faulty place ended ≡ true
  faulty_ended n e = rw (ne_eqb place 1 n, e)

  pub faulty_past : (place ≡ 1 → ⊥) → ended ≡ false → faulty place ended ≡ ltb 64 place
  faulty_past n e = rw (ne_eqb place 1 n, e)

-- ---- lines

module _ (t : LinesSeen) where
  pub order_bad : (p : ℕ) → t.bad ≡ Some p → order_of t ≡ refused 1 p
  order_bad p e = rw e

  module _ (good : t.bad ≡ None) where
    pub order_fault : (p : ℕ) → t.fault ≡ Some p → order_of t ≡ refused 2 p
    order_fault p e = rw (good, e)

    pub order_cards : t.fault ≡ None → t.ended ≡ true → order_of t ≡ fine t.lines
    order_cards e f = rw (good, e, f)

    pub order_open : t.fault ≡ None → t.ended ≡ false → order_of t ≡ refused 2 (one_more t.lines)
    order_open e f = rw (good, e, f)
