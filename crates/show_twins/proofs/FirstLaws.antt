-- An accepted plan is accepted from record 1 on too: R is only asked to be within its limits, and to be 1 for TC.
use mathlib.Core.Path.{refl}
use mathlib.Core.List.{List}
use Prim.Native.Nat.{ℕ}
use native.Mathlib.Omega.{arith}
use Rattle.rules.specs.Grammar.{Mode, Format, Size}
use Rattle.rules.specs.Plan.{Plan, input_halves, allowed}
use Rattle.rules.specs.Rows.{Required}
use Rattle.rules.specs.Accepted.{Accepted}
use Rattle.rules.specs.Lent.{zone_f}
use Rattle.terms.specs.Meaning.{plan_in}
use Rattle.terms.specs.declared.Asked.{Asked}
use Rattle.rows.specs.Kept.{fields_in}
use Rattle.rows.specs.Fair.{PlanFair}
use Rattle.show_twins.specs.First.{asked_from_first}

abbrev from_first : Plan → Plan
from_first p =
    record {
      zone = p.zone;
      mode = p.mode;
      format = p.format;
      input = p.input;
      output = p.output;
      first = 1;
      fields = p.fields;
      carries = p.carries;
    }

required_first : (t : Mode) (f : Format) (a b : Size) (n : ℕ) → Required t f a b n → Required t f a b 1
required_first t f a b n h =
    record {
      fu_with_tc = h.fu_with_tc;
      fs_with = h.fs_with;
      tc_with_r1 = λ e. refl;
      ff_two = h.ff_two;
      fu_one = h.fu_one;
      fs_one = h.fs_one;
      fv_two = h.fv_two;
      fv_one = h.fv_one;
      ff_multiple = h.ff_multiple;
      tc_equal = h.tc_equal;
      tr_equal = h.tr_equal;
      tf_equal = h.tf_equal;
      fv_room_a = h.fv_room_a;
      fv_room_b = h.fv_room_b;
    }

accepted_first : (p : Plan) → Accepted p → Accepted (from_first p)
unfolding input_halves allowed
accepted_first p h =
    record {
      few = h.few;
      input = h.input;
      output = h.output;
      first = (omega arith, omega arith);
      limits = h.limits;
      required = required_first _ _ _ _ _ h.required;
      no_field_lem = h.no_field_lem;
      no_cv = h.no_cv;
      with_fv = h.with_fv;
      insides = h.insides;
      some = h.some;
    }

pub fair_first : (x : Asked) (row : List ℕ) → PlanFair x row → PlanFair (asked_from_first x) row
unfolding plan_in
fair_first x row h = record { accepted = accepted_first (plan_in zone_f x (fields_in row)) h.accepted; flat = h.flat }
