-- What a plan answers, step after step, for code that takes the same steps: what the deck asks for, refusal 10 and keeping where no field is selected, and the room
-- of a lent table. Each by its definition.
use mathlib.Core.Path.{◌≡◌, refl, ap, subst, ◌∙◌}
use mathlib.Core.Bool.{true, false}
use mathlib.Core.List.{List, []}
use Prim.Native.Nat.{ℕ, ◌≤◌, ◌<◌}
use native.Mathlib.Nat.{zero-add}
use lib.Dec.{eqb}
use lib.ListN.{length}
use borrow.Author.Tests.{le-leb, lt-leb}
use Rattle.rules.specs.Answer.{Refusal, fine, refuse, refused, ◌>>=◌, ◌>>◌, unless}
use Rattle.rules.specs.Asked.{Asked, asked_of}
use Rattle.rules.specs.Halves.{Field}
use Rattle.rules.specs.Permitted.{permitted, choices}
use Rattle.rules.specs.Plan.{Plan, assembled, plan_of, combined, selects, input_halves, allowed, barren_half, keeps}
use Rattle.rules.specs.Rows.{Row}
use Rattle.rules.specs.Lent.{plan, plan_into}
use Rattle.rules.proofs.Base.Search.{none_first}
use Rattle.rules.proofs.Refusals.PlanTable.{plan_table}

-- ---- what the deck asks for decides

pub deck_refused : (zone : ℕ) (deck : List ℕ) (r : Refusal) → asked_of deck ≡ refuse r → plan_of zone deck ≡ refuse r
unfolding plan_of ◌>>=◌
deck_refused zone deck r e = rw e

pub deck_asks : (zone : ℕ) (deck : List ℕ) (a : Asked) → asked_of deck ≡ fine a
    → plan_of zone deck ≡ (combined zone a >> fine (assembled zone a))
unfolding plan_of ◌>>=◌
deck_asks zone deck a e = rw e

-- no refusal has number 0
pub never_0 : (zone : ℕ) (deck : List ℕ) (r : Refusal) → plan_of zone deck ≡ refuse r → r.number ≡ 0 → ⊥
never_0 zone deck r e z = subst (λ (n : ℕ). Row zone deck n r.place) z ((plan_table zone deck r.number r.place).0 (r.column, e)).0

-- ---- refusal 10

-- without a field every half may have any value
any_value : (zone i : ℕ) → choices (permitted zone []) i ≡ 16
unfolding choices
any_value zone i = refl

module _ (p : Plan) where
  -- so none is refused
  pub no_barren : p.fields ≡ [] → barren_half p ≡ input_halves p
  unfolding barren_half allowed
  no_barren e =
      none_first (λ i. eqb (choices (allowed p) i) 0) 0 (input_halves p)
      (λ j a l. ap (λ (fs : List Field). eqb (choices (permitted p.zone fs) j) 0) e ∙ ap (λ (c : ℕ). eqb c 0) (any_value p.zone j))
      ∙ zero-add (input_halves p)

  -- ---- keeping

  -- TC and TR plans keep
  pub keeps_carried : selects p.mode ≡ false → keeps p ≡ true
  unfolding keeps
  keeps_carried s = rw s

-- ---- the room of a lent table

module _ (room : ℕ) (deck : List ℕ) where
  pub into_refused : (r : Refusal) → plan deck ≡ refuse r → plan_into room deck ≡ refuse r
  unfolding plan_into ◌>>=◌
  into_refused r e = rw e

  module _ (p : Plan) (e : plan deck ≡ fine p) where
    pub into_full : room < length p.fields → plan_into room deck ≡ refused 15 (length p.fields)
    unfolding plan_into ◌>>=◌ ◌>>◌ unless
    into_full l = rw (e, lt-leb (length p.fields) room l)

    pub into_fits : length p.fields ≤ room → plan_into room deck ≡ fine p
    unfolding plan_into ◌>>=◌ ◌>>◌ unless
    into_fits l = rw (e, le-leb (length p.fields) room l)
