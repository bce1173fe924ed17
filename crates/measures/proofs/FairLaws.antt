-- What is known of the numbers and the reel by the plan that is given, and one turn of a walk over its records: the records that are taken, all of them before the
-- first turn, then one less at each.
use mathlib.Core.Path.{◌≡◌, subst}
use mathlib.Core.List.{List}
use Prim.Native.Nat.{ℕ, ◌≤◌}
use native.Mathlib.Omega.{arith}
use lib.ListN.{length}
use Rattle.rules.specs.Plan.{Plan}
use Rattle.rules.specs.Blocks.{taken_from}
use Rattle.rules.proofs.Reel.Bounds.{reel_most}
use Rattle.terms.specs.declared.Task.{Task}
use Rattle.pieces.specs.declared.Form.{Form}
use Rattle.pieces.specs.Form.{FormIs}
use Rattle.walks.specs.declared.Walk.{Walk}
use Rattle.walks.specs.Marks.{marked_all}
use Rattle.walks.specs.Promise.{Good, Walks, Sound, bytes_left, WalkTaken}
use Rattle.tasks.specs.Promise.{form_of}
use Rattle.tasks.proofs.LengthLaws.{form_given}
use Rattle.measures.specs.Promise.{GoodTask}

pub left_few : (s : List ℕ) (w : Walk) → bytes_left s w ≤ length s
unfolding bytes_left
left_few s w = omega arith

-- the form and R are those of the plan, and the reel is good by it
pub record Asks (form : Form) (first : ℕ) (s : List ℕ) (p : Plan) (recs : List (List (List ℕ))) : Type 0 where
  pub form_is : FormIs form p
  pub first_is_lem : first ≡ p.first
  pub good : Good p s recs

pub asks : {task : Task} {s : List ℕ} {p : Plan} {recs : List (List (List ℕ))} {form : Form} → form ≡ form_of task → GoodTask task s p recs → Asks form task.first s p recs
asks e x = record { form_is = form_given x.is e; first_is_lem = x.is.first; good = x.good }

module _ {form : Form} {first : ℕ} {s : List ℕ} {p : Plan} {recs : List (List (List ℕ))} (x : Asks form first s p recs) where
  pub first_low : 1 ≤ first
  first_low = let w = x.good.accepted.first.0 in omega (arith, x.first_is_lem)

  pub first_high : first ≤ 65536
  first_high = let w = x.good.accepted.first.1 in omega (arith, x.first_is_lem)

  pub s_short : length s ≤ 65536
  s_short = reel_most s x.good.reel

  -- the reel is good by what the form asks of blocks
  pub sound : Sound form s
  sound = record { p = p; recs = recs; form_is = x.form_is; good = x.good }

  -- before the first turn
  pub walks_first : {w : Walk} → WalkTaken form s first w → Walks p s w (marked_all (taken_from p.first recs))
  walks_first {w} t = subst (λ (n : ℕ). Walks p s w (marked_all (taken_from n recs))) x.first_is_lem (t.all p recs x.form_is x.good)
