-- Of an accepted plan each loss, where its answer names the lowest alone: which halves of an input record are lost and why, whether the tail is; and which field is
-- the last that reads a half, or writes a position. What it means stands below, in the words of demand 3 and of the reasons.
use Rattle.std.specs.Prelude.{◌≡◌, ◌↔◌, Bool, true, cond, not, ◌&&◌, List, [], ◌∷◌, ◌++◌, ℕ, suc, ◌<◌, ltb, length}
use Rattle.rules.specs.Places.{All}
use Rattle.rules.specs.Halves.{Field}
use Rattle.rules.specs.Permitted.{reads}
use Rattle.rules.specs.Keeping.{missing}
use Rattle.rules.specs.Plan.{Plan, selects, input_halves, allowed, sources_of, tail_kept}
use Rattle.rules.specs.Demand.{TwinsAt, TailTwins}
use Rattle.rules.specs.Twins.{reason_by}
use Rattle.rules.specs.TwinWords.{Reason}
use Rattle.rules.specs.Judge.{writes_at}

-- ---- each loss

-- half h of the first n bytes is missing from the output; TC and TR carry records unchanged
unfoldable pub is_lost : Plan → ℕ → Bool
is_lost p h = selects p.mode && ltb h (input_halves p) && missing (allowed p) (sources_of p) h

-- why it is lost: 1 never read, 2 dropped by a short field, 3 covered later; 0 where it is not
unfoldable pub loss_at : Plan → ℕ → ℕ
loss_at p h = cond (is_lost p h) (reason_by p.zone (input_halves p) h 1 p.fields) 0

unfoldable pub is_tail_lost : Plan → Bool
is_tail_lost p = selects p.mode && not (tail_kept p)

-- ---- the last field

-- the number of the last field that passes, the first being number k; x where none does
abbrev pub last_from : (Field → Bool) → ℕ → ℕ → List Field → ℕ
last_from q x k [] = x
last_from q x k (f ∷ fs) = last_from q (cond (q f) k x) (suc k) fs

-- that reads half h; 0 where none does
unfoldable pub last_reader : ℕ → List Field → ℕ
last_reader h fs = last_from (λ f. reads f h) 0 1 fs

-- that writes position i, from 1; 0 where none does, and there the output has a blank
unfoldable pub last_writer : ℕ → List Field → ℕ
last_writer i fs = last_from (writes_at i) 0 1 fs

-- ---- in words

-- what number k says of half h: 0 exactly if no two records that the plan converts differ in it alone and have one output record; else why
pub record LossSays (p : Plan) (h k : ℕ) : Type 0 where
  pub kept : (k ≡ 0) ↔ (TwinsAt p h → ⊥)
  pub lost : (k ≡ 0 → ⊥) → TwinsAt p h × Reason p h k

-- all losses of a plan
pub record LossesSay (p : Plan) : Type 0 where
  pub halves : (h : ℕ) → h < input_halves p → LossSays p h (loss_at p h)
  pub tail : (is_tail_lost p ≡ true) ↔ TailTwins p

-- number k says which of these fields is the last of which Q holds
pub record LastSays (Q : Field → Type 0) (fs : List Field) (k : ℕ) : Type 0 where
  pub none : (k ≡ 0) ↔ All (λ f. Q f → ⊥) fs
  pub last : (k ≡ 0 → ⊥) → (before : List Field) × (f : Field) × (after : List Field) × (fs ≡ before ++ (f ∷ after)) × (k ≡ suc (length before)) × Q f × All (λ g. Q g → ⊥) after
