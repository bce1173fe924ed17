-- What the parts promise of which the losses of a plan are made.
use Rattle.std.specs.Prelude.{◌≡◌, cond, not, ◌&&◌, List, ℕ, ◌*◌, ◌<◌, ltb, eqb, length, get_or, Option, Some, None}
use Rattle.rules.specs.Halves.{Field}
use Rattle.rules.specs.Lent.{zone_f}
use Rattle.rules.specs.Twins.{reason_by}

-- why half h of records of n bytes is lost, where a mark that is not 0 says that it is missing; else 0
unfoldable pub loss_of : List Field → ℕ → ℕ → ℕ → ℕ
loss_of fs n h mark = cond (not (eqb mark 0) && ltb h (2 * n)) (reason_by zone_f (2 * n) h 1 fs) 0

-- each half has its reason where it had its mark
pub record Reasoned (fs : List Field) (n : ℕ) (before after : List ℕ) : Type 0 where
  pub long : length after ≡ 8192
  pub each : (h : ℕ) → h < 8192 → get_or after h 0 ≡ loss_of fs n h (get_or before h 0)

-- a number of which 0 is none
abbrev pub place_of : ℕ → Option ℕ
place_of n = cond (eqb n 0) None (Some n)
