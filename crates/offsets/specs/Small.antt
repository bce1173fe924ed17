-- Numbers that are far from wrapping.
use Rattle.std.specs.Prelude.{ℕ, ◌≤◌}

-- of blocks a step apart
pub record StepSmall (step base end : ℕ) : Type 0 where
  pub least : 1 ≤ step
  pub most : step ≤ 65536
  pub rises : base ≤ end
  pub ends : end ≤ 0x100000000

-- of blocks that end with the input's blocks
pub record EachSmall (n w base : ℕ) : Type 0 where
  pub some : 1 ≤ n
  pub wide : w ≤ 65536
  pub starts : base ≤ 0x100000000

-- of such a block
pub record EndSmall (n w base end at : ℕ) : Type 0 where
  pub some : 1 ≤ n
  pub wide : w ≤ 65536
  pub starts : base ≤ 0x100000000
  pub ends : end ≤ 65536
  pub place : at ≤ 0x100000000
