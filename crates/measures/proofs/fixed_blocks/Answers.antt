-- By the mode: the blocks are those of the input, or filled.
use mathlib.Core.Path.{◌≡◌, ap}
use mathlib.Core.Bool.{false}
use Rattle.std.proofs.Common.{inl, inr}
use Rattle.rules.specs.Plan.{is_tf}
use Rattle.terms.specs.Meaning.{mode_of}
use Rattle.terms.specs.declared.Mode.{Mode}
use Rattle.measures.proofs.FixedMeasure.{filled_small, filled_blocks, each_blocks}
use Rattle.measures.proofs.fixed_blocks.Goals as goal

pub blocks_filled-requires : goal.blocks_filled-requires
blocks_filled-requires c = filled_small c.requires

pub returns-in-TC : goal.returns-in-TC
returns-in-TC c =
    let other : is_tf (mode_of c.args.task.mode) ≡ false
    = elim c.in-TC.is as (λ t. is_tf (mode_of c.args.task.mode) ≡ false) [ inl e ↦ ap (λ (m : Mode). is_tf (mode_of m)) e | inr (inl e) ↦ ap (λ (m : Mode). is_tf (mode_of m)) e | inr (inr e) ↦ ap (λ (m : Mode). is_tf (mode_of m)) e ] in
    filled_blocks c.requires other _ c.blocks_filled.ensures

pub returns-in-TF : goal.returns-in-TF
returns-in-TF c = each_blocks c.requires (ap mode_of c.in-TF.is) _ c.blocks_behind.ensures
