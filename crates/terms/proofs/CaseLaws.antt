-- What is asked of a mode, a format, a size, a kind or a byte has one answer: it is what the rules say of the case that it means, or the byte.
use mathlib.Core.Path.{◌≡◌, sym, ◌∙◌}
use mathlib.Core.Bool.{Bool}
use Prim.Native.Nat.{ℕ, ◌<◌}
use Rattle.rules.specs.Plan.{is_tc, selects, is_ff, is_fv, is_fu, is_fs, record_length, block_length}
use Rattle.rules.specs.Output.{cost}
use Rattle.rules.specs.Lent.{kind_number}
use Rattle.terms.specs.Meaning.{mode_of, format_of, size_of, kind_of}
use Rattle.terms.specs.declared.Mode.{Mode}
use Rattle.terms.specs.declared.Format.{Format}
use Rattle.terms.specs.declared.Size.{Size}
use Rattle.terms.specs.declared.Kind.{Kind}

pub selects_only_one : (m : Mode) (r s : Bool) → r ≡ selects (mode_of m) → s ≡ selects (mode_of m) → r ≡ s
selects_only_one m r s e q = e ∙ sym q

pub tc_only_one : (m : Mode) (r s : Bool) → r ≡ is_tc (mode_of m) → s ≡ is_tc (mode_of m) → r ≡ s
tc_only_one m r s e q = e ∙ sym q

pub ff_only_one : (f : Format) (r s : Bool) → r ≡ is_ff (format_of f) → s ≡ is_ff (format_of f) → r ≡ s
ff_only_one f r s e q = e ∙ sym q

pub fu_only_one : (f : Format) (r s : Bool) → r ≡ is_fu (format_of f) → s ≡ is_fu (format_of f) → r ≡ s
fu_only_one f r s e q = e ∙ sym q

pub fv_only_one : (f : Format) (r s : Bool) → r ≡ is_fv (format_of f) → s ≡ is_fv (format_of f) → r ≡ s
fv_only_one f r s e q = e ∙ sym q

pub fs_only_one : (f : Format) (r s : Bool) → r ≡ is_fs (format_of f) → s ≡ is_fs (format_of f) → r ≡ s
fs_only_one f r s e q = e ∙ sym q

pub record_length_only_one : (z : Size) (r s : ℕ) → r ≡ record_length (size_of z) → s ≡ record_length (size_of z) → r ≡ s
record_length_only_one z r s e q = e ∙ sym q

pub block_length_only_one : (z : Size) (r s : ℕ) → r ≡ block_length (size_of z) → s ≡ block_length (size_of z) → r ≡ s
block_length_only_one z r s e q = e ∙ sym q

pub cost_only_one : (f : Format) (r s : ℕ) → r ≡ cost (format_of f) → s ≡ cost (format_of f) → r ≡ s
cost_only_one f r s e q = e ∙ sym q

pub kind_only_one : (k : Kind) (r s : ℕ) → r ≡ kind_number (kind_of k 0 0) → s ≡ kind_number (kind_of k 0 0) → r ≡ s
kind_only_one k r s e q = e ∙ sym q

pub wide_only_one : (byte r s : ℕ) → (r ≡ byte) × (r < 256) → (s ≡ byte) × (s < 256) → r ≡ s
wide_only_one byte r s e q = e.0 ∙ sym q.0
