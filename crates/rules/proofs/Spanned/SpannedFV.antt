-- FV is the case in which every segment is a whole record: a block of FV is a block of FS with the same records.
use mathlib.Core.Path.{◌≡◌, ap}
use mathlib.Core.Bool.{true}
use mathlib.Core.List.{List, [], ◌∷◌, ◌++◌, map, map-eq-nil_iff}
use Prim.Native.Nat.{ℕ, ◌+◌, ◌≤◌}
use lib.ListN.{length}
use Rattle.rules.specs.Places.{All}
use Rattle.rules.specs.Grammar.{fv}
use Rattle.rules.specs.Output.{length_word, block_of}
use Rattle.rules.specs.Spanned.{span_of, Joined, no_segment, ending, SpanIs}
use Rattle.rules.proofs.Base.AllLaws.{all_map}
use Rattle.rules.proofs.Blocks.BlockWords.{whole, framed_fv}

pub block_fv : (rs : List (List ℕ)) → block_of fv rs ≡ span_of (map whole rs)
unfolding span_of
block_fv rs = ap (λ (z : List ℕ). length_word (length z + 4) ++ z) (framed_fv rs)

pub joined_fv : (rs : List (List ℕ)) → Joined true (map whole rs) rs
joined_fv [] = no_segment
joined_fv (r ∷ rs) = ending (joined_fv rs)

pub span_fv : (g : ℕ) (rs : List (List ℕ)) → (rs ≡ [] → ⊥) → All (λ r. 1 ≤ length r) rs → length (block_of fv rs) ≤ g → SpanIs g (block_of fv rs) (map whole rs)
span_fv g rs o a l = record { is = block_fv rs; some = λ e. o ((map-eq-nil_iff whole).0 e); parts = all_map whole a; most = l }
