-- Each promise of this crate allows one outcome only, for every input: two answers that are the same thing are equal, and what an answer about the order
-- says decides it.
use mathlib.Core.Path.{◌≡◌, sym, ◌∙◌}
use mathlib.Core.Bool.{Bool}
use mathlib.Core.List.{List}
use Prim.Native.Nat.{ℕ}
use Rattle.lines.specs.Ordering.{answer_of}
use Rattle.std.specs.Prelude.{Result}
use Rattle.lines.specs.declared.Disorder.{Disorder}
use Rattle.lines.proofs.PromiseLaws.{answer_once}
use Rattle.scans.specs.Scanning.{no_bytes, scan_from, scanned_of, settled}
use Rattle.scans.specs.declared.Scanner.{Scanner}

pub begin_only_one : {r q : Scanner} → r ≡ no_bytes → q ≡ no_bytes → r ≡ q
begin_only_one e f = e ∙ sym f

module _ (st : Scanner) where
  pub scan_only_one : (piece : List ℕ) {r q : Scanner} → r ≡ scan_from st piece → q ≡ scan_from st piece → r ≡ q
  scan_only_one piece e f = e ∙ sym f

  pub scanned_only_one : (r q : Result ℕ Disorder) → answer_of r ≡ scanned_of st → answer_of q ≡ scanned_of st → r ≡ q
  scanned_only_one r q e f = answer_once r q (e ∙ sym f)

  pub is_settled_only_one : {r q : Bool} → r ≡ settled st → q ≡ settled st → r ≡ q
  is_settled_only_one e f = e ∙ sym f
