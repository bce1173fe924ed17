-- Laws of the pieces of a block, and of blocks that were read, that readers of reels use besides: by cases on the format, and by going along the
-- blocks.
use mathlib.Core.Path.{◌≡◌, refl, ap, ◌∙◌}
use mathlib.Core.Bool.{true}
use mathlib.Core.List.{List, []}
use mathlib.Core.Option.{none, some}
use Prim.Native.Nat.{ℕ, zero, suc, ◌%◌, ◌≤◌, ◌<◌}
use native.Mathlib.Nat.{mod-zero}
use native.Mathlib.Omega.{arith}
use lib.ListN.{length, drop, get_or, length-drop}
use borrow.Author.Tests.{ne_eqb}
use Rattle.rules.specs.Answer.{fine, Refusal, refuse, refused, refused_at}
use Rattle.rules.specs.Places.{Both, none_left, both}
use Rattle.rules.specs.Grammar.{Format, ff, fv, fu, fsp}
use Rattle.rules.specs.Plan.{Plan}
use Rattle.rules.specs.Blocks.{records_in, records_from}
use Rattle.rules.specs.ReelPlaces.{pieces_at, piece_from, good_from, behind}
use Rattle.rules.proofs.Refusals.AnswerLaws.{reads_fine}
use Rattle.rules.proofs.Refusals.RunColumns.{refuses_reads}
use Rattle.rules.proofs.Blocks.BlockSteps.{good_inside}

-- a piece that takes a byte or more: in FF n is not 0
pub takes_some : (f : Format) (n : ℕ) (b : List ℕ) (i : ℕ) → i < behind (piece_from f n b i) → f ≡ ff → 1 ≤ n
takes_some ff n b i l e = omega arith
takes_some fv n b i l e = let z : ◌≡◌ {A = ℕ} 0 1 = cc in absurd (omega arith)
takes_some fsp n b i l e = let z : ◌≡◌ {A = ℕ} 0 1 = cc in absurd (omega arith)
takes_some fu n b i l e = let z : ◌≡◌ {A = ℕ} 0 1 = cc in absurd (omega arith)

-- where n is 0 nothing is cut into pieces of n bytes
pub pieces_none : (f : Format) (n : ℕ) (b : List ℕ) (i : ℕ) → i < length b → good_from f n b i ≡ true → behind (piece_from f n b i) ≤ i → pieces_at f n b i ≡ none
unfolding pieces_at
pieces_none ff n b i l e h =
    let z : n ≡ 0 = omega arith in
    let d = length-drop i b in
    let m : length (drop i b) % n ≡ length (drop i b) = ap (λ (x : ℕ). length (drop i b) % x) z ∙ mod-zero (length (drop i b)) in
    rw (m, ne_eqb (length (drop i b)) 0 (λ q. omega arith))
pieces_none fv n b i l e h = absurd (omega (arith, good_inside fv n b i (λ q. let z : ◌≡◌ {A = ℕ} 0 1 = cc in absurd (omega arith)) l e))
pieces_none fsp n b i l e h = absurd (omega (arith, good_inside fsp n b i (λ q. let z : ◌≡◌ {A = ℕ} 0 1 = cc in absurd (omega arith)) l e))
pieces_none fu n b i l e h = absurd (omega (arith, good_inside fu n b i (λ q. let z : ◌≡◌ {A = ℕ} 0 1 = cc in absurd (omega arith)) l e))

-- a block that breaks its rule is refused by number 12, and nothing else is refused there
pub refused_block : (p : Plan) (bs : List (List ℕ)) (r : Refusal) → records_from p 1 bs ≡ refuse r → records_from p 1 bs ≡ refused 12 r.place
refused_block p bs r e =
    let w : (r.number ≡ 12) × (r.column ≡ 0) = rw e at (refuses_reads (λ r. (r.number ≡ 12) × (r.column ≡ 0)) 12 (records_in p) 1 bs (λ q. (refl, refl))) in
    e ∙ (λ j. refused_at (w.0 j) r.place (w.1 j))

-- the records of the block at a place
pub read_at : (p : Plan) (i : ℕ) (bs : List (List ℕ)) (all : List (List (List ℕ))) → records_from p i bs ≡ fine all → (j : ℕ) → j < length bs
    → records_in p (get_or bs j []) ≡ some (get_or all j [])
read_at p i bs all e j l = go (reads_fine 12 (records_in p) i bs all e) j l
  where
    go : {bs : List (List ℕ)} {all : List (List (List ℕ))} → Both (λ b rs. records_in p b ≡ some rs) bs all → (j : ℕ) → j < length bs → records_in p (get_or bs j []) ≡ some (get_or all j [])
    go none_left j l = absurd (omega arith)
    go (both e h) zero l = e
    go (both e h) (suc j) l = go h j (omega arith)
