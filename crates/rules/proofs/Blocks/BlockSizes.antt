-- The sizes that a block must meet, as facts: what the limits of a plan that is accepted say of them, and what the test of a block asks.
-- The test is taken apart and put together; nothing else is used.
use mathlib.Core.Path.{◌≡◌, refl, ap, sym, ◌∙◌}
use mathlib.Core.Logic.{◌↔◌}
use mathlib.Core.Bool.{Bool, true, false, not, ◌&&◌, true≢false, false≢true}
use mathlib.Core.List.{List, [], map}
use mathlib.Core.Option.{Option, none, some, none-ne-some, some-injective}
use Prim.Native.Nat.{ℕ, ◌≤◌}
use native.Mathlib.Omega.{arith}
use lib.Dec.{leb}
use lib.ListN.{length}
use borrow.Author.Tests.{leb-true, le-leb}
use Rattle.rules.specs.Base.{is_empty}
use Rattle.rules.specs.Places.{All}
use Rattle.rules.specs.Grammar.{Format, ff, fv, fu, fsp, Size, two, one}
use Rattle.rules.specs.Plan.{Plan, selects, record_length, block_length}
use Rattle.rules.specs.Blocks.{Piece, pieces_in, least_data, meets, data_of, records_of, records_in}
use Rattle.rules.specs.Rows.{SizeWithin, IsTwo, two_numbers}
use Rattle.rules.specs.Accepted.{Accepted}
use Rattle.rules.proofs.Base.Lists.{not_empty}
use Rattle.rules.proofs.Base.Tests.{and_left, and_right, and_both, every_all, all_every}
use Rattle.rules.proofs.Base.AllLaws.{all_imply}

-- ---- the sizes of a plan that is accepted

pub size_most : (f : Format) (s : Size) → SizeWithin f s → (1 ≤ block_length s) × (block_length s ≤ 32760)
size_most f (two n m) w = w.1
size_most f (one g) w = w.0

pub record_most : (f : Format) (s : Size) → SizeWithin f s → record_length s ≤ 4096
record_most f (two n m) w = w.0.1
record_most f (one g) w = omega arith

pub size_least : (f : Format) (s : Size) → SizeWithin f s → IsTwo s → 1 ≤ record_length s
size_least f (two n m) w two_numbers = w.0.0
size_least f (one _) w x3 = elim x3 [ ]

pub least_selects : (p : Plan) → selects p.mode ≡ true → least_data p ≡ record_length p.input
unfolding least_data
least_selects p e = rw e

pub least_other : (p : Plan) → selects p.mode ≡ false → least_data p ≡ 1
unfolding least_data
least_other p e = rw e

-- A has two numbers where fields are selected
pub selects_two : (p : Plan) → Accepted p → selects p.mode ≡ true → IsTwo p.input
selects_two p w s = go p.format refl
  where
    go : (f : Format) → p.format ≡ f → IsTwo p.input
    go ff t = (w.required.ff_two t).0
    go fv t = (w.required.fv_two t s).0
    go fu t = absurd (true≢false (sym s ∙ ap selects (w.required.fu_with_tc t)))
    go fsp t = absurd (true≢false (sym s ∙ w.required.fs_with t))

pub least_one : (p : Plan) → Accepted p → 1 ≤ least_data p
least_one p w = go (selects p.mode) refl
  where
    go : (t : Bool) → selects p.mode ≡ t → 1 ≤ least_data p
    go true t = rw (least_selects p t) (size_least p.format p.input w.input (selects_two p w t))
    go false t = rw (least_other p t) (omega arith)

-- ---- the test of the sizes

pub record Meets (p : Plan) (b : List ℕ) (xs : List Piece) : Type 0 where
  pub most : length b ≤ block_length p.input
  pub any : xs ≡ [] → ⊥
  pub least : All (λ x. least_data p ≤ x.size) xs

pub meets_exactly : (p : Plan) (b : List ℕ) (xs : List Piece) → (meets p b xs ≡ true) ↔ Meets p b xs
unfolding meets
meets_exactly p b xs = (to, back)
  where
    t1 : Bool
    t1 = leb (length b) (block_length p.input)

    t2 : Bool
    t2 = not (is_empty xs)

    to : meets p b xs ≡ true → Meets p b xs
    to e =
        let e2 = and_left (t1 && t2) _ e in
        record {
          most = leb-true (length b) (block_length p.input) (and_left t1 _ e2);
          any = λ z. false≢true (sym (ap (λ (ys : List Piece). not (is_empty ys)) z) ∙ and_right t1 _ e2);
          least = all_imply (λ x h. leb-true (least_data p) x.size h) (every_all (λ x. leb (least_data p) x.size) xs (and_right (t1 && t2) _ e));
        }

    back : Meets p b xs → meets p b xs ≡ true
    back w =
        and_both (and_both (le-leb (length b) (block_length p.input) w.most) (ap not (not_empty xs w.any)))
        (all_every (λ x. leb (least_data p) x.size) (all_imply (λ x h. le-leb (least_data p) x.size h) w.least))

-- what reading a block found
pub record Reads (p : Plan) (b : List ℕ) (rs : List (List ℕ)) : Type 0 where
  pub pieces : List Piece
  pub found : pieces_in p.format (record_length p.input) b ≡ some pieces
  pub sizes : Meets p b pieces
  pub is : map (data_of b) pieces ≡ rs

pub reads_exactly : (p : Plan) (b : List ℕ) (rs : List (List ℕ)) → (records_in p b ≡ some rs) ↔ Reads p b rs
unfolding records_in
reads_exactly p b rs = (λ e. to (pieces_in p.format (record_length p.input) b) refl e, back)
  where
    to : (o : Option (List Piece)) → pieces_in p.format (record_length p.input) b ≡ o → records_in p b ≡ some rs → Reads p b rs
    to none q e = absurd (none-ne-some rs (sym (ap (records_of p b) q) ∙ e))
    to (some xs) q e = go (meets p b xs) refl (sym (ap (records_of p b) q) ∙ e)
      where
        go : (t : Bool) → meets p b xs ≡ t → records_of p b (some xs) ≡ some rs → Reads p b rs
        go false t d = absurd (none-ne-some rs (rw t at d))
        go true t d = record { pieces = xs; found = q; sizes = (meets_exactly p b xs).0 t; is = some-injective (map (data_of b) xs) rs (rw t at d) }

    back : Reads p b rs → records_in p b ≡ some rs
    back w = ap (records_of p b) w.found ∙ rw ((meets_exactly p b w.pieces).1 w.sizes) (ap some w.is)
