-- The records of blocks that are all read, taken apart at the first block, for code that walks them from block to block: the first block's records,
-- and those of the blocks behind it. A block that is read holds a record, so that its first place lies before its end.
use mathlib.Core.Path.{◌≡◌, refl, ap, sym, ◌∙◌}
use mathlib.Core.Bool.{Bool, true, false, cond}
use mathlib.Core.List.{List, [], ◌∷◌}
use mathlib.Core.Option.{none, some, none-ne-some}
use Prim.Native.Nat.{ℕ, suc, ◌<◌}
use lib.Dec.{ltb}
use lib.ListN.{length}
use borrow.Author.Tests.{ltb-true}
use Rattle.rules.specs.Answer.{fine}
use Rattle.rules.specs.Places.{Both, both}
use Rattle.rules.specs.Plan.{Plan}
use Rattle.rules.specs.Blocks.{records_in, records_from}
use Rattle.rules.specs.Output.{cost}
use Rattle.rules.specs.Accepted.{Accepted}
use Rattle.rules.specs.ReelPlaces.{records_at}
use Rattle.rules.proofs.Base.Tests.{and_left}
use Rattle.rules.proofs.Refusals.AnswerLaws.{fine_same, reads_fine, fine_reads}
use Rattle.rules.proofs.Blocks.RecordSteps.{size_of, opens, records_start}

-- a block that is read: its records are those from its first place on
pub record Begins (p : Plan) (b : List ℕ) (rs : List (List ℕ)) : Type 0 where
  pub inside : cost p.format < length b
  pub left : records_at p b (cost p.format) ≡ some rs

pub block_begins : (p : Plan) → Accepted p → (b : List ℕ) (rs : List (List ℕ)) → records_in p b ≡ some rs → Begins p b rs
block_begins p w b rs e = go (opens p b) refl
  where
    go : (t : Bool) → opens p b ≡ t → Begins p b rs
    go true t =
        record {
          inside = ltb-true (cost p.format) (length b) (and_left (ltb (cost p.format) (length b)) _ (and_left _ (size_of p b) t));
          left = ap (λ (x : Bool). cond x (records_at p b (cost p.format)) none) (sym t) ∙ sym (records_start p w b) ∙ e;
        }
    go false t =
        absurd (none-ne-some rs (ap (λ (x : Bool). cond x (records_at p b (cost p.format)) none) (sym t) ∙ sym (records_start p w b) ∙ e))

-- the first of some blocks that are all read, and the others
pub record FirstBlock (p : Plan) (i : ℕ) (b : List ℕ) (bs : List (List ℕ)) (recs : List (List (List ℕ))) : Type 0 where
  pub here : List (List ℕ)
  pub later : List (List (List ℕ))
  pub is : recs ≡ here ∷ later
  pub begins : Begins p b here
  pub behind : records_from p (suc i) bs ≡ fine later

pub first_block : (p : Plan) → Accepted p → (i : ℕ) (b : List ℕ) (bs : List (List ℕ)) (recs : List (List (List ℕ))) → records_from p i (b ∷ bs) ≡ fine recs
    → FirstBlock p i b bs recs
first_block p w i b bs recs e = go (reads_fine 12 (records_in p) i (b ∷ bs) recs e)
  where
    go : {recs : List (List (List ℕ))} → Both (λ c rs. records_in p c ≡ some rs) (b ∷ bs) recs → FirstBlock p i b bs recs
    go (both {y = rs} {ys = later} d h) = record { here = rs; later = later; is = refl; begins = block_begins p w b rs d; behind = fine_reads 12 (records_in p) (suc i) h }

pub no_more_blocks : (p : Plan) (i : ℕ) (recs : List (List (List ℕ))) → records_from p i [] ≡ fine recs → recs ≡ []
no_more_blocks p i recs e = sym (fine_same [] recs e)
