-- Records are gathered into blocks by a step over the size of the open block, the record's mark and its length. By going along the records.
use mathlib.Core.Path.{◌≡◌, refl, ap, sym, ◌∙◌}
use mathlib.Core.Bool.{Bool, true, false, cond}
use mathlib.Core.List.{List, [], ◌∷◌, ◌++◌, map}
use Prim.Native.Nat.{ℕ, ◌+◌}
use lib.Dec.{ltb}
use lib.ListN.{length}
use borrow.Author.Tests.{ltb-true, ltb-false}
use Rattle.rules.specs.Grammar.{Format}
use Rattle.rules.specs.Output.{cost, total, fill, filled}
use Rattle.rules.proofs.Output.FillSteps.{fill_behind, fill_opens}
use Rattle.walks.specs.Marks.{opened_from, blocks_marked, bytes_of}

module _ (f : Format) (opens : ℕ → Bool → ℕ → Bool) where
  -- the open block and further records
  abbrev pub gather : List (List ℕ) → List (Bool × List ℕ) → List (List (List ℕ))
  gather now [] = now ∷ []
  gather now ((begins, r) ∷ more) =
      let here = gather (now ++ (r ∷ [])) more in
      let next = now ∷ gather (r ∷ []) more in
      cond (opens (total (cost f) (cost f) now) begins (length r)) next here

  abbrev pub gathered : List (Bool × List ℕ) → List (List (List ℕ))
  gathered [] = []
  gathered ((begins, r) ∷ more) = gather (r ∷ []) more

  -- ---- the rules' blocks

  -- TF: a block where a mark is
  gather_marked : ((size : ℕ) (begins : Bool) (n : ℕ) → opens size begins n ≡ begins) → (now : List (List ℕ)) (more : List (Bool × List ℕ)) → gather now more ≡ opened_from now more
  gather_marked h now [] = refl
  gather_marked h now ((true, r) ∷ more) = rw (h (total (cost f) (cost f) now) true (length r)) (ap (now ∷◌) (gather_marked h (r ∷ []) more))
  gather_marked h now ((false, r) ∷ more) = rw (h (total (cost f) (cost f) now) false (length r)) (gather_marked h (now ++ (r ∷ [])) more)

  pub gathered_marked : ((size : ℕ) (begins : Bool) (n : ℕ) → opens size begins n ≡ begins) → (marks : List (Bool × List ℕ)) → gathered marks ≡ blocks_marked marks
  gathered_marked h [] = refl
  gathered_marked h ((begins, r) ∷ more) = gather_marked h (r ∷ []) more

  -- TR and TRF: as many records into a block as fit
  module _ (limit : ℕ) (h : (size : ℕ) (begins : Bool) (n : ℕ) → opens size begins n ≡ ltb limit (size + (cost f + n))) where
    gather_fill : (now : List (List ℕ)) (more : List (Bool × List ℕ)) → gather now more ≡ fill limit (cost f) (cost f) now (map bytes_of more)
    gather_fill now [] = refl
    gather_fill now ((begins, r) ∷ more) =
        go (gather_fill (now ++ (r ∷ [])) more) (gather_fill (r ∷ []) more) (ltb limit (total (cost f) (cost f) now + (cost f + length r))) refl
      where
        go : gather (now ++ (r ∷ [])) more ≡ fill limit (cost f) (cost f) (now ++ (r ∷ [])) (map bytes_of more)
            → gather (r ∷ []) more ≡ fill limit (cost f) (cost f) (r ∷ []) (map bytes_of more)
            → (q : Bool) → ltb limit (total (cost f) (cost f) now + (cost f + length r)) ≡ q
            → gather now ((begins, r) ∷ more) ≡ fill limit (cost f) (cost f) now (r ∷ map bytes_of more)
        go here next true q =
            ap (λ (t : Bool). cond t (now ∷ gather (r ∷ []) more) (gather (now ++ (r ∷ [])) more)) (h (total (cost f) (cost f) now) begins (length r) ∙ q)
            ∙ ap (now ∷◌) next
            ∙ sym (fill_opens limit (cost f) (cost f) now r (map bytes_of more) (ltb-true limit (total (cost f) (cost f) now + (cost f + length r)) q))
        go here next false q =
            ap (λ (t : Bool). cond t (now ∷ gather (r ∷ []) more) (gather (now ++ (r ∷ [])) more)) (h (total (cost f) (cost f) now) begins (length r) ∙ q)
            ∙ here
            ∙ sym (fill_behind limit (cost f) (cost f) now r (map bytes_of more) (ltb-false limit (total (cost f) (cost f) now + (cost f + length r)) q))

    pub gathered_filled : (marks : List (Bool × List ℕ)) → gathered marks ≡ filled limit (cost f) (cost f) (map bytes_of marks)
    gathered_filled [] = refl
    gathered_filled ((begins, r) ∷ more) = gather_fill (r ∷ []) more
