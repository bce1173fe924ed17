-- The records of the blocks of a reel, block by block, and those of them that are taken, by their places: the records before R are dropped, of
-- each block as many as are left to drop. By going along the blocks.
use mathlib.Core.Path.{◌≡◌, refl, ap, sym, ◌∙◌}
use mathlib.Core.List.{List, [], ◌∷◌, ◌++◌, append_assoc}
use mathlib.Core.Option.{none, some}
use Prim.Native.Nat.{ℕ, zero, suc, ◌-◌}
use native.Mathlib.Omega.{arith}
use lib.ListN.{length, take, drop, get_or, length-append}
use lib.Seq.{drop-nil}
use Rattle.rules.specs.Places.{All, no_more, also}
use Rattle.rules.specs.Base.{joined}
use Rattle.rules.specs.Answer.{Answer, fine, refuse, refused, ◌>>=◌}
use Rattle.rules.specs.Plan.{Plan}
use Rattle.rules.specs.Blocks.{records_in, records_from, taken_after, taken_from}
use Rattle.rules.proofs.Base.Lists.{drop_append}

-- ---- block by block

-- with the records of the blocks so far
abbrev pub after : List (List (List ℕ)) → Answer (List (List (List ℕ))) → Answer (List (List (List ℕ)))
after done x = x >>= λ more. fine (done ++ more)

pub after_none : (x : Answer (List (List (List ℕ)))) → after [] x ≡ x
unfolding ◌>>=◌
after_none (fine bs) = refl
after_none (refuse r) = refl

-- a block that is read goes to those so far
pub blocks_good : (p : Plan) (done : List (List (List ℕ))) (i : ℕ) (b : List ℕ) (bs : List (List ℕ)) (rs : List (List ℕ)) → records_in p b ≡ some rs
    → after done (records_from p i (b ∷ bs)) ≡ after (done ++ (rs ∷ [])) (records_from p (suc i) bs)
unfolding ◌>>=◌
blocks_good p done i b bs rs e = rw e (go (records_from p (suc i) bs))
  where
    go : (x : Answer (List (List (List ℕ)))) → after done (x >>= λ more. fine (rs ∷ more)) ≡ after (done ++ (rs ∷ [])) x
    go (fine more) = ap fine (sym (append_assoc done (rs ∷ []) more))
    go (refuse r) = refl

-- the first that is not read is refused
pub blocks_bad : (p : Plan) (done : List (List (List ℕ))) (i : ℕ) (b : List ℕ) (bs : List (List ℕ)) → records_in p b ≡ none
    → after done (records_from p i (b ∷ bs)) ≡ refused 12 i
unfolding ◌>>=◌
blocks_bad p done i b bs e = rw e

pub blocks_end : (p : Plan) (done : List (List (List ℕ))) (i : ℕ) → after done (records_from p i []) ≡ fine (done ++ [])
unfolding ◌>>=◌
blocks_end p done i = refl

-- ---- the records taken

-- they are all records but the first k
pub after_joined : (k : ℕ) (bs : List (List (List ℕ))) → joined (taken_after k bs) ≡ drop k (joined bs)
after_joined k [] = sym (drop-nil k)
after_joined k (rs ∷ bs) = ap (drop k rs ++◌) (after_joined (k - length rs) bs) ∙ sym (drop_append k rs (joined bs))

-- what holds of the records of a block, and of those that are left of them
pub after_each : {P : List (List ℕ) → Type 0} → ((k : ℕ) (rs : List (List ℕ)) → P rs → P (drop k rs)) → (k : ℕ) {bs : List (List (List ℕ))} → All P bs → All P (taken_after k bs)
after_each f k no_more = no_more
after_each f k (also {x = rs} h a) = also (f k rs h) (after_each f (k - length rs) a)

-- all of them: the records from R on
pub taken_joined : (first : ℕ) (bs : List (List (List ℕ))) → joined (taken_from first bs) ≡ drop (first - 1) (joined bs)
unfolding taken_from
taken_joined first bs = after_joined (first - 1) bs

after_at : (k : ℕ) (bs : List (List (List ℕ))) (i : ℕ) → get_or (taken_after k bs) i [] ≡ drop (k - length (joined (take i bs))) (get_or bs i [])
after_at k [] i = sym (drop-nil (k - length (joined (take i []))))
after_at k (rs ∷ bs) zero = ap (λ (n : ℕ). drop n rs) (let z : k ≡ k - 0 = omega arith in z)
after_at k (rs ∷ bs) (suc i) =
    after_at (k - length rs) bs i
    ∙ ap (λ (n : ℕ). drop n (get_or bs i []))
    (let z : k - length rs - length (joined (take i bs)) ≡ k - length (rs ++ joined (take i bs)) = omega (arith, length-append rs (joined (take i bs))) in z)

-- those of block i: of its records as many are dropped as the blocks before it left to drop
pub taken_at : (first : ℕ) (bs : List (List (List ℕ))) (i : ℕ) → get_or (taken_from first bs) i [] ≡ drop (first - 1 - length (joined (take i bs))) (get_or bs i [])
unfolding taken_from
taken_at first bs i = after_at (first - 1) bs i

after_length : (k : ℕ) (bs : List (List (List ℕ))) → length (taken_after k bs) ≡ length bs
after_length k [] = refl
after_length k (rs ∷ bs) = ap suc (after_length (k - length rs) bs)

-- from R1 on all records are taken
pub after_zero : (bs : List (List (List ℕ))) → taken_after 0 bs ≡ bs
after_zero [] = refl
after_zero (rs ∷ bs) = ap (rs ∷◌) (ap (λ (n : ℕ). taken_after n bs) (let z : 0 - length rs ≡ 0 = omega arith in z) ∙ after_zero bs)

pub taken_first : (bs : List (List (List ℕ))) → taken_from 1 bs ≡ bs
unfolding taken_from
taken_first bs = after_zero bs
