-- What an answer says in the words of the rules, for code that goes on from it: a refusal of the blocks is always 12, so each answer is that of one case.
use mathlib.Core.Path.{◌≡◌, refl, ap, sym, ◌∙◌, subst}
use mathlib.Core.Bool.{Bool, true, false}
use mathlib.Core.List.{List, [], ◌∷◌}
use mathlib.Core.Option.{Option, none, some}
use Prim.Native.Nat.{ℕ, suc}
use lib.ListN.{length}
use Rattle.rules.specs.Base.{joined}
use Rattle.rules.specs.Answer.{Answer, Refusal, fine, refuse, refused, refused_at, ◌>>=◌, ◌>>◌, unless}
use Rattle.rules.specs.Reel.{is_reel, blocks_of}
use Rattle.rules.specs.Spanned.{State, segments_in, join_in, onward, spanned_from}
use Rattle.std.specs.Prelude.{Ok, Err}
use Rattle.reels.specs.Records.{ReelRead, answer_of}
use Rattle.reels.specs.declared.ReelError.TheVariants.{NotReel, BadBlock}
use Rattle.reels.proofs.ReelTold.{answer_once}
use Rattle.turns.specs.Promise.{spanned_read, SpannedAs}

-- the number and the column of a refusal
refusal : {A : Type 0} → Answer A → ℕ × ℕ
refusal (fine x) = (12, 0)
refusal (refuse r) = (r.number, r.column)

refused_12 : (g i : ℕ) (now : Option (List ℕ)) (bs : List (List ℕ)) → refusal (spanned_from g i now bs) ≡ (12, 0)
unfolding refusal ◌>>=◌
refused_12 g i none [] = refl
refused_12 g i (some c) [] = refl
refused_12 g i now (b ∷ bs) = go (λ after. refused_12 g (suc i) after bs) (join_in now (segments_in g b))
  where
    later : (x : State) (y : Answer (List (List (List ℕ)))) → refusal y ≡ (12, 0) → refusal (y >>= λ more. fine (x.0 ∷ more)) ≡ (12, 0)
    later x (fine more) e = refl
    later x (refuse r) e = e

    go : ((after : Option (List ℕ)) → refusal (spanned_from g (suc i) after bs) ≡ (12, 0)) → (o : Option State)
        → refusal (onward i o (λ after. spanned_from g (suc i) after bs)) ≡ (12, 0)
    go ih none = refl
    go ih (some x) = later x (spanned_from g (suc i) x.1 bs) (ih x.1)

pub refused_span : (g i : ℕ) (now : Option (List ℕ)) (bs : List (List ℕ)) (r : Refusal) → spanned_from g i now bs ≡ refuse r → spanned_from g i now bs ≡ refused 12 r.place
unfolding refusal
refused_span g i now bs r e =
    let w : ◌≡◌ {A = ℕ × ℕ} (r.number, r.column) (12, 0) = ap refusal (sym e) ∙ refused_12 g i now bs in
    e ∙ (λ j. refused_at (w j).0 r.place (w j).1)

abbrev pub Tells : ℕ → List ℕ → ReelRead → Type 0
Tells g s (Ok x) =
    (is_reel s ≡ true)
    × ((recs : List (List (List ℕ))) × (spanned_from g 1 none (blocks_of s) ≡ fine recs) × (x.blocks ≡ length (blocks_of s)) × (x.records ≡ length (joined recs)))
Tells g s (Err NotReel) = is_reel s ≡ false
Tells g s (Err (BadBlock i)) = (is_reel s ≡ true) × (spanned_from g 1 none (blocks_of s) ≡ refused 12 i)

pub tells : (g : ℕ) (s : List ℕ) (r : ReelRead) → SpannedAs g s r → Tells g s r
unfolding spanned_read unless ◌>>◌ ◌>>=◌
tells g s r w = go (is_reel s) refl (spanned_from g 1 none (blocks_of s)) refl
  where
    told : (x : ReelRead) → spanned_read g s ≡ answer_of x → Tells g s x → Tells g s r
    told x e t = subst (Tells g s) (sym (answer_once r x (w.is ∙ e))) t

    go : (t : Bool) → is_reel s ≡ t → (a : Answer (List (List (List ℕ)))) → spanned_from g 1 none (blocks_of s) ≡ a → Tells g s r
    go false t a e = told (Err NotReel) (rw t) t
    go true t (fine recs) e = told (Ok (record { blocks = length (blocks_of s); records = length (joined recs) })) (rw (t, e)) (t, (recs, e, refl, refl))
    go true t (refuse x) e = let b = refused_span g 1 none (blocks_of s) x e in told (Err (BadBlock x.place)) (rw (t, b)) (t, b)
