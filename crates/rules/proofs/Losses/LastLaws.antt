-- The number that is counted along the fields is that of the last one that passes, and 0 where none does: by going along them, with what was counted before.
use mathlib.Core.Path.{◌≡◌, refl, ap, ◌∙◌, subst}
use mathlib.Core.Logic.{◌↔◌}
use mathlib.Core.Bool.{Bool, true, false, cond}
use mathlib.Core.List.{List, [], ◌∷◌, ◌++◌}
use Prim.Native.Nat.{ℕ, suc, ◌+◌}
use native.Mathlib.Omega.{arith}
use lib.ListN.{length}
use Rattle.rules.specs.Places.{All, no_more, also}
use Rattle.rules.specs.Halves.{Field}
use Rattle.rules.specs.Permitted.{reads}
use Rattle.rules.specs.TwinWords.{Reads}
use Rattle.rules.specs.Judge.{writes_at}
use Rattle.rules.specs.JudgeWords.{WritesAt}
use Rattle.rules.specs.Losses.{last_from, last_reader, last_writer, LastSays}
use Rattle.rules.proofs.Base.Tests.{fails}
use Rattle.rules.proofs.Base.AllLaws.{all_head, all_right}
use Rattle.rules.proofs.Twins.ShowsLaws.{reads_words}
use Rattle.rules.proofs.Judge.AgreeBytes.{writes_exactly}

module _ (q : Field → Bool) (Q : Field → Type 0) (exactly : (f : Field) → (q f ≡ true) ↔ Q f) where
  abbrev None : List Field → Type 0
  None fs = All (λ f. Q f → ⊥) fs

  -- n is what comes of x: of fields from number k on none has Q, or n is the number of the last that has
  data Counted (x k : ℕ) (fs : List Field) (n : ℕ) : Type 0 where
    stays : None fs → n ≡ x → Counted x k fs n
    counts : (before : List Field) (f : Field) (after : List Field) → fs ≡ before ++ (f ∷ after) → n ≡ k + length before → Q f → None after → Counted x k fs n

  counted : (x k : ℕ) (fs : List Field) → Counted x k fs (last_from q x k fs)
  counted x k [] = stays no_more refl
  counted x k (f ∷ fs) = go (q f) refl (counted (cond (q f) k x) (suc k) fs)
    where
      go : (t : Bool) → q f ≡ t → Counted (cond (q f) k x) (suc k) fs (last_from q x k (f ∷ fs)) → Counted x k (f ∷ fs) (last_from q x k (f ∷ fs))
      go t e (counts before g after s n w none) = counts (f ∷ before) g after (ap (f ∷◌) s) (omega arith) w none
      go true e (stays none n) = counts [] f fs refl (n ∙ rw e (omega arith)) ((exactly f).0 e) none
      go false e (stays none n) = stays (also (fails (q f) (exactly f) e) none) (n ∙ rw e)

  last_says : (fs : List Field) → LastSays Q fs (last_from q 0 1 fs)
  last_says fs = go (last_from q 0 1 fs) (counted 0 1 fs)
    where
      go : (n : ℕ) → Counted 0 1 fs n → LastSays Q fs n
      go n (stays none e) = record { none = (λ z. none, λ a. e); last = λ d. absurd (d e) }
      go n (counts before f after s e w none) =
          record {
            none = (λ z. absurd (omega arith), λ a. absurd (all_head (all_right before (f ∷ after) (subst None s a)) w));
            last = λ d. (before, f, after, s, omega arith, w, none);
          }

-- the last field that reads a half
pub last_reader_says : (h : ℕ) (fs : List Field) → LastSays (λ f. Reads f h) fs (last_reader h fs)
unfolding last_reader
last_reader_says h fs = last_says (λ f. reads f h) (λ f. Reads f h) (λ f. reads_words f h) fs

-- the last that writes a position
pub last_writer_says : (i : ℕ) (fs : List Field) → LastSays (WritesAt i) fs (last_writer i fs)
unfolding last_writer
last_writer_says i fs = last_says (writes_at i) (WritesAt i) (writes_exactly i) fs
