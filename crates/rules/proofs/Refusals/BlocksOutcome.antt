-- Refusals 12 and 13: the first block that breaks its rule, and the first record taken with a half that is not permitted; where no block breaks its rule, the
-- records read are those that the blocks hold, and these are the only ones. By going along the blocks, the records and the halves.
use mathlib.Core.Path.{◌≡◌, refl, sym, ◌∙◌, subst}
use mathlib.Core.Bool.{Bool, true, false, and-false, true≢false}
use mathlib.Core.List.{List, [], ◌∷◌}
use mathlib.Core.Option.{Option, none, some, none-ne-some}
use Prim.Native.Nat.{ℕ, zero, suc, ◌+◌, ◌-◌, ◌≤◌, ◌<◌}
use native.Mathlib.Nat.{not-suc-le-zero, zero-add, add-zero}
use native.Mathlib.Omega.{arith}
use lib.ListN.{length, take, drop, get_or}
use Rattle.rules.specs.Base.{joined}
use Rattle.rules.specs.Answer.{fine, each}
use Rattle.rules.specs.Places.{All, Byte, Found}
use Rattle.rules.specs.Halves.{halves}
use Rattle.rules.specs.Reel.{is_reel, blocks_of}
use Rattle.rules.specs.Plan.{Plan, selects, record_length, allowed}
use Rattle.rules.specs.Blocks.{records_in, records_from, taken_from}
use Rattle.rules.specs.Output.{may_be, permits}
use Rattle.rules.specs.RunRows.{GoodBlock, BadBlock, Holds, Gives, Unpermitted}
use Rattle.rules.specs.Accepted.{Accepted}
use Rattle.rules.proofs.Refusals.AnswerLaws.{reads_fine}
use Rattle.rules.proofs.Reel.ReelLaws.{all_blocks, reel_blocks, reel_of_lem}
use Rattle.rules.proofs.Blocks.BlockLaws.{block_read, records_exactly, block_once}
use Rattle.rules.proofs.Refusals.Given.{Outcome, outcome_same, each_outcome, reads_outcome, found_low, found_map, found_with}
use Rattle.rules.proofs.Base.FoundLaws.{found_drop, drop_found}
use Rattle.rules.proofs.Base.AllLaws.{both_same, both_with}
use Rattle.rules.proofs.Halves.AllowedWords.{not_allowed}
use Rattle.rules.proofs.Blocks.TakenLaws.{after_joined}

-- ---- refusal 12: a block breaks its rule

module _ (pl : Plan) (ok : Accepted pl) where
  pub blocks_outcome : {bs : List (List ℕ)} → All (All Byte) bs → Outcome 12 (BadBlock pl bs) (records_from pl 1 bs)
  blocks_outcome {bs} all =
      outcome_same 12 _ _ (records_from pl 1 bs)
      (λ p f. found_map (λ b e g. none-ne-some g.0 (sym e ∙ block_read pl ok b g.0 g.1)) f)
      (λ p f. found_with (λ b a n. unread b a n (records_in pl b) refl) all f)
      (reads_outcome 12 (records_in pl) 1 bs)
    where
      unread : (b : List ℕ) → All Byte b → (GoodBlock pl b → ⊥) → (o : Option (List (List ℕ))) → records_in pl b ≡ o → records_in pl b ≡ none
      unread b a n none e = e
      unread b a n (some rs) e = absurd (n (rs, (records_exactly pl ok b a rs).0 e))

  pub holds_of : (i : ℕ) {bs : List (List ℕ)} → All (All Byte) bs → (recs : List (List (List ℕ))) → records_from pl i bs ≡ fine recs → Holds pl bs recs
  holds_of i {bs} all recs e = both_with (λ b rs a d. (records_exactly pl ok b a rs).0 d) all (reads_fine 12 (records_in pl) i bs recs e)

  -- what is read of a reel is what it gives
  abbrev pub reads_give : (s : List ℕ) → All Byte s → is_reel s ≡ true → (recs : List (List (List ℕ))) → records_from pl 1 (blocks_of s) ≡ fine recs → Gives pl s recs
  reads_give s a e recs d = (blocks_of s, reel_of_lem s a e, holds_of 1 (all_blocks s a) recs d)

  -- a reel gives one list of records
  pub gives_same : (s : List ℕ) (xs ys : List (List (List ℕ))) → Gives pl s xs → Gives pl s ys → xs ≡ ys
  gives_same s xs ys (bs, r, h) (bs', r', h') =
      let e : bs' ≡ bs = sym (reel_blocks s bs' r') ∙ reel_blocks s bs r in both_same (block_once pl ok) h (subst (λ (z : List (List ℕ)). Holds pl z ys) e h')

-- ---- the records taken

-- the records taken are those from number `first` on
module _ (P : List ℕ → Type 0) (first : ℕ) (l : 1 ≤ first) (recs : List (List (List ℕ))) where
  pub taken_to : (p : ℕ) → Found P p first (joined (taken_from first recs)) → (first ≤ p) × Found P p 1 (joined recs)
  unfolding taken_from
  taken_to p f =
      let e : first ≡ 1 + (first - 1) = omega arith in (
        found_low f,
        found_drop P (first - 1) 1 p (joined recs) (subst (λ (n : ℕ). Found P p n (drop (first - 1) (joined recs))) e (rw (after_joined (first - 1) recs) at f)),
      )

  pub to_taken : (p : ℕ) → first ≤ p → Found P p 1 (joined recs) → Found P p first (joined (taken_from first recs))
  unfolding taken_from
  to_taken p h f =
      let e : 1 + (first - 1) ≡ first = omega arith in
      rw (after_joined (first - 1) recs)
      (subst (λ (n : ℕ). Found P p n (drop (first - 1) (joined recs))) e (drop_found P (first - 1) 1 p (joined recs) (omega arith) f))

-- ---- refusal 13: a half is not permitted

may_be_none : (q : ℕ → ℕ → Bool) (i : ℕ) (hs : List ℕ) → may_be q i hs ≡ false → (j : ℕ) × (j < length hs) × (q (i + j) (get_or hs j 0) ≡ false)
may_be_none q i [] e = absurd (true≢false e)
may_be_none q i (h ∷ hs) e = go (λ e'. may_be_none q (suc i) hs e') (q i h) refl
  where
    go : (may_be q (suc i) hs ≡ false → (j : ℕ) × (j < length hs) × (q (suc i + j) (get_or hs j 0) ≡ false)) → (t : Bool) → q i h ≡ t
        → (j : ℕ) × (j < length (h ∷ hs)) × (q (i + j) (get_or (h ∷ hs) j 0) ≡ false)
    go ih true t = let w = ih (rw t at e) in (suc w.0, omega (arith, w.1), rw (let z : i + suc w.0 ≡ suc i + w.0 = omega arith in z) w.2)
    go ih false t = (0, omega arith, rw add-zero t)

none_may_be : (q : ℕ → ℕ → Bool) (i : ℕ) (hs : List ℕ) (j : ℕ) → j < length hs → q (i + j) (get_or hs j 0) ≡ false → may_be q i hs ≡ false
none_may_be q i [] j l e = absurd (not-suc-le-zero l)
none_may_be q i (h ∷ hs) zero l e = let e' : q i h ≡ false = rw add-zero at e in rw e'
none_may_be q i (h ∷ hs) (suc j) l e =
    rw (none_may_be q (suc i) hs j (omega arith) (rw (let z : i + suc j ≡ suc i + j = omega arith in z) at e)) (and-false (q i h))

unpermitted_of : (pl : Plan) (r : List ℕ) → permits pl r ≡ false → Unpermitted pl r
unfolding permits
unpermitted_of pl r e = go (selects pl.mode) refl
  where
    go : (t : Bool) → selects pl.mode ≡ t → Unpermitted pl r
    go false t = absurd (true≢false (rw t at e))
    go true t =
        let w = may_be_none (allowed pl) 0 (halves (take (record_length pl.input) r)) (rw t at e) in
        record { select = t; half = w.0; inside = w.1; value = (not_allowed pl _ _).0 (rw zero-add at w.2) }

of_unpermitted : (pl : Plan) (r : List ℕ) → Unpermitted pl r → permits pl r ≡ false
unfolding permits
of_unpermitted pl r u = rw u.select (none_may_be (allowed pl) 0 (halves (take (record_length pl.input) r)) u.half u.inside (rw zero-add ((not_allowed pl _ _).1 u.value)))

pub taken_outcome : (pl : Plan) (recs : List (List (List ℕ))) → 1 ≤ pl.first
    → Outcome 13 (λ p. (pl.first ≤ p) × Found (Unpermitted pl) p 1 (joined recs)) (each 13 (permits pl) pl.first (joined (taken_from pl.first recs)))
taken_outcome pl recs l =
    outcome_same 13 _ _ (each 13 (permits pl) pl.first (joined (taken_from pl.first recs)))
    (λ p f. let w = taken_to (λ r. permits pl r ≡ false) pl.first l recs p f in (w.0, found_map (λ r e. unpermitted_of pl r e) w.1))
    (λ p f. to_taken (λ r. permits pl r ≡ false) pl.first l recs p f.0 (found_map (λ r e. of_unpermitted pl r e) f.1))
    (each_outcome 13 (permits pl) pl.first (joined (taken_from pl.first recs)))
