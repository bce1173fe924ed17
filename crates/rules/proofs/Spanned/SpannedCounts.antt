-- Reading with counts alone, for code that holds no record: whether a record is open, and how long it is so far, decide everything but the data. And
-- the records that segments make as a function of the segments left, for code that copies them piece by piece.
use mathlib.Core.Path.{◌≡◌, refl, ap, ap₂, sym, ◌∙◌}
use mathlib.Core.Bool.{Bool, true, false, cond, ◌&&◌, true≢false, false≢true}
use mathlib.Core.List.{List, [], ◌∷◌, ◌++◌}
use mathlib.Core.Option.{Option, none, some, none-ne-some}
use Prim.Native.Nat.{ℕ, suc, ◌+◌, ◌≤◌, ◌<◌}
use native.Mathlib.Omega.{arith}
use lib.Dec.{leb}
use lib.ListN.{length, drop, get_or, length-append, drop_of_length-le}
use lib.Seq.{drop-cons, drop-append-le}
use Rattle.rules.specs.Base.{joined}
use Rattle.rules.specs.Answer.{Answer, fine, refuse, refused, ◌>>=◌}
use Rattle.rules.specs.Spanned.{Segment, segment, is_closed, sofar, same, State, with_record, in_turn, join_from, join_in, segments_in, finish, onward, spanned_from, Joined, no_segment, ending, going}
use Rattle.rules.proofs.Spanned.SpannedSteps.{in_turn_count}
use Rattle.rules.proofs.Spanned.SpannedTurns.{glued}

-- ---- counts

-- how many records ended; whether none is open; how much of one is open
abbrev pub counted : Option State → Option (ℕ × Bool × ℕ)
counted none = none
counted (some x) = some (length x.0, is_closed x.1, length (sofar x.1))

-- alike but for the data
abbrev pub Alike : Option (List ℕ) → Option (List ℕ) → Type 0
Alike now other = (is_closed now ≡ is_closed other) × (length (sofar now) ≡ length (sofar other))

pub turn_alike : (now other : Option (List ℕ)) (b : Bool) (d : List ℕ) → Alike now other → in_turn now b d ≡ in_turn other b d
turn_alike now other b d w =
    in_turn_count now b d ∙ ap₂ (λ (t : Bool) (n : ℕ). same b t && leb (n + length d) 32752) w.0 w.1 ∙ sym (in_turn_count other b d)

ended_alike : (r s : List ℕ) (o : Option State) → counted (with_record r o) ≡ counted (with_record s o)
ended_alike r s none = refl
ended_alike r s (some x) = refl

pub counted_alike : (ss : List Segment) (now other : Option (List ℕ)) → Alike now other → counted (join_from now ss) ≡ counted (join_from other ss)
counted_alike [] now other w = ap₂ (λ (t : Bool) (n : ℕ). some (0, t, n)) w.0 w.1
counted_alike (segment b e d ∷ ss) now other w =
    rw (turn_alike now other b d w)
    (go (in_turn other b d) e (counted_alike ss (some (sofar now ++ d)) (some (sofar other ++ d)) (refl, (let z : length (sofar now ++ d) ≡ length (sofar other ++ d) = omega (arith, length-append (sofar now) d, length-append (sofar other) d, w.1) in z))))
  where
    go : (t e : Bool) → counted (join_from (some (sofar now ++ d)) ss) ≡ counted (join_from (some (sofar other ++ d)) ss)
        → counted (cond t (cond e (with_record (sofar now ++ d) (join_from none ss)) (join_from (some (sofar now ++ d)) ss)) none)
        ≡ counted (cond t (cond e (with_record (sofar other ++ d) (join_from none ss)) (join_from (some (sofar other ++ d)) ss)) none)
    go true true q = ended_alike (sofar now ++ d) (sofar other ++ d) (join_from none ss)
    go true false q = q
    go false e q = refl

-- ---- the records that are left

-- of the first one what is missing
abbrev pub records_left : List Segment → List (List ℕ)
records_left [] = []
records_left (segment b true d ∷ ss) = d ∷ records_left ss
records_left (segment b false d ∷ ss) = glued d (records_left ss)

pub joined_left : {fresh : Bool} {ss : List Segment} {rs : List (List ℕ)} → Joined fresh ss rs → rs ≡ records_left ss
joined_left no_segment = refl
joined_left (ending {d = d} j) = ap (d ∷◌) (joined_left j)
joined_left (going {d = d} j) = ap (glued d) (joined_left j)

-- where some bytes of the first segment are written, the rest of the record is what the rest of the segment makes with those after it
pub left_drop : (b e : Bool) (n : ℕ) (d : List ℕ) (ss : List Segment) (r : List ℕ) (rs : List (List ℕ)) → n ≤ length d → records_left (segment b e d ∷ ss) ≡ r ∷ rs
    → records_left (segment b e (drop n d) ∷ ss) ≡ drop n r ∷ rs
left_drop b true n d ss r rs l q =
    let h : d ≡ r = cc in
    let t : records_left ss ≡ rs = cc in
    ap₂ (λ (x : List ℕ) (y : List (List ℕ)). drop n x ∷ y) h t
left_drop b false n d ss r rs l q = go (records_left ss) refl
  where
    go : (m : List (List ℕ)) → records_left ss ≡ m → records_left (segment b false (drop n d) ∷ ss) ≡ drop n r ∷ rs
    go [] e = let z : [] ≡ r ∷ rs = rw e at q in let y : 0 ≡ suc (length rs) = ap length z in absurd (omega arith)
    go (x ∷ m) e =
        let z : (d ++ x) ∷ m ≡ r ∷ rs = rw e at q in
        let h : d ++ x ≡ r = cc in
        let t : m ≡ rs = cc in
        rw e (ap₂ ◌∷◌ (sym (drop-append-le n d x l) ∙ ap (drop n) h) t)

-- ---- block by block

-- how many records all blocks have
unfoldable pub total_of : Answer (List (List (List ℕ))) → Answer ℕ
total_of (fine recs) = fine (length (joined recs))
total_of (refuse r) = refuse r

abbrev pub plus : ℕ → Answer ℕ → Answer ℕ
plus n (fine m) = fine (n + m)
plus n (refuse r) = refuse r

module _ (g : ℕ) where
  pub blocks_end : (bs : List (List ℕ)) (j : ℕ) (now : Option (List ℕ)) → length bs ≤ j → spanned_from g (suc j) now (drop j bs) ≡ finish (suc j) now
  blocks_end bs j now l = rw (drop_of_length-le bs l)

  pub blocks_step : (bs : List (List ℕ)) (j : ℕ) (now : Option (List ℕ)) → j < length bs
      → spanned_from g (suc j) now (drop j bs) ≡ onward (suc j) (join_in now (segments_in g (get_or bs j []))) (λ after. spanned_from g (suc (suc j)) after (drop (suc j) bs))
  blocks_step bs j now l = rw (drop-cons bs j [] l)

  -- a block that is refused, and one that is not
  pub total_bad : (i : ℕ) (now : Option (List ℕ)) (b : List ℕ) (bs : List (List ℕ)) → join_in now (segments_in g b) ≡ none → total_of (spanned_from g i now (b ∷ bs)) ≡ refused 12 i
  unfolding total_of
  total_bad i now b bs e = rw e

  pub total_good : (i : ℕ) (now : Option (List ℕ)) (b : List ℕ) (bs : List (List ℕ)) (x : State) → join_in now (segments_in g b) ≡ some x
      → total_of (spanned_from g i now (b ∷ bs)) ≡ plus (length x.0) (total_of (spanned_from g (suc i) x.1 bs))
  unfolding total_of ◌>>=◌
  total_good i now b bs x e = rw e (go (spanned_from g (suc i) x.1 bs))
    where
      go : (a : Answer (List (List (List ℕ)))) → total_of (a >>= λ more. fine (x.0 ∷ more)) ≡ plus (length x.0) (total_of a)
      go (fine more) = ap fine (length-append x.0 (joined more))
      go (refuse r) = refl

  -- only the counts of what is open matter
  pub total_alike : (i : ℕ) (bs : List (List ℕ)) (now other : Option (List ℕ)) → Alike now other → total_of (spanned_from g i now bs) ≡ total_of (spanned_from g i other bs)
  unfolding total_of
  total_alike i [] none none w = refl
  total_alike i [] none (some c) w = absurd (true≢false w.0)
  total_alike i [] (some c) none w = absurd (false≢true w.0)
  total_alike i [] (some c) (some d) w = refl
  total_alike i (b ∷ bs) now other w = go (λ after also. total_alike (suc i) bs after also) (segments_in g b) refl
    where
      IH : Type 0
      IH = (after also : Option (List ℕ)) → Alike after also → total_of (spanned_from g (suc i) after bs) ≡ total_of (spanned_from g (suc i) also bs)

      pair : IH → (ss : List Segment) → segments_in g b ≡ some ss → (x y : Option State) → join_from now ss ≡ x → join_from other ss ≡ y → counted x ≡ counted y
          → total_of (spanned_from g i now (b ∷ bs)) ≡ total_of (spanned_from g i other (b ∷ bs))
      pair ih ss s none none e f c = total_bad i now b bs (ap (join_in now) s ∙ e) ∙ sym (total_bad i other b bs (ap (join_in other) s ∙ f))
      pair ih ss s none (some y) e f c = absurd (none-ne-some _ c)
      pair ih ss s (some x) none e f c = absurd (none-ne-some _ (sym c))
      pair ih ss s (some x) (some y) e f c =
          let h : length x.0 ≡ length y.0 = ap first_of c in
          let k : is_closed x.1 ≡ is_closed y.1 = ap second_of c in
          let m : length (sofar x.1) ≡ length (sofar y.1) = ap third_of c in
          total_good i now b bs x (ap (join_in now) s ∙ e) ∙ ap₂ plus h (ih x.1 y.1 (k, m)) ∙ sym (total_good i other b bs y (ap (join_in other) s ∙ f))
        where
          first_of : Option (ℕ × Bool × ℕ) → ℕ
          first_of none = 0
          first_of (some z) = z.0

          second_of : Option (ℕ × Bool × ℕ) → Bool
          second_of none = true
          second_of (some z) = z.1

          third_of : Option (ℕ × Bool × ℕ) → ℕ
          third_of none = 0
          third_of (some z) = z.2

      go : IH → (o : Option (List Segment)) → segments_in g b ≡ o → total_of (spanned_from g i now (b ∷ bs)) ≡ total_of (spanned_from g i other (b ∷ bs))
      go ih none s = total_bad i now b bs (ap (join_in now) s) ∙ sym (total_bad i other b bs (ap (join_in other) s))
      go ih (some ss) s = pair ih ss s (join_from now ss) (join_from other ss) refl refl (counted_alike ss now other w)
