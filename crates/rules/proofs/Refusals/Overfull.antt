-- In TF the test of a record fails exactly if it overfills its block: the output records of those taken up to it, in its block, exceed a block of B. By going
-- along the blocks with how many records came before, and how many are still skipped.
use mathlib.Core.Path.{◌≡◌, refl, ap, ap₂, sym, ◌∙◌, subst}
use mathlib.Core.Logic.{◌⊎◌, inl, inr}
use mathlib.Core.Bool.{false}
use mathlib.Core.List.{List, [], ◌∷◌, ◌++◌, map, append_assoc}
use Prim.Native.Nat.{ℕ, suc, ◌+◌, ◌-◌, ◌≤◌, ◌<◌, min}
use native.Mathlib.Omega.{arith}
use lib.ListN.{length, take, drop, length-append, length-map, length-drop, length-take, take-append-drop}
use lib.Seq.{drop_at, drop-append-le}
use borrow.Author.Tests.{leb-false, lt-leb}
use Rattle.rules.specs.Base.{joined}
use Rattle.rules.specs.Places.{Found, here, later}
use Rattle.rules.specs.Plan.{Plan, block_length}
use Rattle.rules.specs.Blocks.{taken_after, taken_from}
use Rattle.rules.specs.Output.{out_record, total, fits, fits_b, cost}
use Rattle.rules.specs.Run.{fit_behind, fit_together}
use Rattle.rules.specs.RunRows.{Exceeds, Overfills}
use Rattle.rules.proofs.Output.FillLaws.{total_append, total_least}
use Rattle.rules.proofs.Blocks.BlockLaws.{length_block}
use Rattle.rules.proofs.Refusals.Given.{found_nil}
use Rattle.rules.proofs.Base.FoundLaws.{nil_split, found_left, found_right, found_either}

module _ (pl : Plan) where
  -- ---- some records together exceed a block of B

  pub exceeds_of : (rs : List (List ℕ)) → fits_b pl rs ≡ false → Exceeds pl rs
  unfolding fits_b fits
  exceeds_of rs e =
      let limit = block_length pl.output in
      let c = cost pl.format in
      omega (arith, leb-false (total c c rs) limit e, length_block pl.format rs)

  pub of_exceeds : (rs : List (List ℕ)) → Exceeds pl rs → fits_b pl rs ≡ false
  unfolding fits_b fits
  of_exceeds rs e =
      let limit = block_length pl.output in
      let c = cost pl.format in
      lt-leb (total c c rs) limit (omega (arith, length_block pl.format rs))

  pub exceeds_more : (xs ys : List (List ℕ)) → Exceeds pl ys → Exceeds pl (xs ++ ys)
  exceeds_more xs ys e =
      let limit = block_length pl.output in
      let c = cost pl.format in
      omega (arith, length_block pl.format ys, length_block pl.format (xs ++ ys), total_append limit c c xs ys, total_least limit c c xs)

  -- ---- the tests of a block

  abbrev out : List ℕ → List ℕ
  out = out_record pl

  -- the output records of some records together exceed it
  abbrev pub OutExceeds : List (List ℕ) → Type 0
  OutExceeds rs = Exceeds pl (map (out_record pl) rs)

  record Part (i : ℕ) (before b : List (List ℕ)) (p : ℕ) : Type 0 where
    x : List (List ℕ)
    r : List ℕ
    y : List (List ℕ)
    split : b ≡ x ++ (r ∷ y)
    place : p ≡ i + length x
    over : Exceeds pl (before ++ map out (x ++ (r ∷ [])))

  part_of : (i : ℕ) (before b : List (List ℕ)) (p : ℕ) → Found (λ ok. ok ≡ false) p i (fit_behind pl before (map out b)) → Part i before b p
  part_of i before [] p f = absurd (found_nil f)
  part_of i before (a ∷ b) p (here e f) = record { x = []; r = a; y = b; split = refl; place = omega arith; over = exceeds_of (before ++ (out a ∷ [])) f }
  part_of i before (a ∷ b) p (later f) =
      let w = part_of (suc i) (before ++ (out a ∷ [])) b p f in
      record {
        x = a ∷ w.x;
        r = w.r;
        y = w.y;
        split = ap (a ∷◌) w.split;
        place = omega (arith, w.place);
        over = subst (Exceeds pl) (append_assoc before (out a ∷ []) (map out (w.x ++ (w.r ∷ [])))) w.over;
      }

  of_part : (i : ℕ) (before b : List (List ℕ)) (p : ℕ) (x : List (List ℕ)) (r : List ℕ) (y : List (List ℕ)) → b ≡ x ++ (r ∷ y) → p ≡ i + length x
      → Exceeds pl (before ++ map out (x ++ (r ∷ []))) → Found (λ ok. ok ≡ false) p i (fit_behind pl before (map out b))
  of_part i before [] p x r y e q o = absurd (nil_split x r y e)
  of_part i before (a ∷ b) p [] r y e q o =
      let z : r ≡ a = cc in
      let q' : p ≡ i = omega arith in
      here q' (of_exceeds (before ++ (out a ∷ [])) (subst (λ (v : List ℕ). Exceeds pl (before ++ (out v ∷ []))) z o))
  of_part i before (a ∷ b) p (c ∷ x) r y e q o =
      let z : c ≡ a = cc in
      let o' : Exceeds pl (before ++ (out a ∷ map out (x ++ (r ∷ [])))) = subst (λ (v : List ℕ). Exceeds pl (before ++ (out v ∷ map out (x ++ (r ∷ []))))) z o in
      later
      (of_part (suc i) (before ++ (out a ∷ [])) b p x r y (cc) (omega arith)
      (subst (Exceeds pl) (sym (append_assoc before (out a ∷ []) (map out (x ++ (r ∷ []))))) o'))

  length_behind : (before rs : List (List ℕ)) → length (fit_behind pl before rs) ≡ length rs
  length_behind before [] = refl
  length_behind before (r ∷ rs) = ap suc (length_behind (before ++ (r ∷ [])) rs)

  -- ---- the tests of all blocks

  -- the blocks after c records, of which the next k are not taken
  record OverFrom (c k : ℕ) (recs : List (List (List ℕ))) (p : ℕ) : Type 0 where
    earlier : List (List (List ℕ))
    before : List (List ℕ)
    r : List ℕ
    rest : List (List ℕ)
    further : List (List (List ℕ))
    split : recs ≡ earlier ++ ((before ++ (r ∷ rest)) ∷ further)
    place : p ≡ c + length (joined earlier) + length before + 1
    over : Exceeds pl (map out (drop (k - length (joined earlier)) (before ++ (r ∷ []))))

  next_place : (c k n m : ℕ) → m ≡ n - k → c + k + 1 + m ≡ c + n + (k - n) + 1
  next_place c k n m e = omega arith

  abbrev Tests : ℕ → ℕ → List (List (List ℕ)) → Type 0
  Tests p i bs = Found (λ ok. ok ≡ false) p i (fit_together pl (map (map out) bs))

  length_tests : (k : ℕ) (b : List (List ℕ)) → length (fit_behind pl [] (map out (drop k b))) ≡ length b - k
  length_tests k b = length_behind [] (map out (drop k b)) ∙ length-map (drop k b) out ∙ length-drop k b

  over_of : (c k : ℕ) (recs : List (List (List ℕ))) (p : ℕ) → Tests p (c + k + 1) (taken_after k recs) → OverFrom c k recs p
  over_of c k [] p f = absurd (found_nil f)
  over_of c k (b ∷ bs) p f =
      go (λ g. over_of (c + length b) (k - length b) bs p g)
      (found_either (λ ok. ok ≡ false) p (c + k + 1) (fit_behind pl [] (map out (drop k b))) (fit_together pl (map (map out) (taken_after (k - length b) bs))) f)
    where
      go : (Tests p (c + length b + (k - length b) + 1) (taken_after (k - length b) bs) → OverFrom (c + length b) (k - length b) bs p)
          → Found (λ ok. ok ≡ false) p (c + k + 1) (fit_behind pl [] (map out (drop k b)))
          ⊎ Tests p (c + k + 1 + length (fit_behind pl [] (map out (drop k b)))) (taken_after (k - length b) bs)
          → OverFrom c k (b ∷ bs) p
      go ih (inl g) =
          let w = part_of (c + k + 1) [] (drop k b) p g in
          let n = length-drop k b in
          let m : length (drop k b) ≡ length w.x + suc (length w.y) = ap length w.split ∙ length-append w.x (w.r ∷ w.y) in
          let t : length (take k b) ≡ k = length-take k b ∙ (let z : min k (length b) ≡ k = omega arith in z) in
          record {
            earlier = [];
            before = take k b ++ w.x;
            r = w.r;
            rest = w.y;
            further = bs;
            split = ap (◌∷ bs) (sym (take-append-drop k b) ∙ ap (take k b ++◌) w.split ∙ sym (append_assoc (take k b) w.x (w.r ∷ w.y)));
            place = omega (arith, w.place, length-append (take k b) w.x);
            over =
                subst (λ (z : List (List ℕ)). Exceeds pl (map out z))
                (sym (ap₂ drop (let z : k - 0 ≡ k = omega arith in z) (append_assoc (take k b) w.x (w.r ∷ [])) ∙ drop_at (take k b) (w.x ++ (w.r ∷ [])) k t)) w.over;
          }
      go ih (inr g) =
          let w = ih (subst (λ (n : ℕ). Tests p n (taken_after (k - length b) bs)) (next_place c k (length b) _ (length_tests k b)) g) in
          let n = length-append b (joined w.earlier) in
          record {
            earlier = b ∷ w.earlier;
            before = w.before;
            r = w.r;
            rest = w.rest;
            further = w.further;
            split = ap (b ∷◌) w.split;
            place = omega (arith, w.place);
            over =
                subst (λ (z : ℕ). Exceeds pl (map out (drop z (w.before ++ (w.r ∷ [])))))
                (let z : k - length b - length (joined w.earlier) ≡ k - length (b ++ joined w.earlier) = omega arith in z) w.over;
          }

  of_over : (c k : ℕ) (recs : List (List (List ℕ))) (p : ℕ) (earlier : List (List (List ℕ))) (before : List (List ℕ)) (r : List ℕ) (rest : List (List ℕ))
      (further : List (List (List ℕ))) → recs ≡ earlier ++ ((before ++ (r ∷ rest)) ∷ further) → p ≡ c + length (joined earlier) + length before + 1
      → Exceeds pl (map out (drop (k - length (joined earlier)) (before ++ (r ∷ [])))) → c + k < p → Tests p (c + k + 1) (taken_after k recs)
  of_over c k [] p earlier before r rest further e q o t = absurd (nil_split earlier _ further e)
  of_over c k (b ∷ bs) p [] before r rest further e q o t =
      let z : b ≡ before ++ (r ∷ rest) = cc in
      let l : k ≤ length before = omega arith in
      found_left (λ ok. ok ≡ false) (fit_together pl (map (map out) (taken_after (k - length b) bs)))
      (of_part (c + k + 1) [] (drop k b) p (drop k before) r rest (ap (drop k) z ∙ drop-append-le k before (r ∷ rest) l) (omega (arith, length-drop k before))
      (subst (λ (z : List (List ℕ)). Exceeds pl (map out z))
      (ap (λ (n : ℕ). drop n (before ++ (r ∷ []))) (let z : k - 0 ≡ k = omega arith in z) ∙ drop-append-le k before (r ∷ []) l) o))
  of_over c k (b ∷ bs) p (a ∷ earlier) before r rest further e q o t =
      let z : b ≡ a = cc in
      let n : length (a ++ joined earlier) ≡ length b + length (joined earlier)
      = length-append a (joined earlier) ∙ ap (λ (x : List (List ℕ)). length x + length (joined earlier)) (sym z) in
      found_right (λ ok. ok ≡ false) p (c + k + 1) (fit_behind pl [] (map out (drop k b))) (fit_together pl (map (map out) (taken_after (k - length b) bs)))
      (subst (λ (n : ℕ). Tests p n (taken_after (k - length b) bs)) (sym (next_place c k (length b) _ (length_tests k b)))
      (of_over (c + length b) (k - length b) bs p earlier before r rest further (cc) (omega arith)
      (subst (λ (z : ℕ). Exceeds pl (map out (drop z (before ++ (r ∷ [])))))
      (let z : k - length (a ++ joined earlier) ≡ k - length b - length (joined earlier) = omega arith in z) o)
      (omega arith)))

  -- ---- the records taken are those from number R on

  module _ (recs : List (List (List ℕ))) (l : 1 ≤ pl.first) (p : ℕ) where
    start : pl.first ≡ 0 + (pl.first - 1) + 1
    start = omega arith

    pub overfills_of : Tests p pl.first (taken_from pl.first recs) → Overfills pl OutExceeds recs p
    unfolding taken_from
    overfills_of f =
        let w = over_of 0 (pl.first - 1) recs p (subst (λ (n : ℕ). Tests p n (taken_after (pl.first - 1) recs)) start f) in
        record {
          earlier = w.earlier;
          before = w.before;
          r = w.r;
          rest = w.rest;
          further = w.further;
          split = w.split;
          place = omega (arith, w.place);
          over = w.over;
        }

    pub of_overfills : pl.first ≤ p → Overfills pl OutExceeds recs p → Tests p pl.first (taken_from pl.first recs)
    unfolding taken_from
    of_overfills h w =
        subst (λ (n : ℕ). Tests p n (taken_after (pl.first - 1) recs)) (sym start)
        (of_over 0 (pl.first - 1) recs p w.earlier w.before w.r w.rest w.further w.split (omega (arith, w.place)) w.over (omega arith))
