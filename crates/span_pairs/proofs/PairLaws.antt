-- Two reels in FS walked in step: the first record apart of all is that of those that are left, from this number on. Each turn takes one record off both sides, where the
-- two are the same; where one side has none left, the number is told by the counts.
use mathlib.Core.Path.{◌≡◌, refl, ap, ap₂, sym, ◌∙◌, subst}
use mathlib.Core.Logic.{◌↔◌}
use mathlib.Core.Bool.{Bool, true, false, cond, true≢false}
use mathlib.Core.List.{List, [], ◌∷◌}
use Prim.Native.Nat.{ℕ, zero, suc, ◌+◌, ◌≤◌, ◌<◌, min}
use native.Mathlib.Omega.{arith}
use lib.ListN.{length, drop, get_or, length-drop}
use lib.Seq.{ext_get_or}
use Rattle.rules.specs.Base.{joined}
use Rattle.rules.specs.Judge.{agree_from, first_apart}
use Rattle.rules.proofs.Judge.AgreeBytes.{agree_length, agree_at, at_agree}
use Rattle.segments.specs.declared.Spot.{Spot}
use Rattle.segments.specs.declared.RecordAhead.{RecordAhead}
use Rattle.segments.specs.Promise.{Before, Takeable, SpotTaken, Coming, Comes, Streamed, SameData}
use Rattle.segments.proofs.PromiseLaws.{before_same, same_records}
use Rattle.std.specs.Prelude.{Option, Some, None}
use Rattle.span_pairs.specs.Promise.{BothSpanned, SameTest, number_of, SpannedApartAt}

-- a number that is one more than another is there
some_number : (n m : ℕ) → n + 1 ≡ m → Some (n + 1) ≡ number_of m
some_number n zero e = absurd (omega arith)
some_number n (suc m) e = ap Some e

-- ---- the search

module _ {ours : List ℕ} {passed count : ℕ} {theirs : List ℕ} {others : ℕ} (y : BothSpanned ours passed count theirs others) where
  -- of all pairs of records, those that are left are compared in the same way, from this number on
  pub record Left (at there : Spot) (number : ℕ) : Type 0 where
    pub xs : List (List ℕ)
    pub ys : List (List ℕ)
    pub before : Before y.g ours at xs
    pub before' : Before y.h theirs there ys
    pub counts : number + length xs ≡ count
    pub counts' : number + length ys ≡ others
    pub same : (q : List ℕ → List ℕ → Bool) → SameTest q → first_apart q 1 (drop passed (joined y.recs)) (joined y.recs') ≡ first_apart q (suc number) xs ys

  pub takeable : Takeable ours passed
  takeable = record { g = y.g; recs = y.recs; good = y.good; enough = omega (arith, y.counted) }

  pub takeable' : Takeable theirs 0
  takeable' = record { g = y.h; recs = y.recs'; good = y.good'; enough = omega arith }

  pub left_start : {at there : Spot} → SpotTaken ours passed at → SpotTaken theirs 0 there → Left at there 0
  left_start a b =
      record {
        xs = drop passed (joined y.recs);
        ys = joined y.recs';
        before = a.before y.g y.recs y.good;
        before' = b.before y.h y.recs' y.good';
        counts = omega (arith, length-drop passed (joined y.recs), y.counted);
        counts' = omega (arith, y.counted');
        same = λ q s. refl;
      }

  module _ {at there : Spot} {number : ℕ} (k : Left at there number) where
    -- the next record on each side
    pub record Next : Type 0 where
      pub r : List ℕ
      pub rs : List (List ℕ)
      pub is : k.xs ≡ r ∷ rs
      pub before : Before y.g ours at (r ∷ rs)
      pub r' : List ℕ
      pub rs' : List (List ℕ)
      pub is' : k.ys ≡ r' ∷ rs'
      pub before' : Before y.h theirs there (r' ∷ rs')

    pub next : number < min count others → Next
    next l = go k.xs refl k.ys refl
      where
        go : (xs : List (List ℕ)) → k.xs ≡ xs → (ys : List (List ℕ)) → k.ys ≡ ys → Next
        go [] e ys d = let z : length k.xs ≡ 0 = ap length e in absurd (omega (arith, k.counts))
        go (r ∷ rs) e [] d = let z : length k.ys ≡ 0 = ap length d in absurd (omega (arith, k.counts'))
        go (r ∷ rs) e (r' ∷ rs') d =
            record {
              r = r;
              rs = rs;
              is = e;
              before = subst (Before y.g ours at) e k.before;
              r' = r';
              rs' = rs';
              is' = d;
              before' = subst (Before y.h theirs there) d k.before';
            }

    module _ (n : Next) where
      pub coming : Coming ours at
      coming = record { g = y.g; next = n.r; more = n.rs; before = n.before }

      pub coming' : Coming theirs there
      coming' = record { g = y.h; next = n.r'; more = n.rs'; before = n.before' }

      module _ {a b : RecordAhead} (c : Comes ours at a) (d : Comes theirs there b) where
        size : a.size ≡ length n.r
        size = c.size y.g n.r n.rs n.before

        size' : b.size ≡ length n.r'
        size' = d.size y.h n.r' n.rs' n.before'

        -- records of two lengths are not the same
        pub other_size : (a.size ≡ b.size → ⊥) → n.r ≡ n.r' → ⊥
        other_size o e = o (size ∙ ap length e ∙ sym size')

        module _ (e : a.size ≡ b.size) where
          pub streamed : Streamed ours at a.size × Streamed theirs there a.size
          streamed = before_same n.before n.before' (sym size ∙ e ∙ size') size

          pub same_told : {x : Bool} → SameData ours at theirs there a.size x → (x ≡ true) ↔ (n.r ≡ n.r')
          same_told h = same_records n.before n.before' (sym size ∙ e ∙ size') size h

      -- the pair decides
      turn : (q : List ℕ → List ℕ → Bool) → SameTest q
          → first_apart q 1 (drop passed (joined y.recs)) (joined y.recs') ≡ cond (q n.r n.r') (first_apart q (suc (suc number)) n.rs n.rs') (suc number)
      turn q s = k.same q s ∙ ap₂ (first_apart q (suc number)) n.is n.is'

      -- it is the first apart
      stops : (n.r ≡ n.r' → ⊥) → (q : List ℕ → List ℕ → Bool) → SameTest q → number + 1 ≡ first_apart q 1 (drop passed (joined y.recs)) (joined y.recs')
      stops o q s = go (q n.r n.r') refl
        where
          go : (t : Bool) → q n.r n.r' ≡ t → number + 1 ≡ first_apart q 1 (drop passed (joined y.recs)) (joined y.recs')
          go true t = absurd (o ((s n.r n.r').0 t))
          go false t =
              let z : number + 1 ≡ suc number = omega arith in
              z ∙ sym (turn q s ∙ ap (λ (b : Bool). cond b (first_apart q (suc (suc number)) n.rs n.rs') (suc number)) t)

      -- or they are the same, and others are left
      goes : n.r ≡ n.r' → {a b : RecordAhead} → Comes ours at a → Comes theirs there b → Left a.behind b.behind (number + 1)
      goes e c d =
          let more : suc (length n.rs) ≡ length k.xs = sym (ap length n.is) in
          let more' : suc (length n.rs') ≡ length k.ys = sym (ap length n.is') in
          record {
            xs = n.rs;
            ys = n.rs';
            before = c.behind y.g n.r n.rs n.before;
            before' = d.behind y.h n.r' n.rs' n.before';
            counts = omega (arith, k.counts);
            counts' = omega (arith, k.counts');
            same = λ q s.
                turn q s
                ∙ ap (λ (b : Bool). cond b (first_apart q (suc (suc number)) n.rs n.rs') (suc number)) ((s n.r n.r').1 e)
                ∙ ap (λ (i : ℕ). first_apart q i n.rs n.rs') (let z : suc (suc number) ≡ suc (number + 1) = omega arith in z);
          }

    -- one side has none left, or both
    ends : min count others ≤ number → count ≡ others → (q : List ℕ → List ℕ → Bool) → SameTest q → 0 ≡ first_apart q 1 (drop passed (joined y.recs)) (joined y.recs')
    ends l e q s = sym (k.same q s ∙ none k.xs k.ys (omega (arith, k.counts, k.counts')) (omega (arith, k.counts, k.counts')))
      where
        none : (xs ys : List (List ℕ)) → length xs ≡ 0 → length ys ≡ 0 → first_apart q (suc number) xs ys ≡ 0
        none [] [] a b = refl
        none [] (t ∷ ys) a b = absurd (omega arith)
        none (o ∷ xs) ys a b = absurd (omega arith)

    lacks : min count others ≤ number → (count ≡ others → ⊥) → (q : List ℕ → List ℕ → Bool) → SameTest q → number + 1 ≡ first_apart q 1 (drop passed (joined y.recs)) (joined y.recs')
    lacks l o q s = sym (k.same q s ∙ one k.xs k.ys k.counts k.counts')
      where
        one : (xs ys : List (List ℕ)) → number + length xs ≡ count → number + length ys ≡ others → first_apart q (suc number) xs ys ≡ number + 1
        one [] [] a b = absurd (o (sym a ∙ b))
        one [] (t ∷ ys) a b = omega arith
        one (o ∷ xs) [] a b = omega arith
        one (o ∷ xs) (t ∷ ys) a b = absurd (omega arith)

-- ---- whatever the reels are read as

module _ {ours : List ℕ} {passed count : ℕ} {theirs : List ℕ} {others : ℕ} {at there : Spot} {number : ℕ}
    (k : (y : BothSpanned ours passed count theirs others) → Left y at there number) where
  module _ (l : number < min count others) {a b : RecordAhead} (c : Comes ours at a) (d : Comes theirs there b) where
    pub apart_size : (a.size ≡ b.size → ⊥) → SpannedApartAt ours passed count theirs others (Some (number + 1))
    apart_size o = record { is = λ q s y. let n = next y (k y) l in some_number _ _ (stops y (k y) n (other_size y (k y) n c d o) q s) }

    module _ (e : a.size ≡ b.size) (x : Bool) (h : SameData ours at theirs there a.size x) where
      pub apart_data : x ≡ false → SpannedApartAt ours passed count theirs others (Some (number + 1))
      apart_data f = record { is = λ q s y. let n = next y (k y) l in some_number _ _ (stops y (k y) n (λ w. true≢false (sym ((same_told y (k y) n c d e h).1 w) ∙ f)) q s) }

      pub left_more : x ≡ true → (y : BothSpanned ours passed count theirs others) → Left y a.behind b.behind (number + 1)
      left_more t y = let n = next y (k y) l in goes y (k y) n ((same_told y (k y) n c d e h).0 t) c d

  pub apart_none : min count others ≤ number → count ≡ others → SpannedApartAt ours passed count theirs others None
  apart_none l e = record { is = λ q s y. ap number_of (ends y (k y) l e q s) }

  pub apart_lacks : min count others ≤ number → (count ≡ others → ⊥) → SpannedApartAt ours passed count theirs others (Some (number + 1))
  apart_lacks l o = record { is = λ q s y. some_number _ _ (lacks y (k y) l o q s) }

-- ---- one outcome only

-- there is such a test
abbrev alike : List ℕ → List ℕ → Bool
alike xs ys = agree_from (λ i. true) 1 xs ys

alike_same : SameTest alike
alike_same xs ys = (
  λ e. ext_get_or 0 xs ys (agree_length (λ i. true) 1 xs ys e) (λ j l. agree_at (λ i. true) 1 xs ys e j (suc j) (omega arith) l refl),
  λ e. at_agree (λ i. true) 1 xs ys (ap length e) (λ j g q l w. ap (λ (x : List ℕ). get_or x j 0) e),
)

pub apart_only_one : (ours : List ℕ) (passed count : ℕ) (theirs : List ℕ) (others : ℕ) → BothSpanned ours passed count theirs others → {n m : Option ℕ}
    → SpannedApartAt ours passed count theirs others n → SpannedApartAt ours passed count theirs others m → n ≡ m
apart_only_one ours passed count theirs others y a b = a.is alike alike_same y ∙ sym (b.is alike alike_same y)
