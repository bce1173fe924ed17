-- The judgement's tests are its words. What is computed goes along two lists in step: so it holds exactly if it holds at each place, and the number is that of
-- the first place where it fails. Where every position is written, records that agree have the same bytes throughout.
use mathlib.Core.Path.{◌≡◌, refl, sym, ◌∙◌, subst}
use mathlib.Core.Logic.{◌↔◌, ◌⊎◌, inl, inr}
use mathlib.Core.Bool.{Bool, true, false, not, ◌||◌, true≢false, false≢true}
use mathlib.Core.List.{List, [], ◌∷◌}
use Prim.Native.Nat.{ℕ, zero, suc, ◌+◌, ◌-◌, ◌≤◌, ◌<◌}
use native.Mathlib.Nat.{not-suc-le-zero}
use native.Mathlib.Omega.{arith}
use lib.Dec.{ltb}
use lib.ListN.{length, get_or}
use lib.Seq.{ext_get_or}
use borrow.Author.Tests.{ltb-true, ltb-false, lt-ltb}
use Rattle.rules.specs.Places.{Some, this, that}
use Rattle.rules.specs.Grammar.{Mode, tc, tf, tr, trf}
use Rattle.rules.specs.Halves.{Field}
use Rattle.rules.specs.Plan.{Plan, selects, record_length}
use Rattle.rules.specs.Judge.{is_filling, writes_at, written_by, is_written, agrees, first_apart}
use Rattle.rules.specs.JudgeWords.{WritesAt, Written, carried, by_field, by_tail, Agree, Stands, AgreeAt}
use Rattle.rules.proofs.Base.Tests.{or_told, or_left, or_right}
use Rattle.rules.proofs.Judge.AgreeBytes.{agree_length, agree_at, at_agree, writes_exactly}

-- ---- the positions that are written

written_told : (i : ℕ) (fs : List Field) → written_by i fs ≡ true → Some (WritesAt i) fs
written_told i [] e = absurd (false≢true e)
written_told i (f ∷ fs) e = go (λ h. written_told i fs h) (or_told (writes_at i f) (written_by i fs) e)
  where
    go : (written_by i fs ≡ true → Some (WritesAt i) fs) → (writes_at i f ≡ true) ⊎ (written_by i fs ≡ true) → Some (WritesAt i) (f ∷ fs)
    go ih (inl t) = this ((writes_exactly i f).0 t)
    go ih (inr t) = that (ih t)

written_of : (i : ℕ) {fs : List Field} → Some (WritesAt i) fs → written_by i fs ≡ true
written_of i (this {x = f} {xs = fs} w) = or_left (writes_at i f) (written_by i fs) ((writes_exactly i f).1 w)
written_of i (that {x = f} {xs = fs} s) = or_right (writes_at i f) (written_by i fs) (written_of i s)

-- of TR and TRF, the one that selects no fields is TR
carries_all : (t : Mode) → is_filling t ≡ true → not (selects t) ≡ true → t ≡ tr
carries_all tc h e = absurd (false≢true h)
carries_all tf h e = absurd (false≢true h)
carries_all tr h e = refl
carries_all trf h e = absurd (false≢true e)

pub written_exactly : (p : Plan) → is_filling p.mode ≡ true → (i : ℕ) → (is_written p i ≡ true) ↔ Written p i
unfolding is_written
written_exactly p h i = (λ e. told (or_told (not (selects p.mode)) _ e), of)
  where
    n : ℕ
    n = record_length p.output

    inner : (ltb n i ≡ true) ⊎ (written_by i p.fields ≡ true) → Written p i
    inner (inl e) = by_tail (ltb-true n i e)
    inner (inr e) = by_field (written_told i p.fields e)

    told : (not (selects p.mode) ≡ true) ⊎ ((ltb n i || written_by i p.fields) ≡ true) → Written p i
    told (inl e) = carried (carries_all p.mode h e)
    told (inr e) = inner (or_told (ltb n i) _ e)

    of : Written p i → (not (selects p.mode) || (ltb n i || written_by i p.fields)) ≡ true
    of (carried e) = or_left (not (selects p.mode)) _ (rw e)
    of (by_field s) = or_right (not (selects p.mode)) _ (or_right (ltb n i) _ (written_of i s))
    of (by_tail l) = or_right (not (selects p.mode)) _ (or_left (ltb n i) _ (lt-ltb n i l))

-- ---- two records

-- the byte at place k, from 0
byte_of : (p : Plan) (ours theirs : List ℕ) → Agree p ours theirs → (k : ℕ) → k < length ours → Written p (1 + k) → get_or theirs k 0 ≡ get_or ours k 0
byte_of p ours theirs a k l w =
    subst (λ (j : ℕ). get_or theirs j 0 ≡ get_or ours j 0) (let z : 1 + k - 1 ≡ k = omega arith in z) (a.bytes (1 + k) (omega arith) (omega arith) w)

pub agree_exactly : (p : Plan) → is_filling p.mode ≡ true → (ours theirs : List ℕ) → (agrees p ours theirs ≡ true) ↔ Agree p ours theirs
unfolding agrees
agree_exactly p h ours theirs = (
  λ e. record {
    lengths = sym (agree_length (is_written p) 1 ours theirs e);
    bytes = λ i l m w. sym (agree_at (is_written p) 1 ours theirs e (i - 1) i (omega arith) (omega arith) ((written_exactly p h i).1 w));
  },
  λ a. at_agree (is_written p) 1 ours theirs (sym a.lengths) (λ j g q l w.
      let z : g ≡ 1 + j = q in
      sym (byte_of p ours theirs a j l ((written_exactly p h (1 + j)).0 (subst (λ (k : ℕ). is_written p k ≡ true) z w)))),
)

pub agrees_self : (p : Plan) (r : List ℕ) → agrees p r r ≡ true
unfolding agrees
agrees_self p r = at_agree (is_written p) 1 r r refl (λ j g q l w. refl)

-- ---- two lists of records

module _ (q : List ℕ → List ℕ → Bool) where
  pub same_all : ((r : List ℕ) → q r r ≡ true) → (rs : List (List ℕ)) (i : ℕ) → first_apart q i rs rs ≡ 0
  same_all h [] i = refl
  same_all h (r ∷ rs) i = rw (h r) (same_all h rs (suc i))

  -- at place k, from 0, stand two of which q holds
  record Meets (outs others : List (List ℕ)) (k : ℕ) : Type 0 where
    pub ours : k < length outs
    pub theirs : k < length others
    pub test : q (get_or outs k []) (get_or others k []) ≡ true

  -- k is the first place, from 0, of which this fails
  record Fails (outs others : List (List ℕ)) (k : ℕ) : Type 0 where
    pub there : (k < length outs) ⊎ (k < length others)
    pub apart : Meets outs others k → ⊥
    pub before : (m : ℕ) → m < k → Meets outs others m

  -- with one more pair in front
  meets_behind : (o t : List ℕ) (outs others : List (List ℕ)) (k : ℕ) → Meets outs others k → Meets (o ∷ outs) (t ∷ others) (suc k)
  meets_behind o t outs others k w = record { ours = omega (arith, w.ours); theirs = omega (arith, w.theirs); test = w.test }

  meets_ahead : (o t : List ℕ) (outs others : List (List ℕ)) (k : ℕ) → Meets (o ∷ outs) (t ∷ others) (suc k) → Meets outs others k
  meets_ahead o t outs others k w = record { ours = omega (arith, w.ours); theirs = omega (arith, w.theirs); test = w.test }

  meets_all : (i : ℕ) (outs others : List (List ℕ)) → 1 ≤ i → first_apart q i outs others ≡ 0 → (k : ℕ) → (k < length outs) ⊎ (k < length others) → Meets outs others k
  meets_all i [] [] l e k (inl s) = absurd (not-suc-le-zero s)
  meets_all i [] [] l e k (inr s) = absurd (not-suc-le-zero s)
  meets_all i [] (t ∷ others) l e k s = absurd (omega (arith, e))
  meets_all i (o ∷ outs) [] l e k s = absurd (omega (arith, e))
  meets_all i (o ∷ outs) (t ∷ others) l e k s = go (λ f j r. meets_all (suc i) outs others (omega arith) f j r) (q o t) refl k s
    where
      less : (j : ℕ) → (suc j < suc (length outs)) ⊎ (suc j < suc (length others)) → (j < length outs) ⊎ (j < length others)
      less j (inl r) = inl (omega arith)
      less j (inr r) = inr (omega arith)

      go : (first_apart q (suc i) outs others ≡ 0 → (j : ℕ) → (j < length outs) ⊎ (j < length others) → Meets outs others j) → (b : Bool) → q o t ≡ b
          → (k : ℕ) → (k < suc (length outs)) ⊎ (k < suc (length others)) → Meets (o ∷ outs) (t ∷ others) k
      go ih false b k s = let f : i ≡ 0 = rw b at e in absurd (omega arith)
      go ih true b zero s = record { ours = omega arith; theirs = omega arith; test = b }
      go ih true b (suc j) s = let f : first_apart q (suc i) outs others ≡ 0 = rw b at e in meets_behind o t outs others j (ih f j (less j s))

  -- the number is 0, or it names the first place that fails
  apart_place : (i : ℕ) (outs others : List (List ℕ))
      → (first_apart q i outs others ≡ 0) ⊎ ((k : ℕ) × (first_apart q i outs others ≡ i + k) × Fails outs others k)
  apart_place i [] [] = inl refl
  apart_place i [] (t ∷ others) =
      inr (0, omega arith, record { there = inr (omega arith); apart = λ w. not-suc-le-zero w.ours; before = λ m l. absurd (not-suc-le-zero l) })
  apart_place i (o ∷ outs) [] =
      inr (0, omega arith, record { there = inl (omega arith); apart = λ w. not-suc-le-zero w.theirs; before = λ m l. absurd (not-suc-le-zero l) })
  apart_place i (o ∷ outs) (t ∷ others) = go (apart_place (suc i) outs others) (q o t) refl
    where
      more : (k : ℕ) → (k < length outs) ⊎ (k < length others) → (suc k < suc (length outs)) ⊎ (suc k < suc (length others))
      more k (inl l) = inl (omega arith)
      more k (inr l) = inr (omega arith)

      upto : (k : ℕ) → q o t ≡ true → Fails outs others k → (m : ℕ) → m < suc k → Meets (o ∷ outs) (t ∷ others) m
      upto k b f zero l = record { ours = omega arith; theirs = omega arith; test = b }
      upto k b f (suc m) l = meets_behind o t outs others m (f.before m (omega arith))

      go : (first_apart q (suc i) outs others ≡ 0) ⊎ ((k : ℕ) × (first_apart q (suc i) outs others ≡ suc i + k) × Fails outs others k)
          → (b : Bool) → q o t ≡ b
          → (first_apart q i (o ∷ outs) (t ∷ others) ≡ 0) ⊎ ((k : ℕ) × (first_apart q i (o ∷ outs) (t ∷ others) ≡ i + k) × Fails (o ∷ outs) (t ∷ others) k)
      go r false b =
          inr (
            0,
            (rw b (let z : i ≡ i + 0 = omega arith in z)),
            record {
              there = inl (omega arith);
              apart = λ w. true≢false (sym w.test ∙ b);
              before = λ m l. absurd (not-suc-le-zero l);
            },
          )
      go (inl e) true b = inl (rw b e)
      go (inr (k, e, f)) true b =
          inr (
            suc k,
            rw b (let z : first_apart q (suc i) outs others ≡ i + suc k = omega (arith, e) in z),
            record {
              there = more k f.there;
              apart = λ w. f.apart (meets_ahead o t outs others k w);
              before = upto k b f;
            },
          )

pub apart_same : (q q' : List ℕ → List ℕ → Bool) → ((o t : List ℕ) → q o t ≡ q' o t) → (i : ℕ) (outs others : List (List ℕ))
    → first_apart q i outs others ≡ first_apart q' i outs others
apart_same q q' h i outs others = λ j. first_apart (λ o t. h o t j) i outs others

-- ---- by a plan: record n, from 1, stands at place n - 1

module _ (p : Plan) (h : is_filling p.mode ≡ true) (outs others : List (List ℕ)) where
  at_told : (n : ℕ) → 1 ≤ n → Meets (agrees p) outs others (n - 1) → AgreeAt p outs others n
  at_told n l w = record { ours = omega (arith, w.ours); theirs = omega (arith, w.theirs); agree = (agree_exactly p h _ _).0 w.test }

  at_of : (k : ℕ) → AgreeAt p outs others (1 + k) → Meets (agrees p) outs others k
  at_of k w =
      record {
        ours = omega (arith, w.ours);
        theirs = omega (arith, w.theirs);
        test = (agree_exactly p h _ _).1 (subst (λ (j : ℕ). Agree p (get_or outs j []) (get_or others j [])) (let z : 1 + k - 1 ≡ k = omega arith in z) w.agree);
      }

  stands_of : (k : ℕ) → (k < length outs) ⊎ (k < length others) → Stands outs others (1 + k)
  stands_of k (inl l) = (omega arith, inl (omega arith))
  stands_of k (inr l) = (omega arith, inr (omega arith))

  stands_told : (n : ℕ) → 1 ≤ n → (n ≤ length outs) ⊎ (n ≤ length others) → (n - 1 < length outs) ⊎ (n - 1 < length others)
  stands_told n l (inl m) = inl (omega arith)
  stands_told n l (inr m) = inr (omega arith)

  pub apart_none : (first_apart (agrees p) 1 outs others ≡ 0) ↔ ((n : ℕ) → Stands outs others n → AgreeAt p outs others n)
  apart_none = (
    λ e n s. at_told n s.0 (meets_all (agrees p) 1 outs others (omega arith) e (n - 1) (stands_told n s.0 s.1)),
    λ all. go all (apart_place (agrees p) 1 outs others),
  )
    where
      go : ((n : ℕ) → Stands outs others n → AgreeAt p outs others n)
          → (first_apart (agrees p) 1 outs others ≡ 0) ⊎ ((k : ℕ) × (first_apart (agrees p) 1 outs others ≡ 1 + k) × Fails (agrees p) outs others k)
          → first_apart (agrees p) 1 outs others ≡ 0
      go all (inl e) = e
      go all (inr (k, e, f)) = absurd (f.apart (at_of k (all (1 + k) (stands_of k f.there))))

  -- the record at the place that fails is the first apart
  first_of : (n k : ℕ) → n ≡ 1 + k → Fails (agrees p) outs others k
      → Stands outs others n × (AgreeAt p outs others n → ⊥) × ((m : ℕ) → 1 ≤ m → m < n → AgreeAt p outs others m)
  first_of n k e f = (
    subst (Stands outs others) (sym e) (stands_of k f.there),
    λ w. f.apart (at_of k (subst (AgreeAt p outs others) e w)),
    λ m l s. at_told m l (f.before (m - 1) (omega arith)),
  )

  pub apart_first : (first_apart (agrees p) 1 outs others ≡ 0 → ⊥)
      → Stands outs others (first_apart (agrees p) 1 outs others)
      × (AgreeAt p outs others (first_apart (agrees p) 1 outs others) → ⊥)
      × ((m : ℕ) → 1 ≤ m → m < first_apart (agrees p) 1 outs others → AgreeAt p outs others m)
  apart_first not0 = go (apart_place (agrees p) 1 outs others)
    where
      go : (first_apart (agrees p) 1 outs others ≡ 0) ⊎ ((k : ℕ) × (first_apart (agrees p) 1 outs others ≡ 1 + k) × Fails (agrees p) outs others k)
          → Stands outs others (first_apart (agrees p) 1 outs others)
          × (AgreeAt p outs others (first_apart (agrees p) 1 outs others) → ⊥)
          × ((m : ℕ) → 1 ≤ m → m < first_apart (agrees p) 1 outs others → AgreeAt p outs others m)
      go (inl e) = absurd (not0 e)
      go (inr (k, e, f)) = first_of (first_apart (agrees p) 1 outs others) k e f

-- ---- where every position is written

up_to : (a b : ℕ) → ((n : ℕ) → 1 ≤ n → n ≤ a → n ≤ b) → a ≤ b
up_to zero b f = omega arith
up_to (suc a) b f = f (suc a) (omega arith) (omega arith)

module _ (p : Plan) (h : is_filling p.mode ≡ true) (each : (i : ℕ) → 1 ≤ i → i ≤ record_length p.output → Written p i) where
  -- past B's n by the tail
  written_each : (i : ℕ) → 1 ≤ i → Written p i
  written_each i l = go (ltb (record_length p.output) i) refl
    where
      go : (b : Bool) → ltb (record_length p.output) i ≡ b → Written p i
      go true b = by_tail (ltb-true (record_length p.output) i b)
      go false b = each i l (ltb-false (record_length p.output) i b)

  agree_same : (ours theirs : List ℕ) → Agree p ours theirs → theirs ≡ ours
  agree_same ours theirs a = ext_get_or 0 theirs ours a.lengths (λ k l. byte_of p ours theirs a k (omega (arith, a.lengths)) (written_each (1 + k) (omega arith)))

  pub just_ours : (outs others : List (List ℕ)) → ((n : ℕ) → Stands outs others n → AgreeAt p outs others n) → others ≡ outs
  just_ours outs others all = ext_get_or [] others outs long at
    where
      less : length others ≤ length outs
      less = up_to (length others) (length outs) (λ n l m. (all n (l, inr m)).ours)

      more : length outs ≤ length others
      more = up_to (length outs) (length others) (λ n l m. (all n (l, inl m)).theirs)

      long : length others ≡ length outs
      long = omega (arith, less, more)

      at : (k : ℕ) → k < length others → get_or others k [] ≡ get_or outs k []
      at k l =
          subst (λ (j : ℕ). get_or others j [] ≡ get_or outs j []) (let z : 1 + k - 1 ≡ k = omega arith in z)
          (agree_same _ _ (all (1 + k) (stands_of p h outs others k (inr l))).agree)
