-- The promises, as a caller uses them, and that each allows one outcome only. By what each says of every input: each spot is the one behind so many bytes.
use mathlib.Core.Path.{◌≡◌, ap, sym, ◌∙◌}
use mathlib.Core.Logic.{◌↔◌}
use mathlib.Core.Bool.{Bool, true}
use mathlib.Core.List.{List, ◌∷◌, ◌++◌, map}
use Prim.Native.Nat.{ℕ, ◌≤◌, min}
use native.Mathlib.Omega.{arith}
use lib.ListN.{length, take, length-append}
use lib.Seq.{take_at}
use Rattle.rules.specs.Base.{joined}
use Rattle.rules.specs.Places.{All}
use Rattle.rules.specs.Spanned.{part}
use Rattle.rules.proofs.Halves.PermittedLaws.{same_test}
use Rattle.rules.proofs.Spanned.SpannedFill.{joined_data}
use Rattle.segments.specs.declared.Spot.{Spot}
use Rattle.segments.specs.declared.RecordAhead.{RecordAhead}
use Rattle.segments.specs.Spots.{spot_after}
use Rattle.segments.specs.Promise.{Streams, Before, Takeable, SpotTaken, Coming, Comes, Copyable, Copied, Streamed, SameData}
use Rattle.segments.proofs.StandsLaws.{bytes_none}
use Rattle.segments.proofs.GoodLaws.{stands_parts, streams_few, joins_data}

-- ---- a spot before some records

module _ {g : ℕ} {s : List ℕ} {v : Spot} {rs : List (List ℕ)} (k : Before g s v rs) where
  pub before_streams : Streams g s v (joined rs)
  before_streams =
      record { segments = k.segments; stands = k.stands; is = sym (ap (◌++ joined (map part k.segments)) (bytes_none s v k.nothing) ∙ joins_data k.joins) }

  -- each has a byte or more, and at most 32,752; and all together at most 65,536
  pub before_some : All (λ r. 1 ≤ length r) rs
  before_some = joined_data k.joins (stands_parts k.stands)

  pub before_short : All (λ r. length r ≤ 32752) rs
  before_short = k.most

  pub before_few : length (joined rs) ≤ 65536
  before_few = streams_few before_streams

-- ---- spots before two records of one length

first_enough : (r : List ℕ) (rs : List (List ℕ)) {n : ℕ} → n ≡ length r → n ≤ length (joined (r ∷ rs))
first_enough r rs e = omega (arith, length-append r (joined rs))

module _ {g h : ℕ} {s t : List ℕ} {v u : Spot} {r r' : List ℕ} {rs rs' : List (List ℕ)} (a : Before g s v (r ∷ rs)) (b : Before h t u (r' ∷ rs')) {n : ℕ}
    (same : length r ≡ length r') (size : n ≡ length r) where
  -- the data of both is there
  pub before_same : Streamed s v n × Streamed t u n
  before_same = (
    record { g = g; «data» = joined (r ∷ rs); streams = before_streams a; enough = first_enough r rs size },
    record { g = h; «data» = joined (r' ∷ rs'); streams = before_streams b; enough = first_enough r' rs' (size ∙ same) },
  )

  -- and what is said of the data is said of the records
  pub same_records : {x : Bool} → SameData s v t u n x → (x ≡ true) ↔ (r ≡ r')
  same_records k =
      let d = k.is g h (joined (r ∷ rs)) (joined (r' ∷ rs')) (before_streams a) (first_enough r rs size) (before_streams b) (first_enough r' rs' (size ∙ same)) in
      let p : take n (joined (r ∷ rs)) ≡ r = take_at r (joined rs) n (sym size) in
      let q : take n (joined (r' ∷ rs')) ≡ r' = take_at r' (joined rs') n (sym (size ∙ same)) in
      (λ e. sym p ∙ d.0 e ∙ q, λ e. d.1 (p ∙ e ∙ sym q))

-- ---- one outcome only

pub taken_only_one : (s : List ℕ) (count : ℕ) → Takeable s count → {x y : Spot} → SpotTaken s count x → SpotTaken s count y → x ≡ y
taken_only_one s count t a b = a.is t.g t.recs t.good ∙ sym (b.is t.g t.recs t.good)

pub ahead_only_one : (s : List ℕ) (v : Spot) → Coming s v → {x y : RecordAhead} → Comes s v x → Comes s v y → x ≡ y
ahead_only_one s v t {x} {y} a b =
    let n : x.size ≡ y.size = a.size t.g t.next t.more t.before ∙ sym (b.size t.g t.next t.more t.before) in
    let w : x.behind ≡ y.behind = a.is ∙ ap (λ (k : ℕ). spot_after s k v) n ∙ sym b.is in
    λ j. record { size = n j; behind = w j }

pub copy_only_one : (s : List ℕ) (v : Spot) (n : ℕ) (old : List ℕ) → Copyable s v n (length old) → {new new' : List ℕ} {x y : Spot}
    → Copied s v n old new x → Copied s v n old new' y → (new ≡ new') × (x ≡ y)
copy_only_one s v n old t a b =
    (a.written t.g t.«data» t.streams t.enough ∙ sym (b.written t.g t.«data» t.streams t.enough), a.is ∙ sym b.is)

pub same_only_one : (s : List ℕ) (v : Spot) (t : List ℕ) (u : Spot) (n : ℕ) → Streamed s v n → Streamed t u n → {x y : Bool}
    → SameData s v t u n x → SameData s v t u n y → x ≡ y
same_only_one s v t u n k m {x} {y} a b =
    let p = a.is k.g m.g k.«data» m.«data» k.streams k.enough m.streams m.enough in
    let q = b.is k.g m.g k.«data» m.«data» k.streams k.enough m.streams m.enough in
    same_test x y (λ e. q.1 (p.0 e)) (λ e. p.1 (q.0 e))

-- of the smaller of two numbers, which `usize::min` of std promises
pub smaller_only_one : (a b : ℕ) {x y : ℕ} → x ≡ min a b → y ≡ min a b → x ≡ y
smaller_only_one a b p q = p ∙ sym q
