-- Segments in turn: the reader takes exactly these, in one way; they follow one another as their lists do; and where nothing is open before and
-- after them they are the segments that make the records. By going along the segments.
use mathlib.Core.Path.{◌≡◌, refl, ap, sym, ◌∙◌, subst}
use mathlib.Core.Logic.{◌↔◌}
use mathlib.Core.Bool.{Bool, true, false, true≢false, false≢true}
use mathlib.Core.List.{List, [], ◌∷◌, ◌++◌, append_assoc}
use mathlib.Core.Option.{Option, none, some, none-ne-some, some-injective}
use Prim.Native.Nat.{ℕ, ◌≤◌}
use native.Mathlib.Omega.{arith}
use lib.ListN.{length, length-append}
use borrow.Author.Tests.{leb-true, le-leb}
use Rattle.rules.specs.Places.{All, no_more, also}
use Rattle.rules.specs.Spanned.{Segment, segment, is_closed, sofar, same, State, with_record, in_turn, join_from, Joined, no_segment, ending, going, Turns, no_turn, end_turn, go_turn}
use Rattle.rules.proofs.Base.Tests.{and_left, and_right, and_both}
use Rattle.rules.proofs.Spanned.SpannedFill.{joined_some, joined_open}

same_true : (a b : Bool) → same a b ≡ true → a ≡ b
same_true true true e = refl
same_true true false e = absurd (false≢true e)
same_true false true e = absurd (false≢true e)
same_true false false e = refl

true_same : (a b : Bool) → a ≡ b → same a b ≡ true
true_same true true e = refl
true_same true false e = absurd (true≢false e)
true_same false true e = absurd (false≢true e)
true_same false false e = refl

pub turn_of : (now : Option (List ℕ)) (b : Bool) (d : List ℕ) → b ≡ is_closed now → length (sofar now ++ d) ≤ 32752 → in_turn now b d ≡ true
unfolding in_turn
turn_of now b d e l = and_both (true_same b (is_closed now) e) (le-leb (length (sofar now ++ d)) 32752 l)

pub of_turn : (now : Option (List ℕ)) (b : Bool) (d : List ℕ) → in_turn now b d ≡ true → (b ≡ is_closed now) × (length (sofar now ++ d) ≤ 32752)
unfolding in_turn
of_turn now b d e =
    (same_true b (is_closed now) (and_left (same b (is_closed now)) _ e), leb-true (length (sofar now ++ d)) 32752 (and_right (same b (is_closed now)) _ e))

-- ---- the reader takes exactly these

with_some : (r : List ℕ) (o : Option State) (x : State) → with_record r o ≡ some x → (y : State) × (o ≡ some y) × (◌≡◌ {A = State} (r ∷ y.0, y.1) x)
with_some r none x e = absurd (none-ne-some x e)
with_some r (some y) x e = (y, refl, some-injective (r ∷ y.0, y.1) x e)

pub read_turns : (now : Option (List ℕ)) (ss : List Segment) (x : State) → join_from now ss ≡ some x → Turns now ss x.0 x.1
read_turns now [] x e = subst (λ (z : State). Turns now [] z.0 z.1) (some-injective _ x e) no_turn
read_turns now (segment b f d ∷ ss) x e = go (λ y. read_turns none ss y) (read_turns (some (sofar now ++ d)) ss x) (in_turn now b d) refl f e
  where
    end_of : (b ≡ is_closed now) × (length (sofar now ++ d) ≤ 32752) → (y : State) → Turns none ss y.0 y.1 → ◌≡◌ {A = State} ((sofar now ++ d) ∷ y.0, y.1) x
        → Turns now (segment b true d ∷ ss) x.0 x.1
    end_of k y v q = subst (λ (z : State). Turns now (segment b true d ∷ ss) z.0 z.1) q (end_turn k.0 k.1 v)

    go : ((y : State) → join_from none ss ≡ some y → Turns none ss y.0 y.1) → (join_from (some (sofar now ++ d)) ss ≡ some x → Turns (some (sofar now ++ d)) ss x.0 x.1)
        → (t : Bool) → in_turn now b d ≡ t → (f : Bool) → join_from now (segment b f d ∷ ss) ≡ some x → Turns now (segment b f d ∷ ss) x.0 x.1
    go ended goes false t f e = absurd (none-ne-some x (rw t at e))
    go ended goes true t true e =
        let w = with_some (sofar now ++ d) (join_from none ss) x (rw t at e) in
        end_of (of_turn now b d t) w.0 (ended w.0 w.1) w.2
    go ended goes true t false e = let k = of_turn now b d t in go_turn k.0 k.1 (goes (rw t at e))

pub turns_read : {now after : Option (List ℕ)} {ss : List Segment} {rs : List (List ℕ)} → Turns now ss rs after → join_from now ss ≡ some (rs, after)
turns_read no_turn = refl
turns_read (end_turn {now = now} {b = b} {d = d} e l w) = rw (turn_of now b d e l, turns_read w)
turns_read (go_turn {now = now} {b = b} {d = d} e l w) = rw (turn_of now b d e l) (turns_read w)

-- in one way
pub turns_once : {now after after' : Option (List ℕ)} {ss : List Segment} {rs rs' : List (List ℕ)} → Turns now ss rs after → Turns now ss rs' after' → (rs ≡ rs') × (after ≡ after')
turns_once {after = after} {after' = after'} {rs = rs} {rs' = rs'} w v =
    let e : ◌≡◌ {A = State} (rs, after) (rs', after') = some-injective _ _ (sym (turns_read w) ∙ turns_read v) in
    (ap (λ (x : State). x.0) e, ap (λ (x : State). x.1) e)

-- ---- one behind the other

pub turns_append : {now mid after : Option (List ℕ)} {ss ts : List Segment} {rs rs' : List (List ℕ)} → Turns now ss rs mid → Turns mid ts rs' after → Turns now (ss ++ ts) (rs ++ rs') after
turns_append no_turn v = v
turns_append (end_turn e l w) v = end_turn e l (turns_append w v)
turns_append (go_turn e l w) v = go_turn e l (turns_append w v)

pub record Split (now : Option (List ℕ)) (ss ts : List Segment) (rs : List (List ℕ)) (after : Option (List ℕ)) : Type 0 where
  pub mid : Option (List ℕ)
  pub front : List (List ℕ)
  pub back : List (List ℕ)
  pub first : Turns now ss front mid
  pub second : Turns mid ts back after
  pub is : rs ≡ front ++ back

pub turns_split : {now after : Option (List ℕ)} (ss : List Segment) {ts : List Segment} {rs : List (List ℕ)} → Turns now (ss ++ ts) rs after → Split now ss ts rs after
turns_split {now} [] {rs = rs} w = record { mid = now; front = []; back = rs; first = no_turn; second = w; is = refl }
turns_split (s ∷ ss) (end_turn {now = now} {d = d} e l w) =
    let k = turns_split ss w in
    record { mid = k.mid; front = (sofar now ++ d) ∷ k.front; back = k.back; first = end_turn e l k.first; second = k.second; is = ap ((sofar now ++ d) ∷◌) k.is }
turns_split (s ∷ ss) (go_turn e l w) =
    let k = turns_split ss w in
    record { mid = k.mid; front = k.front; back = k.back; first = go_turn e l k.first; second = k.second; is = k.is }

-- ---- they make the records

-- the records, where of the first one so much is open and this is missing
abbrev pub glued : List ℕ → List (List ℕ) → List (List ℕ)
glued c [] = []
glued c (r ∷ rs) = (c ++ r) ∷ rs

glued_none : (rs : List (List ℕ)) → glued [] rs ≡ rs
glued_none [] = refl
glued_none (r ∷ rs) = refl

pub joined_turns : (now : Option (List ℕ)) {fresh : Bool} {ss : List Segment} {rs : List (List ℕ)} → Joined fresh ss rs → fresh ≡ is_closed now
    → All (λ r. length r ≤ 32752) (glued (sofar now) rs) → Turns now ss (glued (sofar now) rs) none
joined_turns none no_segment e a = no_turn
joined_turns (some c) no_segment e a = absurd (true≢false e)
joined_turns now (ending {d = d} {ss = ss} {rs = rs} j) e (also h a) =
    end_turn e h (subst (λ (z : List (List ℕ)). Turns none ss z none) (glued_none rs) (joined_turns none j refl (subst (All (λ r. length r ≤ 32752)) (sym (glued_none rs)) a)))
joined_turns now (going {d = d} {ss = ss} {r = r} {rs = rs} j) e (also h a) =
    let q : (sofar now ++ d) ++ r ≡ sofar now ++ (d ++ r) = append_assoc (sofar now) d r in
    let short : length (sofar now ++ d) ≤ 32752 = omega (arith, h, ap length q, length-append (sofar now ++ d) r) in
    let h' : length ((sofar now ++ d) ++ r) ≤ 32752 = rw q h in
    go_turn e short (subst (λ (z : List ℕ). Turns (some (sofar now ++ d)) ss (z ∷ rs) none) q (joined_turns (some (sofar now ++ d)) j refl (also {x = (sofar now ++ d) ++ r} h' a)))

pub record Missing (now : Option (List ℕ)) (ss : List Segment) (rs : List (List ℕ)) : Type 0 where
  pub missing : List (List ℕ)
  pub joins : Joined (is_closed now) ss missing
  pub is : rs ≡ glued (sofar now) missing
  pub most : All (λ r. length r ≤ 32752) rs

pub turns_joined : {now after : Option (List ℕ)} {ss : List Segment} {rs : List (List ℕ)} → Turns now ss rs after → after ≡ none → Missing now ss rs
turns_joined {now} no_turn e = go now e
  where
    go : (now : Option (List ℕ)) → now ≡ none → Missing now [] []
    go none e = record { missing = []; joins = no_segment; is = refl; most = no_more }
    go (some c) e = absurd (none-ne-some c (sym e))
turns_joined (end_turn {now = now} {d = d} {ss = ss} e l w) z =
    let k = turns_joined w z in
    record {
      missing = d ∷ k.missing;
      joins = subst (λ (b : Bool). Joined (is_closed now) (segment b true d ∷ ss) (d ∷ k.missing)) (sym e) (ending k.joins);
      is = ap ((sofar now ++ d) ∷◌) (k.is ∙ glued_none k.missing);
      most = also {x = sofar now ++ d} l k.most;
    }
turns_joined (go_turn {now = now} {b = b} {d = d} {ss = ss} {rs = rs} e l w) z = let k = turns_joined w z in go k.missing k.joins k.is k.most
  where
    go : (m : List (List ℕ)) → Joined false ss m → rs ≡ glued (sofar now ++ d) m → All (λ r. length r ≤ 32752) rs → Missing now (segment b false d ∷ ss) rs
    go [] j q a = absurd (omega (arith, joined_some j (joined_open j)))
    go (r ∷ m) j q a =
        record {
          missing = (d ++ r) ∷ m;
          joins = subst (λ (b : Bool). Joined (is_closed now) (segment b false d ∷ ss) ((d ++ r) ∷ m)) (sym e) (going j);
          is = q ∙ ap (◌∷ m) (append_assoc (sofar now) d r);
          most = a;
        }

-- nothing is open before and after
pub turns_exactly : (ss : List Segment) (rs : List (List ℕ)) → Turns none ss rs none ↔ (Joined true ss rs × All (λ r. length r ≤ 32752) rs)
turns_exactly ss rs = (to, back)
  where
    to : Turns none ss rs none → Joined true ss rs × All (λ r. length r ≤ 32752) rs
    to w = let k = turns_joined w refl in (subst (Joined true ss) (sym (k.is ∙ glued_none k.missing)) k.joins, k.most)

    back : Joined true ss rs × All (λ r. length r ≤ 32752) rs → Turns none ss rs none
    back (j, a) = subst (λ (z : List (List ℕ)). Turns none ss z none) (glued_none rs) (joined_turns none j refl (subst (All (λ r. length r ≤ 32752)) (sym (glued_none rs)) a))
