-- Refusal 12 in FS: the reader refuses at the first block up to which the blocks are not blocks of segments in turn, or at the last if a record is
-- unfinished; else it refuses nothing. By going along the blocks with what is open.
use mathlib.Core.Path.{◌≡◌, refl, ap, sym, ◌∙◌, subst}
use mathlib.Core.List.{List, [], ◌∷◌, ◌++◌}
use mathlib.Core.Option.{Option, none, some, none-ne-some, some-injective}
use Prim.Native.Nat.{ℕ, suc, ◌+◌, ◌<◌}
use native.Mathlib.Omega.{arith}
use lib.ListN.{length}
use Rattle.rules.specs.Base.{joined}
use Rattle.rules.specs.Places.{All, no_more, also, Byte}
use Rattle.rules.specs.Places.{Both, none_left, both}
use Rattle.rules.specs.Spanned.{Segment, State, segments_in, join_from, finish, spanned_from, SpanIs, Turns, no_turn, InTurn, BadSpan}
use Rattle.rules.proofs.Refusals.Given.{Outcome, outcome_same, outcome_bind}
use Rattle.rules.proofs.Base.FoundLaws.{nil_split}
use Rattle.rules.proofs.Spanned.SpannedBlocks.{span_exactly, span_read, span_once}
use Rattle.rules.proofs.Spanned.SpannedTurns.{read_turns, turns_read, turns_once, turns_append, turns_split}

module _ (g : ℕ) (high : g < 65536) where
  -- ---- a block in turn, and others behind it

  pub turn_cons : {now mid after : Option (List ℕ)} {b : List ℕ} {bs : List (List ℕ)} {ss : List Segment} {rs : List (List ℕ)}
      → SpanIs g b ss → Turns now ss rs mid → InTurn g mid bs after → InTurn g now (b ∷ bs) after
  turn_cons {ss = ss} {rs = rs} v t w = record { segments = ss ∷ w.segments; blocks = both v w.blocks; ended = rs ++ w.ended; turns = turns_append t w.turns }

  none_in : (now : Option (List ℕ)) → InTurn g now [] now
  none_in now = record { segments = []; blocks = none_left; ended = []; turns = no_turn }

  in_none : {now after : Option (List ℕ)} → InTurn g now [] after → after ≡ now
  in_none w = go w.blocks w.turns
    where
      go : {now after : Option (List ℕ)} {sss : List (List Segment)} {ended : List (List ℕ)} → Both (SpanIs g) [] sss → Turns now (joined sss) ended after → after ≡ now
      go none_left no_turn = refl

  pub turn_rest : {now mid after : Option (List ℕ)} {b : List ℕ} {bs : List (List ℕ)} {ss : List Segment} {rs : List (List ℕ)}
      → SpanIs g b ss → Turns now ss rs mid → InTurn g now (b ∷ bs) after → InTurn g mid bs after
  turn_rest {now} {mid} {after} {b} {bs} {ss} {rs} v t w = go w.blocks w.turns
    where
      go : {sss : List (List Segment)} {ended : List (List ℕ)} → Both (SpanIs g) (b ∷ bs) sss → Turns now (joined sss) ended after → InTurn g mid bs after
      go (both {y = ss'} {ys = sss} v' h) u =
          let k = turns_split ss' u in
          let e : ss ≡ ss' = span_once g high b ss ss' v v' in
          let m : mid ≡ k.mid = (turns_once (subst (λ (z : List Segment). Turns now z rs mid) e t) k.first).1 in
          record { segments = sss; blocks = h; ended = k.back; turns = subst (λ (z : Option (List ℕ)). Turns z (joined sss) k.back after) (sym m) k.second }

  -- the first block is one of segments in turn
  first_block : {now after : Option (List ℕ)} {b : List ℕ} {bs : List (List ℕ)} → InTurn g now (b ∷ bs) after
      → (ss : List Segment) × (x : State) × (segments_in g b ≡ some ss) × (join_from now ss ≡ some x)
  first_block {now} {after} {b} {bs} w = go w.blocks w.turns
    where
      go : {sss : List (List Segment)} {ended : List (List ℕ)} → Both (SpanIs g) (b ∷ bs) sss → Turns now (joined sss) ended after
          → (ss : List Segment) × (x : State) × (segments_in g b ≡ some ss) × (join_from now ss ≡ some x)
      go (both {y = ss} v h) u = let k = turns_split ss u in (ss, (k.front, k.mid), span_read g high b ss v, turns_read k.first)

  -- ---- the place

  record SpanFrom (i : ℕ) (now : Option (List ℕ)) (blocks : List (List ℕ)) (p : ℕ) : Type 0 where
    before : List (List ℕ)
    bad : List ℕ
    rest : List (List ℕ)
    split : blocks ≡ before ++ (bad ∷ rest)
    place : p ≡ i + length before
    breaks : (after : Option (List ℕ)) → InTurn g now (before ++ (bad ∷ [])) after → (rest ≡ [] → after ≡ none) → ⊥

  -- the first block, given what follows
  at_first : (i : ℕ) (now : Option (List ℕ)) (b : List ℕ) (bs : List (List ℕ)) → All Byte b
      → ((ss : List Segment) (x : State) → SpanIs g b ss → Turns now ss x.0 x.1 → Outcome 12 (SpanFrom i now (b ∷ bs)) (spanned_from g (suc i) x.1 bs))
      → Outcome 12 (SpanFrom i now (b ∷ bs)) (spanned_from g i now (b ∷ bs))
  at_first i now b bs a rest = go (segments_in g b) refl
    where
      turn : (ss : List Segment) → segments_in g b ≡ some ss → (o : Option State) → join_from now ss ≡ o → Outcome 12 (SpanFrom i now (b ∷ bs)) (spanned_from g i now (b ∷ bs))
      turn ss s none t =
          rw (s, t) (
            refl,
            record {
              before = [];
              bad = b;
              rest = bs;
              split = refl;
              place = omega arith;
              breaks = λ after w z. let k = first_block w in none-ne-some k.1 (sym t ∙ ap (join_from now) (some-injective ss k.0 (sym s ∙ k.2)) ∙ k.3);
            },
            λ q l h. omega (arith, h.place),
          )
      turn ss s (some x) t =
          rw (s, t) (outcome_bind 12 _ (spanned_from g (suc i) x.1 bs) (λ more. x.0 ∷ more) (rest ss x ((span_exactly g high b a ss).0 s) (read_turns now ss x t)))

      go : (o : Option (List Segment)) → segments_in g b ≡ o → Outcome 12 (SpanFrom i now (b ∷ bs)) (spanned_from g i now (b ∷ bs))
      go none s =
          rw s (
            refl,
            record {
              before = [];
              bad = b;
              rest = bs;
              split = refl;
              place = omega arith;
              breaks = λ after w z. let k = first_block w in none-ne-some k.0 (sym s ∙ k.2);
            },
            λ q l h. omega (arith, h.place),
          )
      go (some ss) s = turn ss s (join_from now ss) refl

  -- the last block
  at_last : (i : ℕ) (now : Option (List ℕ)) (b : List ℕ) (ss : List Segment) (rs : List (List ℕ)) (mid : Option (List ℕ)) → SpanIs g b ss → Turns now ss rs mid
      → Outcome 12 (SpanFrom i now (b ∷ [])) (finish (suc i) mid)
  at_last i now b ss rs none v t = λ p h. single h.before h.bad h.rest h.split h.breaks
    where
      single : (x : List (List ℕ)) (c : List ℕ) (y : List (List ℕ)) → b ∷ [] ≡ x ++ (c ∷ y) → ((after : Option (List ℕ)) → InTurn g now (x ++ (c ∷ [])) after → (y ≡ [] → after ≡ none) → ⊥) → ⊥
      single [] c y e n =
          let z : b ≡ c = cc in
          n none (subst (λ (u : List ℕ). InTurn g now (u ∷ []) none) z (turn_cons v t (none_in none))) (λ o. refl)
      single (u ∷ x) c y e n = let z : [] ≡ x ++ (c ∷ y) = cc in nil_split x c y z
  at_last i now b ss rs (some c) v t = (
    refl,
    record {
      before = [];
      bad = b;
      rest = [];
      split = refl;
      place = omega arith;
      breaks = λ after w z. let k = turn_rest v t w in none-ne-some c (sym (z refl) ∙ in_none k);
    },
    λ q l h. omega (arith, h.place),
  )

  -- a fault behind a block in turn is one of the blocks with it, and back
  module _ (i : ℕ) (now mid : Option (List ℕ)) (b c : List ℕ) (bs : List (List ℕ)) (ss : List Segment) (rs : List (List ℕ)) (v : SpanIs g b ss) (t : Turns now ss rs mid) where
    fault_to : (p : ℕ) → SpanFrom (suc i) mid (c ∷ bs) p → SpanFrom i now (b ∷ (c ∷ bs)) p
    fault_to p h =
        record {
          before = b ∷ h.before;
          bad = h.bad;
          rest = h.rest;
          split = ap (b ∷◌) h.split;
          place = omega (arith, h.place);
          breaks = λ after w z. h.breaks after (turn_rest v t w) z;
        }

    fault_back : (p : ℕ) (x : List (List ℕ)) (d : List ℕ) (y : List (List ℕ)) → b ∷ (c ∷ bs) ≡ x ++ (d ∷ y) → p ≡ i + length x
        → ((after : Option (List ℕ)) → InTurn g now (x ++ (d ∷ [])) after → (y ≡ [] → after ≡ none) → ⊥) → SpanFrom (suc i) mid (c ∷ bs) p
    fault_back p [] d y e q n =
        let z : b ≡ d = cc in
        let u : c ∷ bs ≡ y = cc in
        absurd (n mid (subst (λ (k : List ℕ). InTurn g now (k ∷ []) mid) z (turn_cons v t (none_in mid))) (λ o. let l : suc (length bs) ≡ 0 = ap length (u ∙ o) in absurd (omega arith)))
    fault_back p (a ∷ x) d y e q n =
        let z : b ≡ a = cc in
        record {
          before = x;
          bad = d;
          rest = y;
          split = cc;
          place = omega arith;
          breaks = λ after w o. n after (subst (λ (k : List ℕ). InTurn g now (k ∷ (x ++ (d ∷ []))) after) z (turn_cons v t w)) o;
        }

  spans_from : (i : ℕ) (now : Option (List ℕ)) (b : List ℕ) {bs : List (List ℕ)} → All Byte b → All (All Byte) bs → Outcome 12 (SpanFrom i now (b ∷ bs)) (spanned_from g i now (b ∷ bs))
  spans_from i now b a no_more = at_first i now b [] a (λ ss x v t. at_last i now b ss x.0 x.1 v t)
  spans_from i now b a (also {x = c} {xs = bs} a' all) =
      at_first i now b (c ∷ bs) a
      (λ ss x v t. outcome_same 12 _ _ (spanned_from g (suc i) x.1 (c ∷ bs)) (fault_to i now x.1 b c bs ss x.0 v t)
      (λ p h. fault_back i now x.1 b c bs ss x.0 v t p h.before h.bad h.rest h.split h.place h.breaks) (spans_from (suc i) x.1 c a' all))

  -- the reader refuses with 12 at the first block that breaks the rule, or no block does
  pub spans_outcome : {bs : List (List ℕ)} → All (All Byte) bs → Outcome 12 (BadSpan g bs) (spanned_from g 1 none bs)
  spans_outcome no_more = λ p h. nil_split h.before h.block h.rest h.split
  spans_outcome (also {x = b} {xs = bs} a all) =
      outcome_same 12 _ _ (spanned_from g 1 none (b ∷ bs))
      (λ p h. record { before = h.before; block = h.bad; rest = h.rest; split = h.split; place = h.place; breaks = h.breaks })
      (λ p h. record { before = h.before; bad = h.block; rest = h.rest; split = h.split; place = h.place; breaks = h.breaks })
      (spans_from 1 none b a all)
