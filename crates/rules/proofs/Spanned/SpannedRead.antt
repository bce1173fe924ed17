-- The reader of FS gives the records that the blocks hold, exactly if there are such, and there is one list of them; and it gives back the records that
-- were filled into blocks.
use mathlib.Core.Path.{◌≡◌, refl, ap, sym, ◌∙◌, subst}
use mathlib.Core.Logic.{◌↔◌}
use mathlib.Core.List.{List, [], ◌∷◌, ◌++◌, map}
use mathlib.Core.Option.{Option, none, some}
use Prim.Native.Nat.{ℕ, suc, ◌≤◌, ◌<◌}
use lib.ListN.{length}
use Rattle.rules.specs.Base.{joined}
use Rattle.rules.specs.Answer.{fine}
use Rattle.rules.specs.Places.{All, no_more, also, Byte}
use Rattle.rules.specs.Places.{Both, none_left, both}
use Rattle.rules.specs.Spanned.{Segment, State, span_of, segments_in, join_from, spanned_from, segmented, Spanned, SpanIs, Spans, Turns, no_turn}
use Rattle.rules.proofs.Base.AllLaws.{all_imply, made_both}
use Rattle.rules.proofs.Refusals.AnswerLaws.{not_fine, fine_same, bind_fine, fine_bind}
use Rattle.rules.proofs.Spanned.SpannedFill.{segmented_spanned}
use Rattle.rules.proofs.Spanned.SpannedBlocks.{span_exactly, span_read, spanned_blocks}
use Rattle.rules.proofs.Spanned.SpannedTurns.{read_turns, turns_read, turns_append, turns_split, turns_exactly}

-- blocks that have segments, by a relation of a block and its segments
module _ (R : List ℕ → List Segment → Type 0) where
  -- the records that end in each block
  pub data Held : Option (List ℕ) → List (List ℕ) → List (List (List ℕ)) → Type 0 where
    no_more_lem : Held none [] []
    one_more : {now mid : Option (List ℕ)} {b : List ℕ} {bs : List (List ℕ)} {ss : List Segment} {rs : List (List ℕ)} {more : List (List (List ℕ))}
        → R b ss → Turns now ss rs mid → Held mid bs more → Held now (b ∷ bs) (rs ∷ more)

  -- what blocks of segments in turn hold, block by block
  spread : {now : Option (List ℕ)} {bs : List (List ℕ)} {sss : List (List Segment)} → Both R bs sss → {rs : List (List ℕ)} → Turns now (joined sss) rs none
      → (recs : List (List (List ℕ))) × Held now bs recs × (joined recs ≡ rs)
  spread none_left no_turn = ([], no_more_lem, refl)
  spread {now = now} (both {y = ss} {ys = ys} v h) w =
      let k = turns_split ss {ts = joined {A = Segment} ys} w in
      let m = spread {now = k.mid} h k.second in
      (k.front ∷ m.0, one_more v k.first m.1, ap (k.front ++◌) m.2 ∙ sym k.is)

  -- and back
  pub gathered : {now : Option (List ℕ)} {bs : List (List ℕ)} {recs : List (List (List ℕ))} → Held now bs recs
      → (sss : List (List Segment)) × Both R bs sss × Turns now (joined sss) (joined recs) none
  gathered no_more_lem = ([], none_left, no_turn)
  gathered (one_more {ss = ss} v t h) = let k = gathered h in (ss ∷ k.0, both v k.1, turns_append t k.2)

-- a relation that says more of blocks of which something is known
held_with : {T : List ℕ → Type 0} {R Q : List ℕ → List Segment → Type 0} → ((b : List ℕ) (ss : List Segment) → T b → R b ss → Q b ss)
    → {now : Option (List ℕ)} {bs : List (List ℕ)} {recs : List (List (List ℕ))} → All T bs → Held R now bs recs → Held Q now bs recs
held_with f no_more no_more_lem = no_more_lem
held_with f (also a all) (one_more v t h) = one_more (f _ _ a v) t (held_with f all h)

module _ (g : ℕ) where
  pub held_spans : {bs : List (List ℕ)} {recs : List (List (List ℕ))} → Held (SpanIs g) none bs recs → Spans g bs (joined recs)
  held_spans {recs = recs} h =
      let k = gathered (SpanIs g) h in
      let j = (turns_exactly (joined k.0) (joined recs)).0 k.2 in
      record { segments = k.0; blocks = k.1; joins = j.0; most = j.1 }

  pub spans_held : {bs : List (List ℕ)} {rs : List (List ℕ)} → Spans g bs rs → (recs : List (List (List ℕ))) × Held (SpanIs g) none bs recs × (joined recs ≡ rs)
  spans_held {rs = rs} w = spread (SpanIs g) w.blocks ((turns_exactly (joined w.segments) rs).1 (w.joins, w.most))

  -- ---- what the reader gives

  -- the segments that it finds in a block
  abbrev pub Reads : List ℕ → List Segment → Type 0
  Reads b ss = segments_in g b ≡ some ss

  pub read_held : (i : ℕ) (now : Option (List ℕ)) (bs : List (List ℕ)) (recs : List (List (List ℕ))) → spanned_from g i now bs ≡ fine recs → Held Reads now bs recs
  read_held i none [] recs e = subst (Held Reads none []) (fine_same [] recs e) no_more_lem
  read_held i (some c) [] recs e = absurd (not_fine _ recs e)
  read_held i now (b ∷ bs) recs e = go (λ mid m f. read_held (suc i) mid bs m f) (segments_in g b) refl
    where
      turn : ((mid : Option (List ℕ)) (m : List (List (List ℕ))) → spanned_from g (suc i) mid bs ≡ fine m → Held Reads mid bs m) → (ss : List Segment) → segments_in g b ≡ some ss
          → (o : Option State) → join_from now ss ≡ o → Held Reads now (b ∷ bs) recs
      turn ih ss s none t = absurd (not_fine _ recs (rw (s, t) at e))
      turn ih ss s (some x) t =
          let w = bind_fine (spanned_from g (suc i) x.1 bs) (λ more. fine (x.0 ∷ more)) recs (rw (s, t) at e) in
          subst (Held Reads now (b ∷ bs)) (fine_same (x.0 ∷ w.0) recs w.2) (one_more s (read_turns now ss x t) (ih x.1 w.0 w.1))

      go : ((mid : Option (List ℕ)) (m : List (List (List ℕ))) → spanned_from g (suc i) mid bs ≡ fine m → Held Reads mid bs m) → (o : Option (List Segment)) → segments_in g b ≡ o
          → Held Reads now (b ∷ bs) recs
      go ih none s = absurd (not_fine _ recs (rw s at e))
      go ih (some ss) s = turn ih ss s (join_from now ss) refl

  module _ (high : g < 65536) where
    pub held_read : (i : ℕ) {now : Option (List ℕ)} {bs : List (List ℕ)} {recs : List (List (List ℕ))} → Held (SpanIs g) now bs recs → spanned_from g i now bs ≡ fine recs
    held_read i no_more_lem = refl
    held_read i (one_more {mid = mid} {b = b} {bs = bs} {ss = ss} {rs = rs} {more = more} v t h) =
        rw (span_read g high b ss v, turns_read t) (fine_bind (spanned_from g (suc i) mid bs) (λ more. fine (rs ∷ more)) more (held_read (suc i) h))

    read_spanned : (i : ℕ) (now : Option (List ℕ)) {bs : List (List ℕ)} → All (All Byte) bs → (recs : List (List (List ℕ))) → spanned_from g i now bs ≡ fine recs → Held (SpanIs g) now bs recs
    read_spanned i now {bs} a recs e = held_with (λ b ss bytes s. (span_exactly g high b bytes ss).0 s) a (read_held i now bs recs e)

    -- the reader gives records exactly if the blocks hold them
    pub spans_exactly : {bs : List (List ℕ)} → All (All Byte) bs → (rs : List (List ℕ))
        → ((recs : List (List (List ℕ))) × (spanned_from g 1 none bs ≡ fine recs) × (joined recs ≡ rs)) ↔ Spans g bs rs
    spans_exactly {bs} a rs = (
      λ w. subst (Spans g bs) w.2 (held_spans (read_spanned 1 none a w.0 w.1)),
      λ w. let k = spans_held w in (k.0, held_read 1 k.1, k.2),
    )

    -- there is one list of them
    pub spans_once : (bs : List (List ℕ)) (rs rs' : List (List ℕ)) → Spans g bs rs → Spans g bs rs' → rs ≡ rs'
    spans_once bs rs rs' w v =
        let k = spans_held w in
        let m = spans_held v in
        sym k.2 ∙ ap joined (fine_same k.0 m.0 (sym (held_read 1 k.1) ∙ held_read 1 m.1)) ∙ m.2

    -- ---- reading back

    -- any filling of records of at most 32,752 bytes holds them
    pub spanned_spans : 9 ≤ g → {bs : List (List Segment)} {rs : List (List ℕ)} → Spanned g bs rs → All (λ r. length r ≤ 32752) rs → Spans g (map span_of bs) rs
    spanned_spans low {bs} w a = record { segments = bs; blocks = made_both span_of (spanned_blocks g low w); joins = w.joins; most = a }

    -- what was filled is read back
    pub segmented_back : 9 ≤ g → {rs : List (List ℕ)} → All (λ r. (1 ≤ length r) × (length r ≤ 32752)) rs
        → (recs : List (List (List ℕ))) × (spanned_from g 1 none (map span_of (segmented g rs)) ≡ fine recs) × (joined recs ≡ rs)
    segmented_back low a =
        let k = spans_held (spanned_spans low (segmented_spanned g low (all_imply (λ r h. h.0) a)) (all_imply (λ r h. h.1) a)) in
        (k.0, held_read 1 k.1, k.2)
