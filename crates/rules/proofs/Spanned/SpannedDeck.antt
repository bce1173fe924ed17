-- The runs of a deck in FS: which records its plan converts, what a finished run wrote and took, and that 10, 13 and 14 are never answered. What is written is read
-- back since it is a filling, and a filling holds the records that were filled in.
use mathlib.Core.Path.{◌≡◌, refl, ap, sym, ◌∙◌, subst}
use mathlib.Core.Bool.{Bool, true, false, ◌&&◌, true≢false}
use mathlib.Core.List.{List, [], ◌∷◌, ◌++◌}
use mathlib.Core.Option.{none}
use Prim.Native.Nat.{ℕ, ◌+◌, ◌-◌, ◌≤◌, ◌<◌}
use native.Mathlib.Omega.{arith}
use lib.Dec.{ltb}
use lib.ListN.{length, drop}
use borrow.Author.Tests.{lt-ltb, ltb-true}
use Rattle.rules.specs.Base.{joined, every}
use Rattle.rules.specs.Answer.{fine, refused_at}
use Rattle.rules.specs.Places.{All, no_more, also, Byte}
use Rattle.rules.specs.Grammar.{tc}
use Rattle.rules.specs.Plan.{Plan, plan_of, is_tc, is_fs, block_length}
use Rattle.rules.specs.Output.{converts, permits, length_word}
use Rattle.rules.specs.Spanned.{Segment, part, code, coded_word, spelled, span_of, spanned_from, Joined, no_segment, ending, going, Spans}
use Rattle.rules.specs.Taken.{Takes, of_spans}
use Rattle.rules.specs.Reel.{is_reel, blocks_of}
use Rattle.rules.specs.Run.{RunOutput, spanned_run, run_of}
use Rattle.rules.specs.RunRows.{GivesSpanned}
use Rattle.rules.specs.Accepted.{Accepted}
use Rattle.rules.specs.ShortBlocks.{NeverRefused}
use Rattle.rules.proofs.Base.Tests.{and_both, and_left, and_right, within_of, within_low, within_high, all_every, every_all}
use Rattle.rules.proofs.Base.AllLaws.{all_imply, all_drop, all_append, all_left, all_right, both_second, both_with, all_with, all_joined}
use Rattle.rules.proofs.Refusals.AnswerLaws.{fine_unless}
use Rattle.rules.proofs.Reel.ReelLaws.{reel_blocks, reel_is, all_blocks}
use Rattle.rules.proofs.Deck.AcceptedLaws.{accepted}
use Rattle.rules.proofs.Runs.Never.{permits_other}
use Rattle.rules.proofs.Runs.RunParts.{the_span}
use Rattle.rules.proofs.Refusals.RunColumns.{Refuses, refuses_unless, refuses_spans, refuses_fine, refuses_spanned}
use Rattle.rules.proofs.Spanned.SpannedRead.{spans_held, held_read}
use Rattle.rules.proofs.Spanned.SpannedRuns.{FinishedSpan, finished_span, span_input, span_copy, span_back, span_tells, spans_data}
use Rattle.rules.proofs.Spanned.SpannedOut.{low_a, low_b, most_a, most_b, not_selects}

-- the records of blocks of bytes are bytes
spelled_parts : (ss : List Segment) → All Byte (spelled ss) → All (λ s. All Byte (part s)) ss
spelled_parts [] a = no_more
spelled_parts (s ∷ ss) a =
    let c = coded_word (code s) (length (part s) + 4) in
    also {x = s} (all_right c (part s) (all_left (c ++ part s) (spelled ss) a)) (spelled_parts ss (all_right (c ++ part s) (spelled ss) a))

joined_bytes : {fresh : Bool} {ss : List Segment} {rs : List (List ℕ)} → Joined fresh ss rs → All (λ s. All Byte (part s)) ss → All (All Byte) rs
joined_bytes no_segment a = no_more
joined_bytes (ending j) (also h a) = also h (joined_bytes j a)
joined_bytes (going {d = d} j) (also h a) = go (joined_bytes j a)
  where
    go : {r : List ℕ} {rs : List (List ℕ)} → All (All Byte) (r ∷ rs) → All (All Byte) ((d ++ r) ∷ rs)
    go (also k b) = also (all_append h k) b

span_opens : (ss : List Segment) → All Byte (span_of ss) → All Byte (length_word (length (spelled ss) + 4) ++ spelled ss)
unfolding span_of
span_opens ss a = a

pub spans_bytes : (g : ℕ) {bs rs : List (List ℕ)} → All (All Byte) bs → Spans g bs rs → All (All Byte) rs
spans_bytes g a w = joined_bytes w.joins (all_joined (both_second (λ b ss p. p) (both_with (λ b ss h v. span_parts ss (subst (All Byte) v.is h)) a w.blocks)))
  where
    span_parts : (ss : List Segment) → All Byte (span_of ss) → All (λ s. All Byte (part s)) ss
    span_parts ss a = spelled_parts ss (all_right (length_word (length (spelled ss) + 4)) (spelled ss) (span_opens ss a))

-- a reel that gives records is read
pub gives_read : (g : ℕ) → g < 65536 → (s : List ℕ) (rs : List (List ℕ)) → GivesSpanned g s rs
    → (is_reel s ≡ true) × (recs : List (List (List ℕ))) × (spanned_from g 1 none (blocks_of s) ≡ fine recs) × (joined recs ≡ rs)
gives_read g high s rs (bs, r, h) =
    let k = spans_held g (subst (λ (z : List (List ℕ)). Spans g z rs) (sym (reel_blocks s bs r)) h) in
    (reel_is s bs r, k.0, held_read g high 1 k.1, k.2)

module _ (zone : ℕ) (deck : List ℕ) (p : Plan) (e : plan_of zone deck ≡ fine p) (t : is_fs p.format ≡ true) where
  ok : Accepted p
  ok = accepted zone deck p e

  abbrev A : ℕ
  A = block_length p.input

  abbrev B : ℕ
  B = block_length p.output

  pub low : 9 ≤ A
  low = low_a p ok t

  pub low' : 9 ≤ B
  low' = low_b p ok t

  pub high : A < 65536
  high = omega (arith, most_a p ok t)

  pub high' : B < 65536
  high' = omega (arith, most_b p ok t)

  -- ---- which records it converts

  pub converts_any : (r : List ℕ) → All Byte r → 1 ≤ length r → length r ≤ 32752 → converts p r ≡ true
  unfolding converts
  converts_any r a l h =
      and_both (and_both (all_every (λ b. ltb b 256) (all_imply (λ v. lt-ltb v 256) a)) (permits_other p (not_selects p ok t) r)) (rw t (within_of 1 32752 (length r) l h))

  pub any_converts : (r : List ℕ) → converts p r ≡ true → All Byte r × (1 ≤ length r) × (length r ≤ 32752)
  unfolding converts
  any_converts r c =
      let front = and_left (every (λ b. ltb b 256) r && permits p r) _ c in
      let size = rw t at (and_right (every (λ b. ltb b 256) r && permits p r) _ c) in
      (all_imply (λ v. ltb-true v 256) (every_all (λ b. ltb b 256) r (and_left (every (λ b. ltb b 256) r) (permits p r) front)), within_low 1 32752 (length r) size, within_high 1 32752 (length r) size)

  -- ---- a finished run

  abbrev pub Done : ℕ → List ℕ → RunOutput → Type 0
  Done room s x = FinishedSpan (is_tc p.mode) (block_length p.input) (block_length p.output) p.first room s x

  pub done : (room : ℕ) (s : List ℕ) (x : RunOutput) → run_of zone room deck s ≡ fine x → Done room s x
  done room s x d = finished_span (is_tc p.mode) A B p.first room s x (sym (the_span zone room deck s p e t) ∙ d)

  -- what is no refusal of the run in FS is none of the deck's
  never_of : (s : List ℕ) (n room : ℕ) → Refuses (λ r. r.number ≡ n → ⊥) (spanned_run (is_tc p.mode) A B p.first room s) → (q c : ℕ) → run_of zone room deck s ≡ refused_at n q c → ⊥
  never_of s n room w q c d = subst (Refuses (λ r. r.number ≡ n → ⊥)) (sym (the_span zone room deck s p e t) ∙ d) w refl

  pub never_late : (s : List ℕ) (n : ℕ) → 12 < n → n < 15 → NeverRefused zone deck s n
  never_late s n l h room =
      never_of s n room
      (refuses_spanned _ room p s (is_tc p.mode) A B p.first (refuses_unless _ _ 11 0 (λ q z. omega arith)) (refuses_spans _ A 1 none (blocks_of s) (λ q z. omega arith)) (λ q z. omega arith))

  -- a reel that gives records is refused neither with 11 nor with 12
  pub span_never : (s : List ℕ) (rs : List (List ℕ)) → GivesSpanned A s rs → (n : ℕ) → n ≤ 12 → NeverRefused zone deck s n
  span_never s rs g n l room =
      let w = gives_read A high s rs g in
      never_of s n room
      (refuses_spanned _ room p s (is_tc p.mode) A B p.first (refuses_fine _ _ tt (fine_unless (is_reel s) 11 0 w.0)) (refuses_fine _ _ w.1 w.2) (λ q z. omega arith))

  module _ (room : ℕ) (s : List ℕ) (a : All Byte s) (x : RunOutput) where
    -- the records of the reel that was read
    pub input_span : (w : Done room s x) → GivesSpanned (block_length p.input) s (joined w.recs)
    input_span w = span_input A B low high low' high' p.first room s a x (is_tc p.mode) w

    -- TC: the same
    pub copied_span : p.mode ≡ tc → Done room s x → x.reel ≡ s
    copied_span q w = span_copy A B low high low' high' p.first room s a x (subst (λ (c : Bool). FinishedSpan c A B p.first room s x) (ap is_tc q) w)

    -- TR: read under B it gives the records taken
    pub back_span : is_tc p.mode ≡ false → (w : Done room s x) → GivesSpanned (block_length p.output) x.reel (drop (p.first - 1) (joined w.recs))
    back_span q w = go (is_tc p.mode) q w
      where
        go : (c : Bool) → c ≡ false → (w : FinishedSpan c (block_length p.input) (block_length p.output) p.first room s x)
            → GivesSpanned (block_length p.output) x.reel (drop (p.first - 1) (joined w.recs))
        go true q w = absurd (true≢false q)
        go false q w = span_back A B low high low' high' p.first room s a x w

    -- the records taken
    pub taken_span : (w : Done room s x) → Takes p s (drop (p.first - 1) (joined w.recs))
    taken_span w = record { records = joined w.recs; gives = of_spans t (input_span w); from_r = refl }

  -- where two runs write the same reel, the same records were taken
  pub told_span : (room room' : ℕ) (s s' : List ℕ) → All Byte s → All Byte s' → (x x' : RunOutput) (w : Done room s x) (w' : Done room' s' x') → x.reel ≡ x'.reel
      → drop (p.first - 1) (joined w.recs) ≡ drop (p.first - 1) (joined w'.recs)
  told_span room room' s s' a a' x x' w w' q = span_tells A B low high low' high' p.first room room' s s' a a' x x' (is_tc p.mode) w w' q

  pub convert_span : (room : ℕ) (s : List ℕ) → All Byte s → (x : RunOutput) (w : Done room s x) → All (λ r. converts p r ≡ true) (drop (p.first - 1) (joined w.recs))
  convert_span room s a x w =
      let g = input_span room s a x w in
      let b = subst (All (All Byte)) (reel_blocks s g.0 g.1) (all_blocks s a) in
      all_drop (p.first - 1)
      (all_imply (λ r v. converts_any r v.1 v.0.0 v.0.1)
      (all_with (spans_data A B low high low' high' g.0 (joined w.recs) g.2) (spans_bytes A b g.2)))
