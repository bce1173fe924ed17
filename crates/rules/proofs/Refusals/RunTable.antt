-- The table of refusals of a run: refused with n at p exactly if row n applies at p, at no lower place, and no row of a lower number applies. By following the
-- tests of a run, after those of its plan, with the rows that are already clear; a reel of bytes gives one list of records at most, in FS too.
use mathlib.Core.Path.{◌≡◌, refl, ap, sym, ◌∙◌, subst}
use mathlib.Core.Logic.{◌↔◌, ◌⊎◌, inl, inr}
use mathlib.Core.Bool.{Bool, true, false, ◌&&◌, and-false, true≢false}
use mathlib.Core.List.{List, [], ◌∷◌, map}
use mathlib.Core.Option.{none}
use Prim.Native.Nat.{ℕ, ◌-◌, ◌≤◌, ◌<◌}
use native.Mathlib.Omega.{arith}
use lib.Dec.{leb}
use lib.ListN.{length, drop}
use borrow.Author.Tests.{leb-false, lt-leb}
use Rattle.rules.specs.Base.{joined}
use Rattle.rules.specs.Answer.{fine, refused_at, unless, each}
use Rattle.rules.specs.Places.{All, Byte, Found}
use Rattle.rules.specs.Reel.{is_reel, blocks_of, reel_of}
use Rattle.rules.specs.Grammar.{tf}
use Rattle.rules.specs.Plan.{Plan, is_tc, is_fs, selects, block_length, plan_of}
use Rattle.rules.specs.Blocks.{records_from, taken_from}
use Rattle.rules.specs.Output.{permits, block_of}
use Rattle.rules.specs.Spanned.{spanned_from, Spans, BadSpan}
use Rattle.rules.specs.Run.{fitting, RunOutput, outputs, output_blocks, out_blocks, ran_of, housed, convert, spanned_out, spanned_ran, spanned_run, conversion, run_of}
use Rattle.rules.specs.InWords.{BlocksOut}
use Rattle.rules.specs.Rows.{Asks, ◌⊳◌, Done, GivenBy}
use Rattle.rules.specs.RunRows.{ReelIs, BadBlock, BadIn, Gives, Unpermitted, TooLong, Overfills, RunWrites, in_blocks, in_segments, Row11, Row12, Row13, Row14, Row15, RowRun}
use Rattle.rules.specs.Accepted.{Accepted}
use Rattle.rules.proofs.Refusals.AnswerLaws.{unless_fine}
use Rattle.rules.proofs.Deck.AcceptedLaws.{accepted, zone_of}
use Rattle.rules.proofs.Reel.ReelLaws.{reel_exactly, reel_blocks, reel_of_lem, all_blocks}
use Rattle.rules.proofs.Refusals.Given.{found_nil, unless_outcome, Clear, clear_next, Upto, stage, upto_bind, upto_then, given_exactly, fine_exactly}
use Rattle.rules.proofs.Refusals.BlocksOutcome.{blocks_outcome, holds_of, gives_same, taken_outcome}
use Rattle.rules.proofs.Refusals.FitOutcome.{fit_outcome}
use Rattle.rules.proofs.Runs.RunParts.{gathered}
use Rattle.rules.proofs.Halves.OutputWords.{Whole}
use Rattle.rules.proofs.Output.OutBlockWords.{holds_whole, blocks_told, blocks_once}
use Rattle.rules.proofs.Refusals.FitWords.{long_told, told_long}
use Rattle.rules.proofs.Spanned.SpannedRead.{spans_exactly, spans_once}
use Rattle.rules.proofs.Spanned.SpannedOutcome.{spans_outcome}
use Rattle.rules.proofs.Spanned.SpannedOut.{most_a, not_selects, spans_told, spans_only, none_held}
use Rattle.rules.proofs.Refusals.PlanTable.{upto_plan, plan_asks, asks_once, five_most}
use Rattle.rules.proofs.Base.Tests.{fails, failing}

module _ (zone : ℕ) (half : zone < 16) (deck s : List ℕ) (bytes : All Byte s) (room : ℕ) where
  abbrev Rows : ℕ → ℕ → Type 0
  Rows = RowRun zone deck s room

  module _ (pl : Plan) (e : plan_of zone deck ≡ fine pl) where
    ok : Accepted pl
    ok = accepted zone deck pl e

    asks : Asks zone deck pl
    asks = plan_asks zone deck Done pl e

    same : (pl' : Plan) → Asks zone deck pl' → pl' ≡ pl
    same pl' x = asks_once zone deck Done pl pl' e x

    zoned : pl.zone < 16
    zoned = rw (zone_of zone deck pl e) half

    -- ---- rows 11 and 12

    upto_reel : Clear Rows 11 0 → Upto Rows 12 0 (unless (is_reel s) 11 0)
    upto_reel c =
        stage Rows 11 0 _ (unless (is_reel s) 11 0) (unless_outcome (is_reel s) 11 0) c
        (λ p f. (pl, asks, f.0, λ bs r. fails (is_reel s) (reel_exactly s bytes) f.1 (bs, r)))
        (λ p l r. (r.2, failing (is_reel s) (reel_exactly s bytes) (λ w. r.3 w.0 w.1)))

    -- ---- row 15, of what the run would write

    module _ (blocks : List (List ℕ)) (records : ℕ) (writes : RunWrites pl s blocks records) (only : (bs : List (List ℕ)) (n : ℕ) → RunWrites pl s bs n → bs ≡ blocks)
        (x : RunOutput) (is : x.reel ≡ reel_of blocks) where
      abbrev long : ℕ
      long = length x.reel

      either : (p : ℕ) → p ≡ long → (a b : Bool) → leb long room ≡ a → leb long 65536 ≡ b → (a && b) ≡ false → (room < p) ⊎ (65536 < p)
      either p e false b ea eb f = inl (omega (arith, leb-false long room ea))
      either p e true false ea eb f = inr (omega (arith, leb-false long 65536 eb))
      either p e true true ea eb f = absurd (true≢false f)

      too_long : (p : ℕ) → p ≡ long → (room < p) ⊎ (65536 < p) → (leb long room && leb long 65536) ≡ false
      too_long p e (inl l) = rw (lt-leb long room (omega arith))
      too_long p e (inr l) = rw (lt-leb long 65536 (omega arith)) (and-false (leb long room))

      told : (p : ℕ) → Row15 zone deck s room p → (p ≡ long) × ((leb long room && leb long 65536) ≡ false)
      told p (pl', d, bs, n, w, e, l) =
          let q : p ≡ long = e ∙ ap (λ (z : List (List ℕ)). length (reel_of z)) (only bs n (subst (λ (z : Plan). RunWrites z s bs n) (same pl' d) w)) ∙ sym (ap length is) in
          (q, too_long p q l)

      upto_housed : Clear Rows 15 0 → Upto Rows 16 0 (housed room x)
      unfolding housed
      upto_housed c = upto_then Rows 16 0 16 0 _ _ upto_length (λ e1 c1. c1)
        where
          upto_length : Upto Rows 16 0 (unless (leb long room && leb long 65536) 15 long)
          upto_length =
              stage Rows 15 0 _ (unless (leb long room && leb long 65536) 15 long) (unless_outcome (leb long room && leb long 65536) 15 long) c
              (λ p f. (pl, asks, blocks, records, writes, f.0 ∙ ap length is, either p f.0 (leb long room) (leb long 65536) refl refl f.1))
              (λ p l r. told p r)

    -- ---- in FF, FV and FU

    module _ (other : is_fs pl.format ≡ false) (reel : ReelIs s (blocks_of s)) where
      in_words : {bs : List (List ℕ)} {p : ℕ} → BadIn pl bs p → BadBlock pl bs p
      in_words (inl x) = x.1
      in_words (inr x) = absurd (true≢false (sym x.0 ∙ other))

      upto_blocks : Clear Rows 12 0 → Upto Rows 13 0 (records_from pl 1 (blocks_of s))
      upto_blocks c =
          stage Rows 12 0 _ (records_from pl 1 (blocks_of s)) (blocks_outcome pl ok (all_blocks s bytes)) c (λ p f. (pl, asks, blocks_of s, reel, inl (other, f)))
          (λ p l r.
          subst (λ (z : List (List ℕ)). BadBlock pl z p) (sym (reel_blocks s r.2 r.3))
          (in_words (subst (λ (z : Plan). BadIn z r.2 p) (same r.0 r.1) r.4)))

      -- ---- rows 13 and 14, and what is written

      module _ (recs : List (List (List ℕ))) (h : Gives pl s recs) where
        -- what holds of the plan and the records holds of these
        carry : (T : Plan → List (List (List ℕ)) → Type 0) (pl' : Plan) → Asks zone deck pl' → (recs' : List (List (List ℕ))) → Gives pl' s recs' → T pl' recs'
            → T pl recs
        carry T pl' d recs' h' x =
            let w : Gives pl s recs' × T pl recs' = subst (λ (z : Plan). Gives z s recs' × T z recs') (same pl' d) (h', x) in
            subst (T pl) (gives_same pl ok s recs' recs w.0 h) w.1

        upto_halves : Clear Rows 13 0 → Upto Rows 14 0 (each 13 (permits pl) pl.first (joined (taken_from pl.first recs)))
        upto_halves c =
            stage Rows 13 0 _ (each 13 (permits pl) pl.first (joined (taken_from pl.first recs))) (taken_outcome pl recs ok.first.0) c
            (λ p f. (pl, asks, recs, h, f.0, f.1))
            (λ p l r. carry (λ pl recs. (pl.first ≤ p) × Found (Unpermitted pl) p 1 (joined recs)) r.0 r.1 r.2 r.3 (r.4, r.5))

        -- the records are those of good blocks of bytes
        whole : All (All (Whole pl)) recs
        whole = holds_whole pl ok (subst (All (All Byte)) (reel_blocks s h.0 h.1) (all_blocks s bytes)) h.2

        upto_fits : Clear Rows 14 0 → Upto Rows 15 0 (each 14 (λ holds. holds) pl.first (fitting pl.mode pl (outputs pl recs)))
        upto_fits c =
            stage Rows 14 0 _ (each 14 (λ holds. holds) pl.first (fitting pl.mode pl (outputs pl recs))) (fit_outcome pl recs ok.first.0) c
            (λ p f. let w = long_told pl zoned ok whole p f in (pl, asks, recs, h, w.0, w.1))
            (λ p l r.
            told_long pl zoned ok whole p
            (carry (λ pl recs. (pl.first ≤ p) × (Found (λ r. TooLong pl (r ∷ [])) p 1 (joined recs) ⊎ ((pl.mode ≡ tf) × Overfills pl (TooLong pl) recs p))) r.0 r.1 r.2 r.3 (r.4, r.5)))

        abbrev outs : List (List ℕ)
        outs = map (block_of pl.format) (output_blocks pl recs)

        written : All (λ holds. holds ≡ true) (fitting pl.mode pl (outputs pl recs)) → RunWrites pl s outs (length (joined (output_blocks pl recs)))
        written fit = in_blocks other h (blocks_told pl zoned ok recs whole fit)

        written_once : (bs : List (List ℕ)) (n : ℕ) → RunWrites pl s bs n → bs ≡ outs
        written_once bs n (in_blocks {recs = recs'} {outs = outs'} o g b) =
            ap (map (block_of pl.format)) (blocks_once pl zoned ok recs whole outs' (subst (λ (z : List (List (List ℕ))). BlocksOut pl z outs') (gives_same pl ok s recs' recs g h) b))
        written_once bs n (in_segments o r w b) = absurd (true≢false (sym o ∙ other))

        upto_written : All (λ holds. holds ≡ true) (fitting pl.mode pl (outputs pl recs)) → Clear Rows 15 0 → Upto Rows 16 0 (housed room (ran_of pl (output_blocks pl recs)))
        unfolding ran_of
        upto_written fit c = upto_housed outs (length (joined (output_blocks pl recs))) (written fit) written_once (ran_of pl (output_blocks pl recs)) refl c

    reel_here : unless (is_reel s) 11 0 ≡ fine tt → ReelIs s (blocks_of s)
    reel_here d = reel_of_lem s bytes (unless_fine (is_reel s) 11 0 d)

    gives_here : (reel : ReelIs s (blocks_of s)) (recs : List (List (List ℕ))) → records_from pl 1 (blocks_of s) ≡ fine recs → Gives pl s recs
    gives_here reel recs d = (blocks_of s, reel, holds_of pl ok 1 (all_blocks s bytes) recs d)

    upto_outs : is_fs pl.format ≡ false → Clear Rows 11 0 → Upto Rows 15 0 (out_blocks pl s)
    unfolding out_blocks
    upto_outs other c =
        upto_then Rows 12 0 15 0 _ _ (upto_reel c) (λ e1 c1. let reel = reel_here e1 in
        upto_bind Rows 13 0 15 0 _ _ (upto_blocks other reel c1) (λ recs e2 c2. let h = gives_here reel recs e2 in
        upto_then Rows 14 0 15 0 _ _ (upto_halves other reel recs h c2) (λ e3 c3.
        upto_then Rows 15 0 15 0 _ _ (upto_fits other reel recs h c3) (λ e4 c4. c4))))

    upto_convert : is_fs pl.format ≡ false → Clear Rows 11 0 → Upto Rows 16 0 (convert room pl s)
    unfolding convert
    upto_convert other c =
        upto_bind Rows 15 0 16 0 _ _ (upto_outs other c) (λ blocks d c1. let w = gathered pl s blocks d in
        let reel = reel_of_lem s bytes w.reel in
        subst (λ (z : List (List (List ℕ))). Upto Rows 16 0 (housed room (ran_of pl z))) w.is (upto_written other reel w.recs (gives_here reel w.recs w.reads) w.fit c1))

    -- ---- in FS

    module _ (t : is_fs pl.format ≡ true) where
      abbrev A : ℕ
      A = block_length pl.input

      high : A < 65536
      high = omega (arith, most_a pl ok t)

      -- no row 13 and no row 14: no field selects, and no block has records by itself
      no_13 : (q : ℕ) → Row13 zone deck s room q → ⊥
      no_13 q r =
          let h : Gives pl s r.2 × Found (Unpermitted pl) q 1 (joined r.2)
          = subst (λ (z : Plan). Gives z s r.2 × Found (Unpermitted z) q 1 (joined r.2)) (same r.0 r.1) (r.3, r.5) in
          found_nil (subst (λ (z : List (List (List ℕ))). Found (Unpermitted pl) q 1 (joined z)) (none_held pl ok t h.0.2) h.1)

      no_long : (q : ℕ) (recs : List (List (List ℕ))) → Gives pl s recs × (Found (λ r. TooLong pl (r ∷ [])) q 1 (joined recs) ⊎ ((pl.mode ≡ tf) × Overfills pl (TooLong pl) recs q)) → ⊥
      no_long q recs (g, inl f) = found_nil (subst (λ (z : List (List (List ℕ))). Found (λ r. TooLong pl (r ∷ [])) q 1 (joined z)) (none_held pl ok t g.2) f)
      no_long q recs (g, inr o) = true≢false (sym (ap selects o.0) ∙ not_selects pl ok t)

      no_14 : (q : ℕ) → Row14 zone deck s room q → ⊥
      no_14 q r =
          no_long q r.2
          (subst (λ (z : Plan). Gives z s r.2 × (Found (λ x. TooLong z (x ∷ [])) q 1 (joined r.2) ⊎ ((z.mode ≡ tf) × Overfills z (TooLong z) r.2 q))) (same r.0 r.1) (r.3, r.5))

      clear_15 : Clear Rows 13 0 → Clear Rows 15 0
      clear_15 c = clear_next Rows 14 0 (clear_next Rows 13 0 c (λ q l r. no_13 q r)) (λ q l r. no_14 q r)

      in_spans : {bs : List (List ℕ)} {p : ℕ} → BadIn pl bs p → BadSpan A bs p
      in_spans (inl x) = absurd (true≢false (sym t ∙ x.0))
      in_spans (inr x) = x.1

      module _ (reel : ReelIs s (blocks_of s)) where
        upto_spans : Clear Rows 12 0 → Upto Rows 13 0 (spanned_from A 1 none (blocks_of s))
        upto_spans c =
            stage Rows 12 0 _ (spanned_from A 1 none (blocks_of s)) (spans_outcome A high (all_blocks s bytes)) c (λ p f. (pl, asks, blocks_of s, reel, inr (t, f)))
            (λ p l r.
            subst (λ (z : List (List ℕ)). BadSpan A z p) (sym (reel_blocks s r.2 r.3))
            (in_spans (subst (λ (z : Plan). BadIn z r.2 p) (same r.0 r.1) r.4)))

        module _ (rs : List (List ℕ)) (h : Spans A (blocks_of s) rs) where
          abbrev taken : List (List ℕ)
          taken = drop (pl.first - 1) rs

          abbrev spans : List (List ℕ)
          spans = spanned_out (is_tc pl.mode) (block_length pl.output) (blocks_of s) (drop (pl.first - 1) rs)

          spans_once_written : (bs : List (List ℕ)) (n : ℕ) → RunWrites pl s bs n → bs ≡ spans
          spans_once_written bs n (in_blocks o g b) = absurd (true≢false (sym t ∙ o))
          spans_once_written bs n (in_segments {bs = cs} {rs = rs'} o r w b) =
              let e : cs ≡ blocks_of s = sym (reel_blocks s cs r) in
              let w' : Spans A (blocks_of s) rs' = subst (λ (z : List (List ℕ)). Spans A z rs') e w in
              spans_only pl ok t cs rs' w bs b
              ∙ ap (λ (z : List (List ℕ)). spanned_out (is_tc pl.mode) (block_length pl.output) z (drop (pl.first - 1) rs')) e
              ∙ ap (λ (z : List (List ℕ)). spanned_out (is_tc pl.mode) (block_length pl.output) (blocks_of s) (drop (pl.first - 1) z)) (spans_once A high (blocks_of s) rs' rs w' h)

          upto_filled : Clear Rows 15 0 → Upto Rows 16 0 (housed room (spanned_ran spans taken))
          upto_filled c = upto_housed spans (length taken) (in_segments t reel h (spans_told pl ok t (blocks_of s) rs h)) spans_once_written (spanned_ran spans taken) refl c

      upto_spanned : Clear Rows 11 0 → Upto Rows 16 0 (spanned_run (is_tc pl.mode) A (block_length pl.output) pl.first room s)
      unfolding spanned_run
      upto_spanned c =
          upto_then Rows 12 0 16 0 _ _ (upto_reel c) (λ e1 c1. let reel = reel_here e1 in
          upto_bind Rows 13 0 16 0 _ _ (upto_spans reel c1) (λ recs e2 c2.
          upto_filled reel (joined recs) ((spans_exactly A high (all_blocks s bytes) (joined recs)).0 (recs, e2, refl)) (clear_15 c2)))

    upto_conversion : Clear Rows 11 0 → Upto Rows 16 0 (conversion room pl s)
    unfolding conversion
    upto_conversion c = go (is_fs pl.format) refl
      where
        go : (t : Bool) → is_fs pl.format ≡ t → Upto Rows 16 0 (conversion room pl s)
        go true t = rw t (upto_spanned t c)
        go false t = rw t (upto_convert t c)

  abbrev Further : ℕ → ℕ → Type 0
  Further = Row11 zone deck s room ⊳ Row12 zone deck s room ⊳ Row13 zone deck s room ⊳ Row14 zone deck s room ⊳ Row15 zone deck s room ⊳ Done

  upto_run : Upto Rows 16 0 (run_of zone room deck s)
  unfolding run_of
  upto_run = upto_bind Rows 11 0 16 0 (plan_of zone deck) _ (upto_plan zone deck Further) (λ pl e c. upto_conversion pl e c)

  run_most : (n p : ℕ) → Rows n p → n < 16
  run_most = five_most (Row11 zone deck s room) (Row12 zone deck s room) (Row13 zone deck s room) (Row14 zone deck s room) (Row15 zone deck s room) zone deck

  -- refused with n at p exactly if the table gives n at p
  pub run_table : (n p : ℕ) → ((c : ℕ) × (run_of zone room deck s ≡ refused_at n p c)) ↔ GivenBy (RowRun zone deck s room) n p
  run_table = given_exactly Rows 16 (run_of zone room deck s) upto_run run_most

  -- a run is finished exactly if no row applies
  pub run_finished : ((x : RunOutput) × (run_of zone room deck s ≡ fine x)) ↔ ((n p : ℕ) → RowRun zone deck s room n p → ⊥)
  run_finished = fine_exactly Rows 16 (run_of zone room deck s) upto_run run_most
