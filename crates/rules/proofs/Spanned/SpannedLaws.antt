-- What document 02 says of FS holds of every deck in FS: which records its plan converts, that it keeps, what a finished run wrote and that it is read back, and that
-- 10, 13 and 14 do not occur. A filling holds the records that were filled in, and no others; with one number A says no n, so that no half is asked for.
use mathlib.Core.Path.{◌≡◌, refl, ap, sym, ◌∙◌, subst}
use mathlib.Core.Bool.{Bool, true, false, not, true≢false}
use mathlib.Core.List.{List, [], ◌∷◌, map}
use mathlib.Core.Option.{none}
use Prim.Native.Nat.{ℕ, ◌-◌, ◌*◌, ◌≤◌, ◌<◌}
use native.Mathlib.Omega.{arith}
use lib.Dec.{eqb}
use lib.ListN.{length, drop}
use borrow.Author.Tests.{le-leb}
use Rattle.rules.specs.Base.{is_empty, joined}
use Rattle.rules.specs.Answer.{fine, refused_at, ◌>>◌, unless}
use Rattle.rules.specs.Places.{All, Byte}
use Rattle.rules.specs.Grammar.{Mode, tr, Size}
use Rattle.rules.specs.Permitted.{choices, first_of}
use Rattle.rules.specs.Asked.{asked_of}
use Rattle.rules.specs.Plan.{Plan, plan_of, is_tc, is_fs, record_length, block_length, input_halves, allowed, barren_half, combined, assembled, sound, keeps}
use Rattle.rules.specs.Spanned.{span_of, segmented, spanned_from}
use Rattle.rules.specs.Reel.{is_reel, blocks_of, reel_of}
use Rattle.rules.specs.Run.{RunOutput, housed, spanned_out, spanned_ran, spanned_run, run_of}
use Rattle.rules.specs.RunRows.{GivesSpanned, RunWrites, in_blocks, in_segments, Row15}
use Rattle.rules.specs.Rows.{Done as NoMore, IsOne, one_number}
use Rattle.rules.specs.Accepted.{Accepted}
use Rattle.rules.specs.ShortBlocks.{Under, RunsAgain}
use Rattle.rules.specs.SpannedWords.{SpannedGives, SpannedDeck, Never10}
use Rattle.rules.proofs.Base.Tests.{and_left}
use Rattle.rules.proofs.Refusals.AnswerLaws.{fine_then, fine_bind, fine_unless, unless_fine}
use Rattle.rules.proofs.Refusals.RunColumns.{Refuses, refuses_then, refuses_unless, refuses_each, refuses_fine}
use Rattle.rules.proofs.Reel.ReelLaws.{written_blocks}
use Rattle.rules.proofs.Deck.LimitLaws.{is_tc_lem, required_exactly}
use Rattle.rules.proofs.Deck.AcceptedLaws.{accepted, zone_of}
use Rattle.rules.proofs.Runs.RunParts.{the_span}
use Rattle.rules.proofs.Refusals.PlanTable.{asks_once}
use Rattle.rules.proofs.Refusals.RunTable.{run_table}
use Rattle.rules.proofs.Keeping.Demand3.{kept_plan}
use Rattle.rules.proofs.Spanned.SpannedRuns.{gives_once, converts_span, out_most}
use Rattle.rules.proofs.Spanned.SpannedOut.{most_a, not_selects, spans_only}
use Rattle.rules.proofs.Spanned.SpannedDeck.{gives_read, low, low', high, high', converts_any, any_converts, Done, done, never_late, span_never, input_span, copied_span, back_span}

-- a run over a reel that gives records goes on with these
spanned_gives : (c : Bool) (g m first room : ℕ) → g < 65536 → (s : List ℕ) (rs : List (List ℕ)) → GivesSpanned g s rs
    → spanned_run c g m first room s ≡ housed room (spanned_ran (spanned_out c m (blocks_of s) (drop (first - 1) rs)) (drop (first - 1) rs))
unfolding spanned_run
spanned_gives c g m first room high s rs h =
    let k = gives_read g high s rs h in
    fine_then (unless (is_reel s) 11 0) _ (fine_unless (is_reel s) 11 0 k.0)
    ∙ fine_bind (spanned_from g 1 none (blocks_of s)) _ k.1 k.2
    ∙ ap (λ (rs : List (List ℕ)). housed room (spanned_ran (spanned_out c m (blocks_of s) (drop (first - 1) rs)) (drop (first - 1) rs))) k.3

module _ (zone : ℕ) (deck : List ℕ) (p : Plan) (e : plan_of zone deck ≡ fine p) (t : is_fs p.format ≡ true) where
  ok : Accepted p
  ok = accepted zone deck p e

  abbrev A : ℕ
  A = block_length p.input

  abbrev B : ℕ
  B = block_length p.output

  -- ---- a finished run

  module _ (room : ℕ) (s : List ℕ) (a : All Byte s) (x : RunOutput) (w : Done zone deck p e t room s x) where
    abbrev taken : List (List ℕ)
    taken = drop (p.first - 1) (joined w.recs)

    back_tr : p.mode ≡ tr → GivesSpanned B x.reel taken
    back_tr q = back_span zone deck p e t room s a x (ap is_tc q) w

    -- where the records of what is written are its own, it is written again: with TC, or with TR from R1 on into the same blocks
    module _ (rs : List (List ℕ)) (g : GivesSpanned B x.reel rs) (room' : ℕ) (l : length x.reel ≤ room') where
      written_by : (c : Bool) → x ≡ spanned_ran (spanned_out c B (blocks_of x.reel) rs) rs → spanned_run c B B 1 room' x.reel ≡ fine x
      unfolding housed ◌>>◌ unless
      written_by c is =
          spanned_gives c B B 1 room' (high' zone deck p e t) x.reel rs g
          ∙ ap (housed room') (sym is)
          ∙ rw (le-leb (length x.reel) room' l, le-leb (length x.reel) 65536 w.most) refl

    -- the records of what is written, under B; and it is the reel of these
    record UnderB : Type 0 where
      rs : List (List ℕ)
      given : GivesSpanned B x.reel rs
      same : x ≡ spanned_ran (blocks_of x.reel) rs

    under : UnderB
    under = go (is_tc p.mode) refl
      where
        go : (c : Bool) → is_tc p.mode ≡ c → UnderB
        go true q =
            let m = is_tc_lem p.mode q in
            let r = copied_span zone deck p e t room s a x m w in
            let one : p.first ≡ 1 = ok.required.tc_with_r1 m in
            let input = input_span zone deck p e t room s a x w in
            record {
              rs = taken;
              given =
                  subst (λ (k : ℕ). GivesSpanned B x.reel (drop (k - 1) (joined w.recs))) (sym one)
                  (subst (λ (z : List ℕ). GivesSpanned B z (joined w.recs)) (sym r) (subst (λ (z : Size). GivesSpanned (block_length z) s (joined w.recs)) (ok.required.tc_equal m) input));
              same =
                  w.writes ∙ ap (λ (c : Bool). spanned_ran (spanned_out c B (blocks_of s) taken) taken) q
                  ∙ ap (λ (z : List ℕ). spanned_ran (blocks_of z) taken) (sym r);
            }
        go false q =
            let g = back_span zone deck p e t room s a x q w in
            let is : x ≡ spanned_ran (map span_of (segmented B taken)) taken = w.writes ∙ ap (λ (c : Bool). spanned_ran (spanned_out c B (blocks_of s) taken) taken) q in
            let r : blocks_of x.reel ≡ map span_of (segmented B taken)
            = ap (λ (z : RunOutput). blocks_of z.reel) is ∙ written_blocks (map span_of (segmented B taken)) (subst (λ (z : RunOutput). length z.reel ≤ 65536) is w.most) in
            record { rs = taken; given = g; same = is ∙ ap (λ (bs : List (List ℕ)). spanned_ran bs taken) (sym r) }

    says : SpannedGives zone p s x
    says =
        record {
          records = joined w.recs;
          gives = input_span zone deck p e t room s a x w;
          counted = ap (λ (z : RunOutput). z.records) w.writes;
          TC = λ m. copied_span zone deck p e t room s a x m w;
          TR = back_tr;
          only = λ m rs g. gives_once B (high' zone deck p e t) x.reel rs taken g (back_tr m);
          back = back;
          refilled = λ m deck' q e' u m' one in_b room' l.
              let is : x ≡ spanned_ran (map span_of (segmented B taken)) taken = w.writes ∙ ap (λ (m : Mode). spanned_ran (spanned_out (is_tc m) B (blocks_of s) taken) taken) m in
              the_span zone room' deck' x.reel q e' (still q u)
              ∙ alike (is_tc q.mode) (block_length q.input) (block_length q.output) q.first room' false (ap is_tc m') u.most in_b one
              ∙ written_by taken (back_tr m) room' l false is;
        }
      where
        still : (q : Plan) → Under p q → is_fs q.format ≡ true
        still q u = ap is_fs u.format ∙ t

        alike : (c : Bool) (g m first room' : ℕ) (d : Bool) → c ≡ d → g ≡ B → m ≡ B → first ≡ 1 → spanned_run c g m first room' x.reel ≡ spanned_run d B B 1 room' x.reel
        alike c g m first room' d ec eg em ef = rw (ec, eg, em, ef) refl

        back : (deck' : List ℕ) (q : Plan) → plan_of zone deck' ≡ fine q → Under p q → RunsAgain zone deck' q x
        back deck' q e' u =
            let g : GivesSpanned (block_length q.input) x.reel under.rs = subst (λ (k : ℕ). GivesSpanned k x.reel under.rs) (sym u.most) under.given in
            let fair = accepted zone deck' q e' in
            record {
              no_11 = span_never zone deck' q e' (still q u) x.reel under.rs g 11 (omega arith);
              no_12 = span_never zone deck' q e' (still q u) x.reel under.rs g 12 (omega arith);
              copied = λ m room' l.
                  the_span zone room' deck' x.reel q e' (still q u)
                  ∙ alike (is_tc q.mode) (block_length q.input) (block_length q.output) q.first room' true (ap is_tc m) u.most (ap block_length (sym (fair.required.tc_equal m)) ∙ u.most) (fair.required.tc_with_r1 m)
                  ∙ written_by under.rs under.given room' l true under.same;
            }

  -- ---- the deck

  carries_all : keeps p ≡ true
  unfolding keeps
  carries_all = rw (not_selects p ok t) refl

  pub spanned_deck : zone < 16 → SpannedDeck zone deck p
  spanned_deck z =
      record {
        converting = λ r. (any_converts zone deck p e t r, λ h. converts_any zone deck p e t r h.0 h.1 h.2);
        held = λ r b. (
          λ c. let h = any_converts zone deck p e t r c in (map span_of (segmented A (r ∷ [])), (converts_span A (low zone deck p e t) (high zone deck p e t) r).0 (h.1, h.2)),
          λ h. let k = (converts_span A (low zone deck p e t) (high zone deck p e t) r).1 h.0 h.1 in converts_any zone deck p e t r b k.0 k.1,
        );
        filled = λ r c. let h = any_converts zone deck p e t r c in (converts_span B (low' zone deck p e t) (high' zone deck p e t) r).0 (h.1, h.2);
        runs = λ room s rs g. the_span zone room deck s p e t ∙ spanned_gives (is_tc p.mode) A B p.first room (high zone deck p e t) s rs g;
        keeping = kept_plan p (rw (zone_of zone deck p e) z) ok carries_all;
        no_13 = λ s. never_late zone deck p e t s 13 (omega arith) (omega arith);
        no_14 = λ s. never_late zone deck p e t s 14 (omega arith) (omega arith);
        most = most_15;
        finished = λ room s a x d. says room s a x (done zone deck p e t room s x d);
      }
    where
      most_15 : (room : ℕ) (s : List ℕ) → All Byte s → (q c : ℕ) → run_of zone room deck s ≡ refused_at 15 q c → q ≤ 851560
      most_15 room s a q c d = go ((run_table zone z deck s a room 15 q).0 (c, d)).0
        where
          go : Row15 zone deck s room q → q ≤ 851560
          go (pl, asks, blocks, n, w, q_is, l) =
              let w' = subst (λ (v : Plan). RunWrites v s blocks n) (asks_once zone deck NoMore p pl e asks) w in
              omega (arith, q_is, long blocks n w')
            where
              long : (blocks : List (List ℕ)) (n : ℕ) → RunWrites p s blocks n → length (reel_of blocks) ≤ 851560
              long blocks n (in_blocks o g b) = absurd (true≢false (sym t ∙ o))
              long blocks n (in_segments {bs = bs} {rs = rs} o r w b) =
                  omega (arith, ap (λ (z : List (List ℕ)). length (reel_of z)) (spans_only p ok t bs rs w blocks b), out_most (is_tc p.mode) A B p.first (low zone deck p e t) (most_a p ok t) (low' zone deck p e t) (high' zone deck p e t) s bs rs r w)

-- ---- no 10

-- with one number there are no first n bytes, so no half that has no permitted value
no_half : (q : Plan) → IsOne q.input → eqb (barren_half q) (input_halves q) ≡ true
unfolding barren_half input_halves
no_half q one = go q.input one
  where
    go : (s : Size) → IsOne s → eqb (first_of (λ i. eqb (choices (allowed q) i) 0) 0 (2 * record_length s)) (2 * record_length s) ≡ true
    go s one_number = refl

pub never_10 : (zone : ℕ) (deck : List ℕ) → Never10 zone deck
unfolding plan_of combined assembled
never_10 zone deck a ea f p c d =
    subst (Refuses (λ r. r.number ≡ 10 → ⊥)) (sym (fine_bind (asked_of deck) (λ a. combined zone a >> fine (assembled zone a)) a ea) ∙ d)
    (refuses_then _ (combined zone a) (fine (assembled zone a)) asked (λ e. tt)) refl
  where
    asked : Refuses (λ r. r.number ≡ 10 → ⊥) (combined zone a)
    asked =
        refuses_then _ _ _ (refuses_unless _ _ 8 1 (λ q z. omega arith)) (λ e1.
        refuses_then _ _ _ (refuses_unless _ _ 8 2 (λ q z. omega arith)) (λ e2.
        refuses_then _ _ _ (refuses_each _ 8 _ 2 _ (λ q z. omega arith)) (λ e3.
        refuses_then _ _ _ (refuses_each _ 9 _ 1 _ (λ q z. omega arith)) (λ e4.
        refuses_fine _ _ tt
        (fine_unless _ 10 _
        (no_half (assembled zone a)
        (((required_exactly (assembled zone a) (not (is_empty a.cards))).0 (and_left (sound (assembled zone a) (not (is_empty a.cards))) _ (unless_fine _ 8 1 e1))).0.fs_one f).0))))))
