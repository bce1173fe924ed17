-- Document 02, order 2: a block is good by itself, so a reel's blocks are judged one by one, what a finished run wrote reads back under B, TC of it is itself, and TF gives
-- a block for each block. By the reader of blocks, which asks of a block nothing but the block, and by what is known of finished runs.
use mathlib.Core.Path.{◌≡◌, refl, ap, sym, ◌∙◌, subst}
use mathlib.Core.Logic.{◌↔◌}
use mathlib.Core.Bool.{false}
use mathlib.Core.List.{List, [], ◌∷◌, map}
use Prim.Native.Nat.{ℕ, zero, suc, ◌+◌, ◌-◌, ◌*◌, ◌<◌, ◌≤◌}
use native.Mathlib.Omega.{arith}
use lib.ListN.{length, length-map}
use Rattle.rules.specs.Base.{joined}
use Rattle.rules.specs.Answer.{Answer, fine, refuse}
use Rattle.rules.specs.Places.{All, no_more, also, Some, this, that, Both, none_left, both, Byte}
use Rattle.rules.specs.Grammar.{Mode, Format, tf, ff, fu}
use Rattle.rules.specs.Reel.{is_reel, blocks_of}
use Rattle.rules.specs.Plan.{Plan, is_fs, plan_of, record_length}
use Rattle.rules.specs.Blocks.{fixed_from, data_of, records_from, taken_from}
use Rattle.rules.specs.Output.{out_record, block_of, non_empty, blocked}
use Rattle.rules.specs.Run.{RunOutput, run_of, ran_of, outputs, output_blocks}
use Rattle.rules.specs.RunRows.{RecordIs, ReelIs, GoodBlock, Holds, Gives}
use Rattle.rules.specs.ShortBlocks.{FixedGood, NeverRefused, OneByOne, Under, ReadsBack, EachGives, RunGives}
use Rattle.rules.specs.Accepted.{Accepted}
use Rattle.rules.specs.InWords.{BlocksOut}
use Rattle.rules.proofs.Base.Lists.{full_length}
use Rattle.rules.proofs.Base.AllLaws.{all_imply, both_first, both_second, both_made, both_length, all_map, all_of}
use Rattle.rules.proofs.Refusals.AnswerLaws.{fine_unless}
use Rattle.rules.proofs.Deck.AcceptedLaws.{accepted, zone_of}
use Rattle.rules.proofs.Reel.ReelLaws.{all_blocks, reel_blocks, reel_is}
use Rattle.rules.proofs.Blocks.BlockLaws.{fixed_back, length_joined}
use Rattle.rules.proofs.Refusals.BlocksOutcome.{holds_of, reads_give}
use Rattle.rules.proofs.Blocks.TakenLaws.{taken_first}
use Rattle.rules.proofs.Blocks.PieceLaws.{refused_block}
use Rattle.rules.proofs.Refusals.RunColumns.{refuses_fine, refuses_each, refuses_by}
use Rattle.rules.proofs.Runs.RunParts.{gives_read, bad_block, blocked_all, Finished, finished, the_run}
use Rattle.rules.proofs.Runs.Never.{never_of, holds_taken, fixed_outputs, fixed_block}
use Rattle.rules.proofs.Runs.CopyLaws.{copies}
use Rattle.rules.proofs.Output.OutBlockWords.{holds_whole, blocks_told}
use Rattle.rules.proofs.Output.FullBlocks.{full_blocks}
use Rattle.rules.proofs.Runs.ReadBack.{read_back, read_only}

module _ (p : Plan) where
  -- blocks that hold records are good
  pub holds_good : {bs : List (List ℕ)} {recs : List (List (List ℕ))} → Holds p bs recs → All (GoodBlock p) bs
  holds_good h = both_first (λ b rs v. (rs, v)) h

  -- and good blocks hold records
  pub good_holds : {bs : List (List ℕ)} → All (GoodBlock p) bs → (recs : List (List (List ℕ))) × Holds p bs recs
  good_holds no_more = ([], none_left)
  good_holds (also g a) = let w = good_holds a in (g.0 ∷ w.0, both g.1 w.1)

-- what stands among elements that all have P has P
among_all : {A : Type 0} {P : A → Type 0} {bs : List A} → All P bs → (c : A) → Some (λ b. b ≡ c) bs → P c
among_all {P = P} (also h a) c (this e) = subst P e h
among_all (also h a) c (that s) = among_all a c s
among_all {A = A} {P = P} no_more c x3 = elim x3 [ ]

-- ---- one by one

-- in FF a block is good exactly if it is a positive multiple of n bytes, at most m
fixed_good : (p : Plan) → p.format ≡ ff → (b : List ℕ) → GoodBlock p b ↔ FixedGood p b
fixed_good p t b = (to, back)
  where
    n : ℕ
    n = record_length p.input

    some_piece : (k : ℕ) → 1 ≤ k → map (data_of b) (fixed_from n 0 k) ≡ [] → ⊥
    some_piece zero l e = omega arith
    some_piece (suc k) l e = let z : suc (length (map (data_of b) (fixed_from n (0 + n) k))) ≡ 0 = ap length e in omega arith

    to : GoodBlock p b → FixedGood p b
    to (rs, v) =
        let a : All (λ r. length r ≡ record_length p.input) rs = subst (λ (f : Format). All (RecordIs f p) rs) t v.records in
        ((length rs, full_length rs v.some, ap length v.is ∙ ap (λ (f : Format). length (block_of f rs)) t ∙ length_joined n a), v.most)

    back : FixedGood p b → GoodBlock p b
    back ((k, l, e), m) =
        let c = fixed_back b n 0 k e in
        let rs = map (data_of b) (fixed_from n 0 k) in (
          rs,
          record {
            is = sym (ap (λ (f : Format). block_of f rs) t ∙ c.0);
            some = some_piece k l;
            records = subst (λ (f : Format). All (RecordIs f p) rs) (sym t) (all_map (data_of b) c.1);
            most = m;
            one = λ f. let z : ff ≡ fu = sym t ∙ f in let y : ◌≡◌ {A = ℕ} 0 1 = cc in absurd (omega arith);
          },
        )

module _ (zone : ℕ) (deck : List ℕ) (p : Plan) (e : plan_of zone deck ≡ fine p) (other : is_fs p.format ≡ false) where
  ok : Accepted p
  ok = accepted zone deck p e

  -- a reel that gives records is refused neither with 11 nor with 12
  pub reel_never : (s : List ℕ) (recs : List (List (List ℕ))) → Gives p s recs → (n : ℕ) → n ≤ 12 → NeverRefused zone deck s n
  reel_never s recs g n l room =
      let r = gives_read p ok s recs g in
      never_of zone room deck s p e other n
      (refuses_by _ room p s (refuses_fine _ _ tt (fine_unless (is_reel s) 11 0 r.0)) (refuses_fine _ _ recs r.1) (λ q z. omega arith)
      (λ recs f. (refuses_each _ 13 _ _ _ (λ q z. omega arith), refuses_each _ 14 _ _ _ (λ q z. omega arith))))

  good_gives : (s : List ℕ) (bs : List (List ℕ)) → ReelIs s bs → All (GoodBlock p) bs → (recs : List (List (List ℕ))) × Gives p s recs × (length recs ≡ length bs)
  good_gives s bs r a = let w = good_holds p a in (w.0, (bs, r, w.1), sym (both_length w.1))

  good_never : (s : List ℕ) (bs : List (List ℕ)) → ReelIs s bs → All (GoodBlock p) bs → NeverRefused zone deck s 12
  good_never s bs r a = let w = good_gives s bs r a in reel_never s w.0 w.1 12 (omega arith)

  never_good : (s : List ℕ) (bs : List (List ℕ)) → All Byte s → ReelIs s bs → NeverRefused zone deck s 12 → All (GoodBlock p) bs
  never_good s bs b r h = go (records_from p 1 (blocks_of s)) refl
    where
      go : (x : Answer (List (List (List ℕ)))) → records_from p 1 (blocks_of s) ≡ x → All (GoodBlock p) bs
      go (fine recs) d = subst (All (GoodBlock p)) (reel_blocks s bs r) (holds_good p (holds_of p ok 1 (all_blocks s b) recs d))
      go (refuse x) d =
          absurd (h 0 x.place 0 (the_run zone 0 deck s p e other ∙ bad_block 0 p s x.place (reel_is s bs r) (refused_block p (blocks_of s) x d)))

  pub judged_alone : OneByOne zone deck p
  judged_alone =
      record {
        fixed = fixed_good p;
        each = λ s bs b r. (never_good s bs b r, good_never s bs r);
        any_order = λ s bs cs a m r. good_never s cs r (all_imply (among_all a) m);
        copied = λ m room s bs r a l.
            let w = good_gives s bs r a in
            (w.0, w.1, copies zone room deck s p e other m w.0 w.1 l ∙ ap (λ (k : ℕ). fine (record { reel = s; records = length (joined w.0); blocks = k })) w.2);
      }

-- ---- TF

non_empty_same : {bs : List (List (List ℕ))} → All (λ b. b ≡ [] → ⊥) bs → non_empty bs ≡ bs
non_empty_same no_more = refl
non_empty_same (also {x = []} o a) = absurd (o refl)
non_empty_same (also {x = r ∷ b} o a) = ap ((r ∷ b) ∷◌) (non_empty_same a)

non_empty_map : (f : List ℕ → List ℕ) (bs : List (List (List ℕ))) → non_empty (map (map f) bs) ≡ map (map f) (non_empty bs)
non_empty_map f [] = refl
non_empty_map f ([] ∷ bs) = non_empty_map f bs
non_empty_map f ((r ∷ b) ∷ bs) = ap (map f (r ∷ b) ∷◌) (non_empty_map f bs)

each_gives : (p : Plan) → Accepted p → p.mode ≡ tf → {bs : List (List ℕ)} {recs : List (List (List ℕ))} → Holds p bs recs → EachGives p recs (output_blocks p recs)
unfolding taken_from
each_gives p ok m {bs} {recs} h =
    record {
      records = onto (both_made (map (out_record p)) (all_of (λ rs. length-map rs (out_record p)) left));
      sizes = λ t. onto (both_made (map (out_record p)) (all_imply (size t) (blocked_all tf p taken)));
      all = λ f. ap (λ (n : ℕ). non_empty (taken_from n recs)) f ∙ ap non_empty (taken_first recs) ∙ non_empty_same (both_second (λ b rs v. v.some) h);
    }
  where
    left : List (List (List ℕ))
    left = non_empty (taken_from p.first recs)

    onto : {P : List (List ℕ) → List (List ℕ) → Type 0} → Both P left (map (map (out_record p)) left) → Both P left (output_blocks p recs)
    onto {P} b = subst (Both P left) (sym (non_empty_map (out_record p) (taken_from p.first recs)) ∙ ap (λ (z : Mode). blocked z p (outputs p recs)) (sym m)) b

    taken : All (All (RecordIs p.format p)) (taken_from p.first recs)
    taken = all_imply (λ rs w. w.records) (holds_taken p (p.first - 1) h)

    size : p.format ≡ ff → (rs : List (List ℕ)) → All (RecordIs p.format p) rs → length (block_of p.format (map (out_record p) rs)) ≡ length rs * record_length p.output
    size t rs a = fixed_block p ok t (record_length p.output) (fixed_outputs p ok t a) ∙ ap (λ (k : ℕ). k * record_length p.output) (length-map rs (out_record p))

-- ---- a finished run

module _ (zone room : ℕ) (z : zone < 16) (deck s : List ℕ) (p : Plan) (x : RunOutput) (e : plan_of zone deck ≡ fine p) (other : is_fs p.format ≡ false) (a : All Byte s) (d : run_of zone room deck s ≡ fine x) where
  pub run_gives : RunGives zone p s x
  unfolding ran_of
  run_gives =
      record {
        recs = w.recs;
        outs = output_blocks p w.recs;
        gives = given;
        blocks = told;
        is = w.writes;
        back = back;
        TF = λ m. each_gives p (accepted zone deck p e) m given.2;
        TR = λ t o. full_blocks p (accepted zone deck p e) t given.2 o told;
      }
    where
      w : Finished p room s x
      w = finished p room s x (sym (the_run zone room deck s p e other) ∙ d)

      given : Gives p s w.recs
      given = reads_give p (accepted zone deck p e) s a w.reel w.recs w.reads

      told : BlocksOut p w.recs (output_blocks p w.recs)
      told = blocks_told p (rw (zone_of zone deck p e) z) (accepted zone deck p e) w.recs (holds_whole p (accepted zone deck p e) (all_blocks s a) given.2) w.fit

      back : (deck' : List ℕ) (q : Plan) → plan_of zone deck' ≡ fine q → Under p q → ReadsBack zone deck' q x (output_blocks p w.recs)
      back deck' q e' u =
          let outs = output_blocks p w.recs in
          let still : is_fs q.format ≡ false = ap is_fs u.format ∙ other in
          let g = read_back p q (accepted zone deck p e) (accepted zone deck' q e') u room s x a w in
          record {
            gives = g;
            only = read_only p q (accepted zone deck p e) (accepted zone deck' q e') u room s x a w;
            again =
                record {
                  no_11 = reel_never zone deck' q e' still x.reel outs g 11 (omega arith);
                  no_12 = reel_never zone deck' q e' still x.reel outs g 12 (omega arith);
                  copied = λ m room' l. copies zone room' deck' x.reel q e' still m outs g l ∙ ap fine (same outs w.writes);
                };
          }
        where
          same : (outs : List (List (List ℕ))) → x ≡ ran_of p outs → record { reel = x.reel; records = length (joined outs); blocks = length outs } ≡ x
          same outs f = (λ k. record { reel = (f k).reel; records = length (joined outs); blocks = length outs }) ∙ sym f
