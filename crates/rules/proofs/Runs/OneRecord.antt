-- "A plan converts a record" is what a run does with it: on the reel of one block, of that record alone, a run from R1 finishes with its output
-- record alone exactly if the plan converts it. Each part of `converts` is the test of one refusal: 12 where no block of A may hold it, 13, 14.
use mathlib.Core.Path.{◌≡◌, refl, ap, sym, ◌∙◌, subst}
use mathlib.Core.Logic.{◌↔◌}
use mathlib.Core.Bool.{Bool, true, false, true≢false}
use mathlib.Core.List.{List, [], ◌∷◌, ◌++◌, map, append-nil}
use mathlib.Core.Option.{Option, none, some}
use Prim.Native.Nat.{ℕ, ◌+◌, ◌*◌, ◌≤◌, ◌<◌}
use native.Mathlib.Omega.{arith}
use lib.ListN.{length, length-map}
use borrow.Author.Tests.{le-leb}
use Rattle.rules.specs.Base.{joined}
use Rattle.rules.specs.Places.{All, no_more, also, Byte}
use Rattle.rules.specs.Answer.{Answer, fine, refuse, refused, Refusal, ◌>>=◌, ◌>>◌, unless, each}
use Rattle.rules.specs.Grammar.{Mode, tc, tf, tr, trf, Format, ff}
use Rattle.rules.specs.Reel.{is_reel, blocks_of, reel_of}
use Rattle.rules.specs.Plan.{Plan, is_fs, plan_of, record_length, block_length}
use Rattle.rules.specs.Blocks.{records_in, records_from, taken_from}
use Rattle.rules.specs.Output.{permits, out_record, block_of, cost, fits_b, filled_b, blocked, may_hold, converts}
use Rattle.rules.specs.Run.{fitting, RunOutput, out_blocks, ran_of, housed, convert, run_of}
use Rattle.rules.specs.RunRows.{RecordIs}
use Rattle.rules.specs.Accepted.{Accepted}
use Rattle.rules.proofs.Base.Lists.{length_full}
use Rattle.rules.proofs.Base.Tests.{and_both}
use Rattle.rules.proofs.Base.AllLaws.{all_head}
use Rattle.rules.proofs.Runs.RunParts.{blocked_records, the_run}
use Rattle.rules.proofs.Refusals.AnswerLaws.{not_fine, fine_same, bind_fine, fine_bind, then_fine, fine_then, fine_unless}
use Rattle.rules.proofs.Deck.AcceptedLaws.{accepted}
use Rattle.rules.proofs.Reel.ReelLaws.{length_reel, header_is, written_blocks, written_is}
use Rattle.rules.proofs.Blocks.BlockSizes.{size_most}
use Rattle.rules.proofs.Blocks.BlockLaws.{block_read, block_some, length_block}
use Rattle.rules.proofs.Output.FillLaws.{fits_true}
use Rattle.rules.proofs.Keeping.ConvertsLaws.{converted_of, of_converted}
use Rattle.rules.proofs.Blocks.HeldLaws.{held_exactly, read_alone, read_single}

-- ---- answers

refuse_bind : {A B : Type 0} (x : Answer A) (f : A → Answer B) (r : Refusal) → x ≡ refuse r → (x >>= f) ≡ refuse r
unfolding ◌>>=◌
refuse_bind x f r e = rw e

refuse_then : {B : Type 0} (x : Answer Unit) (next : Answer B) (r : Refusal) → x ≡ refuse r → (x >> next) ≡ refuse r
unfolding ◌>>◌
refuse_then x next r e = rw e

refuse_unless : (t : Bool) (c i : ℕ) → t ≡ false → unless t c i ≡ refused c i
unfolding unless
refuse_unless t c i e = rw e

each_one : {A : Type 0} (c : ℕ) (q : A → Bool) (i : ℕ) (x : A) → each c q i (x ∷ []) ≡ unless (q x) c i
unfolding each unless
each_one c q i x = go (q x) refl
  where
    go : (t : Bool) → q x ≡ t → each c q i (x ∷ []) ≡ unless (q x) c i
    go true t = rw t
    go false t = rw t

-- ---- what follows where one record is read

taken_one : (k : ℕ) (rs : List (List ℕ)) → k ≡ 1 → taken_from k (rs ∷ []) ≡ rs ∷ []
unfolding taken_from
taken_one k rs e = rw e

fitting_one : (m : Mode) (p : Plan) (o : List ℕ) → fitting m p ((o ∷ []) ∷ []) ≡ fits_b p (o ∷ []) ∷ []
fitting_one tc p o = refl
fitting_one tf p o = refl
fitting_one tr p o = refl
fitting_one trf p o = refl

blocked_one : (m : Mode) (p : Plan) (o : List ℕ) → blocked m p ((o ∷ []) ∷ []) ≡ (o ∷ []) ∷ []
unfolding filled_b
blocked_one tc p o = refl
blocked_one tf p o = refl
blocked_one tr p o = refl
blocked_one trf p o = refl

-- tests 13 and 14 of the records taken, and the output blocks
abbrev tested : Plan → List (List (List ℕ)) → Answer (List (List (List ℕ)))
tested p taken =
    each 13 (permits p) p.first (joined taken)
    >> (each 14 (λ holds. holds) p.first (fitting p.mode p (map (map (out_record p)) taken)) >> fine (blocked p.mode p (map (map (out_record p)) taken)))

tested_one : (p : Plan) (r : List ℕ)
    → tested p ((r ∷ []) ∷ []) ≡ (unless (permits p r) 13 p.first >> (unless (fits_b p (out_record p r ∷ [])) 14 p.first >> fine ((out_record p r ∷ []) ∷ [])))
tested_one p r =
    rw (each_one 13 (permits p) p.first r, fitting_one p.mode p (out_record p r), blocked_one p.mode p (out_record p r), each_one 14 (λ (h : Bool). h) p.first (fits_b p (out_record p r ∷ [])))

out_tested : (p : Plan) (s : List ℕ) (bs : List (List (List ℕ))) → is_reel s ≡ true → records_from p 1 (blocks_of s) ≡ fine bs → out_blocks p s ≡ tested p (taken_from p.first bs)
unfolding out_blocks
out_tested p s bs e f = fine_then _ _ (fine_unless (is_reel s) 11 0 e) ∙ fine_bind _ _ bs f

out_no_reel : (p : Plan) (s : List ℕ) → is_reel s ≡ false → out_blocks p s ≡ refused 11 0
unfolding out_blocks
out_no_reel p s e = refuse_then _ _ _ (refuse_unless (is_reel s) 11 0 e)

out_bad : (p : Plan) (s : List ℕ) (r : Refusal) → is_reel s ≡ true → records_from p 1 (blocks_of s) ≡ refuse r → out_blocks p s ≡ refuse r
unfolding out_blocks
out_bad p s r e f = fine_then _ _ (fine_unless (is_reel s) 11 0 e) ∙ refuse_bind _ _ r f

records_one : (p : Plan) (b : List ℕ) (rs : List (List ℕ)) → records_in p b ≡ some rs → records_from p 1 (b ∷ []) ≡ fine (rs ∷ [])
unfolding ◌>>=◌
records_one p b rs e = rw e

records_none : (p : Plan) (b : List ℕ) → records_in p b ≡ none → records_from p 1 (b ∷ []) ≡ refused 12 1
records_none p b e = rw e

-- ---- the reel of one block

length_one : (b : List ℕ) → length (reel_of (b ∷ [])) ≡ 12 + length b
length_one b = length_reel (b ∷ []) ∙ (let z : 4 * 1 + 8 + length (b ++ []) ≡ 12 + length b = omega (arith, ap length (append-nil b)) in z)

-- what is written fits the largest reel
housed_one : (p : Plan) → Accepted p → (o : List ℕ) → fits_b p (o ∷ []) ≡ true
    → housed 65536 (ran_of p ((o ∷ []) ∷ [])) ≡ fine (record { reel = reel_of (block_of p.format (o ∷ []) ∷ []); records = 1; blocks = 1 })
unfolding housed ran_of fits_b
housed_one p w o e =
    let l = fits_true (block_length p.output) (cost p.format) (cost p.format) (o ∷ []) e in
    let m = size_most p.format p.output w.output in
    let b = length_block p.format (o ∷ []) in
    let h : length (reel_of (block_of p.format (o ∷ []) ∷ [])) ≤ 65536 = omega (arith, length_one (block_of p.format (o ∷ []))) in
    let t = le-leb (length (reel_of (block_of p.format (o ∷ []) ∷ []))) 65536 h in
    fine_then _ _ (fine_unless _ 15 _ (and_both t t))

-- the block of a record alone, the reel of that block alone, and what a run gives that writes one record alone
abbrev pub own_block : Plan → List ℕ → List ℕ
own_block p r = block_of p.format (r ∷ [])

abbrev pub own_reel : Plan → List ℕ → List ℕ
own_reel p r = reel_of (own_block p r ∷ [])

abbrev pub own_ran : Plan → List ℕ → RunOutput
own_ran p r = record { reel = own_reel p r; records = 1; blocks = 1 }

-- refused with one of 11 to 14, and with 11 only where the block makes no reel
abbrev pub RefusedOne : Plan → List ℕ → Answer RunOutput → Type 0
RefusedOne p r x = (c : ℕ) × (i : ℕ) × (x ≡ refused c i) × (11 ≤ c) × (c ≤ 14) × (is_reel (own_reel p r) ≡ true → 12 ≤ c)

-- ---- the run of a plan that is accepted

out_refused : (p : Plan) (s : List ℕ) (n i : ℕ) → out_blocks p s ≡ refused n i → convert 65536 p s ≡ refused n i
unfolding convert
out_refused p s n i e = refuse_bind _ _ _ e

module _ (p : Plan) (w : Accepted p) (first : p.first ≡ 1) (other : is_fs p.format ≡ false) (r : List ℕ) (a : All Byte r) where
  -- the records of the reel
  reel_records : is_reel (own_reel p r) ≡ true → (rs : List (List ℕ)) → records_in p (own_block p r) ≡ some rs → out_blocks p (own_reel p r) ≡ tested p (taken_from p.first (rs ∷ []))
  reel_records e rs f =
      out_tested p (own_reel p r) (rs ∷ []) e (ap (records_from p 1) (written_blocks (own_block p r ∷ []) (header_is (own_reel p r) e).most) ∙ records_one p (own_block p r) rs f)

  -- the tests after the record is read
  after_read : is_reel (own_reel p r) ≡ true → records_in p (own_block p r) ≡ some (r ∷ [])
      → out_blocks p (own_reel p r) ≡ (unless (permits p r) 13 p.first >> (unless (fits_b p (out_record p r ∷ [])) 14 p.first >> fine ((out_record p r ∷ []) ∷ [])))
  after_read e f = reel_records e (r ∷ []) f ∙ ap (tested p) (taken_one p.first (r ∷ []) first) ∙ tested_one p r

  finishes : converts p r ≡ true → convert 65536 p (own_reel p r) ≡ fine (own_ran p (out_record p r))
  unfolding convert
  finishes c =
      let v = converted_of p r other c in
      let k = (held_exactly p w r).0 v.held in
      let m = size_most p.format p.input w.input in
      let l : length (own_reel p r) ≤ 65536 = omega (arith, length_one (own_block p r), k.most) in
      let e = written_is (own_block p r ∷ []) l (also (length_full (own_block p r) (block_some p w (own_block p r) (r ∷ []) k)) no_more) in
      fine_bind _ _ ((out_record p r ∷ []) ∷ [])
      (after_read e (block_read p w (own_block p r) (r ∷ []) k) ∙ fine_then _ _ (fine_unless _ 13 _ v.permitted) ∙ fine_then _ _ (fine_unless _ 14 _ v.fitting))
      ∙ housed_one p w (out_record p r) v.fitting

  small : is_reel (own_reel p r) ≡ true → length (own_block p r) < 65536
  small e = omega (arith, length_one (own_block p r), (header_is (own_reel p r) e).most)

  refuses : converts p r ≡ false → (p.format ≡ ff → length r ≡ record_length p.input) → RefusedOne p r (convert 65536 p (own_reel p r))
  refuses c h = no_reel (is_reel (own_reel p r)) refl
    where
      fits : (t : Bool) → fits_b p (out_record p r ∷ []) ≡ t → is_reel (own_reel p r) ≡ true → records_in p (own_block p r) ≡ some (r ∷ []) → may_hold p.format p.input (length r) ≡ true
          → permits p r ≡ true → RefusedOne p r (convert 65536 p (own_reel p r))
      fits true t e f k g = absurd (true≢false (sym (of_converted p r (record { bytes = a; permitted = g; held = k; fitting = t })) ∙ c))
      fits false t e f k g = (
        14,
        p.first,
        out_refused p (own_reel p r) 14 p.first (after_read e f ∙ fine_then _ _ (fine_unless _ 13 _ g) ∙ refuse_then _ _ _ (refuse_unless _ 14 _ t)),
        omega arith,
        omega arith,
        λ z. omega arith,
      )

      permitted : (t : Bool) → permits p r ≡ t → is_reel (own_reel p r) ≡ true → records_in p (own_block p r) ≡ some (r ∷ []) → may_hold p.format p.input (length r) ≡ true
          → RefusedOne p r (convert 65536 p (own_reel p r))
      permitted true t e f k = fits (fits_b p (out_record p r ∷ [])) refl e f k t
      permitted false t e f k = (13, p.first, out_refused p (own_reel p r) 13 p.first (after_read e f ∙ refuse_then _ _ _ (refuse_unless _ 13 _ t)), omega arith, omega arith, λ z. omega arith)

      read : (o : Option (List (List ℕ))) → records_in p (own_block p r) ≡ o → is_reel (own_reel p r) ≡ true → RefusedOne p r (convert 65536 p (own_reel p r))
      read none f e = (
        12,
        1,
        out_refused p (own_reel p r) 12 1
            (out_bad p (own_reel p r) _ e (ap (records_from p 1) (written_blocks (own_block p r ∷ []) (header_is (own_reel p r) e).most) ∙ records_none p (own_block p r) f)),
        omega arith,
        omega arith,
        λ z. omega arith,
      )
      read (some rs) f e = let v = read_alone p w r a (small e) h rs f in permitted (permits p r) refl e (f ∙ ap some v.0) v.1

      no_reel : (t : Bool) → is_reel (own_reel p r) ≡ t → RefusedOne p r (convert 65536 p (own_reel p r))
      no_reel false e = (11, 0, out_refused p (own_reel p r) 11 0 (out_no_reel p (own_reel p r) e), omega arith, omega arith, λ z. absurd (true≢false (sym z ∙ e)))
      no_reel true e = read (records_in p (own_block p r)) refl e

-- ---- a run that finishes with one record

tested_blocks : (p : Plan) (rs : List (List ℕ)) (bs : List (List (List ℕ))) → tested p (rs ∷ []) ≡ fine bs → length (joined bs) ≡ length rs
tested_blocks p rs bs e =
    let i = fine_same _ bs (then_fine _ _ bs (then_fine _ _ bs e).1).1 in
    ap (λ (z : List (List (List ℕ))). length (joined z)) (sym i) ∙ ap length (blocked_records p.mode p (map (out_record p) rs ∷ []) ∙ append-nil (map (out_record p) rs)) ∙ length-map rs (out_record p)

ran_blocks : (p : Plan) (s : List ℕ) (x : RunOutput) → convert 65536 p s ≡ fine x → (bs : List (List (List ℕ))) × (out_blocks p s ≡ fine bs) × (x.records ≡ length (joined bs))
unfolding convert housed ran_of
ran_blocks p s x e =
    let v = bind_fine (out_blocks p s) (λ bs. housed 65536 (ran_of p bs)) x e in
    let i = fine_same _ x (then_fine _ _ x v.2).1 in
    (v.0, v.1, ap (λ (z : RunOutput). z.records) (sym i))

module _ (p : Plan) (w : Accepted p) (first : p.first ≡ 1) (other : is_fs p.format ≡ false) (r : List ℕ) (a : All Byte r) where
  one_converts : (x : RunOutput) → convert 65536 p (own_reel p r) ≡ fine x → x.records ≡ 1 → converts p r ≡ true
  one_converts x e n = reel (is_reel (own_reel p r)) refl
    where
      v : (bs : List (List (List ℕ))) × (out_blocks p (own_reel p r) ≡ fine bs) × (x.records ≡ length (joined bs))
      v = ran_blocks p (own_reel p r) x e

      held : may_hold p.format p.input (length r) ≡ true → (t : Bool) → converts p r ≡ t → converts p r ≡ true
      held k true t = t
      held k false t =
          let h = refuses p w first other r a t (λ f. subst (λ (z : Format). RecordIs z p r) f (all_head ((held_exactly p w r).0 k).records)) in
          absurd (not_fine _ x (sym h.2 ∙ e))

      read : (o : Option (List (List ℕ))) → records_in p (own_block p r) ≡ o → is_reel (own_reel p r) ≡ true → converts p r ≡ true
      read none f d =
          absurd
          (not_fine _ v.0
          (sym (out_bad p (own_reel p r) _ d (ap (records_from p 1) (written_blocks (own_block p r ∷ []) (header_is (own_reel p r) d).most) ∙ records_none p (own_block p r) f)) ∙ v.1))
      read (some rs) f d =
          let c = tested_blocks p rs v.0 (ap (tested p) (sym (taken_one p.first rs first)) ∙ sym (reel_records p w first other r a d rs f) ∙ v.1) in
          held (read_single p w r a (small p w first other r a d) rs (λ z. omega (arith, v.2)) f).1 (converts p r) refl

      reel : (t : Bool) → is_reel (own_reel p r) ≡ t → converts p r ≡ true
      reel false d = absurd (not_fine _ v.0 (sym (out_no_reel p (own_reel p r) d) ∙ v.1))
      reel true d = read (records_in p (own_block p r)) refl d

-- ---- the run of a deck

run_of_lem : (zone : ℕ) (deck : List ℕ) (p : Plan) (s : List ℕ) → plan_of zone deck ≡ fine p → is_fs p.format ≡ false → run_of zone 65536 deck s ≡ convert 65536 p s
run_of_lem zone deck p s e o = the_run zone 65536 deck s p e o

-- a record that the plan converts: its run finishes with its output record alone. One that it does not convert is refused with one of 11 to
-- 14, where in FF it has n bytes (a block of FF with more bytes is several records, and these may well be converted)
pub one_record : (zone : ℕ) (deck : List ℕ) (p : Plan) → plan_of zone deck ≡ fine p → p.first ≡ 1 → is_fs p.format ≡ false → (r : List ℕ) → All Byte r
    → (converts p r ≡ true → run_of zone 65536 deck (own_reel p r) ≡ fine (own_ran p (out_record p r)))
    × (converts p r ≡ false → (p.format ≡ ff → length r ≡ record_length p.input) → RefusedOne p r (run_of zone 65536 deck (own_reel p r)))
one_record zone deck p e f n r a =
    let w = accepted zone deck p e in
    let q = run_of_lem zone deck p (own_reel p r) e n in
    (λ c. q ∙ finishes p w f n r a c, λ c h. subst (RefusedOne p r) (sym q) (refuses p w f n r a c h))

-- so the plan converts a record exactly if the run on it alone finishes with one record
pub one_exactly : (zone : ℕ) (deck : List ℕ) (p : Plan) → plan_of zone deck ≡ fine p → p.first ≡ 1 → is_fs p.format ≡ false → (r : List ℕ) → All Byte r
    → (converts p r ≡ true) ↔ ((x : RunOutput) × (run_of zone 65536 deck (own_reel p r) ≡ fine x) × (x.records ≡ 1))
one_exactly zone deck p e f n r a = (
  λ c. (own_ran p (out_record p r), (one_record zone deck p e f n r a).0 c, refl),
  λ v. one_converts p (accepted zone deck p e) f n r a v.0 (sym (run_of_lem zone deck p (own_reel p r) e n) ∙ v.1) v.2,
)
