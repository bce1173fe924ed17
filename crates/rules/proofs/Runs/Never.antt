-- What cannot happen with an accepted plan: 13 in TC and TR, since nothing is asked of their halves; 14 in TC, FF and FU, since there an
-- output record is as long as an input record or has B's n bytes, and in TF with FF a block of A has no more records than one of B holds.
use mathlib.Core.Path.{◌≡◌, refl, ap, sym, ◌∙◌, subst}
use mathlib.Core.Logic.{◌⊎◌, inl, inr}
use mathlib.Core.Bool.{Bool, true, false, cond}
use mathlib.Core.List.{List, [], ◌∷◌, ◌++◌, map, append_assoc}
use Prim.Native.Nat.{ℕ, zero, suc, ◌+◌, ◌-◌, ◌*◌, ◌/◌, ◌≤◌, ◌<◌}
use native.Mathlib.Nat.{mul-le-mul_right, div-mul-le_self, le-div_iff_mul-le}
use native.Mathlib.Omega.{arith}
use borrow.Author.Tests.{eq-eqb}
use lib.ListN.{length, drop, replicate, length-map, length-replicate}
use Rattle.rules.specs.Base.{pairs}
use Rattle.rules.specs.Answer.{fine, refused_at}
use Rattle.rules.specs.Places.{All, no_more, also, Byte}
use Rattle.rules.specs.Grammar.{Mode, tc, tf, tr, trf, Format, ff, fv, fu, fsp, Size}
use Rattle.rules.specs.Plan.{Plan, is_fs, plan_of, selects, record_length, block_length, input_halves, allowed}
use Rattle.rules.specs.Reel.{blocks_of}
use Rattle.rules.specs.Blocks.{records_in, taken_after, taken_from}
use Rattle.rules.specs.Output.{permits, out_record, block_of, cost, total, fits_b, may_hold, converts}
use Rattle.rules.specs.Run.{fit_behind, fit_together, fit_alone, fitting, convert, run_of}
use Rattle.rules.specs.RunRows.{RecordIs, BlockIs, Holds}
use Rattle.rules.specs.Rows.{SizeWithin, IsTwo, two_numbers, IsOne, one_number}
use Rattle.rules.specs.Accepted.{Accepted}
use Rattle.rules.proofs.Blocks.TakenLaws.{after_each}
use Rattle.rules.proofs.Base.Lists.{map_own}
use Rattle.rules.proofs.Base.Tests.{within_of}
use Rattle.rules.proofs.Base.AllLaws.{all_append, all_drop, all_replicate, all_imply, both_second, all_map, all_joined, all_of}
use Rattle.rules.proofs.Refusals.AnswerLaws.{fine_each}
use Rattle.rules.proofs.Deck.AcceptedLaws.{accepted}
use Rattle.rules.proofs.Reel.ReelLaws.{all_blocks}
use Rattle.rules.proofs.Blocks.BlockSizes.{size_most, size_least}
use Rattle.rules.proofs.Blocks.BlockLaws.{length_joined, length_block}
use Rattle.rules.proofs.Halves.RecordLaws.{length_out_record, whole_least}
use Rattle.rules.proofs.Keeping.KeepingLaws.{lowests, lowest_halves}
use Rattle.rules.proofs.Keeping.ConvertsLaws.{of_converted}
use Rattle.rules.proofs.Keeping.Twins.{plain_converts}
use Rattle.rules.proofs.Refusals.BlocksOutcome.{holds_of}
use Rattle.rules.proofs.Runs.RunParts.{the_run}
use Rattle.rules.proofs.Refusals.RunColumns.{Refuses, refuses_fine, refuses_unless, refuses_each, refuses_reads, refuses_by}
use Rattle.rules.proofs.Output.FillLaws.{total_append, total_snoc, total_least, fits_of, alone}

-- ---- refusal 13

-- TC and TR permit every record
pub permits_other : (p : Plan) → selects p.mode ≡ false → (r : List ℕ) → permits p r ≡ true
unfolding permits
permits_other p e r = rw e

-- and carry it unchanged
pub output_other : (p : Plan) → selects p.mode ≡ false → (r : List ℕ) → out_record p r ≡ r
unfolding out_record
output_other p e r = rw e

-- ---- records that are taken of a block of A

pub record Taken (p : Plan) (rs : List (List ℕ)) : Type 0 where
  pub records : All (RecordIs p.format p) rs
  pub most : length (block_of p.format rs) ≤ block_length p.input

pub taken_block : (p : Plan) (b : List ℕ) (rs : List (List ℕ)) → BlockIs p b rs → Taken p rs
taken_block p b rs v = record { records = v.records; most = omega (arith, ap length v.is, v.most) }

-- fewer records make no longer block
shorter : (f : Format) (k : ℕ) (rs : List (List ℕ)) → length (block_of f (drop k rs)) ≤ length (block_of f rs)
shorter f k rs = omega (arith, length_block f (drop k rs), length_block f rs, go k rs)
  where
    go : (k : ℕ) (rs : List (List ℕ)) → total (cost f) (cost f) (drop k rs) ≤ total (cost f) (cost f) rs
    go zero rs = omega arith
    go (suc k) [] = omega arith
    go (suc k) (r ∷ rs) = omega (arith, go k rs)

pub taken_drop : (p : Plan) (k : ℕ) (rs : List (List ℕ)) → Taken p rs → Taken p (drop k rs)
taken_drop p k rs w = record { records = all_drop k w.records; most = omega (arith, shorter p.format k rs, w.most) }

-- the records taken of the blocks of a reel are so, block by block
pub holds_taken : (p : Plan) (k : ℕ) {bs : List (List ℕ)} {recs : List (List (List ℕ))} → Holds p bs recs → All (Taken p) (taken_after k recs)
holds_taken p k h = after_each (taken_drop p) k (both_second (taken_block p) h)

-- ---- FF

module _ (p : Plan) (ok : Accepted p) (t : p.format ≡ ff) where
  -- every output record has B's n bytes
  pub fixed_output : (r : List ℕ) → length r ≡ record_length p.input → length (out_record p r) ≡ record_length p.output
  fixed_output r e = go p.mode refl
    where
      same : selects p.mode ≡ false → record_length p.input ≡ record_length p.output → length (out_record p r) ≡ record_length p.output
      same s q = ap length (output_other p s r) ∙ e ∙ q

      no_tail : (c : Bool) → cond {A = ℕ} c (length r - record_length p.input) 0 ≡ 0
      no_tail true = omega arith
      no_tail false = refl

      made : selects p.mode ≡ true → length (out_record p r) ≡ record_length p.output
      made s = omega (arith, length_out_record p ok s r (omega arith), no_tail p.carries)

      go : (m : Mode) → p.mode ≡ m → length (out_record p r) ≡ record_length p.output
      go tc q = same (ap selects q) (ap record_length (ok.required.tc_equal q))
      go tf q = made (ap selects q)
      go tr q = same (ap selects q) (ok.required.tr_equal q t)
      go trf q = made (ap selects q)

  pub fixed_in : {rs : List (List ℕ)} → All (RecordIs p.format p) rs → All (λ r. length r ≡ record_length p.input) rs
  fixed_in a = all_imply (λ r h. subst (λ (f : Format). RecordIs f p r) t h) a

  pub fixed_outputs : {rs : List (List ℕ)} → All (RecordIs p.format p) rs → All (λ r. length r ≡ record_length p.output) (map (out_record p) rs)
  fixed_outputs a = all_map (out_record p) (all_imply fixed_output (fixed_in a))

  -- a block of n-byte records
  pub fixed_block : (n : ℕ) {rs : List (List ℕ)} → All (λ r. length r ≡ n) rs → length (block_of p.format rs) ≡ length rs * n
  fixed_block n {rs} a = ap (λ (f : Format). length (block_of f rs)) t ∙ length_joined n a

  -- m is a multiple of n, so it is no less
  pub output_fits : record_length p.output ≤ block_length p.output
  output_fits = whole_least (record_length p.output) (block_length p.output) (size_most p.format p.output ok.output).0 (ok.required.ff_multiple t).1

  -- in TF each output block fits B's m: a block of A has at most m divided by n records, and B's m divided by n is the same
  pub block_fits : p.mode ≡ tf → (rs : List (List ℕ)) → Taken p rs → length (block_of p.format (map (out_record p) rs)) ≤ block_length p.output
  block_fits m rs w =
      let a = record_length p.input in
      let b = record_length p.output in
      let few : length rs ≤ block_length p.input / a =
      (le-div_iff_mul-le (size_least p.format p.input ok.input (ok.required.ff_two t).0)).1 (omega (arith, fixed_block a (fixed_in w.records), w.most)) in
      let many : length rs * b ≤ block_length p.output / b * b = mul-le-mul_right b (omega (arith, few, ok.required.tf_equal m t)) in
      omega (arith, many, div-mul-le_self (block_length p.output) b, fixed_block b (fixed_outputs w.records), ap (λ (n : ℕ). n * b) (length-map rs (out_record p)))

-- ---- refusal 14

module _ (p : Plan) where
  -- where the block of some records fits, each of them fits behind those before it, and by itself
  pub fits_together : (rs : List (List ℕ)) → length (block_of p.format rs) ≤ block_length p.output → All (λ holds. holds ≡ true) (fit_behind p [] rs)
  unfolding fits_b
  fits_together rs l = go [] rs (omega (arith, length_block p.format rs))
    where
      m : ℕ
      m = block_length p.output

      c : ℕ
      c = cost p.format

      go : (before rs : List (List ℕ)) → total c c (before ++ rs) ≤ m → All (λ holds. holds ≡ true) (fit_behind p before rs)
      go before [] l = no_more
      go before (r ∷ rs) l =
          also {x = fits_b p (before ++ (r ∷ []))}
          (fits_of m c c (before ++ (r ∷ [])) (omega (arith, total_append m c c before (r ∷ rs), total_snoc m c c before r, total_least m c c rs)))
          (go (before ++ (r ∷ [])) rs (rw (append_assoc before (r ∷ []) rs) l))

  pub fits_alone : (rs : List (List ℕ)) → length (block_of p.format rs) ≤ block_length p.output → All (λ r. fits_b p (r ∷ []) ≡ true) rs
  unfolding fits_b
  fits_alone rs l =
      let m = block_length p.output in
      let c = cost p.format in
      all_imply (λ r h. fits_of m c c (r ∷ []) h) (alone m c c rs (omega (arith, length_block p.format rs)))

  -- all records of all blocks
  every_alone : {bs : List (List (List ℕ))} → All (All (λ r. fits_b p (r ∷ []) ≡ true)) bs → All (λ holds. holds ≡ true) (fit_alone p bs)
  every_alone a = all_map (λ r. fits_b p (r ∷ [])) (all_joined a)

  every_together : {bs : List (List (List ℕ))} → All (λ b. All (λ holds. holds ≡ true) (fit_behind p [] b)) bs → All (λ holds. holds ≡ true) (fit_together p bs)
  every_together no_more = no_more
  every_together (also h a) = all_append h (every_together a)

module _ (p : Plan) (ok : Accepted p) where
  outs : List (List (List ℕ)) → List (List (List ℕ))
  outs = map (map (out_record p))

  -- in TC a block of A is one of B
  same_block : p.mode ≡ tc → (rs : List (List ℕ)) → Taken p rs → length (block_of p.format (map (out_record p) rs)) ≤ block_length p.output
  same_block q rs w =
      omega (arith, w.most, ap (λ (z : List (List ℕ)). length (block_of p.format z)) (map_own (output_other p (ap selects q)) rs), ap block_length (ok.required.tc_equal q))

  in_tc : p.mode ≡ tc → {ts : List (List (List ℕ))} → All (Taken p) ts → All (λ holds. holds ≡ true) (fit_alone p (outs ts))
  unfolding outs
  in_tc q a = every_alone p (all_map (map (out_record p)) (all_imply (λ rs w. fits_alone p (map (out_record p) rs) (same_block q rs w)) a))

  -- in FF by itself
  in_ff : p.format ≡ ff → {ts : List (List (List ℕ))} → All (Taken p) ts → All (λ holds. holds ≡ true) (fit_alone p (outs ts))
  unfolding outs fits_b
  in_ff t a =
      every_alone p (all_map (map (out_record p))
      (all_imply (λ rs w. all_imply (λ r h. fits_of (block_length p.output) (cost p.format) (cost p.format) (r ∷ []) (omega (arith, h, ap cost t, output_fits p ok t))) (fixed_outputs p ok t w.records)) a))

  in_tf : p.format ≡ ff → p.mode ≡ tf → {ts : List (List (List ℕ))} → All (Taken p) ts → All (λ holds. holds ≡ true) (fit_together p (outs ts))
  unfolding outs
  in_tf t q a = every_together p (all_map (map (out_record p)) (all_imply (λ rs w. fits_together p (map (out_record p) rs) (block_fits p ok t q rs w)) a))

  -- no record's output exceeds a block of B, by itself or in TF with those before it
  pub all_fit : (p.mode ≡ tc) ⊎ ((p.format ≡ ff) ⊎ (p.format ≡ fu)) → {ts : List (List (List ℕ))} → All (Taken p) ts
      → All (λ holds. holds ≡ true) (fitting p.mode p (map (map (out_record p)) ts))
  unfolding outs
  all_fit o {ts} a = go o p.mode refl
    where
      fit : Mode → Type 0
      fit m = All (λ holds. holds ≡ true) (fitting m p (map (map (out_record p)) ts))

      at : (m : Mode) → p.mode ≡ m → fit m → fit p.mode
      at m q h = subst fit (sym q) h

      go : (p.mode ≡ tc) ⊎ ((p.format ≡ ff) ⊎ (p.format ≡ fu)) → (m : Mode) → p.mode ≡ m → fit p.mode
      go (inl q) m e = at tc q (in_tc q a)
      go (inr (inl t)) tc q = at tc q (in_ff t a)
      go (inr (inl t)) tf q = at tf q (in_tf t q a)
      go (inr (inl t)) tr q = at tr q (in_ff t a)
      go (inr (inl t)) trf q = at trf q (in_ff t a)
      go (inr (inr t)) m e = let q = ok.required.fu_with_tc t in at tc q (in_tc q a)

-- ---- what no run answers

module _ (zone room : ℕ) (deck s : List ℕ) (p : Plan) (e : plan_of zone deck ≡ fine p) (other : is_fs p.format ≡ false) where
  -- what no refusal of the run of the plan is, no refusal of the run is
  pub never_of : (n : ℕ) → Refuses (λ r. r.number ≡ n → ⊥) (convert room p s) → (q c : ℕ) → run_of zone room deck s ≡ refused_at n q c → ⊥
  never_of n w q c d = subst (Refuses (λ r. r.number ≡ n → ⊥)) (sym (the_run zone room deck s p e other) ∙ d) w refl

  -- 13 never in TC and TR
  pub never_13 : selects p.mode ≡ false → (q c : ℕ) → run_of zone room deck s ≡ refused_at 13 q c → ⊥
  never_13 t =
      never_of 13
      (refuses_by _ room p s (refuses_unless _ _ 11 0 (λ q z. omega arith)) (refuses_reads _ 12 (records_in p) 1 (blocks_of s) (λ q z. omega arith)) (λ q z. omega arith) (λ recs r. (
        refuses_fine _ _ tt (fine_each 13 (permits p) p.first (all_of (permits_other p t) _)),
        refuses_each _ 14 _ _ _ (λ q z. omega arith),
      )))

  -- 14 never in TC, FF and FU
  pub never_14 : All Byte s → (p.mode ≡ tc) ⊎ ((p.format ≡ ff) ⊎ (p.format ≡ fu)) → (q c : ℕ) → run_of zone room deck s ≡ refused_at 14 q c → ⊥
  unfolding taken_from
  never_14 b o =
      let ok = accepted zone deck p e in
      never_of 14
      (refuses_by _ room p s (refuses_unless _ _ 11 0 (λ q z. omega arith)) (refuses_reads _ 12 (records_in p) 1 (blocks_of s) (λ q z. omega arith)) (λ q z. omega arith) (λ recs r. (
        refuses_each _ 13 _ _ _ (λ q z. omega arith),
        refuses_fine _ _ tt (fine_each 14 (λ holds. holds) p.first (all_fit p ok o (holds_taken p (p.first - 1) (holds_of p ok 1 (all_blocks s b) recs r)))),
      )))

-- ---- a plan that converts nothing

module _ (p : Plan) (ok : Accepted p) where
  -- of a record of zeros in TC or TR
  zeros_convert : selects p.mode ≡ false → (n : ℕ) → may_hold p.format p.input n ≡ true → cost p.format + n + cost p.format ≤ block_length p.output
      → (r : List ℕ) × (converts p r ≡ true)
  unfolding fits_b
  zeros_convert s n h l =
      let r : List ℕ = replicate n 0 in
      let k : length r ≡ n = length-replicate {A = ℕ} n 0 in (
        r,
        of_converted p r
            (record {
              bytes = all_replicate n 0 (omega arith);
              permitted = permits_other p s r;
              held = rw k h;
              fitting = rw (output_other p s r) (fits_of (block_length p.output) (cost p.format) (cost p.format) (r ∷ []) (omega (arith, k, l)));
            }),
      )

  one_byte : (f : Format) (a b : Size) → (f ≡ ff → ⊥) → (f ≡ fsp → ⊥) → IsOne a → IsOne b → SizeWithin f a → SizeWithin f b → (may_hold f a 1 ≡ true) × (cost f + 1 + cost f ≤ block_length b)
  one_byte fsp a b o u x y v w = absurd (u refl)
  one_byte ff a b o u x y v w = absurd (o refl)
  one_byte fv a b o u (one_number {g = g}) (one_number {g = g'}) v w = (within_of 1 (g - 8) 1 (omega arith) (omega (arith, v.1 refl)), omega (arith, w.1 refl))
  one_byte fu a b o u (one_number {g = g}) (one_number {g = g'}) v w = (within_of 1 g 1 (omega arith) v.0.0, omega (arith, w.0.0))

  fixed_held : (a : Size) → IsTwo a → may_hold ff a (record_length a) ≡ true
  fixed_held a (two_numbers {n = n} {m = m}) = eq-eqb n n refl

  -- in TC and TR
  other_converted : selects p.mode ≡ false → (r : List ℕ) × (converts p r ≡ true)
  unfolding converts
  other_converted s = go p.format refl
    where
      single : (f : Format) → p.format ≡ f → (f ≡ ff → ⊥) → (f ≡ fsp → ⊥) → IsOne p.input × IsOne p.output → (r : List ℕ) × (converts p r ≡ true)
      single f t o v x = let w = one_byte p.format p.input p.output (λ e. o (sym t ∙ e)) (λ e. v (sym t ∙ e)) x.0 x.1 ok.input ok.output in zeros_convert s 1 w.0 w.1

      go : (f : Format) → p.format ≡ f → (r : List ℕ) × (converts p r ≡ true)
      go ff t =
          let n = record_length p.input in
          let r : List ℕ = replicate n 0 in
          let k : n ≡ record_length p.output =
          sym (length-replicate {A = ℕ} n 0) ∙ ap length (sym (output_other p s r)) ∙ fixed_output p ok t r (length-replicate {A = ℕ} n 0) in
          zeros_convert s n (subst (λ (f : Format). may_hold f p.input n ≡ true) (sym t) (fixed_held p.input (ok.required.ff_two t).0))
          (omega (arith, ap cost t, k, output_fits p ok t))
      go fv t = single fv t (λ e. let z : ◌≡◌ {A = ℕ} 0 1 = cc in omega arith) (λ e. let z : ◌≡◌ {A = ℕ} 0 1 = cc in omega arith) (ok.required.fv_one t s)
      go fu t = single fu t (λ e. let z : ◌≡◌ {A = ℕ} 0 1 = cc in omega arith) (λ e. let z : ◌≡◌ {A = ℕ} 0 1 = cc in omega arith) (ok.required.fu_one t)
      go fsp t = (0 ∷ [], rw (permits_other p s (0 ∷ []), t))

  module _ (z : p.zone < 16) where
    -- in TF and TRF: each half of a permitted value, and no tail
    select_converted : selects p.mode ≡ true → (r : List ℕ) × (converts p r ≡ true)
    select_converted s = let g = lowest_halves (allowed p) (input_halves p) ok.some in (pairs (lowests (allowed p) (input_halves p)), plain_converts p z ok s _ g)

    -- an accepted plan converts some record
    pub some_converted : (r : List ℕ) × (converts p r ≡ true)
    some_converted = go (selects p.mode) refl
      where
        go : (t : Bool) → selects p.mode ≡ t → (r : List ℕ) × (converts p r ≡ true)
        go true t = select_converted t
        go false t = other_converted t
