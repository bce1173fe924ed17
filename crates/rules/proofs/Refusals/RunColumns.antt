-- What holds of each refusal that a test of a run gives holds of what the run refuses; none of them has a column, so a run of a plan has none. By following the
-- tests of a run.
use mathlib.Core.Path.{◌≡◌, refl}
use mathlib.Core.Bool.{Bool, true, false, cond}
use mathlib.Core.List.{List, [], ◌∷◌}
use mathlib.Core.Option.{Option, none, some}
use Prim.Native.Nat.{ℕ, suc, ◌-◌, ◌≤◌, ◌<◌}
use native.Mathlib.Omega.{arith}
use lib.ListN.{length}
use Rattle.rules.specs.Base.{joined}
use Rattle.rules.specs.Answer.{Refusal, Answer, fine, refuse, refused, ◌>>=◌, ◌>>◌, unless, each, each_read}
use Rattle.rules.specs.Reel.{is_reel, blocks_of}
use Rattle.rules.specs.Plan.{Plan, is_tc, is_fs, block_length}
use Rattle.rules.specs.Blocks.{records_in, records_from, taken_from}
use Rattle.rules.specs.Output.{permits}
use Rattle.rules.specs.Spanned.{segments_in, State, join_in, onward, spanned_from}
use Rattle.rules.specs.Run.{fitting, outputs, out_blocks, ran_of, housed, convert, spanned_run, conversion}

module _ (P : Refusal → Type 0) where
  -- what is refused has P
  abbrev pub Refuses : {A : Type 0} → Answer A → Type 0
  Refuses (fine a) = Unit {0}
  Refuses (refuse r) = P r

  -- number m has P with column 0
  abbrev pub Plainly : ℕ → Type 0
  Plainly m = (p : ℕ) → P (record { number = m; place = p; column = 0 })

  pub refuses_bind : {A B : Type 0} (x : Answer A) (f : A → Answer B) → Refuses x → ((a : A) → x ≡ fine a → Refuses (f a)) → Refuses (x >>= f)
  unfolding ◌>>=◌
  refuses_bind (fine a) f c h = h a refl
  refuses_bind (refuse r) f c h = c

  pub refuses_then : {B : Type 0} (x : Answer Unit) (y : Answer B) → Refuses x → (x ≡ fine tt → Refuses y) → Refuses (x >> y)
  unfolding ◌>>◌
  refuses_then (fine a) y c h = h refl
  refuses_then (refuse r) y c h = c

  pub refuses_unless : (t : Bool) (m i : ℕ) → Plainly m → Refuses (unless t m i)
  unfolding unless
  refuses_unless true m i z = tt
  refuses_unless false m i z = z i

  pub refuses_each : {A : Type 0} (m : ℕ) (q : A → Bool) (i : ℕ) (xs : List A) → Plainly m → Refuses (each m q i xs)
  unfolding each
  refuses_each m q i [] z = tt
  refuses_each m q i (x ∷ xs) z = go (q x) (refuses_each m q (suc i) xs z)
    where
      go : (t : Bool) → Refuses (each m q (suc i) xs) → Refuses (cond t (each m q (suc i) xs) (refused m i))
      go true h = h
      go false h = z i

  pub refuses_reads : {A B : Type 0} (m : ℕ) (reads : A → Option B) (i : ℕ) (xs : List A) → Plainly m → Refuses (each_read m reads i xs)
  refuses_reads m reads i [] z = tt
  refuses_reads {A} {B} m reads i (x ∷ xs) z = go (refuses_reads m reads (suc i) xs z) (reads x) refl
    where
      go : Refuses (each_read m reads (suc i) xs) → (o : Option B) → reads x ≡ o → Refuses (each_read m reads i (x ∷ xs))
      go h none e = rw e (z i)
      go h (some y) e = rw e (refuses_bind (each_read m reads (suc i) xs) (λ ys. fine (y ∷ ys)) h (λ ys f. tt))

  -- the blocks of FS
  pub refuses_spans : (g i : ℕ) (now : Option (List ℕ)) (bs : List (List ℕ)) → Plainly 12 → Refuses (spanned_from g i now bs)
  refuses_spans g i none [] z = tt
  refuses_spans g i (some c) [] z = z (i - 1)
  refuses_spans g i now (b ∷ bs) z = go (join_in now (segments_in g b)) (λ after. refuses_spans g (suc i) after bs z)
    where
      go : (o : Option State) → ((after : Option (List ℕ)) → Refuses (spanned_from g (suc i) after bs)) → Refuses (onward i o (λ after. spanned_from g (suc i) after bs))
      go none h = z i
      go (some x) h = refuses_bind (spanned_from g (suc i) x.1 bs) (λ more. fine (x.0 ∷ more)) (h x.1) (λ more e. tt)

  pub refuses_fine : {A : Type 0} (x : Answer A) (a : A) → x ≡ fine a → Refuses x
  refuses_fine x a e = rw e tt

  module _ (room : ℕ) (pl : Plan) (s : List ℕ) where
    -- the output blocks are refused by what is asked of the reel, the blocks or the records
    outs_by : Refuses (unless (is_reel s) 11 0) → Refuses (records_from pl 1 (blocks_of s))
        → ((recs : List (List (List ℕ))) → records_from pl 1 (blocks_of s) ≡ fine recs
        → Refuses (each 13 (permits pl) pl.first (joined (taken_from pl.first recs))) × Refuses (each 14 (λ holds. holds) pl.first (fitting pl.mode pl (outputs pl recs))))
        → Refuses (out_blocks pl s)
    unfolding out_blocks
    outs_by c11 c12 k =
        refuses_then (unless (is_reel s) 11 0) _ c11 (λ e1.
        refuses_bind (records_from pl 1 (blocks_of s)) _ c12 (λ recs e2.
        refuses_then _ _ (k recs e2).0 (λ e3. refuses_then _ _ (k recs e2).1 (λ e4. tt))))

    -- a run over a plan by these, or with 15
    pub refuses_by : Refuses (unless (is_reel s) 11 0) → Refuses (records_from pl 1 (blocks_of s)) → Plainly 15
        → ((recs : List (List (List ℕ))) → records_from pl 1 (blocks_of s) ≡ fine recs
        → Refuses (each 13 (permits pl) pl.first (joined (taken_from pl.first recs))) × Refuses (each 14 (λ holds. holds) pl.first (fitting pl.mode pl (outputs pl recs))))
        → Refuses (convert room pl s)
    unfolding convert housed
    refuses_by c11 c12 z15 k =
        refuses_bind (out_blocks pl s) _ (outs_by c11 c12 k) (λ bs e5. refuses_then _ _ (refuses_unless _ 15 (length (ran_of pl bs).reel) z15) (λ e6. tt))

    pub refuses_outs : ((m : ℕ) → 11 ≤ m → m < 15 → Plainly m) → Refuses (out_blocks pl s)
    refuses_outs z =
        outs_by (refuses_unless _ 11 0 (z 11 (omega arith) (omega arith))) (refuses_reads 12 (records_in pl) 1 (blocks_of s) (z 12 (omega arith) (omega arith))) (λ recs e.
        (refuses_each 13 _ pl.first _ (z 13 (omega arith) (omega arith)), refuses_each 14 _ pl.first _ (z 14 (omega arith) (omega arith))))

    pub refuses_convert : ((m : ℕ) → 11 ≤ m → Plainly m) → Refuses (convert room pl s)
    unfolding convert housed
    refuses_convert z =
        refuses_bind (out_blocks pl s) _ (refuses_outs (λ m l h. z m l)) (λ bs e5. refuses_then _ _ (refuses_unless _ 15 (length (ran_of pl bs).reel) (z 15 (omega arith))) (λ e6. tt))

    -- in FS
    pub refuses_spanned : (copies : Bool) (g m first : ℕ) → Refuses (unless (is_reel s) 11 0) → Refuses (spanned_from g 1 none (blocks_of s)) → Plainly 15
        → Refuses (spanned_run copies g m first room s)
    unfolding spanned_run housed
    refuses_spanned copies g m first c11 c12 z15 =
        refuses_then (unless (is_reel s) 11 0) _ c11 (λ e1.
        refuses_bind (spanned_from g 1 none (blocks_of s)) _ c12 (λ recs e2.
        refuses_then _ _ (refuses_unless _ 15 _ z15) (λ e3. tt)))

    pub refuses_conversion : ((m : ℕ) → 11 ≤ m → Plainly m) → Refuses (conversion room pl s)
    unfolding conversion
    refuses_conversion z = go (is_fs pl.format)
      where
        go : (t : Bool)
            → Refuses (cond t (spanned_run (is_tc pl.mode) (block_length pl.input) (block_length pl.output) pl.first room s) (convert room pl s))
        go true = refuses_spanned (is_tc pl.mode) (block_length pl.input) (block_length pl.output) pl.first (refuses_unless _ 11 0 (z 11 (omega arith))) (refuses_spans (block_length pl.input) 1 none (blocks_of s) (z 12 (omega arith))) (z 15 (omega arith))
        go false = refuses_convert z

-- a run of a plan has no column
pub conversion_column : (room : ℕ) (p : Plan) (s : List ℕ) (r : Refusal) → conversion room p s ≡ refuse r → r.column ≡ 0
conversion_column room p s r e = rw e at (refuses_conversion (λ r. r.column ≡ 0) room p s (λ m h q. refl))
