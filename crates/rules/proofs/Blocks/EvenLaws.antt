-- Records of equal length: in FF the data of the blocks joined is the records joined, each of n bytes, so that the records taken are the reel's data from a place on, cut
-- every n bytes. By going along the blocks and their records.
use mathlib.Core.Logic.{inl, inr}
use mathlib.Core.Path.{◌≡◌, refl, ap, sym, ◌∙◌, subst}
use mathlib.Core.Bool.{Bool, true, false}
use mathlib.Core.List.{List, [], ◌∷◌, ◌++◌, map}
use mathlib.Core.Option.{some, none-ne-some, some-injective}
use Prim.Native.Nat.{ℕ, zero, suc, ◌+◌, ◌-◌, ◌*◌, ◌/◌, ◌%◌, ◌≤◌}
use native.Mathlib.Nat.{suc-mul, zero-mul, div-add-mod', mul-div_cancel}
use native.Mathlib.Omega.{arith}
use lib.Dec.{eqb}
use lib.ListN.{length, take, drop, length-map}
use lib.Seq.{drop-nil, take_at, drop_at, drop-drop, drop-append-add}
use borrow.Author.Tests.{eqb-true}
use Rattle.rules.specs.Base.{joined}
use Rattle.rules.specs.Answer.{fine}
use Rattle.rules.specs.Places.{All, no_more, also, Both, none_left, both}
use Rattle.rules.specs.Grammar.{Format, ff}
use Rattle.rules.specs.Reel.{block_count, is_reel, blocks_of}
use Rattle.rules.specs.Plan.{Plan, record_length, block_length}
use Rattle.rules.specs.Blocks.{Piece, fixed_from, pieces_in, data_of, records_in, records_from, taken_after, taken_from}
use Rattle.rules.specs.Output.{block_of}
use Rattle.rules.specs.Run.{fitting, outputs}
use Rattle.rules.specs.RunRows.{RecordIs}
use Rattle.rules.specs.Accepted.{Accepted}
use Rattle.rules.specs.EvenRecords.{Even}
use Rattle.rules.proofs.Base.Lists.{joined_append, full_length}
use Rattle.rules.proofs.Base.AllLaws.{all_append, all_drop, all_head, all_tail, all_imply, both_second, both_map, all_map}
use Rattle.rules.proofs.Blocks.BlockSizes.{Reads, reads_exactly}
use Rattle.rules.proofs.Refusals.AnswerLaws.{reads_fine}
use Rattle.rules.proofs.Blocks.BlockLaws.{fixed_back, length_joined}
use Rattle.rules.proofs.Reel.ReelLaws.{joined_blocks}
use Rattle.rules.proofs.Blocks.TakenLaws.{taken_joined, after_each}
use Rattle.rules.proofs.Runs.Never.{Taken, taken_drop, all_fit}

-- the first of some records of n bytes, and the others
pub record Next (n : ℕ) (xs : List ℕ) (rs : List (List ℕ)) : Type 0 where
  pub more : List (List ℕ)
  pub is : rs ≡ take n xs ∷ more
  pub left : Even n (drop n xs) more

module _ {n : ℕ} where
  pub even_size : {xs : List ℕ} {rs : List (List ℕ)} → Even n xs rs → length xs ≡ length rs * n
  even_size e = ap length (sym e.is) ∙ length_joined n e.each

  -- so that there is one number of them
  pub even_count : {xs : List ℕ} {rs : List (List ℕ)} → 1 ≤ n → Even n xs rs → length rs ≡ length xs / n
  even_count {rs = rs} l e = sym (ap (λ (k : ℕ). k / n) (even_size e) ∙ mul-div_cancel (length rs) l)

  pub even_next : {xs : List ℕ} (rs : List (List ℕ)) → Even n xs rs → 1 ≤ length xs → Next n xs rs
  even_next [] e l = absurd (omega (arith, ap length e.is))
  even_next {xs} (r ∷ rs) e l =
      let h = all_head e.each in
      record {
        more = rs;
        is = ap (◌∷ rs) (sym (ap (take n) (sym e.is) ∙ take_at r (joined rs) n h));
        left = record { is = sym (ap (drop n) (sym e.is) ∙ drop_at r (joined rs) n h); each = all_tail e.each };
      }

  pub even_end : {xs : List ℕ} (rs : List (List ℕ)) → 1 ≤ n → Even n xs rs → length xs ≡ 0 → rs ≡ []
  even_end [] s e l = refl
  even_end (r ∷ rs) s e l = absurd (omega (arith, even_size e, suc-mul (length rs) n))

  pub even_append : {xs ys : List ℕ} {rs us : List (List ℕ)} → Even n xs rs → Even n ys us → Even n (xs ++ ys) (rs ++ us)
  even_append {xs} {ys} {rs} {us} e f =
      record { is = joined_append rs us ∙ ap (◌++ joined us) e.is ∙ ap (xs ++◌) f.is; each = all_append e.each f.each }

  joined_drop : (k : ℕ) {rs : List (List ℕ)} → All (λ r. length r ≡ n) rs → joined (drop k rs) ≡ drop (k * n) (joined rs)
  joined_drop zero {rs} a = ap (λ (i : ℕ). drop i (joined rs)) (sym (zero-mul n))
  joined_drop (suc k) no_more = sym (drop-nil (suc k * n))
  joined_drop (suc k) (also {x = r} {xs = rs} h a) =
      joined_drop k a
      ∙ sym (drop-append-add r (joined rs) (k * n))
      ∙ ap (λ (i : ℕ). drop i (r ++ joined rs)) (let z : length r + k * n ≡ suc k * n = omega (arith, suc-mul k n) in z)

  -- without the first k of them
  pub even_drop : (k : ℕ) {xs : List ℕ} {rs : List (List ℕ)} → Even n xs rs → Even n (drop (k * n) xs) (drop k rs)
  even_drop k e = record { is = joined_drop k e.each ∙ ap (drop (k * n)) e.is; each = all_drop k e.each }

-- ---- FF

-- a block is its records, one or more, each of n bytes
pub record EvenBlock (n : ℕ) (b : List ℕ) (rs : List (List ℕ)) : Type 0 where
  pub even : Even n b rs
  pub some : 1 ≤ length rs

module _ (p : Plan) (t : p.format ≡ ff) where
  -- a block that was read
  read_fixed : (b : List ℕ) (rs : List (List ℕ)) → records_in p b ≡ some rs → EvenBlock (record_length p.input) b rs × (length b ≤ block_length p.input)
  read_fixed b rs e = go (eqb (length b % n) 0) refl
    where
      n : ℕ
      n = record_length p.input

      w : Reads p b rs
      w = (reads_exactly p b rs).0 e

      found : pieces_in ff n b ≡ some w.pieces
      found = ap (λ (f : Format). pieces_in f n b) (sym t) ∙ w.found

      made : (length b ≡ length b / n * n) → fixed_from n 0 (length b / n) ≡ w.pieces → EvenBlock n b (map (data_of b) w.pieces)
      made c i =
          let k = fixed_back b n 0 (length b / n) c in
          subst (λ (xs : List Piece). (xs ≡ [] → ⊥) → EvenBlock n b (map (data_of b) xs)) i
          (λ o. record { even = record { is = k.0; each = all_map (data_of b) k.1 }; some = omega (arith, full_length _ o, length-map (fixed_from n 0 (length b / n)) (data_of b)) }) w.sizes.any

      go : (q : Bool) → eqb (length b % n) 0 ≡ q → EvenBlock n b rs × (length b ≤ block_length p.input)
      go false q = absurd (none-ne-some w.pieces (rw q at found))
      go true q =
          let z = eqb-true (length b % n) 0 q in (
            subst (EvenBlock n b) w.is (made (omega (arith, div-add-mod' (length b) n)) (some-injective _ w.pieces (rw q at found))),
            w.sizes.most,
          )

  -- each block is its records
  pub blocks_even : (i : ℕ) (bs : List (List ℕ)) (recs : List (List (List ℕ))) → records_from p i bs ≡ fine recs → Both (EvenBlock (record_length p.input)) bs recs
  blocks_even i bs recs e = both_map (λ b rs d. (read_fixed b rs d).0) (reads_fine 12 (records_in p) i bs recs e)

  joined_even : {bs : List (List ℕ)} {recs : List (List (List ℕ))} → Both (EvenBlock (record_length p.input)) bs recs → Even (record_length p.input) (joined bs) (joined recs)
  joined_even none_left = record { is = refl; each = no_more }
  joined_even (both e h) = even_append e.even (joined_even h)

  -- the blocks' data joined is the records joined
  pub data_even : (s : List ℕ) (recs : List (List (List ℕ))) → is_reel s ≡ true → records_from p 1 (blocks_of s) ≡ fine recs
      → Even (record_length p.input) (drop (4 * block_count s + 8) s) (joined recs)
  data_even s recs r e = subst (λ (x : List ℕ). Even (record_length p.input) x (joined recs)) (joined_blocks s r) (joined_even (blocks_even 1 (blocks_of s) recs e))

  -- and so are those from number `first` on, from the place where that one starts
  pub taken_even : (s : List ℕ) (recs : List (List (List ℕ))) → is_reel s ≡ true → records_from p 1 (blocks_of s) ≡ fine recs → (first : ℕ)
      → Even (record_length p.input) (drop (4 * block_count s + 8 + (first - 1) * record_length p.input) s) (joined (taken_from first recs))
  taken_even s recs r e first =
      let k = first - 1 in
      let n = record_length p.input in
      subst (λ (x : List ℕ). Even n x (joined (taken_from first recs))) (drop-drop (k * n) (4 * block_count s + 8) s)
      (subst (Even n (drop (k * n) (drop (4 * block_count s + 8) s))) (sym (taken_joined first recs)) (even_drop k (data_even s recs r e)))

  -- ---- refusal 14 never applies

  taken_fixed : (b : List ℕ) (rs : List (List ℕ)) → records_in p b ≡ some rs → Taken p rs
  taken_fixed b rs e =
      let w = read_fixed b rs e in
      record {
        records = all_imply (λ r h. subst (λ (f : Format). RecordIs f p r) (sym t) h) w.0.even.each;
        most = omega (arith, w.1, ap length w.0.even.is, ap (λ (f : Format). length (block_of f rs)) t);
      }

  blocks_taken : (k : ℕ) {bs : List (List ℕ)} {recs : List (List (List ℕ))} → Both (λ b rs. records_in p b ≡ some rs) bs recs → All (Taken p) (taken_after k recs)
  blocks_taken k h = after_each (taken_drop p) k (both_second taken_fixed h)

  -- each output fits
  pub outputs_fit : Accepted p → (i : ℕ) (bs : List (List ℕ)) (recs : List (List (List ℕ))) → records_from p i bs ≡ fine recs
      → All (λ holds. holds ≡ true) (fitting p.mode p (outputs p recs))
  unfolding taken_from
  outputs_fit ok i bs recs e = all_fit p ok (inr (inl t)) (blocks_taken (p.first - 1) (reads_fine 12 (records_in p) i bs recs e))
