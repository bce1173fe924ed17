-- A block of A may hold a record exactly if the block of that record alone obeys the rule of blocks: both say the same of its length, format by format.
-- And such a block is read as that record and no other, where in FF the record has A's n bytes (more could be several records).
use mathlib.Core.Path.{◌≡◌, refl, ap, ap₂, sym, ◌∙◌, subst}
use mathlib.Core.Logic.{◌↔◌}
use mathlib.Core.Bool.{Bool, true, false, false≢true}
use mathlib.Core.List.{List, [], ◌∷◌, ◌++◌, append-nil, append_assoc}
use mathlib.Core.Option.{some}
use Prim.Native.Nat.{ℕ, ◌+◌, ◌-◌, ◌≤◌, ◌<◌}
use native.Mathlib.Omega.{arith}
use lib.ListN.{length, drop, length-append}
use lib.Seq.{drop_at}
use borrow.Author.Tests.{eqb-true, eq-eqb}
use Rattle.rules.specs.Base.{joined}
use Rattle.rules.specs.Places.{All, no_more, also, Byte}
use Rattle.rules.specs.Grammar.{Format, ff, fv, fu, fsp, Size, two, one}
use Rattle.rules.specs.Plan.{Plan, selects, numbers, record_length, block_length}
use Rattle.rules.specs.Blocks.{word_length, records_in}
use Rattle.rules.specs.Output.{length_word, framed, block_of, may_hold}
use Rattle.rules.specs.Rows.{IsTwo, two_numbers}
use Rattle.rules.specs.RunRows.{RecordIs, BlockIs}
use Rattle.rules.specs.Accepted.{Accepted}
use Rattle.rules.proofs.Base.Lists.{no_length}
use Rattle.rules.proofs.Base.Tests.{within_low, within_high, within_of}
use Rattle.rules.proofs.Base.AllLaws.{all_head, all_imply}
use Rattle.rules.proofs.Blocks.BlockWords.{length_word_four, length_word_says, length_framed, count_framed}
use Rattle.rules.proofs.Blocks.BlockSizes.{size_most, size_least}
use Rattle.rules.proofs.Blocks.BlockLaws.{records_exactly, bytes_block, no_record}
use Rattle.rules.proofs.Deck.LimitLaws.{of_two, of_one}
use Rattle.rules.proofs.Halves.RecordLaws.{whole_least}

-- ---- the block of one record

pub length_alone : (r : List ℕ) → length (block_of fv (r ∷ [])) ≡ length r + 8
length_alone r =
    omega (arith, length-append (length_word (length (framed (r ∷ [])) + 4)) (framed (r ∷ [])), length_word_four (length (framed (r ∷ [])) + 4), length_framed r [])

length_joined_one : (r : List ℕ) → length (joined (r ∷ [])) ≡ length r
length_joined_one r = ap length (append-nil r)

-- ---- a block of A may hold a record

-- what holds of a record alone in its block
abbrev Alone : Format → Plan → List ℕ → Type 0
Alone f p r = RecordIs f p r × (length (block_of f (r ∷ [])) ≤ block_length p.input)

module _ (p : Plan) (w : Accepted p) (r : List ℕ) where
  held_to : (f : Format) (a : Size) → p.format ≡ f → p.input ≡ a → may_hold f a (length r) ≡ true → Alone f p r
  held_to ff (two n m) t q e =
      let l = eqb-true (length r) n e in
      let s = size_most p.format p.input w.input in
      (l ∙ sym (ap record_length q), omega (arith, ap record_length q, length_joined_one r, whole_least (record_length p.input) (block_length p.input) s.0 (w.required.ff_multiple t).0))
  held_to ff (one g) t q e = absurd (false≢true e)
  held_to fv (two n m) t q e =
      let i = subst IsTwo (sym q) (two_numbers {n = n} {m = m}) in
      let c = ap record_length q in
      let d = ap block_length q in
      let l = within_low n (m - 8) (length r) e in
      let h = within_high n (m - 8) (length r) e in
      ((omega (arith, size_least p.format p.input w.input i), λ s. omega arith), omega (arith, length_alone r, w.required.fv_room_a t i))
  held_to fv (one g) t q e =
      let d = ap block_length q in
      let c = ap record_length q in
      let l = within_low 1 (g - 8) (length r) e in
      let h = within_high 1 (g - 8) (length r) e in
      ((l, λ s. omega arith), omega (arith, length_alone r))
  held_to fsp a t q e = absurd (false≢true e)
  held_to fu (two n m) t q e = absurd (false≢true e)
  held_to fu (one g) t q e = (within_low 1 g (length r) e, omega (arith, ap block_length q, length_joined_one r, within_high 1 g (length r) e))

  held_back : (f : Format) (a : Size) → p.format ≡ f → p.input ≡ a → Alone f p r → may_hold f a (length r) ≡ true
  held_back ff (two n m) t q v = eq-eqb (length r) n (v.0 ∙ ap record_length q)
  held_back ff (one g) t q v = absurd (omega (arith, ap numbers q, of_two (w.required.ff_two t).0))
  held_back fv (two n m) t q v = go (selects p.mode) refl
    where
      go : (b : Bool) → selects p.mode ≡ b → may_hold fv (two n m) (length r) ≡ true
      go true s = within_of n (m - 8) (length r) (omega (arith, ap record_length q, v.0.1 s)) (omega (arith, ap block_length q, length_alone r, v.1))
      go false s = absurd (omega (arith, ap numbers q, of_one (w.required.fv_one t s).0))
  held_back fv (one g) t q v = within_of 1 (g - 8) (length r) v.0.0 (omega (arith, ap block_length q, length_alone r, v.1))
  held_back fsp a t q v = absurd v.0
  held_back fu (two n m) t q v = absurd (omega (arith, ap numbers q, of_one (w.required.fu_one t).0))
  held_back fu (one g) t q v = within_of 1 g (length r) v.0 (omega (arith, ap block_length q, length_joined_one r, v.1))

  -- a block of A may hold a record exactly if the block of that record alone obeys the rule
  pub held_exactly : (may_hold p.format p.input (length r) ≡ true) ↔ BlockIs p (block_of p.format (r ∷ [])) (r ∷ [])
  held_exactly = (to, λ v. held_back p.format p.input refl refl (all_head v.records, v.most))
    where
      to : may_hold p.format p.input (length r) ≡ true → BlockIs p (block_of p.format (r ∷ [])) (r ∷ [])
      to e =
          let v = held_to p.format p.input refl refl e in
          record {
            is = refl;
            some = λ z. let y : ◌≡◌ {A = ℕ} 1 0 = ap length z in omega arith;
            records = also v.0 no_more;
            most = v.1;
            one = λ f. refl;
          }

-- ---- and it is read as that record

-- one record with its word is no other records
framed_once : (r : List ℕ) (rs : List (List ℕ)) → length r + 4 < 65536 → length (framed rs) < 65536 → All (λ x. 1 ≤ length x) rs → framed (r ∷ []) ≡ framed rs → rs ≡ r ∷ []
framed_once r [] l k a e = absurd (omega (arith, ap length e, length_framed r []))
framed_once r (x ∷ rs) l k (also h a) e =
    let f = length_framed x rs in
    let g = length_framed r [] in
    let c : framed (r ∷ []) ≡ length_word (length r + 4) ++ (r ++ []) = append_assoc (length_word (length r + 4)) r [] in
    let d : framed (x ∷ rs) ≡ length_word (length x + 4) ++ (x ++ framed rs) = append_assoc (length_word (length x + 4)) x (framed rs) in
    let s : length r + 4 ≡ length x + 4 =
    sym (length_word_says (length r + 4) (r ++ []) l) ∙ ap word_length (sym c ∙ e ∙ d) ∙ length_word_says (length x + 4) (x ++ framed rs) (omega arith) in
    let n : rs ≡ [] = no_length rs (omega (arith, ap length e, count_framed rs)) in
    let i : r ++ [] ≡ x ++ framed rs =
    sym (drop_at (length_word (length r + 4)) (r ++ []) 4 (length_word_four (length r + 4))) ∙ ap (drop 4) (sym c ∙ e ∙ d)
    ∙ drop_at (length_word (length x + 4)) (x ++ framed rs) 4 (length_word_four (length x + 4)) in
    ap₂ ◌∷◌ (sym (append-nil x) ∙ ap (x ++◌) (sym (ap framed n)) ∙ sym i ∙ append-nil r) n

one_joined : (r : List ℕ) (rs : List (List ℕ)) → length rs ≡ 1 → joined (r ∷ []) ≡ joined rs → rs ≡ r ∷ []
one_joined r [] c e = absurd (omega arith)
one_joined r (x ∷ []) c e = ap (◌∷ []) (sym (append-nil x) ∙ sym e ∙ append-nil r)
one_joined r (x ∷ (y ∷ rs)) c e = absurd (omega arith)

-- so it is with the block of one record, where a block of FF or FU is read as one record
alone_once : (f : Format) (p : Plan) (r : List ℕ) (rs : List (List ℕ)) → (rs ≡ [] → ⊥) → length (block_of f (r ∷ [])) < 65536 → All (RecordIs f p) rs → (f ≡ ff → length rs ≡ 1) → (f ≡ fu → length rs ≡ 1)
    → block_of f (r ∷ []) ≡ block_of f rs → rs ≡ r ∷ []
alone_once ff p r rs o l a c d e = one_joined r rs (c refl) e
alone_once fu p r rs o l a c d e = one_joined r rs (d refl) e
alone_once fsp p r rs o l a c d e = absurd (no_record p a o)
alone_once fv p r rs o l a c d e =
    let n = length (framed (r ∷ [])) + 4 in
    let m = length (framed rs) + 4 in
    let h : framed (r ∷ []) ≡ framed rs = sym (drop_at (length_word n) (framed (r ∷ [])) 4 (length_word_four n)) ∙ ap (drop 4) e ∙ drop_at (length_word m) (framed rs) 4 (length_word_four m) in
    framed_once r rs (omega (arith, length_alone r)) (omega (arith, ap length h, length_framed r [], length_alone r)) (all_imply (λ x y. y.0) a) h

-- in FF a block of n bytes is one record
fixed_single : (n : ℕ) (r : List ℕ) (rs : List (List ℕ)) → 1 ≤ n → length r ≡ n → All (λ x. length x ≡ n) rs → joined (r ∷ []) ≡ joined rs → length rs ≡ 1
fixed_single n r [] l h a e = absurd (omega (arith, ap length e, length_joined_one r))
fixed_single n r (x ∷ []) l h a e = refl
fixed_single n r (x ∷ (y ∷ rs)) l h (also c (also d a)) e =
    absurd (omega (arith, ap length e, length_joined_one r, length-append x (joined (y ∷ rs)), length-append y (joined rs)))

module _ (p : Plan) (w : Accepted p) (r : List ℕ) (a : All Byte r) (small : length (block_of p.format (r ∷ [])) < 65536) where
  -- the block of a record alone is read as one record: it is that record, and A may hold it
  pub read_single : (rs : List (List ℕ)) → (p.format ≡ ff → length rs ≡ 1) → records_in p (block_of p.format (r ∷ [])) ≡ some rs
      → (rs ≡ r ∷ []) × (may_hold p.format p.input (length r) ≡ true)
  read_single rs c e =
      let v = (records_exactly p w (block_of p.format (r ∷ [])) (bytes_block p.format (also a no_more) small) rs).0 e in
      let i = alone_once p.format p r rs v.some small v.records c v.one v.is in
      (i, (held_exactly p w r).1 (subst (BlockIs p (block_of p.format (r ∷ []))) i v))

  -- where in FF the record has n bytes, every reading is of one record
  pub read_alone : (p.format ≡ ff → length r ≡ record_length p.input) → (rs : List (List ℕ)) → records_in p (block_of p.format (r ∷ [])) ≡ some rs
      → (rs ≡ r ∷ []) × (may_hold p.format p.input (length r) ≡ true)
  read_alone h rs e = read_single rs single e
    where
      v : BlockIs p (block_of p.format (r ∷ [])) rs
      v = (records_exactly p w (block_of p.format (r ∷ [])) (bytes_block p.format (also a no_more) small) rs).0 e

      single : p.format ≡ ff → length rs ≡ 1
      single t =
          fixed_single (record_length p.input) r rs (size_least p.format p.input w.input (w.required.ff_two t).0) (h t)
          (subst (λ (f : Format). All (RecordIs f p) rs) t v.records) (subst (λ (f : Format). block_of f (r ∷ []) ≡ block_of f rs) t v.is)
