-- A block is read exactly if it is the block of records that meet the sizes: its pieces lie one behind the other and fill it, so that their data
-- make the block again; and the pieces of a block of such records are found where they were written.
use mathlib.Core.Path.{◌≡◌, refl, ap, ap₂, sym, ◌∙◌, subst}
use mathlib.Core.Logic.{◌↔◌}
use mathlib.Core.Bool.{Bool, true, false, ◌&&◌}
use mathlib.Core.List.{List, [], ◌∷◌, ◌++◌, map, append-nil, map-eq-nil_iff}
use mathlib.Core.Option.{some, none-ne-some, some-injective}
use Prim.Native.Nat.{ℕ, zero, suc, ◌+◌, ◌-◌, ◌*◌, ◌/◌, ◌%◌, ◌≤◌, ◌<◌, min}
use native.Mathlib.Nat.{zero-mul, suc-mul, div-add-mod', mul-div_cancel, mul-mod_left}
use native.Mathlib.Omega.{arith}
use lib.Dec.{eqb}
use lib.ListN.{length, take, drop, length-append, length-drop, length-take, take-append-drop}
use lib.Seq.{take_at, drop_at, drop-drop, take-length}
use borrow.Author.Tests.{eqb-true, eq-eqb}
use Rattle.rules.specs.Base.{joined}
use Rattle.rules.specs.Places.{All, no_more, also, Byte}
use Rattle.rules.specs.Grammar.{Format, ff, fv, fu, fsp}
use Rattle.rules.specs.Plan.{Plan, selects, record_length}
use Rattle.rules.specs.Blocks.{Piece, fixed_from, word_length, headed, pieces_in, least_data, data_of, records_in}
use Rattle.rules.specs.Output.{length_word, framed, block_of, cost, total}
use Rattle.rules.specs.RunRows.{RecordIs, BlockIs}
use Rattle.rules.specs.Accepted.{Accepted}
use Rattle.rules.proofs.Base.Lists.{no_length}
use Rattle.rules.proofs.Base.Tests.{and_left, and_right}
use Rattle.rules.proofs.Base.AllLaws.{all_append, all_take, all_drop, all_imply, all_head, all_map, all_with, all_joined}
use Rattle.rules.proofs.Blocks.BlockWords.{headed_exactly, length_word_back, length_word_four, length_word_bytes, length_word_says, length_word_heads, length_framed, framed_bytes, count_framed, Lies, fills_back, fills_to, pieces_of, data_back, sizes_of}
use Rattle.rules.proofs.Reel.ReelLaws.{joined_count}
use Rattle.rules.proofs.Blocks.BlockSizes.{size_most, size_least, least_selects, least_other, least_one, reads_exactly}

-- ---- FF

-- so many pieces of n bytes are what is left, cut
pub fixed_back : (b : List ℕ) (n i q : ℕ) → length (drop i b) ≡ q * n
    → (joined (map (data_of b) (fixed_from n i q)) ≡ drop i b) × All (λ x. length (data_of b x) ≡ n) (fixed_from n i q)
fixed_back b n i zero e = (sym (no_length (drop i b) (e ∙ zero-mul n)), no_more)
fixed_back b n i (suc q) e =
    let l : length (drop n (drop i b)) ≡ q * n = length-drop n (drop i b) ∙ (let z : length (drop i b) - n ≡ q * n = omega (arith, suc-mul q n) in z) in
    let rest = fixed_back b n (i + n) q (ap length (sym (drop-drop n i b)) ∙ l) in
    let size : length (take n (drop i b)) ≡ n = length-take n (drop i b) ∙ (let z : min n (length (drop i b)) ≡ n = omega (arith, suc-mul q n) in z) in
    (ap (take n (drop i b) ++◌) (rest.0 ∙ sym (drop-drop n i b)) ∙ take-append-drop n (drop i b), also size rest.1)

fixed_to : (b : List ℕ) (n i : ℕ) {rs : List (List ℕ)} → All (λ r. length r ≡ n) rs → drop i b ≡ joined rs → map (data_of b) (fixed_from n i (length rs)) ≡ rs
fixed_to b n i no_more d = refl
fixed_to b n i (also {x = r} {xs = rs} h a) d =
    ap₂ ◌∷◌ (ap (take n) d ∙ take_at r (joined rs) n h) (fixed_to b n (i + n) a (sym (drop-drop n i b) ∙ ap (drop n) d ∙ drop_at r (joined rs) n h))

fixed_sizes : (n i q : ℕ) → All (λ x. x.size ≡ n) (fixed_from n i q)
fixed_sizes n i zero = no_more
fixed_sizes n i (suc q) = also refl (fixed_sizes n (i + n) q)

pub length_joined : (n : ℕ) {rs : List (List ℕ)} → All (λ r. length r ≡ n) rs → length (joined rs) ≡ length rs * n
length_joined n no_more = sym (zero-mul n)
length_joined n (also {x = r} {xs = rs} e a) =
    length-append r (joined rs) ∙ (let z : length r + length (joined rs) ≡ suc (length rs) * n = omega (arith, length_joined n a, suc-mul (length rs) n) in z)

-- ---- from the pieces to the records

record Makes (f : Format) (p : Plan) (b : List ℕ) (xs : List Piece) : Type 0 where
  is : b ≡ block_of f (map (data_of b) xs)
  records : All (RecordIs f p) (map (data_of b) xs)
  one : f ≡ fu → length (map (data_of b) xs) ≡ 1

makes : (f : Format) (p : Plan) → p.format ≡ f → Accepted p → (b : List ℕ) → All Byte b → (xs : List Piece)
    → pieces_in f (record_length p.input) b ≡ some xs → All (λ x. least_data p ≤ x.size) xs → Makes f p b xs
makes ff p t w b a xs e l = go (eqb (length b % record_length p.input) 0) refl
  where
    n : ℕ
    n = record_length p.input

    go : (q : Bool) → eqb (length b % record_length p.input) 0 ≡ q → Makes ff p b xs
    go false q = absurd (none-ne-some xs (rw q at e))
    go true q =
        let z = eqb-true (length b % n) 0 q in
        let c : length b ≡ length b / n * n = omega (arith, div-add-mod' (length b) n) in
        let i : fixed_from n 0 (length b / n) ≡ xs = some-injective _ xs (rw q at e) in
        let k = fixed_back b n 0 (length b / n) c in
        subst (Makes ff p b) i
        (record { is = sym k.0; records = all_map (data_of b) k.1; one = λ f. let y : ◌≡◌ {A = ℕ} 0 1 = cc in absurd (omega arith) })
makes fv p t w b a xs e l = go (headed 4 b && eqb (word_length b) (length b)) refl
  where
    go : (q : Bool) → (headed 4 b && eqb (word_length b) (length b)) ≡ q → Makes fv p b xs
    go false q = absurd (none-ne-some xs (rw q at e))
    go true q =
        let h = (headed_exactly 4 b).0 (and_left (headed 4 b) _ q) in
        let s = eqb-true (word_length b) (length b) (and_right (headed 4 b) _ q) in
        let k = fills_back b (suc (length b)) 4 (drop 4 b) xs refl (all_drop 4 a) (rw q at e) in
        let m : length (framed (map (data_of b) xs)) + 4 ≡ word_length b = omega (arith, ap length k.0, length-drop 4 b, h.least) in
        let word : length_word (length (framed (map (data_of b) xs)) + 4) ≡ take 4 b = ap length_word m ∙ length_word_back b a (omega (arith, h.least)) h.third h.fourth in
        record {
          is = sym (ap₂ ◌++◌ word k.0 ∙ take-append-drop 4 b);
          records = all_map (data_of b) (all_imply each (all_with l k.1));
          one = λ f. let y : ◌≡◌ {A = ℕ} 0 1 = cc in absurd (omega arith);
        }
      where
        each : (x : Piece) → (least_data p ≤ x.size) × Lies b x → RecordIs fv p (data_of b x)
        each x v = (rw v.1.1 v.1.0, λ c. rw (v.1.1, ← least_selects p c) v.0)
makes fu p t w b a xs e l =
    let i : record { place = 0; size = length b; third = 0 } ∷ [] ≡ xs = some-injective _ xs e in
    let h : least_data p ≤ length b = all_head (subst (All (λ (x : Piece). least_data p ≤ x.size)) (sym i) l) in
    let c = take-length b in
    let size : 1 ≤ length (take (length b) b) = omega (arith, ap length c, least_one p w) in
    subst (Makes fu p b) i (record { is = sym (ap (◌++ []) c ∙ append-nil b); records = also size no_more; one = λ f. refl })
makes fsp p t w b a xs e l = absurd (none-ne-some xs e)

-- ---- from the records to the pieces

record Parts (f : Format) (p : Plan) (b : List ℕ) (rs : List (List ℕ)) : Type 0 where
  pieces : List Piece
  found : pieces_in f (record_length p.input) b ≡ some pieces
  is : map (data_of b) pieces ≡ rs
  least : All (λ x. least_data p ≤ x.size) pieces

-- in FS no block has records by itself
pub no_record : (p : Plan) {rs : List (List ℕ)} → All (RecordIs fsp p) rs → (rs ≡ [] → ⊥) → ⊥
no_record p no_more o = o refl
no_record p (also h a) o = h

parts : (f : Format) (p : Plan) → p.format ≡ f → Accepted p → (rs : List (List ℕ)) → All (RecordIs f p) rs → (f ≡ fu → length rs ≡ 1)
    → (rs ≡ [] → ⊥) → length (block_of f rs) < 65536 → Parts f p (block_of f rs) rs
parts ff p t w rs a o any l =
    let n = record_length p.input in
    let pos = size_least p.format p.input w.input (w.required.ff_two t).0 in
    let c = length_joined n a in
    let z : length (joined rs) % n ≡ 0 = ap (λ (x : ℕ). x % n) c ∙ mul-mod_left (length rs) n in
    let q : length (joined rs) / n ≡ length rs = ap (λ (x : ℕ). x / n) c ∙ mul-div_cancel (length rs) pos in
    record {
      pieces = fixed_from n 0 (length rs);
      found = rw (eq-eqb (length (joined rs) % n) 0 z, q);
      is = fixed_to (joined rs) n 0 a refl;
      least = all_imply (λ x h. rw h (low pos)) (fixed_sizes n 0 (length rs));
    }
  where
    low : 1 ≤ record_length p.input → least_data p ≤ record_length p.input
    low pos = go (selects p.mode) refl
      where
        go : (s : Bool) → selects p.mode ≡ s → least_data p ≤ record_length p.input
        go true s = rw (least_selects p s) (omega arith)
        go false s = rw (least_other p s) pos
parts fv p t w rs a o any l =
    let b = block_of fv rs in
    let n = length (framed rs) + 4 in
    let c : length (block_of fv rs) ≡ length (framed rs) + 4 = omega (arith, length-append (length_word n) (framed rs), length_word_four n) in
    let says : word_length (block_of fv rs) ≡ length (framed rs) + 4 = length_word_says n (framed rs) (omega arith) in
    let good : headed 4 (block_of fv rs) ≡ true = length_word_heads 4 n (framed rs) (omega arith) (omega arith) (omega arith) in
    let past : drop 4 (block_of fv rs) ≡ framed rs = drop_at (length_word n) (framed rs) 4 (length_word_four n) in
    record {
      pieces = pieces_of 4 rs;
      found =
          rw (good, eq-eqb (word_length b) (length b) (says ∙ sym c), past)
          (fills_to (suc (length b)) 4 (all_imply (λ r h. h.0) a) (omega arith) (omega (arith, count_framed rs)));
      is = data_back b 4 rs past;
      least = sizes_of 4 rs (λ m. least_data p ≤ m) (all_imply low a);
    }
  where
    low : (r : List ℕ) → RecordIs fv p r → least_data p ≤ length r
    low r h = go (selects p.mode) refl
      where
        go : (s : Bool) → selects p.mode ≡ s → least_data p ≤ length r
        go true s = rw (least_selects p s) (h.1 s)
        go false s = rw (least_other p s) h.0
parts fsp p t w rs a o any l = absurd (no_record p a any)
parts fu p t w rs a o any l = go rs a (o refl)
  where
    go : (rs : List (List ℕ)) → All (RecordIs fu p) rs → length rs ≡ 1 → Parts fu p (block_of fu rs) rs
    go [] a e = absurd (omega arith)
    go (r ∷ (r' ∷ rs)) a e = absurd (omega arith)
    go (r ∷ []) (also h no_more) e =
        let c : joined (r ∷ []) ≡ r = append-nil r in
        let s : selects p.mode ≡ false = ap selects (w.required.fu_with_tc t) in
        record {
          pieces = record { place = 0; size = length (joined (r ∷ [])); third = 0 } ∷ [];
          found = refl;
          is = ap (◌∷ []) (take-length (joined (r ∷ [])) ∙ c);
          least = also {x = record { place = 0; size = length (joined (r ∷ [])); third = 0 }} (rw (c, least_other p s) h) no_more;
        }

-- ---- a block is read exactly if it is the block of records that meet the sizes

-- a block of such records is read as them, whatever its numbers are
pub block_read : (p : Plan) → Accepted p → (b : List ℕ) (rs : List (List ℕ)) → BlockIs p b rs → records_in p b ≡ some rs
block_read p w b rs v =
    let m = size_most p.format p.input w.input in
    let k : Parts p.format p b rs =
    subst (λ (z : List ℕ). Parts p.format p z rs) (sym v.is) (parts p.format p refl w rs v.records v.one v.some (omega (arith, ap length v.is, v.most))) in
    (reads_exactly p b rs).1
    (record {
      pieces = k.pieces;
      found = k.found;
      sizes = record { most = v.most; any = λ e. v.some (sym k.is ∙ ap (map (data_of b)) e); least = k.least };
      is = k.is;
    })

-- a block of bytes that is read is the block of its records
read_block : (p : Plan) → Accepted p → (b : List ℕ) → All Byte b → (rs : List (List ℕ)) → records_in p b ≡ some rs → BlockIs p b rs
read_block p w b a rs e =
    let v = (reads_exactly p b rs).0 e in
    let k = makes p.format p refl w b a v.pieces v.found v.sizes.least in
    subst (BlockIs p b) v.is
    (record { is = k.is; some = λ e. v.sizes.any ((map-eq-nil_iff (data_of b)).0 e); records = k.records; most = v.sizes.most; one = k.one })

pub records_exactly : (p : Plan) → Accepted p → (b : List ℕ) → All Byte b → (rs : List (List ℕ))
    → (records_in p b ≡ some rs) ↔ BlockIs p b rs
records_exactly p w b a rs = (read_block p w b a rs, block_read p w b rs)

-- a block is the block of one list of records
pub block_once : (p : Plan) → Accepted p → (b : List ℕ) (rs rs' : List (List ℕ)) → BlockIs p b rs → BlockIs p b rs' → rs ≡ rs'
block_once p w b rs rs' v v' = some-injective rs rs' (sym (block_read p w b rs v) ∙ block_read p w b rs' v')

-- a record is not empty, and so no block is
pub record_some : (p : Plan) → Accepted p → (f : Format) (r : List ℕ) → p.format ≡ f → RecordIs f p r → 1 ≤ length r
record_some p w ff r t h = omega (arith, size_least p.format p.input w.input (w.required.ff_two t).0)
record_some p w fv r t h = h.0
record_some p w fu r t h = h
record_some p w fsp r t h = absurd h

pub block_some : (p : Plan) → Accepted p → (b : List ℕ) (rs : List (List ℕ)) → BlockIs p b rs → 1 ≤ length b
block_some p w b rs v = rw v.is (go p.format rs refl v.some v.records)
  where
    go : (f : Format) (rs : List (List ℕ)) → p.format ≡ f → (rs ≡ [] → ⊥) → All (RecordIs f p) rs → 1 ≤ length (block_of f rs)
    go f [] t o a = absurd (o refl)
    go ff (r ∷ rs) t o (also h a) = omega (arith, length-append r (joined rs), record_some p w ff r t h)
    go fv (r ∷ rs) t o a = omega (arith, length-append (length_word (length (framed (r ∷ rs)) + 4)) (framed (r ∷ rs)), length_word_four (length (framed (r ∷ rs)) + 4))
    go fu (r ∷ rs) t o (also h a) = omega (arith, length-append r (joined rs), record_some p w fu r t h)
    go fsp (r ∷ rs) t o (also h a) = absurd h

-- a block has no more records than bytes
pub block_count : (p : Plan) → Accepted p → (b : List ℕ) (rs : List (List ℕ)) → BlockIs p b rs → length rs ≤ length b
block_count p w b rs v = rw v.is (go p.format (all_imply (λ r h. record_some p w p.format r refl h) v.records))
  where
    go : (f : Format) → All (λ r. 1 ≤ length r) rs → length rs ≤ length (block_of f rs)
    go ff a = joined_count a
    go fv a = omega (arith, length-append (length_word (length (framed rs) + 4)) (framed rs), count_framed rs)
    go fu a = joined_count a
    go fsp a = joined_count a

-- ---- lengths and bytes

-- a block is as long as its records and what they and it cost
joined_total : (rs : List (List ℕ)) → length (joined rs) ≡ total 0 0 rs
joined_total [] = refl
joined_total (r ∷ rs) = length-append r (joined rs) ∙ (let z : length r + length (joined rs) ≡ 0 + length r + total 0 0 rs = omega (arith, joined_total rs) in z)

framed_total : (rs : List (List ℕ)) → 4 + length (framed rs) ≡ total 4 4 rs
framed_total [] = refl
framed_total (r ∷ rs) = let z : 4 + length (framed (r ∷ rs)) ≡ 4 + length r + total 4 4 rs = omega (arith, length_framed r rs, framed_total rs) in z

pub length_block : (f : Format) (rs : List (List ℕ)) → length (block_of f rs) ≡ total (cost f) (cost f) rs
length_block ff rs = joined_total rs
length_block fv rs = omega (arith, length-append (length_word (length (framed rs) + 4)) (framed rs), length_word_four (length (framed rs) + 4), framed_total rs)
length_block fu rs = joined_total rs
length_block fsp rs = joined_total rs

-- the records of a block of bytes are bytes
pub bytes_read : (p : Plan) (b : List ℕ) (rs : List (List ℕ)) → All Byte b → records_in p b ≡ some rs → All (All Byte) rs
bytes_read p b rs a e = let w = (reads_exactly p b rs).0 e in subst (All (All Byte)) w.is (pieces w.pieces)
  where
    pieces : (xs : List Piece) → All (All Byte) (map (data_of b) xs)
    pieces [] = no_more
    pieces (x ∷ xs) = also (all_take x.size (all_drop x.place a)) (pieces xs)

pub bytes_records : (p : Plan) → Accepted p → (b : List ℕ) (rs : List (List ℕ)) → All Byte b → BlockIs p b rs → All (All Byte) rs
bytes_records p w b rs a v = bytes_read p b rs a (block_read p w b rs v)

-- the block of records of bytes is bytes, where its length can be written in 2 bytes
pub bytes_block : (f : Format) {rs : List (List ℕ)} → All (All Byte) rs → length (block_of f rs) < 65536 → All Byte (block_of f rs)
bytes_block ff a l = all_joined a
bytes_block fv {rs} a l =
    let c : length (block_of fv rs) ≡ length (framed rs) + 4 = omega (arith, length-append (length_word (length (framed rs) + 4)) (framed rs), length_word_four (length (framed rs) + 4)) in
    all_append (length_word_bytes (length (framed rs) + 4) (omega arith)) (framed_bytes a (omega arith))
bytes_block fu a l = all_joined a
bytes_block fsp a l = all_joined a
