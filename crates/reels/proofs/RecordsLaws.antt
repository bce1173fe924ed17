-- The records of a block counted piece by piece, and the records of a reel block by block: each turn of the walk leaves the answer of the rules as it is.
use mathlib.Core.Path.{◌≡◌, refl, ap, sym, ◌∙◌, subst}
use mathlib.Core.Bool.{Bool, true, false, cond}
use mathlib.Core.List.{List, [], ◌∷◌, map}
use mathlib.Core.Option.{Option, none, some}
use Prim.Native.Nat.{ℕ, zero, suc, ◌+◌, ◌*◌, ◌/◌, ◌%◌, ◌≤◌, ◌<◌}
use native.Mathlib.Nat.{zero-mul, mod-zero, div-add-mod', div-le_self}
use native.Mathlib.Omega.{arith}
use lib.Dec.{ltb, leb, eqb}
use lib.ListN.{length, length-map}
use borrow.Author.Tests.{le-leb, lt-leb, ltb-true, ltb-false, eq-eqb, ne_eqb}
use Rattle.rules.specs.Base.{every}
use Rattle.rules.specs.Grammar.{tf, tr, ff}
use Rattle.rules.specs.Plan.{Plan, selects, block_length}
use Rattle.rules.specs.Blocks.{Piece, fixed_from, with_piece, pieces_in, least_data, meets, data_of, records_of, records_in}
use Rattle.rules.specs.ReelPlaces.{pieces_at}
use Rattle.terms.specs.Meaning.{format_of}
use Rattle.terms.specs.declared.Format.{Format}
use Rattle.terms.specs.declared.Format.TheVariants.{FF}
use Rattle.pieces.specs.Form.{plan_by}
use Rattle.std.specs.Prelude.{Some, None, Ok}
use Rattle.std.specs.Bool.{then_some}
use Rattle.pieces.specs.Pieces.{PieceRead, bad, start_of, piece_read_of}
use Rattle.reels.specs.Records.{BlockRead, count_from, PiecesCounted, block_read, BlockSays}
use Rattle.pieces.specs.declared.Form.{Form}
use Rattle.pieces.specs.declared.Cursor.{Cursor}
use Rattle.pieces.specs.declared.FoundPiece.{FoundPiece}
use Rattle.pieces.proofs.PiecesLaws.{followed, pieces_read, further, piece_further, begun, pieces_begun}

-- ---- one more piece

module _ (least k : ℕ) (x : Piece) where
  count_more : (o : Option (List Piece)) → least ≤ x.size → count_from least k (with_piece x o) ≡ count_from least (k + 1) o
  count_more none l = refl
  count_more (some xs) l =
      let z : k + suc (length xs) ≡ k + 1 + length xs = omega arith in
      rw (le-leb least x.size l, z)

  count_short : (o : Option (List Piece)) → x.size < least → count_from least k (with_piece x o) ≡ None
  count_short none l = refl
  count_short (some xs) l = rw (lt-leb least x.size l)

-- ---- the walk over the pieces, which holds a place and how many were counted before it

pub record Counting (form : Form) (b : List ℕ) (from at count : ℕ) : Type 0 where
  pub same : count_from (least_data (plan_by form)) 0 (pieces_at (format_of form.format) form.n b from) ≡ count_from (least_data (plan_by form)) count (pieces_at (format_of form.format) form.n b at)
  pub few : count ≤ at
  pub most : count ≤ length b

pub counting_start : (form : Form) (b : List ℕ) (from : ℕ) → Counting form b from from 0
counting_start form b from = record { same = refl; few = omega arith; most = omega arith }

module _ {form : Form} {b : List ℕ} {from at count : ℕ} (w : Counting form b from at count) where
  -- what is left is what the reading at this place says
  counting_read : (r : PieceRead) → piece_read_of form b at ≡ r
      → count_from (least_data (plan_by form)) 0 (pieces_at (format_of form.format) form.n b from) ≡ count_from (least_data (plan_by form)) count (followed (format_of form.format) form.n b r)
  counting_read r e = w.same ∙ ap (count_from (least_data (plan_by form)) count) (pieces_read (format_of form.format) form.n b at ∙ ap (followed (format_of form.format) form.n b) e)

  pub counting_further : (r : PieceRead) → piece_read_of form b at ≡ r → further at (length b) r
  counting_further r e = subst (further at (length b)) e (piece_further (format_of form.format) form.n b at)

  module _ (x : FoundPiece) (e : piece_read_of form b at ≡ Ok (Some x)) where
    pub counting_step : least_data (plan_by form) ≤ x.length → Counting form b from x.next.at (count + 1)
    counting_step l =
        let g = counting_further (Ok (Some x)) e in
        let y : Piece = record { place = x.place; size = x.length; third = x.third } in
        record {
          same = counting_read (Ok (Some x)) e ∙ count_more (least_data (plan_by form)) count y (pieces_at (format_of form.format) form.n b x.next.at) l;
          few = omega (arith, w.few, g);
          most = omega (arith, w.few, g);
        }

    pub counting_short : x.length < least_data (plan_by form) → PiecesCounted form b from None
    counting_short l =
        let y : Piece = record { place = x.place; size = x.length; third = x.third } in
        record {
          is = sym (counting_read (Ok (Some x)) e ∙ count_short (least_data (plan_by form)) count y (pieces_at (format_of form.format) form.n b x.next.at) l);
          most = omega arith;
        }

  pub counting_bad : piece_read_of form b at ≡ bad → PiecesCounted form b from None
  counting_bad e = record { is = sym (counting_read bad e); most = omega arith }

  -- at the block's end what was counted decides
  pub counting_end : piece_read_of form b at ≡ Ok None → PiecesCounted form b from (then_some (ltb 0 count) count)
  counting_end e = go (ltb 0 count) refl
    where
      go : (t : Bool) → ltb 0 count ≡ t → PiecesCounted form b from (then_some t count)
      go false t = let z = ltb-false 0 count t in record { is = sym (counting_read (Ok None) e ∙ rw (eq-eqb (count + 0) 0 (omega arith))); most = omega arith }
      go true t =
          let z = ltb-true 0 count t in
          let q : count + 0 ≡ count = omega arith in
          record { is = sym (counting_read (Ok None) e ∙ rw (q, ne_eqb count 0 (λ y. omega arith))); most = w.most }

-- ---- a block is read as the rules read it

-- the tests of a block itself, and of its pieces, are those of the rules
count_meets : (p : Plan) (b : List ℕ) (o : Option (List Piece)) → block_read (records_of p b o) ≡ cond (leb (length b) (block_length p.input)) (count_from (least_data p) 0 o) None
unfolding meets
count_meets p b o = go (leb (length b) (block_length p.input)) refl o
  where
    go : (t : Bool) → leb (length b) (block_length p.input) ≡ t → (o : Option (List Piece)) → block_read (records_of p b o) ≡ cond t (count_from (least_data p) 0 o) None
    go true t none = refl
    go false t none = refl
    go false t (some xs) = rw t
    go true t (some []) = rw t
    go true t (some (x ∷ xs)) = rw t (each (every (λ y. leb (least_data p) y.size) (x ∷ xs)))
      where
        each : (u : Bool) → block_read (cond u (some (map (data_of b) (x ∷ xs))) none) ≡ cond u (cond (eqb (0 + length (x ∷ xs)) 0) None (Some (0 + length (x ∷ xs)))) None
        each false = refl
        each true = let z : 0 + suc (length xs) ≡ suc (length xs) = omega arith in rw (z, ne_eqb (suc (length xs)) 0 (λ q. omega arith)) (ap Some (ap suc (length-map xs (data_of b))))

-- of a block that is not empty, as none of a reel is
module _ (form : Form) (b : List ℕ) (full : 1 ≤ length b) where
  count_is : block_read (records_in (plan_by form) b)
      ≡ cond (leb (length b) form.m) (count_from (least_data (plan_by form)) 0 (begun (format_of form.format) form.n b (start_of form b))) None
  unfolding records_in plan_by
  count_is = count_meets (plan_by form) b (pieces_in (format_of form.format) form.n b) ∙ rw (pieces_begun (format_of form.format) form.n b full)

  pub judged_long : form.m < length b → BlockSays form b None
  judged_long l = record { is = sym (count_is ∙ rw (lt-leb (length b) form.m l)); most = omega arith }

  pub judged_counted : (c : Cursor) (r : BlockRead) → length b ≤ form.m → start_of form b ≡ Some c → PiecesCounted form b c.at r → BlockSays form b r
  judged_counted c r l s w = record { is = w.is ∙ sym (count_is ∙ rw (le-leb (length b) form.m l, s)); most = w.most }

  pub judged_no_start : length b ≤ form.m → start_of form b ≡ None → BlockSays form b None
  judged_no_start l s = record { is = sym (count_is ∙ rw (le-leb (length b) form.m l, s)); most = omega arith }

-- ---- in FF the pieces of n bytes are counted by a division

fixed_length : (n i k : ℕ) → length (fixed_from n i k) ≡ k
fixed_length n i zero = refl
fixed_length n i (suc k) = ap suc (fixed_length n (i + n) k)

fixed_least : (least n i k : ℕ) → least ≤ n → every (λ x. leb least x.size) (fixed_from n i k) ≡ true
fixed_least least n i zero l = refl
fixed_least least n i (suc k) l = rw (le-leb least n l) (fixed_least least n (i + n) k l)

count_fixed : (least n k : ℕ) → least ≤ n → 1 ≤ k → count_from least 0 (some (fixed_from n 0 k)) ≡ Some k
count_fixed least n k l o =
    rw (fixed_least least n 0 k l, fixed_length n 0 k) (rw (ne_eqb (0 + k) 0 (λ e. omega arith)) (ap Some (let z : 0 + k ≡ k = omega arith in z)))

module _ (form : Form) (b : List ℕ) (f : form.format ≡ FF) (full : 1 ≤ length b) (short : length b ≤ form.m) where
  least_fixed : 1 ≤ form.n → least_data (plan_by form) ≤ form.n
  unfolding least_data plan_by
  least_fixed l = go form.selects
    where
      go : (t : Bool) → cond (selects (cond t tf tr)) form.n 1 ≤ form.n
      go true = omega arith
      go false = l

  fixed_is : block_read (records_in (plan_by form) b) ≡ count_from (least_data (plan_by form)) 0 (pieces_in ff form.n b)
  unfolding records_in plan_by
  fixed_is =
      count_meets (plan_by form) b (pieces_in (format_of form.format) form.n b)
      ∙ rw (le-leb (length b) form.m short) (ap (λ (g : Format). count_from (least_data (plan_by form)) 0 (pieces_in (format_of g) form.n b)) f)

  pub divided_over : (length b % form.n ≡ 0 → ⊥) → BlockSays form b None
  divided_over z = record { is = sym (fixed_is ∙ rw (ne_eqb (length b % form.n) 0 z)); most = omega arith }

  pub divided_none : form.n ≡ 0 → BlockSays form b None
  divided_none e = divided_over (λ z. let q : length b % form.n ≡ length b = ap (length b %◌) e ∙ mod-zero (length b) in omega arith)

  pub divided_even : (form.n ≡ 0 → ⊥) → length b % form.n ≡ 0 → BlockSays form b (Some (length b / form.n))
  divided_even o z =
      let n = form.n in
      let k = length b / n in
      let e : k * n ≡ length b = omega (arith, div-add-mod' (length b) n) in
      record {
        is = sym (fixed_is ∙ rw (eq-eqb (length b % n) 0 z) (count_fixed (least_data (plan_by form)) n k (least_fixed (omega arith)) (some_piece k e)));
        most = div-le_self (length b) n;
      }
    where
      some_piece : (k : ℕ) → k * form.n ≡ length b → 1 ≤ k
      some_piece zero e = absurd (omega (arith, zero-mul form.n))
      some_piece (suc k) e = omega arith
