-- What an answer says in the words of the rules, for code that goes on from it: of a reel that was read, its blocks and records; of each place of a
-- block that was read, the record there and those behind it.
use mathlib.Core.Path.{◌≡◌, refl, ap, ap₂, sym, ◌∙◌, subst}
use mathlib.Core.Bool.{Bool, true, false, cond, ◌&&◌}
use mathlib.Core.List.{List, [], ◌∷◌}
use mathlib.Core.Option.{some, none-ne-some}
use Prim.Native.Nat.{ℕ, ◌≤◌, ◌<◌}
use native.Mathlib.Omega.{arith}
use lib.Dec.{ltb, leb, eqb}
use lib.ListN.{length, take, drop, get_or}
use borrow.Author.Tests.{leb-true, leb-false}
use Rattle.rules.specs.Base.{joined}
use Rattle.rules.specs.Answer.{Answer, fine, refuse, refused, ◌>>=◌, ◌>>◌, unless}
use Rattle.rules.specs.Reel.{block_count, is_reel, blocks_of}
use Rattle.rules.specs.Plan.{Plan, record_length}
use Rattle.rules.specs.Blocks.{least_data, records_in, records_from}
use Rattle.rules.specs.Output.{cost}
use Rattle.rules.specs.Accepted.{Accepted}
use Rattle.rules.specs.ReelPlaces.{good_start, records_at}
use Rattle.rules.proofs.Base.Tests.{and_left, and_right}
use Rattle.rules.proofs.Blocks.BlockSteps.{good_inside}
use Rattle.rules.proofs.Blocks.RecordSteps.{fixed_pos, records_next, records_done, size_of, opens, records_start}
use Rattle.rules.proofs.Reel.ReelLaws.{length_blocks}
use Rattle.rules.proofs.Blocks.PieceLaws.{refused_block, read_at}
use Rattle.pieces.specs.Form.{FormIs}
use Rattle.reels.specs.Header.{block_part}
use Rattle.std.specs.Prelude.{Some, None, Ok, Err}
use Rattle.pieces.specs.Pieces.{StartRead, PieceRead, start_in, start_of, piece_in, piece_read_of}
use Rattle.reels.specs.declared.ReelError.TheVariants.{NotReel, BadBlock}
use Rattle.reels.specs.Records.{ReelRead, answer_of, reel_read, ReadAs}
use Rattle.pieces.specs.declared.Form.{Form}
use Rattle.reels.proofs.HeaderLaws.{part_block}
use Rattle.reels.proofs.FormLaws.{form_by, reel_alike}
use Rattle.pieces.proofs.PiecesLaws.{start_good, piece_end, piece_good}

-- ---- a reel

abbrev pub Tells : Plan → List ℕ → ReelRead → Type 0
Tells p s (Ok x) =
    (is_reel s ≡ true) × ((bs : List (List (List ℕ))) × (records_from p 1 (blocks_of s) ≡ fine bs) × (x.blocks ≡ length bs) × (x.records ≡ length (joined bs)))
Tells p s (Err NotReel) = is_reel s ≡ false
Tells p s (Err (BadBlock i)) = (is_reel s ≡ true) × (records_from p 1 (blocks_of s) ≡ refused 12 i)

-- each answer is that of one reading, which it tells again
reading_of : Answer (ℕ × ℕ) → ReelRead
reading_of (fine x) = Ok (record { blocks = x.0; records = x.1 })
reading_of (refuse r) = cond (eqb r.number 11) (Err NotReel) (Err (BadBlock r.place))

reading_back : (r : ReelRead) → reading_of (answer_of r) ≡ r
unfolding reading_of
reading_back (Ok x) = refl
reading_back (Err NotReel) = refl
reading_back (Err (BadBlock block)) = refl

pub answer_once : (r r' : ReelRead) → answer_of r ≡ answer_of r' → r ≡ r'
answer_once r r' e = sym (reading_back r) ∙ ap reading_of e ∙ reading_back r'

-- the answer is that of the rules by each plan that asks this of blocks
pub read_by : (form : Form) (p : Plan) → FormIs form p → (s : List ℕ) (r : ReelRead) → ReadAs form s r → answer_of r ≡ reel_read p s
read_by form p h s r w = w.is ∙ reel_alike (form_by form) h s

pub tells : (form : Form) (p : Plan) → FormIs form p → (s : List ℕ) (r : ReelRead) → ReadAs form s r → Tells p s r
unfolding reel_read unless ◌>>◌ ◌>>=◌
tells form p h s r w = go (is_reel s) refl (records_from p 1 (blocks_of s)) refl
  where
    told : (x : ReelRead) → reel_read p s ≡ answer_of x → Tells p s x → Tells p s r
    told x e t = subst (Tells p s) (sym (answer_once r x (read_by form p h s r w ∙ e))) t

    go : (t : Bool) → is_reel s ≡ t → (a : Answer (List (List (List ℕ)))) → records_from p 1 (blocks_of s) ≡ a → Tells p s r
    go false t a e = told (Err NotReel) (rw t) t
    go true t (fine bs) e = told (Ok (record { blocks = length bs; records = length (joined bs) })) (rw (t, e)) (t, (bs, e, refl, refl))
    go true t (refuse x) e = let b = refused_block p (blocks_of s) x e in told (Err (BadBlock x.place)) (rw (t, b)) (t, b)

-- block i is read as its records
pub part_read : (p : Plan) (s : List ℕ) (bs : List (List (List ℕ))) → is_reel s ≡ true → records_from p 1 (blocks_of s) ≡ fine bs → (i : ℕ) → i < block_count s
    → records_in p (block_part s i) ≡ some (get_or bs i [])
part_read p s bs t e i l = ap (records_in p) (part_block s i t l) ∙ read_at p 1 (blocks_of s) bs e i (omega (arith, length_blocks s t))

-- ---- a block that is read as some records

abbrev pub Starts : Plan → List ℕ → List (List ℕ) → StartRead → Type 0
Starts p b rs (Some c) = records_at p b c.at ≡ some rs
Starts p b rs None = ⊥

-- the record at a place is the first of those from there on
abbrev pub GoesOn : Plan → List ℕ → List (List ℕ) → PieceRead → Type 0
GoesOn p b rs (Ok (Some x)) =
    (more : List (List ℕ)) × (rs ≡ take x.length (drop x.place b) ∷ more) × (records_at p b x.next.at ≡ some more) × (least_data p ≤ x.length)
GoesOn p b rs (Ok None) = rs ≡ []
GoesOn p b rs (Err e) = ⊥

module _ (form : Form) (p : Plan) (h : FormIs form p) (w : Accepted p) (b : List ℕ) (rs : List (List ℕ)) where
  pub starts : records_in p b ≡ some rs → Starts p b rs (start_of form b)
  starts e = go (opens p b) refl
    where
      go : (t : Bool) → opens p b ≡ t → Starts p b rs (start_of form b)
      go false t = absurd (none-ne-some rs (rw t at (sym (records_start p w b) ∙ e)))
      go true t =
          let g = and_right (ltb (cost p.format) (length b)) (good_start p.format b) (and_left (ltb (cost p.format) (length b) && good_start p.format b) (size_of p b) t) in
          let x : records_at p b (cost p.format) ≡ some rs = rw t at (sym (records_start p w b) ∙ e) in
          subst (Starts p b rs) (start_good p.format b g ∙ ap (λ f. start_in f b) (sym h.format)) x

  pub goes_on : (i : ℕ) → records_at p b i ≡ some rs → GoesOn p b rs (piece_read_of form b i)
  goes_on i e = subst (GoesOn p b rs) (ap₂ (λ f n. piece_in f n b i) (sym h.format) (sym h.n)) (go (leb (length b) i) refl)
    where
      go : (t : Bool) → leb (length b) i ≡ t → GoesOn p b rs (piece_in p.format (record_length p.input) b i)
      go true t =
          let l = leb-true (length b) i t in
          subst (GoesOn p b rs) (piece_end p.format (record_length p.input) b i l) (records_done p b i rs l e)
      go false t =
          let l = leb-false (length b) i t in
          let x = records_next p w b i rs l e in
          let y = good_inside p.format (record_length p.input) b i (fixed_pos p w) l x.good in
          subst (GoesOn p b rs) (piece_good p.format (record_length p.input) b i l x.good y.1) (x.more, x.is, x.left, x.long)
