-- The records of a block from a place on, for code that walks the block with a cursor and tests each size as it goes: a block is read exactly as
-- its records from the first place on, where the block itself passes its tests. By the steps of the pieces; a short piece spoils the rest.
use mathlib.Core.Path.{◌≡◌, refl, ap, sym, ◌∙◌}
use mathlib.Core.Bool.{Bool, true, false, cond, ◌&&◌}
use mathlib.Core.List.{List, [], ◌∷◌}
use mathlib.Core.Option.{Option, none, some, none-ne-some, some-injective}
use Prim.Native.Nat.{ℕ, suc, ◌≤◌, ◌<◌}
use native.Mathlib.Nat.{zero-mod, zero-div}
use native.Mathlib.Omega.{arith}
use lib.Dec.{ltb, leb}
use lib.ListN.{length}
use borrow.Author.Tests.{ltb-true, ltb-false, le-ltb, leb-true, leb-false, le-leb, lt-leb}
use Rattle.rules.specs.Base.{every}
use Rattle.rules.specs.Grammar.{Format, ff, fv, fu, fsp}
use Rattle.rules.specs.Plan.{Plan, record_length, block_length}
use Rattle.rules.specs.Blocks.{Piece, with_piece, pieces_in, least_data, meets, data_of, records_of, records_in}
use Rattle.rules.specs.Output.{cost}
use Rattle.rules.specs.Accepted.{Accepted}
use Rattle.rules.specs.ReelPlaces.{pieces_at, piece_from, good_from, behind, good_start, records_sized, records_at}
use Rattle.rules.proofs.Blocks.BlockSizes.{size_least, least_one}
use Rattle.rules.proofs.Blocks.BlockSteps.{pieces_start, pieces_end, pieces_good, pieces_bad, onto}
use Rattle.rules.proofs.Blocks.CodedWords.{headed_to_short}

-- ---- the records from a place on

-- the piece at place i of a block of A, and whether it is good
abbrev pub piece_of : Plan → List ℕ → ℕ → Piece
piece_of p b i = piece_from p.format (record_length p.input) b i

abbrev pub good_of : Plan → List ℕ → ℕ → Bool
good_of p b i = good_from p.format (record_length p.input) b i

sized_long : (p : Plan) (b : List ℕ) (x : Piece) (o : Option (List Piece)) → least_data p ≤ x.size → records_sized p b (with_piece x o) ≡ onto (data_of b x ∷ []) (records_sized p b o)
sized_long p b x none l = refl
sized_long p b x (some xs) l = go (every (λ (y : Piece). leb (least_data p) y.size) xs) refl
  where
    go : (t : Bool) → every (λ (y : Piece). leb (least_data p) y.size) xs ≡ t → records_sized p b (some (x ∷ xs)) ≡ onto (data_of b x ∷ []) (records_sized p b (some xs))
    go true t = rw (le-leb (least_data p) x.size l, t)
    go false t = rw (le-leb (least_data p) x.size l, t)

sized_short : (p : Plan) (b : List ℕ) (x : Piece) (o : Option (List Piece)) → x.size < least_data p → records_sized p b (with_piece x o) ≡ none
sized_short p b x none l = refl
sized_short p b x (some xs) l = rw (lt-leb (least_data p) x.size l)

pub fixed_pos : (p : Plan) → Accepted p → p.format ≡ ff → 1 ≤ record_length p.input
fixed_pos p w t = size_least p.format p.input w.input (w.required.ff_two t).0

pub records_end : (p : Plan) (b : List ℕ) (i : ℕ) → length b ≤ i → records_at p b i ≡ some []
unfolding records_at
records_end p b i l = ap (records_sized p b) (pieces_end p.format (record_length p.input) b i l)

pub records_good : (p : Plan) → Accepted p → (b : List ℕ) (i : ℕ) → i < length b → good_of p b i ≡ true → least_data p ≤ (piece_of p b i).size
    → records_at p b i ≡ onto (data_of b (piece_of p b i) ∷ []) (records_at p b (behind (piece_of p b i)))
unfolding records_at
records_good p w b i l e h =
    ap (records_sized p b) (pieces_good p.format (record_length p.input) b i (fixed_pos p w) l e)
    ∙ sized_long p b (piece_of p b i) (pieces_at p.format (record_length p.input) b (behind (piece_of p b i))) h

pub records_bad : (p : Plan) (b : List ℕ) (i : ℕ) → i < length b → good_of p b i ≡ false → records_at p b i ≡ none
unfolding records_at
records_bad p b i l e = ap (records_sized p b) (pieces_bad p.format (record_length p.input) b i l e)

pub records_short : (p : Plan) → Accepted p → (b : List ℕ) (i : ℕ) → i < length b → good_of p b i ≡ true → (piece_of p b i).size < least_data p → records_at p b i ≡ none
unfolding records_at
records_short p w b i l e h =
    ap (records_sized p b) (pieces_good p.format (record_length p.input) b i (fixed_pos p w) l e)
    ∙ sized_short p b (piece_of p b i) (pieces_at p.format (record_length p.input) b (behind (piece_of p b i))) h

-- ---- a block that is read: what stands at each place

-- the record at place i, and those behind it
pub record Next (p : Plan) (b : List ℕ) (i : ℕ) (rs : List (List ℕ)) : Type 0 where
  pub good : good_of p b i ≡ true
  pub long : least_data p ≤ (piece_of p b i).size
  pub more : List (List ℕ)
  pub is : rs ≡ data_of b (piece_of p b i) ∷ more
  pub left : records_at p b (behind (piece_of p b i)) ≡ some more

pub records_next : (p : Plan) → Accepted p → (b : List ℕ) (i : ℕ) (rs : List (List ℕ)) → i < length b → records_at p b i ≡ some rs → Next p b i rs
records_next p w b i rs l e = good (good_of p b i) refl
  where
    rest : (o : Option (List (List ℕ))) → records_at p b (behind (piece_of p b i)) ≡ o → good_of p b i ≡ true → least_data p ≤ (piece_of p b i).size → Next p b i rs
    rest none q g h = absurd (none-ne-some rs (sym (records_good p w b i l g h ∙ ap (onto (data_of b (piece_of p b i) ∷ [])) q) ∙ e))
    rest (some more) q g h =
        record {
          good = g;
          long = h;
          more = more;
          is = sym (some-injective (data_of b (piece_of p b i) ∷ more) rs (sym (records_good p w b i l g h ∙ ap (onto (data_of b (piece_of p b i) ∷ [])) q) ∙ e));
          left = q;
        }

    long : (t : Bool) → leb (least_data p) (piece_of p b i).size ≡ t → good_of p b i ≡ true → Next p b i rs
    long true t g = rest (records_at p b (behind (piece_of p b i))) refl g (leb-true (least_data p) (piece_of p b i).size t)
    long false t g = absurd (none-ne-some rs (sym (records_short p w b i l g (leb-false (least_data p) (piece_of p b i).size t)) ∙ e))

    good : (t : Bool) → good_of p b i ≡ t → Next p b i rs
    good true g = long (leb (least_data p) (piece_of p b i).size) refl g
    good false g = absurd (none-ne-some rs (sym (records_bad p b i l g) ∙ e))

pub records_done : (p : Plan) (b : List ℕ) (i : ℕ) (rs : List (List ℕ)) → length b ≤ i → records_at p b i ≡ some rs → rs ≡ []
records_done p b i rs l e = sym (some-injective [] rs (sym (records_end p b i l) ∙ e))

-- ---- the whole block

-- the tests of the block itself: something stands behind its word, in FV its word is good, and its length is right
abbrev pub size_of : Plan → List ℕ → Bool
size_of p b = leb (length b) (block_length p.input)

abbrev pub opens : Plan → List ℕ → Bool
opens p b = ltb (cost p.format) (length b) && good_start p.format b && size_of p b

pieces_some : (f : Format) (n : ℕ) (b : List ℕ) (i : ℕ) → (f ≡ ff → 1 ≤ n) → i < length b → pieces_at f n b i ≡ some [] → ⊥
pieces_some f n b i p l e = go (good_from f n b i) refl
  where
    full : (o : Option (List Piece)) → with_piece (piece_from f n b i) o ≡ some [] → ⊥
    full none d = none-ne-some [] d
    full (some xs) d = let z : suc (length xs) ≡ 0 = ap length (some-injective (piece_from f n b i ∷ xs) [] d) in omega arith

    go : (t : Bool) → good_from f n b i ≡ t → ⊥
    go true t = full (pieces_at f n b (behind (piece_from f n b i))) (sym (pieces_good f n b i p l t) ∙ e)
    go false t = none-ne-some [] (sym (pieces_bad f n b i l t) ∙ e)

-- no record, no reading
no_record : (p : Plan) (b : List ℕ) → records_of p b (some []) ≡ none
unfolding meets
no_record p b = go (size_of p b) refl
  where
    go : (t : Bool) → size_of p b ≡ t → records_of p b (some []) ≡ none
    go true t = rw t
    go false t = rw t

with_records : (p : Plan) (b : List ℕ) (o : Option (List Piece)) → (o ≡ some [] → ⊥) → records_of p b o ≡ cond (size_of p b) (records_sized p b o) none
unfolding meets
with_records p b none h = go (size_of p b)
  where
    go : (t : Bool) → none ≡ cond t (records_sized p b none) none
    go true = refl
    go false = refl
with_records p b (some []) h = absurd (h refl)
with_records p b (some (x ∷ xs)) h = go (size_of p b) refl
  where
    go : (t : Bool) → size_of p b ≡ t → records_of p b (some (x ∷ xs)) ≡ cond (size_of p b) (records_sized p b (some (x ∷ xs))) none
    go true t = rw t
    go false t = rw t

-- an empty block is not read
empty_block : (p : Plan) → Accepted p → (f : Format) (n : ℕ) → records_of p [] (pieces_in f n []) ≡ none
empty_block p w ff n = rw (zero-mod n, zero-div n) (no_record p [])
empty_block p w fv n = rw (headed_to_short 0 4 [] 0 (omega arith) (omega arith))
empty_block p w fsp n = refl
empty_block p w fu n =
    with_records p [] (some (record { place = 0; size = 0; third = 0 } ∷ [])) (λ e. let z : ◌≡◌ {A = ℕ} 1 0 = ap length (some-injective _ _ e) in omega arith)
    ∙ rw (lt-leb (least_data p) 0 (least_one p w)) (go (size_of p []))
  where
    go : (t : Bool) → cond {A = Option (List (List ℕ))} t none none ≡ none
    go true = refl
    go false = refl

-- a block is read as its records from its first place on, where it passes its own tests; else it is not read
pub records_start : (p : Plan) → Accepted p → (b : List ℕ) → records_in p b ≡ cond (opens p b) (records_at p b (cost p.format)) none
unfolding records_in records_at
records_start p w [] = empty_block p w p.format (record_length p.input) ∙ rw (le-ltb (cost p.format) 0 (omega arith))
records_start p w (x ∷ b') =
    ap (records_of p (x ∷ b')) (pieces_start p.format (record_length p.input) (x ∷ b') (omega arith))
    ∙ go (ltb (cost p.format) (length (x ∷ b'))) refl (good_start p.format (x ∷ b')) refl
  where
    b : List ℕ
    b = x ∷ b'

    first : Option (List Piece)
    first = pieces_at p.format (record_length p.input) b (cost p.format)

    go : (c : Bool) → ltb (cost p.format) (length b) ≡ c → (g : Bool) → good_start p.format b ≡ g
        → records_of p b (cond (good_start p.format b) first none) ≡ cond (opens p b) (records_sized p b first) none
    go true c false g = rw (c, g)
    go false c false g = rw (c, g)
    go false c true g = rw (c, g) (ap (records_of p b) (pieces_end p.format (record_length p.input) b (cost p.format) (ltb-false _ _ c)) ∙ no_record p b)
    go true c true g = rw (c, g) (with_records p b first (pieces_some p.format (record_length p.input) b (cost p.format) (fixed_pos p w) (ltb-true _ _ c)))
