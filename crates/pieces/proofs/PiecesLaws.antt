-- The pieces of a block as they are read: what each outcome of the tests is, and that the readings one after the other are the pieces of the rules.
use mathlib.Core.Path.{◌≡◌, refl, ap, sym, ◌∙◌, subst}
use mathlib.Core.Bool.{Bool, true, false, cond, ◌&&◌}
use mathlib.Core.List.{List, []}
use mathlib.Core.Option.{Option, none, some}
use Prim.Native.Nat.{ℕ, ◌+◌, ◌-◌, ◌*◌, ◌≤◌, ◌<◌}
use native.Mathlib.Omega.{arith}
use lib.Dec.{ltb, leb, eqb}
use lib.ListN.{length, drop, get_or, length-drop}
use lib.Seq.{get_or-drop}
use borrow.Author.Tests.{le-leb, lt-leb, lt-ltb, le-ltb, eq-eqb, ne_eqb, leb-true, leb-false, ltb-true, ltb-false, eqb-true, eqb-false}
use Rattle.rules.specs.Grammar.{Format, ff, fv, fu, fsp}
use Rattle.rules.specs.Blocks.{Piece, word_length, headed_to, with_piece, pieces_in}
use Rattle.rules.specs.Output.{cost}
use Rattle.rules.specs.ReelPlaces.{piece_at, pieces_at, piece_from, good_from, behind, good_start}
use Rattle.rules.proofs.Blocks.BlockWords.{word_length_at}
use Rattle.rules.proofs.Blocks.CodedWords.{HeadedTo, headed_to_exactly, headed_to_short}
use Rattle.rules.proofs.Spanned.SpannedSteps.{walk_at, walk_at_end, walk_at_good, walk_at_bad}
use Rattle.rules.proofs.Blocks.BlockSteps.{pieces_start, pieces_end, good_inside, pieces_good, pieces_bad}
use Rattle.rules.proofs.Blocks.PieceLaws.{takes_some, pieces_none}
use Rattle.rules.proofs.Base.Tests.{never_true, failing}
use Rattle.std.specs.Prelude.{Option as Maybe, Some, None, Ok, Err, ok_or}
use Rattle.std.specs.Bool.{then_some}
use Rattle.std.specs.Result.{result_ok}
use Rattle.pieces.specs.Pieces.{StartRead, PieceRead, length_word_of, start_in, variable_start, given, piece_of, found, bad, piece_in, worded_in, fixed_piece}
use Rattle.pieces.specs.declared.Cursor.{Cursor}
use Rattle.pieces.specs.declared.FoundPiece.{FoundPiece}

-- ---- a value, behind what stands for it where there is none

pub or_taken : {T E : Type 0} (o : Maybe T) (e : E) (v : T) → Ok v ≡ ok_or o e → o ≡ Some v
or_taken None e v p = cc
or_taken (Some x) e v p = cc

pub or_missed : {T E : Type 0} (o : Maybe T) (e e' : E) → Err e' ≡ ok_or o e → (o ≡ None) × (e' ≡ e)
or_missed None e e' p = (refl, cc)
or_missed (Some x) e e' p = absurd cc

-- ---- the word at a place

no_length : (top low : ℕ) (s : List ℕ) → headed_to top low s ≡ false → None ≡ length_word_of top low s
unfolding length_word_of
no_length top low s e = rw e

not_headed : (top low : ℕ) (s : List ℕ) → (HeadedTo top low s → ⊥) → None ≡ length_word_of top low s
not_headed top low s f = no_length top low s (failing (headed_to top low s) (headed_to_exactly top low s) f)

module _ (top low : ℕ) (b : List ℕ) (i : ℕ) where
  -- the ways in which there is no word
  pub word_short : 4 ≤ low → length b < i + 4 → None ≡ length_word_of top low (drop i b)
  word_short l h = no_length top low (drop i b) (headed_to_short top low b i l h)

  module _ (v : ℕ) (says : v ≡ 256 * get_or b i 0 + get_or b (i + 1) 0) where
    pub word_low : v < low → None ≡ length_word_of top low (drop i b)
    word_low l = not_headed top low (drop i b) (λ h. omega (arith, h.least, word_length_at b i))

    pub word_high : length b - i < v → None ≡ length_word_of top low (drop i b)
    word_high l = not_headed top low (drop i b) (λ h. omega (arith, h.most, word_length_at b i, length-drop i b))

    pub word_good : low ≤ v → v ≤ length b - i → get_or b (i + 2) 0 ≤ top → get_or b (i + 3) 0 ≡ 0 → Some v ≡ length_word_of top low (drop i b)
    unfolding length_word_of
    word_good l m x y =
        let h : headed_to top low (drop i b) ≡ true =
        (headed_to_exactly top low (drop i b)).1
        (record {
          least = omega (arith, word_length_at b i);
          most = omega (arith, word_length_at b i, length-drop i b);
          third = omega (arith, get_or-drop i b 2 0);
          fourth = get_or-drop i b 3 0 ∙ y;
        }) in
        rw (h, word_length_at b i, ← says)

  pub word_third : top < get_or b (i + 2) 0 → None ≡ length_word_of top low (drop i b)
  word_third l = not_headed top low (drop i b) (λ h. omega (arith, h.third, get_or-drop i b 2 0))

  pub word_fourth : (get_or b (i + 3) 0 ≡ 0 → ⊥) → None ≡ length_word_of top low (drop i b)
  word_fourth f = not_headed top low (drop i b) (λ h. f (sym (get_or-drop i b 3 0) ∙ h.fourth))

-- what a reading says of the word
pub length_told : (top low : ℕ) (s : List ℕ) (v : ℕ) → length_word_of top low s ≡ Some v → (headed_to top low s ≡ true) × (v ≡ word_length s)
unfolding length_word_of
length_told top low s v e = go (headed_to top low s) refl
  where
    go : (t : Bool) → headed_to top low s ≡ t → (headed_to top low s ≡ true) × (v ≡ word_length s)
    go true t = let e' : Some (word_length s) ≡ Some v = rw t at e in (t, cc)
    go false t = let e' : None ≡ Some v = rw t at e in let z : ◌≡◌ {A = ℕ} 0 1 = cc in absurd (omega arith)

pub none_told : (top low : ℕ) (s : List ℕ) → length_word_of top low s ≡ None → headed_to top low s ≡ false
unfolding length_word_of
none_told top low s e = never_true (headed_to top low s) (λ t. let e' : Some (word_length s) ≡ None = rw t at e in let z : ◌≡◌ {A = ℕ} 0 1 = cc in omega arith)

pub length_within : (top low : ℕ) (s : List ℕ) (v : ℕ) → length_word_of top low s ≡ Some v → (low ≤ v) × (v ≤ length s)
length_within top low s v e =
    let h = length_told top low s v e in
    let w = (headed_to_exactly top low s).0 h.0 in
    (omega (arith, w.least, h.1), omega (arith, w.most, h.1))

-- ---- where the pieces begin

pub start_good : (f : Format) (b : List ℕ) → good_start f b ≡ true → Some (record { at = cost f }) ≡ start_in f b
unfolding start_in
start_good f b e = rw e

pub start_bad : (f : Format) (b : List ℕ) → good_start f b ≡ false → None ≡ start_in f b
unfolding start_in
start_bad f b e = rw e

pub variable_good : (b : List ℕ) (v : ℕ) → length_word_of 0 4 b ≡ Some v → v ≡ length b → Some (record { at = 4 }) ≡ variable_start b
variable_good b v e l =
    let h = length_told 0 4 b v e in
    start_good fv b (rw h.0 (eq-eqb (word_length b) (length b) (sym h.1 ∙ l)))

pub variable_other : (b : List ℕ) (v : ℕ) → length_word_of 0 4 b ≡ Some v → (v ≡ length b → ⊥) → None ≡ variable_start b
variable_other b v e f =
    let h = length_told 0 4 b v e in
    start_bad fv b (rw h.0 (ne_eqb (word_length b) (length b) (λ q. f (h.1 ∙ q))))

pub variable_none : (b : List ℕ) → length_word_of 0 4 b ≡ None → None ≡ variable_start b
variable_none b e = start_bad fv b (rw (none_told 0 4 b e))

pub variable_said : (b : List ℕ) (v : ℕ) → length_word_of 0 4 b ≡ Some v → then_some (eqb v (length b)) (record { at = 4 }) ≡ variable_start b
variable_said b v e = go (eqb v (length b)) refl
  where
    go : (t : Bool) → eqb v (length b) ≡ t → then_some (eqb v (length b)) (record { at = 4 }) ≡ variable_start b
    go true t = rw t (variable_good b v e (eqb-true v (length b) t))
    go false t = rw t (variable_other b v e (eqb-false v (length b) t))

-- what a reading says of the block's word
pub start_told : (b : List ℕ) (c : Cursor) → variable_start b ≡ Some c → (good_start fv b ≡ true) × (c.at ≡ 4)
start_told b c e = go (good_start fv b) refl
  where
    go : (t : Bool) → good_start fv b ≡ t → (good_start fv b ≡ true) × (c.at ≡ 4)
    go true t = let e' : Some (record { at = 4 }) ≡ Some c = start_good fv b t ∙ e in let q : record { at = 4 } ≡ c = cc in (t, ap (λ (x : Cursor). x.at) (sym q))
    go false t = let e' : None ≡ Some c = start_bad fv b t ∙ e in let z : ◌≡◌ {A = ℕ} 0 1 = cc in absurd (omega arith)

pub start_untold : (b : List ℕ) → variable_start b ≡ None → good_start fv b ≡ false
start_untold b e = never_true (good_start fv b) (λ t. let e' : Some (record { at = 4 }) ≡ None = start_good fv b t ∙ e in let z : ◌≡◌ {A = ℕ} 0 1 = cc in omega arith)

-- ---- the piece at a place

module _ (f : Format) (n : ℕ) (b : List ℕ) (i : ℕ) where
  pub piece_end : length b ≤ i → Ok None ≡ piece_in f n b i
  unfolding piece_in
  piece_end l = rw (le-leb (length b) i l)

  pub piece_good : i < length b → good_from f n b i ≡ true → i < behind (piece_from f n b i) → found (piece_from f n b i) ≡ piece_in f n b i
  unfolding piece_in
  piece_good l e h = rw (lt-leb (length b) i l, e, lt-ltb i (behind (piece_from f n b i)) h)

  pub piece_bad : i < length b → good_from f n b i ≡ false → bad ≡ piece_in f n b i
  unfolding piece_in
  piece_bad l e = rw (lt-leb (length b) i l, e)

-- in FF
pub fixed_zero : (n i end : ℕ) → n ≡ 0 → Err (record {}) ≡ fixed_piece n i end
unfolding fixed_piece
fixed_zero n i end e = go (leb (i + n) end) refl
  where
    go : (t : Bool) → leb (i + n) end ≡ t → Err (record {}) ≡ fixed_piece n i end
    go true t = rw (t, le-ltb i (i + n) (omega arith))
    go false t = rw t

pub fixed_over : (n i end : ℕ) → end < i + n → Err (record {}) ≡ fixed_piece n i end
unfolding fixed_piece
fixed_over n i end l = rw (lt-leb (i + n) end l)

pub fixed_good : (n i end : ℕ) → (n ≡ 0 → ⊥) → i + n ≤ end → Ok (record { place = i; length = n; third = 0; next = record { at = i + n } }) ≡ fixed_piece n i end
unfolding fixed_piece
fixed_good n i end f l = rw (le-leb (i + n) end l, lt-ltb i (i + n) (omega arith))

pub fixed_here : (n : ℕ) (b : List ℕ) (i : ℕ) → i < length b → given (fixed_piece n i (length b)) ≡ piece_in ff n b i
unfolding fixed_piece piece_in
fixed_here n b i l = rw (lt-leb (length b) i l) (go (leb (i + n) (length b) && ltb i (i + n)))
  where
    go : (t : Bool) → given (cond t (Ok (piece_of (piece_from ff n b i))) (Err (record {}))) ≡ cond t (found (piece_from ff n b i)) bad
    go true = refl
    go false = refl

-- in FV and in FS: a word and the data behind it
module _ (top : ℕ) (b : List ℕ) (i : ℕ) where
  pub worded_end : length b ≤ i → Ok None ≡ worded_in top b i
  unfolding worded_in
  worded_end l = rw (le-leb (length b) i l)

  pub worded_good : i < length b → headed_to top 5 (drop i b) ≡ true → found (piece_at i (drop i b)) ≡ worded_in top b i
  unfolding worded_in
  worded_good l e = rw (lt-leb (length b) i l, e)

  pub worded_bad : i < length b → headed_to top 5 (drop i b) ≡ false → bad ≡ worded_in top b i
  unfolding worded_in
  worded_bad l e = rw (lt-leb (length b) i l, e)

pub variable_piece : (top : ℕ) (b : List ℕ) (i v t : ℕ) → i < length b → length_word_of top 5 (drop i b) ≡ Some v → t ≡ get_or b (i + 2) 0
    → Ok (Some (record { place = i + 4; length = v - 4; third = t; next = record { at = i + v } })) ≡ worded_in top b i
variable_piece top b i v t l e x =
    let h = length_told top 5 (drop i b) v e in
    let w = (headed_to_exactly top 5 (drop i b)).0 h.0 in
    let q : i + v ≡ i + 4 + (word_length (drop i b) - 4) = omega (arith, w.least, h.1) in
    let third : t ≡ get_or (drop i b) 2 0 = x ∙ sym (get_or-drop i b 2 0) in
    rw (q, third, h.1) (worded_good top b i l h.0)

pub variable_bad : (top : ℕ) (b : List ℕ) (i : ℕ) → i < length b → length_word_of top 5 (drop i b) ≡ None → bad ≡ worded_in top b i
variable_bad top b i l e = worded_bad top b i l (none_told top 5 (drop i b) e)

-- what a reading says of the word
module _ (top : ℕ) (b : List ℕ) (i : ℕ) where
  pub worded_told : (x : FoundPiece) → worded_in top b i ≡ Ok (Some x)
      → (i < length b) × (headed_to top 5 (drop i b) ≡ true) × (piece_of (piece_at i (drop i b)) ≡ x)
  worded_told x e = go (leb (length b) i) refl (headed_to top 5 (drop i b)) refl
    where
      go : (t : Bool) → leb (length b) i ≡ t → (u : Bool) → headed_to top 5 (drop i b) ≡ u
          → (i < length b) × (headed_to top 5 (drop i b) ≡ true) × (piece_of (piece_at i (drop i b)) ≡ x)
      go true t u h = let z : Ok None ≡ Ok (Some x) = worded_end top b i (leb-true (length b) i t) ∙ e in let y : ◌≡◌ {A = ℕ} 0 1 = cc in absurd (omega arith)
      go false t true h = let l = leb-false (length b) i t in let z : found (piece_at i (drop i b)) ≡ Ok (Some x) = worded_good top b i l h ∙ e in (l, h, cc)
      go false t false h = let z : bad ≡ Ok (Some x) = worded_bad top b i (leb-false (length b) i t) h ∙ e in let y : ◌≡◌ {A = ℕ} 0 1 = cc in absurd (omega arith)

  pub worded_untold : worded_in top b i ≡ bad → (i < length b) × (headed_to top 5 (drop i b) ≡ false)
  worded_untold e = go (leb (length b) i) refl (headed_to top 5 (drop i b)) refl
    where
      go : (t : Bool) → leb (length b) i ≡ t → (u : Bool) → headed_to top 5 (drop i b) ≡ u → (i < length b) × (headed_to top 5 (drop i b) ≡ false)
      go true t u h = let z : Ok None ≡ bad = worded_end top b i (leb-true (length b) i t) ∙ e in let y : ◌≡◌ {A = ℕ} 0 1 = cc in absurd (omega arith)
      go false t true h =
          let z : found (piece_at i (drop i b)) ≡ bad = worded_good top b i (leb-false (length b) i t) h ∙ e in
          let y : ◌≡◌ {A = ℕ} 0 1 = cc in
          absurd (omega arith)
      go false t false h = (leb-false (length b) i t, h)

-- in FV the third byte is 0
pub variable_here : (n : ℕ) (b : List ℕ) (i : ℕ) → i < length b → worded_in 0 b i ≡ piece_in fv n b i
variable_here n b i l = go (headed_to 0 5 (drop i b)) refl
  where
    go : (t : Bool) → headed_to 0 5 (drop i b) ≡ t → worded_in 0 b i ≡ piece_in fv n b i
    go true t =
        let w = (headed_to_exactly 0 5 (drop i b)).0 t in
        sym (worded_good 0 b i l t) ∙ piece_good fv n b i l t (omega (arith, w.least))
    go false t = sym (worded_bad 0 b i l t) ∙ piece_bad fv n b i l t

-- in FU
pub undefined_piece : (n : ℕ) (b : List ℕ) (i : ℕ) → i < length b → Ok (Some (record { place = i; length = length b - i; third = 0; next = record { at = length b } })) ≡ piece_in fu n b i
undefined_piece n b i l =
    ap (λ (x : ℕ). Ok (Some (record { place = i; length = length b - i; third = 0; next = record { at = x } }))) (let z : length b ≡ i + (length b - i) = omega arith in z)
    ∙ piece_good fu n b i l refl (omega arith)

-- what a reading was, from its `ok`
pub read_ok : (r : PieceRead) (o : Maybe FoundPiece) → Some o ≡ result_ok r → r ≡ Ok o
read_ok (Ok x) o e = cc
read_ok (Err x) o e = cc

pub read_bad : (r : PieceRead) → None ≡ result_ok r → r ≡ bad
read_bad (Ok x) e = cc
read_bad (Err x) e = refl

-- ---- the readings one after the other are the pieces of the rules

-- what a reading says of the pieces from its place on
abbrev pub followed : Format → ℕ → List ℕ → PieceRead → Option (List Piece)
followed f n b (Ok (Some x)) = with_piece (record { place = x.place; size = x.length; third = x.third }) (pieces_at f n b x.next.at)
followed f n b (Ok None) = some []
followed f n b (Err e) = none

module _ (f : Format) (n : ℕ) (b : List ℕ) (i : ℕ) where
  pub pieces_read : pieces_at f n b i ≡ followed f n b (piece_in f n b i)
  unfolding piece_in
  pieces_read = go (leb (length b) i) refl
    where
      here : i < length b → (t : Bool) → good_from f n b i ≡ t → (u : Bool) → ltb i (behind (piece_from f n b i)) ≡ u → pieces_at f n b i ≡ followed f n b (piece_in f n b i)
      here l false t u q = rw (lt-leb (length b) i l, t) (pieces_bad f n b i l t)
      here l true t false q = rw (lt-leb (length b) i l, t, q) (pieces_none f n b i l t (ltb-false i (behind (piece_from f n b i)) q))
      here l true t true q = rw (lt-leb (length b) i l, t, q) (pieces_good f n b i (takes_some f n b i (ltb-true i (behind (piece_from f n b i)) q)) l t)

      go : (t : Bool) → leb (length b) i ≡ t → pieces_at f n b i ≡ followed f n b (piece_in f n b i)
      go true t = pieces_end f n b i (leb-true (length b) i t) ∙ ap (followed f n b) (piece_end f n b i (leb-true (length b) i t))
      go false t = here (leb-false (length b) i t) (good_from f n b i) refl (ltb i (behind (piece_from f n b i))) refl

-- a piece lies behind its place, inside the block, and the next place is behind it
abbrev pub further : ℕ → ℕ → PieceRead → Type 0
further i most (Ok (Some x)) = (i ≤ x.place) × (x.place + x.length ≡ x.next.at) × (i < x.next.at) × (x.next.at ≤ most)
further i most (Ok None) = most ≤ i
further i most (Err e) = i < most

pub piece_further : (f : Format) (n : ℕ) (b : List ℕ) (i : ℕ) → further i (length b) (piece_in f n b i)
unfolding piece_in
piece_further f n b i = go (leb (length b) i) refl
  where
    here : i < length b → (t : Bool) → good_from f n b i ≡ t → (u : Bool) → ltb i (behind (piece_from f n b i)) ≡ u → further i (length b) (piece_in f n b i)
    here l false t u q = rw (lt-leb (length b) i l, t) l
    here l true t false q = rw (lt-leb (length b) i l, t, q) l
    here l true t true q =
        let w = good_inside f n b i (takes_some f n b i (ltb-true i (behind (piece_from f n b i)) q)) l t in
        rw (lt-leb (length b) i l, t, q) (w.0, refl, w.1, w.2)

    go : (t : Bool) → leb (length b) i ≡ t → further i (length b) (piece_in f n b i)
    go true t = rw t (leb-true (length b) i t)
    go false t = here (leb-false (length b) i t) (good_from f n b i) refl (ltb i (behind (piece_from f n b i))) refl

-- in FV and in FS alike: the readings one after the other are the walk of the rules
abbrev pub walked : ℕ → List ℕ → PieceRead → Option (List Piece)
walked top b (Ok (Some x)) = with_piece (record { place = x.place; size = x.length; third = x.third }) (walk_at top b x.next.at)
walked top b (Ok None) = some []
walked top b (Err e) = none

module _ (top : ℕ) (b : List ℕ) (i : ℕ) where
  pub walk_read : walk_at top b i ≡ walked top b (worded_in top b i)
  walk_read = go (leb (length b) i) refl (headed_to top 5 (drop i b)) refl
    where
      go : (t : Bool) → leb (length b) i ≡ t → (u : Bool) → headed_to top 5 (drop i b) ≡ u → walk_at top b i ≡ walked top b (worded_in top b i)
      go true t u h = let l = leb-true (length b) i t in walk_at_end top b i l ∙ ap (walked top b) (worded_end top b i l)
      go false t true h =
          let l = leb-false (length b) i t in
          let w = (headed_to_exactly top 5 (drop i b)).0 h in
          let q : i + word_length (drop i b) ≡ i + 4 + (word_length (drop i b) - 4) = omega (arith, w.least) in
          walk_at_good top b i h ∙ ap (λ (n : ℕ). with_piece (piece_at i (drop i b)) (walk_at top b n)) q ∙ ap (walked top b) (worded_good top b i l h)
      go false t false h = let l = leb-false (length b) i t in walk_at_bad top b i l h ∙ ap (walked top b) (worded_bad top b i l h)

  pub worded_further : further i (length b) (worded_in top b i)
  worded_further = go (leb (length b) i) refl (headed_to top 5 (drop i b)) refl
    where
      go : (t : Bool) → leb (length b) i ≡ t → (u : Bool) → headed_to top 5 (drop i b) ≡ u → further i (length b) (worded_in top b i)
      go true t u h = let l = leb-true (length b) i t in subst (further i (length b)) (worded_end top b i l) l
      go false t true h =
          let l = leb-false (length b) i t in
          let w = (headed_to_exactly top 5 (drop i b)).0 h in
          let d = length-drop i b in
          subst (further i (length b)) (worded_good top b i l h) (omega arith, refl, omega (arith, w.least), omega (arith, w.least, w.most))
      go false t false h = let l = leb-false (length b) i t in subst (further i (length b)) (worded_bad top b i l h) l

-- in FS no piece is a record by itself
pub spanned_piece : (n : ℕ) (b : List ℕ) (i : ℕ) → i < length b → bad ≡ piece_in fsp n b i
spanned_piece n b i l = piece_bad fsp n b i l refl

-- what the start says of the pieces of a block
abbrev pub begun : Format → ℕ → List ℕ → StartRead → Option (List Piece)
begun f n b (Some c) = pieces_at f n b c.at
begun f n b None = none

pub pieces_begun : (f : Format) (n : ℕ) (b : List ℕ) → 1 ≤ length b → pieces_in f n b ≡ begun f n b (start_in f b)
unfolding start_in
pieces_begun f n b l = pieces_start f n b l ∙ go (good_start f b) refl
  where
    go : (t : Bool) → good_start f b ≡ t → cond (good_start f b) (pieces_at f n b (cost f)) none ≡ begun f n b (start_in f b)
    go true t = rw t
    go false t = rw t
