-- What the header of a reel is read as, for each outcome of the test; and that the parts between its offsets are the blocks of the rules.
use mathlib.Core.Path.{◌≡◌, refl, ap, sym, ◌∙◌}
use mathlib.Core.Bool.{Bool, true, false}
use mathlib.Core.List.{List, [], ◌∷◌}
use mathlib.Core.Logic.{◌⊎◌, inl, inr}
use denote.Bor.{Bor}
use Prim.Native.Nat.{ℕ, suc, ◌+◌, ◌-◌, ◌*◌, ◌≤◌, ◌<◌}
use native.Mathlib.Omega.{arith}
use lib.ListN.{length, take, drop, get_or, length-take, drop_of_length-le}
use lib.Seq.{slice}
use lib.Dec.{leb}
use borrow.Author.Tests.{le-leb, lt-leb, leb-true, leb-false}
use Rattle.rules.specs.Reel.{block_count, is_reel, blocks_of}
use Rattle.rules.specs.ReelPlaces.{word_at, offset_at}
use Rattle.rules.proofs.Base.Lists.{slice_part}
use Rattle.rules.proofs.Reel.HeaderSteps.{next_at}
use Rattle.rules.proofs.Reel.ReelLaws.{header_is}
use Rattle.rules.proofs.Reel.ReelSteps.{offset_most, blocks_step, block_at, length_block}
use Rattle.rules.proofs.Base.Tests.{never_true}
use Rattle.reels.specs.Header.{header_of, block_part}
use Rattle.std.specs.Prelude.{Option, Some, None, MatchOption, slice_range, unwrap_or}
use Rattle.std.specs.Bool.{then_some}

pub no_reel : (s : List ℕ) → is_reel s ≡ false → None ≡ header_of s
unfolding header_of
no_reel s e = rw e

pub a_reel : (s : List ℕ) (k : ℕ) → is_reel s ≡ true → block_count s ≡ k → Some k ≡ header_of s
unfolding header_of
a_reel s k e c = rw (e, c)

-- the last test decides
pub header_said : (s : List ℕ) (k : ℕ) (t : Bool) → is_reel s ≡ t → block_count s ≡ k → then_some t k ≡ header_of s
header_said s k true e c = a_reel s k e c
header_said s k false e c = no_reel s e

-- what a reading says
pub reel_told : (s : List ℕ) (k : ℕ) → header_of s ≡ Some k → (is_reel s ≡ true) × (block_count s ≡ k)
unfolding header_of
reel_told s k e = go (is_reel s) refl
  where
    go : (t : Bool) → is_reel s ≡ t → (is_reel s ≡ true) × (block_count s ≡ k)
    go true t = let e' : Some (block_count s) ≡ Some k = rw t at e in (t, cc)
    go false t = let e' : None ≡ Some k = rw t at e in let z : ◌≡◌ {A = ℕ} 0 1 = cc in absurd (omega arith)

pub no_reel_told : (s : List ℕ) → header_of s ≡ None → is_reel s ≡ false
unfolding header_of
no_reel_told s e = never_true (is_reel s) (λ t. let e' : Some (block_count s) ≡ None = rw t at e in let z : ◌≡◌ {A = ℕ} 0 1 = cc in omega arith)

-- ---- the parts between the offsets

pub part_there : (s : List ℕ) (i : ℕ) → 4 * i + 12 ≤ length s → offset_at s (suc i) ≤ length s → block_part s i ≡ slice (offset_at s i) (offset_at s (suc i)) s
unfolding block_part
part_there s i l m = rw (le-leb (4 * i + 12) (length s) l, le-leb (offset_at s (suc i)) (length s) m)

-- the ways in which there is no part
pub words_missing : (s : List ℕ) (i : ℕ) → length s < 4 * i + 12 → [] ≡ block_part s i
unfolding block_part
words_missing s i l = rw (lt-leb (4 * i + 12) (length s) l)

pub part_outside : (s : List ℕ) (i e : ℕ) → 4 * i + 12 ≤ length s → e ≡ word_at s (4 * i + 8) → length s < e → [] ≡ block_part s i
unfolding block_part
part_outside s i e l n m = rw (le-leb (4 * i + 12) (length s) l, lt-leb (offset_at s (suc i)) (length s) (omega (arith, next_at s i)))

pub part_backwards : (s : List ℕ) (i a e : ℕ) → 4 * i + 12 ≤ length s → a ≡ word_at s (4 * i + 4) → e ≡ word_at s (4 * i + 8) → e ≤ length s → e < a → [] ≡ block_part s i
part_backwards s i a e l f n m d =
    let o : offset_at s (suc i) ≡ e = next_at s i ∙ sym n in
    let z : length (take (offset_at s (suc i)) s) ≤ offset_at s i = omega (arith, length-take (offset_at s (suc i)) s) in
    sym (part_there s i l (omega arith) ∙ drop_of_length-le (take (offset_at s (suc i)) s) {i = offset_at s i} z)

pub part_taken : (s : List ℕ) (i a e : ℕ) → 4 * i + 12 ≤ length s → a ≡ word_at s (4 * i + 4) → e ≡ word_at s (4 * i + 8) → e ≤ length s → a ≤ e
    → take (e - a) (drop a s) ≡ block_part s i
part_taken s i a e l f n m d =
    let o : offset_at s (suc i) ≡ e = next_at s i ∙ sym n in
    sym (part_there s i l (omega arith) ∙ ap (λ (x : ℕ). slice (offset_at s i) x s) o ∙ ap (λ (x : ℕ). slice x e s) (sym f) ∙ slice_part a e s d)

part_missing : (s : List ℕ) (i a e : ℕ) → 4 * i + 12 ≤ length s → a ≡ word_at s (4 * i + 4) → e ≡ word_at s (4 * i + 8) → (e < a) ⊎ (length s < e) → [] ≡ block_part s i
part_missing s i a e l f n (inr m) = part_outside s i e l n m
part_missing s i a e l f n (inl m) = go (leb e (length s)) refl
  where
    go : (t : Bool) → leb e (length s) ≡ t → [] ≡ block_part s i
    go true t = part_backwards s i a e l f n (leb-true e (length s) t) m
    go false t = part_outside s i e l n (leb-false e (length s) t)

-- what `get` gives, or no byte
pub part_got : (s : List ℕ) (i a e : ℕ) → 4 * i + 12 ≤ length s → a ≡ word_at s (4 * i + 4) → e ≡ word_at s (4 * i + 8) → (r : Option (Bor (List ℕ))) (d : Bor (List ℕ)) → [] ≡ d.now
    → MatchOption r ((e < a) ⊎ (length s < e)) (λ x. (a ≤ e) × (e ≤ length s) × (x.now ≡ slice_range s a e) × (length x.now + a ≡ e)) → (unwrap_or r d).now ≡ block_part s i
part_got s i a e l f n None d z h = sym z ∙ part_missing s i a e l f n h
part_got s i a e l f n (Some x) d z h = h.2 ∙ part_taken s i a e l f n h.1 h.0

-- block i of a reel is the part between offset i and offset i+1
pub part_is : (s : List ℕ) (i : ℕ) → is_reel s ≡ true → i < block_count s → block_part s i ≡ slice (offset_at s i) (offset_at s (suc i)) s
part_is s i e l = part_there s i (omega (arith, (header_is s e).there)) (omega (arith, offset_most s e (suc i) l))

pub part_block : (s : List ℕ) (i : ℕ) → is_reel s ≡ true → i < block_count s → block_part s i ≡ get_or (blocks_of s) i []
part_block s i e l = part_is s i e l ∙ sym (block_at s e i l)

pub part_length : (s : List ℕ) (i : ℕ) → is_reel s ≡ true → i < block_count s → length (block_part s i) ≡ offset_at s (suc i) - offset_at s i
part_length s i e l = ap length (part_block s i e l) ∙ length_block s e i l

-- the walk over the blocks
pub part_step : (s : List ℕ) (i : ℕ) → is_reel s ≡ true → i < block_count s → drop i (blocks_of s) ≡ block_part s i ∷ drop (suc i) (blocks_of s)
part_step s i e l = blocks_step s e i l ∙ ap (◌∷ drop (suc i) (blocks_of s)) (sym (part_is s i e l))
