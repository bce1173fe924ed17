-- A block's place in the output reel: it starts behind the bytes of the blocks before it, and there its offset points. By going along the blocks.
use mathlib.Core.Path.{◌≡◌, refl, ap, sym, ◌∙◌}
use mathlib.Core.List.{List, [], ◌∷◌, ◌++◌, append-nil, append_assoc}
use Prim.Native.Nat.{ℕ, ◌+◌, ◌*◌}
use native.Mathlib.Omega.{arith}
use lib.ListN.{length, length-append}
use Rattle.rules.specs.Base.{joined}
use Rattle.rules.specs.Reel.{word, offset_words}
use Rattle.rules.proofs.Reel.WordLaws.{length_word}

-- the offsets at which blocks start, where the first starts at a
abbrev pub heads : ℕ → List (List ℕ) → List ℕ
heads a [] = []
heads a (b ∷ bs) = word a ++ heads (a + length b) bs

pub length_heads : (a : ℕ) (bs : List (List ℕ)) → length (heads a bs) ≡ 4 * length bs
length_heads a [] = refl
length_heads a (b ∷ bs) = omega (arith, length-append (word a) (heads (a + length b) bs), length_word a, length_heads (a + length b) bs)

-- the next block starts behind the bytes of all before it
pub heads_snoc : (a : ℕ) (bs : List (List ℕ)) (b : List ℕ) → heads a (bs ++ (b ∷ [])) ≡ heads a bs ++ word (a + length (joined bs))
heads_snoc a [] b = append-nil (word a) ∙ ap word (let z : a ≡ a + 0 = omega arith in z)
heads_snoc a (x ∷ bs) b =
    ap (word a ++◌)
    (heads_snoc (a + length x) bs b
    ∙ ap (λ (k : ℕ). heads (a + length x) bs ++ word k) (let z : a + length x + length (joined bs) ≡ a + length (x ++ joined bs) = omega (arith, length-append x (joined bs)) in z))
    ∙ sym (append_assoc (word a) (heads (a + length x) bs) (word (a + length (x ++ joined bs))))

-- and the last offset says where the last block offsetWords
pub heads_ends : (a : ℕ) (bs : List (List ℕ)) → heads a bs ++ word (a + length (joined bs)) ≡ offset_words a bs
heads_ends a [] = ap word (let z : a + 0 ≡ a = omega arith in z)
heads_ends a (x ∷ bs) =
    append_assoc (word a) (heads (a + length x) bs) (word (a + length (x ++ joined bs)))
    ∙ ap (word a ++◌)
    (ap (λ (k : ℕ). heads (a + length x) bs ++ word k) (let z : a + length (x ++ joined bs) ≡ a + length x + length (joined bs) = omega (arith, length-append x (joined bs)) in z)
    ∙ heads_ends (a + length x) bs)
