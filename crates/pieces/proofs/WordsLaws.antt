-- The four bytes of a number, and of a length with a code, are its word.
use mathlib.Core.Path.{◌≡◌, ap, sym}
use mathlib.Core.List.{List, [], ◌∷◌}
use Prim.Native.Nat.{ℕ, ◌/◌, ◌%◌, ◌<◌}
use native.Mathlib.Omega.{arith}
use Rattle.std.specs.Int.{w32, to_be_bytes}
use Rattle.rules.specs.Halves.{over}
use Rattle.rules.specs.Reel.{word}
use Rattle.rules.specs.Output.{length_word}
use Rattle.rules.specs.Spanned.{coded_word}
use Rattle.rules.proofs.Blocks.BlockWords.{word_fv}

pub four_word : (n : ℕ) → to_be_bytes w32 (n % 0x100000000) ≡ word n
unfolding word
four_word n =
    let a : n % 0x100000000 / 0x1000000 % 0x100 ≡ n / 0x1000000 % 0x100 = omega arith in
    let b : n % 0x100000000 / 0x10000 % 0x100 ≡ n / 0x10000 % 0x100 = omega arith in
    let c : n % 0x100000000 / 0x100 % 0x100 ≡ n / 0x100 % 0x100 = omega arith in
    let d : n % 0x100000000 % 0x100 ≡ n % 0x100 = omega arith in
    cc

pub four_coded : (c n : ℕ) → n < 65536 → (n / 256 % 256) ∷ (n % 256) ∷ c ∷ 0 ∷ [] ≡ coded_word c n
unfolding coded_word
four_coded c n l = let a : n / 256 % 256 ≡ n / 256 = omega arith in cc

pub coded_length : (at n : ℕ) (out : List ℕ) → over at (coded_word 0 n) out ≡ over at (length_word n) out
coded_length at n out = ap (λ (w : List ℕ). over at w out) (sym (word_fv n))
