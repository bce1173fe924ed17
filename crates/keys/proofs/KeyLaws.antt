-- What callers have of key and data joined: within their limits it is what the rules say, the key is never longer than 4,096, and 16 bits hold the numbers of a
-- field that counts through. By whether there is a key.
use mathlib.Core.Path.{◌≡◌, refl}
use mathlib.Core.Bool.{Bool, true, false, cond}
use Prim.Native.Nat.{ℕ, ◌≤◌}
use native.Mathlib.Omega.{arith}
use lib.Dec.{leb}
use borrow.Author.Tests.{leb-true, le-leb}
use Rattle.rules.specs.Grammar.{Format, CardField}
use Rattle.rules.specs.Plan.{joined_size, key_length}
use Rattle.rules.specs.Rows.{InputWithin, FieldWithin}
use Rattle.terms.specs.declared.Input.{Input}
use Rattle.terms.specs.declared.Input.TheVariants.{Plain, Keyed}
use Rattle.terms.specs.Meaning.{size_of, input_of, laid}
use Rattle.terms.proofs.Laid.{laid_within}
use Rattle.rows.specs.Flat.{Short}
use Rattle.rows.proofs.RowLaws.{short_one}
use Rattle.keys.specs.Keys.{joined_of, key_of}

-- ---- A, within its limits

pub joined_is : (f : Format) (i : Input) → InputWithin f (input_of i) → size_of (joined_of i) ≡ joined_size (input_of i)
joined_is f (Plain s) w = refl
joined_is f (Keyed k d) w = rw (le-leb k 4096 w.0.1, le-leb d 4096 w.1.1)

pub key_told : (f : Format) (i : Input) → InputWithin f (input_of i) → key_of i ≡ key_length (input_of i)
key_told f (Plain s) w = refl
key_told f (Keyed k d) w = rw (le-leb k 4096 w.0.1)

-- a key that is kept is within its limits
pub key_most : (i : Input) → key_of i ≤ 4096
key_most (Plain s) = omega arith
key_most (Keyed k d) = go (leb k 4096) refl
  where
    go : (t : Bool) → leb k 4096 ≡ t → cond (leb k 4096) k 0 ≤ 4096
    go true e = rw e (leb-true k 4096 e)
    go false e = rw e (omega arith)

-- ---- a field, within its limits

pub laid_short : (key : ℕ) (f : CardField) → key ≤ 4096 → FieldWithin f.field → Short (laid key f)
unfolding laid
laid_short key f h w =
    let own = short_one f.field w in
    let place = laid_within key f h w in
    record { r = omega (arith, place.high); input = own.input; output = own.output; t = own.t }
