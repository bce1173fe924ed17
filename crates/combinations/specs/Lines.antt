-- The lines of the combinations, as the code asks them: some together, and those of FF only where A and B have two numbers each.
use Rattle.std.specs.Prelude.{Bool, true, false, cond, not, ◌&&◌, ◌≡◌, ℕ, ◌+◌, ◌/◌, ◌%◌, ◌≤◌, leb, eqb, min, Option, Some, None}
use Rattle.rules.specs.Grammar.{Mode, tc, tf, tr, trf, Format, ff, fv, fu, fsp, Size}
use Rattle.rules.specs.Plan.{is_tc, is_ff, is_fu, selects, numbers, wanted, record_length, block_length}

-- FU only with TC. TC only with R1
abbrev pub copy_lines : Mode → Format → ℕ → Bool
copy_lines t f first = cond (is_tc t) (eqb first 1) (not (is_fu f))

-- FF: two numbers each. FU and FS: one. FV: two with TF or TRF, else one
abbrev pub count_line : Mode → Format → Size → Size → Bool
count_line t f a b = eqb (numbers a) (wanted t f) && eqb (numbers b) (wanted t f)

abbrev pub lengths_equal : Size → Size → Bool
lengths_equal a b = eqb (record_length a) (record_length b) && eqb (block_length a) (block_length b)

-- TF with FF: equal m divided by n. TR with FF: equal record lengths
abbrev pub alike : Mode → ℕ → ℕ → ℕ → ℕ → Bool
alike tc n m n2 m2 = true
alike tf n m n2 m2 = eqb (m / n) (m2 / n2)
alike tr n m n2 m2 = eqb n n2
alike trf n m n2 m2 = true

-- FF: m a multiple of n, in A and in B; and these
abbrev pub fixed_lines : Mode → ℕ → ℕ → ℕ → ℕ → Bool
fixed_lines t n m n2 m2 = eqb (m % n) 0 && eqb (m2 % n2) 0 && alike t n m n2 m2

-- by the format; FV has two numbers with TF or TRF only; FS only with TC and TR
abbrev pub format_lines : Mode → Format → Size → Size → Bool
format_lines t ff a b = fixed_lines t (record_length a) (block_length a) (record_length b) (block_length b)
format_lines t fv a b = cond (selects t) (leb (record_length a + 8) (block_length a) && leb (record_length b + 8) (block_length b)) true
format_lines t fu a b = true
format_lines t fsp a b = not (selects t)

-- numbers within their limits
pub record FormatFair (a b : Size) : Type 0 where
  pub some_a : numbers a ≡ 2 → 1 ≤ record_length a
  pub some_b : numbers b ≡ 2 → 1 ≤ record_length b
  pub most_a : record_length a ≤ 4096
  pub most_b : record_length b ≤ 4096

-- TC: A equals B
abbrev pub copy_equal : Mode → Size → Size → Bool
copy_equal t a b = cond (is_tc t) (lengths_equal a b) true

-- TF and TRF need an FS card
abbrev pub card_line : Mode → ℕ → Bool
card_line t fs = cond (selects t) (not (eqb fs 0)) true

-- all of them
unfoldable pub all_lines : Mode → Format → Size → Size → ℕ → ℕ → Bool
all_lines t f a b first fs = copy_lines t f first && (count_line t f a b && (copy_equal t a b && (card_line t fs && format_lines t f a b)))

-- keys only in FF with TF or TRF; 0 is no key
abbrev pub key_line : Mode → Format → ℕ → Bool
key_line t f key = cond (eqb key 0) true (cond (selects t) (is_ff f) false)

-- the lower of two cards
abbrev pub lower_of : Option ℕ → Option ℕ → Option ℕ
lower_of None b = b
lower_of (Some x) None = Some x
lower_of (Some x) (Some y) = Some (min x y)
