-- How an item of an FS card is read by its first bytes: the other readers stop at the first byte or behind the bracket, and of two that stop the
-- one that got further is kept, so that one reader answers alone.
use mathlib.Core.Path.{◌≡◌, refl, sym, ◌∙◌}
use mathlib.Core.List.{List, [], ◌∷◌}
use Prim.Native.Nat.{ℕ, ◌≤◌}
use Prim.Native.String.{String}
use native.Mathlib.Omega.{arith}
use lib.ListN.{length}
use borrow.Author.Tests.{ne_eqb}
use Rattle.rules.specs.Base.{ascii}
use Rattle.rules.specs.Reader.{read, stopped, Reader, pure, onward, ◌>>=◌, ◌>>◌, text, number}
use Rattle.rules.specs.Halves.{Kind, copy, pack, unpack}
use Rattle.rules.specs.Grammar.{in_data, in_key, Item, cv, Start, start, start_reader, sized, kind_reader, field_with, item}
use Rattle.rules.proofs.Grammar.ReaderLaws.{Inside, one_on, inside_behind, Within, within_less, within_pure, within_or, within_bind, within_number, within_text_then, within_text_first, within_number_then, first_alone, second_alone, both_stopped}
use Rattle.rules.proofs.Grammar.NumberLaws.{number_not}

-- `n,m)` behind the letter's comma
unfoldable pub two_behind : (ℕ → ℕ → Kind) → Reader Kind
two_behind say = do n ← number; text ","; m ← number; text ")"; pure (say n m)

within_behind : (say : ℕ → ℕ → Kind) → Within 0 (two_behind say)
unfolding two_behind
within_behind say = within_number_then _ (λ n. within_text_then "," _ (within_number_then _ (λ m. within_text_then ")" _ (within_pure (say n m)))))

-- ---- each takes a byte or more

within_sized : (say : ℕ → ℕ → Kind) (opening : String) → 1 ≤ length (ascii opening) → Within 1 (sized say opening)
unfolding sized two_behind
within_sized say opening h = within_text_first opening (two_behind say) h (within_behind say)

within_copy : Within 1 (number >>= λ n. pure (copy n))
within_copy = within_bind 1 0 number _ within_number (λ n. within_pure (copy n))

pub within_kind : Within 1 kind_reader
unfolding kind_reader
within_kind = within_or 1 _ _ (within_or 1 _ _ within_copy (within_sized pack "(P," (omega arith))) (within_sized unpack "(U," (omega arith))

-- `(K,r)`, and `r`
abbrev pub key_start : Reader Start
key_start = do text "(K,"; r ← number; text ")"; pure (start in_key r)

abbrev pub data_start : Reader Start
data_start = do r ← number; pure (start in_data r)

within_key : Within 1 key_start
within_key = within_text_first "(K," _ (omega arith) (within_number_then _ (λ r. within_text_then ")" _ (within_pure (start in_key r))))

within_data : Within 1 data_start
within_data = within_bind 1 0 number _ within_number (λ r. within_pure (start in_data r))

within_start : Within 1 start_reader
unfolding start_reader
within_start = within_or 1 _ _ within_key within_data

-- one of them, and what is behind it
abbrev pub field_reader : Reader Item
field_reader = do s ← start_reader; text ","; k ← kind_reader; text ","; t ← number; pure (field_with s k t)

within_field : Within 1 field_reader
within_field =
    within_bind 1 0 start_reader _ within_start
    (λ s. within_text_then "," _
    (within_less 1 0 _ (omega arith) (within_bind 1 0 kind_reader _ within_kind (λ k. within_text_then "," _ (within_number_then _ (λ t. within_pure _))))))

pub within_item : Within 1 item
unfolding item
within_item = within_or 1 _ _ within_field (within_text_first "CV" _ (omega arith) (within_pure cv))

-- ---- `s`, `(P,n,m)` or `(U,n,m)`

-- no bracket
pub kind_number_lem : (b : ℕ) (s : List ℕ) → (b ≡ 40 → ⊥) → kind_reader (b ∷ s) ≡ onward (number (b ∷ s)) (λ n. pure (copy n))
unfolding kind_reader sized text
kind_number_lem b s h =
    let x : List ℕ = b ∷ s in
    let i : Inside 0 x (onward (number x) (λ n. pure (copy n))) = within_less 1 0 _ (omega arith) within_copy x in
    rw (ne_eqb 40 b (λ e. h (sym e))) (first_alone x (first_alone x refl refl i) refl i)

no_copy : (s : List ℕ) → onward (number (40 ∷ s)) (λ n. pure (copy n)) ≡ stopped (40 ∷ s)
no_copy s = rw (number_not 40 s refl)

module _ (s : List ℕ) where
  pub kind_p : kind_reader (40 ∷ 80 ∷ 44 ∷ s) ≡ two_behind pack s
  unfolding kind_reader sized text two_behind
  kind_p =
      let i = inside_behind 80 (inside_behind 44 (within_behind pack s)) in
      first_alone (80 ∷ 44 ∷ s) (second_alone (40 ∷ 80 ∷ 44 ∷ s) (no_copy (80 ∷ 44 ∷ s)) refl (inside_behind 40 i)) refl i

  pub kind_u : kind_reader (40 ∷ 85 ∷ 44 ∷ s) ≡ two_behind unpack s
  unfolding kind_reader sized text two_behind
  kind_u =
      let i = inside_behind 85 (inside_behind 44 (within_behind unpack s)) in
      second_alone (85 ∷ 44 ∷ s) (second_alone (40 ∷ 85 ∷ 44 ∷ s) (no_copy (85 ∷ 44 ∷ s)) refl (one_on 40 (85 ∷ 44 ∷ s))) refl i

module _ (b : ℕ) (s : List ℕ) where
  -- no P or U behind the bracket
  pub kind_other : (b ≡ 80 → ⊥) → (b ≡ 85 → ⊥) → kind_reader (40 ∷ b ∷ s) ≡ stopped (b ∷ s)
  unfolding kind_reader sized text
  kind_other p u =
      rw (ne_eqb 80 b (λ e. p (sym e)), ne_eqb 85 b (λ e. u (sym e)))
      (both_stopped (b ∷ s) (second_alone (40 ∷ b ∷ s) (no_copy (b ∷ s)) refl (one_on 40 (b ∷ s))) refl)

  -- no comma behind the letter
  pub kind_p_other : (b ≡ 44 → ⊥) → kind_reader (40 ∷ 80 ∷ b ∷ s) ≡ stopped (b ∷ s)
  unfolding kind_reader sized text
  kind_p_other h =
      rw (ne_eqb 44 b (λ e. h (sym e)))
      (first_alone (80 ∷ b ∷ s) (second_alone (40 ∷ 80 ∷ b ∷ s) (no_copy (80 ∷ b ∷ s)) refl (inside_behind 40 (one_on 80 (b ∷ s)))) refl (one_on 80 (b ∷ s)))

  pub kind_u_other : (b ≡ 44 → ⊥) → kind_reader (40 ∷ 85 ∷ b ∷ s) ≡ stopped (b ∷ s)
  unfolding kind_reader sized text
  kind_u_other h =
      rw (ne_eqb 44 b (λ e. h (sym e)))
      (second_alone (85 ∷ b ∷ s) (second_alone (40 ∷ 85 ∷ b ∷ s) (no_copy (85 ∷ b ∷ s)) refl (one_on 40 (85 ∷ b ∷ s))) refl (one_on 85 (b ∷ s)))

-- the text's end
pub kind_short : (kind_reader [] ≡ stopped []) × (kind_reader (40 ∷ []) ≡ stopped []) × (kind_reader (40 ∷ 80 ∷ []) ≡ stopped []) × (kind_reader (40 ∷ 85 ∷ []) ≡ stopped [])
unfolding kind_reader sized text number
kind_short = (refl, refl, refl, refl)

-- ---- `(K,r)` or `r`

pub start_key : (s : List ℕ) → start_reader (40 ∷ s) ≡ key_start (40 ∷ s)
unfolding start_reader
start_key s =
    let none : data_start (40 ∷ s) ≡ stopped (40 ∷ s) = rw (number_not 40 s refl) in
    first_alone (40 ∷ s) refl none (within_less 1 0 key_start (omega arith) within_key (40 ∷ s))

pub start_data : (b : ℕ) (s : List ℕ) → (b ≡ 40 → ⊥) → start_reader (b ∷ s) ≡ data_start (b ∷ s)
unfolding start_reader text
start_data b s h = rw (ne_eqb 40 b (λ e. h (sym e))) (second_alone (b ∷ s) refl refl (within_less 1 0 data_start (omega arith) within_data (b ∷ s)))

-- no field begins with C
start_c : (s : List ℕ) → start_reader (67 ∷ s) ≡ stopped (67 ∷ s)
start_c s = start_data 67 s (λ e. omega arith) ∙ rw (number_not 67 s refl) refl

-- ---- `r,s,t` or `CV`

pub item_number : (b : ℕ) (s : List ℕ) → (b ≡ 67 → ⊥) → item (b ∷ s) ≡ field_reader (b ∷ s)
unfolding item text
item_number b s h = rw (ne_eqb 67 b (λ e. h (sym e))) (first_alone (b ∷ s) refl refl (within_less 1 0 field_reader (omega arith) within_field (b ∷ s)))

pub item_cv : (s : List ℕ) → item (67 ∷ 86 ∷ s) ≡ read cv s
unfolding item text
item_cv s = rw (start_c (86 ∷ s))

pub item_c_other : (b : ℕ) (s : List ℕ) → (b ≡ 86 → ⊥) → item (67 ∷ b ∷ s) ≡ stopped (b ∷ s)
unfolding item text
item_c_other b s h = rw (ne_eqb 86 b (λ e. h (sym e)), start_c (b ∷ s)) (second_alone (67 ∷ b ∷ s) refl refl (one_on 67 (b ∷ s)))

pub item_short : (item [] ≡ stopped []) × (item (67 ∷ []) ≡ stopped [])
unfolding item start_reader text number
item_short = (refl, refl)
