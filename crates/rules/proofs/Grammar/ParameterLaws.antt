-- How a parameter of the U card is read by its first bytes: every other reader stops at the first byte, and of two that stop the one that got
-- further is kept, so that the reader of that letter answers alone.
use mathlib.Core.Path.{◌≡◌, refl, ap, sym, ◌∙◌}
use mathlib.Core.List.{List, [], ◌∷◌}
use Prim.Native.Nat.{ℕ}
use native.Mathlib.Omega.{arith}
use borrow.Author.Tests.{ne_eqb}
use Rattle.rules.specs.Reader.{Read, stopped, Reader, pure, onward, ◌>>=◌, ◌>>◌, or_else, ◌or◌, text, number}
use Rattle.rules.specs.Grammar.{tc, tf, tr, trf, ff, fv, fu, fsp, two, one, Input, plain, keyed, mode_is, format_is, input_is, output_is, rewind_in, rewind_out, first_is, size_reader, input_reader, mode_reader, format_reader, sizes_reader, rewind_reader, first_reader, parameter}
use Rattle.rules.proofs.Grammar.ReaderLaws.{Inside, Within, within_less, within_pure, within_or, within_then, within_bind, within_text, within_text_then, within_text_first, within_number_then, first_alone, second_alone, both_stopped}

-- ---- each takes a byte or more

pub within_size : Within 1 size_reader
unfolding size_reader
within_size =
    within_or 1 _ _
    (within_text_first "(" _ (omega arith)
    (within_number_then _ (λ n. within_text_then "," _ (within_number_then _ (λ m. within_text_then ")" _ (within_pure (two n m)))))))
    (within_text_first "(" _ (omega arith) (within_number_then _ (λ g. within_text_then ")" _ (within_pure (one g)))))

-- `l,D=l)` behind `(K=`
abbrev pub lengths_reader : Reader Input
lengths_reader = do k ← number; text ","; text "D="; d ← number; text ")"; pure (keyed k d)

pub within_lengths : Within 0 lengths_reader
within_lengths =
    within_number_then _ (λ k. within_text_then "," _ (within_text_then "D=" _ (within_number_then _ (λ d. within_text_then ")" _ (within_pure (keyed k d))))))

pub within_input : Within 1 input_reader
unfolding input_reader
within_input =
    within_or 1 _ _ (within_bind 1 0 size_reader _ within_size (λ s. within_pure (plain s))) (within_text_first "(K=" lengths_reader (omega arith) within_lengths)

pub within_mode : Within 1 mode_reader
unfolding mode_reader
within_mode =
    within_or 1 _ _
    (within_or 1 _ _
    (within_or 1 _ _ (within_text_first "TRF" _ (omega arith) (within_pure (mode_is trf))) (within_text_first "TC" _ (omega arith) (within_pure (mode_is tc))))
    (within_text_first "TF" _ (omega arith) (within_pure (mode_is tf))))
    (within_text_first "TR" _ (omega arith) (within_pure (mode_is tr)))

pub within_format : Within 1 format_reader
unfolding format_reader
within_format =
    within_or 1 _ _
    (within_or 1 _ _
    (within_or 1 _ _ (within_text_first "FF" _ (omega arith) (within_pure (format_is ff))) (within_text_first "FV" _ (omega arith) (within_pure (format_is fv))))
    (within_text_first "FU" _ (omega arith) (within_pure (format_is fu))))
    (within_text_first "FS" _ (omega arith) (within_pure (format_is fsp)))

pub within_sizes : Within 1 sizes_reader
unfolding sizes_reader
within_sizes =
    within_or 1 _ _
    (within_text_first "A=" _ (omega arith) (within_less 1 0 _ (omega arith) (within_bind 1 0 input_reader _ within_input (λ i. within_pure (input_is i)))))
    (within_text_first "B=" _ (omega arith) (within_less 1 0 _ (omega arith) (within_bind 1 0 size_reader _ within_size (λ s. within_pure (output_is s)))))

pub within_rewind : Within 1 rewind_reader
unfolding rewind_reader
within_rewind =
    within_or 1 _ _
    (within_less 2 1 _ (omega arith)
    (within_then 2 0 (text "IR" or text "IN" or text "IU") (pure rewind_in)
    (within_or 2 _ _ (within_or 2 _ _ (within_text "IR") (within_text "IN")) (within_text "IU"))
    (within_pure rewind_in)))
    (within_less 2 1 _ (omega arith)
    (within_then 2 0 (text "OR" or text "ON" or text "OU") (pure rewind_out)
    (within_or 2 _ _ (within_or 2 _ _ (within_text "OR") (within_text "ON")) (within_text "OU"))
    (within_pure rewind_out)))

pub within_first : Within 1 first_reader
unfolding first_reader
within_first = within_text_first "R" _ (omega arith) (within_number_then _ (λ n. within_pure (first_is n)))

pub within_parameter : Within 1 parameter
unfolding parameter
within_parameter = within_or 1 _ _ (within_or 1 _ _ (within_or 1 _ _ (within_or 1 _ _ within_mode within_format) within_sizes) within_rewind) within_first

-- ---- by the first byte

module _ (b : ℕ) (s : List ℕ) where
  mode_not : (b ≡ 84 → ⊥) → mode_reader (b ∷ s) ≡ stopped (b ∷ s)
  unfolding mode_reader text
  mode_not h =
      let x : List ℕ = b ∷ s in
      rw (ne_eqb 84 b (λ e. h (sym e))) (both_stopped x (both_stopped x (both_stopped x refl refl) refl) refl)

  format_not : (b ≡ 70 → ⊥) → format_reader (b ∷ s) ≡ stopped (b ∷ s)
  unfolding format_reader text
  format_not h =
      let x : List ℕ = b ∷ s in
      rw (ne_eqb 70 b (λ e. h (sym e))) (both_stopped x (both_stopped x (both_stopped x refl refl) refl) refl)

  sizes_not : (b ≡ 65 → ⊥) → (b ≡ 66 → ⊥) → sizes_reader (b ∷ s) ≡ stopped (b ∷ s)
  unfolding sizes_reader text
  sizes_not h k =
      let x : List ℕ = b ∷ s in
      rw (ne_eqb 65 b (λ e. h (sym e)), ne_eqb 66 b (λ e. k (sym e))) (both_stopped x refl refl)

  rewind_not : (b ≡ 73 → ⊥) → (b ≡ 79 → ⊥) → rewind_reader (b ∷ s) ≡ stopped (b ∷ s)
  unfolding rewind_reader text
  rewind_not h k =
      let x : List ℕ = b ∷ s in
      let e : ◌≡◌ {A = Read Unit} (or_else (or_else (stopped x) (stopped x)) (stopped x)) (stopped x) = both_stopped x (both_stopped x refl refl) refl in
      rw (ne_eqb 73 b (λ e. h (sym e)), ne_eqb 79 b (λ e. k (sym e)))
      (both_stopped x (ap (λ (r : Read Unit). onward r (λ u. pure rewind_in)) e) (ap (λ (r : Read Unit). onward r (λ u. pure rewind_out)) e))

  first_not : (b ≡ 82 → ⊥) → first_reader (b ∷ s) ≡ stopped (b ∷ s)
  unfolding first_reader text
  first_not h = rw (ne_eqb 82 b (λ e. h (sym e)))

module _ (s : List ℕ) where
  -- T
  pub parameter_t : parameter (84 ∷ s) ≡ mode_reader (84 ∷ s)
  unfolding parameter
  parameter_t =
      let x : List ℕ = 84 ∷ s in
      let i : Inside 0 x (mode_reader x) = within_less 1 0 mode_reader (omega arith) within_mode x in
      first_alone x
      (first_alone x (first_alone x (first_alone x refl (format_not 84 s (omega arith)) i) (sizes_not 84 s (omega arith) (omega arith)) i) (rewind_not 84 s (omega arith) (omega arith)) i)
      (first_not 84 s (omega arith)) i

  -- F
  pub parameter_f : parameter (70 ∷ s) ≡ format_reader (70 ∷ s)
  unfolding parameter
  parameter_f =
      let x : List ℕ = 70 ∷ s in
      let i : Inside 0 x (format_reader x) = within_less 1 0 format_reader (omega arith) within_format x in
      first_alone x
      (first_alone x (first_alone x (second_alone x (mode_not 70 s (omega arith)) refl i) (sizes_not 70 s (omega arith) (omega arith)) i) (rewind_not 70 s (omega arith) (omega arith)) i)
      (first_not 70 s (omega arith)) i

-- neither T nor F
parameter_sizes : (b : ℕ) (s : List ℕ) → (b ≡ 84 → ⊥) → (b ≡ 70 → ⊥) → (b ≡ 73 → ⊥) → (b ≡ 79 → ⊥) → (b ≡ 82 → ⊥) → parameter (b ∷ s) ≡ sizes_reader (b ∷ s)
unfolding parameter
parameter_sizes b s t f ri ro r =
    let x : List ℕ = b ∷ s in
    let i : Inside 0 x (sizes_reader x) = within_less 1 0 sizes_reader (omega arith) within_sizes x in
    first_alone x (first_alone x (second_alone x (both_stopped x (mode_not b s t) (format_not b s f)) refl i) (rewind_not b s ri ro) i) (first_not b s r) i

parameter_rewind : (b : ℕ) (s : List ℕ) → (b ≡ 84 → ⊥) → (b ≡ 70 → ⊥) → (b ≡ 65 → ⊥) → (b ≡ 66 → ⊥) → (b ≡ 82 → ⊥) → parameter (b ∷ s) ≡ rewind_reader (b ∷ s)
unfolding parameter
parameter_rewind b s t f sa sb r =
    let x : List ℕ = b ∷ s in
    let i : Inside 0 x (rewind_reader x) = within_less 1 0 rewind_reader (omega arith) within_rewind x in
    first_alone x (second_alone x (both_stopped x (both_stopped x (mode_not b s t) (format_not b s f)) (sizes_not b s sa sb)) refl i) (first_not b s r) i

module _ (s : List ℕ) where
  -- A and B
  pub parameter_a : parameter (65 ∷ s) ≡ sizes_reader (65 ∷ s)
  parameter_a = parameter_sizes 65 s (omega arith) (omega arith) (omega arith) (omega arith) (omega arith)

  pub parameter_b : parameter (66 ∷ s) ≡ sizes_reader (66 ∷ s)
  parameter_b = parameter_sizes 66 s (omega arith) (omega arith) (omega arith) (omega arith) (omega arith)

  -- I and O
  pub parameter_i : parameter (73 ∷ s) ≡ rewind_reader (73 ∷ s)
  parameter_i = parameter_rewind 73 s (omega arith) (omega arith) (omega arith) (omega arith) (omega arith)

  pub parameter_o : parameter (79 ∷ s) ≡ rewind_reader (79 ∷ s)
  parameter_o = parameter_rewind 79 s (omega arith) (omega arith) (omega arith) (omega arith) (omega arith)

  -- R
  pub parameter_r : parameter (82 ∷ s) ≡ onward (number s) (λ n. pure (first_is n))
  unfolding parameter first_reader text
  parameter_r =
      let x : List ℕ = 82 ∷ s in
      second_alone x
      (both_stopped x (both_stopped x (both_stopped x (mode_not 82 s (omega arith)) (format_not 82 s (omega arith))) (sizes_not 82 s (omega arith) (omega arith)))
      (rewind_not 82 s (omega arith) (omega arith)))
      refl (within_less 1 0 first_reader (omega arith) within_first x)

-- another byte, or none
pub parameter_not : (b : ℕ) (s : List ℕ) → (b ≡ 84 → ⊥) → (b ≡ 70 → ⊥) → (b ≡ 65 → ⊥) → (b ≡ 66 → ⊥) → (b ≡ 73 → ⊥) → (b ≡ 79 → ⊥) → (b ≡ 82 → ⊥)
    → parameter (b ∷ s) ≡ stopped (b ∷ s)
parameter_not b s t f sa sb ri ro r = parameter_sizes b s t f ri ro r ∙ sizes_not b s sa sb

pub parameter_end : parameter [] ≡ stopped []
unfolding parameter mode_reader format_reader sizes_reader rewind_reader first_reader text
parameter_end = refl
