-- How T, F, A, B, I and O are read by the bytes behind the letter, and what a size in brackets is: by computing, where the bytes are known, and else
-- since of two readers that stop the one that got further is kept.
use mathlib.Core.Path.{◌≡◌, refl, ap, sym}
use mathlib.Core.Bool.{false}
use mathlib.Core.List.{List, [], ◌∷◌}
use Prim.Native.Nat.{ℕ}
use native.Mathlib.Omega.{arith}
use lib.Dec.{eqb}
use borrow.Author.Tests.{ne_eqb}
use Rattle.rules.specs.Reader.{Read, read, stopped, Reader, pure, onward, ◌>>◌, or_else, ◌or◌, text, number}
use Rattle.rules.specs.Grammar.{tc, tf, tr, trf, ff, fv, fu, fsp, Size, two, one, Input, plain, Parameter, mode_is, format_is, input_is, output_is, rewind_in, rewind_out, size_reader, input_reader, mode_reader, format_reader, sizes_reader, rewind_reader}
use Rattle.rules.specs.TextParts.{stops}
use Rattle.rules.proofs.Grammar.ReaderLaws.{part_all, Inside, one_on, reads, or_stops, or_first, or_second, inside_behind, within_less, within_pure, within_or, within_bind, within_text_then, within_number_then, first_alone, second_alone, both_stopped}
use Rattle.rules.proofs.Grammar.NumberLaws.{number_not}
use Rattle.rules.proofs.Grammar.ParameterLaws.{within_size, lengths_reader, within_lengths, within_input}

-- ---- T

module _ (s : List ℕ) where
  pub mode_c : mode_reader (84 ∷ 67 ∷ s) ≡ read (mode_is tc) s
  unfolding mode_reader text
  mode_c = refl

  pub mode_f : mode_reader (84 ∷ 70 ∷ s) ≡ read (mode_is tf) s
  unfolding mode_reader text
  mode_f = or_first _ (mode_is tf) s (or_second _ (mode_is tf) s (or_stops (stops (70 ∷ s)) (stops (70 ∷ s))) refl)

  pub mode_rf : mode_reader (84 ∷ 82 ∷ 70 ∷ s) ≡ read (mode_is trf) s
  unfolding mode_reader text
  mode_rf = refl

-- TR that no F follows
pub mode_r : (b : ℕ) (s : List ℕ) → (b ≡ 70 → ⊥) → mode_reader (84 ∷ 82 ∷ b ∷ s) ≡ read (mode_is tr) (b ∷ s)
unfolding mode_reader text
mode_r b s h = rw (ne_eqb 70 b (λ e. h (sym e))) (or_second _ (mode_is tr) (b ∷ s) (or_stops (or_stops (stops (b ∷ s)) (stops (82 ∷ b ∷ s))) (stops (82 ∷ b ∷ s))) refl)

pub mode_r_end : mode_reader (84 ∷ 82 ∷ []) ≡ read (mode_is tr) []
unfolding mode_reader text
mode_r_end = refl

pub mode_other : (b : ℕ) (s : List ℕ) → (b ≡ 67 → ⊥) → (b ≡ 70 → ⊥) → (b ≡ 82 → ⊥) → mode_reader (84 ∷ b ∷ s) ≡ stopped (b ∷ s)
unfolding mode_reader text
mode_other b s c f r =
    let x : List ℕ = b ∷ s in
    rw (ne_eqb 67 b (λ e. c (sym e)), ne_eqb 70 b (λ e. f (sym e)), ne_eqb 82 b (λ e. r (sym e))) (both_stopped x (both_stopped x (both_stopped x refl refl) refl) refl)

pub mode_short : mode_reader (84 ∷ []) ≡ stopped []
unfolding mode_reader text
mode_short = refl

-- ---- F

module _ (s : List ℕ) where
  pub format_f : format_reader (70 ∷ 70 ∷ s) ≡ read (format_is ff) s
  unfolding format_reader text
  format_f = refl

  pub format_v : format_reader (70 ∷ 86 ∷ s) ≡ read (format_is fv) s
  unfolding format_reader text
  format_v = refl

  pub format_u : format_reader (70 ∷ 85 ∷ s) ≡ read (format_is fu) s
  unfolding format_reader text
  format_u = or_first _ (format_is fu) s (or_second _ (format_is fu) s (or_stops (stops (85 ∷ s)) (stops (85 ∷ s))) refl)

  pub format_s : format_reader (70 ∷ 83 ∷ s) ≡ read (format_is fsp) s
  unfolding format_reader text
  format_s = or_second _ (format_is fsp) s (or_stops (or_stops (stops (83 ∷ s)) (stops (83 ∷ s))) (stops (83 ∷ s))) refl

pub format_other : (b : ℕ) (s : List ℕ) → (b ≡ 70 → ⊥) → (b ≡ 86 → ⊥) → (b ≡ 85 → ⊥) → (b ≡ 83 → ⊥) → format_reader (70 ∷ b ∷ s) ≡ stopped (b ∷ s)
unfolding format_reader text
format_other b s f v u k =
    let x : List ℕ = b ∷ s in
    rw (ne_eqb 70 b (λ e. f (sym e)), ne_eqb 86 b (λ e. v (sym e)), ne_eqb 85 b (λ e. u (sym e)), ne_eqb 83 b (λ e. k (sym e))) (both_stopped x (both_stopped x (both_stopped x refl refl) refl) refl)

pub format_short : format_reader (70 ∷ []) ≡ stopped []
unfolding format_reader text
format_short = refl

-- ---- A and B

module _ (s : List ℕ) where
  pub sizes_a : sizes_reader (65 ∷ 61 ∷ s) ≡ onward (input_reader s) (λ z. pure (input_is z))
  unfolding sizes_reader text
  sizes_a =
      let i = within_less 1 0 _ (omega arith) (within_bind 1 0 input_reader (λ z. pure (input_is z)) within_input (λ z. within_pure (input_is z))) s in
      first_alone (65 ∷ 61 ∷ s) refl refl (inside_behind 65 (inside_behind 61 i))

  pub sizes_b : sizes_reader (66 ∷ 61 ∷ s) ≡ onward (size_reader s) (λ z. pure (output_is z))
  unfolding sizes_reader text
  sizes_b =
      let i = within_less 1 0 _ (omega arith) (within_bind 1 0 size_reader (λ z. pure (output_is z)) within_size (λ z. within_pure (output_is z))) s in
      second_alone (66 ∷ 61 ∷ s) refl refl (inside_behind 66 (inside_behind 61 i))

-- no = behind the letter
pub sizes_other : (b : ℕ) (s : List ℕ) → (b ≡ 61 → ⊥) → (sizes_reader (65 ∷ b ∷ s) ≡ stopped (b ∷ s)) × (sizes_reader (66 ∷ b ∷ s) ≡ stopped (b ∷ s))
unfolding sizes_reader text
sizes_other b s h =
    let e : eqb 61 b ≡ false = ne_eqb 61 b (λ e. h (sym e)) in
    (rw e (first_alone (65 ∷ b ∷ s) refl refl (one_on 65 (b ∷ s))), rw e (second_alone (66 ∷ b ∷ s) refl refl (one_on 66 (b ∷ s))))

pub sizes_short : (sizes_reader (65 ∷ []) ≡ stopped []) × (sizes_reader (66 ∷ []) ≡ stopped [])
unfolding sizes_reader text
sizes_short = (refl, refl)

-- ---- I and O

abbrev in_letters : Reader Unit
in_letters = text "IR" or text "IN" or text "IU"

abbrev out_letters : Reader Unit
out_letters = text "OR" or text "ON" or text "OU"

module _ (s : List ℕ) where
  no_in : in_letters (79 ∷ s) ≡ stopped (79 ∷ s)
  unfolding text
  no_in = let x : List ℕ = 79 ∷ s in both_stopped x (both_stopped x refl refl) refl

  no_out : out_letters (73 ∷ s) ≡ stopped (73 ∷ s)
  unfolding text
  no_out = let x : List ℕ = 73 ∷ s in both_stopped x (both_stopped x refl refl) refl

  -- the letters behind I, or O, decide
  rewind_i : (t : Read Parameter) → onward (in_letters (73 ∷ s)) (λ u. pure rewind_in) ≡ t → Inside 0 (73 ∷ s) t → rewind_reader (73 ∷ s) ≡ t
  unfolding rewind_reader
  rewind_i t e i = first_alone (73 ∷ s) e (ap (λ (r : Read Unit). onward r (λ u. pure rewind_out)) no_out) i

  rewind_o : (t : Read Parameter) → onward (out_letters (79 ∷ s)) (λ u. pure rewind_out) ≡ t → Inside 0 (79 ∷ s) t → rewind_reader (79 ∷ s) ≡ t
  unfolding rewind_reader
  rewind_o t e i = second_alone (79 ∷ s) (ap (λ (r : Read Unit). onward r (λ u. pure rewind_in)) no_in) e i

module _ (s : List ℕ) where
  two_on : (b c : ℕ) (p : Parameter) → Inside 0 (b ∷ c ∷ s) (read p s)
  two_on b c p = inside_behind {d = 0} b (inside_behind {d = 0} c (reads (part_all s)))

  pub rewind_ir : rewind_reader (73 ∷ 82 ∷ s) ≡ read rewind_in s
  unfolding text
  rewind_ir = rewind_i (82 ∷ s) (read rewind_in s) refl (two_on 73 82 rewind_in)

  pub rewind_in_lem : rewind_reader (73 ∷ 78 ∷ s) ≡ read rewind_in s
  unfolding text
  rewind_in_lem = rewind_i (78 ∷ s) (read rewind_in s) refl (two_on 73 78 rewind_in)

  pub rewind_iu : rewind_reader (73 ∷ 85 ∷ s) ≡ read rewind_in s
  unfolding text
  rewind_iu =
      rewind_i (85 ∷ s) (read rewind_in s)
      (ap (λ (r : Read Unit). onward r (λ u. pure rewind_in)) (or_second _ tt s (or_stops (stops (85 ∷ s)) (stops (85 ∷ s))) refl))
      (two_on 73 85 rewind_in)

  pub rewind_or : rewind_reader (79 ∷ 82 ∷ s) ≡ read rewind_out s
  unfolding text
  rewind_or = rewind_o (82 ∷ s) (read rewind_out s) refl (two_on 79 82 rewind_out)

  pub rewind_on : rewind_reader (79 ∷ 78 ∷ s) ≡ read rewind_out s
  unfolding text
  rewind_on = rewind_o (78 ∷ s) (read rewind_out s) refl (two_on 79 78 rewind_out)

  pub rewind_ou : rewind_reader (79 ∷ 85 ∷ s) ≡ read rewind_out s
  unfolding text
  rewind_ou =
      rewind_o (85 ∷ s) (read rewind_out s)
      (ap (λ (r : Read Unit). onward r (λ u. pure rewind_out)) (or_second _ tt s (or_stops (stops (85 ∷ s)) (stops (85 ∷ s))) refl))
      (two_on 79 85 rewind_out)

-- no R, N or U behind the letter
pub rewind_other : (b : ℕ) (s : List ℕ) → (b ≡ 82 → ⊥) → (b ≡ 78 → ⊥) → (b ≡ 85 → ⊥)
    → (rewind_reader (73 ∷ b ∷ s) ≡ stopped (b ∷ s)) × (rewind_reader (79 ∷ b ∷ s) ≡ stopped (b ∷ s))
unfolding text
rewind_other b s r n u =
    let x : List ℕ = b ∷ s in
    let e : ◌≡◌ {A = Read Unit} (or_else (or_else (stopped x) (stopped x)) (stopped x)) (stopped x) = both_stopped x (both_stopped x refl refl) refl in
    let f : eqb 82 b ≡ false = ne_eqb 82 b (λ e. r (sym e)) in
    let g : eqb 78 b ≡ false = ne_eqb 78 b (λ e. n (sym e)) in
    let h : eqb 85 b ≡ false = ne_eqb 85 b (λ e. u (sym e)) in (
      rewind_i x (stopped x) (rw (f, g, h) (ap (λ (r : Read Unit). onward r (λ u. pure rewind_in)) e)) (one_on 73 x),
      rewind_o x (stopped x) (rw (f, g, h) (ap (λ (r : Read Unit). onward r (λ u. pure rewind_out)) e)) (one_on 79 x),
    )

pub rewind_short : (rewind_reader (73 ∷ []) ≡ stopped []) × (rewind_reader (79 ∷ []) ≡ stopped [])
unfolding rewind_reader text
rewind_short = (refl, refl)

-- ---- a size

-- the number behind the bracket, and then a comma, the end, or another byte
module _ (s : List ℕ) (n : ℕ) where
  pub size_one : (t : List ℕ) → number s ≡ read n (41 ∷ t) → size_reader (40 ∷ s) ≡ read (one n) t
  unfolding size_reader text
  size_one t e = rw e refl

  pub size_other : (b : ℕ) (t : List ℕ) → number s ≡ read n (b ∷ t) → (b ≡ 44 → ⊥) → (b ≡ 41 → ⊥) → size_reader (40 ∷ s) ≡ stopped (b ∷ t)
  unfolding size_reader text
  size_other b t e c d = rw (e, ne_eqb 44 b (λ z. c (sym z)), ne_eqb 41 b (λ z. d (sym z))) (both_stopped (b ∷ t) refl refl)

pub size_stop : (s left : List ℕ) → number s ≡ stopped left → size_reader (40 ∷ s) ≡ stopped left
unfolding size_reader text
size_stop s left e = rw e (both_stopped left refl refl)

-- no bracket
pub size_not : (b : ℕ) (s : List ℕ) → (b ≡ 40 → ⊥) → size_reader (b ∷ s) ≡ stopped (b ∷ s)
unfolding size_reader text
size_not b s h = rw (ne_eqb 40 b (λ e. h (sym e))) (both_stopped (b ∷ s) refl refl)

pub size_end : size_reader [] ≡ stopped []
unfolding size_reader text
size_end = refl

-- ---- what A says

abbrev pub plainly : Read Size → Read Input
plainly r = onward r (λ z. pure (plain z))

-- `=` and the lengths behind `(K`
abbrev pub key_reader : Reader Input
key_reader = text "=" >> lengths_reader

-- `(K`: a size stops behind the bracket
pub input_key : (s : List ℕ) → input_reader (40 ∷ 75 ∷ s) ≡ key_reader s
unfolding input_reader text
input_key s =
    let none : plainly (size_reader (40 ∷ 75 ∷ s)) ≡ stopped (75 ∷ s) = ap plainly (size_stop (75 ∷ s) (75 ∷ s) (number_not 75 s refl)) in
    second_alone (75 ∷ s) none refl (inside_behind 75 (within_text_then "=" lengths_reader within_lengths s))

-- what stands behind the bracket decides
behind_bracket : (s : List ℕ) → Inside 0 s (plainly (size_reader (40 ∷ s)))
unfolding size_reader text
behind_bracket s =
    within_bind 0 0 _ (λ z. pure (plain z))
    (within_or 0 _ _ (within_number_then _ (λ n. within_text_then "," _ (within_number_then _ (λ m. within_text_then ")" _ (within_pure (two n m))))))
    (within_number_then _ (λ g. within_text_then ")" _ (within_pure (one g))))) (λ z. within_pure (plain z)) s

-- another byte behind the bracket, or no bracket
pub input_other : (c : ℕ) (s : List ℕ) → (c ≡ 75 → ⊥) → input_reader (40 ∷ c ∷ s) ≡ plainly (size_reader (40 ∷ c ∷ s))
unfolding input_reader text
input_other c s h = rw (ne_eqb 75 c (λ e. h (sym e))) (first_alone (c ∷ s) refl refl (behind_bracket (c ∷ s)))

pub input_not : (b : ℕ) (s : List ℕ) → (b ≡ 40 → ⊥) → input_reader (b ∷ s) ≡ stopped (b ∷ s)
unfolding input_reader text
input_not b s h = rw (ne_eqb 40 b (λ e. h (sym e))) (both_stopped (b ∷ s) (ap plainly (size_not b s h)) refl)

pub input_short : (input_reader [] ≡ stopped []) × (input_reader (40 ∷ []) ≡ stopped [])
unfolding input_reader size_reader text number
input_short = (refl, refl)
