-- Which alternative of a reader it is, by the bytes at places of the text, 256 standing for its end: each law looks at a byte or two and cites
-- what the reader answers there.
use mathlib.Core.Path.{◌≡◌, refl, ap, sym, ◌∙◌}
use mathlib.Core.Logic.{◌⊎◌, inl, inr}
use mathlib.Core.Bool.{Bool, true, false}
use mathlib.Core.List.{List, [], ◌∷◌}
use Prim.Native.Nat.{ℕ, zero, suc, ◌+◌, ◌<◌}
use native.Mathlib.Nat.{add-zero}
use native.Mathlib.Omega.{arith}
use lib.Dec.{eqb}
use lib.ListN.{length, get_or, drop}
use lib.Seq.{drop-drop, get_or-drop}
use borrow.Author.Tests.{eq-eqb, ne_eqb, eqb-true, eqb-false, le-leb, lt-leb}
use Rattle.rules.specs.Reader.{Read, read, stopped, Reader, pure, onward, ◌>>=◌, ◌>>◌, after, text, is_digit, digits, number}
use Rattle.rules.specs.Halves.{Kind, copy, pack, unpack}
use Rattle.rules.specs.Grammar.{in_data, in_key, tc, tf, tr, trf, ff, fv, fu, fsp, Size, two, one, plain, keyed, mode_is, format_is, input_is, output_is, rewind_in, rewind_out, first_is, cv, start, size_reader, input_reader, mode_reader, parameter, kind_reader, item}
use Rattle.rules.specs.TextParts.{number_then, size_behind, data_behind, keyed_behind, key_then, sizes_behind, field_behind}
use Rattle.rules.proofs.Grammar.ReaderLaws.{inside_behind, within_pure, within_text_then, within_number_then, first_alone, both_stopped}
use Rattle.rules.proofs.Grammar.NumberLaws.{Reading, NoDigit, number_end}
use Rattle.rules.proofs.Grammar.ParameterLaws.{parameter_t, parameter_f, parameter_a, parameter_b, parameter_i, parameter_o, parameter_r, parameter_not, parameter_end}
use Rattle.rules.proofs.Grammar.LetterLaws.{mode_c, mode_f, mode_rf, mode_r, mode_r_end, mode_other, mode_short, format_f, format_v, format_u, format_s, format_other, format_short, sizes_a, sizes_b, sizes_other, sizes_short, rewind_ir, rewind_in_lem, rewind_iu, rewind_or, rewind_on, rewind_ou, rewind_other, rewind_short, size_stop, size_not, size_end, input_key, input_other, input_not, input_short}
use Rattle.rules.proofs.Grammar.ItemLaws.{two_behind, kind_number_lem, kind_p, kind_u, kind_other, kind_p_other, kind_u_other, kind_short, start_key, start_data, item_number, item_cv, item_c_other, item_short}

-- ---- the byte at a place

-- a byte that is there
pub byte_inside : (s : List ℕ) (i b : ℕ) → get_or s i 256 ≡ b → b < 256 → i < length s
byte_inside [] i b e h = absurd (omega arith)
byte_inside (x ∷ s) zero b e h = omega arith
byte_inside (x ∷ s) (suc i) b e h = let r = byte_inside s i b e h in omega arith

-- inside it does not matter what stands for the end
pub byte_any : (s : List ℕ) (i d e : ℕ) → i < length s → get_or s i d ≡ get_or s i e
byte_any [] i d e h = absurd (omega arith)
byte_any (x ∷ s) zero d e h = refl
byte_any (x ∷ s) (suc i) d e h = byte_any s i d e (omega arith)

-- the first byte, and the first two
one_front : (s : List ℕ) (a : ℕ) → get_or s 0 256 ≡ a → a < 256 → s ≡ a ∷ drop 1 s
one_front [] a e h = absurd (omega arith)
one_front (x ∷ s) a e h = ap (λ (y : ℕ). y ∷ s) e

two_front : (s : List ℕ) (a b : ℕ) → get_or s 0 256 ≡ a → get_or s 1 256 ≡ b → a < 256 → b < 256 → s ≡ a ∷ b ∷ drop 2 s
two_front [] a b e f h k = absurd (omega arith)
two_front (x ∷ []) a b e f h k = absurd (omega arith)
two_front (x ∷ (y ∷ s)) a b e f h k = ap (λ (z : ℕ). z ∷ y ∷ s) e ∙ ap (λ (z : ℕ). a ∷ z ∷ s) f

-- at a place i
module _ (s : List ℕ) (i : ℕ) where
  pub byte_behind : (k : ℕ) → get_or (drop i s) k 256 ≡ get_or s (i + k) 256
  byte_behind k = get_or-drop i s k 256

  pub byte_front : get_or (drop i s) 0 256 ≡ get_or s i 256
  byte_front = byte_behind 0 ∙ ap (λ (n : ℕ). get_or s n 256) (add-zero i)

-- ---- a number

pub no_digit : (s : List ℕ) (i : ℕ) → is_digit (get_or s i 256) ≡ false → NoDigit s i
no_digit [] zero e = record { none = refl; stays = refl }
no_digit [] (suc i) e = record { none = refl; stays = refl }
no_digit (x ∷ s) zero e = record { none = rw e; stays = rw e }
no_digit (x ∷ s) (suc i) e = let r = no_digit s i e in record { none = r.none; stays = r.stays }

-- more than five digits
pub number_many : {s : List ℕ} {i v : ℕ} → Reading s i v → 5 < i → number s ≡ stopped (drop 5 s)
unfolding number
number_many {s} {i} {v} r h =
    rw (le-leb 1 (length (digits s)) (omega (arith, r.count)), lt-leb (length (digits s)) 5 (omega (arith, r.count)))

-- ---- a mark of one byte

mark_front : (m : ℕ) (x : List ℕ) → m < 256 → get_or x 0 256 ≡ m → after (m ∷ []) x ≡ read tt (drop 1 x)
mark_front m x h e = ap (after (m ∷ [])) (one_front x m e h) ∙ rw (eq-eqb m m refl) refl

mark_other : (m : ℕ) (x : List ℕ) → (get_or x 0 256 ≡ m → ⊥) → after (m ∷ []) x ≡ stopped x
mark_other m [] h = refl
mark_other m (b ∷ x) h = rw (ne_eqb m b (λ e. h (sym e)))

module _ (m : ℕ) (s : List ℕ) (i : ℕ) where
  pub mark_there : m < 256 → get_or s i 256 ≡ m → after (m ∷ []) (drop i s) ≡ read tt (drop (i + 1) s)
  mark_there h e = mark_front m (drop i s) h (byte_front s i ∙ e) ∙ ap (read tt) (drop-drop 1 i s)

  pub mark_not : (get_or s i 256 ≡ m → ⊥) → after (m ∷ []) (drop i s) ≡ stopped (drop i s)
  mark_not h = mark_other m (drop i s) (λ e. h (sym (byte_front s i) ∙ e))

module _ {A : Type 0} (m : ℕ) (f : ℕ → Reader A) where
  past_mark : (r : Read Unit) (n : ℕ) → onward r (λ u. f n) ≡ onward (onward r (λ u. pure n)) f
  past_mark (read u left) n = refl
  past_mark (stopped left) n = refl

  -- what goes on behind a number and its mark
  pub number_then_lem : (s : List ℕ) → (number >>= λ n. after (m ∷ []) >> f n) s ≡ onward (number_then m s) f
  unfolding number_then
  number_then_lem s = go (number s) refl
    where
      go : (r : Read ℕ) → number s ≡ r → (number >>= λ n. after (m ∷ []) >> f n) s ≡ onward ((number >>= λ n. after (m ∷ []) >> pure n) s) f
      go (read n left) e = rw e (past_mark (after (m ∷ []) left) n)
      go (stopped left) e = rw e

-- ---- U: T, F

module _ (s : List ℕ) (t : get_or s 0 256 ≡ 84) where
  pub parameter_tc : get_or s 1 256 ≡ 67 → parameter s ≡ read (mode_is tc) (drop 2 s)
  parameter_tc e = ap parameter (two_front s 84 67 t e (omega arith) (omega arith)) ∙ parameter_t (67 ∷ drop 2 s) ∙ mode_c (drop 2 s)

  pub parameter_tf : get_or s 1 256 ≡ 70 → parameter s ≡ read (mode_is tf) (drop 2 s)
  parameter_tf e = ap parameter (two_front s 84 70 t e (omega arith) (omega arith)) ∙ parameter_t (70 ∷ drop 2 s) ∙ mode_f (drop 2 s)

-- TRF, and TR that no F follows
pub parameter_trf : (s : List ℕ) → get_or s 0 256 ≡ 84 → get_or s 1 256 ≡ 82 → get_or s 2 256 ≡ 70 → parameter s ≡ read (mode_is trf) (drop 3 s)
parameter_trf s t e f =
    let x : drop 2 s ≡ 70 ∷ drop 3 s = one_front (drop 2 s) 70 (byte_front s 2 ∙ f) (omega arith) ∙ ap (λ (l : List ℕ). 70 ∷ l) (drop-drop 1 2 s) in
    ap parameter (two_front s 84 82 t e (omega arith) (omega arith)) ∙ ap (λ (l : List ℕ). parameter (84 ∷ 82 ∷ l)) x ∙ parameter_t (82 ∷ 70 ∷ drop 3 s) ∙ mode_rf (drop 3 s)

pub parameter_tr : (s : List ℕ) → get_or s 0 256 ≡ 84 → get_or s 1 256 ≡ 82 → (get_or s 2 256 ≡ 70 → ⊥) → parameter s ≡ read (mode_is tr) (drop 2 s)
parameter_tr s t e f = ap parameter (two_front s 84 82 t e (omega arith) (omega arith)) ∙ parameter_t (82 ∷ drop 2 s) ∙ go (drop 2 s) (λ z. f (sym (byte_front s 2) ∙ z))
  where
    go : (x : List ℕ) → (get_or x 0 256 ≡ 70 → ⊥) → mode_reader (84 ∷ 82 ∷ x) ≡ read (mode_is tr) x
    go [] h = mode_r_end
    go (b ∷ x) h = mode_r b x h

pub parameter_t_else : (s : List ℕ) → get_or s 0 256 ≡ 84 → (get_or s 1 256 ≡ 67 → ⊥) → (get_or s 1 256 ≡ 70 → ⊥) → (get_or s 1 256 ≡ 82 → ⊥) → parameter s ≡ stopped (drop 1 s)
parameter_t_else [] t c f r = absurd (omega arith)
parameter_t_else (a ∷ []) t c f r = ap (λ (x : ℕ). parameter (x ∷ [])) t ∙ parameter_t [] ∙ mode_short
parameter_t_else (a ∷ (b ∷ s)) t c f r = ap (λ (x : ℕ). parameter (x ∷ b ∷ s)) t ∙ parameter_t (b ∷ s) ∙ mode_other b s c f r

module _ (s : List ℕ) (t : get_or s 0 256 ≡ 70) where
  pub parameter_ff : get_or s 1 256 ≡ 70 → parameter s ≡ read (format_is ff) (drop 2 s)
  parameter_ff e = ap parameter (two_front s 70 70 t e (omega arith) (omega arith)) ∙ parameter_f (70 ∷ drop 2 s) ∙ format_f (drop 2 s)

  pub parameter_fv : get_or s 1 256 ≡ 86 → parameter s ≡ read (format_is fv) (drop 2 s)
  parameter_fv e = ap parameter (two_front s 70 86 t e (omega arith) (omega arith)) ∙ parameter_f (86 ∷ drop 2 s) ∙ format_v (drop 2 s)

  pub parameter_fu : get_or s 1 256 ≡ 85 → parameter s ≡ read (format_is fu) (drop 2 s)
  parameter_fu e = ap parameter (two_front s 70 85 t e (omega arith) (omega arith)) ∙ parameter_f (85 ∷ drop 2 s) ∙ format_u (drop 2 s)

  pub parameter_fs : get_or s 1 256 ≡ 83 → parameter s ≡ read (format_is fsp) (drop 2 s)
  parameter_fs e = ap parameter (two_front s 70 83 t e (omega arith) (omega arith)) ∙ parameter_f (83 ∷ drop 2 s) ∙ format_s (drop 2 s)

pub parameter_f_else : (s : List ℕ) → get_or s 0 256 ≡ 70 → (get_or s 1 256 ≡ 70 → ⊥) → (get_or s 1 256 ≡ 86 → ⊥) → (get_or s 1 256 ≡ 85 → ⊥) → (get_or s 1 256 ≡ 83 → ⊥) → parameter s ≡ stopped (drop 1 s)
parameter_f_else [] t f v u k = absurd (omega arith)
parameter_f_else (a ∷ []) t f v u k = ap (λ (x : ℕ). parameter (x ∷ [])) t ∙ parameter_f [] ∙ format_short
parameter_f_else (a ∷ (b ∷ s)) t f v u k = ap (λ (x : ℕ). parameter (x ∷ b ∷ s)) t ∙ parameter_f (b ∷ s) ∙ format_other b s f v u k

-- ---- U: A, B

pub parameter_a= : (s : List ℕ) → get_or s 0 256 ≡ 65 → get_or s 1 256 ≡ 61 → parameter s ≡ onward (input_reader (drop 2 s)) (λ z. pure (input_is z))
parameter_a= s t e = ap parameter (two_front s 65 61 t e (omega arith) (omega arith)) ∙ parameter_a (61 ∷ drop 2 s) ∙ sizes_a (drop 2 s)

pub parameter_b= : (s : List ℕ) → get_or s 0 256 ≡ 66 → get_or s 1 256 ≡ 61 → parameter s ≡ onward (size_reader (drop 2 s)) (λ z. pure (output_is z))
parameter_b= s t e = ap parameter (two_front s 66 61 t e (omega arith) (omega arith)) ∙ parameter_b (61 ∷ drop 2 s) ∙ sizes_b (drop 2 s)

pub parameter_sizes_else : (s : List ℕ) → (get_or s 0 256 ≡ 65) ⊎ (get_or s 0 256 ≡ 66) → (get_or s 1 256 ≡ 61 → ⊥) → parameter s ≡ stopped (drop 1 s)
parameter_sizes_else [] (inl t) h = absurd (omega arith)
parameter_sizes_else [] (inr t) h = absurd (omega arith)
parameter_sizes_else (a ∷ []) (inl t) h = ap (λ (x : ℕ). parameter (x ∷ [])) t ∙ parameter_a [] ∙ sizes_short.0
parameter_sizes_else (a ∷ []) (inr t) h = ap (λ (x : ℕ). parameter (x ∷ [])) t ∙ parameter_b [] ∙ sizes_short.1
parameter_sizes_else (a ∷ (b ∷ s)) (inl t) h = ap (λ (x : ℕ). parameter (x ∷ b ∷ s)) t ∙ parameter_a (b ∷ s) ∙ (sizes_other b s h).0
parameter_sizes_else (a ∷ (b ∷ s)) (inr t) h = ap (λ (x : ℕ). parameter (x ∷ b ∷ s)) t ∙ parameter_b (b ∷ s) ∙ (sizes_other b s h).1

-- ---- U: I, O, R

-- N, R or U, one of which stands behind I or O
abbrev pub Ending : ℕ → Type 0
Ending b = (b ≡ 78) ⊎ ((b ≡ 82) ⊎ (b ≡ 85))

pub parameter_i_letter : (s : List ℕ) → get_or s 0 256 ≡ 73 → Ending (get_or s 1 256) → parameter s ≡ read rewind_in (drop 2 s)
parameter_i_letter s t (inl e) = ap parameter (two_front s 73 78 t e (omega arith) (omega arith)) ∙ parameter_i (78 ∷ drop 2 s) ∙ rewind_in_lem (drop 2 s)
parameter_i_letter s t (inr (inl e)) = ap parameter (two_front s 73 82 t e (omega arith) (omega arith)) ∙ parameter_i (82 ∷ drop 2 s) ∙ rewind_ir (drop 2 s)
parameter_i_letter s t (inr (inr e)) = ap parameter (two_front s 73 85 t e (omega arith) (omega arith)) ∙ parameter_i (85 ∷ drop 2 s) ∙ rewind_iu (drop 2 s)

pub parameter_o_letter : (s : List ℕ) → get_or s 0 256 ≡ 79 → Ending (get_or s 1 256) → parameter s ≡ read rewind_out (drop 2 s)
parameter_o_letter s t (inl e) = ap parameter (two_front s 79 78 t e (omega arith) (omega arith)) ∙ parameter_o (78 ∷ drop 2 s) ∙ rewind_on (drop 2 s)
parameter_o_letter s t (inr (inl e)) = ap parameter (two_front s 79 82 t e (omega arith) (omega arith)) ∙ parameter_o (82 ∷ drop 2 s) ∙ rewind_or (drop 2 s)
parameter_o_letter s t (inr (inr e)) = ap parameter (two_front s 79 85 t e (omega arith) (omega arith)) ∙ parameter_o (85 ∷ drop 2 s) ∙ rewind_ou (drop 2 s)

pub parameter_rewind_else : (s : List ℕ) → (get_or s 0 256 ≡ 73) ⊎ (get_or s 0 256 ≡ 79) → (Ending (get_or s 1 256) → ⊥) → parameter s ≡ stopped (drop 1 s)
parameter_rewind_else [] (inl t) h = absurd (omega arith)
parameter_rewind_else [] (inr t) h = absurd (omega arith)
parameter_rewind_else (a ∷ []) (inl t) h = ap (λ (x : ℕ). parameter (x ∷ [])) t ∙ parameter_i [] ∙ rewind_short.0
parameter_rewind_else (a ∷ []) (inr t) h = ap (λ (x : ℕ). parameter (x ∷ [])) t ∙ parameter_o [] ∙ rewind_short.1
parameter_rewind_else (a ∷ (b ∷ s)) (inl t) h =
    ap (λ (x : ℕ). parameter (x ∷ b ∷ s)) t ∙ parameter_i (b ∷ s) ∙ (rewind_other b s (λ e. h (inr (inl e))) (λ e. h (inl e)) (λ e. h (inr (inr e)))).0
parameter_rewind_else (a ∷ (b ∷ s)) (inr t) h =
    ap (λ (x : ℕ). parameter (x ∷ b ∷ s)) t ∙ parameter_o (b ∷ s) ∙ (rewind_other b s (λ e. h (inr (inl e))) (λ e. h (inl e)) (λ e. h (inr (inr e)))).1

pub parameter_first : (s : List ℕ) → get_or s 0 256 ≡ 82 → parameter s ≡ onward (number (drop 1 s)) (λ n. pure (first_is n))
parameter_first s t = ap parameter (one_front s 82 t (omega arith)) ∙ parameter_r (drop 1 s)

-- another letter, or none
pub parameter_else : (s : List ℕ) → (get_or s 0 256 ≡ 84 → ⊥) → (get_or s 0 256 ≡ 70 → ⊥) → ((get_or s 0 256 ≡ 65) ⊎ (get_or s 0 256 ≡ 66) → ⊥)
    → ((get_or s 0 256 ≡ 73) ⊎ (get_or s 0 256 ≡ 79) → ⊥) → (get_or s 0 256 ≡ 82 → ⊥) → parameter s ≡ stopped s
parameter_else [] t f z w r = parameter_end
parameter_else (b ∷ s) t f z w r = parameter_not b s t f (λ e. z (inl e)) (λ e. z (inr e)) (λ e. w (inl e)) (λ e. w (inr e)) r

-- ---- a size

size_front : (x : List ℕ) → get_or x 0 256 ≡ 40 → size_reader x ≡ onward (number (drop 1 x)) size_behind
unfolding size_reader size_behind text
size_front x h = ap size_reader (one_front x 40 h (omega arith)) ∙ go (number (drop 1 x)) refl
  where
    go : (r : Read ℕ) → number (drop 1 x) ≡ r → size_reader (40 ∷ drop 1 x) ≡ onward (number (drop 1 x)) size_behind
    go (read n left) e = rw e
    go (stopped left) e = size_stop (drop 1 x) left e ∙ rw e refl

size_other_front : (x : List ℕ) → (get_or x 0 256 ≡ 40 → ⊥) → size_reader x ≡ stopped x
size_other_front [] h = size_end
size_other_front (b ∷ x) h = size_not b x h

comma_front : (n : ℕ) (x : List ℕ) → get_or x 0 256 ≡ 44 → size_behind n x ≡ onward (number_then 41 (drop 1 x)) (λ m. pure (two n m))
unfolding size_behind text
comma_front n x h =
    let y : List ℕ = drop 1 x in
    ap (size_behind n) (one_front x 44 h (omega arith))
    ∙ first_alone (44 ∷ y) refl refl (inside_behind 44 (within_number_then _ (λ m. within_text_then ")" _ (within_pure (two n m))) y))
    ∙ number_then_lem 41 (λ m. pure (two n m)) y

close_front : (n : ℕ) (x : List ℕ) → get_or x 0 256 ≡ 41 → size_behind n x ≡ read (one n) (drop 1 x)
unfolding size_behind text
close_front n x h = ap (size_behind n) (one_front x 41 h (omega arith))

neither_front : (n : ℕ) (x : List ℕ) → (get_or x 0 256 ≡ 44 → ⊥) → (get_or x 0 256 ≡ 41 → ⊥) → size_behind n x ≡ stopped x
unfolding size_behind text
neither_front n [] c d = refl
neither_front n (b ∷ x) c d = rw (ne_eqb 44 b (λ e. c (sym e)), ne_eqb 41 b (λ e. d (sym e))) (both_stopped (b ∷ x) refl refl)

-- at a place i: the bracket; and behind the number the comma, the bracket, or neither
module _ (s : List ℕ) (i : ℕ) where
  pub size_open : get_or s i 256 ≡ 40 → size_reader (drop i s) ≡ onward (number (drop (i + 1) s)) size_behind
  size_open h = size_front (drop i s) (byte_front s i ∙ h) ∙ ap (λ (l : List ℕ). onward (number l) size_behind) (drop-drop 1 i s)

  pub size_none : (get_or s i 256 ≡ 40 → ⊥) → size_reader (drop i s) ≡ stopped (drop i s)
  size_none h = size_other_front (drop i s) (λ e. h (sym (byte_front s i) ∙ e))

  pub size_comma : (n : ℕ) → get_or s i 256 ≡ 44 → size_behind n (drop i s) ≡ onward (number_then 41 (drop (i + 1) s)) (λ m. pure (two n m))
  size_comma n h = comma_front n (drop i s) (byte_front s i ∙ h) ∙ ap (λ (l : List ℕ). onward (number_then 41 l) (λ m. pure (two n m))) (drop-drop 1 i s)

  pub size_close : (n : ℕ) → get_or s i 256 ≡ 41 → size_behind n (drop i s) ≡ read (one n) (drop (i + 1) s)
  size_close n h = close_front n (drop i s) (byte_front s i ∙ h) ∙ ap (read (one n)) (drop-drop 1 i s)

  pub size_neither : (n : ℕ) → (get_or s i 256 ≡ 44 → ⊥) → (get_or s i 256 ≡ 41 → ⊥) → size_behind n (drop i s) ≡ stopped (drop i s)
  size_neither n c d = neither_front n (drop i s) (λ e. c (sym (byte_front s i) ∙ e)) (λ e. d (sym (byte_front s i) ∙ e))

-- ---- a size, or `(K=l,D=l)`

lengths_then : (s : List ℕ) → input_reader (40 ∷ 75 ∷ s) ≡ keyed_behind s
unfolding keyed_behind data_behind text
lengths_then s = input_key s ∙ go (after (61 ∷ []) s)
  where
    last : (k : ℕ) (r : Read Unit) → onward r (λ u. number >>= λ d. after (41 ∷ []) >> pure (keyed k d)) ≡ onward r (λ u. number_then 41 >>= λ d. pure (keyed k d))
    last k (read u left) = number_then_lem 41 (λ d. pure (keyed k d)) left
    last k (stopped left) = refl

    behind : (r : Read ℕ) → onward r (λ k. after (68 ∷ 61 ∷ []) >>= λ u. number >>= λ d. after (41 ∷ []) >> pure (keyed k d))
        ≡ onward r (λ k. after (68 ∷ 61 ∷ []) >>= λ u. number_then 41 >>= λ d. pure (keyed k d))
    behind (read k left) = last k (after (68 ∷ 61 ∷ []) left)
    behind (stopped left) = refl

    go : (r : Read Unit) → onward r (λ u. number >>= λ k. after (44 ∷ []) >> (after (68 ∷ 61 ∷ []) >> (number >>= λ d. after (41 ∷ []) >> pure (keyed k d))))
        ≡ onward r (λ u. number_then 44 >>= λ k. after (68 ∷ 61 ∷ []) >> (number_then 41 >>= λ d. pure (keyed k d)))
    go (read u left) = number_then_lem 44 (λ k. after (68 ∷ 61 ∷ []) >>= λ u. number >>= λ d. after (41 ∷ []) >> pure (keyed k d)) left ∙ behind (number_then 44 left)
    go (stopped left) = refl

key_front : (x : List ℕ) → get_or x 0 256 ≡ 40 → get_or x 1 256 ≡ 75 → input_reader x ≡ keyed_behind (drop 2 x)
key_front x o k = ap input_reader (two_front x 40 75 o k (omega arith) (omega arith)) ∙ lengths_then (drop 2 x)

plain_front : (x : List ℕ) → (get_or x 0 256 ≡ 40 → get_or x 1 256 ≡ 75 → ⊥) → input_reader x ≡ onward (size_reader x) (λ z. pure (plain z))
plain_front [] h = input_short.0 ∙ sym (ap (λ (r : Read Size). onward r (λ z. pure (plain z))) size_end)
plain_front (b ∷ x) h = go (eqb b 40) refl x h
  where
    go : (t : Bool) → eqb b 40 ≡ t → (x : List ℕ) → (b ≡ 40 → get_or x 0 256 ≡ 75 → ⊥) → input_reader (b ∷ x) ≡ onward (size_reader (b ∷ x)) (λ z. pure (plain z))
    go false e x h =
        input_not b x (eqb-false b 40 e) ∙ sym (ap (λ (r : Read Size). onward r (λ z. pure (plain z))) (size_not b x (eqb-false b 40 e)))
    go true e [] h =
        ap (λ (c : ℕ). input_reader (c ∷ [])) (eqb-true b 40 e) ∙ input_short.1
        ∙ sym (ap (λ (c : ℕ). onward (size_reader (c ∷ [])) (λ z. pure (plain z))) (eqb-true b 40 e)
        ∙ ap (λ (r : Read Size). onward r (λ z. pure (plain z))) (size_stop [] [] number_end))
    go true e (c ∷ x) h =
        ap (λ (d : ℕ). input_reader (d ∷ c ∷ x)) (eqb-true b 40 e) ∙ input_other c x (h (eqb-true b 40 e))
        ∙ sym (ap (λ (d : ℕ). onward (size_reader (d ∷ c ∷ x)) (λ z. pure (plain z))) (eqb-true b 40 e))

-- at a place i
module _ (s : List ℕ) (i : ℕ) where
  pub input_keyed : get_or s i 256 ≡ 40 → get_or s (i + 1) 256 ≡ 75 → input_reader (drop i s) ≡ keyed_behind (drop (i + 2) s)
  input_keyed o k = key_front (drop i s) (byte_front s i ∙ o) (byte_behind s i 1 ∙ k) ∙ ap keyed_behind (drop-drop 2 i s)

  pub input_plain : (get_or s i 256 ≡ 40 → get_or s (i + 1) 256 ≡ 75 → ⊥) → input_reader (drop i s) ≡ onward (size_reader (drop i s)) (λ z. pure (plain z))
  input_plain h = plain_front (drop i s) (λ o k. h (sym (byte_front s i) ∙ o) (sym (byte_behind s i 1) ∙ k))

-- ---- `s`, `(P,n,m)` or `(U,n,m)`

module _ (say : ℕ → ℕ → Kind) where
  two_then : (s : List ℕ) → two_behind say s ≡ onward (number_then 44 s) (λ n. number_then 41 >>= λ m. pure (say n m))
  unfolding two_behind text
  two_then s = number_then_lem 44 (λ n. number >>= λ m. after (41 ∷ []) >> pure (say n m)) s ∙ go (number_then 44 s)
    where
      go : (r : Read ℕ) → onward r (λ n. number >>= λ m. after (41 ∷ []) >> pure (say n m)) ≡ onward r (λ n. number_then 41 >>= λ m. pure (say n m))
      go (read n left) = number_then_lem 41 (λ m. pure (say n m)) left
      go (stopped left) = refl

  -- a letter behind which the two sizes stand
  module _ (letter : ℕ) (short : kind_reader (40 ∷ letter ∷ []) ≡ stopped []) (comma : (s : List ℕ) → kind_reader (40 ∷ letter ∷ 44 ∷ s) ≡ two_behind say s)
      (other : (b : ℕ) (s : List ℕ) → (b ≡ 44 → ⊥) → kind_reader (40 ∷ letter ∷ b ∷ s) ≡ stopped (b ∷ s)) where
    letter_then : (x : List ℕ) → kind_reader (40 ∷ letter ∷ x) ≡ sizes_behind say x
    unfolding sizes_behind
    letter_then [] = short
    letter_then (b ∷ x) = go (eqb 44 b) refl
      where
        go : (t : Bool) → eqb 44 b ≡ t → kind_reader (40 ∷ letter ∷ b ∷ x) ≡ sizes_behind say (b ∷ x)
        go true e = rw e (ap (λ (c : ℕ). kind_reader (40 ∷ letter ∷ c ∷ x)) (sym (eqb-true 44 b e)) ∙ comma x ∙ two_then x)
        go false e = rw e (other b x (λ z. eqb-false 44 b e (sym z)))

-- at a place i
module _ (s : List ℕ) (i : ℕ) where
  letters : (a : ℕ) → a < 256 → get_or s i 256 ≡ 40 → get_or s (i + 1) 256 ≡ a → drop i s ≡ 40 ∷ a ∷ drop (i + 2) s
  letters a h o e =
      two_front (drop i s) 40 a (byte_front s i ∙ o) (byte_behind s i 1 ∙ e) (omega arith) h ∙ ap (λ (l : List ℕ). 40 ∷ a ∷ l) (drop-drop 2 i s)

  pub kind_pack : get_or s i 256 ≡ 40 → get_or s (i + 1) 256 ≡ 80 → kind_reader (drop i s) ≡ sizes_behind pack (drop (i + 2) s)
  kind_pack o e = ap kind_reader (letters 80 (omega arith) o e) ∙ letter_then pack 80 kind_short.2 kind_p kind_p_other (drop (i + 2) s)

  pub kind_unpack : get_or s i 256 ≡ 40 → get_or s (i + 1) 256 ≡ 85 → kind_reader (drop i s) ≡ sizes_behind unpack (drop (i + 2) s)
  kind_unpack o e = ap kind_reader (letters 85 (omega arith) o e) ∙ letter_then unpack 85 kind_short.3 kind_u kind_u_other (drop (i + 2) s)

-- no P or U behind the bracket; no bracket
letter_other : (x : List ℕ) → get_or x 0 256 ≡ 40 → (get_or x 1 256 ≡ 80 → ⊥) → (get_or x 1 256 ≡ 85 → ⊥) → kind_reader x ≡ stopped (drop 1 x)
letter_other [] o p u = absurd (omega arith)
letter_other (a ∷ []) o p u = ap (λ (b : ℕ). kind_reader (b ∷ [])) o ∙ kind_short.1
letter_other (a ∷ (b ∷ x)) o p u = ap (λ (c : ℕ). kind_reader (c ∷ b ∷ x)) o ∙ kind_other b x p u

no_bracket : (x : List ℕ) → (get_or x 0 256 ≡ 40 → ⊥) → kind_reader x ≡ onward (number x) (λ n. pure (copy n))
no_bracket [] h = kind_short.0 ∙ ap (λ (r : Read ℕ). onward r (λ n. pure (copy n))) (sym number_end)
no_bracket (b ∷ x) h = kind_number_lem b x h

module _ (s : List ℕ) (i : ℕ) where
  pub kind_else : get_or s i 256 ≡ 40 → (get_or s (i + 1) 256 ≡ 80 → ⊥) → (get_or s (i + 1) 256 ≡ 85 → ⊥) → kind_reader (drop i s) ≡ stopped (drop (i + 1) s)
  kind_else o p u =
      letter_other (drop i s) (byte_front s i ∙ o) (λ e. p (sym (byte_behind s i 1) ∙ e)) (λ e. u (sym (byte_behind s i 1) ∙ e)) ∙ ap stopped (drop-drop 1 i s)

  pub kind_copy : (get_or s i 256 ≡ 40 → ⊥) → kind_reader (drop i s) ≡ onward (number (drop i s)) (λ n. pure (copy n))
  kind_copy h = no_bracket (drop i s) (λ e. h (sym (byte_front s i) ∙ e))

-- ---- an item

pub item_is_cv : (s : List ℕ) → get_or s 0 256 ≡ 67 → get_or s 1 256 ≡ 86 → item s ≡ read cv (drop 2 s)
item_is_cv s c v = ap item (two_front s 67 86 c v (omega arith) (omega arith)) ∙ item_cv (drop 2 s)

pub item_c_else : (s : List ℕ) → get_or s 0 256 ≡ 67 → (get_or s 1 256 ≡ 86 → ⊥) → item s ≡ stopped (drop 1 s)
item_c_else [] c h = absurd (omega arith)
item_c_else (a ∷ []) c h = ap (λ (x : ℕ). item (x ∷ [])) c ∙ item_short.1
item_c_else (a ∷ (b ∷ s)) c h = ap (λ (x : ℕ). item (x ∷ b ∷ s)) c ∙ item_c_other b s h

-- `r,`
pub item_field : (s : List ℕ) → (get_or s 0 256 ≡ 67 → ⊥) → (get_or s 0 256 ≡ 40 → ⊥) → item s ≡ onward (number_then 44 s) (λ r. field_behind (start in_data r))
unfolding number_then field_behind text
item_field [] h k = item_short.0 ∙ rw number_end refl
item_field (b ∷ s) h k = item_number b s h ∙ rw (start_data b s k) (go (number (b ∷ s))) ∙ number_then_lem 44 (λ r. field_behind (start in_data r)) (b ∷ s)
  where
    go : (r : Read ℕ) → onward (onward r (λ r. pure (start in_data r))) (λ s. after (44 ∷ []) >> field_behind s) ≡ onward r (λ r. after (44 ∷ []) >> field_behind (start in_data r))
    go (read r left) = refl
    go (stopped left) = refl

-- `(K,r),`
pub item_key : (s : List ℕ) → get_or s 0 256 ≡ 40 → item s ≡ onward (key_then (drop 1 s)) (λ r. field_behind (start in_key r))
unfolding key_then field_behind text
item_key s o = ap item (one_front s 40 o (omega arith)) ∙ item_number 40 x (λ e. omega arith) ∙ rw (start_key x) (go (after (75 ∷ 44 ∷ []) x))
  where
    x : List ℕ
    x = drop 1 s

    last : (r : Read ℕ) → onward (onward r (λ r. pure (start in_key r))) (λ s. after (44 ∷ []) >> field_behind s) ≡ onward (onward r (λ r. after (44 ∷ []) >> pure r)) (λ r. field_behind (start in_key r))
    last (read r left) = ends r (after (44 ∷ []) left)
      where
        ends : (r : ℕ) (u : Read Unit) → onward u (λ v. field_behind (start in_key r)) ≡ onward (onward u (λ v. pure r)) (λ r. field_behind (start in_key r))
        ends r (read v left) = refl
        ends r (stopped left) = refl
    last (stopped left) = refl

    go : (u : Read Unit) → onward (onward u (λ v. number >>= λ r. after (41 ∷ []) >> pure (start in_key r))) (λ s. after (44 ∷ []) >> field_behind s)
        ≡ onward (onward u (λ v. number_then 41 >>= λ r. after (44 ∷ []) >> pure r)) (λ r. field_behind (start in_key r))
    go (read v left) = rw (number_then_lem 41 (λ r. pure (start in_key r)) left) (last (number_then 41 left))
    go (stopped left) = refl
