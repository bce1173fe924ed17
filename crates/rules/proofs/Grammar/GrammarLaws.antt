-- The readers of the operands read exactly the texts of the grammar, and stop at the first byte at which no continuation could be right. What is read is a
-- text, since the readers are prompt; a text is read since each reader that stands before the right one stops at its first byte, or behind the first number,
-- and since a mark ends every number.
use mathlib.Core.Path.{◌≡◌, refl, ap, sym, ◌∙◌}
use mathlib.Core.Logic.{◌↔◌}
use mathlib.Core.List.{List, [], ◌∷◌, ◌++◌, append_assoc}
use Prim.Native.Nat.{ℕ, ◌-◌}
use Prim.Native.String.{String}
use native.Mathlib.Omega.{arith}
use lib.ListN.{length}
use borrow.Author.Tests.{eqb-false}
use Rattle.rules.specs.Base.{ascii}
use Rattle.rules.specs.Reader.{Read, read, stopped, Reader, pure, onward, ◌>>=◌, ◌>>◌, text, number}
use Rattle.rules.specs.Halves.{Kind, pack, unpack}
use Rattle.rules.specs.Grammar.{in_data, tr, Size, two, Input, Parameter, mode_is, input_is, output_is, first_is, Item, Start, start, start_reader, size_reader, input_reader, mode_reader, parameter, u_operand, sized, kind_reader, item, fs_operand}
use Rattle.rules.specs.Texts.{NumberText, SizeText, InputText, ParameterText, UText, StartText, KindText, ItemText, FsText}
use Rattle.rules.specs.TextParts.{stops}
use Rattle.rules.specs.Columns.{RightTo}
use Rattle.rules.proofs.Base.AllLaws.{all_head}
use Rattle.rules.proofs.Grammar.ListLaws.{list_left, list_sound, list_reads}
use Rattle.rules.proofs.Grammar.ReaderLaws.{read_value, or_stops, or_first, or_second, bind_stops, Sound, text_reads}
use Rattle.rules.proofs.Grammar.Prompt.{Prompt, right_to}
use Rattle.rules.proofs.Grammar.PromptList.{prompt_list}
use Rattle.rules.proofs.Grammar.PromptGrammar.{prompt_item, prompt_parameter}
use Rattle.rules.proofs.Grammar.ItemLaws.{within_item, start_key, start_data, item_cv}
use Rattle.rules.proofs.Grammar.ParameterLaws.{within_parameter, parameter_t, parameter_f, parameter_a, parameter_b, parameter_i, parameter_o, parameter_r}
use Rattle.rules.proofs.Grammar.LetterLaws.{mode_c, mode_f, mode_rf, mode_r, mode_r_end, format_f, format_v, format_u, format_s, sizes_a, sizes_b, rewind_ir, rewind_in_lem, rewind_iu, rewind_or, rewind_on, rewind_ou, size_one, input_key}
use Rattle.rules.proofs.Grammar.NumberLaws.{Ends, at_end, before, comma_ends, slash_ends, close_ends, number_reads, number_stops}

-- ---- `(n,m)`, for any opening and any two numbers that it says

module _ {A : Type 0} (opening : String) (say : ℕ → ℕ → A) where
  abbrev two_reader : Reader A
  two_reader = do text opening; n ← number; text ","; m ← number; text ")"; pure (say n m)

  two_reads : {x y : List ℕ} {n m : ℕ} → NumberText x n → NumberText y m → (left : List ℕ)
      → two_reader ((ascii opening ++ x ++ ascii "," ++ y ++ ascii ")") ++ left) ≡ read (say n m) left
  unfolding text
  two_reads {x} {y} {n} {m} a b left =
      let e : (ascii opening ++ x ++ ascii "," ++ y ++ ascii ")") ++ left ≡ ascii opening ++ (x ++ 44 ∷ (y ++ 41 ∷ left)) = simp append_assoc in
      rw (e, text_reads opening (x ++ 44 ∷ (y ++ 41 ∷ left)), number_reads a (comma_ends (y ++ 41 ∷ left)), number_reads b (close_ends left))

-- ---- FS

kind_reads : {x left : List ℕ} {k : Kind} → KindText x k → Ends left → kind_reader (x ++ left) ≡ read k left
unfolding kind_reader sized text
kind_reads (KindText.copies n) e = rw (number_reads n e)
kind_reads {left = left} (KindText.packs {x = x} {y = y} {n = n} {m = m} a b) e =
    or_first _ (pack n m) left (or_second _ (pack n m) left (bind_stops _ (number_stops 40 _ refl)) (two_reads "(P," pack a b left))
kind_reads {left = left} (KindText.unpacks {x = x} {y = y} {n = n} {m = m} a b) e =
    or_second _ (unpack n m) left (or_stops (bind_stops _ (number_stops 40 _ refl)) (stops _)) (two_reads "(U," unpack a b left)

or_data : {x left : List ℕ} {r : ℕ} → NumberText x r → Ends left → start_reader (x ++ left) ≡ read (start in_data r) left
or_data {x = []} n e = absurd (omega (arith, n.one))
or_data {x = b ∷ x} {left = left} n e = start_data b (x ++ left) (digit_not n) ∙ rw (number_reads n e) refl
  where
    digit_not : {b : ℕ} {x : List ℕ} {r : ℕ} → NumberText (b ∷ x) r → b ≡ 40 → ⊥
    digit_not n z = let d = all_head n.digits in omega (arith, d.0, d.1)

start_reads : {x left : List ℕ} {s : Start} → StartText x s → Ends left → start_reader (x ++ left) ≡ read s left
unfolding start_reader text
start_reads {left = left} (StartText.of_key {x = x} {r = r} a) e =
    let g : (ascii "(K," ++ x ++ ascii ")") ++ left ≡ 40 ∷ 75 ∷ 44 ∷ (x ++ 41 ∷ left) = simp append_assoc in
    ap start_reader g ∙ start_key (75 ∷ 44 ∷ (x ++ 41 ∷ left)) ∙ rw (number_reads a (close_ends left)) refl
start_reads {left = left} (StartText.of_data a) e = or_data a e

pub item_sound : Sound ItemText item
item_sound = prompt_item.sound

pub item_reads : {x left : List ℕ} {i : Item} → ItemText x i → Ends left → item (x ++ left) ≡ read i left
unfolding item text
item_reads {left = left} (ItemText.a_field {x = x} {y = y} {z = z} {s = s} {t = t} {k = k} a b c) e =
    let g : x ++ ascii "," ++ y ++ ascii "," ++ z ++ left ≡ x ++ 44 ∷ (y ++ 44 ∷ (z ++ left)) = simp append_assoc in
    rw (g, start_reads a (comma_ends (y ++ 44 ∷ (z ++ left))), kind_reads b (comma_ends (z ++ left)), number_reads c e)
item_reads {left = left} ItemText.CV e = item_cv left

-- FS operands are read exactly where they are lists of items
pub fs_exactly : (o : List ℕ) (is : List Item) → (fs_operand o ≡ read is []) ↔ FsText o is
unfolding fs_operand
fs_exactly o is = (
  λ e. list_sound "/" item ItemText item_sound o is [] e,
  λ t. list_reads "/" item ItemText within_item 47 refl (λ x i t. item_reads t at_end) (λ x i s t. item_reads t (slash_ends s)) t,
)

-- to the text's end
pub fs_left : (o : List ℕ) (is : List Item) (left : List ℕ) → fs_operand o ≡ read is left → left ≡ []
unfolding fs_operand
fs_left o is left e = list_left "/" item o is left e

-- in one way only
pub fs_once : (o : List ℕ) (is js : List Item) → FsText o is → FsText o js → is ≡ js
fs_once o is js t u = read_value is js [] [] (sym ((fs_exactly o is).1 t) ∙ (fs_exactly o js).1 u)

-- ---- U

size_reads : {x left : List ℕ} {z : Size} → SizeText x z → size_reader (x ++ left) ≡ read z left
unfolding size_reader
size_reads {left = left} (SizeText.pair {n = n} {m = m} a b) = or_first _ (two n m) left (two_reads "(" two a b left)
size_reads {left = left} (SizeText.single {x = x} {g = g} a) =
    let e : x ++ ascii ")" ++ left ≡ x ++ 41 ∷ left = simp append_assoc in
    ap (λ (l : List ℕ). size_reader (40 ∷ l)) e ∙ size_one (x ++ 41 ∷ left) g left (number_reads a (close_ends left))

input_reads : {x left : List ℕ} {i : Input} → InputText x i → input_reader (x ++ left) ≡ read i left
unfolding input_reader text
input_reads {left = left} (InputText.no_key {s = z} t) = rw (size_reads {left = left} t) refl
input_reads {left = left} (InputText.with_key {x = x} {y = y} {k = k} {d = d} a b) =
    let g : (ascii "(K=" ++ x ++ ascii ",D=" ++ y ++ ascii ")") ++ left ≡ 40 ∷ 75 ∷ 61 ∷ (x ++ 44 ∷ 68 ∷ 61 ∷ (y ++ 41 ∷ left)) = simp append_assoc in
    ap input_reader g ∙ input_key (61 ∷ (x ++ 44 ∷ 68 ∷ 61 ∷ (y ++ 41 ∷ left)))
    ∙ rw (number_reads a (comma_ends (68 ∷ 61 ∷ (y ++ 41 ∷ left))), number_reads b (close_ends left)) refl

pub parameter_sound : Sound ParameterText parameter
parameter_sound = prompt_parameter.sound

-- TR, and no F behind it
tr_reads : {left : List ℕ} → Ends left → mode_reader (84 ∷ 82 ∷ left) ≡ read (mode_is tr) left
tr_reads at_end = mode_r_end
tr_reads (before {b = b} {s = s} d f) = mode_r b s (λ e. eqb-false 70 b f (sym e))

pub parameter_reads : {x left : List ℕ} {p : Parameter} → ParameterText x p → Ends left → parameter (x ++ left) ≡ read p left
parameter_reads {left = l} ParameterText.TC e = parameter_t _ ∙ mode_c l
parameter_reads {left = l} ParameterText.TF e = parameter_t _ ∙ mode_f l
parameter_reads {left = l} ParameterText.TR e = parameter_t _ ∙ tr_reads e
parameter_reads {left = l} ParameterText.TRF e = parameter_t _ ∙ mode_rf l
parameter_reads {left = l} ParameterText.FF e = parameter_f _ ∙ format_f l
parameter_reads {left = l} ParameterText.FV e = parameter_f _ ∙ format_v l
parameter_reads {left = l} ParameterText.FU e = parameter_f _ ∙ format_u l
parameter_reads {left = l} ParameterText.FS e = parameter_f _ ∙ format_s l
parameter_reads {left = l} (ParameterText.A= {x = x} t) e =
    parameter_a _ ∙ sizes_a (x ++ l) ∙ ap (λ (r : Read Input). onward r (λ z. pure (input_is z))) (input_reads t)
parameter_reads {left = l} (ParameterText.B= {x = x} t) e =
    parameter_b _ ∙ sizes_b (x ++ l) ∙ ap (λ (r : Read Size). onward r (λ z. pure (output_is z))) (size_reads t)
parameter_reads {left = l} ParameterText.IR e = parameter_i _ ∙ rewind_ir l
parameter_reads {left = l} ParameterText.IN e = parameter_i _ ∙ rewind_in_lem l
parameter_reads {left = l} ParameterText.IU e = parameter_i _ ∙ rewind_iu l
parameter_reads {left = l} ParameterText.OR e = parameter_o _ ∙ rewind_or l
parameter_reads {left = l} ParameterText.ON e = parameter_o _ ∙ rewind_on l
parameter_reads {left = l} ParameterText.OU e = parameter_o _ ∙ rewind_ou l
parameter_reads {left = l} (ParameterText.R a) e = parameter_r _ ∙ ap (λ (r : Read ℕ). onward r (λ n. pure (first_is n))) (number_reads a e)

-- U operands are read exactly where they are lists of parameters
pub u_exactly : (o : List ℕ) (us : List Parameter) → (u_operand o ≡ read us []) ↔ UText o us
unfolding u_operand
u_exactly o us = (
  λ e. list_sound "," parameter ParameterText parameter_sound o us [] e,
  λ t. list_reads "," parameter ParameterText within_parameter 44 refl (λ x p t. parameter_reads t at_end) (λ x p s t. parameter_reads t (comma_ends s)) t,
)

-- to the text's end
pub u_left : (o : List ℕ) (us : List Parameter) (left : List ℕ) → u_operand o ≡ read us left → left ≡ []
unfolding u_operand
u_left o us left e = list_left "," parameter o us left e

-- in one way only
pub u_once : (o : List ℕ) (us vs : List Parameter) → UText o us → UText o vs → us ≡ vs
u_once o us vs t u = read_value us vs [] [] (sym ((u_exactly o us).1 t) ∙ (u_exactly o vs).1 u)

-- ---- the column of refusal 3

-- an operand that is refused is right up to where its reader stops, and no further
pub fs_prompt : Prompt FsText fs_operand
unfolding fs_operand
fs_prompt = prompt_list "/" item ItemText prompt_item within_item

pub u_prompt : Prompt UText u_operand
unfolding u_operand
u_prompt = prompt_list "," parameter ParameterText prompt_parameter within_parameter

pub fs_right : (o left : List ℕ) → fs_operand o ≡ stopped left → RightTo FsText o (length o - length left)
fs_right = right_to FsText fs_operand fs_prompt (λ s is t. (fs_exactly s is).1 t)

pub u_right : (o left : List ℕ) → u_operand o ≡ stopped left → RightTo UText o (length o - length left)
u_right = right_to UText u_operand u_prompt (λ s us t. (u_exactly s us).1 t)
