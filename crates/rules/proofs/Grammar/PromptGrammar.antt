-- The readers of an item and of a parameter are prompt, part by part.
use mathlib.Core.Path.{◌≡◌, refl, ap, sym, ◌∙◌, subst}
use mathlib.Core.Logic.{inl, inr}
use mathlib.Core.List.{List, [], ◌∷◌, ◌++◌, append-nil, append_assoc}
use Prim.Native.Nat.{ℕ, suc, ◌≤◌}
use Prim.Native.String.{String}
use native.Mathlib.Omega.{arith}
use lib.ListN.{length}
use Rattle.rules.specs.Base.{ascii}
use Rattle.rules.specs.Reader.{read, stopped, Reader, pure, ◌>>=◌, ◌>>◌, ◌or◌, text, number}
use Rattle.rules.specs.Halves.{copy, pack, unpack}
use Rattle.rules.specs.Grammar.{in_data, in_key, tc, tf, tr, trf, ff, fv, fu, fsp, Size, two, one, plain, keyed, Parameter, mode_is, format_is, input_is, output_is, rewind_in, rewind_out, first_is, cv, Start, start, field_with, size_reader, input_reader, start_reader, mode_reader, format_reader, sizes_reader, rewind_reader, first_reader, parameter, sized, kind_reader, item}
use Rattle.rules.specs.Texts.{NumberText, SizeText, InputText, ParameterText, StartText, KindText, ItemText}
use Rattle.rules.proofs.Grammar.ReaderLaws.{read_left, bind_read, text_sound, part_length, within_read}
use Rattle.rules.proofs.Grammar.ListLaws.{text_other}
use Rattle.rules.proofs.Grammar.Prompt.{Prompt, not_stopped, stopped_left, prompt_map, prompt_pure, prompt_bind, Behind, prompt_or, Exactly, prompt_mark, prompt_text}
use Rattle.rules.proofs.Grammar.NumberLaws.{number_not}
use Rattle.rules.proofs.Grammar.PromptNumber.{prompt_number}
use Rattle.rules.proofs.Grammar.PromptChoice.{behind_both, Starts, starts_mark, starts_number, starts_bind, starts_or, apart, marks_behind, texts_behind}
use Rattle.rules.proofs.Grammar.ParameterLaws.{lengths_reader, within_lengths}
use Rattle.rules.proofs.Grammar.LetterLaws.{size_stop, plainly}

-- ---- `(n,m)`, for any opening and any two numbers that it says

regroup : (o x y : List ℕ) → o ++ x ++ ascii "," ++ y ++ ascii ")" ≡ o ++ (x ++ (ascii "," ++ (y ++ ascii ")")))
regroup o x y = simp append_assoc

module _ {A : Type 0} (say : ℕ → ℕ → A) where
  -- behind the opening
  abbrev pair_behind : Reader A
  pair_behind = do n ← number; text ","; m ← number; text ")"; pure (say n m)

  prompt_pair : (T : List ℕ → A → Type 0)
      → ((x y : List ℕ) (n m : ℕ) → NumberText x n → NumberText y m → T (x ++ (ascii "," ++ (y ++ ascii ")"))) (say n m)) → Prompt T pair_behind
  prompt_pair T t =
      prompt_bind NumberText T number _ prompt_number
      (λ x n a. prompt_text _ "," _
      (prompt_bind NumberText _ number _ prompt_number (λ y m b. prompt_text _ ")" _ (prompt_pure _ (say n m) (t x y n m a b)))))

-- ---- FS

prompt_copies : Prompt KindText (number >>= λ s. pure (copy s))
prompt_copies =
    prompt_bind NumberText KindText number (λ s. pure (copy s)) prompt_number
    (λ x s n. prompt_pure _ (copy s) (subst (λ (l : List ℕ). KindText l (copy s)) (sym (append-nil x)) (KindText.copies n)))

behind_p : Prompt (λ y k. KindText (ascii "(P," ++ y) k) (pair_behind pack)
behind_p = prompt_pair pack _ (λ x y n m a b. subst (λ (l : List ℕ). KindText l (pack n m)) (regroup (ascii "(P,") x y) (KindText.packs a b))

behind_u : Prompt (λ y k. KindText (ascii "(U," ++ y) k) (pair_behind unpack)
behind_u = prompt_pair unpack _ (λ x y n m a b. subst (λ (l : List ℕ). KindText l (unpack n m)) (regroup (ascii "(U,") x y) (KindText.unpacks a b))

prompt_kind : Prompt KindText kind_reader
unfolding kind_reader sized
prompt_kind =
    let p = prompt_text KindText "(P," (pair_behind pack) behind_p in
    let u = prompt_text KindText "(U," (pair_behind unpack) behind_u in
    let digit = starts_bind 48 57 number (λ s. pure (copy s)) starts_number in
    let open_p = starts_bind 40 40 (text "(P,") (λ v. pair_behind pack) (starts_mark "(P," 40 _ refl) in
    let open_u = starts_bind 40 40 (text "(U,") (λ v. pair_behind unpack) (starts_mark "(U," 40 _ refl) in
    prompt_or KindText _ _
    (prompt_or KindText _ _ prompt_copies p (apart KindText 48 57 40 40 _ _ p digit open_p (inr (omega arith))))
    u
    (behind_both _ _ _ (apart KindText 48 57 40 40 _ _ u digit open_u (inr (omega arith)))
    (texts_behind _ "(P," "(U," (pair_behind pack) (pair_behind unpack) (omega arith) behind_u (λ v w x e f. clash v w e)))
  where
    clash : (v w : List ℕ) → ascii "(P," ++ v ≡ ascii "(U," ++ w → ⊥
    clash v w e = let z : ◌≡◌ {A = ℕ} 80 85 = cc in omega arith

-- behind `(K,`
abbrev key_behind : Reader Start
key_behind = do r ← number; text ")"; pure (start in_key r)

prompt_start : Prompt StartText start_reader
unfolding start_reader
prompt_start =
    let behind : Prompt (λ y s. StartText (ascii "(K," ++ y) s) key_behind = prompt_bind NumberText _ number _ prompt_number
    (λ x r a. prompt_text _ ")" _ (prompt_pure _ (start in_key r) (StartText.of_key a))) in
    let numbers : Prompt StartText (number >>= λ r. pure (start in_data r)) = prompt_bind NumberText StartText number (λ r. pure (start in_data r)) prompt_number
    (λ x r a. prompt_pure _ (start in_data r) (subst (λ (l : List ℕ). StartText l (start in_data r)) (sym (append-nil x)) (StartText.of_data a))) in
    prompt_or StartText _ _ (prompt_text StartText "(K," key_behind behind) numbers
    (apart StartText 40 40 48 57 _ _ numbers (starts_bind 40 40 (text "(K,") _ (starts_mark "(K," 40 _ refl)) (starts_bind 48 57 number _ starts_number) (inl (omega arith)))

start_starts : Starts 40 57 start_reader
unfolding start_reader
start_starts =
    starts_or 40 40 48 57 _ _ (omega arith) (omega arith) (starts_bind 40 40 (text "(K,") _ (starts_mark "(K," 40 _ refl)) (starts_bind 48 57 number _ starts_number)

pub prompt_item : Prompt ItemText item
unfolding item
prompt_item =
    let fields = prompt_bind StartText ItemText start_reader _ prompt_start
    (λ x s a. prompt_text _ "," _
    (prompt_bind KindText _ kind_reader _ prompt_kind
    (λ y k b. prompt_text _ "," _
    (prompt_bind NumberText _ number _ prompt_number
    (λ z t c. prompt_pure _ (field_with s k t) (subst (λ (l : List ℕ). ItemText l (field_with s k t)) (regroup_item x y z) (ItemText.a_field a b c))))))) in
    let tails = prompt_text ItemText "CV" (pure cv) (prompt_pure _ cv ItemText.CV) in
    prompt_or ItemText _ _ fields tails
    (apart ItemText 40 57 67 67 _ _ tails (starts_bind 40 57 start_reader _ start_starts) (starts_bind 67 67 (text "CV") _ (starts_mark "CV" 67 _ refl)) (inl (omega arith)))
  where
    regroup_item : (x y z : List ℕ) → x ++ ascii "," ++ y ++ ascii "," ++ z ≡ x ++ (ascii "," ++ (y ++ (ascii "," ++ (z ++ []))))
    regroup_item x y z = simp (append_assoc, append-nil)

-- ---- U

behind_pair : Prompt (λ y z. SizeText (ascii "(" ++ y) z) (pair_behind two)
behind_pair = prompt_pair two _ (λ x y n m a b. subst (λ (l : List ℕ). SizeText l (two n m)) (regroup (ascii "(") x y) (SizeText.pair a b))

-- behind `(`
abbrev single_behind : Reader Size
single_behind = do g ← number; text ")"; pure (one g)

behind_single : Prompt (λ y z. SizeText (ascii "(" ++ y) z) single_behind
behind_single = prompt_bind NumberText _ number _ prompt_number (λ x g a. prompt_text _ ")" _ (prompt_pure _ (one g) (SizeText.single a)))

-- where `(g)` is read `(n,m)` stops at the `)`
single_reads : (s : List ℕ) (z : Size) (y : List ℕ) → (text "(" >> single_behind) s ≡ read z y → (text "(" >> pair_behind two) s ≡ stopped (41 ∷ y)
single_reads s z y e =
    let i = bind_read (text "(" s) (λ v. single_behind) z y e in
    let j = bind_read (number i.1) (λ g. text ")" >> pure (one g)) z y i.3 in
    let k = bind_read (text ")" j.1) (λ v. pure (one j.0)) z y j.3 in
    let g : j.1 ≡ 41 ∷ y = text_sound ")" j.1 k.0 k.1 k.2 ∙ ap (λ (l : List ℕ). 41 ∷ l) (read_left (one j.0) z k.1 y k.3) in
    let stop : text "," (41 ∷ y) ≡ stopped (41 ∷ y) = text_other "," 44 refl 41 y (λ (n : ◌≡◌ {A = ℕ} 41 44). omega arith) in
    rw (i.2, j.2, g, stop)

prompt_size : Prompt SizeText size_reader
unfolding size_reader
prompt_size =
    prompt_or SizeText (text "(" >> pair_behind two) (text "(" >> single_behind) (prompt_text SizeText "(" (pair_behind two) behind_pair) (prompt_text SizeText "(" single_behind behind_single)
    (λ s x z y e f. let g : x ≡ 41 ∷ y = stopped_left x (41 ∷ y) (sym e ∙ single_reads s z y f) in omega (arith, ap length g))

-- a text that says a value, and no more; of two such the first is at most one byte longer
says : (t : String) (p : Parameter) → ParameterText (ascii t) p → Prompt ParameterText (text t >> pure p)
says t p h = prompt_text ParameterText t (pure p) (prompt_pure _ p (subst (λ (l : List ℕ). ParameterText l p) (sym (append-nil (ascii t))) h))

says_behind : (t u : String) (p q : Parameter) → length (ascii t) ≤ suc (length (ascii u)) → Behind (text t >> pure p) (text u >> pure q)
says_behind t u p q h =
    texts_behind (λ (x : List ℕ) (v : Parameter). x ≡ x) t u (pure p) (pure q) h (prompt_pure _ q refl) (λ v w x e f. not_stopped p v x f)

prompt_mode : Prompt ParameterText mode_reader
unfolding mode_reader
prompt_mode =
    prompt_or ParameterText _ _
    (prompt_or ParameterText _ _
    (prompt_or ParameterText _ _ (says "TRF" (mode_is trf) ParameterText.TRF) (says "TC" (mode_is tc) ParameterText.TC) (says_behind "TRF" "TC" _ _ (omega arith)))
    (says "TF" (mode_is tf) ParameterText.TF)
    (behind_both _ _ _ (says_behind "TRF" "TF" _ _ (omega arith)) (says_behind "TC" "TF" _ _ (omega arith))))
    (says "TR" (mode_is tr) ParameterText.TR)
    (behind_both _ _ _ (behind_both _ _ _ (says_behind "TRF" "TR" _ _ (omega arith)) (says_behind "TC" "TR" _ _ (omega arith))) (says_behind "TF" "TR" _ _ (omega arith)))

prompt_format : Prompt ParameterText format_reader
unfolding format_reader
prompt_format =
    prompt_or ParameterText _ _
    (prompt_or ParameterText _ _
    (prompt_or ParameterText _ _ (says "FF" (format_is ff) ParameterText.FF) (says "FV" (format_is fv) ParameterText.FV) (says_behind "FF" "FV" _ _ (omega arith)))
    (says "FU" (format_is fu) ParameterText.FU)
    (behind_both _ _ _ (says_behind "FF" "FU" _ _ (omega arith)) (says_behind "FV" "FU" _ _ (omega arith))))
    (says "FS" (format_is fsp) ParameterText.FS)
    (behind_both _ _ _ (behind_both _ _ _ (says_behind "FF" "FS" _ _ (omega arith)) (says_behind "FV" "FS" _ _ (omega arith))) (says_behind "FU" "FS" _ _ (omega arith)))

-- behind `(K=`
behind_k : Prompt (λ y i. InputText (ascii "(K=" ++ y) i) lengths_reader
behind_k =
    prompt_bind NumberText _ number _ prompt_number
    (λ x k a. prompt_text _ "," _
    (prompt_text _ "D=" _
    (prompt_bind NumberText _ number _ prompt_number
    (λ y d b. prompt_text _ ")" _
    (prompt_pure _ (keyed k d) (subst (λ (l : List ℕ). InputText l (keyed k d)) (regroup_lengths x y) (InputText.with_key a b)))))))
  where
    regroup_lengths : (x y : List ℕ) → ascii "(K=" ++ x ++ ascii ",D=" ++ y ++ ascii ")" ≡ ascii "(K=" ++ (x ++ (ascii "," ++ (ascii "D=" ++ (y ++ ascii ")"))))
    regroup_lengths x y = simp append_assoc

-- where `(K=l,D=l)` is read a size stops behind the bracket
prompt_input : Prompt InputText input_reader
unfolding input_reader
prompt_input =
    let sizes : Prompt InputText (size_reader >>= λ z. pure (plain z)) = prompt_bind SizeText InputText size_reader (λ z. pure (plain z)) prompt_size
    (λ x z i. prompt_pure _ (plain z) (subst (λ (l : List ℕ). InputText l (plain z)) (sym (append-nil x)) (InputText.no_key i))) in
    let keys = prompt_text InputText "(K=" lengths_reader behind_k in
    prompt_or InputText _ _ sizes keys (λ s x i y e f. back s x i y e f)
  where
    back : Behind (size_reader >>= λ z. pure (plain z)) (text "(K=" >> lengths_reader)
    back s x i y e f =
        let j = bind_read (text "(K=" s) (λ v. lengths_reader) i y f in
        let rest : List ℕ = 61 ∷ j.1 in
        let g : s ≡ 40 ∷ 75 ∷ rest = text_sound "(K=" s j.0 j.1 j.2 in
        let stop : (size_reader >>= λ z. pure (plain z)) (40 ∷ 75 ∷ rest) ≡ stopped (75 ∷ rest) = ap plainly (size_stop (75 ∷ rest) (75 ∷ rest) (number_not 75 rest refl)) in
        let h : x ≡ 75 ∷ rest = stopped_left x (75 ∷ rest) (sym e ∙ ap (size_reader >>= λ z. pure (plain z)) g ∙ stop) in
        omega (arith, ap length h, part_length (within_read 0 lengths_reader within_lengths j.1 i y j.3))

-- `A=` or `B=`, and what it says
prompt_named : {A : Type 0} (T : List ℕ → A → Type 0) (p : Reader A) → Prompt T p → (t : String) (say : A → Parameter)
    → ((x : List ℕ) (z : A) → T x z → ParameterText (ascii t ++ x) (say z)) → Prompt ParameterText (text t >> (p >>= λ z. pure (say z)))
prompt_named T p k t say h =
    prompt_text ParameterText t _
    (prompt_bind T _ p _ k
    (λ x z i. prompt_pure _ (say z) (subst (λ (l : List ℕ). ParameterText (ascii t ++ l) (say z)) (sym (append-nil x)) (h x z i))))

prompt_sizes : Prompt ParameterText sizes_reader
unfolding sizes_reader
prompt_sizes =
    let b = prompt_named SizeText size_reader prompt_size "B=" output_is (λ x z i. ParameterText.B= i) in
    prompt_or ParameterText _ _ (prompt_named InputText input_reader prompt_input "A=" input_is (λ x z i. ParameterText.A= i)) b
    (apart ParameterText 65 65 66 66 _ _ b (starts_bind 65 65 (text "A=") _ (starts_mark "A=" 65 _ refl)) (starts_bind 66 66 (text "B=") _ (starts_mark "B=" 66 _ refl)) (inl (omega arith)))

-- one of three texts of one length, and what it says
prompt_three : (p : Parameter) (a b c : String) → ParameterText (ascii a) p → ParameterText (ascii b) p → ParameterText (ascii c) p
    → length (ascii a) ≤ suc (length (ascii b)) → length (ascii a) ≤ suc (length (ascii c)) → length (ascii b) ≤ suc (length (ascii c))
    → Prompt ParameterText ((text a or text b or text c) >> pure p)
prompt_three p a b c s t u i j k =
    let T : List ℕ → Unit {0} → Type 0 = λ x v. ParameterText x p in
    prompt_bind T ParameterText (text a or text b or text c) (λ v. pure p)
    (prompt_or T _ _ (prompt_or T _ _ (mark T a (λ x v e. subst (λ (l : List ℕ). ParameterText l p) (sym e) s)) (mark T b (λ x v e. subst (λ (l : List ℕ). ParameterText l p) (sym e) t)) (marks_behind a b i))
    (mark T c (λ x v e. subst (λ (l : List ℕ). ParameterText l p) (sym e) u)) (behind_both _ _ _ (marks_behind a c j) (marks_behind b c k)))
    (λ x v t. prompt_pure _ p (subst (λ (l : List ℕ). ParameterText l p) (sym (append-nil x)) t))
  where
    mark : (T : List ℕ → Unit {0} → Type 0) (t : String) → ((x : List ℕ) (v : Unit) → Exactly t x v → T x v) → Prompt T (text t)
    mark T t f = prompt_map (Exactly t) (text t) T f (prompt_mark t)

-- and how it begins
three_starts : (p : Parameter) (c : ℕ) (r s t : String) (x y z : List ℕ) → ascii r ≡ c ∷ x → ascii s ≡ c ∷ y → ascii t ≡ c ∷ z
    → Starts c c ((text r or text s or text t) >> pure p)
three_starts p c r s t x y z a b d =
    starts_bind c c (text r or text s or text t) (λ v. pure p)
    (starts_or c c c c _ _ (omega arith) (omega arith) (starts_or c c c c _ _ (omega arith) (omega arith) (starts_mark r c x a) (starts_mark s c y b)) (starts_mark t c z d))

prompt_rewind : Prompt ParameterText rewind_reader
unfolding rewind_reader
prompt_rewind =
    let o = prompt_three rewind_out "OR" "ON" "OU" ParameterText.OR ParameterText.ON ParameterText.OU (omega arith) (omega arith) (omega arith) in
    prompt_or ParameterText _ _ (prompt_three rewind_in "IR" "IN" "IU" ParameterText.IR ParameterText.IN ParameterText.IU (omega arith) (omega arith) (omega arith)) o
    (apart ParameterText 73 73 79 79 _ _ o (three_starts rewind_in 73 "IR" "IN" "IU" _ _ _ refl refl refl) (three_starts rewind_out 79 "OR" "ON" "OU" _ _ _ refl refl refl) (inl (omega arith)))

prompt_first : Prompt ParameterText first_reader
unfolding first_reader
prompt_first =
    prompt_text ParameterText "R" _
    (prompt_bind NumberText _ number _ prompt_number
    (λ x n a. prompt_pure _ (first_is n) (subst (λ (l : List ℕ). ParameterText (ascii "R" ++ l) (first_is n)) (sym (append-nil x)) (ParameterText.R a))))

-- ---- the letters: T; F; A, B; I, O; R

mode_starts : Starts 84 84 mode_reader
unfolding mode_reader
mode_starts =
    starts_or 84 84 84 84 _ _ (omega arith) (omega arith)
    (starts_or 84 84 84 84 _ _ (omega arith) (omega arith) (starts_or 84 84 84 84 _ _ (omega arith) (omega arith) (one "TRF" _ _ refl) (one "TC" _ _ refl)) (one "TF" _ _ refl))
    (one "TR" _ _ refl)
  where
    one : (t : String) (p : Parameter) (cs : List ℕ) → ascii t ≡ 84 ∷ cs → Starts 84 84 (text t >> pure p)
    one t p cs e = starts_bind 84 84 (text t) (λ v. pure p) (starts_mark t 84 cs e)

format_starts : Starts 70 70 format_reader
unfolding format_reader
format_starts =
    starts_or 70 70 70 70 _ _ (omega arith) (omega arith)
    (starts_or 70 70 70 70 _ _ (omega arith) (omega arith) (starts_or 70 70 70 70 _ _ (omega arith) (omega arith) (one "FF" _ _ refl) (one "FV" _ _ refl)) (one "FU" _ _ refl))
    (one "FS" _ _ refl)
  where
    one : (t : String) (p : Parameter) (cs : List ℕ) → ascii t ≡ 70 ∷ cs → Starts 70 70 (text t >> pure p)
    one t p cs e = starts_bind 70 70 (text t) (λ v. pure p) (starts_mark t 70 cs e)

sizes_starts : Starts 65 66 sizes_reader
unfolding sizes_reader
sizes_starts =
    starts_or 65 65 66 66 _ _ (omega arith) (omega arith) (starts_bind 65 65 (text "A=") _ (starts_mark "A=" 65 _ refl)) (starts_bind 66 66 (text "B=") _ (starts_mark "B=" 66 _ refl))

rewind_starts : Starts 73 79 rewind_reader
unfolding rewind_reader
rewind_starts =
    starts_or 73 73 79 79 _ _ (omega arith) (omega arith) (three_starts rewind_in 73 "IR" "IN" "IU" _ _ _ refl refl refl) (three_starts rewind_out 79 "OR" "ON" "OU" _ _ _ refl refl refl)

first_starts : Starts 82 82 first_reader
unfolding first_reader
first_starts = starts_bind 82 82 (text "R") _ (starts_mark "R" 82 _ refl)

pub prompt_parameter : Prompt ParameterText parameter
unfolding parameter
prompt_parameter =
    prompt_or ParameterText _ _
    (prompt_or ParameterText _ _
    (prompt_or ParameterText _ _
    (prompt_or ParameterText _ _ prompt_mode prompt_format (apart ParameterText 84 84 70 70 _ _ prompt_format mode_starts format_starts (inr (omega arith))))
    prompt_sizes
    (behind_both _ _ _ (apart ParameterText 84 84 65 66 _ _ prompt_sizes mode_starts sizes_starts (inr (omega arith))) (apart ParameterText 70 70 65 66 _ _ prompt_sizes format_starts sizes_starts (inr (omega arith)))))
    prompt_rewind
    (behind_both _ _ _
    (behind_both _ _ _ (apart ParameterText 84 84 73 79 _ _ prompt_rewind mode_starts rewind_starts (inr (omega arith))) (apart ParameterText 70 70 73 79 _ _ prompt_rewind format_starts rewind_starts (inl (omega arith))))
    (apart ParameterText 65 66 73 79 _ _ prompt_rewind sizes_starts rewind_starts (inl (omega arith)))))
    prompt_first
    (behind_both _ _ _
    (behind_both _ _ _
    (behind_both _ _ _ (apart ParameterText 84 84 82 82 _ _ prompt_first mode_starts first_starts (inr (omega arith))) (apart ParameterText 70 70 82 82 _ _ prompt_first format_starts first_starts (inl (omega arith))))
    (apart ParameterText 65 66 82 82 _ _ prompt_first sizes_starts first_starts (inl (omega arith))))
    (apart ParameterText 73 79 82 82 _ _ prompt_first rewind_starts first_starts (inl (omega arith))))
