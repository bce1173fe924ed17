-- Refusal 7's column: the runs of digits of a text of the grammar are its numbers, they begin at rising columns, and so the first number outside
-- its limits is found at the lowest such column. By going along the texts.
use mathlib.Core.Path.{◌≡◌, refl, ap, ap₂, sym, ◌∙◌, subst}
use mathlib.Core.Logic.{◌⊎◌, inl, inr}
use mathlib.Core.Bool.{Bool, true, false, cond, not, ◌&&◌, true≢false}
use mathlib.Core.List.{List, [], ◌∷◌, ◌++◌, map, append-nil, append_assoc}
use Prim.Native.Nat.{ℕ, suc, ◌+◌, ◌≤◌, ◌<◌}
use Prim.Native.String.{String}
use native.Mathlib.Omega.{arith}
use lib.Dec.{eqb}
use lib.ListN.{length}
use borrow.Author.Tests.{eq-eqb, ne_eqb}
use Rattle.rules.specs.Base.{ascii, every, joined}
use Rattle.rules.specs.Answer.{Refusal, refuse, each}
use Rattle.rules.specs.Places.{All, no_more, also, Some, this, that, Both, none_left, both}
use Rattle.rules.specs.Reader.{is_digit, digits, decimal}
use Rattle.rules.specs.Deck.{before_fs}
use Rattle.rules.specs.Halves.{Kind}
use Rattle.rules.specs.Grammar.{Format, Size, Input, Start, Parameter, input_is, output_is, first_is, Item, field, cv}
use Rattle.rules.specs.Words.{number_columns, Limit, limit, within_limits, outside_column}
use Rattle.rules.specs.Texts.{DigitByte, NumberText, ListText, RestText, SizeText, InputText, ParameterText, UText, StartText, KindText, ItemText, FsText}
use Rattle.rules.specs.Asked.{Utility, utility_limits, field_limits, fields_of, size_numbers, input_numbers, parameter_numbers, kind_numbers, item_numbers, field_column}
use Rattle.rules.specs.Rows.{IsR, Complete}
use Rattle.rules.specs.ColumnRows.{Outside, this_number, later_number, NumberOn, number_here, number_later, Lowest}
use Rattle.rules.proofs.Base.Tests.{and_both, all_every}
use Rattle.rules.proofs.Base.AllLaws.{all_append, all_left, all_right}
use Rattle.rules.proofs.Deck.LimitLaws.{Limited, limit_exactly}
use Rattle.rules.proofs.Refusals.AnswerLaws.{refuse_same}
use Rattle.rules.proofs.Grammar.NumberLaws.{digit_of, digits_front, Ends, at_end, before, comma_ends, close_ends}

-- ---- runs of digits

-- the values of the runs of digits of a text, in the order of their columns
abbrev pub run_values : Bool → List ℕ → List ℕ
run_values t [] = []
run_values t (b ∷ s) = let rest = run_values (is_digit b) s in cond (is_digit b && not t) (decimal 0 (digits (b ∷ s)) ∷ rest) rest

-- one for each column
columns_runs : (t : Bool) (c : ℕ) (s : List ℕ) → length (number_columns t c s) ≡ length (run_values t s)
columns_runs t c [] = refl
columns_runs t c (b ∷ s) = go (is_digit b && not t) (columns_runs (is_digit b) (suc c) s)
  where
    go : (u : Bool) → length (number_columns (is_digit b) (suc c) s) ≡ length (run_values (is_digit b) s)
        → length (cond u (c ∷ number_columns (is_digit b) (suc c) s) (number_columns (is_digit b) (suc c) s)) ≡ length (cond u (decimal 0 (digits (b ∷ s)) ∷ run_values (is_digit b) s) (run_values (is_digit b) s))
    go true h = ap suc h
    go false h = h

-- behind what ends a number it does not matter whether one stood before
runs_ends : {y : List ℕ} → Ends y → run_values true y ≡ run_values false y
runs_ends at_end = refl
runs_ends (before d f) = rw d

runs_digits : {x : List ℕ} (y : List ℕ) → All DigitByte x → run_values true (x ++ y) ≡ run_values true y
runs_digits y no_more = refl
runs_digits y (also {x = c} {xs = x} d a) = rw (digit_of c d.0 d.1) (runs_digits y a)

runs_number : {x : List ℕ} {v : ℕ} {y : List ℕ} → NumberText x v → Ends y → run_values false (x ++ y) ≡ v ∷ run_values false y
runs_number {x} {v} {y} n e = go x n.digits n.one ∙ ap₂ ◌∷◌ n.value (runs_ends e)
  where
    go : (x : List ℕ) → All DigitByte x → 1 ≤ length x → run_values false (x ++ y) ≡ decimal 0 x ∷ run_values true y
    go [] a l = absurd (omega arith)
    go (c ∷ x) (also d a) l =
        let z : digits (c ∷ (x ++ y)) ≡ c ∷ x = digits_front (also d a) e in
        let w : run_values false (c ∷ (x ++ y)) ≡ decimal 0 (digits (c ∷ (x ++ y))) ∷ run_values true (x ++ y) = rw (digit_of c d.0 d.1) refl in
        w ∙ ap₂ ◌∷◌ (ap (decimal 0) z) (runs_digits y a)

-- so do the columns: for code that reads number by number
pub columns_number : {x : List ℕ} {v : ℕ} {y : List ℕ} (c : ℕ) → NumberText x v → Ends y
    → number_columns false c (x ++ y) ≡ c ∷ number_columns false (c + length x) y
columns_number {x} {v} {y} c n e = go x n.digits n.one
  where
    ends : (k : ℕ) {y : List ℕ} → Ends y → number_columns true k y ≡ number_columns false k y
    ends k at_end = refl
    ends k (before d f) = rw d

    on : (k : ℕ) {x : List ℕ} → All DigitByte x → number_columns true k (x ++ y) ≡ number_columns true (k + length x) y
    on k no_more = ap (λ (i : ℕ). number_columns true i y) (let z : k ≡ k + 0 = omega arith in z)
    on k (also {x = b} {xs = x} d a) =
        rw (digit_of b d.0 d.1) (on (suc k) a ∙ ap (λ (i : ℕ). number_columns true i y) (let z : suc k + length x ≡ k + suc (length x) = omega arith in z))

    go : (x : List ℕ) → All DigitByte x → 1 ≤ length x → number_columns false c (x ++ y) ≡ c ∷ number_columns false (c + length x) y
    go [] a l = absurd (omega arith)
    go (b ∷ x) (also d a) l =
        rw (digit_of b d.0 d.1)
        (ap (λ (z : List ℕ). c ∷ z) (on (suc c) a ∙ ap (λ (i : ℕ). number_columns true i y) (let z : suc c + length x ≡ c + suc (length x) = omega arith in z) ∙ ends (c + suc (length x)) e))

-- ---- the texts of the grammar: the runs of digits are the numbers, in order

abbrev pub values : List Limit → List ℕ
values [] = []
values (l ∷ ls) = l.value ∷ values ls

values_append : (xs ys : List Limit) → values (xs ++ ys) ≡ values xs ++ values ys
values_append [] ys = refl
values_append (x ∷ xs) ys = ap (λ (l : List ℕ). x.value ∷ l) (values_append xs ys)

values_length : (ls : List Limit) → length (values ls) ≡ length ls
values_length [] = refl
values_length (l ∷ ls) = ap suc (values_length ls)

runs_size : {x : List ℕ} {z : Size} (f : Format) (y : List ℕ) → SizeText x z → run_values false (x ++ y) ≡ values (size_numbers f z) ++ run_values false y
runs_size f y (SizeText.pair {x = a} {y = b} {n = n} n' m') =
    let e : (ascii "(" ++ a ++ ascii "," ++ b ++ ascii ")") ++ y ≡ 40 ∷ (a ++ 44 ∷ (b ++ 41 ∷ y)) = simp append_assoc in
    ap (run_values false) e ∙ runs_number n' (comma_ends (b ++ 41 ∷ y)) ∙ ap (λ (l : List ℕ). n ∷ l) (runs_number m' (close_ends y))
runs_size f y (SizeText.single {x = a} n) =
    let e : (ascii "(" ++ a ++ ascii ")") ++ y ≡ 40 ∷ (a ++ 41 ∷ y) = simp append_assoc in
    ap (run_values false) e ∙ runs_number n (close_ends y)

runs_input : {x : List ℕ} {i : Input} (f : Format) (y : List ℕ) → InputText x i → run_values false (x ++ y) ≡ values (input_numbers f i) ++ run_values false y
runs_input f y (InputText.no_key t) = runs_size f y t
runs_input f y (InputText.with_key {x = a} {y = b} {k = k} n m) =
    let e : (ascii "(K=" ++ a ++ ascii ",D=" ++ b ++ ascii ")") ++ y ≡ 40 ∷ 75 ∷ 61 ∷ (a ++ 44 ∷ 68 ∷ 61 ∷ (b ++ 41 ∷ y)) = simp append_assoc in
    ap (run_values false) e ∙ runs_number n (comma_ends (68 ∷ 61 ∷ (b ++ 41 ∷ y))) ∙ ap (λ (l : List ℕ). k ∷ l) (runs_number m (close_ends y))

runs_parameter : {x : List ℕ} {p : Parameter} (f : Format) {y : List ℕ} → ParameterText x p → Ends y → run_values false (x ++ y) ≡ values (parameter_numbers f p) ++ run_values false y
runs_parameter f {y} ParameterText.TC e = refl
runs_parameter f {y} ParameterText.TF e = refl
runs_parameter f {y} ParameterText.TR e = refl
runs_parameter f {y} ParameterText.TRF e = refl
runs_parameter f {y} ParameterText.FF e = refl
runs_parameter f {y} ParameterText.FV e = refl
runs_parameter f {y} ParameterText.FU e = refl
runs_parameter f {y} ParameterText.FS e = refl
runs_parameter f {y} (ParameterText.A= t) e = runs_input f y t
runs_parameter f {y} (ParameterText.B= t) e = runs_size f y t
runs_parameter f {y} ParameterText.IR e = refl
runs_parameter f {y} ParameterText.IN e = refl
runs_parameter f {y} ParameterText.IU e = refl
runs_parameter f {y} ParameterText.OR e = refl
runs_parameter f {y} ParameterText.ON e = refl
runs_parameter f {y} ParameterText.OU e = refl
runs_parameter f {y} (ParameterText.R n) e = runs_number n e

runs_kind : {x : List ℕ} {k : Kind} {y : List ℕ} → KindText x k → Ends y → run_values false (x ++ y) ≡ values (kind_numbers k) ++ run_values false y
runs_kind {y = y} (KindText.copies n) e = runs_number n e
runs_kind {y = y} (KindText.packs {x = a} {y = b} {n = n} n' m') w =
    let e : (ascii "(P," ++ a ++ ascii "," ++ b ++ ascii ")") ++ y ≡ 40 ∷ 80 ∷ 44 ∷ (a ++ 44 ∷ (b ++ 41 ∷ y)) = simp append_assoc in
    ap (run_values false) e ∙ runs_number n' (comma_ends (b ++ 41 ∷ y)) ∙ ap (λ (l : List ℕ). n ∷ l) (runs_number m' (close_ends y))
runs_kind {y = y} (KindText.unpacks {x = a} {y = b} {n = n} n' m') w =
    let e : (ascii "(U," ++ a ++ ascii "," ++ b ++ ascii ")") ++ y ≡ 40 ∷ 85 ∷ 44 ∷ (a ++ 44 ∷ (b ++ 41 ∷ y)) = simp append_assoc in
    ap (run_values false) e ∙ runs_number n' (comma_ends (b ++ 41 ∷ y)) ∙ ap (λ (l : List ℕ). n ∷ l) (runs_number m' (close_ends y))

runs_start : {x : List ℕ} {s : Start} {y : List ℕ} → StartText x s → Ends y → run_values false (x ++ y) ≡ s.r ∷ run_values false y
runs_start (StartText.of_data n) e = runs_number n e
runs_start {y = y} (StartText.of_key {x = a} n) w =
    let e : (ascii "(K," ++ a ++ ascii ")") ++ y ≡ 40 ∷ 75 ∷ 44 ∷ (a ++ 41 ∷ y) = simp append_assoc in
    ap (run_values false) e ∙ runs_number n (close_ends y)

runs_item : {x : List ℕ} {i : Item} {y : List ℕ} → ItemText x i → Ends y → run_values false (x ++ y) ≡ values (item_numbers i) ++ run_values false y
runs_item {y = y} (ItemText.a_field {x = a} {y = b} {z = c} {s = s} {t = v} {k = k} n t m) w =
    let e : (a ++ ascii "," ++ b ++ ascii "," ++ c) ++ y ≡ a ++ 44 ∷ (b ++ 44 ∷ (c ++ y)) = simp append_assoc in
    let last : Limit = limit 1 4096 v in
    let r2 : run_values false (b ++ 44 ∷ (c ++ y)) ≡ values (kind_numbers k) ++ run_values false (c ++ y) = runs_kind t (comma_ends (c ++ y)) in
    let q : values (kind_numbers k) ++ (v ∷ run_values false y) ≡ values (kind_numbers k ++ (last ∷ [])) ++ run_values false y
    = sym (append_assoc (values (kind_numbers k)) (v ∷ []) (run_values false y)) ∙ ap (λ (l : List ℕ). l ++ run_values false y) (sym (values_append (kind_numbers k) (last ∷ []))) in
    ap (run_values false) e ∙ runs_start n (comma_ends (b ++ 44 ∷ (c ++ y)))
    ∙ ap (λ (l : List ℕ). s.r ∷ l) (r2 ∙ ap (λ (l : List ℕ). values (kind_numbers k) ++ l) (runs_number m w) ∙ q)
runs_item {y = y} ItemText.CV e = refl

-- lists of them
module _ {A : Type 0} (mark : String) (m : ℕ) (only : ascii mark ≡ m ∷ []) (plain : is_digit m ≡ false) (letter : eqb 70 m ≡ false) (ItemIs : List ℕ → A → Type 0)
    (numbers : A → List Limit) (item_runs : (x : List ℕ) (a : A) (y : List ℕ) → ItemIs x a → Ends y → run_values false (x ++ y) ≡ values (numbers a) ++ run_values false y) where
  rest_ends : (y : List ℕ) (more : List A) → RestText mark ItemIs y more → Ends y
  rest_ends _ _ RestText.nothing = at_end
  rest_ends _ _ (RestText.marked {y = y} l) = rw only (before plain letter)

  list_runs : {s : List ℕ} {xs : List A} → ListText mark ItemIs s xs → run_values false s ≡ values (joined (map numbers xs))
  list_runs t =
      elim t as (λ s xs t. run_values false s ≡ values (joined (map numbers xs))) (λ s xs t. run_values false s ≡ values (joined (map numbers xs))) [
        | ListText.item {x = x} {y = y} {a = a} {more = more} i (r → h) ↦
            item_runs x a y i (rest_ends y more r) ∙ ap (λ (l : List ℕ). values (numbers a) ++ l) h ∙ sym (values_append (numbers a) (joined (map numbers more)))
        | RestText.nothing ↦ refl
        | RestText.marked {y = y} {more = more} (l → h) ↦ ap (λ (z : List ℕ). run_values false (z ++ y)) only ∙ rw plain h
      ]

-- the runs of digits of an operand are its numbers, one by one
pub u_values : (f : Format) (o : List ℕ) (us : List Parameter) → UText o us → run_values false o ≡ values (joined (map (parameter_numbers f) us))
u_values f o us t = list_runs "," 44 refl refl refl ParameterText (parameter_numbers f) (λ x p y t e. runs_parameter f t e) t

pub fs_values : (o : List ℕ) (is : List Item) → FsText o is → run_values false o ≡ values (joined (map item_numbers is))
fs_values o is t = list_runs "/" 47 refl refl refl ItemText item_numbers (λ x i y t e. runs_item t e) t

pub u_count : (f : Format) (c : ℕ) (o : List ℕ) (us : List Parameter) → UText o us
    → length (number_columns false c o) ≡ length (joined (map (parameter_numbers f) us))
u_count f c o us t = columns_runs false c o ∙ ap length (u_values f o us t) ∙ values_length (joined (map (parameter_numbers f) us))

pub fs_count : (c : ℕ) (o : List ℕ) (is : List Item) → FsText o is → length (number_columns false c o) ≡ length (joined (map item_numbers is))
fs_count c o is t = columns_runs false c o ∙ ap length (fs_values o is t) ∙ values_length (joined (map item_numbers is))

-- and so are those of one part
module _ {x : List ℕ} (c : ℕ) where
  abbrev alone : x ++ [] ≡ x
  alone = append-nil x

  pub item_count : {i : Item} → ItemText x i → length (number_columns false c x) ≡ length (item_numbers i)
  item_count {i} t =
      columns_runs false c x ∙ ap (λ (s : List ℕ). length (run_values false s)) (sym alone)
      ∙ ap length (runs_item t at_end ∙ append-nil (values (item_numbers i))) ∙ values_length (item_numbers i)

  pub parameter_count : (f : Format) {p : Parameter} → ParameterText x p → length (number_columns false c x) ≡ length (parameter_numbers f p)
  parameter_count f {p} t =
      columns_runs false c x ∙ ap (λ (s : List ℕ). length (run_values false s)) (sym alone)
      ∙ ap length (runs_parameter f t at_end ∙ append-nil (values (parameter_numbers f p))) ∙ values_length (parameter_numbers f p)

-- ---- the first number outside its limits

-- rising columns, from b on
data Rising : ℕ → List ℕ → Type 0 where
  no_more_lem : {b : ℕ} → Rising b []
  next : {b c : ℕ} {cs : List ℕ} → b ≤ c → Rising (suc c) cs → Rising b (c ∷ cs)

rising_from : {b : ℕ} {cs : List ℕ} (a : ℕ) → a ≤ b → Rising b cs → Rising a cs
rising_from a h no_more_lem = no_more_lem
rising_from a h (next {b = b} {c = c} k r) = next {b = a} {c = c} (omega arith) r

rising : (t : Bool) (c : ℕ) (s : List ℕ) → Rising c (number_columns t c s)
rising t c [] = no_more_lem
rising t c (b ∷ s) = go (is_digit b && not t) (rising (is_digit b) (suc c) s)
  where
    go : (u : Bool) → Rising (suc c) (number_columns (is_digit b) (suc c) s) → Rising c (cond u (c ∷ number_columns (is_digit b) (suc c) s) (number_columns (is_digit b) (suc c) s))
    go true r = next {b = c} {c = c} (omega arith) r
    go false r = rising_from c (omega arith) r

outside_low : {b d : ℕ} {cs : List ℕ} {ls : List Limit} → Rising b cs → Outside d cs ls → b ≤ d
outside_low (next h r) (this_number e n) = omega arith
outside_low (next h r) (later_number o) = let z = outside_low r o in omega arith
outside_low {d = d} {ls = ls} (no_more_lem {b = b}) x4 = elim x4 [ ]

-- it is found, or all are within their limits
outside_found : (b : ℕ) (cs : List ℕ) (ls : List Limit) → Rising b cs → length cs ≡ length ls
    → Lowest (λ c. Outside c cs ls) (outside_column cs ls) ⊎ Limited ls
outside_found b [] [] r e = inr no_more
outside_found b [] (l ∷ ls) r e = absurd (omega arith)
outside_found b (c ∷ cs) [] r e = absurd (omega arith)
outside_found b (c ∷ cs) (l ∷ ls) (next h r) e = go (outside_found (suc c) cs ls r (omega arith)) (within_limits l) refl
  where
    past : within_limits l ≡ true → (d : ℕ) → Outside d (c ∷ cs) (l ∷ ls) → Outside d cs ls
    past f d (this_number g n) = absurd (n ((limit_exactly l).0 f))
    past f d (later_number o) = o

    go : Lowest (λ c. Outside c cs ls) (outside_column cs ls) ⊎ Limited ls → (t : Bool) → within_limits l ≡ t
        → Lowest (λ d. Outside d (c ∷ cs) (l ∷ ls)) (cond t (outside_column cs ls) c) ⊎ Limited (l ∷ ls)
    go ih false f = inl (this_number refl (λ w. true≢false (sym ((limit_exactly l).1 w) ∙ f)), λ d k o. omega (arith, outside_low (next {c = c} h r) o, outside_first d k o))
      where
        outside_first : (d : ℕ) → d < c → Outside d (c ∷ cs) (l ∷ ls) → c ≤ d
        outside_first d k (this_number g n) = omega arith
        outside_first d k (later_number o) = let z = outside_low r o in omega arith
    go (inl w) true f = inl (later_number w.0, λ d k o. w.1 d k (past f d o))
    go (inr a) true f = inr (also f a)

pub outside_first : (c : ℕ) (s : List ℕ) (ls : List Limit) → length (number_columns false c s) ≡ length ls → (Limited ls → ⊥)
    → Lowest (λ d. Outside d (number_columns false c s) ls) (outside_column (number_columns false c s) ls)
outside_first c s ls e h = go (outside_found c (number_columns false c s) ls (rising false c s) e)
  where
    go : Lowest (λ d. Outside d (number_columns false c s) ls) (outside_column (number_columns false c s) ls) ⊎ Limited ls
        → Lowest (λ d. Outside d (number_columns false c s) ls) (outside_column (number_columns false c s) ls)
    go (inl w) = w
    go (inr a) = absurd (h a)

-- ---- the limits that the numbers of a card meet are those of the card

pub parameter_meets : (f : Format) (x : Parameter) (us : List Parameter) → Some (λ y. y ≡ x) us → Limited (joined (map (parameter_numbers f) us))
    → Limited (parameter_numbers f x)
parameter_meets f x (u ∷ us) (this e) a =
    subst (λ (z : Parameter). Limited (parameter_numbers f z)) e (all_left (parameter_numbers f u) (joined (map (parameter_numbers f) us)) a)
parameter_meets f x (u ∷ us) (that s) a = parameter_meets f x us s (all_right (parameter_numbers f u) (joined (map (parameter_numbers f) us)) a)
parameter_meets f x [] x3 a = elim x3 [ ]

-- R's number stands on the card or is 1
pub utility_meets : (us : List Parameter) (u : Utility) → Complete us u → Limited (joined (map (parameter_numbers u.format) us)) → utility_limits u ≡ true
unfolding utility_limits
utility_meets us u c a =
    all_every within_limits
    (all_append (parameter_meets u.format (input_is u.input) us c.input a)
    (all_append (parameter_meets u.format (output_is u.output) us c.output a) (go c.first)))
  where
    go : Some (λ x. x ≡ first_is u.first) us ⊎ ((Some IsR us → ⊥) × (u.first ≡ 1)) → Limited (parameter_numbers u.format (first_is u.first))
    go (inl s) = parameter_meets u.format (first_is u.first) us s a
    go (inr w) = also {x = limit 1 65536 u.first} (rw w.1 refl) no_more

pub fields_meet : (is : List Item) → Limited (joined (map item_numbers is)) → every field_limits (fields_of is) ≡ true
unfolding field_limits
fields_meet [] a = refl
fields_meet (cv ∷ is) a = fields_meet is a
fields_meet (field f ∷ is) a =
    and_both (all_every within_limits (all_left (item_numbers (field f)) (joined (map item_numbers is)) a)) (fields_meet is (all_right (item_numbers (field f)) (joined (map item_numbers is)) a))

-- ---- FS cards

pub number_on_low : {p c i : ℕ} {os : List (List ℕ)} {cards : List (List Item)} → NumberOn p c i os cards → i ≤ p
number_on_low (number_here e o) = omega arith
number_on_low (number_later h) = omega (arith, number_on_low h)

-- the card that is refused has its column
pub field_column_lem : (i : ℕ) (fs : List (List ℕ)) (cards : List (List Item)) → Both FsText fs cards → (r : Refusal)
    → each 7 (λ c. every field_limits (fields_of c)) i cards ≡ refuse r
    → (r.number ≡ 7) × Lowest (λ c. NumberOn r.place c i fs cards) (field_column i fs cards r.place)
unfolding each
field_column_lem i [] [] none_left r e = let z : ◌≡◌ {A = ℕ} 0 1 = cc in absurd (omega arith)
field_column_lem i [] (is ∷ cs) z r e = elim z [ ]
field_column_lem i (o ∷ os) [] z r e = elim z [ ]
field_column_lem i (o ∷ os) (is ∷ cs) (both t b) r e = go (λ f. field_column_lem (suc i) os cs b r f) (every field_limits (fields_of is)) refl
  where
    later : Lowest (λ c. NumberOn r.place c (suc i) os cs) (field_column (suc i) os cs r.place)
        → Lowest (λ c. NumberOn r.place c i (o ∷ os) (is ∷ cs)) (field_column i (o ∷ os) (is ∷ cs) r.place)
    later w =
        let n : r.place ≡ i → ⊥ = λ (z : r.place ≡ i). omega (arith, number_on_low w.0) in
        rw (ne_eqb r.place i n) (number_later w.0, λ d l a. w.1 d l (past n d a))
      where
        past : (r.place ≡ i → ⊥) → (d : ℕ) → NumberOn r.place d i (o ∷ os) (is ∷ cs) → NumberOn r.place d (suc i) os cs
        past n d (number_here e a) = absurd (n e)
        past n d (number_later a) = a

    here : every field_limits (fields_of is) ≡ false → Lowest (λ c. NumberOn i c i (o ∷ os) (is ∷ cs)) (field_column i (o ∷ os) (is ∷ cs) i)
    here f =
        let w = outside_first (suc before_fs) o (joined (map item_numbers is)) (fs_count (suc before_fs) o is t) (λ a. true≢false (sym (fields_meet is a) ∙ f)) in
        rw (eq-eqb i i refl) (number_here refl w.0, λ d l a. past d a (w.1 d l))
      where
        past : (d : ℕ) → NumberOn i d i (o ∷ os) (is ∷ cs) → (Outside d (number_columns false (suc before_fs) o) (joined (map item_numbers is)) → ⊥) → ⊥
        past d (number_here e a) m = m a
        past d (number_later a) m = omega (arith, number_on_low a)

    go : (each 7 (λ c. every field_limits (fields_of c)) (suc i) cs ≡ refuse r
        → (r.number ≡ 7) × Lowest (λ c. NumberOn r.place c (suc i) os cs) (field_column (suc i) os cs r.place))
        → (t : Bool) → every field_limits (fields_of is) ≡ t
        → (r.number ≡ 7) × Lowest (λ c. NumberOn r.place c i (o ∷ os) (is ∷ cs)) (field_column i (o ∷ os) (is ∷ cs) r.place)
    go ih true f = let w = ih (rw f at e) in (w.0, later w.1)
    go ih false f =
        let q : record { number = 7; place = i; column = 0 } ≡ r = refuse_same {A = Unit {0}} _ r (rw f at e) in
        subst (λ (z : Refusal). (z.number ≡ 7) × Lowest (λ c. NumberOn z.place c i (o ∷ os) (is ∷ cs)) (field_column i (o ∷ os) (is ∷ cs) z.place)) q (refl, here f)
