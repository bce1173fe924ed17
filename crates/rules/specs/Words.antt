-- Document 02, order 1: an operand's parts with their texts, and the columns at which they and their numbers begin.
use Rattle.std.specs.Prelude.{Bool, false, cond, not, ◌&&◌, List, [], ◌∷◌, ℕ, suc, ◌+◌, ◌-◌, eqb, length, take}
use Rattle.rules.specs.Base.{within}
use Rattle.rules.specs.Reader.{Read, read, stopped, Reader, onward, is_digit, list_of}
use Rattle.rules.specs.Grammar.{Parameter, parameter, Item, item}

-- ---- parts with their texts

pub record Worded (A : Type 0) : Type 0 where
  pub value : A
  pub text : List ℕ

-- what p reads, with its text
unfoldable pub worded : {A : Type 0} → Reader A → Reader (Worded A)
worded p s = onward (p s) (λ a left. read (record { value = a; text = take (length s - length left) s }) left)

abbrev pub parts_of : {A : Type 0} → Read (List A) → List A
parts_of (read xs left) = xs
parts_of (stopped left) = []

-- the parameters of a U operand, and the items of an FS operand
unfoldable pub u_words : List ℕ → List (Worded Parameter)
u_words o = parts_of (list_of "," (worded parameter) o)

unfoldable pub fs_words : List ℕ → List (Worded Item)
fs_words o = parts_of (list_of "/" (worded item) o)

abbrev pub values_of : {A : Type 0} → List (Worded A) → List A
values_of [] = []
values_of (w ∷ ws) = w.value ∷ values_of ws

-- the column of the first part that stands again, behind those seen; the first of these parts begins at column c, and one mark stands between two
abbrev pub again_column : {A : Type 0} → (A → List A → Bool) → List A → ℕ → List (Worded A) → ℕ
again_column again seen c [] = 0
again_column again seen c (w ∷ ws) = let later = again_column again (w.value ∷ seen) (c + suc (length w.text)) ws in cond (again w.value seen) c later

-- ---- numbers

-- the columns at which the numbers of a text begin: each run of digits is one. c is the column of the first byte; `digit` says that one stands before it
abbrev pub number_columns : Bool → ℕ → List ℕ → List ℕ
number_columns digit c [] = []
number_columns digit c (b ∷ s) = let rest = number_columns (is_digit b) (suc c) s in cond (is_digit b && not digit) (c ∷ rest) rest

-- a number and its limits
pub record Limit : Type 0 where
  pub least : ℕ
  pub most : ℕ
  pub value : ℕ

abbrev pub limit : ℕ → ℕ → ℕ → Limit
limit least most value = record { least = least; most = most; value = value }

abbrev pub within_limits : Limit → Bool
within_limits l = within l.least l.most l.value

-- numbers at these columns: the column of the first that is outside its limits
abbrev pub outside_column : List ℕ → List Limit → ℕ
outside_column [] ls = 0
outside_column (c ∷ cs) [] = 0
outside_column (c ∷ cs) (l ∷ ls) = let later = outside_column cs ls in cond (within_limits l) later c

-- ---- part by part

-- the first of two columns, where 0 is none
abbrev pub first_column : ℕ → ℕ → ℕ
first_column a b = cond (eqb a 0) b a

-- the column of the first number of a part that is outside its limits; the part begins at column c
abbrev pub outside_in : {A : Type 0} → (A → List Limit) → ℕ → Worded A → ℕ
outside_in numbers c w = outside_column (number_columns false c w.text) (numbers w.value)

-- of parts with one mark between two, the first of which begins at column c
abbrev pub outside_among : {A : Type 0} → (A → List Limit) → ℕ → List (Worded A) → ℕ
outside_among numbers c [] = 0
outside_among numbers c (w ∷ ws) = let later = outside_among numbers (c + suc (length w.text)) ws in first_column (outside_in numbers c w) later
