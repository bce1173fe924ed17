-- Document 02, order 1, in words: the columns of rows 3, 4 and 7, which are given beside a refusal's number and place, lowest column first. All else has
-- column 0.
use Rattle.std.specs.Prelude.{◌≡◌, ◌⊎◌, ◌↔◌, false, List, [], ◌∷◌, ◌++◌, map, ℕ, suc, ◌+◌, ◌≤◌, ◌<◌, length}
use Rattle.rules.specs.Base.{joined}
use Rattle.rules.specs.Places.{Some, Found, Both}
use Rattle.rules.specs.Deck.{before_fs}
use Rattle.rules.specs.Grammar.{Parameter, Item, cv}
use Rattle.rules.specs.Words.{Worded, values_of, number_columns, Limit}
use Rattle.rules.specs.Texts.{ListText, ParameterText, UText, ItemText, FsText}
use Rattle.rules.specs.Columns.{NoWay}
use Rattle.rules.specs.Asked.{parameter_numbers, item_numbers, Utility}
use Rattle.rules.specs.Rows.{OperandsAre, Alike, Complete, Within, ◌⊳◌, GivenBy}

-- ---- row 3: the first column at which no continuation of the operand could be right

abbrev pub At3 : List ℕ → ℕ → ℕ → Type 0
At3 deck p c =
    (before : ℕ) × (u : List ℕ) × (fs : List (List ℕ)) × OperandsAre deck before u fs
    × (((p ≡ 1) × ((k : ℕ) × (c ≡ before + k) × NoWay UText u k)) ⊎ Found (λ o. (k : ℕ) × (c ≡ before_fs + k) × NoWay FsText o k) p 2 fs)

-- ---- row 4: the first byte of the second occurrence

-- x is the text of the part
abbrev pub WordIs : {A : Type 0} → (List ℕ → A → Type 0) → List ℕ → Worded A → Type 0
WordIs T x w = T x w.value × (w.text ≡ x)

-- an operand is these parts with marks between
abbrev pub UParts : List ℕ → List (Worded Parameter) → Type 0
UParts = ListText "," (WordIs ParameterText)

abbrev pub FsParts : List ℕ → List (Worded Item) → Type 0
FsParts = ListText "/" (WordIs ItemText)

-- of parts, the first of which begins at column b, one that begins at column c is like one before it, or like one seen earlier
pub data Again {A : Type 0} (Like : A → A → Type 0) (c : ℕ) : List A → ℕ → List (Worded A) → Type 0 where
  this_one : {seen : List A} {b : ℕ} {w : Worded A} {ws : List (Worded A)} → c ≡ b → Some (λ x. Like x w.value) seen → Again Like c seen b (w ∷ ws)
  later_one : {seen : List A} {b : ℕ} {w : Worded A} {ws : List (Worded A)} → Again Like c (w.value ∷ seen) (b + suc (length w.text)) ws
      → Again Like c seen b (w ∷ ws)

pub data BothCV : Item → Item → Type 0 where
  both_cv : BothCV cv cv

-- on card p, of FS cards that begin at card i, a CV that begins at column c has one before it, on that card or earlier
pub data CVOn (p c : ℕ) : List Item → ℕ → List (List (Worded Item)) → Type 0 where
  this_card : {seen : List Item} {i : ℕ} {ws : List (Worded Item)} {cards : List (List (Worded Item))} → p ≡ i → Again BothCV c seen (suc before_fs) ws
      → CVOn p c seen i (ws ∷ cards)
  later_card : {seen : List Item} {i : ℕ} {ws : List (Worded Item)} {cards : List (List (Worded Item))} → CVOn p c (values_of ws ++ seen) (suc i) cards
      → CVOn p c seen i (ws ∷ cards)

abbrev pub At4 : List ℕ → ℕ → ℕ → Type 0
At4 deck p c =
    (before : ℕ) × (u : List ℕ) × (fs : List (List ℕ)) × OperandsAre deck before u fs
    × (((p ≡ 1) × ((ws : List (Worded Parameter)) × UParts u ws × Again Alike c [] (suc before) ws))
    ⊎ ((cards : List (List (Worded Item))) × Both FsParts fs cards × CVOn p c [] 2 cards))

-- ---- row 7: the number's first digit

-- of numbers with these first columns and limits, one at column c is outside its limits
pub data Outside (c : ℕ) : List ℕ → List Limit → Type 0 where
  this_number : {d : ℕ} {ds : List ℕ} {l : Limit} {ls : List Limit} → c ≡ d → (Within l.least l.most l.value → ⊥) → Outside c (d ∷ ds) (l ∷ ls)
  later_number : {d : ℕ} {ds : List ℕ} {l : Limit} {ls : List Limit} → Outside c ds ls → Outside c (d ∷ ds) (l ∷ ls)

-- of FS cards that begin at card i, card p has such a number at column c
pub data NumberOn (p c : ℕ) : ℕ → List (List ℕ) → List (List Item) → Type 0 where
  number_here : {i : ℕ} {o : List ℕ} {os : List (List ℕ)} {is : List Item} {cards : List (List Item)} → p ≡ i
      → Outside c (number_columns false (suc before_fs) o) (joined (map item_numbers is)) → NumberOn p c i (o ∷ os) (is ∷ cards)
  number_later : {i : ℕ} {o : List ℕ} {os : List (List ℕ)} {is : List Item} {cards : List (List Item)} → NumberOn p c (suc i) os cards
      → NumberOn p c i (o ∷ os) (is ∷ cards)

abbrev pub At7 : List ℕ → ℕ → ℕ → Type 0
At7 deck p c =
    (before : ℕ) × (u : List ℕ) × (fs : List (List ℕ)) × OperandsAre deck before u fs
    × (((p ≡ 1)
    × ((us : List Parameter) × UText u us × (v : Utility) × Complete us v
    × Outside c (number_columns false (suc before) u) (joined (map (parameter_numbers v.format) us))))
    ⊎ ((cards : List (List Item)) × Both FsText fs cards × NumberOn p c 2 fs cards))

-- ---- all rows

abbrev pub Zero : ℕ → Type 0
Zero c = c ≡ 0

abbrev pub Zeros : ℕ → ℕ → Type 0
Zeros n c = c ≡ 0

-- refusal n at place p has column c
abbrev pub Column : List ℕ → ℕ → ℕ → ℕ → Type 0
Column deck p = Zero ⊳ Zero ⊳ Zero ⊳ At3 deck p ⊳ At4 deck p ⊳ Zero ⊳ Zero ⊳ At7 deck p ⊳ Zeros

-- lowest column first
abbrev pub Lowest : (ℕ → Type 0) → ℕ → Type 0
Lowest P c = P c × ((d : ℕ) → d < c → P d → ⊥)

-- what number, place and column are answered by a table for a deck
pub record Answered (rows : ℕ → ℕ → Type 0) (deck : List ℕ) (number place column : ℕ) : Type 0 where
  -- refusal n at place p and column c exactly if row n applies at p, no lower row or place does, and c is the lowest column of that row there
  pub given : (n p c : ℕ) → 1 ≤ n → ((number ≡ n) × (place ≡ p) × (column ≡ c)) ↔ (GivenBy rows n p × Lowest (Column deck p n) c)
  -- 0 exactly if no row applies, and then place 0 and column 0
  pub none : (number ≡ 0) ↔ ((n p : ℕ) → rows n p → ⊥)
  pub at_0 : number ≡ 0 → (place ≡ 0) × (column ≡ 0)
