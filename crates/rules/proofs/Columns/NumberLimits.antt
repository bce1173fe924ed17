-- The numbers of a card are within their limits exactly if the card is: a U card says each of A, B and R once, so that each number that stands on it is one of
-- those that it asks for; a field's numbers are just r, its sizes and t.
use mathlib.Core.Path.{◌≡◌, refl, ap, sym, ◌∙◌}
use mathlib.Core.Logic.{inl}
use mathlib.Core.Bool.{Bool, true, false}
use mathlib.Core.List.{List, [], ◌∷◌, map}
use Prim.Native.Nat.{ℕ}
use Rattle.rules.specs.Base.{every, joined}
use Rattle.rules.specs.Places.{no_more, Some, this, that}
use Rattle.rules.specs.Grammar.{Format, Size, two, one, Input, plain, keyed, Parameter, mode_is, format_is, input_is, output_is, rewind_in, rewind_out, first_is, Item, field, cv}
use Rattle.rules.specs.Words.{limit, within_limits}
use Rattle.rules.specs.Asked.{Utility, least, utility_limits, field_limits, parameter_numbers, item_numbers}
use Rattle.rules.specs.Rows.{Twice, Complete}
use Rattle.rules.proofs.Base.Tests.{every_all, all_every}
use Rattle.rules.proofs.Base.AllLaws.{all_append}
use Rattle.rules.proofs.Refusals.ParameterOutcome.{complete_same}
use Rattle.rules.proofs.Deck.LimitLaws.{Limited}
use Rattle.rules.proofs.Columns.NumberColumns.{parameter_meets, utility_meets}

-- ---- a U card

all_numbers : (f : Format) (us : List Parameter) → ((x : Parameter) → Some (λ y. y ≡ x) us → Limited (parameter_numbers f x))
    → Limited (joined (map (parameter_numbers f) us))
all_numbers f [] h = no_more
all_numbers f (u ∷ us) h = all_append (h u (this refl)) (all_numbers f us (λ x s. h x (that s)))

module _ (us : List Parameter) (u : Utility) (single : Twice us → ⊥) (full : Complete us u) where
  -- A, B and R stand once
  the_input : (s : Input) → Some (λ y. y ≡ input_is s) us → u.input ≡ s
  the_input s i =
      let v : Utility = record { mode = u.mode; format = u.format; input = s; output = u.output; first = u.first } in
      ap (λ (z : Utility). z.input)
      (complete_same us u v single full (record { mode = full.mode; format = full.format; input = i; output = full.output; first = full.first }))

  the_output : (s : Size) → Some (λ y. y ≡ output_is s) us → u.output ≡ s
  the_output s i =
      let v : Utility = record { mode = u.mode; format = u.format; input = u.input; output = s; first = u.first } in
      ap (λ (z : Utility). z.output)
      (complete_same us u v single full (record { mode = full.mode; format = full.format; input = full.input; output = i; first = full.first }))

  the_first : (n : ℕ) → Some (λ y. y ≡ first_is n) us → u.first ≡ n
  the_first n i =
      let v : Utility = record { mode = u.mode; format = u.format; input = u.input; output = u.output; first = n } in
      ap (λ (z : Utility). z.first)
      (complete_same us u v single full (record { mode = full.mode; format = full.format; input = full.input; output = full.output; first = inl i }))

  number_within : utility_limits u ≡ true → (x : Parameter) → Some (λ y. y ≡ x) us → Limited (parameter_numbers u.format x)
  unfolding utility_limits
  number_within e = go
    where
      -- the numbers of A, B and R are those that it asks for
      of : (x : Parameter) → Some (λ y. y ≡ x) (input_is u.input ∷ output_is u.output ∷ first_is u.first ∷ []) → Limited (parameter_numbers u.format x)
      of x s = parameter_meets u.format x (input_is u.input ∷ output_is u.output ∷ first_is u.first ∷ []) s (every_all within_limits _ e)

      go : (x : Parameter) → Some (λ y. y ≡ x) us → Limited (parameter_numbers u.format x)
      go (mode_is m) s = no_more
      go (format_is f) s = no_more
      go (input_is z) s = of (input_is z) (this (ap input_is (the_input z s)))
      go (output_is z) s = of (output_is z) (that (this (ap output_is (the_output z s))))
      go rewind_in s = no_more
      go rewind_out s = no_more
      go (first_is n) s = of (first_is n) (that (that (this (ap first_is (the_first n s)))))

  pub utility_exactly : utility_limits u ≡ every within_limits (joined (map (parameter_numbers u.format) us))
  utility_exactly = go (utility_limits u) (every within_limits (joined (map (parameter_numbers u.format) us))) refl refl
    where
      go : (a b : Bool) → utility_limits u ≡ a → every within_limits (joined (map (parameter_numbers u.format) us)) ≡ b → utility_limits u ≡ every within_limits (joined (map (parameter_numbers u.format) us))
      go true b e f = e ∙ sym (all_every within_limits (all_numbers u.format us (number_within e)))
      go false true e f = utility_meets us u full (every_all within_limits _ f) ∙ sym f
      go false false e f = e ∙ sym f

-- of F only the least single number matters, which FV and FS have in common, and FF and FU
pub numbers_least : (f g : Format) → least f ≡ least g → (p : Parameter) → parameter_numbers f p ≡ parameter_numbers g p
numbers_least f g e (mode_is m) = refl
numbers_least f g e (format_is h) = refl
numbers_least f g e (input_is (plain (two n m))) = refl
numbers_least f g e (input_is (plain (one k))) = ap (λ (l : ℕ). limit l 32760 k ∷ []) e
numbers_least f g e (input_is (keyed k d)) = refl
numbers_least f g e (output_is (two n m)) = refl
numbers_least f g e (output_is (one k)) = ap (λ (l : ℕ). limit l 32760 k ∷ []) e
numbers_least f g e rewind_in = refl
numbers_least f g e rewind_out = refl
numbers_least f g e (first_is n) = refl

-- ---- an item

-- CV has no number
abbrev pub item_limits : Item → Bool
item_limits (field f) = field_limits f
item_limits cv = true

pub item_exactly : (i : Item) → every within_limits (item_numbers i) ≡ item_limits i
unfolding field_limits
item_exactly (field f) = refl
item_exactly cv = refl
