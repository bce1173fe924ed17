-- What `combine` answers is what the rules refuse with 8 or 9: the lines of place 1 are theirs where as many numbers stand as are wanted, and fail
-- in both where not; CV and the fields are sought in the same order.
use mathlib.Core.Path.{◌≡◌, refl, ap, sym, ◌∙◌, subst}
use mathlib.Core.Logic.{◌⊎◌, inl, inr}
use mathlib.Core.Bool.{Bool, true, false, cond, not, ◌&&◌, ◌||◌, and-true, and-false, and_assoc, and_comm}
use mathlib.Core.List.{List, [], ◌∷◌, map, append-nil}
use Prim.Native.Nat.{ℕ, suc, ◌/◌, ◌≤◌, ◌<◌}
use native.Mathlib.Omega.{arith}
use lib.Dec.{eqb}
use lib.ListN.{length, get_or}
use borrow.Author.Tests.{eq-eqb, ne_eqb}
use Rattle.std.proofs.Common.{Option, Some, None, Result, Ok, Err, min}
use Rattle.rules.specs.Base.{◌⇒◌, every, is_empty, joined}
use Rattle.rules.specs.Places.{All, no_more, also}
use Rattle.rules.specs.Answer.{Answer, fine, refuse, refused, refusal_of, place_of, ◌>>◌, unless, each}
use Rattle.rules.specs.Grammar.{Mode, tc, tf, tr, trf, Format, ff, fv, fu, fsp, Size, Input, plain, keyed, CardField, Item}
use Rattle.rules.specs.Halves.{Field as RuleField}
use Rattle.rules.specs.Asked.{Utility, Asked as RuleAsked, fields_of, cvs}
use Rattle.rules.specs.Keys.{through_utility}
use Rattle.rules.specs.Plan.{is_tc, is_tf, is_tr, is_ff, is_fv, is_fu, is_fs, selects, numbers, wanted, record_length, block_length, whole, equal, roomy, combinations, sound, joined_size, key_length, through, is_keyed, key_fits, key_fields, card_fits, inside, inside_part, input_halves, barren_half, combined, assembled, Plan}
use Rattle.rules.proofs.Base.AllLaws.{all_at, all_imply, all_map}
use Rattle.rules.proofs.Blocks.BlockSizes.{size_least, record_most}
use Rattle.rules.proofs.Keys.KeyLaws.{joined_within, Named}
use Rattle.rules.proofs.Deck.AcceptedLaws.{key_fits_lem}
use Rattle.rules.proofs.Refusals.AnswerLaws.{fine_then, then_fine, fine_unless, each_fine, then_assoc}
use Rattle.rules.specs.Rows.{InputWithin, UtilityWithin, FieldWithin}
use Rattle.rules.proofs.Halves.RecordLaws.{sizes_within}
use Rattle.rules.proofs.Deck.LimitLaws.{two_of}
use Rattle.terms.specs.Meaning.{mode_of, format_of, size_of, field_of, laid, laid_fields, no_field, utility_of, first_card, Means}
use Rattle.terms.proofs.Laid.{inside_laid, laid_through, laid_within}
use Rattle.terms.specs.declared.Asked.{Asked}
use Rattle.rows.specs.Flat.{flat_of, field_at}
use Rattle.rows.specs.Kept.{field_for}
use Rattle.rows.proofs.KeptLaws.{one_size}
use Rattle.rows.proofs.FlatLaws.{length_flat, field_kept}
use Rattle.combinations.specs.Lines.{count_line, lengths_equal, format_lines, all_lines, key_line, lower_of}
use Rattle.combinations.specs.Promise.{first_outside, right_lines, fault, card_fault, unless_at, combined_of, answer_of, FieldFair, FieldsFair, AskedFair}
use Rattle.combinations.specs.declared.Unsound.{Unsound}
use Rattle.combinations.specs.declared.Unsound.TheVariants.{Broken, Outside}
use Rattle.combinations.proofs.LineLaws.{counted}

-- ---- the lines of place 1

-- FU only with TC. TC only with R1
copy_same : (c u e : Bool) → cond c e (not u) ≡ ((u ⇒ c) && (c ⇒ e))
copy_same true true e = refl
copy_same true false e = refl
copy_same false true e = refl
copy_same false false e = refl

where_asked : (c e : Bool) → cond c e true ≡ (c ⇒ e)
where_asked true e = refl
where_asked false e = refl

-- where as many numbers stand in A as in B
equal_same : (a b : Size) → numbers a ≡ numbers b → equal a b ≡ lengths_equal a b
equal_same a b e = rw (eq-eqb (numbers a) (numbers b) e)

-- the lines of the rules that go by the format
abbrev by_format : Mode → Format → Size → Size → Bool
by_format t f a b =
    (is_ff f ⇒ (whole a && whole b))
    && (((is_tr t && is_ff f) ⇒ eqb (record_length a) (record_length b))
    && (((is_tf t && is_ff f) ⇒ eqb (block_length a / record_length a) (block_length b / record_length b))
    && ((((is_fv f && eqb (numbers a) 2) ⇒ roomy a) && ((is_fv f && eqb (numbers b) 2) ⇒ roomy b)) && (is_fs f ⇒ not (selects t)))))

module _ (a b : Size) where
  fixed_same : (t : Mode) → format_lines t ff a b ≡ by_format t ff a b
  fixed_same tc = refl
  fixed_same tf = rw (and-true (eqb (block_length a / record_length a) (block_length b / record_length b)))
  fixed_same tr = rw (and-true (eqb (record_length a) (record_length b)))
  fixed_same trf = refl

  variable_same : (t : Mode) → numbers a ≡ wanted t fv → numbers b ≡ wanted t fv → format_lines t fv a b ≡ by_format t fv a b
  variable_same tc p q = rw (ne_eqb (numbers a) 2 (λ e. omega arith), ne_eqb (numbers b) 2 (λ e. omega arith))
  variable_same tf p q = rw (eq-eqb (numbers a) 2 p, eq-eqb (numbers b) 2 q) (sym (and-true (roomy a && roomy b)))
  variable_same tr p q = rw (ne_eqb (numbers a) 2 (λ e. omega arith), ne_eqb (numbers b) 2 (λ e. omega arith))
  variable_same trf p q = rw (eq-eqb (numbers a) 2 p, eq-eqb (numbers b) 2 q) (sym (and-true (roomy a && roomy b)))

  undefined_same : (t : Mode) → format_lines t fu a b ≡ by_format t fu a b
  undefined_same tc = refl
  undefined_same tf = refl
  undefined_same tr = refl
  undefined_same trf = refl

  spanned_same : (t : Mode) → format_lines t fsp a b ≡ by_format t fsp a b
  spanned_same tc = refl
  spanned_same tf = refl
  spanned_same tr = refl
  spanned_same trf = refl

  format_same : (t : Mode) (f : Format) → numbers a ≡ wanted t f → numbers b ≡ wanted t f → format_lines t f a b ≡ by_format t f a b
  format_same t ff p q = fixed_same t
  format_same t fv p q = variable_same t p q
  format_same t fu p q = undefined_same t
  format_same t fsp p q = spanned_same t

-- the same tests in another order
moved : (s n w rest : Bool) → (s && (n && (w && rest))) ≡ (w && (s && (rest && n)))
moved true true true rest = sym (and-true rest)
moved true true false rest = refl
moved true false true rest = sym (and-false rest)
moved true false false rest = refl
moved false n true rest = refl
moved false n false rest = refl

reordered : (x z y s n w r q v : Bool)
    → ((x && y) && (s && (n && (w && (r && (q && (v && z))))))) ≡ (x && (z && (y && (w && (s && (r && (q && (v && (n && true)))))))))
reordered x true y s n w r q v = rw (and-true v) (ap ((x && y) &&◌) (moved s n w (r && (q && v))) ∙ simp (and_assoc, and-true))
reordered x false y s n w r q v = simp (and-false)

none_left : (x z y : Bool) → ((x && y) && false) ≡ (x && (z && (y && false)))
none_left x z y = simp (and-false)

-- all lines of place 1 hold as the code asks them exactly if all of the rules' hold
pub lines_same : (t : Mode) (f : Format) (a b : Size) (first fs : ℕ)
    → all_lines t f a b first fs ≡ every (λ holds. holds) (combinations t f a b first (not (eqb fs 0)))
unfolding all_lines combinations
lines_same t f a b first fs = go (count_line t f a b) refl
  where
    go : (k : Bool) → count_line t f a b ≡ k → all_lines t f a b first fs ≡ every (λ holds. holds) (combinations t f a b first (not (eqb fs 0)))
    go true e =
        let w = counted t f a b e in
        rw (e, copy_same (is_tc t) (is_fu f) (eqb first 1), where_asked (is_tc t) (lengths_equal a b), where_asked (selects t) (not (eqb fs 0)), format_same a b t f w.0 w.1, equal_same a b (w.0 ∙ sym w.1))
        (reordered
        (is_fu f ⇒ is_tc t)
        (is_fs f ⇒ not (selects t))
        (is_tc t ⇒ eqb first 1)
        (is_tc t ⇒ lengths_equal a b)
        (selects t ⇒ not (eqb fs 0))
        (is_ff f ⇒ (whole a && whole b))
        ((is_tr t && is_ff f) ⇒ eqb (record_length a) (record_length b))
        ((is_tf t && is_ff f) ⇒ eqb (block_length a / record_length a) (block_length b / record_length b))
        (((is_fv f && eqb (numbers a) 2) ⇒ roomy a) && ((is_fv f && eqb (numbers b) 2) ⇒ roomy b)))
    go false e = rw (e, copy_same (is_tc t) (is_fu f) (eqb first 1)) (none_left (is_fu f ⇒ is_tc t) (is_fs f ⇒ not (selects t)) (is_tc t ⇒ eqb first 1))

-- ---- the answer of the rules

-- no card
no_card : (cards : List (List Item)) → is_empty cards ≡ eqb (length cards) 0
no_card [] = refl
no_card (c ∷ cards) = sym (ne_eqb (length (c ∷ cards)) 0 (λ e. omega arith))

-- the first card with some of what is counted stands no lower than where the count begins
first_after : (q : List Item → ℕ) (i : ℕ) (cards : List (List Item)) → (first_card q i cards ≡ 0) ⊎ (i ≤ first_card q i cards)
first_after q i [] = inl refl
first_after q i (c ∷ cards) = go (first_after q (suc i) cards) (eqb (q c) 0) refl
  where
    go : (first_card q (suc i) cards ≡ 0) ⊎ (suc i ≤ first_card q (suc i) cards) → (t : Bool) → eqb (q c) 0 ≡ t
        → (first_card q i (c ∷ cards) ≡ 0) ⊎ (i ≤ first_card q i (c ∷ cards))
    go (inl z) true t = inl (rw t z)
    go (inr l) true t = inr (rw t (omega arith))
    go ih false t = inr (rw t (omega arith))

-- a card before all others is the lower one, on either side
abbrev Behind : ℕ → Option ℕ → Type 0
Behind i None = Unit {0}
Behind i (Some x) = i < x

lower_first : (i : ℕ) (o : Option ℕ) → Behind i o → lower_of (Some i) o ≡ Some i
lower_first i None l = refl
lower_first i (Some x) l = ap Some (omega arith)

lower_second : (i : ℕ) (o : Option ℕ) → Behind i o → lower_of o (Some i) ≡ Some i
lower_second i None l = refl
lower_second i (Some x) l = ap Some (omega arith)

-- the first card with CV outside FV, or with a field taken from the key without keys, is refused; a and b count them, and where they are allowed none is
module _ (a b : List Item → ℕ) where
  abbrev fault_in : Bool → Bool → ℕ → List (List Item) → Option ℕ
  fault_in p q i cards = lower_of (fault p (first_card a i cards)) (fault q (first_card b i cards))

  -- of the later cards none or a later one
  later : (f : List Item → ℕ) (p : Bool) (i : ℕ) (cards : List (List Item)) → Behind i (fault p (first_card f (suc i) cards))
  later f true i cards = tt
  later f false i cards = go (first_card f (suc i) cards) (first_after f (suc i) cards)
    where
      go : (n : ℕ) → (n ≡ 0) ⊎ (suc i ≤ n) → Behind i (fault false n)
      go n (inl z) = rw z tt
      go n (inr l) = rw (ne_eqb n 0 (λ e. omega arith)) (omega arith)

  -- of a card and the later ones: the card itself where it is at fault
  here : (f : List Item → ℕ) (p : Bool) (i : ℕ) → 1 ≤ i → (c : List Item) (cards : List (List Item)) (t : Bool) → (p || eqb (f c) 0) ≡ t
      → fault p (first_card f i (c ∷ cards)) ≡ cond t (fault p (first_card f (suc i) cards)) (Some i)
  here f true i l c cards t e = rw (← e)
  here f false i l c cards true e = rw e
  here f false i l c cards false e = rw (e, ne_eqb i 0 (λ z. omega arith))

  fault_same : (p q : Bool) (i : ℕ) → 1 ≤ i → (cards : List (List Item))
      → each 8 (λ c. (p || eqb (a c) 0) && (q || eqb (b c) 0)) i cards ≡ unless_at 8 (fault_in p q i cards)
  unfolding each
  fault_same true true i l [] = refl
  fault_same true false i l [] = refl
  fault_same false true i l [] = refl
  fault_same false false i l [] = refl
  fault_same p q i l (c ∷ cards) = go (fault_same p q (suc i) (omega arith) cards) (p || eqb (a c) 0) refl (q || eqb (b c) 0) refl
    where
      go : each 8 (λ c. (p || eqb (a c) 0) && (q || eqb (b c) 0)) (suc i) cards ≡ unless_at 8 (fault_in p q (suc i) cards)
          → (t : Bool) → (p || eqb (a c) 0) ≡ t → (u : Bool) → (q || eqb (b c) 0) ≡ u
          → each 8 (λ c. (p || eqb (a c) 0) && (q || eqb (b c) 0)) i (c ∷ cards) ≡ unless_at 8 (fault_in p q i (c ∷ cards))
      go ih true t true u = rw (here a p i l c cards true t, here b q i l c cards true u, t, u) ih
      go ih true t false u = rw (here a p i l c cards true t, here b q i l c cards false u, t, u, lower_second i _ (later a p i cards))
      go ih false t true u = rw (here a p i l c cards false t, here b q i l c cards true u, t, lower_first i _ (later b q i cards))
      go ih false t false u = let e : i ≡ min i i = omega arith in rw (here a p i l c cards false t, here b q i l c cards false u, t) (ap (refused 8) e)

-- the first field outside its records is refused
outside_same : (a b i : ℕ) (fs : List RuleField) → each 9 (inside a b) i fs ≡ unless_at 9 (first_outside a b i fs)
unfolding each
outside_same a b i [] = refl
outside_same a b i (f ∷ fs) = go (outside_same a b (suc i) fs) (inside a b f) refl
  where
    go : each 9 (inside a b) (suc i) fs ≡ unless_at 9 (first_outside a b (suc i) fs)
        → (t : Bool) → inside a b f ≡ t → each 9 (inside a b) i (f ∷ fs) ≡ unless_at 9 (first_outside a b i (f ∷ fs))
    go ih true t = rw t ih
    go ih false t = rw t

-- the tests in turn
abbrev pub right_cards : Asked → Bool
right_cards x = selects (mode_of x.mode) || eqb x.fs 0

-- the first that fails is the answer
module _ (x : Asked) (fs : List RuleField) where
  pub broken_lines : right_lines x ≡ false → refused 8 1 ≡ combined_of x fs
  unfolding combined_of unless ◌>>◌
  broken_lines e = rw e

  module _ (lines : right_lines x ≡ true) where
    pub broken_cards : right_cards x ≡ false → refused 8 2 ≡ combined_of x fs
    unfolding combined_of unless ◌>>◌
    broken_cards e = rw (lines, e)

    module _ (cards : right_cards x ≡ true) where
      pub broken_card : (card : ℕ) → card_fault x ≡ Some card → refused 8 card ≡ combined_of x fs
      unfolding combined_of unless ◌>>◌
      broken_card card e = rw (lines, cards, e)

      -- past these the fields decide
      module _ (card : card_fault x ≡ None) where
        pub by_fields : unless_at 9 (first_outside (record_length (size_of x.input)) (record_length (size_of x.output)) 1 fs) ≡ combined_of x fs
        unfolding combined_of
        by_fields =
            sym (fine_then _ _ (fine_unless _ 8 1 lines)
            ∙ fine_then _ _ (fine_unless _ 8 2 cards)
            ∙ fine_then _ _ (ap (unless_at 8) card)
            ∙ outside_same (record_length (size_of x.input)) (record_length (size_of x.output)) 1 fs)

-- what the rules ask after refusals 8 and 9
abbrev pub refusal10 : Plan → Answer Unit
refusal10 p = unless (eqb (barren_half p) (input_halves p)) 10 (barren_half p)

-- what follows is the same where it is asked
then_same : {B : Type 0} (t : Answer Unit) (x y : Answer B) → (t ≡ fine tt → x ≡ y) → (t >> x) ≡ (t >> y)
unfolding ◌>>◌
then_same (fine tt) x y h = h refl
then_same (refuse r) x y h = refl

-- keys are there exactly if the key has a length
key_told : (f : Format) (i : Input) → InputWithin f i → is_keyed i ≡ not (eqb (key_length i) 0)
key_told f (plain s) w = refl
key_told f (keyed k d) w = rw (ne_eqb k 0 (λ e. omega (arith, w.0.0)))

key_line_lem : (t : Mode) (f : Format) (i : Input) → InputWithin f i → key_line t f (key_length i) ≡ key_fits t f i
unfolding key_fits
key_line_lem t f (plain s) w = refl
key_line_lem t f (keyed k d) w = rw (ne_eqb k 0 (λ e. omega (arith, w.0.0))) (both (selects t) (is_ff f))
  where
    both : (x y : Bool) → cond x y false ≡ (y && x)
    both true y = sym (and-true y)
    both false y = sym (and-false y)

-- where the struct says what the deck asks for, and the row has its fields, these are what the rules ask before refusal 10
module _ (zone : ℕ) (x : Asked) (a : RuleAsked) (m : Means x a) (u : UtilityWithin a.utility) (w : All (λ f. FieldWithin f.field) (fields_of (joined a.cards))) where
  abbrev i : Input
  i = a.utility.input

  mode_is : mode_of x.mode ≡ a.utility.mode
  unfolding utility_of through_utility
  mode_is = ap (λ (v : Utility). v.mode) m.utility

  format_is : format_of x.format ≡ a.utility.format
  unfolding utility_of through_utility
  format_is = ap (λ (v : Utility). v.format) m.utility

  input_is : size_of x.input ≡ joined_size i
  unfolding utility_of through_utility
  input_is = ap (λ (v : Utility). joined_size v.input) m.utility

  output_is : size_of x.output ≡ a.utility.output
  unfolding utility_of through_utility
  output_is = ap (λ (v : Utility). v.output) m.utility

  first_is_lem : x.first ≡ a.utility.first
  unfolding utility_of through_utility
  first_is_lem = ap (λ (v : Utility). v.first) m.utility

  lines_are : (sound (assembled zone a) (not (is_empty a.cards)) && key_fits a.utility.mode a.utility.format i) ≡ right_lines x
  unfolding sound assembled right_lines
  lines_are =
      rw (no_card a.cards, ← m.fs, mode_is, format_is, input_is, output_is, first_is_lem, m.key, key_line_lem a.utility.mode a.utility.format i u.input)
      (ap (λ (t : Bool). t && key_fits a.utility.mode a.utility.format i) (sym (lines_same a.utility.mode a.utility.format (joined_size i) a.utility.output a.utility.first x.fs))
      ∙ and_comm (all_lines a.utility.mode a.utility.format (joined_size i) a.utility.output a.utility.first x.fs) (key_fits a.utility.mode a.utility.format i))

  cards_are : each 8 (card_fits a.utility.format i) 2 a.cards ≡ unless_at 8 (card_fault x)
  unfolding card_fits card_fault
  cards_are =
      let e : card_fault x ≡ fault_in cvs (λ c. key_fields (fields_of c)) (is_fv a.utility.format) (is_keyed i) 2 a.cards
      = rw (format_is, m.cv, m.keyed, m.key, key_told a.utility.format i u.input) in
      fault_same cvs (λ c. key_fields (fields_of c)) (is_fv a.utility.format) (is_keyed i) 2 (omega arith) a.cards ∙ rw (← e)

  -- field by field, where no card is at fault
  fields_are : each 8 (card_fits a.utility.format i) 2 a.cards ≡ fine tt
      → each 9 (inside_part i a.utility.output) 1 (fields_of (joined a.cards))
      ≡ each 9 (inside (record_length (size_of x.input)) (record_length (size_of x.output))) 1 (map (laid (key_length i)) (fields_of (joined a.cards)))
  unfolding each
  fields_are e = rw (input_is, output_is) (go 1 w (key_fits_lem a.utility.format i a.cards (each_fine 8 _ 2 a.cards e)))
    where
      go : (n : ℕ) {fs : List CardField} → All (λ f. FieldWithin f.field) fs → All (Named i) fs
          → each 9 (inside_part i a.utility.output) n fs ≡ each 9 (inside (record_length (joined_size i)) (record_length a.utility.output)) n (map (laid (key_length i)) fs)
      go n no_more no_more = refl
      go n (also {x = f} l ls) (also q qs) = rw (inside_laid a.utility.format i a.utility.output f u.input l q, go (suc n) ls qs)

  pub combined_same : combined zone a ≡ (combined_of x (laid_fields a) >> refusal10 (assembled zone a))
  unfolding combined combined_of laid_fields
  combined_same =
      let r = refusal10 (assembled zone a) in
      let own = each 9 (inside (record_length (size_of x.input)) (record_length (size_of x.output))) 1 (map (laid (key_length i)) (fields_of (joined a.cards))) in
      let cards : (each 8 (card_fits a.utility.format i) 2 a.cards >> (each 9 (inside_part i a.utility.output) 1 (fields_of (joined a.cards)) >> r)) ≡ (unless_at 8 (card_fault x) >> (own >> r))
      = then_same (each 8 (card_fits a.utility.format i) 2 a.cards) _ _ (λ e. ap (λ (t : Answer Unit). t >> r) (fields_are e)) ∙ ap (λ (t : Answer Unit). t >> (own >> r)) cards_are in
      rw (lines_are, cards, no_card a.cards, ← m.fs, ← mode_is) (simp then_assoc)

  -- where nothing is refused, the fields of the row are those of the plan
  pub laid_same : combined_of x (laid_fields a) ≡ fine tt → laid_fields a ≡ (assembled zone a).fields
  unfolding combined_of laid_fields assembled
  laid_same e =
      let s1 = then_fine _ _ tt e in
      let s2 = then_fine _ _ tt s1.1 in
      let s3 = then_fine _ _ tt s2.1 in
      let fits = cards_are ∙ s3.0 in
      go w (key_fits_lem a.utility.format i a.cards (each_fine 8 _ 2 a.cards fits)) (each_fine 9 _ 1 (fields_of (joined a.cards)) (fields_are fits ∙ s3.1))
    where
      go : {fs : List CardField} → All (λ f. FieldWithin f.field) fs → All (Named i) fs → All (λ f. inside_part i a.utility.output f ≡ true) fs
          → map (laid (key_length i)) fs ≡ map (through (key_length i)) fs
      go no_more no_more no_more = refl
      go (also {x = f} l ls) (also q qs) (also t ts) = rw (laid_through a.utility.format i a.utility.output f u.input l q t, go ls qs ts)

-- ---- what `combine` asks holds within the limits

field_fair : (k : ℕ) (f : CardField) → k ≤ 4096 → FieldWithin f.field → FieldFair (field_for (laid k f))
unfolding field_for laid
field_fair k f h w =
    let s = sizes_within f.field.kind w.kind in
    let l = laid_within k f h w in
    record {
      r_low = l.low;
      r_high = l.high;
      input_low = s.0.0;
      input_high = s.0.1;
      output_low = s.1.0;
      output_high = s.1.1;
      t_low = w.t.0;
      t_high = w.t.1;
      one_size = one_size (laid k f);
    }

-- each field that is read from a row of fields within their limits
fields_fair : (k : ℕ) (fs : List CardField) → k ≤ 4096 → All (λ f. FieldWithin f.field) fs → FieldsFair (flat_of (map (laid k) fs))
fields_fair k fs h w i l =
    let row = map (laid k) fs in
    let none = field_of no_field in
    let there : i < length row = omega (arith, length_flat row) in
    let read : field_at (flat_of row) i ≡ field_for (get_or row i none) =
    ap (λ (xs : List ℕ). field_at xs i) (sym (append-nil (flat_of row))) ∙ field_kept none row [] i there
    in
    subst FieldFair (sym read) (all_at {P = λ f. FieldFair (field_for f)} none row (all_map (laid k) (all_imply (λ f v. field_fair k f h v) w)) i there)

key_most : (f : Format) (i : Input) → InputWithin f i → key_length i ≤ 4096
key_most f (plain s) w = omega arith
key_most f (keyed k d) w = w.0.1

pub asked_fair : (x : Asked) (a : RuleAsked) (row : List ℕ) → Means x a → UtilityWithin a.utility → All (λ f. FieldWithin f.field) (fields_of (joined a.cards))
    → row ≡ flat_of (laid_fields a) → AskedFair x row
unfolding laid_fields
asked_fair x a row m u w e =
    let f = a.utility.format in
    let b = a.utility.output in
    let own = joined_within f a.utility.input u.input in
    record {
      sizes =
          rw (input_is 0 x a m u w, output_is 0 x a m u w)
          (record {
            some_a = λ e. size_least f (joined_size a.utility.input) own (two_of _ e);
            some_b = λ e. size_least f b u.output (two_of _ e);
            most_a = record_most f (joined_size a.utility.input) own;
            most_b = record_most f b u.output;
          });
      fields = subst FieldsFair (sym e) (fields_fair (key_length a.utility.input) (fields_of (joined a.cards)) (key_most f a.utility.input u.input) w);
    }

-- ---- one outcome

-- no two cases answer the same
pub answer_once : (r q : Result Unit Unsound) → answer_of r ≡ answer_of q → r ≡ q
answer_once (Ok done) (Ok done') e = refl
answer_once (Ok done) (Err (Broken place)) e = cc
answer_once (Ok done) (Err (Outside field)) e = cc
answer_once (Err (Broken place)) (Ok done) e = cc
answer_once (Err (Broken place)) (Err (Broken place')) e = ap (λ (n : ℕ). Err (Broken n)) (ap place_of e)
answer_once (Err (Broken place)) (Err (Outside field)) e = absurd (omega (arith, ap refusal_of e))
answer_once (Err (Outside field)) (Ok done) e = cc
answer_once (Err (Outside field)) (Err (Broken place)) e = absurd (omega (arith, ap refusal_of e))
answer_once (Err (Outside field)) (Err (Outside field')) e = ap (λ (n : ℕ). Err (Outside n)) (ap place_of e)

pub only_one : (x : Asked) (fs : List RuleField) (r q : Result Unit Unsound) → answer_of r ≡ combined_of x fs → answer_of q ≡ combined_of x fs → r ≡ q
only_one x fs r q e f = answer_once r q (e ∙ sym f)
