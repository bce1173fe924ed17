-- The order of refusals 4 to 7, told from what was noted of the U card and of the FS cards, is the rules' order over the whole deck: each test of the rules, with
-- its column, is what was noted. Where nothing is refused, what was noted is what the cards ask for.
use mathlib.Core.Path.{◌≡◌, refl, ap, sym, ◌∙◌, subst}
use mathlib.Core.Bool.{Bool, true, false, cond, true≢false}
use mathlib.Core.List.{List, [], map}
use Prim.Native.Nat.{ℕ, zero, suc, ◌≤◌}
use native.Mathlib.Omega.{arith}
use lib.Dec.{eqb}
use lib.ListN.{length}
use borrow.Author.Tests.{ne_eqb}
use Rattle.rules.specs.Base.{every, joined}
use Rattle.rules.specs.Places.{Both}
use Rattle.rules.specs.Answer.{Answer, fine, refused, refused_at, located, ◌>>=◌, ◌>>◌, unless, each}
use Rattle.rules.specs.Order.{Operands}
use Rattle.rules.specs.Grammar.{Format, ff, fv, fu, fsp, plain, Parameter, Item}
use Rattle.rules.specs.Texts.{ParameterText, UText, FsText}
use Rattle.rules.specs.Words.{Worded, u_words, fs_words, values_of, again_column, number_columns, Limit, outside_column, outside_among}
use Rattle.rules.specs.Asked.{Cards, letter, distinct, same_letter, cvs, up_to, cv_column, once, given, Utility, complete, field_limits, utility_limits, parameter_numbers, field_column, limits, Asked as RuleAsked}
use Rattle.rules.specs.Plan.{joined_size, key_length}
use Rattle.rules.specs.Keys.{through_utility}
use Rattle.rules.specs.Rows.{UtilityWithin, Twice}
use Rattle.rules.specs.ColumnRows.{UParts}
use Rattle.rules.proofs.Base.Tests.{all_every}
use Rattle.rules.proofs.Refusals.AnswerLaws.{fine_same, bind_fine, then_fine, unless_fine, each_fine, located_fine}
use Rattle.rules.proofs.Deck.LimitLaws.{utility_within}
use Rattle.rules.proofs.Deck.AcceptedLaws.{all_fields_lem}
use Rattle.rules.proofs.Deck.CardSteps.{noted, total_fields, up_to_fine}
use Rattle.rules.proofs.Refusals.ParameterOutcome.{of_twice, complete_fine}
use Rattle.rules.proofs.Columns.WordedLaws.{u_worded}
use Rattle.rules.proofs.Columns.NumberColumns.{parameter_count, u_count}
use Rattle.rules.proofs.Columns.NumberLimits.{utility_exactly, numbers_least}
use Rattle.rules.proofs.Columns.WordColumns.{columns_low, outside_none, outside_parts}
use Rattle.terms.specs.Meaning.{mode_of, format_of, size_of, input_of, laid, laid_fields, utility_of, Means}
use Rattle.rows.specs.Kept.{row_of}
use Rattle.keys.specs.Keys.{joined_of, key_of}
use Rattle.keys.proofs.KeyLaws.{joined_is, key_told}
use Rattle.cards.specs.declared.Parameters.{Parameters}
use Rattle.cards.specs.declared.OutsideColumns.{OutsideColumns}
use Rattle.cards.specs.declared.Noted.{Noted}
use Rattle.cards.specs.declared.CardRefusal.{CardRefusal}
use Rattle.cards.specs.Selected.{NotedRow, no_selection, with_cards}
use Rattle.cards.specs.Parameters.{has_seen, given_of, Notes, NotesOutside}
use Rattle.std.specs.Prelude.{Result, Ok, Err}
use Rattle.cards.specs.CardRefusals.{is_complete, utility_in, u_outside, or_noted, or_column, limits_of, card_refusal_of, asked_for, asked_or, judged_as}
use Rattle.cards.specs.Promise.{card_refusal, Accepts, DeckAnswered}
use Rattle.cards.proofs.NotedLaws.{all_fields, many_fields, limited}
use Rattle.cards.proofs.RowLaws.{Holds}
use Rattle.cards.proofs.ColumnLaws.{cv_column_lem, number_column}

-- ---- refusal 5

complete_given : (p : Parameters) → complete (given_of p) ≡ cond (is_complete p) (fine (utility_in p)) (refused 5 1)
unfolding complete given_of utility_in ◌>>=◌
complete_given p = go (has_seen p 0) (has_seen p 1) (has_seen p 2) (has_seen p 3) refl refl refl refl
  where
    go : (a b c d : Bool) → has_seen p 0 ≡ a → has_seen p 1 ≡ b → has_seen p 2 ≡ c → has_seen p 3 ≡ d
        → complete (given_of p) ≡ cond (is_complete p) (fine (utility_in p)) (refused 5 1)
    go false b c d e f g h = rw e
    go true false c d e f g h = rw (e, f)
    go true true false d e f g h = rw (e, f, g)
    go true true true false e f g h = rw (e, f, g, h)
    go true true true true e f g h = rw (e, f, g, h)

-- ---- one after another

-- refusals 4 to 7 of cards that all could be read
abbrev pub judging : Operands → Cards → Answer RuleAsked
judging os c = once os c >> (complete (given c.parameters) >>= λ u. limits os c u >> fine (record { utility = u; cards = c.items }))

abbrev answer_of : {A : Type 0} → Result Unit CardRefusal → A → Answer A
answer_of (Ok u) a = fine a
answer_of (Err v) a = refused_at v.number v.place v.column

-- a card that was noted, and a column of the U card that was noted, where 0 is none
abbrev card_noted : ℕ → ℕ → ℕ → Answer Unit
card_noted number zero column = fine tt
card_noted number (suc card) column = refused_at number (suc card) column

abbrev column_noted : ℕ → ℕ → Answer Unit
column_noted number zero = fine tt
column_noted number (suc column) = refused_at number 1 (suc column)

card_noted_lem : (column : ℕ → ℕ) (number card c : ℕ) → ((card ≡ 0 → ⊥) → c ≡ column card) → located column (noted number card) ≡ card_noted number card c
card_noted_lem column number zero c h = refl
card_noted_lem column number (suc card) c h = ap (refused_at {A = Unit} number (suc card)) (sym (h (λ z. omega arith)))

column_noted_lem : (number c : ℕ) (t : Bool) → eqb c 0 ≡ t → located (λ p. c) (unless t number 1) ≡ column_noted number c
unfolding unless
column_noted_lem number zero true e = refl
column_noted_lem number zero false e = absurd (true≢false e)
column_noted_lem number (suc c) true e = absurd (true≢false (sym e ∙ ne_eqb (suc c) 0 (λ q. omega arith)))
column_noted_lem number (suc c) false e = refl

-- the tests, each as it was noted
limits_order : {A : Type 0} (over out beyond column : ℕ) (a : A)
    → ((noted 6 over >> (column_noted 7 out >> card_noted 7 beyond column)) >> fine a) ≡ answer_of (or_noted 6 over 0 (or_column 7 out (or_noted 7 beyond column (Ok tt)))) a
unfolding ◌>>◌
limits_order (suc k) out beyond column a = rw (ne_eqb (suc k) 0 (λ q. omega arith))
limits_order zero (suc k) beyond column a = rw (ne_eqb (suc k) 0 (λ q. omega arith))
limits_order zero zero (suc k) column a = rw (ne_eqb (suc k) 0 (λ q. omega arith))
limits_order zero zero zero column a = refl

once_order : {A : Type 0} (twice second column : ℕ) (later : Answer A) (v : Result Unit CardRefusal) (a : A) → (twice ≡ 0 → later ≡ answer_of v a)
    → ((column_noted 4 twice >> card_noted 4 second column) >> later) ≡ answer_of (or_column 4 twice (or_noted 4 second column v)) a
unfolding ◌>>◌
once_order (suc k) second column later v a h = rw (ne_eqb (suc k) 0 (λ q. omega arith))
once_order zero (suc k) column later v a h = rw (ne_eqb (suc k) 0 (λ q. omega arith))
once_order zero zero column later v a h = h refl

-- numbers with the same limits
outside_same : {A : Type 0} (f g : A → List Limit) → ((a : A) → f a ≡ g a) → (c : ℕ) (ws : List (Worded A)) → outside_among f c ws ≡ outside_among g c ws
outside_same f g h c ws = λ i. outside_among (λ a. h a i) c ws

module _ (os : Operands) (p : Parameters) (o : OutsideColumns) (ws : List (Worded Parameter)) (t : UText os.u (values_of ws)) (same : u_words os.u ≡ ws)
    (n : Notes (suc os.before) p ws) (nums : NotesOutside (suc os.before) o ws) (s : NotedRow) (is : s ≡ with_cards 2 (map fs_words os.fs) (no_selection (key_of p.input)))
    (cs : List (List Item)) (b : Both FsText os.fs cs) (h : Holds (key_of p.input) s cs) where
  abbrev ps : List Parameter
  ps = values_of ws

  abbrev the_cards : Cards
  the_cards = record { parameters = ps; items = cs }

  abbrev the_asked : RuleAsked
  the_asked = record { utility = utility_in p; cards = cs }

  abbrev k : Noted
  k = s.0

  abbrev first : ℕ
  first = suc os.before

  complete_is : complete (given ps) ≡ cond (is_complete p) (fine (utility_in p)) (refused 5 1)
  complete_is = ap complete (sym n.given) ∙ complete_given p

  -- refusal 4
  twice_is : located (λ q. again_column same_letter [] first (u_words os.u)) (unless (distinct (map letter ps)) 4 1) ≡ column_noted 4 p.twice
  twice_is =
      ap (λ (c : ℕ). located (λ q. c) (unless (distinct (map letter ps)) 4 1)) (ap (again_column same_letter [] first) same ∙ sym n.twice)
      ∙ column_noted_lem 4 p.twice (distinct (map letter ps)) n.once

  second_is : located (cv_column [] 2 os.fs) (up_to 4 1 cvs 0 2 cs) ≡ card_noted 4 k.second_cv k.second_column
  second_is =
      ap (located (cv_column [] 2 os.fs)) (sym h.tells.twice)
      ∙ card_noted_lem (cv_column [] 2 os.fs) 4 k.second_cv k.second_column
      (subst (λ (x : NotedRow). (x.0.second_cv ≡ 0 → ⊥) → x.0.second_column ≡ cv_column [] 2 os.fs x.0.second_cv) (sym is) (cv_column_lem (key_of p.input) os.fs))

  -- refusal 7
  beyond_is : located (field_column 2 os.fs cs) (each 7 limited 2 cs) ≡ card_noted 7 k.beyond k.beyond_column
  beyond_is =
      ap (located (field_column 2 os.fs cs)) (sym h.tells.beyond)
      ∙ card_noted_lem (field_column 2 os.fs cs) 7 k.beyond k.beyond_column
      (subst (λ (x : NotedRow). (x.0.beyond ≡ 0 → ⊥) → x.0.beyond_column ≡ field_column 2 os.fs cs x.0.beyond) (sym is) (number_column (key_of p.input) os.fs cs b))

  parts : UParts os.u ws
  parts = subst (UParts os.u) same (u_worded os.u ps t).0

  column_of : (f : Format) → outside_column (number_columns false first os.u) (joined (map (parameter_numbers f) ps)) ≡ u_outside f o
  column_of f = outside_parts "," 44 refl refl ParameterText (parameter_numbers f) (λ x a t c. parameter_count c f t) parts first (omega arith) ∙ go f
    where
      go : (f : Format) → outside_among (parameter_numbers f) first ws ≡ u_outside f o
      go ff = sym nums.plain
      go fv = sym nums.variable
      go fu = outside_same (parameter_numbers fu) (parameter_numbers ff) (numbers_least fu ff refl) first ws ∙ sym nums.plain
      go fsp = outside_same (parameter_numbers fsp) (parameter_numbers fv) (numbers_least fsp fv refl) first ws ∙ sym nums.variable

  numbers_is : p.twice ≡ 0 → (u : Utility) → complete (given ps) ≡ fine u
      → located (λ q. outside_column (number_columns false first os.u) (joined (map (parameter_numbers u.format) ps))) (unless (utility_limits u) 7 1) ≡ column_noted 7 (u_outside u.format o)
  numbers_is z u e =
      let single : Twice ps → ⊥ = λ (w : Twice ps). true≢false (sym (ap (λ (c : ℕ). eqb c 0) z) ∙ n.once ∙ of_twice ps w) in
      let q : eqb (u_outside u.format o) 0 ≡ utility_limits u
      = ap (λ (c : ℕ). eqb c 0) (sym (column_of u.format))
      ∙ outside_none (number_columns false first os.u) (joined (map (parameter_numbers u.format) ps)) (u_count u.format first os.u ps t) (columns_low false first os.u (omega arith))
      ∙ sym (utility_exactly ps u single (complete_fine ps u e)) in
      ap (λ (c : ℕ). located (λ q. c) (unless (utility_limits u) 7 1)) (column_of u.format) ∙ column_noted_lem 7 (u_outside u.format o) (utility_limits u) q

  judging_is : judging os the_cards ≡ answer_of (card_refusal_of p o k) the_asked
  unfolding once limits limits_of card_refusal_of utility_in ◌>>=◌
  judging_is =
      (λ i. (twice_is i >> second_is i) >> (complete (given ps) >>= rest))
      ∙ once_order p.twice k.second_cv k.second_column (complete (given ps) >>= rest)
      (cond (is_complete p) (or_noted 6 k.sixty_fifth 0 (or_column 7 (u_outside (format_of p.format) o) (or_noted 7 k.beyond k.beyond_column (Ok tt)))) (Err (card_refusal 5 1 0))) the_asked
      (λ z. go z (is_complete p) refl)
    where
      rest : Utility → Answer RuleAsked
      rest u = limits os the_cards u >> fine (record { utility = u; cards = cs })

      go : p.twice ≡ 0 → (full : Bool) → is_complete p ≡ full → (complete (given ps) >>= rest)
          ≡ answer_of (cond (is_complete p) (or_noted 6 k.sixty_fifth 0 (or_column 7 (u_outside (format_of p.format) o) (or_noted 7 k.beyond k.beyond_column (Ok tt)))) (Err (card_refusal 5 1 0))) the_asked
      go z false e =
          let c : complete (given ps) ≡ refused 5 1 = complete_is ∙ ap (λ (x : Bool). cond x (fine (utility_in p)) (refused 5 1)) e in
          rw (c, e) refl
      go z true e =
          let c : complete (given ps) ≡ fine (utility_in p) = complete_is ∙ ap (λ (x : Bool). cond x (fine (utility_in p)) (refused 5 1)) e in
          rw (c, e)
          ((λ i. (sym h.tells.over i >> (numbers_is z (utility_in p) c i >> beyond_is i)) >> fine the_asked)
          ∙ limits_order k.sixty_fifth (u_outside (format_of p.format) o) k.beyond k.beyond_column the_asked)

  -- ---- what is asked for, where nothing is refused

  module _ (fs : ℕ) (many : fs ≡ length cs) (few : length (all_fields cs) ≤ 64) (right : every field_limits (all_fields cs) ≡ true) (fair : UtilityWithin (utility_in p)) where
    count_is : k.count ≡ length (all_fields cs)
    count_is = omega (arith, h.tells.count)

    size_is : size_of (joined_of p.input) ≡ joined_size (input_of p.input)
    unfolding utility_in
    size_is = joined_is (format_of p.format) p.input fair.input

    key_is : key_of p.input ≡ key_length (input_of p.input)
    unfolding utility_in
    key_is = key_told (format_of p.format) p.input fair.input

    means_asked : Means (asked_for p k fs) the_asked
    unfolding asked_for utility_of utility_in through_utility
    means_asked =
        record {
          utility = λ i. record { mode = mode_of p.mode; format = format_of p.format; input = plain (size_is i); output = size_of p.output; first = p.first };
          key = h.same ∙ key_is;
          count = count_is;
          few = omega (arith, count_is);
          fs = many;
          cv = h.tells.cv;
          keyed = h.tells.keyed;
        }

    accepts : Accepts (asked_for p k fs) s.1 the_asked
    unfolding laid_fields utility_in
    accepts =
        record { means = means_asked; fields = h.row right few ∙ ap (λ (key : ℕ). row_of (map (laid key) (all_fields cs))) key_is }

  -- where nothing is refused there are at most 64 fields, with all numbers within their limits
  fair_fields : judging os the_cards ≡ fine the_asked → (length (all_fields cs) ≤ 64) × (every field_limits (all_fields cs) ≡ true) × UtilityWithin (utility_in p)
  unfolding limits
  fair_fields e =
      let s1 = then_fine _ _ the_asked e in
      let s2 = bind_fine _ _ the_asked s1.1 in
      let s3 = then_fine _ _ the_asked s2.2 in
      let s4 = then_fine _ _ tt s3.0 in
      let s5 = then_fine _ _ tt s4.1 in
      let own : s2.0 ≡ utility_in p = ap (λ (a : RuleAsked). a.utility) (fine_same _ the_asked s3.1) in (
        omega (arith, up_to_fine 6 64 many_fields 0 2 cs (omega arith) s4.0, total_fields cs),
        all_every field_limits (all_fields_lem field_limits cs (each_fine 7 _ 2 cs (located_fine _ _ tt s5.1))),
        subst UtilityWithin own ((utility_within s2.0).0 (unless_fine _ 7 1 (located_fine _ _ tt s5.0))),
      )

  pub judged_said : (fs : ℕ) → fs ≡ length cs → DeckAnswered (judging os the_cards) (judged_as p o k fs) s.1
  unfolding judged_as
  judged_said fs m = go (card_refusal_of p o k) refl
    where
      go : (v : Result Unit CardRefusal) → card_refusal_of p o k ≡ v → DeckAnswered (judging os the_cards) (asked_or (asked_for p k fs) v) s.1
      go (Ok u) e =
          let j : judging os the_cards ≡ fine the_asked = judging_is ∙ ap (λ (v : Result Unit CardRefusal). answer_of v the_asked) e in
          let g = fair_fields j in
          subst (λ (x : Answer RuleAsked). DeckAnswered x (Ok (asked_for p k fs)) s.1) (sym j) (accepts fs m g.0 g.1 g.2)
      go (Err v) e =
          let j : judging os the_cards ≡ refused_at v.number v.place v.column = judging_is ∙ ap (λ (v : Result Unit CardRefusal). answer_of v the_asked) e in
          subst (λ (x : Answer RuleAsked). DeckAnswered x (Err v) s.1) (sym j) refl

-- ---- as it is judged

module _ (p : Parameters) (o : OutsideColumns) (n : Noted) (fs : ℕ) where
  pub judged_refused : (v : CardRefusal) → Err v ≡ card_refusal_of p o n → judged_as p o n fs ≡ Err v
  unfolding judged_as
  judged_refused v e = ap (asked_or (asked_for p n fs)) (sym e)

  pub judged_asked : (u : Unit) → Ok u ≡ card_refusal_of p o n → judged_as p o n fs ≡ Ok (asked_for p n fs)
  unfolding judged_as
  judged_asked u e = ap (asked_or (asked_for p n fs)) (sym e)
