-- The column of a refusal: a refused deck's column is the lowest that its row has at that place, and so number, place and column are those of the table. By
-- following the tests of a plan: rows 3, 4 and 7 have the column that was found, every other test answers column 0.
use mathlib.Core.Path.{◌≡◌, refl, ap, sym, ◌∙◌, subst}
use mathlib.Core.Logic.{◌↔◌, ◌⊎◌, inl, inr}
use mathlib.Core.Bool.{Bool, true, false, cond, true≢false}
use mathlib.Core.List.{List, [], ◌∷◌, map}
use mathlib.Core.Option.{Option, none, some}
use Prim.Native.Nat.{ℕ, suc, ◌+◌, ◌-◌, ◌≤◌, ◌<◌}
use native.Mathlib.Nat.{not-suc-le-zero}
use native.Mathlib.Omega.{arith}
use lib.Dec.{leb}
use lib.ListN.{length}
use Rattle.rules.specs.Base.{every, joined}
use Rattle.rules.specs.Answer.{Refusal, Answer, fine, refuse, refused_at, located, ◌>>=◌, ◌>>◌, unless, each}
use Rattle.rules.specs.Places.{All, Byte, Found, here, later, Both}
use Rattle.rules.specs.Reader.{Read, read, stopped}
use Rattle.rules.specs.Deck.{Card, u_card, fs_card, end_card, lines, card_of, before_fs}
use Rattle.rules.specs.Order.{cards_from, fs_from, Operands as Ordered, ordered, operands_of}
use Rattle.rules.specs.Grammar.{Parameter, Item, u_operand, fs_operand}
use Rattle.rules.specs.Words.{Worded, u_words, fs_words, again_column, number_columns, outside_column}
use Rattle.rules.specs.Texts.{UText, FsText}
use Rattle.rules.specs.Columns.{NoWay, RightTo}
use Rattle.rules.specs.Asked.{grammatical, items_from, cards_of, letter, distinct, fields_of, cvs, same_letter, cv_column, up_to, once, GivenParameters, given, need, Utility, complete, utility_limits, field_limits, parameter_numbers, field_column, limits, Asked, asked_of}
use Rattle.rules.specs.Plan.{assembled, barren_half, combined, plan_of}
use Rattle.rules.specs.Rows.{OperandsAre, Alike, Twice, Complete, Row, Done, GivenBy}
use Rattle.rules.specs.RunRows.{RowInto, RowRun}
use Rattle.rules.specs.Run.{run_of}
use Rattle.rules.specs.Lent.{zone_f, plan, plan_into}
use Rattle.rules.specs.ColumnRows.{At3, UParts, FsParts, Again, CVOn, At4, Outside, NumberOn, At7, Column, Lowest}
use Rattle.rules.proofs.Refusals.AnswerLaws.{refuse_same}
use Rattle.rules.proofs.Refusals.Given.{found_low}
use Rattle.rules.proofs.Refusals.ParameterOutcome.{twice_of, complete_fine, complete_same}
use Rattle.rules.proofs.Base.AllLaws.{both_same}
use Rattle.rules.proofs.Grammar.GrammarLaws.{u_once, fs_once, u_right, fs_right}
use Rattle.rules.proofs.Deck.ScanLaws.{made_refused}
use Rattle.rules.proofs.Columns.ColumnSteps.{lowest_once}
use Rattle.rules.proofs.Columns.WordedLaws.{u_parts, u_worded}
use Rattle.rules.proofs.Columns.AgainLaws.{cv_on_low, again_first, same_letter_lem, twice_again, words_of, of_words, cv_column_lem}
use Rattle.rules.proofs.Columns.NumberColumns.{number_on_low, u_count, outside_first, utility_meets, field_column_lem}
use Rattle.rules.proofs.Refusals.AskedTable.{operands_same, operands_of_lem, says_of, not_twice}
use Rattle.rules.proofs.Refusals.PlanTable.{plan_table, into_table}
use Rattle.rules.proofs.Refusals.RunTable.{run_table}
use Rattle.rules.proofs.Refusals.RunColumns.{refuses_reads, Refuses, Plainly, refuses_bind, refuses_then, refuses_unless, refuses_each, refuses_conversion}

pub lowest_zero : Lowest (λ c. c ≡ 0) 0
lowest_zero = (refl, λ d l e. absurd (not-suc-le-zero l))

module _ (deck : List ℕ) where
  -- a refusal's column is the lowest that its row has at its place
  abbrev pub ColumnIs : Refusal → Type 0
  ColumnIs r = Lowest (Column deck r.place r.number) r.column

  abbrev pub Columned : {A : Type 0} → Answer A → Type 0
  Columned x = Refuses ColumnIs x

  -- row m has column 0
  abbrev pub Plain : ℕ → Type 0
  Plain m = Plainly ColumnIs m

  -- ---- answers

  pub columned_bind : {A B : Type 0} (x : Answer A) (f : A → Answer B) → Columned x → ((a : A) → x ≡ fine a → Columned (f a)) → Columned (x >>= f)
  columned_bind x f c h = refuses_bind ColumnIs x f c h

  pub columned_then : {B : Type 0} (x : Answer Unit) (y : Answer B) → Columned x → (x ≡ fine tt → Columned y) → Columned (x >> y)
  columned_then x y c h = refuses_then ColumnIs x y c h

  pub columned_unless : (t : Bool) (m i : ℕ) → Plain m → Columned (unless t m i)
  columned_unless t m i z = refuses_unless ColumnIs t m i z

  columned_each : {A : Type 0} (m : ℕ) (q : A → Bool) (i : ℕ) (xs : List A) → Plain m → Columned (each m q i xs)
  columned_each m q i xs z = refuses_each ColumnIs m q i xs z

  columned_up_to : (m limit : ℕ) (f : List Item → ℕ) (sum i : ℕ) (cards : List (List Item)) → Plain m → Columned (up_to m limit f sum i cards)
  columned_up_to m limit f sum i [] z = tt
  columned_up_to m limit f sum i (c ∷ cs) z = go (leb (sum + f c) limit) (columned_up_to m limit f (sum + f c) (suc i) cs z)
    where
      go : (t : Bool) → Columned (up_to m limit f (sum + f c) (suc i) cs) → Columned (cond t (up_to m limit f (sum + f c) (suc i) cs) (refused_at {A = Unit} m i 0))
      go true h = h
      go false h = z i

  -- a test whose column is sought
  columned_located : {A : Type 0} (column : ℕ → ℕ) (x : Answer A) → ((r : Refusal) → x ≡ refuse r → Lowest (Column deck r.place r.number) (column r.place))
      → Columned (located column x)
  columned_located column (fine a) h = tt
  columned_located column (refuse r) h = h r refl

  -- ---- rows 1, 2 and 5

  columned_cards : (i : ℕ) (cs : List Card) → Columned (fs_from i cs)
  columned_cards i [] = lowest_zero
  columned_cards i (u_card b o ∷ cs) = lowest_zero
  columned_cards i (fs_card o ∷ cs) = go (columned_cards (suc i) cs) (leb i 64)
    where
      go : Columned (fs_from (suc i) cs) → (t : Bool) → Columned (cond t (fs_from (suc i) cs >>= λ os. fine (o ∷ os)) (refused_at 2 i 0))
      go h true = columned_bind (fs_from (suc i) cs) (λ os. fine (o ∷ os)) h (λ os f. tt)
      go h false = lowest_zero
  columned_cards i (end_card ∷ []) = go (leb i 64)
    where
      go : (t : Bool) → Columned {A = List (List ℕ)} (cond t (fine []) (refused_at 2 i 0))
      go true = tt
      go false = lowest_zero
  columned_cards i (end_card ∷ (c ∷ cs)) = go (leb i 64)
    where
      go : (t : Bool) → Columned {A = List (List ℕ)} (cond t (refused_at 2 (suc i) 0) (refused_at 2 i 0))
      go true = lowest_zero
      go false = lowest_zero

  columned_order : (cs : List Card) → Columned (ordered cs)
  columned_order [] = lowest_zero
  columned_order (u_card b o ∷ cs) = columned_bind (fs_from 2 cs) _ (columned_cards 2 cs) (λ os f. tt)
  columned_order (fs_card o ∷ cs) = lowest_zero
  columned_order (end_card ∷ cs) = lowest_zero

  columned_operands : Columned (operands_of deck)
  unfolding operands_of
  columned_operands = columned_bind (cards_from 1 (lines deck)) ordered (refuses_reads ColumnIs 1 card_of 1 (lines deck) (λ p. lowest_zero)) (λ cs e. columned_order cs)

  columned_need : {A : Type 0} (o : Option A) → Columned (need o)
  columned_need none = lowest_zero
  columned_need (some a) = tt

  columned_complete : (g : GivenParameters) → Columned (complete g)
  unfolding complete
  columned_complete g =
      columned_bind (need g.mode) _ (columned_need g.mode) (λ a e.
      columned_bind (need g.format) _ (columned_need g.format) (λ b f.
      columned_bind (need g.input) _ (columned_need g.input) (λ c h.
      columned_bind (need g.output) _ (columned_need g.output) (λ d k. tt))))

  -- ---- rows 3, 4 and 7 speak of the operands of the deck

  module _ (os : Ordered) (o : OperandsAre deck os.before os.u os.fs) where
    -- what holds of the operands of the deck holds of these
    own : (W : ℕ → List ℕ → List (List ℕ) → Type 0) (b : ℕ) (u : List ℕ) (fs : List (List ℕ)) → OperandsAre deck b u fs → W b u fs → W os.before os.u os.fs
    own W b u fs t x =
        let w = operands_same deck b os.before u os.u fs os.fs t o in
        subst (λ (z : ℕ). W z os.u os.fs) w.0 (subst (λ (z : List ℕ). W b z os.fs) w.1 (subst (λ (z : List (List ℕ)). W b u z) w.2 x))

    -- ---- row 3

    -- column c of an FS card has no way on
    abbrev Hit : ℕ → List ℕ → Type 0
    Hit c x = (k : ℕ) × (c ≡ before_fs + k) × NoWay FsText x k

    abbrev Wrong : ℕ → ℕ → ℕ → List ℕ → List (List ℕ) → Type 0
    Wrong p c b u fs = ((p ≡ 1) × ((k : ℕ) × (c ≡ b + k) × NoWay UText u k)) ⊎ Found (Hit c) p 2 fs

    columned_u : Columned (grammatical 1 os.before os.u (u_operand os.u))
    columned_u = go (u_operand os.u) refl
      where
        at : (left : List ℕ) → RightTo UText os.u (length os.u - length left) → Lowest (At3 deck 1) (os.before + suc (length os.u - length left))
        at left r = (
          (os.before, os.u, os.fs, o, inl (refl, (suc (length os.u - length left), refl, r.then))),
          λ d l x. lower d l (own (Wrong 1 d) x.0 x.1 x.2 x.3 x.4),
        )
          where
            lower : (d : ℕ) → d < os.before + suc (length os.u - length left) → Wrong 1 d os.before os.u os.fs → ⊥
            lower d l (inl (e, (k, f, n))) = r.first k (omega arith) n
            lower d l (inr f) = omega (arith, found_low f)

        go : (x : Read (List Parameter)) → u_operand os.u ≡ x → Columned (grammatical 1 os.before os.u x)
        go (read us left) e = tt
        go (stopped left) e = at left (u_right os.u left e)

    fs_lowest : (i : ℕ) (xs : List (List ℕ)) (r : Refusal) → items_from i xs ≡ refuse r → (r.number ≡ 3) × Lowest (λ c. Found (Hit c) r.place i xs) r.column
    unfolding ◌>>=◌
    fs_lowest i [] r e = let z : ◌≡◌ {A = ℕ} 0 1 = cc in absurd (omega arith)
    fs_lowest i (x ∷ xs) r e = go (λ f. fs_lowest (suc i) xs r f) (fs_operand x) refl
      where
        past : (i < r.place) → (d : ℕ) → Found (Hit d) r.place i (x ∷ xs) → Found (Hit d) r.place (suc i) xs
        past l d (here e h) = absurd (omega arith)
        past l d (later f) = f

        at : (left : List ℕ) → RightTo FsText x (length x - length left) → Lowest (λ c. Found (Hit c) i i (x ∷ xs)) (before_fs + suc (length x - length left))
        at left w = (here refl (suc (length x - length left), refl, w.then), λ d l f. lower d l f)
          where
            lower : (d : ℕ) → d < before_fs + suc (length x - length left) → Found (Hit d) i i (x ∷ xs) → ⊥
            lower d l (here e (k, f, n)) = w.first k (omega arith) n
            lower d l (later f) = omega (arith, found_low f)

        go : (items_from (suc i) xs ≡ refuse r → (r.number ≡ 3) × Lowest (λ c. Found (Hit c) r.place (suc i) xs) r.column) → (y : Read (List Item)) → fs_operand x ≡ y
            → (r.number ≡ 3) × Lowest (λ c. Found (Hit c) r.place i (x ∷ xs)) r.column
        go ih (read is left) f =
            let w = ih (made_refused (items_from (suc i) xs) (λ more. is ∷ more) r (rw f at e)) in
            let l : i < r.place = omega (arith, found_low w.1.0) in
            (w.0, (later w.1.0, λ d m h. w.1.1 d m (past l d h)))
        go ih (stopped left) f =
            let q : record { number = 3; place = i; column = before_fs + suc (length x - length left) } ≡ r = refuse_same {A = List (List Item)} _ r (rw f at e) in
            subst (λ (z : Refusal). (z.number ≡ 3) × Lowest (λ c. Found (Hit c) z.place i (x ∷ xs)) z.column) q (refl, at left (fs_right x left f))

    columned_fs : Columned (items_from 2 os.fs)
    columned_fs = go (items_from 2 os.fs) refl
      where
        go : (x : Answer (List (List Item))) → items_from 2 os.fs ≡ x → Columned x
        go (fine a) e = tt
        go (refuse r) e =
            let w = fs_lowest 2 os.fs r e in
            subst (λ (n : ℕ). Lowest (Column deck r.place n) r.column) (sym w.0)
            ((os.before, os.u, os.fs, o, inr w.1.0), λ d l x. lower w d l (own (Wrong r.place d) x.0 x.1 x.2 x.3 x.4))
          where
            lower : (r.number ≡ 3) × Lowest (λ c. Found (Hit c) r.place 2 os.fs) r.column → (d : ℕ) → d < r.column → Wrong r.place d os.before os.u os.fs → ⊥
            lower w d l (inl x) = omega (arith, x.0, found_low w.1.0)
            lower w d l (inr f) = w.1.1 d l f

    columned_said : Columned (cards_of os)
    unfolding cards_of
    columned_said =
        columned_bind (grammatical 1 os.before os.u (u_operand os.u)) _ columned_u (λ us e.
        columned_bind (items_from 2 os.fs) _ columned_fs (λ is f. tt))

    -- ---- row 4

    abbrev Second : ℕ → ℕ → ℕ → List ℕ → List (List ℕ) → Type 0
    Second p c b u fs =
        ((p ≡ 1) × ((ws : List (Worded Parameter)) × UParts u ws × Again Alike c [] (suc b) ws))
        ⊎ ((cards : List (List (Worded Item))) × Both FsParts fs cards × CVOn p c [] 2 cards)

    module _ (us : List Parameter) (cards : List (List Item)) (t : UText os.u us) (b : Both FsText os.fs cards) where
      twice_lowest : distinct (map letter us) ≡ false → Lowest (At4 deck 1) (again_column same_letter [] (suc os.before) (u_words os.u))
      twice_lowest e =
          let parts = u_worded os.u us t in
          let some = twice_again [] (suc os.before) (u_words os.u) (subst Twice (sym parts.1) (twice_of us e)) in
          let w = again_first same_letter Alike same_letter_lem [] (suc os.before) (u_words os.u) some.0 some.1 in (
            (os.before, os.u, os.fs, o, inl (refl, (u_words os.u, parts.0, w.0))),
            λ d l x. lower d (w.1 d l) (own (Second 1 d) x.0 x.1 x.2 x.3 x.4),
          )
        where
          lower : (d : ℕ) → (Again Alike d [] (suc os.before) (u_words os.u) → ⊥) → Second 1 d os.before os.u os.fs → ⊥
          lower d m (inl (e, (ws, parts, a))) = m (subst (Again Alike d [] (suc os.before)) (sym (u_parts os.u ws parts)) a)
          lower d m (inr (cards, parts, a)) = omega (arith, cv_on_low a)

      cvs_lowest : (r : Refusal) → up_to 4 1 cvs 0 2 cards ≡ refuse r → Lowest (Column deck r.place r.number) (cv_column [] 2 os.fs r.place)
      cvs_lowest r e =
          let w = cv_column_lem [] 2 os.fs cards b (omega arith) r e in
          subst (λ (n : ℕ). Lowest (Column deck r.place n) (cv_column [] 2 os.fs r.place)) (sym w.0) (
            (os.before, os.u, os.fs, o, inr (map fs_words os.fs, words_of b, w.1.0)),
            λ d l x. lower d (cv_on_low w.1.0) (w.1.1 d l) (own (Second r.place d) x.0 x.1 x.2 x.3 x.4),
          )
        where
          lower : (d : ℕ) → 2 ≤ r.place → (CVOn r.place d [] 2 (map fs_words os.fs) → ⊥) → Second r.place d os.before os.u os.fs → ⊥
          lower d h m (inl x) = omega (arith, x.0)
          lower d h m (inr (ws, parts, a)) = m (subst (CVOn r.place d [] 2) (sym (of_words parts)) a)

      columned_once : Columned (once os (record { parameters = us; items = cards }))
      unfolding once unless
      columned_once =
          columned_then _ _ (columned_located _ (unless (distinct (map letter us)) 4 1) (λ r e. first r (distinct (map letter us)) refl e)) (λ e.
          columned_located _ (up_to 4 1 cvs 0 2 cards) (λ r f. cvs_lowest r f))
        where
          first : (r : Refusal) (d : Bool) → distinct (map letter us) ≡ d → unless d 4 1 ≡ refuse r
              → Lowest (Column deck r.place r.number) (again_column same_letter [] (suc os.before) (u_words os.u))
          first r true f e = let z : ◌≡◌ {A = ℕ} 0 1 = cc in absurd (omega arith)
          first r false f e =
              subst (λ (z : Refusal). Lowest (Column deck z.place z.number) (again_column same_letter [] (suc os.before) (u_words os.u)))
              (refuse_same {A = Unit {0}} (record { number = 4; place = 1; column = 0 }) r e) (twice_lowest f)

      -- ---- row 7

      abbrev Beyond : ℕ → ℕ → ℕ → List ℕ → List (List ℕ) → Type 0
      Beyond p c b u fs =
          ((p ≡ 1)
          × ((us : List Parameter) × UText u us × (v : Utility) × Complete us v
          × Outside c (number_columns false (suc b) u) (joined (map (parameter_numbers v.format) us))))
          ⊎ ((cards : List (List Item)) × Both FsText fs cards × NumberOn p c 2 fs cards)

      module _ (v : Utility) (full : Complete us v) (single : Twice us → ⊥) where
        abbrev column : ℕ
        column = outside_column (number_columns false (suc os.before) os.u) (joined (map (parameter_numbers v.format) us))

        sizes_lowest : utility_limits v ≡ false → Lowest (At7 deck 1) column
        sizes_lowest e =
            let w = outside_first (suc os.before) os.u (joined (map (parameter_numbers v.format) us)) (u_count v.format (suc os.before) os.u us t)
            (λ a. true≢false (sym (utility_meets us v full a) ∙ e)) in (
              (os.before, os.u, os.fs, o, inl (refl, (us, t, v, full, w.0))),
              λ d l x. lower d (w.1 d l) (own (Beyond 1 d) x.0 x.1 x.2 x.3 x.4),
            )
          where
            lower : (d : ℕ) → (Outside d (number_columns false (suc os.before) os.u) (joined (map (parameter_numbers v.format) us)) → ⊥)
                → Beyond 1 d os.before os.u os.fs → ⊥
            lower d m (inl (e, (us', t', v', full', a))) =
                let q : us' ≡ us = u_once os.u us' us t' t in
                let y : v' ≡ v = complete_same us v' v single (subst (λ (z : List Parameter). Complete z v') q full') full in
                m (subst (λ (z : Utility). Outside d (number_columns false (suc os.before) os.u) (joined (map (parameter_numbers z.format) us))) y
                (subst (λ (z : List Parameter). Outside d (number_columns false (suc os.before) os.u) (joined (map (parameter_numbers v'.format) z))) q a))
            lower d m (inr (cards, parts, a)) = omega (arith, number_on_low a)

        fields_lowest : (r : Refusal) → each 7 (λ c. every field_limits (fields_of c)) 2 cards ≡ refuse r
            → Lowest (Column deck r.place r.number) (field_column 2 os.fs cards r.place)
        fields_lowest r e =
            let w = field_column_lem 2 os.fs cards b r e in
            subst (λ (n : ℕ). Lowest (Column deck r.place n) (field_column 2 os.fs cards r.place)) (sym w.0) (
              (os.before, os.u, os.fs, o, inr (cards, b, w.1.0)),
              λ d l x. lower d (number_on_low w.1.0) (w.1.1 d l) (own (Beyond r.place d) x.0 x.1 x.2 x.3 x.4),
            )
          where
            lower : (d : ℕ) → 2 ≤ r.place → (NumberOn r.place d 2 os.fs cards → ⊥) → Beyond r.place d os.before os.u os.fs → ⊥
            lower d h m (inl x) = omega (arith, x.0)
            lower d h m (inr (is, parts, a)) = m (subst (NumberOn r.place d 2 os.fs) (both_same fs_once parts b) a)

        columned_limits : Columned (limits os (record { parameters = us; items = cards }) v)
        unfolding limits unless
        columned_limits =
            columned_then _ _ (columned_up_to 6 64 (λ c. length (fields_of c)) 0 2 cards (λ p. lowest_zero)) (λ e1.
            columned_then _ _ (columned_located _ (unless (utility_limits v) 7 1) (λ r e. first r (utility_limits v) refl e)) (λ e2.
            columned_located _ (each 7 (λ c. every field_limits (fields_of c)) 2 cards) (λ r e. fields_lowest r e)))
          where
            first : (r : Refusal) (d : Bool) → utility_limits v ≡ d → unless d 7 1 ≡ refuse r → Lowest (Column deck r.place r.number) column
            first r true f e = let z : ◌≡◌ {A = ℕ} 0 1 = cc in absurd (omega arith)
            first r false f e =
                subst (λ (z : Refusal). Lowest (Column deck z.place z.number) column)
                (refuse_same {A = Unit {0}} (record { number = 7; place = 1; column = 0 }) r e) (sizes_lowest f)

  pub columned_asked : Columned (asked_of deck)
  unfolding asked_of
  columned_asked =
      columned_bind (operands_of deck) _ columned_operands (λ os e1. let o = operands_of_lem deck Done os e1 in
      columned_bind (cards_of os) _ (columned_said os o) (λ c e2. let s = says_of deck Done os o c e2 in
      let t : UText os.u c.parameters = own os o (λ b u fs. UText u c.parameters) s.before s.u s.fs s.operands s.says_u in
      let b : Both FsText os.fs c.items = own os o (λ b u fs. Both FsText fs c.items) s.before s.u s.fs s.operands s.says_fs in
      columned_then (once os c) _ (columned_once os o c.parameters c.items t b) (λ e3.
      columned_bind (complete (given c.parameters)) _ (columned_complete (given c.parameters)) (λ u e4.
      columned_then (limits os c u) _ (columned_limits os o c.parameters c.items t b u (complete_fine c.parameters u e4) (not_twice deck Done os c e3)) (λ e5. tt)))))

  columned_combined : (zone : ℕ) (a : Asked) → Columned (combined zone a)
  unfolding combined
  columned_combined zone a =
      columned_then _ _ (columned_unless _ 8 1 (λ p. lowest_zero)) (λ e1.
      columned_then _ _ (columned_unless _ 8 2 (λ p. lowest_zero)) (λ e2.
      columned_then _ _ (columned_each 8 _ 2 a.cards (λ p. lowest_zero)) (λ e3.
      columned_then _ _ (columned_each 9 _ 1 (fields_of (joined a.cards)) (λ p. lowest_zero)) (λ e4. columned_unless _ 10 (barren_half (assembled zone a)) (λ p. lowest_zero)))))

  pub columned_plan : (zone : ℕ) → Columned (plan_of zone deck)
  unfolding plan_of
  columned_plan zone =
      columned_bind (asked_of deck) _ columned_asked (λ a e1.
      columned_then (combined zone a) _ (columned_combined zone a) (λ e2. tt))

  -- ---- a lent table, and a run: 11 to 15

  columned_into : (entries : ℕ) → Columned (plan_into entries deck)
  unfolding plan_into plan
  columned_into entries =
      columned_bind (plan_of zone_f deck) _ (columned_plan zone_f) (λ pl e1.
      columned_then (unless (leb (length pl.fields) entries) 15 (length pl.fields)) _ (columned_unless _ 15 (length pl.fields) (λ p. lowest_zero)) (λ e2. tt))

  -- no row of a run has a column
  pub plain_late : (m : ℕ) → 11 ≤ m → Plain m
  plain_late m h = let e : suc (suc (suc (suc (suc (suc (suc (suc (m - 8)))))))) ≡ m = omega arith in subst Plain e (λ p. lowest_zero)

  columned_run : (zone room : ℕ) (s : List ℕ) → Columned (run_of zone room deck s)
  unfolding run_of
  columned_run zone room s = columned_bind (plan_of zone deck) _ (columned_plan zone) (λ pl e. refuses_conversion ColumnIs room pl s plain_late)

-- ---- the table with columns

-- an answer whose number and place the table gives, and whose column is the lowest
module _ {A : Type 0} (deck : List ℕ) (x : Answer A) (R : ℕ → ℕ → Type 0) (given : (n p : ℕ) → ((c : ℕ) × (x ≡ refused_at n p c)) ↔ GivenBy R n p) (columned : Columned deck x) where
  pub columns : (n p c : ℕ) → (x ≡ refused_at n p c) ↔ (GivenBy R n p × Lowest (Column deck p n) c)
  columns n p c = (λ e. ((given n p).0 (c, e), subst (Columned deck) e columned), λ w. back ((given n p).1 w.0) w.1)
    where
      back : (d : ℕ) × (x ≡ refused_at n p d) → Lowest (Column deck p n) c → x ≡ refused_at n p c
      back (d, e) l =
          let m : Lowest (Column deck p n) d = subst (Columned deck) e columned in
          e ∙ ap (λ (k : ℕ). refused_at n p k) (lowest_once (Column deck p n) d c m l)

-- a plan is refused with n at p and column c exactly if row n applies at p, at no lower place, no row of a lower number applies, and c is the row's lowest column there
pub plan_columns : (zone : ℕ) (deck : List ℕ) (n p c : ℕ) → (plan_of zone deck ≡ refused_at n p c) ↔ (GivenBy (Row zone deck) n p × Lowest (Column deck p n) c)
plan_columns zone deck = columns deck (plan_of zone deck) (Row zone deck) (plan_table zone deck) (columned_plan deck zone)

-- with a lent table
pub into_columns : (entries : ℕ) (deck : List ℕ) (n p c : ℕ)
    → (plan_into entries deck ≡ refused_at n p c) ↔ (GivenBy (RowInto zone_f deck entries) n p × Lowest (Column deck p n) c)
into_columns entries deck = columns deck (plan_into entries deck) (RowInto zone_f deck entries) (into_table entries deck) (columned_into deck entries)

-- and a run
pub run_columns : (zone : ℕ) → zone < 16 → (deck s : List ℕ) → All Byte s → (room n p c : ℕ)
    → (run_of zone room deck s ≡ refused_at n p c) ↔ (GivenBy (RowRun zone deck s room) n p × Lowest (Column deck p n) c)
run_columns zone h deck s bytes room = columns deck (run_of zone room deck s) (RowRun zone deck s room) (run_table zone h deck s bytes room) (columned_run deck zone room s)
