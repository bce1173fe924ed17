-- What is filled into a table: of an accepted plan the fields as they stand on the cards, as many as there is room for or none; and what the lent table then holds.
use mathlib.Core.Path.{◌≡◌, refl, ap, sym, ◌∙◌}
use mathlib.Core.List.{List, ◌++◌, map, map-append}
use mathlib.Core.Bool.{true, false}
use Prim.Native.Nat.{ℕ, ◌+◌, ◌-◌, ◌*◌, ◌≤◌, ◌<◌}
use native.Mathlib.Omega.{arith}
use lib.Dec.{leb}
use lib.ListN.{length, take, drop, length-map}
use lib.Seq.{take_at}
use borrow.Author.Tests.{le-leb, lt-leb}
use Rattle.rules.specs.Answer.{Answer, fine, refuse}
use Rattle.rules.specs.Places.{All, no_more, also}
use Rattle.rules.specs.Halves.{input_size, Field as RuleField}
use Rattle.rules.specs.Base.{joined}
use Rattle.rules.specs.Grammar.{Format, Size, Input, plain, keyed, Part, in_data, in_key, CardField}
use Rattle.rules.specs.Asked.{fields_of, asked_of}
use Rattle.rules.specs.Rows.{FieldWithin, Inside}
use Rattle.rules.specs.Plan.{Plan, plan_answer, plan_of, assembled, record_length, key_length, part_length, bytes_before, through, inside_part}
use Rattle.rules.specs.Lent.{zone_f, plan, plan_into, entry_of, card_fields, table_after}
use Rattle.rules.proofs.Base.Lists.{map_drop}
use Rattle.rules.proofs.Refusals.AnswerLaws.{fine_same, bind_fine, then_fine}
use Rattle.rules.proofs.Refusals.SaidLaws.{card_fields_lem, into_plan}
use Rattle.rules.proofs.Refusals.PlanSteps.{into_refused, into_full, into_fits}
use Rattle.rules.proofs.Deck.AcceptedLaws.{accepted, limited_of, limits_utility, limits_fields, combines, key_fits_lem}
use Rattle.rules.proofs.Deck.LimitLaws.{inside_exactly}
use Rattle.rules.proofs.Halves.RecordLaws.{sizes_low}
use Rattle.rules.proofs.Keys.KeyLaws.{Named}
use Rattle.terms.specs.Meaning.{laid_fields, entry_means, entry_for}
use Rattle.terms.specs.declared.Asked.{Asked}
use Rattle.terms.specs.declared.Entry.{Entry}
use Rattle.terms.proofs.Entries.{entries_hold}
use Rattle.rows.specs.Flat.{flat_of}
use Rattle.rows.specs.Kept.{fields_in}
use Rattle.combinations.specs.Promise.{FieldsFair}
use Rattle.combinations.proofs.CombineLaws.{asked_fair}
use Rattle.plans.specs.Promise.{planned_of, refused_plan, HoldsPlan, Plans}
use Rattle.plans.specs.declared.DeckPlan.{DeckPlan}
use Rattle.plans.specs.declared.Planned.{Planned}
use Rattle.plans.proofs.DeckLaws.{row_fields}
use Rattle.plans.proofs.FilledLaws.{refused_plan_lem, accepted_plan, front, fields_are, row_holds}
use Rattle.tables.specs.Promise.{on_card, table_of, not_filled, filled_for}
use Rattle.tables.specs.declared.TablePlan.{TablePlan}

-- ---- a field that counts through, on its card again

module _ (i : Input) (b : Size) where
  on_card_lem : (x : CardField) → FieldWithin x.field → inside_part i b x ≡ true → Named i x → on_card (key_length i) (through (key_length i) x) ≡ x
  unfolding on_card inside_part
  on_card_lem x l e n = go i ((inside_exactly (part_length i x.part) (record_length b) x.field).0 e) n x.part refl
    where
      low : 1 ≤ input_size x.field.kind
      low = (sizes_low x.field.kind l.kind).0

      data_again : (k : ℕ) → x.part ≡ in_data → on_card k (through k x) ≡ x
      data_again k q =
          let z : bytes_before k x.part ≡ k = ap (bytes_before k) q in
          let t : leb (bytes_before k x.part + x.field.r) k ≡ false = lt-leb _ k (omega (arith, z, l.r.0)) in
          let r : bytes_before k x.part + x.field.r - k ≡ x.field.r = omega (arith, z) in
          rw t (λ j. record { part = sym q j; field = record { r = r j; kind = x.field.kind; t = x.field.t } })

      key_again : (k : ℕ) → x.part ≡ in_key → x.field.r + input_size x.field.kind - 1 ≤ k → on_card k (through k x) ≡ x
      key_again k q w =
          let z : bytes_before k x.part ≡ 0 = ap (bytes_before k) q in
          let t : leb (bytes_before k x.part + x.field.r) k ≡ true = le-leb _ k (omega (arith, z, w, low)) in
          let r : bytes_before k x.part + x.field.r ≡ x.field.r = omega (arith, z) in
          rw t (λ j. record { part = sym q j; field = record { r = r j; kind = x.field.kind; t = x.field.t } })

      go : (i : Input) → Inside (part_length i x.part) (record_length b) x.field → Named i x → (q : Part) → x.part ≡ q → on_card (key_length i) (through (key_length i) x) ≡ x
      go (plain s) w n q e = data_again 0 (n refl)
      go (keyed k d) w n in_data e = data_again k e
      go (keyed k d) w n in_key e =
          let p : part_length (keyed k d) x.part ≡ k = ap (part_length (keyed k d)) e in
          key_again k e (omega (arith, p, w.input))

all_on_card : (f : Format) (i : Input) (b : Size) {fs : List CardField} → All (λ f. FieldWithin f.field) fs → All (λ f. inside_part i b f ≡ true) fs → All (Named i) fs
    → map (on_card (key_length i)) (map (through (key_length i)) fs) ≡ fs
all_on_card f i b no_more no_more no_more = refl
all_on_card f i b (also {x = x} l ls) (also e es) (also n ns) = rw (on_card_lem i b x l e n, all_on_card f i b ls es ns)

-- ---- the fields of an accepted plan

module _ (deck : List ℕ) (p : Plan) (x : Asked) (row : List ℕ) (h : HoldsPlan deck p x row) (end : ℕ) (all : end ≡ 5 * length p.fields) (e : plan deck ≡ fine p) where
  -- its fields are within their limits
  fair_fields : FieldsFair (take end row)
  unfolding plan plan_of
  fair_fields =
      let s = bind_fine _ _ p e in
      let l = limited_of deck s.0 s.1 in
      let same : p.fields ≡ laid_fields s.0 = sym (row_fields deck s.0 s.1 x (h.means s.0 s.1) p s.2) in
      (asked_fair x s.0 (take end row) (h.means s.0 s.1) (limits_utility s.0 l) (limits_fields s.0 l) (front deck p x row h end all ∙ ap flat_of same)).fields

  -- and on their cards they are these
  pub cards_are : map (on_card x.key) p.fields ≡ card_fields (asked_of deck)
  unfolding plan plan_of assembled
  cards_are =
      let s = bind_fine _ _ p e in
      let t = then_fine _ _ p s.2 in
      let l = limited_of deck s.0 s.1 in
      let c = combines zone_f s.0 t.0 in
      let i = s.0.utility.input in
      let same : p.fields ≡ map (through (key_length i)) (fields_of (joined s.0.cards)) = sym (ap (λ (q : Plan). q.fields) (fine_same (assembled zone_f s.0) p t.1)) in
      (λ j. map (on_card ((h.means s.0 s.1).key j)) (same j))
      ∙ all_on_card s.0.utility.format i s.0.utility.output (limits_fields s.0 l) c.insides (key_fits_lem s.0.utility.format i s.0.cards c.cards_fit)
      ∙ sym (ap card_fields s.1)

-- as many fields stand on the cards as in the plan
pub card_count : (deck : List ℕ) (p : Plan) → plan deck ≡ fine p → length (card_fields (asked_of deck)) ≡ length p.fields
unfolding plan
card_count deck p e = card_fields_lem deck p e

-- ---- what is filled in

module _ (room : ℕ) (deck : List ℕ) (r : DeckPlan) (row : List ℕ) (w : Plans deck r row) where
  pub filled_refused : (r.answer.refusal ≡ 0 → ⊥) → not_filled r.answer ≡ filled_for deck (plan_into room deck)
  filled_refused h =
      let s = refused_plan_lem deck r row w h in
      ap not_filled (w.numbers ∙ ap (λ (x : Answer Plan). planned_of (plan_answer x)) s.1) ∙ ap (filled_for deck) (sym (into_refused room deck s.0 s.1))

  module _ (z : r.answer.refusal ≡ 0) where
    many : let p = (accepted_plan deck r row w z).0 in r.answer.fields ≡ length p.fields
    many = ap (λ (n : Planned). n.fields) (accepted_plan deck r row w z).2

    pub filled_full : room < r.answer.fields → not_filled (refused_plan 15 r.answer.fields 0) ≡ filled_for deck (plan_into room deck)
    filled_full l =
        let s = accepted_plan deck r row w z in
        ap (λ (n : ℕ). not_filled (refused_plan 15 n 0)) many ∙ ap (filled_for deck) (sym (into_full room deck s.0 s.1 (omega (arith, many))))

    pub few_fields : 5 * r.answer.fields ≤ 320
    few_fields = let s = accepted_plan deck r row w z in omega (arith, many, (row_holds deck s.0 s.1 r.asked row s.3).0)

    pub row_long : length row ≡ 320
    row_long = let s = accepted_plan deck r row w z in (row_holds deck s.0 s.1 r.asked row s.3).1

    pub fields_fair : FieldsFair (take (5 * r.answer.fields) row)
    fields_fair = let s = accepted_plan deck r row w z in fair_fields deck s.0 r.asked row s.3 (5 * r.answer.fields) (ap (λ (n : ℕ). 5 * n) many) s.1

    pub filled_whole : r.answer.fields ≤ room → (table : List Entry) → table ≡ table_of (map (on_card r.asked.key) (fields_in (take (5 * r.answer.fields) row)))
        → ◌≡◌ {A = TablePlan} (record { answer = r.answer; entries = table; store = r.answer.fields }) (filled_for deck (plan_into room deck))
    filled_whole l table t =
        let s = accepted_plan deck r row w z in
        let n = s.2 in
        let all = ap (λ (n : ℕ). 5 * n) many in
        let e : table ≡ table_of (card_fields (asked_of deck))
        = t ∙ ap (λ (fs : List RuleField). table_of (map (on_card r.asked.key) fs)) (fields_are deck s.0 r.asked row s.3 (5 * r.answer.fields) all)
        ∙ ap table_of (cards_are deck s.0 r.asked row s.3 (5 * r.answer.fields) all s.1) in
        let c : length s.0.fields ≡ length (card_fields (asked_of deck)) = sym (card_count deck s.0 s.1) in
        (λ i. record { answer = n i; entries = e i; store = (many ∙ c) i })
        ∙ ap (filled_for deck) (sym (into_fits room deck s.0 s.1 (omega (arith, many))))

-- ---- the lent table

-- the entries to be stored
pub stored_entries : (fs : List CardField) → take (length fs) (table_of fs) ≡ map entry_for (map entry_of fs)
unfolding table_of
stored_entries fs = take_at (map entry_for (map entry_of fs)) _ (length fs) (length-map (map entry_of fs) entry_for ∙ length-map fs entry_of)

-- a table that has the entries stored at its front is what the rules say that it is afterwards
pub table_after_lem : (deck : List ℕ) (x : Answer Plan) → ((p : Plan) → x ≡ fine p → plan deck ≡ fine p) → (table : List Entry)
    → map entry_means (take (filled_for deck x).store (filled_for deck x).entries ++ drop (filled_for deck x).store table) ≡ table_after (map entry_means table) deck x
table_after_lem deck (refuse r) own table = refl
table_after_lem deck (fine p) own table =
    let fs = card_fields (asked_of deck) in
    ap (λ (es : List Entry). map entry_means (es ++ drop (length fs) table)) (stored_entries fs)
    ∙ map-append entry_means (map entry_for (map entry_of fs)) (drop (length fs) table)
    ∙ rw (entries_hold (map entry_of fs), map_drop entry_means (length fs) table, card_count deck p (own p refl))

pub into_own : (room : ℕ) (deck : List ℕ) (p : Plan) → plan_into room deck ≡ fine p → plan deck ≡ fine p
unfolding plan
into_own room deck p e = (into_plan room deck p e).0

-- no more entries are stored than there are, and than the table has
pub store_fits : (room : ℕ) (deck : List ℕ) → ((filled_for deck (plan_into room deck)).store ≤ 64) × ((filled_for deck (plan_into room deck)).store ≤ room)
unfolding plan
store_fits room deck = go (plan_into room deck) refl
  where
    go : (x : Answer Plan) → plan_into room deck ≡ x → ((filled_for deck x).store ≤ 64) × ((filled_for deck x).store ≤ room)
    go (refuse r) e = (omega arith, omega arith)
    go (fine p) e =
        let own = into_plan room deck p e in
        let c = card_count deck p own.0 in
        (omega (arith, c, (accepted zone_f deck p own.0).few), omega (arith, c, own.1))
