-- What callers are told is what the words say, for every deck, table, reel and output: the numbers are those of the answer, the answer is refused exactly as the
-- table says, and where it is fine it is the plan that the deck asks for, with the records of the reel.
use mathlib.Core.Path.{◌≡◌, refl, ap, sym, ◌∙◌, subst}
use mathlib.Core.Logic.{◌↔◌}
use mathlib.Core.Bool.{Bool, true, false}
use mathlib.Core.List.{List, ◌++◌, map}
use Prim.Native.Nat.{ℕ, ◌-◌, ◌≤◌, ◌<◌}
use native.Mathlib.Omega.{arith}
use lib.ListN.{length, take, drop, length-append, length-drop, length-map}
use lib.Seq.{take_at, drop_at}
use borrow.Author.Tests.{leb-true}
use Rattle.rules.specs.Answer.{Refusal, Answer, fine, refuse, refused_at, refusal_of, place_of, column_of}
use Rattle.rules.specs.Places.{All, Both, Byte}
use Rattle.rules.specs.Halves.{Kind, copy, pack, unpack, input_size, output_size}
use Rattle.rules.specs.Base.{joined}
use Rattle.rules.specs.Grammar.{Parameter, Part, in_data, in_key, CardField, Item}
use Rattle.rules.specs.Asked.{Asked, fields_of, asked_of}
use Rattle.rules.specs.Plan.{Plan, is_tc, is_fs, block_length, combined, assembled, plan_of, plan_answer}
use Rattle.rules.specs.Output.{block_of}
use Rattle.rules.specs.Run.{RunOutput, run_of, ran_of, output_blocks, convert, spanned_out, spanned_run, conversion}
use Rattle.rules.specs.Reel.{blocks_of, reel_of}
use Rattle.rules.specs.Rows.{Says, Row, Done, GivenBy}
use Rattle.rules.specs.ColumnRows.{Column, Lowest, Answered}
use Rattle.rules.specs.RunRows.{RunWrites, in_blocks, in_segments, RowInto, RowRun}
use Rattle.rules.specs.Accepted.{Accepted}
use Rattle.rules.specs.Lent.{zone_f, plan, plan_into, Entry, kind_number, part_number, entry_of, card_fields, table_after, run, run_answer, output_after}
use Rattle.rules.specs.Said.{PlanSays, KindIs, PartIs, EntryIs, TableSays, Wrote, RunSays}
use Rattle.rules.proofs.Base.AllLaws.{both_made, all_of}
use Rattle.rules.proofs.Refusals.AnswerLaws.{fine_same, refuse_same, not_fine, bind_fine, then_fine, unless_fine}
use Rattle.rules.proofs.Deck.AcceptedLaws.{accepted, zone_of}
use Rattle.rules.proofs.Refusals.AskedTable.{says_same, asked_says}
use Rattle.rules.proofs.Refusals.PlanTable.{plan_asks, plan_made, into_made}
use Rattle.rules.proofs.Columns.ColumnTable.{plan_columns, into_columns, run_columns}
use Rattle.rules.proofs.Reel.ReelLaws.{reel_of_lem, all_blocks}
use Rattle.rules.proofs.Refusals.BlocksOutcome.{holds_of}
use Rattle.rules.proofs.Output.OutBlockWords.{holds_whole, blocks_told}
use Rattle.rules.proofs.Refusals.RunTable.{run_finished}
use Rattle.rules.proofs.Runs.RunParts.{finished}
use Rattle.rules.proofs.Spanned.SpannedRead.{spans_exactly}
use Rattle.rules.proofs.Spanned.SpannedRuns.{finished_span}
use Rattle.rules.proofs.Spanned.SpannedOut.{most_a, spans_told}
use Rattle.rules.proofs.Keeping.Demand3.{demand3_of}

-- ---- any table

-- an answer that is refused as a table says is answered by it
pub answered : {A : Type 0} (rows : ℕ → ℕ → Type 0) (deck : List ℕ) (x : Answer A) → ((n p c : ℕ) → (x ≡ refused_at n p c) ↔ (GivenBy rows n p × Lowest (Column deck p n) c))
    → ((a : A) × (x ≡ fine a)) ↔ ((n p : ℕ) → rows n p → ⊥) → ((p : ℕ) → rows 0 p → ⊥) → Answered rows deck (refusal_of x) (place_of x) (column_of x)
answered {A} rows deck (fine a) table made no_0 =
    record {
      given = λ n p c l. (λ e. absurd (omega (arith, e.0)), λ g. absurd (not_fine _ a (sym ((table n p c).1 g))));
      none = (λ e. made.0 (a, refl), λ h. refl);
      at_0 = λ e. (refl, refl);
    }
answered {A} rows deck (refuse r) table made no_0 =
    record {
      given = λ n p c l. (λ e. given n p c e, λ g. let q = refuse_same r _ ((table n p c).1 g) in (ap (λ (z : Refusal). z.number) q, ap (λ (z : Refusal). z.place) q, ap (λ (z : Refusal). z.column) q));
      none = (λ e. absurd (never e), λ h. absurd (h r.number r.place own.0.0));
      at_0 = λ e. absurd (never e);
    }
  where
    own : GivenBy rows r.number r.place × Lowest (Column deck r.place r.number) r.column
    own = (table r.number r.place r.column).0 refl

    given : (n p c : ℕ) → (r.number ≡ n) × (r.place ≡ p) × (r.column ≡ c) → GivenBy rows n p × Lowest (Column deck p n) c
    given n p c (d, e, f) = (table n p c).0 (λ i. refuse (record { number = d i; place = e i; column = f i }))

    never : r.number ≡ 0 → ⊥
    never e = no_0 r.place (subst (λ (m : ℕ). rows m r.place) e own.0.0)

-- ---- a plan

-- what a plan says of a deck, where it is the deck's own plan that is not refused
plan_says_of : (deck : List ℕ) (rows : ℕ → ℕ → Type 0) (x : Answer Plan) → ((n p c : ℕ) → (x ≡ refused_at n p c) ↔ (GivenBy rows n p × Lowest (Column deck p n) c))
    → ((a : Plan) × (x ≡ fine a)) ↔ ((n p : ℕ) → rows n p → ⊥) → ((p : ℕ) → rows 0 p → ⊥) → ((p : Plan) → x ≡ fine p → plan_of zone_f deck ≡ fine p)
    → PlanSays rows deck (plan_answer x)
plan_says_of deck rows (fine p) table made no_0 is =
    let e = is p refl in
    record {
      table = answered rows deck (fine p) table made no_0;
      refused = λ n. absurd (n refl);
      made = λ z. (p, plan_asks zone_f deck Done p e, demand3_of p (rw (zone_of zone_f deck p e) (omega arith)) (accepted zone_f deck p e), refl);
    }
plan_says_of deck rows (refuse r) table made no_0 is =
    let a = answered {A = Plan} rows deck (refuse r) table made no_0 in
    record {
      table = a;
      refused = λ n. (refl, refl, refl);
      made = λ z. absurd (a.none.0 z r.number r.place ((table r.number r.place r.column).0 refl).0.0);
    }

pub plan_says : (deck : List ℕ) → PlanSays (Row zone_f deck) deck (plan_answer (plan deck))
unfolding plan
plan_says deck = plan_says_of deck (Row zone_f deck) (plan_of zone_f deck) (plan_columns zone_f deck) (plan_made zone_f deck) (λ p r. r) (λ p e. e)

-- ---- a lent table

-- a plan that goes into a table is the deck's plan, and the table has room for its fields
pub into_plan : (entries : ℕ) (deck : List ℕ) (p : Plan) → plan_into entries deck ≡ fine p → (plan_of zone_f deck ≡ fine p) × (length p.fields ≤ entries)
unfolding plan_into plan
into_plan entries deck p e =
    let s = bind_fine _ _ p e in
    let t = then_fine _ _ p s.2 in
    let q = fine_same s.0 p t.1 in
    (s.1 ∙ ap fine q, subst (λ (y : Plan). length y.fields ≤ entries) q (leb-true _ entries (unless_fine _ 15 _ t.0)))

kind_is : (c : Kind) → KindIs c (kind_number c) (input_size c) (output_size c)
kind_is (copy s) = (refl, refl, refl)
kind_is (pack n m) = (refl, refl, refl)
kind_is (unpack n m) = (refl, refl, refl)

part_is : (q : Part) → PartIs q (part_number q)
part_is in_data = refl
part_is in_key = refl

entries_are : (fs : List CardField) → Both EntryIs fs (map entry_of fs)
entries_are fs = both_made entry_of (all_of (λ f. record { kind = kind_is f.field.kind; part = part_is f.part; r = refl; t = refl }) fs)

-- the fields on the cards of a deck that has a plan: as many as the plan has, and those that the deck says
module _ (deck : List ℕ) (p : Plan) (e : plan_of zone_f deck ≡ fine p) where
  asked_for : (a : Asked) × (asked_of deck ≡ fine a) × (assembled zone_f a ≡ p)
  unfolding plan_of
  asked_for =
      let s1 = bind_fine (asked_of deck) _ p e in
      let s2 = then_fine (combined zone_f s1.0) _ p s1.2 in
      (s1.0, s1.1, fine_same _ p s2.1)

  pub card_fields_lem : length (card_fields (asked_of deck)) ≡ length p.fields
  unfolding assembled
  card_fields_lem =
      let a = asked_for in
      ap (λ (x : Answer Asked). length (card_fields x)) a.1 ∙ sym (length-map (fields_of (joined a.0.cards)) _) ∙ ap (λ (q : Plan). length q.fields) a.2

  said_fields : (us : List Parameter) (cards : List (List Item)) → Says deck us cards → card_fields (asked_of deck) ≡ fields_of (joined cards)
  said_fields us cards s =
      let a = asked_for in
      let w = asked_says deck Done a.0 a.1 in
      ap card_fields a.1 ∙ ap (λ (cs : List (List Item)). fields_of (joined cs)) (says_same deck w.0 us a.0.cards cards w.1 s).1

table_says_of : (deck : List ℕ) (before : List Entry) (x : Answer Plan) → ((p : Plan) → x ≡ fine p → (plan_of zone_f deck ≡ fine p) × (length p.fields ≤ length before))
    → (refusal_of x ≡ 0 → (p : Plan) × (x ≡ fine p)) → PlanSays (RowInto zone_f deck (length before)) deck (plan_answer x) → TableSays deck before (plan_answer x) (table_after before deck x)
table_says_of deck before (fine p) is h says =
    let w = is p refl in
    let new = map entry_of (card_fields (asked_of deck)) in
    let many : length new ≡ length p.fields = length-map (card_fields (asked_of deck)) entry_of ∙ card_fields_lem deck p w.0 in
    record {
      plan = says;
      size = omega (arith, length-append new (drop (length p.fields) before), many, length-drop (length p.fields) before, w.1);
      refused = λ n. absurd (n refl);
      stored = λ z us cards s.
          subst (λ (fs : List CardField). Both EntryIs fs (take (length p.fields) (new ++ drop (length p.fields) before))) (said_fields deck p w.0 us cards s)
          (subst (Both EntryIs (card_fields (asked_of deck))) (sym (take_at new (drop (length p.fields) before) (length p.fields) many)) (entries_are (card_fields (asked_of deck))));
      others = λ z. drop_at new (drop (length p.fields) before) (length p.fields) many;
    }
table_says_of deck before (refuse r) is h says =
    record {
      plan = says;
      size = refl;
      refused = λ n. refl;
      stored = λ z us cards s. let w = h z in absurd (not_fine r w.0 w.1);
      others = λ z. refl;
    }

pub table_says : (deck : List ℕ) (before : List Entry) → TableSays deck before (plan_answer (plan_into (length before) deck)) (table_after before deck (plan_into (length before) deck))
table_says deck before =
    let says = plan_says_of deck (RowInto zone_f deck (length before)) (plan_into (length before) deck) (into_columns (length before) deck) (into_made (length before) deck) (λ p r. r) (λ p e. (into_plan (length before) deck p e).0) in
    let a = answered (RowInto zone_f deck (length before)) deck (plan_into (length before) deck) (into_columns (length before) deck) (into_made (length before) deck) (λ p r. r) in
    table_says_of deck before (plan_into (length before) deck) (λ p e. into_plan (length before) deck p e) (λ z. (into_made (length before) deck).1 (a.none.0 z)) says

-- ---- a run

module _ (deck reel : List ℕ) (bytes : All Byte reel) where
  -- what the run of a plan wrote, and that there is room for it
  record Writes (p : Plan) (room : ℕ) (x : RunOutput) : Type 0 where
    blocks : List (List ℕ)
    records : ℕ
    writes : RunWrites p reel blocks records
    is : x ≡ record { reel = reel_of blocks; records = records; blocks = length blocks }
    roomy : length x.reel ≤ room

  writes_of : (p : Plan) → plan_of zone_f deck ≡ fine p → (room : ℕ) (x : RunOutput) → conversion room p reel ≡ fine x → Writes p room x
  unfolding conversion ran_of
  writes_of p e room x d = go (is_fs p.format) refl
    where
      ok : Accepted p
      ok = accepted zone_f deck p e

      go : (t : Bool) → is_fs p.format ≡ t → Writes p room x
      go false t =
          let w = finished p room reel x (let c : convert room p reel ≡ fine x = rw t at d in c) in
          let h = holds_of p ok 1 (all_blocks reel bytes) w.recs w.reads in
          let z : p.zone < 16 = rw (zone_of zone_f deck p e) (omega arith) in
          record {
            blocks = map (block_of p.format) (output_blocks p w.recs);
            records = length (joined (output_blocks p w.recs));
            writes = in_blocks t (blocks_of reel, reel_of_lem reel bytes w.reel, h) (blocks_told p z ok w.recs (holds_whole p ok (all_blocks reel bytes) h) w.fit);
            is = w.writes ∙ ap (λ (n : ℕ). record { reel = reel_of (map (block_of p.format) (output_blocks p w.recs)); records = length (joined (output_blocks p w.recs)); blocks = n }) (sym (length-map (output_blocks p w.recs) (block_of p.format)));
            roomy = w.roomy;
          }
      go true t =
          let w = finished_span (is_tc p.mode) (block_length p.input) (block_length p.output) p.first room reel x (let c : spanned_run (is_tc p.mode) (block_length p.input) (block_length p.output) p.first room reel ≡ fine x = rw t at d in c) in
          let h = (spans_exactly (block_length p.input) (omega (arith, most_a p ok t)) (all_blocks reel bytes) (joined w.recs)).0 (w.recs, w.reads, refl) in
          record {
            blocks = spanned_out (is_tc p.mode) (block_length p.output) (blocks_of reel) (drop (p.first - 1) (joined w.recs));
            records = length (drop (p.first - 1) (joined w.recs));
            writes = in_segments t (reel_of_lem reel bytes w.reel) h (spans_told p ok t (blocks_of reel) (joined w.recs) h);
            is = w.writes;
            roomy = w.room_most;
          }

  -- of the deck's plan
  run_writes : (room : ℕ) (x : RunOutput) → run room deck reel ≡ fine x → (p : Plan) × (plan_of zone_f deck ≡ fine p) × Writes p room x
  unfolding run run_of
  run_writes room x d = let s = bind_fine (plan_of zone_f deck) _ x d in (s.0, s.1, writes_of s.0 s.1 room x s.2)

  wrote_of : (before : List ℕ) (x : RunOutput) → run (length before) deck reel ≡ fine x → Wrote deck reel before (run_answer (fine x)) (output_after before (fine x))
  wrote_of before x d =
      let s = run_writes (length before) x d in
      let w = s.2 in
      record {
        p = s.0;
        asks = plan_asks zone_f deck Done s.0 s.1;
        blocks = w.blocks;
        records = w.records;
        writes = w.writes;
        place = refl;
        column = refl;
        length_is = ap (λ (y : RunOutput). length y.reel) w.is;
        records_are = ap (λ (y : RunOutput). y.records) w.is;
        blocks_are = ap (λ (y : RunOutput). y.blocks) w.is;
        front = take_at x.reel (drop (length x.reel) before) (length x.reel) refl ∙ ap (λ (y : RunOutput). y.reel) w.is;
        rest = drop_at x.reel (drop (length x.reel) before) (length x.reel) refl;
      }

  roomy_of : (before : List ℕ) (x : RunOutput) → run (length before) deck reel ≡ fine x → length x.reel ≤ length before
  roomy_of before x d = let s = run_writes (length before) x d in s.2.roomy

  run_says_of : (before : List ℕ) (x : Answer RunOutput) → run (length before) deck reel ≡ x → Answered (RowRun zone_f deck reel (length before)) deck (refusal_of x) (place_of x) (column_of x)
      → (refusal_of x ≡ 0 → (y : RunOutput) × (x ≡ fine y)) → RunSays deck reel before (run_answer x) (output_after before x)
  run_says_of before (fine x) d a h =
      record {
        table = a;
        size = omega (arith, length-append x.reel (drop (length x.reel) before), length-drop (length x.reel) before, roomy_of before x d);
        refused = λ n. absurd (n refl);
        finished = λ z. wrote_of before x d;
      }
  run_says_of before (refuse r) d a h =
      record { table = a; size = refl; refused = λ n. (refl, refl, refl, refl); finished = λ z. let w = h z in absurd (not_fine r w.0 w.1) }

  pub run_says : (before : List ℕ) → RunSays deck reel before (run_answer (run (length before) deck reel)) (output_after before (run (length before) deck reel))
  unfolding run
  run_says before =
      let room = length before in
      let rows = RowRun zone_f deck reel room in
      let a = answered rows deck (run_of zone_f room deck reel) (run_columns zone_f (omega arith) deck reel bytes room) (run_finished zone_f (omega arith) deck reel bytes room) (λ p r. r) in
      run_says_of before (run_of zone_f room deck reel) refl a (λ z. (run_finished zone_f (omega arith) deck reel bytes room).1 (a.none.0 z))
