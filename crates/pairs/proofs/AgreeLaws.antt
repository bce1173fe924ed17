-- What the fields leave of a copy of theirs, and when theirs agrees with the output of ours, by the numbers of a plan. By the laws of when a record agrees with an
-- output record, since the numbers are those of the plan.
use mathlib.Core.Path.{◌≡◌, refl, ap, ap₂, sym, subst₂, ◌∙◌}
use mathlib.Core.Bool.{Bool, true, false, cond, true≢false, false≢true}
use mathlib.Core.List.{List, [], ◌++◌}
use mathlib.Core.Logic.{◌↔◌}
use Prim.Native.Nat.{ℕ, ◌+◌, ◌-◌, ◌≤◌}
use native.Mathlib.Omega.{arith}
use lib.ListN.{length, take, drop, length-drop, drop_of_length-le}
use lib.Seq.{take_at, length-take-le}
use Rattle.rules.specs.Halves.{Field, over}
use Rattle.rules.specs.Grammar.{Format, Size}
use Rattle.rules.specs.Plan.{Plan, selects, record_length}
use Rattle.rules.specs.Output.{out_record}
use Rattle.rules.specs.RecordParts.{written_bytes}
use Rattle.rules.specs.Rows.{SizeWithin}
use Rattle.rules.specs.Lent.{zone_f}
use Rattle.rules.specs.Judge.{agrees}
use Rattle.rules.proofs.Base.AllLaws.{all_imply}
use Rattle.rules.proofs.Halves.PermittedLaws.{same_test}
use Rattle.rules.proofs.Halves.RecordLaws.{Shape, fixed, variable, shape_of, fits_wider}
use Rattle.rules.proofs.Judge.AgreeBytes.{tail_out, agrees_selected, agrees_carried}
use Rattle.terms.specs.Meaning.{mode_of}
use Rattle.terms.specs.declared.Task.{Task}
use Rattle.rows.specs.Flat.{flat_of, Fielded}
use Rattle.rows.proofs.ReadLaws.{fair_of}
use Rattle.records.specs.Promise.{FieldsWritten}
use Rattle.tasks.specs.Promise.{tail_length_of, output_length_of}
use Rattle.tasks.proofs.LengthLaws.{tail_dropped, length_selected}
use Rattle.checks.specs.Promise.{PlanGiven}
use Rattle.pairs.specs.Promise.{WrittenOver, Comparable, SelectingPair, AgreesAs}

-- a test that is passed exactly where two lists are the same
abbrev pub Tells : Bool → List ℕ → List ℕ → Type 0
Tells x a b = (x ≡ true → a ≡ b) × (a ≡ b → x ≡ true)

-- ---- the fields over a copy

-- the first bytes of the room, once theirs was copied there
copied_front : (theirs room : List ℕ) → take (length theirs) (over 0 theirs room) ≡ theirs
unfolding over
copied_front theirs room = take_at theirs (drop (0 + length theirs) room) (length theirs) refl

pub over_copy : (xs r theirs room copy new rest : List ℕ) (x : Bool) → copy ≡ over 0 theirs room → FieldsWritten xs r (take (length theirs) copy) new → length new ≡ length theirs
    → Tells x (take (length theirs) (new ++ rest)) theirs → WrittenOver xs r theirs x
unfolding FieldsWritten WrittenOver
over_copy xs r theirs room copy new rest x e w long t fs flat =
    let is : take (length theirs) (new ++ rest) ≡ written_bytes zone_f fs r theirs =
    take_at new rest (length theirs) long
    ∙ w fs flat
    ∙ ap (λ (y : List ℕ). written_bytes zone_f fs r (take (length theirs) y)) e
    ∙ ap (written_bytes zone_f fs r) (copied_front theirs room)
    in
    (λ h. sym is ∙ t.0 h, λ h. t.1 (is ∙ h))

-- ---- with TF or TRF, by a plan

-- theirs is as long, the fields over its first bytes change nothing, and it ends with the tail
pub record Parts (task : Task) (fs : List Field) (r theirs : List ℕ) : Type 0 where
  pub size : length theirs ≡ output_length_of task (length r)
  pub front : written_bytes zone_f fs r (take task.width theirs) ≡ take task.width theirs
  pub tail : drop task.width theirs ≡ cond task.carries (drop task.n r) []

module _ (task : Task) (fields r theirs : List ℕ) (p : Plan) (g : PlanGiven task fields p) (sel : selects p.mode ≡ true) (long : record_length p.input ≤ length r) where
  tail_as : cond task.carries (drop task.n r) [] ≡ tail_out p r
  tail_as = ap₂ (λ (c : Bool) (n : ℕ). cond {A = List ℕ} c (drop n r) []) g.is.carries g.is.n

  length_as : output_length_of task (length r) ≡ record_length p.output + length (tail_out p r)
  unfolding output_length_of tail_length_of
  length_as =
      ap (λ (b : Bool). cond b (task.width + tail_length_of task (length r)) (length r)) (ap selects g.is.mode ∙ sel)
      ∙ ap₂ (λ (m k : ℕ). m + k) g.is.width (many task.carries ∙ ap length tail_as)
    where
      many : (c : Bool) → cond c (length r - task.n) 0 ≡ length (cond {A = List ℕ} c (drop task.n r) [])
      many true = sym (length-drop task.n r)
      many false = refl

  agrees_parts : (agrees p (out_record p r) theirs ≡ true) ↔ Parts task p.fields r theirs
  agrees_parts = (onward, back)
    where
      onward : agrees p (out_record p r) theirs ≡ true → Parts task p.fields r theirs
      onward e =
          let h = (agrees_selected p g.accepted sel r long theirs).0 e in
          record {
            size = h.0 ∙ sym length_as;
            front = subst₂ (λ (z m : ℕ). written_bytes z p.fields r (take m theirs) ≡ take m theirs) g.zone (sym g.is.width) h.1;
            tail = ap (λ (m : ℕ). drop m theirs) g.is.width ∙ h.2 ∙ sym tail_as;
          }

      back : Parts task p.fields r theirs → agrees p (out_record p r) theirs ≡ true
      back h =
          (agrees_selected p g.accepted sel r long theirs).1 (
            h.size ∙ length_as,
            subst₂ (λ (z m : ℕ). written_bytes z p.fields r (take m theirs) ≡ take m theirs) (sym g.zone) g.is.width h.front,
            ap (λ (m : ℕ). drop m theirs) (sym g.is.width) ∙ h.tail ∙ tail_as,
          )

-- ---- with TF or TRF, by the numbers

width_least : {f : Format} {a b : Size} → Shape f a b → SizeWithin f b → record_length b ≤ 4096
width_least (fixed la lb) w = w.0.1
width_least (variable la lb) w = w.0.1

-- the fields of the plan, for a record that may be longer than A's n
given_fields : {task : Task} {fields : List ℕ} (p : Plan) → PlanGiven task fields p → (k : ℕ) → record_length p.input ≤ k → (m : ℕ) → m ≡ record_length p.output → Fielded fields k m
given_fields p g k l m e =
    let fair = fair_of p g.accepted in
    record { fields = p.fields; fair = record { flat = g.flat; fits = all_imply (fits_wider k m l (omega arith)) fair.fits; sizes = fair.sizes } }

module _ {task : Task} {fields r : List ℕ} {room : ℕ} (s : SelectingPair task fields r room) where
  pub width_most : task.width ≤ 4096
  width_most =
      let c = s.comparable in
      omega (arith, c.given.is.width, width_least (shape_of c.p c.given.accepted s.selecting) c.given.accepted.output)

  pub length_asked : (task.width ≤ 65536) × (length r ≤ 65536)
  length_asked = (omega (arith, width_most), s.comparable.short)

  pub record_long : task.n ≤ length r
  record_long = let c = s.comparable in omega (arith, c.given.is.n, c.long s.selecting)

  mode_selects : selects (mode_of task.mode) ≡ true
  mode_selects = ap selects s.comparable.given.is.mode ∙ s.selecting

  plan_selects : (p : Plan) → PlanGiven task fields p → selects p.mode ≡ true
  plan_selects p g = ap selects (sym g.is.mode) ∙ mode_selects

  module _ (theirs : List ℕ) where
    -- theirs has B's n bytes
    pub width_inside : (n : ℕ) → n ≡ output_length_of task (length r) → length theirs ≡ n → task.width ≤ length theirs
    width_inside n e l = omega (arith, length_selected task (length r) refl mode_selects)

    -- what is asked of them
    pub front_asked : task.width ≤ length theirs
        → Fielded fields (length r) (length (take task.width theirs)) × ((length (take task.width theirs) ≤ 65536) × (length (take task.width theirs) ≤ room))
    front_asked l =
        let c = s.comparable in
        let size : length (take task.width theirs) ≡ task.width = length-take-le task.width theirs l in (
          given_fields c.p c.given (length r) (c.long s.selecting) (length (take task.width theirs)) (size ∙ c.given.is.width),
          (omega (arith, width_most), omega (arith, width_most, c.roomy)),
        )

    -- a test that is passed exactly where theirs has these parts
    decided : (x : Bool) → ((fs : List Field) → fields ≡ flat_of fs → (x ≡ true) ↔ Parts task fs r theirs) → AgreesAs task fields r theirs x
    decided x t =
        record {
          is =
              λ p g l.
              let sel = plan_selects p g in
              let parts = agrees_parts task fields r theirs p g sel (l sel) in
              let told = t p.fields g.flat in
              same_test x (agrees p (out_record p r) theirs) (λ e. parts.1 (told.0 e)) (λ e. told.1 (parts.0 e));
        }

    pub other_length : (n : ℕ) → n ≡ output_length_of task (length r) → (length theirs ≡ n → ⊥) → AgreesAs task fields r theirs false
    other_length n e d = decided false (λ fs flat. (λ f. absurd (false≢true f), λ h. absurd (d (h.size ∙ sym e))))

    module _ (n : ℕ) (e : n ≡ output_length_of task (length r)) (size : length theirs ≡ n) (x : Bool) (w : WrittenOver fields r (take task.width theirs) x) where
      pub front_changed : x ≡ false → AgreesAs task fields r theirs false
      unfolding WrittenOver
      front_changed f = decided false (λ fs flat. (λ z. absurd (false≢true z), λ h. absurd (true≢false (sym ((w fs flat).1 h.front) ∙ f))))

      module _ (same : x ≡ true) where
        -- without CV there is no tail
        pub front_alone : task.carries ≡ false → AgreesAs task fields r theirs true
        unfolding WrittenOver
        front_alone c = decided true (λ fs flat. (λ z. record { size = size ∙ e; front = (w fs flat).0 same; tail = none }, λ h. refl))
          where
            none : drop task.width theirs ≡ cond task.carries (drop task.n r) []
            none =
                let all : length theirs ≤ task.width = omega (arith, length_selected task (length r) refl mode_selects, tail_dropped task (length r) c) in
                drop_of_length-le theirs all ∙ sym (ap (λ (q : Bool). cond {A = List ℕ} q (drop task.n r) []) c)

        pub tail_told : task.carries ≡ true → (a b : List ℕ) (y : Bool) → a ≡ drop task.n r → b ≡ drop task.width theirs → Tells y a b → AgreesAs task fields r theirs y
        unfolding WrittenOver
        tail_told c a b y ea eb t = decided y (λ fs flat. (λ z. record { size = size ∙ e; front = (w fs flat).0 same; tail = sym eb ∙ sym (t.0 z) ∙ ea ∙ sym carried }, λ h. t.1 (ea ∙ sym carried ∙ sym h.tail ∙ sym eb)))
          where
            carried : cond task.carries (drop task.n r) [] ≡ drop task.n r
            carried = ap (λ (q : Bool). cond {A = List ℕ} q (drop task.n r) []) c

-- ---- by the mode

module _ {task : Task} {fields r : List ℕ} where
  pub selecting_by : {room : ℕ} → Comparable task fields r room → selects (mode_of task.mode) ≡ true → SelectingPair task fields r room
  selecting_by c s = record { comparable = c; selecting = ap selects (sym c.given.is.mode) ∙ s }

  -- TC and TR carry records unchanged
  pub carried_told : selects (mode_of task.mode) ≡ false → (theirs : List ℕ) (x : Bool) → Tells x r theirs → AgreesAs task fields r theirs x
  carried_told s theirs x t =
      record {
        is =
            λ p g l.
            let carried = agrees_carried p (ap selects (sym g.is.mode) ∙ s) r theirs in
            same_test x (agrees p (out_record p r) theirs) (λ h. carried.1 (t.0 h)) (λ h. t.1 (carried.0 h));
      }
