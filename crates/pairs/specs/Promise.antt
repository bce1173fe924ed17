-- What is promised of records in pairs, for every plan that the numbers may be.
use Rattle.std.specs.Prelude.{◌≡◌, ◌↔◌, Bool, true, cond, List, map, ℕ, ◌≤◌, length, Option, Some, None}
use Rattle.rules.specs.Base.{is_empty, joined}
use Rattle.rules.specs.Halves.{Field}
use Rattle.rules.specs.Plan.{Plan, selects, record_length}
use Rattle.rules.specs.Blocks.{taken_from}
use Rattle.rules.specs.Output.{out_record}
use Rattle.rules.specs.RecordParts.{written_bytes}
use Rattle.rules.specs.Lent.{zone_f}
use Rattle.rules.specs.Judge.{under_b, agrees, first_apart}
use Rattle.terms.specs.declared.Task.{Task}
use Rattle.rows.specs.Flat.{flat_of}
use Rattle.pieces.specs.declared.Form.{Form}
use Rattle.pieces.specs.Form.{FormIs}
use Rattle.walks.specs.declared.Walk.{Walk}
use Rattle.walks.specs.Promise.{Good, Walks}
use Rattle.checks.specs.Promise.{PlanGiven}
use Rattle.span_pairs.specs.Promise.{number_of}

-- ---- two records

-- whether the fields, written over these bytes, change nothing
unfoldable pub WrittenOver : List ℕ → List ℕ → List ℕ → Bool → Type 0
WrittenOver xs r theirs x = (fs : List Field) → xs ≡ flat_of fs → (x ≡ true) ↔ (written_bytes zone_f fs r theirs ≡ theirs)

-- the record is one that the plan may take, and there is room for B's n bytes
pub record Comparable (task : Task) (fields r : List ℕ) (room : ℕ) : Type 0 where
  pub p : Plan
  pub given : PlanGiven task fields p
  pub long : selects p.mode ≡ true → record_length p.input ≤ length r
  pub short : length r ≤ 65536
  pub roomy : 4096 ≤ room

-- with TF or TRF
pub record SelectingPair (task : Task) (fields r : List ℕ) (room : ℕ) : Type 0 where
  pub comparable : Comparable task fields r room
  pub selecting : selects comparable.p.mode ≡ true

-- whether theirs agrees with the output of r
pub record AgreesAs (task : Task) (fields r theirs : List ℕ) (x : Bool) : Type 0 where
  pub is : (p : Plan) → PlanGiven task fields p → (selects p.mode ≡ true → record_length p.input ≤ length r) → x ≡ agrees p (out_record p r) theirs

-- ---- two reels

-- both were read by such a plan, theirs under B
pub record BothRead (task : Task) (fields ours theirs : List ℕ) : Type 0 where
  pub p : Plan
  pub recs : List (List (List ℕ))
  pub others : List (List (List ℕ))
  pub given : PlanGiven task fields p
  pub good : Good p ours recs
  pub good' : Good (under_b p) theirs others

-- behind our last record: theirs has a further one, which has this number, or none
pub record Lacks (form : Form) (theirs : List ℕ) (v : Walk) (number : ℕ) (r : Option ℕ) : Type 0 where
  pub is : (q : Plan) (rest : List (Bool × List ℕ)) → FormIs form q → Walks q theirs v rest → r ≡ cond (is_empty rest) None (Some number)

-- the number of the first record that disagrees or lacks a partner, if one does
pub record ApartAt (task : Task) (fields ours theirs : List ℕ) (n : Option ℕ) : Type 0 where
  pub is :
      (p : Plan) (recs others : List (List (List ℕ))) → PlanGiven task fields p → Good p ours recs → Good (under_b p) theirs others
      → n ≡ number_of (first_apart (agrees p) 1 (map (out_record p) (joined (taken_from p.first recs))) (joined others))
