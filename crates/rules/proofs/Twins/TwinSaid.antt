-- What a caller who asks for twins is told is what the words say, for every deck and output: the answer is refused exactly as the table says, and where it is fine it
-- has the two records of the deck's plan, which loses, and their reason.
use mathlib.Core.Path.{◌≡◌, refl, subst}
use mathlib.Core.Bool.{false, not}
use mathlib.Core.List.{List}
use Prim.Native.Nat.{ℕ, ◌≤◌, ◌<◌}
use native.Mathlib.Omega.{arith}
use lib.Dec.{leb}
use lib.ListN.{length, drop, length-append, length-drop}
use lib.Seq.{take_at, drop_at}
use borrow.Author.Tests.{leb-true, not-true}
use Rattle.rules.specs.Answer.{Answer, fine, refuse, refusal_of, place_of, column_of, unless}
use Rattle.rules.specs.Plan.{Plan, plan_of, lost_at, keeps}
use Rattle.rules.specs.Rows.{Done}
use Rattle.rules.specs.ColumnRows.{Answered}
use Rattle.rules.specs.Lent.{zone_f, plan}
use Rattle.rules.specs.Twins.{first_twin, second_twin, twins, Shown, shown, twins_into, twins_answer, twins_after}
use Rattle.rules.specs.TwinWords.{RowTwins, Told, TwinsSays}
use Rattle.rules.proofs.Refusals.AnswerLaws.{fine_same, not_fine, bind_fine, then_fine, unless_fine}
use Rattle.rules.proofs.Deck.AcceptedLaws.{accepted, zone_of}
use Rattle.rules.proofs.Refusals.PlanTable.{plan_asks}
use Rattle.rules.proofs.Refusals.SaidLaws.{answered}
use Rattle.rules.proofs.Keeping.Twins.{lost_most}
use Rattle.rules.proofs.Twins.TwinLaws.{length_twins, shows_loss}
use Rattle.rules.proofs.Twins.TwinReasons.{reason_exactly}
use Rattle.rules.proofs.Twins.TwinTable.{twins_made, twins_columns}

-- what is shown is that of the deck's plan, which loses, and for which there is room
record OfPlan (room : ℕ) (deck : List ℕ) (x : Shown) : Type 0 where
  p : Plan
  planned : plan_of zone_f deck ≡ fine p
  loses : keeps p ≡ false
  roomy : length (twins p) ≤ room
  is : shown p ≡ x

of_plan : (room : ℕ) (deck : List ℕ) (x : Shown) → twins_into room deck ≡ fine x → OfPlan room deck x
unfolding twins_into plan
of_plan room deck x e =
    let s = bind_fine (plan_of zone_f deck) _ x e in
    let t = then_fine (unless (not (keeps s.0)) 16 0) _ x s.2 in
    let u = then_fine (unless (leb (length (twins s.0)) room) 15 (length (twins s.0))) _ x t.1 in
    record {
      p = s.0;
      planned = s.1;
      loses = not-true (keeps s.0) (unless_fine _ 16 0 t.0);
      roomy = leb-true _ room (unless_fine _ 15 _ u.0);
      is = fine_same _ x u.1;
    }

module _ (deck before : List ℕ) where
  told_of : (p : Plan) → plan_of zone_f deck ≡ fine p → keeps p ≡ false → Told deck before (twins_answer (fine (shown p))) (twins_after before (fine (shown p)))
  unfolding twins
  told_of p e k =
      let ok = accepted zone_f deck p e in
      let z : p.zone < 16 = rw (zone_of zone_f deck p e) (omega arith) in
      record {
        p = p;
        asks = plan_asks zone_f deck Done p e;
        lost = lost_at p;
        r = first_twin p;
        s = second_twin p;
        shows = shows_loss p z ok k;
        reason = reason_exactly p z ok (lost_most p);
        bytes = length_twins p;
        front = take_at (twins p) (drop (length (twins p)) before) (length (twins p)) refl;
        rest = drop_at (twins p) (drop (length (twins p)) before) (length (twins p)) refl;
      }

  says_of : (x : Answer Shown) → twins_into (length before) deck ≡ x → Answered (RowTwins zone_f deck (length before)) deck (refusal_of x) (place_of x) (column_of x)
      → (refusal_of x ≡ 0 → (y : Shown) × (x ≡ fine y)) → TwinsSays deck before (twins_answer x) (twins_after before x)
  says_of (fine x) d a h =
      let w = of_plan (length before) deck x d in
      subst (λ (y : Shown). TwinsSays deck before (twins_answer (fine y)) (twins_after before (fine y))) w.is (
      record {
        table = a;
        size = omega (arith, length-append (twins w.p) (drop (length (twins w.p)) before), length-drop (length (twins w.p)) before, w.roomy);
        refused = λ n. absurd (n refl);
        finished = λ z. told_of w.p w.planned w.loses;
      })
  says_of (refuse r) d a h = record { table = a; size = refl; refused = λ n. (refl, refl, refl); finished = λ z. let w = h z in absurd (not_fine r w.0 w.1) }

  pub twins_says : TwinsSays deck before (twins_answer (twins_into (length before) deck)) (twins_after before (twins_into (length before) deck))
  twins_says =
      let room = length before in
      let x = twins_into room deck in
      let a = answered (RowTwins zone_f deck room) deck x (twins_columns deck room) (twins_made deck room) (λ p r. r) in
      says_of x refl a (λ z. (twins_made deck room).1 (a.none.0 z))
