-- Two reels walked in step: the first record apart of all is that of those that are left, from this number on. Each turn takes one record off both sides, where the two
-- agree; where one side has none left, the number is told by the other.
use mathlib.Core.Path.{◌≡◌, refl, ap, ap₂, sym, ◌∙◌, subst}
use mathlib.Core.Bool.{Bool, true, false, cond}
use mathlib.Core.List.{List, [], ◌∷◌, map}
use Prim.Native.Nat.{ℕ, zero, suc, ◌+◌, ◌-◌, ◌≤◌}
use native.Mathlib.Omega.{arith}
use lib.ListN.{length, take, drop}
use lib.Seq.{slice}
use Rattle.rules.specs.Base.{is_empty, joined}
use Rattle.rules.specs.Plan.{Plan, selects, record_length}
use Rattle.rules.specs.Blocks.{taken_from}
use Rattle.rules.specs.Output.{out_record}
use Rattle.rules.specs.Judge.{under_b, agrees, first_apart}
use Rattle.rules.proofs.Reel.Bounds.{reel_most}
use Rattle.rules.proofs.Blocks.BlockSizes.{least_selects}
use Rattle.rules.proofs.Blocks.TakenLaws.{taken_first}
use Rattle.terms.specs.declared.Task.{Task}
use Rattle.pieces.specs.declared.Form.{Form}
use Rattle.walks.specs.declared.Walk.{Walk}
use Rattle.walks.specs.declared.RecordRead.{RecordRead}
use Rattle.std.specs.Prelude.{Option, Some, None}
use Rattle.walks.specs.Marks.{marked_all, bytes_of}
use Rattle.walks.specs.Promise.{Good, Walks, Sound, Standing, Passed, bytes_left, RecordTold, WalkTaken}
use Rattle.walks.proofs.MarksLaws.{all_records}
use Rattle.walks.proofs.PromiseLaws.{lent, lent_length, passed, ended}
use Rattle.tasks.specs.Promise.{form_of, form_under}
use Rattle.tasks.proofs.LengthLaws.{form_given, form_judged}
use Rattle.checks.specs.Promise.{PlanGiven}
use Rattle.span_pairs.specs.Promise.{number_of}
use Rattle.pairs.specs.Promise.{Comparable, AgreesAs, BothRead, Lacks, ApartAt}

-- a number from 1 on is there
some_number : (n m : ℕ) → 1 ≤ n → n ≡ m → Some n ≡ number_of m
some_number n zero l e = absurd (omega arith)
some_number n (suc m) l e = ap Some e

-- ---- the search

-- of all pairs of records, those that are left are compared in the same way, from this number on
record Pairs (p : Plan) (ours theirs : List ℕ) (recs others : List (List (List ℕ))) (w v : Walk) (number : ℕ) : Type 0 where
  rest : List (Bool × List ℕ)
  walks : Walks p ours w rest
  rest' : List (Bool × List ℕ)
  walks' : Walks (under_b p) theirs v rest'
  same :
      first_apart (agrees p) 1 (map (out_record p) (joined (taken_from p.first recs))) (joined others)
      ≡ first_apart (agrees p) number (map (out_record p) (map bytes_of rest)) (map bytes_of rest')

pub record Pairing (task : Task) (fields ours theirs : List ℕ) (w v : Walk) (number : ℕ) : Type 0 where
  low : 1 ≤ number
  few : number + bytes_left ours w ≤ 1 + length ours
  pairs : (p : Plan) (recs others : List (List (List ℕ))) → PlanGiven task fields p → Good p ours recs → Good (under_b p) theirs others → Pairs p ours theirs recs others w v number

module _ {task : Task} {fields ours theirs : List ℕ} {form under : Form} (f : form ≡ form_of task) (u : under ≡ form_under task) (y : BothRead task fields ours theirs) where
  pub ours_sound : Sound form ours
  ours_sound = record { p = y.p; recs = y.recs; form_is = form_given y.given.is f; good = y.good }

  pub theirs_sound : Sound under theirs
  theirs_sound = record { p = under_b y.p; recs = y.others; form_is = form_judged y.given.is u; good = y.good' }

  pub ours_short : length ours ≤ 65536
  ours_short = reel_most ours y.good.reel

  pub theirs_short : length theirs ≤ 65536
  theirs_short = reel_most theirs y.good'.reel

  -- before the first turn
  pub pair_start : {w v : Walk} → WalkTaken form ours task.first w → WalkTaken under theirs 1 v → Pairing task fields ours theirs w v 1
  unfolding bytes_left
  pair_start {w} {v} a b =
      record {
        low = omega arith;
        few = omega arith;
        pairs = λ p recs others x g h.
            record {
              rest = marked_all (taken_from p.first recs);
              walks = subst (λ (n : ℕ). Walks p ours w (marked_all (taken_from n recs))) x.is.first (a.all p recs (form_given x.is f) g);
              rest' = marked_all (taken_from 1 others);
              walks' = b.all (under_b p) others (form_judged x.is u) h;
              same = ap₂ (λ (xs ys : List (List ℕ)). first_apart (agrees p) 1 (map (out_record p) xs) ys) (sym (all_records (taken_from p.first recs))) (sym (all_records (taken_from 1 others) ∙ ap joined (taken_first others)));
            };
      }

  -- both walks stand in their reels
  module _ {w v : Walk} {number : ℕ} (k : Pairing task fields ours theirs w v number) where
    now : Pairs y.p ours theirs y.recs y.others w v number
    now = k.pairs y.p y.recs y.others y.given y.good y.good'

    pub ours_stands : Standing form ours w
    ours_stands = record { p = y.p; rest = now.rest; form_is = form_given y.given.is f; walks = now.walks }

    pub theirs_stands : Standing under theirs v
    theirs_stands = record { p = under_b y.p; rest = now.rest'; form_is = form_judged y.given.is u; walks = now.walks' }

    pub pair_few : number ≤ 65537
    pair_few = omega (arith, k.few, ours_short)

    -- ---- ours has a further record

    module _ {mine : RecordRead} (t : RecordTold form ours w (Some mine)) where
      abbrev one : List ℕ
      one = take (mine.start + mine.length - mine.start) (drop mine.start ours)

      is_long : {p : Plan} {rest : List (Bool × List ℕ)} → Passed p ours rest mine → selects p.mode ≡ true → record_length p.input ≤ length one
      is_long {p} q s = omega (arith, q.long, least_selects p s, ap length (lent t), lent_length t)

      pub pair_comparable : (n : ℕ) → 4096 ≡ n → Comparable task fields one n
      pair_comparable n q =
          record {
            p = y.p;
            given = y.given;
            long = is_long (passed t (form_given y.given.is f) now.walks);
            short = omega (arith, ap length (lent t), lent_length t, t.lies.ends, ours_short);
            roomy = omega arith;
          }

      -- theirs has none
      pub pair_lacks : RecordTold under theirs v None → ApartAt task fields ours theirs (Some number)
      pair_lacks t' =
          record {
            is = λ p recs others x g h.
                let q = k.pairs p recs others x g h in
                let a = passed t (form_given x.is f) q.walks in
                some_number _ _ k.low (sym (q.same
                ∙ ap₂ (λ (xs ys : List (Bool × List ℕ)). first_apart (agrees p) number (map (out_record p) (map bytes_of xs)) (map bytes_of ys)) a.is (ended t' (form_judged x.is u) q.walks')));
          }

      -- theirs has one too
      module _ {other : RecordRead} (t' : RecordTold under theirs v (Some other)) where
        abbrev like : List ℕ
        like = take (other.start + other.length - other.start) (drop other.start theirs)

        turn : (b : Bool) → AgreesAs task fields one like b → (p : Plan) (recs others : List (List (List ℕ))) (x : PlanGiven task fields p) (q : Pairs p ours theirs recs others w v number)
            (g : Passed p ours q.rest mine) (h : Passed (under_b p) theirs q.rest' other)
            → first_apart (agrees p) 1 (map (out_record p) (joined (taken_from p.first recs))) (joined others)
            ≡ cond b (first_apart (agrees p) (suc number) (map (out_record p) (map bytes_of g.more)) (map bytes_of h.more)) number
        turn b d p recs others x q g h =
            let z : b ≡ agrees p (out_record p (slice mine.start (mine.start + mine.length) ours)) (slice other.start (other.start + other.length) theirs)
            = d.is p x (is_long g) ∙ ap₂ (λ (r s : List ℕ). agrees p (out_record p r) s) (lent t) (lent t') in
            q.same
            ∙ ap₂ (λ (xs ys : List (Bool × List ℕ)). first_apart (agrees p) number (map (out_record p) (map bytes_of xs)) (map bytes_of ys)) g.is h.is
            ∙ ap (λ (c : Bool). cond c (first_apart (agrees p) (suc number) (map (out_record p) (map bytes_of g.more)) (map bytes_of h.more)) number) (sym z)

        pub pair_stop : (b : Bool) → AgreesAs task fields one like b → b ≡ false → ApartAt task fields ours theirs (Some number)
        pair_stop b d n =
            record {
              is = λ p recs others x g h.
                  let q = k.pairs p recs others x g h in
                  let a = passed t (form_given x.is f) q.walks in
                  let c = passed t' (form_judged x.is u) q.walks' in
                  some_number _ _ k.low
                  (sym (turn b d p recs others x q a c ∙ ap (λ (z : Bool). cond z (first_apart (agrees p) (suc number) (map (out_record p) (map bytes_of a.more)) (map bytes_of c.more)) number) n));
            }

        pub pair_more : (b : Bool) → AgreesAs task fields one like b → b ≡ true → Pairing task fields ours theirs mine.next other.next (number + 1)
        pair_more b d n =
            record {
              low = omega (arith, k.low);
              few = omega (arith, k.few, t.lies.less);
              pairs = λ p recs others x g h.
                  let q = k.pairs p recs others x g h in
                  let a = passed t (form_given x.is f) q.walks in
                  let c = passed t' (form_judged x.is u) q.walks' in
                  let later : ℕ → ℕ = λ i. first_apart (agrees p) i (map (out_record p) (map bytes_of a.more)) (map bytes_of c.more) in
                  record {
                    rest = a.more;
                    walks = a.walks;
                    rest' = c.more;
                    walks' = c.walks;
                    same = turn b d p recs others x q a c ∙ ap (λ (z : Bool). cond z (later (suc number)) number) n ∙ ap later (let z : suc number ≡ number + 1 = omega arith in z);
                  };
            }

    -- ---- ours has none

    pub pair_end : RecordTold form ours w None → (n : Option ℕ) → Lacks under theirs v number n → ApartAt task fields ours theirs n
    pair_end t n l =
        record {
          is = λ p recs others x g h.
              let q = k.pairs p recs others x g h in
              l.is (under_b p) q.rest' (form_judged x.is u) q.walks'
              ∙ empty (agrees p) q.rest'
              ∙ ap number_of (sym (q.same ∙ ap (λ (xs : List (Bool × List ℕ)). first_apart (agrees p) number (map (out_record p) (map bytes_of xs)) (map bytes_of q.rest')) (ended t (form_given x.is f) q.walks)));
        }
      where
        empty : (a : List ℕ → List ℕ → Bool) (rest : List (Bool × List ℕ)) → cond (is_empty rest) None (Some number) ≡ number_of (first_apart a number [] (map bytes_of rest))
        empty a [] = refl
        empty a (m ∷ rest) = some_number _ _ k.low refl

-- ---- behind our last record

module _ {form : Form} {theirs : List ℕ} {v : Walk} {number : ℕ} where
  pub lacks_one : {read : RecordRead} → RecordTold form theirs v (Some read) → Lacks form theirs v number (Some number)
  lacks_one t = record { is = λ q rest f w. sym (ap (λ (xs : List (Bool × List ℕ)). cond (is_empty xs) None (Some number)) (passed t f w).is) }

  pub lacks_none : RecordTold form theirs v None → Lacks form theirs v number None
  lacks_none t = record { is = λ q rest f w. sym (ap (λ (xs : List (Bool × List ℕ)). cond (is_empty xs) None (Some number)) (ended t f w)) }

-- ---- one outcome only

pub apart_only_one : (task : Task) (fields ours theirs : List ℕ) → BothRead task fields ours theirs → {n m : Option ℕ} → ApartAt task fields ours theirs n → ApartAt task fields ours theirs m → n ≡ m
apart_only_one task fields ours theirs y a b = a.is y.p y.recs y.others y.given y.good y.good' ∙ sym (b.is y.p y.recs y.others y.given y.good y.good')
