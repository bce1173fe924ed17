-- The tests of limits, combinations and positions hold exactly if the paper's sentences do: each test is taken apart into its sentences.
use mathlib.Core.Path.{◌≡◌, refl, ap, ap₂, ◌∙◌, subst}
use mathlib.Core.Logic.{◌↔◌}
use mathlib.Core.Bool.{Bool, not, true, false, cond, ◌&&◌, false≢true}
use mathlib.Core.List.{List, [], ◌∷◌, ◌++◌}
use Prim.Native.Nat.{ℕ, ◌+◌, ◌-◌}
use native.Mathlib.Omega.{arith}
use lib.Dec.{leb, eqb}
use borrow.Author.Tests.{leb-true, eqb-true, not-true, le-leb, eq-eqb}
use Rattle.rules.specs.Base.{◌⇒◌, within}
use Rattle.rules.specs.Places.{All, no_more, also}
use Rattle.rules.specs.Grammar.{Mode, tc, tf, tr, trf, Format, ff, fv, fu, fsp, Size, two, one, Input, plain, keyed, CardField}
use Rattle.rules.specs.Halves.{Kind, copy, pack, unpack, input_size, output_size, Field}
use Rattle.rules.specs.Words.{Limit, limit, within_limits}
use Rattle.rules.specs.Asked.{Utility, size_numbers, input_numbers, kind_numbers, utility_limits, field_limits}
use Rattle.rules.specs.Plan.{Plan, is_tc, is_tf, is_tr, is_ff, is_fv, is_fu, is_fs, selects, numbers, wanted, whole, equal, roomy, combinations, sound, key_fits, inside}
use Rattle.rules.specs.Rows.{Within, SizeWithin, InputWithin, UtilityWithin, KindWithin, FieldWithin, IsTwo, two_numbers, IsOne, one_number, Required, IsKeyed, with_key, KeyFits, Inside}
use Rattle.rules.proofs.Base.Tests.{and_left, and_right, and_both, asked, asks, within_low, within_high, within_of, every_all, all_every}
use Rattle.rules.proofs.Base.AllLaws.{all_append, all_head, all_tail, all_left, all_right}

-- ---- limits

within_exactly : (a b n : ℕ) → (within a b n ≡ true) ↔ Within a b n
within_exactly a b n = (λ e. (within_low a b n e, within_high a b n e), λ w. within_of a b n w.0 w.1)

pub limit_exactly : (l : Limit) → (within_limits l ≡ true) ↔ Within l.least l.most l.value
limit_exactly l = within_exactly l.least l.most l.value

-- numbers within their limits
abbrev pub Limited : List Limit → Type 0
Limited ls = All (λ l. within_limits l ≡ true) ls

one_within : (l : Limit) → Limited (l ∷ []) ↔ Within l.least l.most l.value
one_within l = (λ a. (limit_exactly l).0 (all_head a), λ w. also ((limit_exactly l).1 w) no_more)

two_within : (l m : Limit) → Limited (l ∷ m ∷ []) ↔ (Within l.least l.most l.value × Within m.least m.most m.value)
two_within l m = (
  λ a. ((limit_exactly l).0 (all_head a), (one_within m).0 (all_tail a)),
  λ w. also ((limit_exactly l).1 w.0) ((one_within m).1 w.1),
)

size_within : (f : Format) (s : Size) → Limited (size_numbers f s) ↔ SizeWithin f s
size_within f (two n m) = two_within (limit 1 4096 n) (limit 1 32760 m)
size_within ff (one g) =
    (λ a. ((one_within (limit 1 32760 g)).0 a, λ q. let z : ◌≡◌ {A = ℕ} 0 1 = cc in absurd (omega arith), λ q. let z : ◌≡◌ {A = ℕ} 0 1 = cc in absurd (omega arith)), λ w. (one_within (limit 1 32760 g)).1 w.0)
size_within fu (one g) =
    (λ a. ((one_within (limit 1 32760 g)).0 a, λ q. let z : ◌≡◌ {A = ℕ} 0 1 = cc in absurd (omega arith), λ q. let z : ◌≡◌ {A = ℕ} 0 1 = cc in absurd (omega arith)), λ w. (one_within (limit 1 32760 g)).1 w.0)
size_within fv (one g) = (
  λ a. let l = (one_within (limit 9 32760 g)).0 a in ((omega (arith, l.0), l.1), λ q. l.0, λ q. l.0),
  λ w. (one_within (limit 9 32760 g)).1 (w.1 refl, w.0.1),
)
size_within fsp (one g) = (
  λ a. let l = (one_within (limit 9 32760 g)).0 a in ((omega (arith, l.0), l.1), λ q. l.0, λ q. l.0),
  λ w. (one_within (limit 9 32760 g)).1 (w.2 refl, w.0.1),
)

-- what K leaves of 4,096 is D's limit
input_within : (f : Format) (i : Input) → Limited (input_numbers f i) ↔ InputWithin f i
input_within f (plain s) = size_within f s
input_within f (keyed k d) =
    let both = two_within (limit 1 4096 k) (limit 1 (4096 - k) d) in (
      λ a. let w = both.0 a in (w.0, (w.1.0, omega (arith, w.1.1)), omega (arith, w.0.1, w.1.0, w.1.1)),
      λ w. both.1 (w.0, (w.1.0, omega (arith, w.2))),
    )

pub utility_within : (u : Utility) → (utility_limits u ≡ true) ↔ UtilityWithin u
unfolding utility_limits
utility_within u =
    let a = input_numbers u.format u.input in
    let b = size_numbers u.format u.output in
    let r = limit 1 65536 u.first in (
      λ e. let all = every_all within_limits (a ++ (b ++ (r ∷ []))) e in
          let more = all_right a (b ++ (r ∷ [])) all in record {
            input = (input_within u.format u.input).0 (all_left a (b ++ (r ∷ [])) all);
            output = (size_within u.format u.output).0 (all_left b (r ∷ []) more);
            first = (one_within r).0 (all_right b (r ∷ []) more);
          },
      λ w. all_every within_limits (all_append ((input_within u.format u.input).1 w.input) (all_append ((size_within u.format u.output).1 w.output) ((one_within r).1 w.first))),
    )

kind_within : (k : Kind) → Limited (kind_numbers k) ↔ KindWithin k
kind_within (copy s) = one_within (limit 1 4096 s)
kind_within (pack n m) = two_within (limit 1 16 n) (limit 1 16 m)
kind_within (unpack n m) = two_within (limit 1 16 n) (limit 1 16 m)

pub field_within : (f : CardField) → (field_limits f ≡ true) ↔ FieldWithin f.field
unfolding field_limits
field_within f =
    let r = limit 1 4096 f.field.r in
    let k = kind_numbers f.field.kind in
    let t = limit 1 4096 f.field.t in (
      λ e. let all = every_all within_limits (r ∷ (k ++ (t ∷ []))) e in record {
        r = (limit_exactly r).0 (all_head all);
        kind = (kind_within f.field.kind).0 (all_left k (t ∷ []) (all_tail all));
        t = (one_within t).0 (all_right k (t ∷ []) (all_tail all));
      },
      λ w. all_every within_limits (also {x = r} ((limit_exactly r).1 w.r) (all_append ((kind_within f.field.kind).1 w.kind) ((one_within t).1 w.t))),
    )

pub inside_exactly : (a b : ℕ) (f : Field) → (inside a b f ≡ true) ↔ Inside a b f
unfolding inside
inside_exactly a b f =
    let i = f.r + input_size f.kind - 1 in
    let o = f.t + output_size f.kind - 1 in (
      λ e. record { input = leb-true i a (and_left (leb i a) _ e); output = leb-true o b (and_right (leb i a) _ e) },
      λ w. and_both (le-leb i a w.input) (le-leb o b w.output),
    )

-- ---- combinations

pub is_tc_lem : (t : Mode) → is_tc t ≡ true → t ≡ tc
is_tc_lem tc e = refl
is_tc_lem tf e = absurd (false≢true e)
is_tc_lem tr e = absurd (false≢true e)
is_tc_lem trf e = absurd (false≢true e)

pub is_tf_lem : (t : Mode) → is_tf t ≡ true → t ≡ tf
is_tf_lem tc e = absurd (false≢true e)
is_tf_lem tf e = refl
is_tf_lem tr e = absurd (false≢true e)
is_tf_lem trf e = absurd (false≢true e)

pub is_tr_lem : (t : Mode) → is_tr t ≡ true → t ≡ tr
is_tr_lem tc e = absurd (false≢true e)
is_tr_lem tf e = absurd (false≢true e)
is_tr_lem tr e = refl
is_tr_lem trf e = absurd (false≢true e)

pub is_ff_lem : (f : Format) → is_ff f ≡ true → f ≡ ff
is_ff_lem ff e = refl
is_ff_lem fv e = absurd (false≢true e)
is_ff_lem fu e = absurd (false≢true e)
is_ff_lem fsp e = absurd (false≢true e)

pub is_fv_lem : (f : Format) → is_fv f ≡ true → f ≡ fv
is_fv_lem ff e = absurd (false≢true e)
is_fv_lem fv e = refl
is_fv_lem fu e = absurd (false≢true e)
is_fv_lem fsp e = absurd (false≢true e)

pub is_fu_lem : (f : Format) → is_fu f ≡ true → f ≡ fu
is_fu_lem ff e = absurd (false≢true e)
is_fu_lem fv e = absurd (false≢true e)
is_fu_lem fu e = refl
is_fu_lem fsp e = absurd (false≢true e)

pub is_fs_lem : (f : Format) → is_fs f ≡ true → f ≡ fsp
is_fs_lem ff e = absurd (false≢true e)
is_fs_lem fv e = absurd (false≢true e)
is_fs_lem fu e = absurd (false≢true e)
is_fs_lem fsp e = refl

pub two_of : (s : Size) → numbers s ≡ 2 → IsTwo s
two_of (two n m) e = two_numbers
two_of (one g) e = absurd (omega arith)

pub one_of : (s : Size) → numbers s ≡ 1 → IsOne s
one_of (two n m) e = absurd (omega arith)
one_of (one g) e = one_number

pub of_two : {s : Size} → IsTwo s → numbers s ≡ 2
of_two two_numbers = refl

pub of_one : {s : Size} → IsOne s → numbers s ≡ 1
of_one one_number = refl

pub equal_same : (a b : Size) → equal a b ≡ true → a ≡ b
equal_same (two n m) (two n' m') e = ap₂ two (eqb-true n n' (and_left (eqb n n') _ e)) (eqb-true m m' (and_right (eqb n n') _ e))
equal_same (two n m) (one g) e = absurd (false≢true e)
equal_same (one g) (two n m) e = absurd (false≢true e)
equal_same (one g) (one g') e = ap one (eqb-true g g' e)

pub equal_refl : (a : Size) → equal a a ≡ true
equal_refl (two n m) = rw (eq-eqb n n refl, eq-eqb m m refl)
equal_refl (one g) = eq-eqb g g refl

module _ (t : Mode) (f : Format) (a b : Size) (first : ℕ) (any_fs : Bool) where
  abbrev Combinations : Type 0
  Combinations = All (λ holds. holds ≡ true) (combinations t f a b first any_fs)

  -- each line of the test gives the sentences that it stands for
  required_of : Combinations → Required t f a b first × (selects t ≡ true → any_fs ≡ true)
  unfolding combinations
  required_of c1 =
      let c0 = all_tail c1 in
      let c2 = all_tail c0 in
      let c3 = all_tail c2 in
      let c4 = all_tail c3 in
      let c5 = all_tail c4 in
      let c6 = all_tail c5 in
      let c7 = all_tail c6 in
      let c8 = all_tail c7 in
      let c9 = all_tail c8 in
      let count_a = eqb-true (numbers a) (wanted t f) (and_left (eqb (numbers a) (wanted t f)) _ (all_head c3)) in
      let count_b = eqb-true (numbers b) (wanted t f) (and_right (eqb (numbers a) (wanted t f)) _ (all_head c3)) in
      let counts : (k : ℕ) → wanted t f ≡ k → (numbers a ≡ k) × (numbers b ≡ k) = λ k e. (count_a ∙ e, count_b ∙ e) in
      let fv_wanted : (k : Bool) → f ≡ fv → selects t ≡ k → wanted t f ≡ cond k 2 1 = λ k q s. rw (q, s) in (
        record {
          fu_with_tc = λ q. is_tc_lem t (asked (is_fu f) _ (all_head c1) (ap is_fu q));
          fs_with = λ q. not-true (selects t) (asked (is_fs f) _ (all_head c0) (ap is_fs q));
          tc_with_r1 = λ q. eqb-true first 1 (asked (is_tc t) _ (all_head c2) (ap is_tc q));
          ff_two = λ q. let w = counts 2 (ap (wanted t) q) in (two_of a w.0, two_of b w.1);
          fu_one = λ q. let w = counts 1 (ap (wanted t) q) in (one_of a w.0, one_of b w.1);
          fs_one = λ q. let w = counts 1 (ap (wanted t) q) in (one_of a w.0, one_of b w.1);
          fv_two = λ q s. let w = counts 2 (fv_wanted true q s) in (two_of a w.0, two_of b w.1);
          fv_one = λ q s. let w = counts 1 (fv_wanted false q s) in (one_of a w.0, one_of b w.1);
          ff_multiple = λ q. let w = asked (is_ff f) _ (all_head c4) (ap is_ff q) in (eqb-true _ 0 (and_left (whole a) _ w), eqb-true _ 0 (and_right (whole a) _ w));
          tc_equal = λ q. equal_same a b (asked (is_tc t) _ (all_head c5) (ap is_tc q));
          tr_equal = λ q k. eqb-true _ _ (asked (is_tr t && is_ff f) _ (all_head c6) (and_both (ap is_tr q) (ap is_ff k)));
          tf_equal = λ q k. eqb-true _ _ (asked (is_tf t && is_ff f) _ (all_head c7) (and_both (ap is_tf q) (ap is_ff k)));
          fv_room_a = λ q x. leb-true _ _ (asked (is_fv f && eqb (numbers a) 2) _ (and_left ((is_fv f && eqb (numbers a) 2) ⇒ roomy a) _ (all_head c8)) (and_both (ap is_fv q) (eq-eqb (numbers a) 2 (of_two x))));
          fv_room_b = λ q x. leb-true _ _ (asked (is_fv f && eqb (numbers b) 2) _ (and_right ((is_fv f && eqb (numbers a) 2) ⇒ roomy a) _ (all_head c8)) (and_both (ap is_fv q) (eq-eqb (numbers b) 2 (of_two x))));
        },
        λ s. asked (selects t) _ (all_head c9) s,
      )

  -- how many numbers the sentences ask for
  counted : Required t f a b first → (g : Format) → f ≡ g → (k : Bool) → selects t ≡ k → (numbers a ≡ wanted t f) × (numbers b ≡ wanted t f)
  counted r ff q k s = let w = r.ff_two q in rw q (of_two w.0, of_two w.1)
  counted r fu q k s = let w = r.fu_one q in rw q (of_one w.0, of_one w.1)
  counted r fsp q k s = let w = r.fs_one q in rw q (of_one w.0, of_one w.1)
  counted r fv q true s = let w = r.fv_two q s in rw (q, s) (of_two w.0, of_two w.1)
  counted r fv q false s = let w = r.fv_one q s in rw (q, s) (of_one w.0, of_one w.1)

  of_required : Required t f a b first → (selects t ≡ true → any_fs ≡ true) → Combinations
  unfolding combinations
  of_required r need =
      let w = counted r f refl (selects t) refl in
      also (asks (is_fu f) _ (λ e. ap is_tc (r.fu_with_tc (is_fu_lem f e))))
      (also (asks (is_fs f) _ (λ e. ap not (r.fs_with (is_fs_lem f e))))
      (also (asks (is_tc t) _ (λ e. eq-eqb first 1 (r.tc_with_r1 (is_tc_lem t e))))
      (also (and_both (eq-eqb (numbers a) (wanted t f) w.0) (eq-eqb (numbers b) (wanted t f) w.1))
      (also (asks (is_ff f) _ (λ e. let m = r.ff_multiple (is_ff_lem f e) in and_both (eq-eqb _ 0 m.0) (eq-eqb _ 0 m.1)))
      (also (asks (is_tc t) _ (λ e. subst (λ (z : Size). equal a z ≡ true) (r.tc_equal (is_tc_lem t e)) (equal_refl a)))
      (also (asks (is_tr t && is_ff f) _ (λ e. eq-eqb _ _ (r.tr_equal (is_tr_lem t (and_left (is_tr t) _ e)) (is_ff_lem f (and_right (is_tr t) _ e)))))
      (also (asks (is_tf t && is_ff f) _ (λ e. eq-eqb _ _ (r.tf_equal (is_tf_lem t (and_left (is_tf t) _ e)) (is_ff_lem f (and_right (is_tf t) _ e)))))
      (also (and_both
      (asks (is_fv f && eqb (numbers a) 2) _ (λ e. le-leb _ _ (r.fv_room_a (is_fv_lem f (and_left (is_fv f) _ e)) (two_of a (eqb-true (numbers a) 2 (and_right (is_fv f) _ e))))))
      (asks (is_fv f && eqb (numbers b) 2) _ (λ e. le-leb _ _ (r.fv_room_b (is_fv_lem f (and_left (is_fv f) _ e)) (two_of b (eqb-true (numbers b) 2 (and_right (is_fv f) _ e)))))))
      (also (asks (selects t) _ need) no_more)))))))))

pub required_exactly : (p : Plan) (any_fs : Bool)
    → (sound p any_fs ≡ true) ↔ (Required p.mode p.format p.input p.output p.first × (selects p.mode ≡ true → any_fs ≡ true))
unfolding sound
required_exactly p any_fs = (
  λ e. required_of p.mode p.format p.input p.output p.first any_fs (every_all (λ holds. holds) (combinations p.mode p.format p.input p.output p.first any_fs) e),
  λ w. all_every (λ holds. holds) (of_required p.mode p.format p.input p.output p.first any_fs w.0 w.1),
)

pub no_keys : (s : Size) → IsKeyed (plain s) → ⊥
no_keys s = elim [ ]

-- keys only in FF with TF or TRF
pub keys_exactly : (t : Mode) (f : Format) (i : Input) → (key_fits t f i ≡ true) ↔ KeyFits t f i
unfolding key_fits
keys_exactly t f (plain s) = (λ e x. absurd (no_keys s x), λ w. refl)
keys_exactly t f (keyed k d) = (
  λ e x. (is_ff_lem f (and_left (is_ff f) _ e), and_right (is_ff f) _ e),
  λ w. let x = w with_key in and_both (ap is_ff x.0) x.1,
)
