-- The two records of a plan that loses, half by half and byte by byte: which value a half has, that a part holds a record once each of its bytes is the
-- record's, and that the second record, and for the tail a byte 00, stand behind the first. By cases on whether a half is the raised one, and
-- by where the parts lie.
use mathlib.Core.Path.{◌≡◌, ap, ap₂, sym, ◌∙◌}
use mathlib.Core.List.{List, [], ◌∷◌, ◌++◌, append-nil, append_assoc}
use Prim.Native.Nat.{ℕ, suc, ◌+◌, ◌-◌, ◌*◌, ◌≤◌, ◌<◌}
use native.Mathlib.Decide.{ℕ_discrete}
use native.Mathlib.Numerals.{add-one}
use native.Mathlib.Omega.{arith}
use lib.ListN.{length, take, drop, get_or, set, length-append}
use lib.Seq.{length-take-le, length_front, ext_get_or, take_at, drop_at, drop-drop, drop-cons, set_at, append_snoc}
use borrow.Author.Tests.{eq-eqb, ne_eqb}
use borrow.Rule.Slice.PartMut.{put_mid, same_len_mid, mid_len}
use Rattle.rules.specs.Halves.{bytes}
use Rattle.rules.specs.Twins.{listed}
use Rattle.rules.proofs.Halves.ListedLaws.{length_bytes_listed, get_d_bytes_listed}
use Rattle.twin_records.specs.Promise.{raised_in, Values, needed_for, twin_records, WrittenInto}

-- ---- a half

module _ (values : List ℕ) (h i : ℕ) where
  pub raised_here : i ≡ h → get_or values i 0 + 1 ≡ raised_in values h i
  unfolding raised_in
  raised_here e = rw (eq-eqb i h e) (add-one (get_or values i 0))

  pub raised_other : (i ≡ h → ⊥) → get_or values i 0 ≡ raised_in values h i
  unfolding raised_in
  raised_other n = rw (ne_eqb i h n)

  -- raised, a value is no less
  plain_most : get_or values i 0 ≤ raised_in values h i
  plain_most = elim (ℕ_discrete i h) [ yes e ↦ omega (arith, raised_here e) | no n ↦ omega (arith, raised_other n) ]

-- so the values are halves also where none of them is raised, as in the first record
pub plain_values : (values : List ℕ) (h many : ℕ) → Values values h many → Values values many many
plain_values values h many ok =
    record { few = ok.few; halves = λ i l. omega (arith, raised_other values many i (λ e. omega arith), plain_most values h i, ok.halves i l) }

pub fewer_values : (values : List ℕ) (h many fewer : ℕ) → fewer ≤ many → Values values h many → Values values h fewer
fewer_values values h many fewer l ok = record { few = omega (arith, ok.few); halves = λ i m. ok.halves i (omega arith) }

-- ---- a record

-- a part each of whose bytes is made of these halves is all of the record
pub filled : (half : ℕ → ℕ) (old part : List ℕ) → length part ≡ length old → ((j : ℕ) → j < length old → get_or part j 0 ≡ 16 * half (2 * j) + half (2 * j + 1))
    → part ≡ bytes (listed half 0 (2 * length old))
filled half old part same each =
    ext_get_or 0 part (bytes (listed half 0 (2 * length old))) (same ∙ sym (length_bytes_listed half (length old)))
    (λ j l. each j (omega (arith, same)) ∙ sym (get_d_bytes_listed half (length old) j (omega (arith, same))))

-- ---- both records

module _ (n lost : ℕ) where
  pub needed_tail : lost ≡ 2 * n → needed_for n lost ≡ 2 * n + 1
  unfolding needed_for
  needed_tail e = rw (eq-eqb lost (2 * n) e)

  needed_other : (lost ≡ 2 * n → ⊥) → needed_for n lost ≡ 2 * n
  unfolding needed_for
  needed_other q = rw (ne_eqb lost (2 * n) q)

  pub needed_least : 2 * n ≤ needed_for n lost
  needed_least = elim (ℕ_discrete lost (2 * n)) [ yes e ↦ omega (arith, needed_tail e) | no q ↦ omega (arith, needed_other q) ]

-- both are put into the front of the lent output, one behind the other
pub length_front_part : (n : ℕ) (old : List ℕ) → 2 * n ≤ length old → length (take n old) ≡ n
length_front_part n old room = length-take-le n old (omega arith)

module _ (values : List ℕ) (n lost : ℕ) (old : List ℕ) (room : 2 * n ≤ length old)
    (first : List ℕ) (one : first ≡ bytes (listed (raised_in values (2 * n)) 0 (2 * length (take n old)))) where
  first_is_lem : first ≡ bytes (listed (raised_in values (2 * n)) 0 (2 * n))
  first_is_lem = one ∙ ap (λ (k : ℕ). bytes (listed (raised_in values (2 * n)) 0 (2 * k))) (length_front_part n old room)

  length_one : length first ≡ n
  length_one = ap length first_is_lem ∙ length_bytes_listed (raised_in values (2 * n)) n

  pub length_after_one : length (first ++ drop n old) ≡ length old
  length_after_one = length_front old first n (length_one ∙ sym (length_front_part n old room))

  pub length_next_part : length (take (2 * n - n) (drop n (first ++ drop n old))) ≡ n
  length_next_part = mid_len n (2 * n) (first ++ drop n old) (omega (arith, length_after_one)) ∙ omega arith

  module _ (second : List ℕ) (two : second ≡ bytes (listed (raised_in values lost) 0 (2 * length (take (2 * n - n) (drop n (first ++ drop n old)))))) where
    second_is : second ≡ bytes (listed (raised_in values lost) 0 (2 * n))
    second_is = two ∙ ap (λ (k : ℕ). bytes (listed (raised_in values lost) 0 (2 * k))) length_next_part

    length_two : length second ≡ n
    length_two = ap length second_is ∙ length_bytes_listed (raised_in values lost) n

    length_both : length (first ++ second) ≡ 2 * n
    length_both = length-append first second ∙ omega (arith, length_one, length_two)

    pub length_after_both : length (put_mid n (2 * n - n) (first ++ drop n old) second) ≡ length old
    length_after_both = same_len_mid n (2 * n - n) (first ++ drop n old) second (length_two ∙ sym length_next_part) ∙ length_after_one

    both_stand : put_mid n (2 * n - n) (first ++ drop n old) second ≡ first ++ second ++ drop (2 * n) old
    both_stand =
        ap₂ (λ (x y : List ℕ). x ++ (second ++ drop (2 * n - n) y)) (take_at first (drop n old) n length_one) (drop_at first (drop n old) n length_one)
        ∙ ap (λ (x : List ℕ). first ++ (second ++ x)) (drop-drop (2 * n - n) n old ∙ ap (λ (k : ℕ). drop k old) (let z : n + (2 * n - n) ≡ 2 * n = omega arith in z))
        ∙ sym (append_assoc first second (drop (2 * n) old))

    pub written_other : (lost ≡ 2 * n → ⊥) → WrittenInto (twin_records values n lost) old (put_mid n (2 * n - n) (first ++ drop n old) second)
    unfolding twin_records
    written_other q =
        both_stand ∙ rw (ne_eqb lost (2 * n) q, ← first_is_lem, ← second_is, append-nil) (ap (λ (k : ℕ). first ++ second ++ drop k old) (sym length_both))

    -- 00 is put behind the second
    pub written_tail : lost ≡ 2 * n → 2 * n < length old → WrittenInto (twin_records values n lost) old (set (put_mid n (2 * n - n) (first ++ drop n old) second) (2 * n) 0)
    unfolding twin_records
    written_tail e h =
        ap (λ (x : List ℕ). set x (2 * n) 0) (both_stand ∙ ap (λ (x : List ℕ). first ++ second ++ x) (drop-cons old (2 * n) 0 h))
        ∙ set_at (first ++ second) (get_or old (2 * n) 0) (drop (suc (2 * n)) old) 0 (2 * n) length_both
        ∙ sym (append_snoc (first ++ second) 0 (drop (suc (2 * n)) old))
        ∙ rw (eq-eqb lost (2 * n) e, ← first_is_lem, ← second_is)
        (ap (λ (k : ℕ). first ++ second ++ (0 ∷ []) ++ drop k old)
        (let z : suc (2 * n) ≡ length (first ++ second ++ (0 ∷ [])) = omega (arith, length-append (first ++ second) (0 ∷ []), length_both) in z))

-- ---- the promises allow one outcome alone

pub only_one_needed : (n lost r r' : ℕ) → r ≡ needed_for n lost → r' ≡ needed_for n lost → r ≡ r'
only_one_needed n lost r r' e e' = e ∙ sym e'

pub only_one_twins : (values : List ℕ) (n lost : ℕ) (before after after' : List ℕ)
    → WrittenInto (twin_records values n lost) before after → WrittenInto (twin_records values n lost) before after' → after ≡ after'
only_one_twins values n lost before after after' w w' = w ∙ sym w'
