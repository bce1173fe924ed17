-- The filling of records of equal length in closed form: each block takes as many records as fit, which is the same number for every block but the last. It holds because a
-- block's size is its number of records times what each takes, so that the limit is passed behind the same number every time.
use mathlib.Core.Path.{◌≡◌, refl, ap, sym, ◌∙◌}
use mathlib.Core.Logic.{◌⊎◌, inl, inr}
use mathlib.Core.Bool.{Bool, true, false}
use mathlib.Core.List.{List, [], ◌∷◌, ◌++◌, map, append-nil, append_assoc}
use Prim.Native.Nat.{ℕ, zero, suc, ◌+◌, ◌-◌, ◌*◌, ◌/◌, ◌≤◌, ◌<◌}
use native.Mathlib.Nat.{suc-mul, zero-mul, one-mul, add-mul, mul-le-mul_right, div-mul-le_self, lt-div-mul-add, le-div_iff_mul-le, div-eq_of_lt, add-div_right}
use native.Mathlib.Omega.{arith}
use lib.Dec.{leb}
use lib.ListN.{length, take, drop, length-take, length-drop}
use lib.Seq.{take-nil, drop-nil, take_all, length-take-le}
use borrow.Author.Tests.{leb-true, leb-false, lt-ltb, le-ltb}
use Rattle.rules.specs.Base.{joined}
use Rattle.rules.specs.Places.{All, no_more, also}
use Rattle.rules.specs.Grammar.{ff}
use Rattle.rules.specs.Reel.{word, offset_words}
use Rattle.rules.specs.Output.{block_of, total, fill, filled}
use Rattle.rules.specs.EvenRecords.{stepped}
use Rattle.rules.proofs.Base.AllLaws.{all_take, all_drop}
use Rattle.rules.proofs.Blocks.BlockLaws.{length_joined}
use Rattle.rules.proofs.Output.FillLaws.{total_snoc}
use Rattle.rules.proofs.Output.FillSteps.{fill_behind, fill_opens}

-- ---- as many records as fit, where each has w bytes: per records fit a block, and one more does not

module _ (limit c d w per : ℕ) (one : 1 ≤ per) (fit : c + per * (d + w) ≤ limit) (full : limit < c + per * (d + w) + (d + w)) where
  -- the open block, into which j records more go, takes them
  fill_even : (j : ℕ) (now : List (List ℕ)) {rs : List (List ℕ)} → total c d now + j * (d + w) ≡ c + per * (d + w) → All (λ r. length r ≡ w) rs
      → fill limit c d now rs ≡ (now ++ take j rs) ∷ filled limit c d (drop j rs)
  fill_even j now e no_more = rw (take-nil {A = List ℕ} j, drop-nil {A = List ℕ} j, append-nil now)
  fill_even zero now e (also {x = r} {xs = rs} l a) =
      fill_opens limit c d now r rs (omega (arith, zero-mul (d + w))) ∙ rw (append-nil now)
  fill_even (suc j) now e (also {x = r} {xs = rs} l a) =
      fill_behind limit c d now r rs (omega (arith, suc-mul j (d + w)))
      ∙ fill_even j (now ++ (r ∷ [])) (omega (arith, suc-mul j (d + w), total_snoc limit c d now r)) a
      ∙ ap (λ (z : List (List ℕ)). z ∷ filled limit c d (drop j rs)) (append_assoc now (r ∷ []) (take j rs))

  -- a block takes the first of them, and the others are filled by themselves
  pub filled_step : (rs : List (List ℕ)) → 1 ≤ length rs → All (λ r. length r ≡ w) rs → filled limit c d rs ≡ take per rs ∷ filled limit c d (drop per rs)
  filled_step [] l a = absurd (omega arith)
  filled_step (r ∷ rs) l (also e a) =
      fill_even (per - 1) (r ∷ []) (omega (arith, suc-mul (per - 1) (d + w), ap (λ (n : ℕ). n * (d + w)) per_suc)) a
      ∙ ap (λ (n : ℕ). take n (r ∷ rs) ∷ filled limit c d (drop n (r ∷ rs))) per_suc
    where
      per_suc : suc (per - 1) ≡ per
      per_suc = omega arith

  -- per records less make a block less
  fewer : (n : ℕ) → 1 ≤ n → (n - per + per - 1) / per + 1 ≡ (n + per - 1) / per
  fewer n l =
      ap (λ (q : ℕ). q + 1) (go (leb per n) refl) ∙ sym (add-div_right (n - 1) one)
      ∙ ap (λ (m : ℕ). m / per) (let z : n - 1 + per ≡ n + per - 1 = omega arith in z)
    where
      go : (t : Bool) → leb per n ≡ t → (n - per + per - 1) / per ≡ (n - 1) / per
      go true t = ap (λ (m : ℕ). m / per) (let z : n - per + per - 1 ≡ n - 1 = omega (arith, leb-true per n t) in z)
      go false t = let m = leb-false per n t in div-eq_of_lt (omega arith) ∙ sym (div-eq_of_lt (omega arith))

  count_even : (f : ℕ) (rs : List (List ℕ)) → length rs ≤ f → All (λ r. length r ≡ w) rs → length (filled limit c d rs) ≡ (length rs + per - 1) / per
  count_even zero [] l a = sym (div-eq_of_lt (omega arith))
  count_even zero (r ∷ rs) l a = absurd (omega arith)
  count_even (suc f) [] l a = sym (div-eq_of_lt (omega arith))
  count_even (suc f) (r ∷ rs) l a =
      let more = drop per (r ∷ rs) in
      let n : length more ≡ length (r ∷ rs) - per = length-drop per (r ∷ rs) in
      ap length (filled_step (r ∷ rs) (omega arith) a)
      ∙ (let z : suc (length (filled limit c d more)) ≡ (length (r ∷ rs) - per + per - 1) / per + 1 =
      omega (arith, count_even f more (omega (arith, n)) (all_drop per a), ap (λ (m : ℕ). (m + per - 1) / per) n) in z)
      ∙ fewer (length (r ∷ rs)) (omega arith)

  pub filled_count : (rs : List (List ℕ)) → All (λ r. length r ≡ w) rs → length (filled limit c d rs) ≡ (length rs + per - 1) / per
  filled_count rs a = count_even (length rs) rs (omega arith) a

-- ---- where the blocks end, where they hold nothing besides their data, as in FF

pub stepped_end : (f step at end : ℕ) → end ≤ at → stepped f step at end ≡ word end
stepped_end zero step at end l = refl
stepped_end (suc f) step at end l = rw (le-ltb at end l)

-- the next block starts a step on, or no block is left
stepped_more : (f step at next end : ℕ) → (next ≡ at + step) ⊎ ((end ≤ next) × (end ≤ at + step)) → stepped f step next end ≡ stepped f step (at + step) end
stepped_more f step at next end (inl e) = ap (λ (n : ℕ). stepped f step n end) e
stepped_more f step at next end (inr l) = stepped_end f step next end l.0 ∙ sym (stepped_end f step (at + step) end l.1)

none_ends : (f step at w : ℕ) → word at ≡ stepped f step at (at + 0 * w)
none_ends f step at w =
    let e : at + 0 * w ≡ at = omega (arith, zero-mul w) in
    sym (stepped_end f step at (at + 0 * w) (omega arith) ∙ ap word e)

pub filled_ends : (limit w per : ℕ) → 1 ≤ w → 1 ≤ per → per * w ≤ limit → limit < per * w + w → (f at : ℕ) (rs : List (List ℕ)) → length rs ≤ f
    → All (λ r. length r ≡ w) rs → offset_words at (map (block_of ff) (filled limit 0 0 rs)) ≡ stepped f (per * w) at (at + length rs * w)
filled_ends limit w per some one fit full zero at [] l a = none_ends zero (per * w) at w
filled_ends limit w per some one fit full zero at (r ∷ rs) l a = absurd (omega arith)
filled_ends limit w per some one fit full (suc f) at [] l a = none_ends (suc f) (per * w) at w
filled_ends limit w per some one fit full (suc f) at (r ∷ rs) l a =
    let all = r ∷ rs in
    let next = at + length (joined (take per all)) in
    let first : length (joined (take per all)) ≡ length (take per all) * w = length_joined w (all_take per a) in
    let end : next + length (drop per all) * w ≡ at + length all * w =
    omega (arith, first, add-mul (length (take per all)) (length (drop per all)) w, ap (λ (n : ℕ). n * w) (parts all)) in
    rw (lt-ltb at (at + length all * w) (omega (arith, suc-mul (length rs) w)))
    (ap (λ (bs : List (List (List ℕ))). offset_words at (map (block_of ff) bs)) (filled_step limit 0 0 w per one (omega arith) (omega arith) all (omega arith) a)
    ∙ ap (word at ++◌)
    (filled_ends limit w per some one fit full f next (drop per all) (omega (arith, length-drop per all)) (all_drop per a)
    ∙ ap (λ (n : ℕ). stepped f (per * w) next n) end
    ∙ stepped_more f (per * w) at next (at + length all * w) (go (leb per (length all)) refl)))
  where
    parts : (xs : List (List ℕ)) → length (take per xs) + length (drop per xs) ≡ length xs
    parts xs = omega (arith, length-take per xs, length-drop per xs)

    go : (t : Bool) → leb per (length (r ∷ rs)) ≡ t
        → (at + length (joined (take per (r ∷ rs))) ≡ at + per * w)
        ⊎ ((at + length (r ∷ rs) * w ≤ at + length (joined (take per (r ∷ rs)))) × (at + length (r ∷ rs) * w ≤ at + per * w))
    go true t = inl (omega (arith, length_joined w (all_take per a), ap (λ (n : ℕ). n * w) (length-take-le per (r ∷ rs) (leb-true per (length (r ∷ rs)) t))))
    go false t =
        let m = leb-false per (length (r ∷ rs)) t in
        inr (omega (arith, ap (λ (z : List (List ℕ)). length (joined z)) (take_all per (r ∷ rs) (omega arith)), length_joined w a), omega (arith, mul-le-mul_right {m = length (r ∷ rs)} {n = per} w (omega arith)))

-- ---- the number that fits, as code finds it

-- where a block without costs holds a record of w bytes, it holds limit / w of them and no more
module _ (limit w : ℕ) (some : 1 ≤ w) (holds : w ≤ limit) where
  pub per_one : 1 ≤ limit / w
  per_one = (le-div_iff_mul-le some).1 (omega (arith, one-mul w))

  pub per_fit : limit / w * w ≤ limit
  per_fit = div-mul-le_self limit w

  pub per_full : limit < limit / w * w + w
  per_full = lt-div-mul-add some

  pub even_count : (rs : List (List ℕ)) → All (λ r. length r ≡ w) rs → length (filled limit 0 0 rs) ≡ (length rs + limit / w - 1) / (limit / w)
  even_count = filled_count limit 0 0 w (limit / w) per_one (omega (arith, per_fit)) (omega (arith, per_full))

  pub even_ends : (f at : ℕ) (rs : List (List ℕ)) → length rs ≤ f → All (λ r. length r ≡ w) rs
      → offset_words at (map (block_of ff) (filled limit 0 0 rs)) ≡ stepped f (limit / w * w) at (at + length rs * w)
  even_ends = filled_ends limit w (limit / w) some per_one per_fit per_full
