-- How an item is read part by part: by its first bytes, by what its numbers say, and by the commas between.
use mathlib.Core.Path.{◌≡◌, refl, ap, sym, ◌∙◌}
use mathlib.Core.Bool.{true, false}
use mathlib.Core.List.{List, [], ◌∷◌, ◌++◌, append_assoc}
use Prim.Native.Nat.{ℕ, suc, ◌+◌, ◌≤◌}
use native.Mathlib.Omega.{arith}
use lib.ListN.{length, get_or, drop, length-append}
use lib.Seq.{slice}
use Rattle.rules.specs.Reader.{read, pure, ◌>>=◌, ◌>>◌, after, text, is_digit, number}
use Rattle.rules.specs.Halves.{Kind as RuleKind, copy}
use Rattle.rules.specs.Grammar.{field, Start, start, in_data, in_key, kind_reader, item}
use Rattle.rules.specs.Words.{number_columns}
use Rattle.rules.specs.Texts.{NumberText}
use Rattle.rules.specs.TextParts.{number_then, key_then, sizes_behind, field_behind}
use Rattle.rules.proofs.Grammar.ReaderLaws.{read_left, bind_read, text_sound}
use Rattle.rules.proofs.Columns.NumberColumns.{columns_number}
use Rattle.rules.proofs.Grammar.ChoiceLaws.{byte_inside, mark_there, mark_not, kind_copy, item_field, item_key}
use Rattle.rules.proofs.Grammar.NumberLaws.{close_ends}
use Rattle.terms.specs.Meaning.{kind_of, OneSize, field_of, part_of, card_field}
use Rattle.terms.specs.declared.Part.{Part}
use Rattle.terms.specs.declared.Kind.{Kind}
use Rattle.terms.specs.declared.Kind.TheVariants.{Copy, Pack, Unpack}
use Rattle.readers.specs.Meaning.{ReadsFrom, StopsFrom, Stops, numbers_in, places_in, Sized, kind_places, KindFrom, behind_places, field_places, ItemUpTo, ItemFrom, ItemReads, ItemSays}
use Rattle.std.specs.Prelude.{Result, Ok, Err}
use Rattle.readers.specs.declared.Stop.{Stop}
use Rattle.readers.specs.declared.Found.{Found}
use Rattle.readers.specs.declared.Middle.{Middle}
use Rattle.readers.specs.declared.Places.{Places}
use Rattle.readers.specs.declared.CardItem.{CardItem}
use Rattle.readers.specs.declared.CardItem.TheVariants.{Field as AField, CV}
use Rattle.readers.proofs.NumberPlaces.{text_is, text_ahead, none_between, mark_passed, marks_passed, number_ahead, number_passed, then_text, then_ahead, then_passed, both_passed}
use Rattle.readers.proofs.TextPlaces.{behind_places_lem}
use Rattle.readers.proofs.Parts.{marks_not, both_there, second_not}

-- ---- the middle

-- a kind of two sizes is no copy
pub one_size : (k : Kind) → Sized k → (input output : ℕ) → OneSize k input output
one_size Copy h input output = absurd h
one_size Pack h input output = tt
one_size Unpack h input output = tt

two_places : (k : Kind) → Sized k → (first second : ℕ) → first ∷ second ∷ [] ≡ kind_places k first second
two_places Copy h first second = absurd h
two_places Pack h first second = refl
two_places Unpack h first second = refl

-- `,n,m)`
module _ (say : ℕ → ℕ → RuleKind) (s : List ℕ) (from : ℕ) where
  pub no_comma : from ≤ length s → (get_or s from 256 ≡ 44 → ⊥) → StopsFrom (sizes_behind say) from s from
  unfolding sizes_behind
  no_comma l h = (l, rw (mark_not 44 s from h))

  module _ (comma : get_or s from 256 ≡ 44) where
    pub first_stops : (a : ℕ) → StopsFrom (number_then 44) (from + 1) s a → StopsFrom (sizes_behind say) from s a
    unfolding sizes_behind
    first_stops a r = (r.0, rw (mark_there 44 s from (omega arith) comma, r.1))

    pub second_stops : (n i a : ℕ) → ReadsFrom (number_then 44) (from + 1) s n i → StopsFrom (number_then 41) i s a → StopsFrom (sizes_behind say) from s a
    unfolding sizes_behind
    second_stops n i a r q = (q.0, rw (mark_there 44 s from (omega arith) comma, r.1, q.1))

    pub both_read : (n i m to : ℕ) → ReadsFrom (number_then 44) (from + 1) s n i → ReadsFrom (number_then 41) i s m to → ReadsFrom (sizes_behind say) from s (say n m) to
    unfolding sizes_behind
    both_read n i m to r q = (q.0, rw (mark_there 44 s from (omega arith) comma, r.1, q.1))

    -- the first size begins behind the comma, the second behind the first
    pub both_placed : (n i m to : ℕ) → ReadsFrom (number_then 44) (from + 1) s n i → ReadsFrom (number_then 41) i s m to → (k : Kind) → Sized k
        → (from ≤ to) × OneSize k (from + 1) i × (numbers_in false s from to ≡ kind_places k (from + 1) i)
    both_placed n i m to r q k h =
        let l : from + 1 ≤ length s = omega (arith, byte_inside s from 44 comma (omega arith)) in
        let a = then_ahead s (from + 1) 44 n i l r in
        let b = then_ahead s i 41 m to r.0 q in
        let c : i ≤ to = omega arith in (
          omega arith,
          one_size k h (from + 1) i,
          mark_passed s from false 44 to comma refl (omega arith) q.0 ∙ then_passed s (from + 1) 44 n i l r to refl c q.0
              ∙ ap (λ (x : List ℕ). (from + 1) ∷ x) (then_passed s i 41 m to r.0 q to refl (omega arith) q.0 ∙ ap (λ (x : List ℕ). i ∷ x) (none_between s to false))
              ∙ two_places k h (from + 1) i,
        )

module _ (s : List ℕ) (from : ℕ) where
  -- behind a letter
  module _ (say : ℕ → ℕ → RuleKind) (bracket : get_or s from 256 ≡ 40) (m : ℕ) (letter : get_or s (from + 1) 256 ≡ m) (plain : is_digit m ≡ false) where
    pub kind_goes : kind_reader (drop from s) ≡ sizes_behind say (drop (from + 2) s) → (k : Result (Found Middle) Stop) → KindFrom (sizes_behind say) (from + 2) s k → KindFrom kind_reader from s k
    kind_goes e (Ok k) h =
        let l = h.2 in
        ((h.0.0, e ∙ h.0.1), h.1, omega arith, h.3, marks_passed s from 40 m k.used bracket letter refl plain l h.0.0 ∙ h.4)
    kind_goes e (Err stop) h = (h.0, e ∙ h.1)

  -- no bracket
  module _ (other : get_or s from 256 ≡ 40 → ⊥) where
    pub copy_read : (v n : ℕ) → ReadsFrom number from s v n → ReadsFrom kind_reader from s (copy v) n
    copy_read v n r = (r.0, kind_copy s from other ∙ rw r.1 refl)

    pub copy_placed : (v n : ℕ) → from ≤ length s → ReadsFrom number from s v n → (from ≤ n) × (from ≡ from) × (numbers_in false s from n ≡ from ∷ [])
    copy_placed v n l r =
        let a = number_ahead s from v n l r in
        (omega arith, refl, number_passed s from v n l r n (omega arith) r.0 ∙ ap (λ (x : List ℕ). from ∷ x) (none_between s n true))

    pub copy_stops : (a : ℕ) → StopsFrom number from s a → StopsFrom kind_reader from s a
    copy_stops a r = (r.0, kind_copy s from other ∙ rw r.1 refl)

-- ---- behind `r,` or `(K,r),`

module _ (b : Start) (s : List ℕ) (from : ℕ) where
  pub middle_stops : (a : ℕ) → StopsFrom kind_reader from s a → StopsFrom (field_behind b) from s a
  unfolding field_behind
  middle_stops a h = (h.0, rw h.1)

  module _ (k : RuleKind) (i : ℕ) (middle : ReadsFrom kind_reader from s k i) where
    pub comma_missing : (get_or s i 256 ≡ 44 → ⊥) → StopsFrom (field_behind b) from s i
    unfolding field_behind
    comma_missing h = (middle.0, rw (middle.1, mark_not 44 s i h))

    pub last_stops : get_or s i 256 ≡ 44 → (a : ℕ) → StopsFrom number (i + 1) s a → StopsFrom (field_behind b) from s a
    unfolding field_behind
    last_stops e a h = (h.0, rw (middle.1, mark_there 44 s i (omega arith) e, h.1))

pub field_read : (part : Part) (r : ℕ) (s : List ℕ) (from : ℕ) (k : Kind) (input output i : ℕ) → ReadsFrom kind_reader from s (kind_of k input output) i → get_or s i 256 ≡ 44
    → (t to : ℕ) → ReadsFrom number (i + 1) s t to
    → ReadsFrom (field_behind (start (part_of part) r)) from s (field (card_field part (record { kind = k; r = r; input = input; output = output; t = t }))) to
unfolding field_behind card_field field_of
field_read part r s from k input output i middle e t to h = (h.0, rw (middle.1, mark_there 44 s i (omega arith) e, h.1))

-- the place of t is behind the comma
pub field_placed : (place : ℕ) (s : List ℕ) (from : ℕ) (k : Kind) (first second i : ℕ) → from ≤ i → numbers_in false s from i ≡ kind_places k first second → get_or s i 256 ≡ 44
    → (t to : ℕ) → ReadsFrom number (i + 1) s t to
    → (from ≤ to) × (numbers_in false s from to ≡ behind_places k (record { r = place; input = first; output = second; t = i + 1 }))
field_placed place s from k first second i l q e t to h =
    let m : i + 1 ≤ length s = omega (arith, byte_inside s i 44 e (omega arith)) in
    let a = number_ahead s (i + 1) t to m h in
    let b : numbers_in false s (i + 1) to ≡ (i + 1) ∷ []
    = number_passed s (i + 1) t to m h to (omega arith) h.0 ∙ ap (λ (x : List ℕ). (i + 1) ∷ x) (none_between s to true) in (
      omega arith,
      both_passed s false from i 44 to l e refl (omega arith) h.0 ∙ ap (λ (x : List ℕ). x ++ numbers_in false s (i + 1) to) q
          ∙ ap (λ (x : List ℕ). kind_places k first second ++ x) b ∙ behind_places_lem k place first second (i + 1),
    )

-- ---- an item that is not CV

places_back : (k : Kind) (p : Places) → OneSize k p.input p.output → places_in (field_places k p) ≡ p
places_back Copy p e = λ i. record { r = p.r; input = p.input; output = sym e i; t = p.t }
places_back Pack p e = refl
places_back Unpack p e = refl

-- what is behind r tells the item, where all that is before holds the number r alone
start_goes : (s : List ℕ) (b : Start) (place to : ℕ) → item s ≡ field_behind b (drop to s)
    → ((n : ℕ) → to ≤ n → n ≤ length s → numbers_in false s 0 n ≡ place ∷ numbers_in false s to n) → (x : CardItem) (n : ℕ) → ItemUpTo (field_behind b) to place s x n → ItemReads s x n
start_goes s b place to e passed (AField part f p) n h =
    let c : numbers_in false s 0 n ≡ field_places f.kind p
    = passed n h.2 h.0.0 ∙ ap (λ (x : List ℕ). place ∷ x) h.4 ∙ ap (λ (r : ℕ). r ∷ behind_places f.kind p) (sym h.5) in
    ((h.0.0, e ∙ h.0.1), h.1, sym (ap places_in c ∙ places_back f.kind p h.3))
start_goes s b place to e passed CV n h = (h.0, e ∙ h.1)

-- `r,`
module _ (s : List ℕ) (other : get_or s 0 256 ≡ 67 → ⊥) (bare : get_or s 0 256 ≡ 40 → ⊥) where
  pub item_goes : (v to : ℕ) → ReadsFrom (number_then 44) 0 s v to → (x : Result (Found CardItem) Stop) → ItemFrom (field_behind (start in_data v)) to 0 s x → ItemSays s x
  item_goes v to r (Ok x) h =
      start_goes s (start in_data v) 0 to (item_field s other bare ∙ rw r.1 refl) (λ n k l. then_passed s 0 44 v to (omega arith) r n refl k l) x.value x.used h
  item_goes v to r (Err stop) h = (h.0, item_field s other bare ∙ rw r.1 refl ∙ h.1)

  pub item_stops : (a : ℕ) → StopsFrom (number_then 44) 0 s a → Stops item s a
  item_stops a r = (r.0, item_field s other bare ∙ rw r.1 refl)

-- ---- `(K,r),`

pub no_key : (s : List ℕ) → 1 ≤ length s → (get_or s 1 256 ≡ 75 → ⊥) → StopsFrom key_then 1 s 1
unfolding key_then
no_key s l h = (l, rw (marks_not 75 (44 ∷ []) s 1 h))

module _ (s : List ℕ) (letter : get_or s 1 256 ≡ 75) where
  pub key_comma : (get_or s 2 256 ≡ 44 → ⊥) → StopsFrom key_then 1 s 2
  unfolding key_then
  key_comma h = (omega (arith, byte_inside s 1 75 letter (omega arith)), rw (second_not 75 44 s 1 letter (omega arith) h))

  module _ (comma : get_or s 2 256 ≡ 44) where
    pub key_stops : (a : ℕ) → StopsFrom (number_then 41) 3 s a → StopsFrom key_then 1 s a
    unfolding key_then
    key_stops a r = (r.0, rw (both_there 75 44 s 1 letter (omega arith) (omega arith) comma, r.1))

    module _ (v n : ℕ) (r : ReadsFrom (number_then 41) 3 s v n) where
      pub key_read : get_or s n 256 ≡ 44 → ReadsFrom key_then 1 s v (n + 1)
      unfolding key_then
      key_read e = (
        omega (arith, byte_inside s n 44 e (omega arith)),
        rw (both_there 75 44 s 1 letter (omega arith) (omega arith) comma, r.1, mark_there 44 s n (omega arith) e),
      )

      pub key_open : (get_or s n 256 ≡ 44 → ⊥) → StopsFrom key_then 1 s n
      unfolding key_then
      key_open h = (r.0, rw (both_there 75 44 s 1 letter (omega arith) (omega arith) comma, r.1, mark_not 44 s n h))

-- what was read, as a text
abbrev key_text : List ℕ → List ℕ
key_text x = 75 ∷ 44 ∷ (x ++ 41 ∷ 44 ∷ [])

key_whole : (s t u left x : List ℕ) → s ≡ 75 ∷ 44 ∷ t → t ≡ (x ++ (41 ∷ [])) ++ u → u ≡ 44 ∷ left → s ≡ key_text x ++ left
key_whole s t u left x a b c =
    let e : (x ++ (41 ∷ [])) ++ 44 ∷ left ≡ (x ++ 41 ∷ 44 ∷ []) ++ left = simp append_assoc in
    a ∙ ap (λ (l : List ℕ). 75 ∷ 44 ∷ l) (b ∙ ap (λ (l : List ℕ). (x ++ (41 ∷ [])) ++ l) c ∙ e)

key_text_lem : (v : ℕ) (s left : List ℕ) → key_then s ≡ read v left → (w : ℕ) × (x : List ℕ) × (s ≡ key_text x ++ left) × NumberText x w
unfolding key_then text
key_text_lem v s left r =
    let a = bind_read (after (75 ∷ 44 ∷ []) s) (λ u. number_then 41 >>= λ w. after (44 ∷ []) >> pure w) v left r in
    let b = bind_read (number_then 41 a.1) (λ w. after (44 ∷ []) >> pure w) v left a.3 in
    let c = bind_read (after (44 ∷ []) b.1) (λ u. pure b.0) v left b.3 in
    let x = then_text 41 b.0 a.1 b.1 b.2 in
    let e : b.1 ≡ 44 ∷ left = text_sound "," b.1 c.0 c.1 c.2 ∙ ap (λ (l : List ℕ). 44 ∷ l) (read_left b.0 v c.1 left c.3) in
    (x.0, x.1, key_whole s a.1 b.1 left x.1 (text_sound "K," s a.0 a.1 a.2) x.2 e, x.3)

key_columns : (x y : List ℕ) {w : ℕ} → NumberText x w → number_columns false 1 (key_text x ++ y) ≡ 3 ∷ number_columns false (suc (suc (3 + length x))) y
key_columns x y n =
    ap (λ (l : List ℕ). number_columns false 1 (75 ∷ 44 ∷ l)) (append_assoc x (41 ∷ 44 ∷ []) y) ∙ columns_number 3 n (close_ends (44 ∷ y))

-- a field of the key: its r begins behind `(K,`
module _ (s : List ℕ) (bracket : get_or s 0 256 ≡ 40) where
  key_passed : (v to : ℕ) → ReadsFrom key_then 1 s v to → (n : ℕ) → to ≤ n → n ≤ length s → numbers_in false s 0 n ≡ 3 ∷ numbers_in false s to n
  key_passed v to r n k l =
      let x = key_text_lem v (drop 1 s) (drop to s) r.1 in
      let i : 1 ≤ length s = omega (arith, byte_inside s 0 40 bracket (omega arith)) in
      let e : to ≡ suc (suc (3 + length x.1)) = omega (arith, (text_is s 1 to (key_text x.1) i r.0 x.2).0, length-append x.1 (41 ∷ 44 ∷ [])) in
      mark_passed s 0 false 40 n bracket refl (omega arith) l ∙ ap (number_columns false 1) (text_ahead s 1 to (key_text x.1) i x.2 n (omega arith) k l)
      ∙ key_columns x.1 (slice to n s) x.3 ∙ ap (λ (j : ℕ). 3 ∷ number_columns false j (slice to n s)) (sym e)

  pub key_goes : (v to : ℕ) → ReadsFrom key_then 1 s v to → (x : Result (Found CardItem) Stop) → ItemFrom (field_behind (start in_key v)) to 3 s x → ItemSays s x
  key_goes v to r (Ok x) h = start_goes s (start in_key v) 3 to (item_key s bracket ∙ rw r.1 refl) (key_passed v to r) x.value x.used h
  key_goes v to r (Err stop) h = (h.0, item_key s bracket ∙ rw r.1 refl ∙ h.1)

  pub key_item_stops : (a : ℕ) → StopsFrom key_then 1 s a → Stops item s a
  key_item_stops a r = (r.0, item_key s bracket ∙ rw r.1 refl)
