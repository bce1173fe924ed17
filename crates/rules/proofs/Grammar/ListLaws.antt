-- A list is read item by item, to the text's end, with no bound on the steps: since each item takes a byte or more the bound is never met.
use mathlib.Core.Path.{◌≡◌, refl, ap, sym, ◌∙◌, subst, subst₂}
use mathlib.Core.Logic.{◌⊎◌, inl, inr}
use mathlib.Core.List.{List, [], ◌∷◌, ◌++◌}
use Prim.Native.Nat.{ℕ, zero, suc, ◌≤◌, ◌<◌}
use Prim.Native.String.{String}
use native.Mathlib.Omega.{arith}
use lib.ListN.{length}
use lib.Seq.{append_snoc}
use borrow.Author.Tests.{eq-eqb, ne_eqb}
use Rattle.rules.specs.Base.{ascii}
use Rattle.rules.specs.Reader.{Read, read, stopped, Reader, pure, onward, ◌>>=◌, ◌>>◌, text, nothing, rest_then, list_by, list_of, rest_of}
use Rattle.rules.specs.Texts.{ListText, RestText}
use Rattle.rules.proofs.Grammar.ReaderLaws.{not_read, read_value, read_left, text_sound, or_read, bind_read, part_all, part_length, stops_at, inside_behind, second_alone, both_stopped, Within, within_read, within_less, within_pure, within_or, within_then, within_bind, within_text, within_text_then, within_nothing}

-- ---- one byte

module _ (mark : String) (m : ℕ) (only : ascii mark ≡ m ∷ []) where
  pub text_byte : (s : List ℕ) → text mark (m ∷ s) ≡ read tt s
  unfolding text
  text_byte s = rw (only, eq-eqb m m refl)

  pub text_other : (b : ℕ) (s : List ℕ) → (b ≡ m → ⊥) → text mark (b ∷ s) ≡ stopped (b ∷ s)
  unfolding text
  text_other b s h = rw (only, ne_eqb m b (λ e. h (sym e)))

-- ---- to the text's end

module _ {A : Type 0} (mark : String) (item : Reader A) where
  within_rest : (list : Reader (List A)) → Within 0 list → Within 0 (rest_then mark item list)
  unfolding rest_then
  within_rest list w =
      within_or 0 _ _ (within_then 0 0 nothing (pure []) within_nothing (within_pure []))
      (within_text_then mark list w)

  end_of_rest : (list : Reader (List A)) → ((s : List ℕ) (is : List A) (left : List ℕ) → list s ≡ read is left → left ≡ [])
      → (s : List ℕ) (is : List A) (left : List ℕ) → rest_then mark item list s ≡ read is left → left ≡ []
  unfolding rest_then
  end_of_rest list h [] is left e = sym (read_left [] is [] left e)
  end_of_rest list h (b ∷ s) is left e = go (or_read (stopped (b ∷ s)) ((text mark >> list) (b ∷ s)) is left e)
    where
      go : (stopped (b ∷ s) ≡ read is left) ⊎ ((text mark >> list) (b ∷ s) ≡ read is left) → left ≡ []
      go (inl f) = absurd (not_read (b ∷ s) is left f)
      go (inr f) = let i = bind_read (text mark (b ∷ s)) (λ u. list) is left f in h i.1 is left i.3

  end_by : (k : ℕ) (s : List ℕ) (is : List A) (left : List ℕ) → list_by mark item k s ≡ read is left → left ≡ []
  end_by zero s is left e = absurd (not_read s is left e)
  end_by (suc k) s is left e =
      let i = bind_read (item s) (λ a. rest_then mark item (list_by mark item k) >>= λ more. pure (a ∷ more)) is left e in
      let j = bind_read (rest_then mark item (list_by mark item k) i.1) (λ more. pure (i.0 ∷ more)) is left i.3 in
      sym (read_left (i.0 ∷ j.0) is j.1 left j.3) ∙ end_of_rest (list_by mark item k) (λ t bs z f. end_by k t bs z f) i.1 j.0 j.1 j.2

  -- a list is read to the text's end
  pub list_left : (s : List ℕ) (is : List A) (left : List ℕ) → list_of mark item s ≡ read is left → left ≡ []
  unfolding list_of
  list_left s is left e = end_by (suc (length s)) s is left e

  -- ---- step by step: an item that takes a byte or more, and a mark of one byte

  -- the rest's end
  pub rest_end : rest_of mark item [] ≡ read [] []
  unfolding rest_of rest_then
  rest_end = refl

  rest_same : (f g : Reader (List A)) (s : List ℕ) → ((t : List ℕ) → length t ≤ length s → f t ≡ g t) → rest_then mark item f s ≡ rest_then mark item g s
  unfolding rest_then
  rest_same f g s h = go (text mark s) refl
    where
      go : (r : Read Unit) → text mark s ≡ r → rest_then mark item f s ≡ rest_then mark item g s
      go (read u t) e = rw (e, h t (omega (arith, part_length (within_read (length (ascii mark)) (text mark) (within_text mark) s u t e))))
      go (stopped t) e = rw e

module _ {A : Type 0} (mark : String) (item : Reader A) (takes : Within 1 item) where
  within_by : (k : ℕ) → Within 0 (list_by mark item k)
  within_by zero s = stops_at (part_all s)
  within_by (suc k) s =
      within_less 1 0 (list_by mark item (suc k)) (omega arith)
      (within_bind 1 0 item _ takes (λ i. within_bind 0 0 _ _ (within_rest mark item (list_by mark item k) (within_by k)) (λ is. within_pure (i ∷ is))))
      s

  pub within_list : Within 0 (list_of mark item)
  unfolding list_of
  within_list s = within_by (suc (length s)) s

  pub more_steps : (n k : ℕ) (s : List ℕ) → length s < n → length s < k → list_by mark item n s ≡ list_by mark item k s
  more_steps zero k s a b = absurd (omega arith)
  more_steps (suc n) zero s a b = absurd (omega arith)
  more_steps (suc n) (suc k) s a b = go (λ t l. more_steps n k t (omega arith) (omega arith)) (item s) refl
    where
      go : ((t : List ℕ) → length t < length s → list_by mark item n t ≡ list_by mark item k t) → (r : Read A) → item s ≡ r
          → list_by mark item (suc n) s ≡ list_by mark item (suc k) s
      go same (read i t) e =
          rw (e, rest_same mark item (list_by mark item n) (list_by mark item k) t (λ u l. same u (omega (arith, part_length (within_read 1 item takes s i t e)))))
      go same (stopped t) e = rw e

  -- a list is an item and its rest
  pub list_step : (s : List ℕ) → list_of mark item s ≡ onward (item s) (λ i. rest_of mark item >>= λ is. pure (i ∷ is))
  unfolding list_of rest_of
  list_step s = go (item s) refl
    where
      go : (r : Read A) → item s ≡ r → list_of mark item s ≡ onward (item s) (λ i. rest_of mark item >>= λ is. pure (i ∷ is))
      go (read i t) e =
          rw (
            e,
            rest_same mark item (list_by mark item (length s)) (list_of mark item) t
                (λ u l. more_steps (length s) (suc (length u)) u (omega (arith, part_length (within_read 1 item takes s i t e))) (omega arith)),
          )
      go (stopped t) e = rw e

  -- the item stops, and so the list
  pub list_stop : (s left : List ℕ) → item s ≡ stopped left → list_of mark item s ≡ stopped left
  list_stop s left e = list_step s ∙ ap (λ (r : Read A). onward r (λ i. rest_of mark item >>= λ is. pure (i ∷ is))) e

  -- the item is read, and the rest goes on
  pub list_item : (s : List ℕ) (i : A) (left : List ℕ) → item s ≡ read i left → list_of mark item s ≡ onward (rest_of mark item left) (λ is. pure (i ∷ is))
  list_item s i left e = list_step s ∙ ap (λ (r : Read A). onward r (λ i. rest_of mark item >>= λ is. pure (i ∷ is))) e

  module _ (m : ℕ) (only : ascii mark ≡ m ∷ []) where
    -- a rest that begins with the mark is the list behind it, also where that stops
    pub rest_mark : (s : List ℕ) → rest_of mark item (m ∷ s) ≡ list_of mark item s
    unfolding rest_of rest_then
    rest_mark s = rw (text_byte mark m only s) (second_alone (m ∷ s) refl refl (inside_behind m (within_list s)))

    -- a rest that begins with another byte stops there
    pub rest_other : (b : ℕ) (s : List ℕ) → (b ≡ m → ⊥) → rest_of mark item (b ∷ s) ≡ stopped (b ∷ s)
    unfolding rest_of rest_then
    rest_other b s h = rw (text_other mark m only b s h) (both_stopped (b ∷ s) refl refl)

    -- an item is the last, or the mark is behind it, or another byte
    pub list_last : (s : List ℕ) (i : A) → item s ≡ read i [] → list_of mark item s ≡ read (i ∷ []) []
    list_last s i e = list_item s i [] e ∙ ap (λ (r : Read (List A)). onward r (λ is. pure (i ∷ is))) (rest_end mark item)

    pub list_more : (s : List ℕ) (i : A) (t : List ℕ) → item s ≡ read i (m ∷ t) → list_of mark item s ≡ onward (list_of mark item t) (λ is. pure (i ∷ is))
    list_more s i t e = list_item s i (m ∷ t) e ∙ ap (λ (r : Read (List A)). onward r (λ is. pure (i ∷ is))) (rest_mark t)

    pub list_other : (s : List ℕ) (i : A) (b : ℕ) (t : List ℕ) → item s ≡ read i (b ∷ t) → (b ≡ m → ⊥) → list_of mark item s ≡ stopped (b ∷ t)
    list_other s i b t e h = list_item s i (b ∷ t) e ∙ ap (λ (r : Read (List A)). onward r (λ is. pure (i ∷ is))) (rest_other b t h)

-- ---- one by one: what is read so far goes before what is read from here on

module _ {A : Type 0} where
  abbrev pub ahead : List A → Read (List A) → Read (List A)
  ahead so (read is left) = read (so ++ is) left
  ahead so (stopped left) = stopped left

  pub ahead_none : (r : Read (List A)) → r ≡ ahead [] r
  ahead_none (read is left) = refl
  ahead_none (stopped left) = refl

  ahead_one : (so : List A) (i : A) (r : Read (List A)) → ahead so (onward r (λ is. pure (i ∷ is))) ≡ ahead (so ++ (i ∷ [])) r
  ahead_one so i (read is left) = ap (λ (l : List A). read l left) (sym (append_snoc so i is))
  ahead_one so i (stopped left) = refl

module _ {A : Type 0} (mark : String) (item : Reader A) (takes : Within 1 item) (m : ℕ) (only : ascii mark ≡ m ∷ []) (so : List A) (s : List ℕ) where
  pub ahead_more : (i : A) (t : List ℕ) → item s ≡ read i (m ∷ t) → ahead so (list_of mark item s) ≡ ahead (so ++ (i ∷ [])) (list_of mark item t)
  ahead_more i t e = ap (ahead so) (list_more mark item takes m only s i t e) ∙ ahead_one so i (list_of mark item t)

  pub ahead_last : (i : A) → item s ≡ read i [] → ahead so (list_of mark item s) ≡ read (so ++ (i ∷ [])) []
  ahead_last i e = ap (ahead so) (list_last mark item takes m only s i e)

  pub ahead_other : (i : A) (b : ℕ) (t : List ℕ) → item s ≡ read i (b ∷ t) → (b ≡ m → ⊥) → ahead so (list_of mark item s) ≡ stopped (b ∷ t)
  ahead_other i b t e h = ap (ahead so) (list_other mark item takes m only s i b t e h)

  pub ahead_stop : (left : List ℕ) → item s ≡ stopped left → ahead so (list_of mark item s) ≡ stopped left
  ahead_stop left e = ap (ahead so) (list_stop mark item takes s left e)

-- ---- the texts of lists

-- what is read as a list is one
module _ {A : Type 0} (mark : String) (item : Reader A) (ItemIs : List ℕ → A → Type 0)
    (sound : (s : List ℕ) (a : A) (left : List ℕ) → item s ≡ read a left → (x : List ℕ) × (s ≡ x ++ left) × ItemIs x a) where
  sound_rest : (list : Reader (List A)) → ((s : List ℕ) (is : List A) (left : List ℕ) → list s ≡ read is left → ListText mark ItemIs s is)
      → (s : List ℕ) (is : List A) (left : List ℕ) → rest_then mark item list s ≡ read is left → RestText mark ItemIs s is
  unfolding rest_then
  sound_rest list h [] is left e = subst (λ (l : List A). RestText mark ItemIs [] l) (read_value [] is [] left e) RestText.nothing
  sound_rest list h (b ∷ s) is left e = go (or_read (stopped (b ∷ s)) ((text mark >> list) (b ∷ s)) is left e)
    where
      go : (stopped (b ∷ s) ≡ read is left) ⊎ ((text mark >> list) (b ∷ s) ≡ read is left) → RestText mark ItemIs (b ∷ s) is
      go (inl f) = absurd (not_read (b ∷ s) is left f)
      go (inr f) =
          let i = bind_read (text mark (b ∷ s)) (λ u. list) is left f in
          subst (λ (l : List ℕ). RestText mark ItemIs l is) (sym (text_sound mark (b ∷ s) i.0 i.1 i.2)) (RestText.marked (h i.1 is left i.3))

  sound_by : (k : ℕ) (s : List ℕ) (is : List A) (left : List ℕ) → list_by mark item k s ≡ read is left → ListText mark ItemIs s is
  sound_by zero s is left e = absurd (not_read s is left e)
  sound_by (suc k) s is left e =
      let i = bind_read (item s) (λ a. rest_then mark item (list_by mark item k) >>= λ more. pure (a ∷ more)) is left e in
      let j = bind_read (rest_then mark item (list_by mark item k) i.1) (λ more. pure (i.0 ∷ more)) is left i.3 in
      let x = sound s i.0 i.1 i.2 in
      let r = sound_rest (list_by mark item k) (λ t bs z f. sound_by k t bs z f) i.1 j.0 j.1 j.2 in
      subst₂ (λ (l : List ℕ) (bs : List A). ListText mark ItemIs l bs) (sym x.1) (read_value (i.0 ∷ j.0) is j.1 left j.3) (ListText.item x.2 r)

  pub list_sound : (s : List ℕ) (is : List A) (left : List ℕ) → list_of mark item s ≡ read is left → ListText mark ItemIs s is
  unfolding list_of
  list_sound s is left e = sound_by (suc (length s)) s is left e

-- a list's text is read, where an item's text is read before the text's end and before the mark
module _ {A : Type 0} (mark : String) (item : Reader A) (ItemIs : List ℕ → A → Type 0) (takes : Within 1 item) (m : ℕ) (only : ascii mark ≡ m ∷ [])
    (at_end : (x : List ℕ) (a : A) → ItemIs x a → item (x ++ []) ≡ read a [])
    (at_mark : (x : List ℕ) (a : A) (s : List ℕ) → ItemIs x a → item (x ++ (m ∷ s)) ≡ read a (m ∷ s)) where
  before_rest : (x : List ℕ) (a : A) (y : List ℕ) (is : List A) → ItemIs x a → RestText mark ItemIs y is → item (x ++ y) ≡ read a y
  before_rest x a _ _ t RestText.nothing = at_end x a t
  before_rest x a _ _ t (RestText.marked {y = y} l) = rw only (at_mark x a y t)

  step_reads : (x : List ℕ) (a : A) (y : List ℕ) (more : List A) → ItemIs x a → RestText mark ItemIs y more → rest_of mark item y ≡ read more []
      → list_of mark item (x ++ y) ≡ read (a ∷ more) []
  step_reads x a y more t r h =
      list_item mark item takes (x ++ y) a y (before_rest x a y more t r) ∙ ap (λ (q : Read (List A)). onward q (λ is. pure (a ∷ is))) h

  mark_reads : (y : List ℕ) (more : List A) → list_of mark item y ≡ read more [] → rest_of mark item (ascii mark ++ y) ≡ read more []
  mark_reads y more h = ap (λ (z : List ℕ). rest_of mark item (z ++ y)) only ∙ rest_mark mark item takes m only y ∙ h

  pub list_reads : {s : List ℕ} {is : List A} → ListText mark ItemIs s is → list_of mark item s ≡ read is []
  list_reads t =
      elim t as (λ s is t. list_of mark item s ≡ read is []) (λ s is t. rest_of mark item s ≡ read is []) [
        | ListText.item {x = x} {y = y} {a = a} {more = more} i (r → h) ↦ step_reads x a y more i r h
        | RestText.nothing ↦ rest_end mark item
        | RestText.marked {y = y} {more = more} (l → h) ↦ mark_reads y more h
      ]
