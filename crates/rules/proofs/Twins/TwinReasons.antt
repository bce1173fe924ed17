-- The reason is the one in words, and one alone holds: the last field that reads the half decides. A half that it writes is missing from the finished record
-- only if a later field covers it; a half that it does not write is a digit for which it is too short, since a zone has one permitted value and so is never lost.
use mathlib.Core.Path.{◌≡◌, refl, sym, ◌∙◌, subst}
use mathlib.Core.Logic.{◌↔◌, ◌⊎◌, inl, inr}
use mathlib.Core.Bool.{Bool, true, false, cond, true≢false}
use mathlib.Core.List.{List, [], ◌∷◌, ◌++◌}
use Prim.Native.Nat.{ℕ, ◌*◌, ◌≤◌, ◌<◌}
use native.Mathlib.Omega.{arith}
use lib.Dec.{leb, eqb}
use lib.ListN.{length}
use borrow.Author.Tests.{eqb-true, eqb-false, not-true}
use Rattle.rules.specs.Places.{All, no_more, also, Some, this, that}
use Rattle.rules.specs.Halves.{Field, blank, Source, from, constant, sources}
use Rattle.rules.specs.RecordParts.{Fits}
use Rattle.rules.specs.Permitted.{reads, allows, permitted, choices}
use Rattle.rules.specs.Keeping.{occurs, missing}
use Rattle.rules.specs.Plan.{Plan, record_length, input_halves, allowed, sources_of, lost_at}
use Rattle.rules.specs.Accepted.{Accepted}
use Rattle.rules.specs.InWords.{Writes, FieldTakes, by_field}
use Rattle.rules.specs.Twins.{shows, reason_of, reason_by, reason}
use Rattle.rules.specs.TwinWords.{Reads, LastReader, this_field, later_field, Drops, Reason, never_read, dropped, covered, tail}
use Rattle.rules.proofs.Base.Tests.{and_left, and_right}
use Rattle.rules.proofs.Halves.RecordLaws.{fits_of}
use Rattle.rules.proofs.Halves.SizeLaws.{length_out_halves}
use Rattle.rules.proofs.Halves.SourceSteps.{length_froms}
use Rattle.rules.proofs.Halves.SourceWords.{writes_or, taken_source}
use Rattle.rules.proofs.Twins.ShowsLaws.{reads_words, shows_takes, takes_shows, not_shown, drops_not}
use Rattle.rules.proofs.Keeping.KeepingSteps.{occurs_at}
use Rattle.rules.proofs.Keeping.KeepingLaws.{lowest_passes, second_passes}
use Rattle.rules.proofs.Keeping.Twins.{lost_missing}
use Rattle.rules.proofs.Twins.TwinLaws.{missing_two}

-- ---- the last field that reads a half

not_reads : (f : Field) (h : ℕ) → reads f h ≡ false → Reads f h → ⊥
not_reads f h e r = true≢false (sym ((reads_words f h).1 r) ∙ e)

module _ (h : ℕ) where
  abbrev Unread : List Field → Type 0
  Unread fs = All (λ f. Reads f h → ⊥) fs

  last_reads : {fs : List Field} {f : Field} {after : List Field} → LastReader h fs f after → Reads f h
  last_reads (this_field r n) = r
  last_reads (later_field l) = last_reads l

  not_unread : {fs : List Field} {f : Field} {after : List Field} → LastReader h fs f after → Unread fs → ⊥
  not_unread (this_field r n) (also u us) = u r
  not_unread (later_field l) (also u us) = not_unread l us

  -- there is one
  last_once : {fs : List Field} {f g : Field} {after more : List Field} → LastReader h fs f after → LastReader h fs g more → f ≡ g
  last_once (this_field r n) (this_field s m) = refl
  last_once (this_field r n) (later_field l) = absurd (not_unread l n)
  last_once (later_field l) (this_field r n) = absurd (not_unread l n)
  last_once (later_field k) (later_field l) = last_once k l

  all_last : {P : Field → Type 0} {fs : List Field} {f : Field} {after : List Field} → All P fs → LastReader h fs f after → P f
  all_last (also p ps) (this_field r n) = p
  all_last (also p ps) (later_field l) = all_last ps l
  all_last {P = P} {f = f} {after = after} no_more x3 = elim x3 [ ]

  -- the fields before it
  split_at : {fs : List Field} {f : Field} {after : List Field} → LastReader h fs f after → (before : List Field) × (fs ≡ before ++ (f ∷ after))
  split_at (this_field r n) = ([], refl)
  split_at (later_field {e = e} l) = let w = split_at l in (e ∷ w.0, cc)

  -- what all fields permit it permits
  last_allows : (zone v : ℕ) {fs : List Field} {f : Field} {after : List Field} → LastReader h fs f after → permitted zone fs h v ≡ true → allows zone f h v ≡ true
  last_allows zone v (this_field {f = f} r n) e = and_left (allows zone f h v) _ e
  last_allows zone v (later_field {e = d} l) e = last_allows zone v l (and_right (allows zone d h v) _ e)

  module _ (zone many : ℕ) where
    -- it decides
    by_last : (x : ℕ) (fs : List Field)
        → (Unread fs × (reason_by zone many h x fs ≡ x)) ⊎ ((f : Field) × (after : List Field) × LastReader h fs f after × (reason_by zone many h x fs ≡ reason_of zone many h f))
    by_last x [] = inl (no_more, refl)
    by_last x (f ∷ fs) = go (reads f h) refl (by_last (cond (reads f h) (reason_of zone many h f) x) fs)
      where
        go : (t : Bool) → reads f h ≡ t
            → (Unread fs × (reason_by zone many h (cond (reads f h) (reason_of zone many h f) x) fs ≡ cond (reads f h) (reason_of zone many h f) x)) ⊎ ((g : Field) × (after : List Field) × LastReader h fs g after × (reason_by zone many h (cond (reads f h) (reason_of zone many h f) x) fs ≡ reason_of zone many h g))
            → (Unread (f ∷ fs) × (reason_by zone many h x (f ∷ fs) ≡ x))
            ⊎ ((g : Field) × (after : List Field) × LastReader h (f ∷ fs) g after × (reason_by zone many h x (f ∷ fs) ≡ reason_of zone many h g))
        go t e (inr w) = inr (w.0, w.1, later_field w.2, w.3)
        go true e (inl w) = inr (f, fs, this_field ((reads_words f h).0 e) w.0, w.1 ∙ rw e)
        go false e (inl w) = inl (also (not_reads f h e) w.0, w.1 ∙ rw e)

-- some field writes half g of the output, or none does
some_writes : (fs : List Field) (g : ℕ) → Some (λ e. Writes e g) fs ⊎ All (λ e. Writes e g → ⊥) fs
some_writes [] g = inr no_more
some_writes (f ∷ fs) g = go (writes_or f g) (some_writes fs g)
  where
    go : Writes f g ⊎ (Writes f g → ⊥) → Some (λ e. Writes e g) fs ⊎ All (λ e. Writes e g → ⊥) fs → Some (λ e. Writes e g) (f ∷ fs) ⊎ All (λ e. Writes e g → ⊥) (f ∷ fs)
    go (inl w) r = inl (this w)
    go (inr n) (inl s) = inl (that s)
    go (inr n) (inr a) = inr (also n a)

-- ---- the reason of a plan that loses

module _ (p : Plan) (z : p.zone < 16) (ok : Accepted p) where
  fits : All (Fits (record_length p.input) (record_length p.output)) p.fields
  fits = fits_of p ok

  -- why a missing half is lost
  module _ (h : ℕ) (l : h < input_halves p) (gone : missing (allowed p) (sources_of p) h ≡ true) where
    missed : occurs h (sources_of p) ≡ false
    unfolding missing
    missed = not-true _ (and_right (leb 2 (choices (allowed p) h)) _ gone)

    -- a half that is written and missing is covered by a later field
    covers : (f : Field) (after : List Field) → LastReader h p.fields f after → (g : ℕ) → Writes f g → FieldTakes p.zone f g (from h) → Some (λ e. Writes e g) after
    unfolding sources_of sources input_halves
    covers f after r g w t = go (some_writes after g)
      where
        e : Source
        e = constant (blank 0)

        inside : g < 2 * record_length p.output
        inside = let k = all_last h fits r in omega (arith, w.1, k.output_high, k.t_low)

        go : Some (λ e. Writes e g) after ⊎ All (λ e. Writes e g → ⊥) after → Some (λ e. Writes e g) after
        go (inl s) = s
        go (inr n) =
            let k = split_at h r in
            let taken = taken_source p.zone (record_length p.input) (record_length p.output) e p.fields fits g inside (from h) (by_field k.0 f after k.1 w n t) in
            absurd (true≢false (sym (occurs_at h e g (sources_of p) (omega (arith, length_sources, inside)) taken) ∙ missed))
          where
            length_sources : length (sources_of p) ≡ 2 * record_length p.output
            length_sources = length_out_halves p.zone constant _ _ p.fields _ fits (length_froms 0 (2 * record_length p.input))

    -- a half that is not written is one for which its field is too short
    drops : (f : Field) (after : List Field) → LastReader h p.fields f after → shows p.zone (input_halves p) h f ≡ false → Drops f h
    unfolding input_halves allowed
    drops f after r e = go (not_shown p.zone _ _ f (all_last h fits r) h (last_reads h r) e)
      where
        go : Drops f h ⊎ ((v : ℕ) → v < 16 → allows p.zone f h v ≡ true → v ≡ p.zone) → Drops f h
        go (inl d) = d
        go (inr one) =
            let two = missing_two p h gone in
            let a = lowest_passes (allowed p) h (omega arith) in
            let b = second_passes (allowed p) h two in
            absurd (omega (arith, b.0, one _ a.0 (last_allows h p.zone _ r a.1), one _ b.1 (last_allows h p.zone _ r b.2)))

    pub reason_half : Reason p h (reason_by p.zone (input_halves p) h 1 p.fields)
    unfolding reason_of input_halves
    reason_half = go (by_last h p.zone (input_halves p) 1 p.fields)
      where
        of_field : (f : Field) (after : List Field) → LastReader h p.fields f after → (t : Bool) → shows p.zone (input_halves p) h f ≡ t → Reason p h (cond t 3 2)
        of_field f after r true e =
            let w = shows_takes p.zone _ _ f (all_last h fits r) h e in
            covered l r w.0 w.1 w.2 (covers f after r w.0 w.1 w.2)
        of_field f after r false e = dropped l r (drops f after r e)

        go : (Unread h p.fields × (reason_by p.zone (input_halves p) h 1 p.fields ≡ 1))
            ⊎ ((f : Field) × (after : List Field) × LastReader h p.fields f after
            × (reason_by p.zone (input_halves p) h 1 p.fields ≡ reason_of p.zone (input_halves p) h f))
            → Reason p h (reason_by p.zone (input_halves p) h 1 p.fields)
        go (inl w) = subst (Reason p h) (sym w.1) (never_read l w.0)
        go (inr w) = subst (Reason p h) (sym w.3) (of_field w.0 w.1 w.2 (shows p.zone (input_halves p) h w.0) refl)

  pub reason_holds : lost_at p ≤ input_halves p → Reason p (lost_at p) (reason p)
  unfolding reason
  reason_holds m = go (eqb (lost_at p) (input_halves p)) refl
    where
      go : (t : Bool) → eqb (lost_at p) (input_halves p) ≡ t → Reason p (lost_at p) (cond t 4 (reason_by p.zone (input_halves p) (lost_at p) 1 p.fields))
      go true t = tail (eqb-true _ _ t)
      go false t = let n = eqb-false (lost_at p) (input_halves p) t in let l : lost_at p < input_halves p = omega arith in reason_half (lost_at p) l (lost_missing p l)

  -- ---- one reason

  -- a half that a field drops it does not write
  not_both : (h : ℕ) (f g : Field) (after more : List Field) → LastReader h p.fields f after → LastReader h p.fields g more → Drops f h
      → (o : ℕ) → Writes g o → FieldTakes p.zone g o (from h) → ⊥
  not_both h f g after more k l d o w t =
      let fit = all_last h fits k in
      let e : g ≡ f = last_once h l k in
      true≢false
      (sym (takes_shows p.zone _ _ f fit h o (subst (λ (x : Field). Writes x o) e w) (subst (λ (x : Field). FieldTakes p.zone x o (from h)) e t)) ∙ drops_not p.zone _ _ f fit h d)

  pub reason_once : (h a b : ℕ) → Reason p h a → Reason p h b → a ≡ b
  reason_once h a b (never_read l n) (never_read m o) = refl
  reason_once h a b (never_read l n) (dropped m r d) = absurd (not_unread h r n)
  reason_once h a b (never_read l n) (covered m r g w t s) = absurd (not_unread h r n)
  reason_once h a b (never_read l n) (tail e) = absurd (omega arith)
  reason_once h a b (dropped l r d) (never_read m n) = absurd (not_unread h r n)
  reason_once h a b (dropped l r d) (dropped m q c) = refl
  reason_once h a b (dropped l r d) (covered m q g w t s) = absurd (not_both h _ _ _ _ r q d g w t)
  reason_once h a b (dropped l r d) (tail e) = absurd (omega arith)
  reason_once h a b (covered l r g w t s) (never_read m n) = absurd (not_unread h r n)
  reason_once h a b (covered l r g w t s) (dropped m q d) = absurd (not_both h _ _ _ _ q r d g w t)
  reason_once h a b (covered l r g w t s) (covered m q o x u v) = refl
  reason_once h a b (covered l r g w t s) (tail e) = absurd (omega arith)
  reason_once h a b (tail e) (never_read m n) = absurd (omega arith)
  reason_once h a b (tail e) (dropped m r d) = absurd (omega arith)
  reason_once h a b (tail e) (covered m r g w t s) = absurd (omega arith)
  reason_once h a b (tail e) (tail f) = refl

  pub reason_exactly : lost_at p ≤ input_halves p → (k : ℕ) → (reason p ≡ k) ↔ Reason p (lost_at p) k
  reason_exactly m k = (λ e. subst (Reason p (lost_at p)) e (reason_holds m), λ r. reason_once (lost_at p) (reason p) k (reason_holds m) r)
