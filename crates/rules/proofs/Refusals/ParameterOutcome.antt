-- Refusals 4 and 5 of a U card: two parameters of one letter, and a missing T, F, A or B. By cases on the parameters, each of which notes one thing.
use mathlib.Core.Path.{◌≡◌, refl, ap, sym, ◌∙◌, subst}
use mathlib.Core.Logic.{◌⊎◌, inl, inr}
use mathlib.Core.Bool.{Bool, true, false, not, and-false, or-true, true≢false, false≢true}
use mathlib.Core.List.{List, [], ◌∷◌, map}
use mathlib.Core.Option.{Option, none, some, none-ne-some, some-injective}
use Prim.Native.Nat.{ℕ, zero, suc}
use native.Mathlib.Omega.{arith}
use lib.Dec.{eqb}
use borrow.Author.Tests.{eqb-true, eqb-false, eq-eqb}
use Rattle.rules.specs.Answer.{fine, ◌>>=◌}
use Rattle.rules.specs.Places.{Some, this, that}
use Rattle.rules.specs.Grammar.{Mode, Format, Size, Input, Parameter, mode_is, format_is, input_is, output_is, rewind_in, rewind_out, first_is}
use Rattle.rules.specs.Asked.{letter, among, distinct, GivenParameters, note, given, need, Utility, complete}
use Rattle.rules.specs.Rows.{Alike, both_t, both_f, both_a, both_b, both_i, both_o, both_r, Twice, again, after, IsT, a_t, IsF, an_f, IsA, an_a, IsB, a_b, IsR, an_r, Missing, Complete}
use Rattle.rules.proofs.Refusals.AnswerLaws.{not_fine, fine_same, bind_fine}
use Rattle.rules.proofs.Refusals.Given.{Outcome, outcome_same, some_long, some_map}

-- ---- parameters of one letter

pub data IsI : Parameter → Type 0 where
  an_i : IsI rewind_in

pub data IsO : Parameter → Type 0 where
  an_o : IsO rewind_out

-- a parameter of this letter
abbrev pub Of : ℕ → Parameter → Type 0
Of zero x = IsT x
Of (suc zero) x = IsF x
Of (suc (suc zero)) x = IsA x
Of (suc (suc (suc zero))) x = IsB x
Of (suc (suc (suc (suc zero)))) x = IsI x
Of (suc (suc (suc (suc (suc zero))))) x = IsO x
Of (suc (suc (suc (suc (suc (suc k)))))) x = IsR x

of_own : (x : Parameter) → Of (letter x) x
of_own (mode_is m) = a_t
of_own (format_is f) = an_f
of_own (input_is s) = an_a
of_own (output_is s) = a_b
of_own rewind_in = an_i
of_own rewind_out = an_o
of_own (first_is n) = an_r

pub of_letter : (k : ℕ) (x : Parameter) → letter x ≡ k → Of k x
of_letter k x e = subst (λ (i : ℕ). Of i x) e (of_own x)

letter_t : (x : Parameter) → IsT x → letter x ≡ 0
letter_t (mode_is m) a_t = refl
letter_t _ z = elim z [ ]

letter_f : (x : Parameter) → IsF x → letter x ≡ 1
letter_f (format_is f) an_f = refl
letter_f _ z = elim z [ ]

letter_a : (x : Parameter) → IsA x → letter x ≡ 2
letter_a (input_is s) an_a = refl
letter_a _ z = elim z [ ]

letter_b : (x : Parameter) → IsB x → letter x ≡ 3
letter_b (output_is s) a_b = refl
letter_b _ z = elim z [ ]

letter_r : (x : Parameter) → IsR x → letter x ≡ 6
letter_r (first_is n) an_r = refl
letter_r _ z = elim z [ ]

pub alike_letter : (x y : Parameter) → Alike x y → letter y ≡ letter x
alike_letter (mode_is m) (mode_is m') both_t = refl
alike_letter (format_is f) (format_is f') both_f = refl
alike_letter (input_is s) (input_is s') both_a = refl
alike_letter (output_is s) (output_is s') both_b = refl
alike_letter rewind_in rewind_in both_i = refl
alike_letter rewind_out rewind_out both_o = refl
alike_letter (first_is n) (first_is n') both_r = refl
alike_letter _ _ z = elim z [ ]

pub alike_of : (x y : Parameter) → Of (letter x) y → Alike x y
alike_of (mode_is m) (mode_is m') a_t = both_t
alike_of (format_is f) (format_is f') an_f = both_f
alike_of (input_is s) (input_is s') an_a = both_a
alike_of (output_is s) (output_is s') a_b = both_b
alike_of rewind_in rewind_in an_i = both_i
alike_of rewind_out rewind_out an_o = both_o
alike_of (first_is n) (first_is n') an_r = both_r
alike_of _ _ z = elim z [ ]

-- ---- refusal 4: a parameter stands twice

pub among_some : (k : ℕ) (us : List Parameter) → among k (map letter us) ≡ true → Some (λ y. letter y ≡ k) us
among_some k [] e = absurd (false≢true e)
among_some k (u ∷ us) e = go (λ e'. among_some k us e') (eqb k (letter u)) refl
  where
    go : (among k (map letter us) ≡ true → Some (λ y. letter y ≡ k) us) → (t : Bool) → eqb k (letter u) ≡ t → Some (λ y. letter y ≡ k) (u ∷ us)
    go ih true t = this (sym (eqb-true k (letter u) t))
    go ih false t = that (ih (rw t at e))

pub some_among : (k : ℕ) (us : List Parameter) → Some (λ y. letter y ≡ k) us → among k (map letter us) ≡ true
some_among k [] s = absurd (omega (arith, some_long s))
some_among k (u ∷ us) (this e) = rw (eq-eqb k (letter u) (sym e))
some_among k (u ∷ us) (that s) = rw (some_among k us s) (or-true (eqb k (letter u)))

pub twice_of : (us : List Parameter) → distinct (map letter us) ≡ false → Twice us
twice_of [] e = absurd (true≢false e)
twice_of (u ∷ us) e = go (λ e'. twice_of us e') (among (letter u) (map letter us)) refl
  where
    go : (distinct (map letter us) ≡ false → Twice us) → (t : Bool) → among (letter u) (map letter us) ≡ t → Twice (u ∷ us)
    go ih true t = again (some_map (λ y e. alike_of u y (of_letter (letter u) y e)) (among_some (letter u) us t))
    go ih false t = after (ih (rw t at e))

pub of_twice : (us : List Parameter) → Twice us → distinct (map letter us) ≡ false
of_twice (u ∷ us) (again s) = rw (some_among (letter u) us (some_map (λ y e. alike_letter u y e) s))
of_twice (u ∷ us) (after t) = rw (of_twice us t) (and-false (not (among (letter u) (map letter us))))
of_twice [] x' = elim x' [ ]

-- ---- refusal 5: T, F, A or B is missing

abbrev Lacks : GivenParameters → Type 0
Lacks g = (g.mode ≡ none) ⊎ ((g.format ≡ none) ⊎ ((g.input ≡ none) ⊎ (g.output ≡ none)))

complete_outcome : (g : GivenParameters) → Outcome 5 (λ p. (p ≡ 1) × Lacks g) (complete g)
unfolding complete ◌>>=◌
complete_outcome g = go g.mode g.format g.input g.output refl refl refl refl
  where
    go : (a : Option Mode) (b : Option Format) (c : Option Input) (d : Option Size) → g.mode ≡ a → g.format ≡ b → g.input ≡ c → g.output ≡ d
        → Outcome 5 (λ p. (p ≡ 1) × Lacks g) (complete g)
    go none b c d ea eb ec ed = rw ea (refl, (refl, inl refl), λ q l f. omega (arith, f.0))
    go (some a) none c d ea eb ec ed = rw (ea, eb) (refl, (refl, inr (inl refl)), λ q l f. omega (arith, f.0))
    go (some a) (some b) none d ea eb ec ed = rw (ea, eb, ec) (refl, (refl, inr (inr (inl refl))), λ q l f. omega (arith, f.0))
    go (some a) (some b) (some c) none ea eb ec ed = rw (ea, eb, ec, ed) (refl, (refl, inr (inr (inr refl))), λ q l f. omega (arith, f.0))
    go (some a) (some b) (some c) (some d) ea eb ec ed = rw (ea, eb, ec, ed) (λ p f. lacks f.1)
      where
        lacks : (some a ≡ none) ⊎ ((some b ≡ none) ⊎ ((some c ≡ none) ⊎ (some d ≡ none))) → ⊥
        lacks (inl e) = none-ne-some a (sym e)
        lacks (inr (inl e)) = none-ne-some b (sym e)
        lacks (inr (inr (inl e))) = none-ne-some c (sym e)
        lacks (inr (inr (inr e))) = none-ne-some d (sym e)

-- a parameter notes its own part, and passes the others
record Passes (x : Parameter) (g : GivenParameters) : Type 0 where
  mode : (letter x ≡ 0 → ⊥) → (note x g).mode ≡ g.mode
  format : (letter x ≡ 1 → ⊥) → (note x g).format ≡ g.format
  input : (letter x ≡ 2 → ⊥) → (note x g).input ≡ g.input
  output : (letter x ≡ 3 → ⊥) → (note x g).output ≡ g.output
  first : (letter x ≡ 6 → ⊥) → (note x g).first ≡ g.first

passes : (x : Parameter) (g : GivenParameters) → Passes x g
passes (mode_is m) g = record { mode = λ h. absurd (h refl); format = λ h. refl; input = λ h. refl; output = λ h. refl; first = λ h. refl }
passes (format_is f) g = record { mode = λ h. refl; format = λ h. absurd (h refl); input = λ h. refl; output = λ h. refl; first = λ h. refl }
passes (input_is s) g = record { mode = λ h. refl; format = λ h. refl; input = λ h. absurd (h refl); output = λ h. refl; first = λ h. refl }
passes (output_is s) g = record { mode = λ h. refl; format = λ h. refl; input = λ h. refl; output = λ h. absurd (h refl); first = λ h. refl }
passes rewind_in g = record { mode = λ h. refl; format = λ h. refl; input = λ h. refl; output = λ h. refl; first = λ h. refl }
passes rewind_out g = record { mode = λ h. refl; format = λ h. refl; input = λ h. refl; output = λ h. refl; first = λ h. refl }
passes (first_is n) g = record { mode = λ h. refl; format = λ h. refl; input = λ h. refl; output = λ h. refl; first = λ h. absurd (h refl) }

-- a part of what is given, by the parameters of its letter k; Is says that a parameter has the letter
module _ {A B : Type 0} (k : ℕ) (part : GivenParameters → B) (is : A → Parameter) (value : A → B) (passed : (x : Parameter) (g : GivenParameters) → (letter x ≡ k → ⊥) → part (note x g) ≡ part g)
    (Is : Parameter → Type 0) (of : (x : Parameter) → letter x ≡ k → Is x) where
  -- where one of them says it, and no two stand there
  part_said : ((a : A) → letter (is a) ≡ k) → ((a : A) (g : GivenParameters) → part (note (is a) g) ≡ value a) → (a : A) (us : List Parameter) → (Twice us → ⊥)
      → Some (λ x. x ≡ is a) us → part (given us) ≡ value a
  part_said own says a (u ∷ us) once (this e) = ap (λ (x : Parameter). part (note x (given us))) e ∙ says a (given us)
  part_said own says a (u ∷ us) once (that s) =
      passed u (given us) (λ e. once (again (some_map (λ y q. alike_of u y (of_letter (letter u) y (ap letter q ∙ own a ∙ sym e))) s)))
      ∙ part_said own says a us (λ t. once (after t)) s
  part_said own says a [] once x'' = elim x'' [ ]

  -- where none of them stands there
  part_unsaid : (us : List Parameter) → (Some Is us → ⊥) → part (given us) ≡ part (given [])
  part_unsaid [] h = refl
  part_unsaid (u ∷ us) h = passed u (given us) (λ e. h (this (of u e))) ∙ part_unsaid us (λ s. h (that s))

  module _ (to : (x : Parameter) → Is x → letter x ≡ k) where
    -- what is given was said, or nothing was
    said_part : ((x : Parameter) (a : A) (g : GivenParameters) → Is x → part (note x g) ≡ value a → x ≡ is a) → (a : A) (us : List Parameter) → part (given us) ≡ value a
        → Some (λ x. x ≡ is a) us ⊎ ((Some Is us → ⊥) × (part (given []) ≡ value a))
    said_part one a [] e = inr (λ s. omega (arith, some_long s), e)
    said_part one a (u ∷ us) e = go (λ e'. said_part one a us e') (eqb (letter u) k) refl
      where
        further : (letter u ≡ k → ⊥) → Some (λ x. x ≡ is a) us ⊎ ((Some Is us → ⊥) × (part (given []) ≡ value a))
            → Some (λ x. x ≡ is a) (u ∷ us) ⊎ ((Some Is (u ∷ us) → ⊥) × (part (given []) ≡ value a))
        further h (inl s) = inl (that s)
        further h (inr w) = inr (none_of, w.1)
          where
            none_of : Some Is (u ∷ us) → ⊥
            none_of (this d) = h (to u d)
            none_of (that s) = w.0 s

        go : (part (given us) ≡ value a → Some (λ x. x ≡ is a) us ⊎ ((Some Is us → ⊥) × (part (given []) ≡ value a))) → (t : Bool) → eqb (letter u) k ≡ t
            → Some (λ x. x ≡ is a) (u ∷ us) ⊎ ((Some Is (u ∷ us) → ⊥) × (part (given []) ≡ value a))
        go ih true t = inl (this (one u a (given us) (of u (eqb-true (letter u) k t)) e))
        go ih false t = let h : letter u ≡ k → ⊥ = eqb-false (letter u) k t in further h (ih (sym (passed u (given us) h) ∙ e))

    -- a part that no one of them can leave at b was said by none where it is b
    part_missing : (b : B) → ((x : Parameter) (g : GivenParameters) → Is x → part (note x g) ≡ b → ⊥) → (us : List Parameter) → part (given us) ≡ b → Some Is us → ⊥
    part_missing b notes (u ∷ us) e (this d) = notes u (given us) d e
    part_missing b notes (u ∷ us) e (that s) = go (λ e'. part_missing b notes us e' s) (eqb (letter u) k) refl
      where
        go : (part (given us) ≡ b → ⊥) → (t : Bool) → eqb (letter u) k ≡ t → ⊥
        go ih true t = notes u (given us) (of u (eqb-true (letter u) k t)) e
        go ih false t = ih (sym (passed u (given us) (eqb-false (letter u) k t)) ∙ e)
    part_missing b notes [] e x'' = elim x'' [ ]

-- what a parameter of each letter notes
notes_t : (x : Parameter) (m : Mode) (g : GivenParameters) → IsT x → (note x g).mode ≡ some m → x ≡ mode_is m
notes_t (mode_is n) m g a_t e = ap mode_is (some-injective n m e)
notes_t _ _ _ z _ = elim z [ ]

notes_f : (x : Parameter) (f : Format) (g : GivenParameters) → IsF x → (note x g).format ≡ some f → x ≡ format_is f
notes_f (format_is n) f g an_f e = ap format_is (some-injective n f e)
notes_f _ _ _ z _ = elim z [ ]

notes_a : (x : Parameter) (s : Input) (g : GivenParameters) → IsA x → (note x g).input ≡ some s → x ≡ input_is s
notes_a (input_is n) s g an_a e = ap input_is (some-injective n s e)
notes_a _ _ _ z _ = elim z [ ]

notes_b : (x : Parameter) (s : Size) (g : GivenParameters) → IsB x → (note x g).output ≡ some s → x ≡ output_is s
notes_b (output_is n) s g a_b e = ap output_is (some-injective n s e)
notes_b _ _ _ z _ = elim z [ ]

notes_r : (x : Parameter) (n : ℕ) (g : GivenParameters) → IsR x → (note x g).first ≡ n → x ≡ first_is n
notes_r (first_is m) n g an_r e = ap first_is e
notes_r _ _ _ z _ = elim z [ ]

some_t : (x : Parameter) (g : GivenParameters) → IsT x → (note x g).mode ≡ none → ⊥
some_t (mode_is m) g a_t e = none-ne-some m (sym e)
some_t _ _ z _ = elim z [ ]

some_f : (x : Parameter) (g : GivenParameters) → IsF x → (note x g).format ≡ none → ⊥
some_f (format_is f) g an_f e = none-ne-some f (sym e)
some_f _ _ z _ = elim z [ ]

some_a : (x : Parameter) (g : GivenParameters) → IsA x → (note x g).input ≡ none → ⊥
some_a (input_is s) g an_a e = none-ne-some s (sym e)
some_a _ _ z _ = elim z [ ]

some_b : (x : Parameter) (g : GivenParameters) → IsB x → (note x g).output ≡ none → ⊥
some_b (output_is s) g a_b e = none-ne-some s (sym e)
some_b _ _ z _ = elim z [ ]

lacks_missing : (us : List Parameter) → Lacks (given us) → Missing us
lacks_missing us (inl e) = inl (part_missing 0 (λ g. g.mode) mode_is some (λ x g. (passes x g).mode) IsT (of_letter 0) letter_t none some_t us e)
lacks_missing us (inr (inl e)) = inr (inl (part_missing 1 (λ g. g.format) format_is some (λ x g. (passes x g).format) IsF (of_letter 1) letter_f none some_f us e))
lacks_missing us (inr (inr (inl e))) = inr (inr (inl (part_missing 2 (λ g. g.input) input_is some (λ x g. (passes x g).input) IsA (of_letter 2) letter_a none some_a us e)))
lacks_missing us (inr (inr (inr e))) = inr (inr (inr (part_missing 3 (λ g. g.output) output_is some (λ x g. (passes x g).output) IsB (of_letter 3) letter_b none some_b us e)))

missing_lacks : (us : List Parameter) → Missing us → Lacks (given us)
missing_lacks us (inl h) = inl (part_unsaid 0 (λ g. g.mode) mode_is some (λ x g. (passes x g).mode) IsT (of_letter 0) us h)
missing_lacks us (inr (inl h)) = inr (inl (part_unsaid 1 (λ g. g.format) format_is some (λ x g. (passes x g).format) IsF (of_letter 1) us h))
missing_lacks us (inr (inr (inl h))) = inr (inr (inl (part_unsaid 2 (λ g. g.input) input_is some (λ x g. (passes x g).input) IsA (of_letter 2) us h)))
missing_lacks us (inr (inr (inr h))) = inr (inr (inr (part_unsaid 3 (λ g. g.output) output_is some (λ x g. (passes x g).output) IsB (of_letter 3) us h)))

pub missing_outcome : (us : List Parameter) → Outcome 5 (λ p. (p ≡ 1) × Missing us) (complete (given us))
missing_outcome us =
    outcome_same 5 _ _ (complete (given us)) (λ p f. (f.0, lacks_missing us f.1)) (λ p f. (f.0, missing_lacks us f.1)) (complete_outcome (given us))

-- ---- what a U card asks for, where nothing is missing

need_fine : {A : Type 0} (o : Option A) (a : A) → need o ≡ fine a → o ≡ some a
need_fine none a e = absurd (not_fine _ a e)
need_fine (some b) a e = ap some (fine_same b a e)

abbrev whole : Utility → GivenParameters
whole u = record { mode = some u.mode; format = some u.format; input = some u.input; output = some u.output; first = u.first }

given_whole : (us : List Parameter) (u : Utility) → complete (given us) ≡ fine u → given us ≡ whole u
unfolding complete
given_whole us u e =
    let x = given us in
    let s1 = bind_fine _ _ u e in
    let s2 = bind_fine _ _ u s1.2 in
    let s3 = bind_fine _ _ u s2.2 in
    let s4 = bind_fine _ _ u s3.2 in
    let q = fine_same _ u s4.2 in
    let a = need_fine _ _ s1.1 in
    let b = need_fine _ _ s2.1 in
    let c = need_fine _ _ s3.1 in
    let d = need_fine _ _ s4.1 in
    let r : x ≡ whole (record { mode = s1.0; format = s2.0; input = s3.0; output = s4.0; first = x.first })
    = λ i. record { mode = a i; format = b i; input = c i; output = d i; first = x.first } in
    r ∙ ap whole q

-- a part that is given but stands nowhere was given before the first parameter, and T, F, A and B were not
stands : {A : Type 0} {P : Type 0} {Q : Type 0} (a : A) → P ⊎ (Q × (none ≡ some a)) → P
stands a (inl p) = p
stands a (inr w) = absurd (none-ne-some a w.1)

pub complete_fine : (us : List Parameter) (u : Utility) → complete (given us) ≡ fine u → Complete us u
complete_fine us u e =
    let g = given_whole us u e in
    record {
      mode = stands u.mode (said_part 0 (λ g. g.mode) mode_is some (λ x g. (passes x g).mode) IsT (of_letter 0) letter_t notes_t u.mode us (ap (λ (z : GivenParameters). z.mode) g));
      format = stands u.format (said_part 1 (λ g. g.format) format_is some (λ x g. (passes x g).format) IsF (of_letter 1) letter_f notes_f u.format us (ap (λ (z : GivenParameters). z.format) g));
      input = stands u.input (said_part 2 (λ g. g.input) input_is some (λ x g. (passes x g).input) IsA (of_letter 2) letter_a notes_a u.input us (ap (λ (z : GivenParameters). z.input) g));
      output = stands u.output (said_part 3 (λ g. g.output) output_is some (λ x g. (passes x g).output) IsB (of_letter 3) letter_b notes_b u.output us (ap (λ (z : GivenParameters). z.output) g));
      first = by_default (said_part 6 (λ g. g.first) first_is (λ n. n) (λ x g. (passes x g).first) IsR (of_letter 6) letter_r notes_r u.first us (ap (λ (z : GivenParameters). z.first) g));
    }
  where
    by_default : Some (λ x. x ≡ first_is u.first) us ⊎ ((Some IsR us → ⊥) × (1 ≡ u.first)) → Some (λ x. x ≡ first_is u.first) us ⊎ ((Some IsR us → ⊥) × (u.first ≡ 1))
    by_default (inl s) = inl s
    by_default (inr w) = inr (w.0, sym w.1)

-- where no parameter stands twice, what is complete is what is given
whole_given : (us : List Parameter) (u : Utility) → (Twice us → ⊥) → Complete us u → given us ≡ whole u
whole_given us u once c =
    let a = part_said 0 (λ g. g.mode) mode_is some (λ x g. (passes x g).mode) IsT (of_letter 0) (λ m. refl) (λ m g. refl) u.mode us once c.mode in
    let b = part_said 1 (λ g. g.format) format_is some (λ x g. (passes x g).format) IsF (of_letter 1) (λ m. refl) (λ m g. refl) u.format us once c.format in
    let d = part_said 2 (λ g. g.input) input_is some (λ x g. (passes x g).input) IsA (of_letter 2) (λ m. refl) (λ m g. refl) u.input us once c.input in
    let e = part_said 3 (λ g. g.output) output_is some (λ x g. (passes x g).output) IsB (of_letter 3) (λ m. refl) (λ m g. refl) u.output us once c.output in
    let f = first_is_lem c.first in
    λ k. record { mode = a k; format = b k; input = d k; output = e k; first = f k }
  where
    first_is_lem : Some (λ x. x ≡ first_is u.first) us ⊎ ((Some IsR us → ⊥) × (u.first ≡ 1)) → (given us).first ≡ u.first
    first_is_lem (inl s) = part_said 6 (λ g. g.first) first_is (λ n. n) (λ x g. (passes x g).first) IsR (of_letter 6) (λ m. refl) (λ m g. refl) u.first us once s
    first_is_lem (inr w) = part_unsaid 6 (λ g. g.first) first_is (λ n. n) (λ x g. (passes x g).first) IsR (of_letter 6) us w.0 ∙ sym w.1

pub complete_same : (us : List Parameter) (g h : Utility) → (Twice us → ⊥) → Complete us g → Complete us h → g ≡ h
complete_same us g h once a b =
    let e = sym (whole_given us g once a) ∙ whole_given us h once b in
    let m : g.mode ≡ h.mode = some-injective _ _ (ap (λ (z : GivenParameters). z.mode) e) in
    let f : g.format ≡ h.format = some-injective _ _ (ap (λ (z : GivenParameters). z.format) e) in
    let i : g.input ≡ h.input = some-injective _ _ (ap (λ (z : GivenParameters). z.input) e) in
    let o : g.output ≡ h.output = some-injective _ _ (ap (λ (z : GivenParameters). z.output) e) in
    let r : g.first ≡ h.first = ap (λ (z : GivenParameters). z.first) e in
    λ k. record { mode = m k; format = f k; input = i k; output = o k; first = r k }
