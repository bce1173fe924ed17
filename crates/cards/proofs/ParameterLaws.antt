-- What is noted of the U card's parameters, one after another, is what the rules say of all of them: a letter that stood before makes the parameter a
-- second one, and another is noted. So the card is read parameter by parameter, to its end or to where it stops.
use mathlib.Core.Path.{◌≡◌, refl, ap, sym, ◌∙◌, subst}
use mathlib.Core.Bool.{Bool, true, false, cond, not, ◌&&◌, ◌||◌, and-true, and-false, or-true, or-false}
use mathlib.Core.List.{List, [], ◌∷◌, ◌++◌, map, map-append}
use Prim.Native.Nat.{ℕ, zero, suc, ◌+◌, ◌≤◌, ◌<◌}
use native.Mathlib.Numerals.{add-one}
use native.Mathlib.Omega.{arith}
use lib.Dec.{eqb}
use lib.ListN.{length, take, drop, get_or, set, replicate, length-set, length-drop, drop_of_length-le}
use lib.Seq.{drop-cons, drop-drop, get_or-set_same, get_or-set_other, length-take-le}
use borrow.Author.Tests.{eqb-true, eqb-false, ne_eqb}
use Rattle.rules.specs.Places.{All, also}
use Rattle.rules.specs.Reader.{Read, read, stopped, list_of}
use Rattle.rules.specs.Grammar.{Format as RuleFormat, ff, fv, Parameter, mode_is, format_is, input_is, output_is, rewind_in, rewind_out, first_is, parameter}
use Rattle.rules.specs.Words.{Worded, worded, values_of, again_column, number_columns, outside_column, first_column, outside_among}
use Rattle.rules.specs.Asked.{letter, among, distinct, same_letter, parameter_numbers, GivenParameters, note, given}
use Rattle.rules.proofs.Grammar.ReaderLaws.{Within}
use Rattle.rules.proofs.Grammar.ParameterLaws.{within_parameter}
use Rattle.rules.proofs.Deck.ParameterSteps.{among_last, distinct_last, given_new, given_again}
use Rattle.rules.proofs.Grammar.ListLaws.{ahead, ahead_none, ahead_more, ahead_last, ahead_other, ahead_stop}
use Rattle.rules.proofs.Columns.WordedLaws.{within_worded}
use Rattle.rules.proofs.Columns.WordColumns.{word_taken, worded_stops, columns_shift, first_zero, width, width_last, values_last, outside_last, again_last}
use Rattle.terms.specs.Meaning.{mode_of, format_of, size_of, input_of}
use Rattle.readers.specs.declared.UParameter.{UParameter}
use Rattle.readers.specs.declared.UParameter.TheVariants.{ModeIs, FormatIs, InputIs, OutputIs, RewindIn, RewindOut, FirstIs}
use Rattle.std.specs.Prelude.{Ok, Err}
use Rattle.readers.specs.declared.Stop.{Stop}
use Rattle.readers.specs.declared.Placed.{Placed}
use Rattle.readers.specs.Meaning.{second_in, parameter_of, parameter_places, ParameterSays}
use Rattle.readers.proofs.Callers.{parameter_places_lem, places_inside}
use Rattle.limits.specs.Limits.{shifted, parameter_outside}
use Rattle.cards.specs.declared.Parameters.{Parameters}
use Rattle.cards.specs.declared.OutsideColumns.{OutsideColumns}
use Rattle.cards.specs.declared.URead.{URead}
use Rattle.cards.specs.Parameters.{no_parameter, with_part, with_letter, with_second, with_parameter, none_outside, with_numbers, has_seen, option, given_of, Notes, NotesOutside, UListed}

pub letter_small : (p : Parameter) → letter p < 7
letter_small (mode_is m) = omega arith
letter_small (format_is f) = omega arith
letter_small (input_is s) = omega arith
letter_small (output_is s) = omega arith
letter_small rewind_in = omega arith
letter_small rewind_out = omega arith
letter_small (first_is n) = omega arith

-- ---- no parameter

none_seen : (n k : ℕ) → get_or (replicate n false) k false ≡ false
none_seen zero k = refl
none_seen (suc n) zero = refl
none_seen (suc n) (suc k) = none_seen n k

notes_none : (c : ℕ) → Notes c no_parameter []
unfolding no_parameter given_of
notes_none c = record { room = refl; seen = none_seen 7; once = refl; twice = refl; given = refl }

-- ---- a letter more

seen_or : (x : Parameters) (k j : ℕ) → length x.seen ≡ 7 → k < 7 → has_seen (with_letter x k) j ≡ (eqb j k || has_seen x j)
unfolding with_letter
seen_or x k j room l = go (eqb j k) refl
  where
    go : (t : Bool) → eqb j k ≡ t → get_or (set x.seen k true) j false ≡ (t || has_seen x j)
    go true e =
        ap (λ (n : ℕ). get_or (set x.seen k true) n false) (eqb-true j k e) ∙ get_or-set_same x.seen k true false (omega arith)
    go false e = get_or-set_other x.seen k j true false (eqb-false j k e)

letter_kept : (x : Parameters) (k : ℕ) → (length (with_letter x k).seen ≡ length x.seen) × ((with_letter x k).twice ≡ x.twice)
unfolding with_letter
letter_kept x k = (length-set x.seen k true, refl)

-- what is given once the letter has stood
abbrev marked : Parameters → ℕ → GivenParameters
marked x k =
    record {
      mode = option (eqb 0 k || has_seen x 0) (mode_of x.mode);
      format = option (eqb 1 k || has_seen x 1) (format_of x.format);
      input = option (eqb 2 k || has_seen x 2) (input_of x.input);
      output = option (eqb 3 k || has_seen x 3) (size_of x.output);
      first = x.first;
    }

given_marked : (x : Parameters) (k : ℕ) → length x.seen ≡ 7 → k < 7 → given_of (with_letter x k) ≡ marked x k
unfolding given_of with_letter
given_marked x k room l =
    λ i. record {
      mode = option (seen_or x k 0 room l i) (mode_of x.mode);
      format = option (seen_or x k 1 room l i) (format_of x.format);
      input = option (seen_or x k 2 room l i) (input_of x.input);
      output = option (seen_or x k 3 room l i) (size_of x.output);
      first = x.first;
    }

part_marked : (st : Parameters) (p : UParameter) → note (parameter_of p) (given_of st) ≡ marked (with_part st p) (letter (parameter_of p))
unfolding given_of with_part
part_marked st (ModeIs m) = refl
part_marked st (FormatIs f) = refl
part_marked st (InputIs s) = refl
part_marked st (OutputIs s) = refl
part_marked st RewindIn = refl
part_marked st RewindOut = refl
part_marked st (FirstIs n) = refl

-- a part leaves the letters
part_letters : (st : Parameters) (p : UParameter) → ((with_part st p).seen ≡ st.seen) × ((with_part st p).twice ≡ st.twice)
unfolding with_part
part_letters st (ModeIs m) = (refl, refl)
part_letters st (FormatIs f) = (refl, refl)
part_letters st (InputIs s) = (refl, refl)
part_letters st (OutputIs s) = (refl, refl)
part_letters st RewindIn = (refl, refl)
part_letters st RewindOut = (refl, refl)
part_letters st (FirstIs n) = (refl, refl)

-- ---- a parameter more

first_not_0 : (t c : ℕ) → 1 ≤ c → eqb (first_column t c) 0 ≡ false
first_not_0 zero c l = ne_eqb c 0 (λ q. omega arith)
first_not_0 (suc t) c l = rw (ne_eqb (suc t) 0 (λ q. omega arith)) (ne_eqb (suc t) 0 (λ q. omega arith))

module _ (c : ℕ) (low : 1 ≤ c) (st : Parameters) (ws : List (Worded Parameter)) (h : Notes c st ws) (p : UParameter) (x : List ℕ) where
  abbrev said : Parameter
  said = parameter_of p

  abbrev word : Worded Parameter
  word = record { value = said; text = x }

  abbrev with_said : List (Worded Parameter)
  with_said = ws ++ (word ∷ [])

  abbrev letters : List ℕ
  letters = map letter (values_of ws)

  letters_said : map letter (values_of with_said) ≡ letters ++ (letter said ∷ [])
  letters_said = ap (map letter) (values_last ws word) ∙ map-append letter (values_of ws) (said ∷ [])

  among_said : (j : ℕ) → among j (map letter (values_of with_said)) ≡ (among j letters || eqb j (letter said))
  among_said j = ap (among j) letters_said ∙ among_last j letters (letter said)

  distinct_said : distinct (map letter (values_of with_said)) ≡ (distinct letters && not (among (letter said) letters))
  distinct_said = ap distinct letters_said ∙ distinct_last letters (letter said)

  -- the column of the first that stands again
  again_said : (t : Bool) → among (letter said) letters ≡ t → again_column same_letter [] c with_said ≡ first_column st.twice (cond t (c + width ws) 0)
  again_said t e =
      again_last [] c low ws word
      ∙ (λ i. first_column (sym h.twice i) (cond (or-false (among (letter said) letters) i) (c + width ws) 0))
      ∙ ap (λ (b : Bool). first_column st.twice (cond b (c + width ws) 0)) e

  second_said : among (letter said) letters ≡ true → Notes c (with_second st (c + width ws)) with_said
  unfolding with_second given_of
  second_said e =
      record {
        room = h.room;
        seen = λ j. h.seen j ∙ go j (eqb j (letter said)) refl ∙ sym (among_said j);
        once = first_not_0 st.twice (c + width ws) (omega arith) ∙ sym (distinct_said ∙ ap (λ (t : Bool). distinct letters && not t) e ∙ and-false (distinct letters));
        twice = sym (again_said true e);
        given = h.given ∙ sym (given_again (values_of ws) said e) ∙ ap given (sym (values_last ws word));
      }
    where
      go : (j : ℕ) (t : Bool) → eqb j (letter said) ≡ t → among j letters ≡ (among j letters || eqb j (letter said))
      go j true f = let a : among j letters ≡ true = ap (λ (n : ℕ). among n letters) (eqb-true j (letter said) f) ∙ e in rw a
      go j false f = rw f (sym (or-false (among j letters)))

  first_said : among (letter said) letters ≡ false → Notes c (with_letter (with_part st p) (letter said)) with_said
  first_said e =
      let room : length (with_part st p).seen ≡ 7 = ap length (part_letters st p).0 ∙ h.room in
      let same : (with_letter (with_part st p) (letter said)).twice ≡ st.twice = (letter_kept (with_part st p) (letter said)).1 ∙ (part_letters st p).1 in
      record {
        room = (letter_kept (with_part st p) (letter said)).0 ∙ room;
        seen = λ j. seen_or (with_part st p) (letter said) j room (letter_small said) ∙ turn (eqb j (letter said)) (has_seen (with_part st p) j)
            ∙ ap (λ (t : Bool). t || eqb j (letter said)) (ap (λ (l : List Bool). get_or l j false) (part_letters st p).0 ∙ h.seen j) ∙ sym (among_said j);
        once = ap (λ (k : ℕ). eqb k 0) same ∙ h.once ∙ sym (distinct_said ∙ ap (λ (t : Bool). distinct letters && not t) e ∙ and-true (distinct letters));
        twice = same ∙ sym (first_zero st.twice) ∙ sym (again_said false e);
        given = given_marked (with_part st p) (letter said) room (letter_small said) ∙ sym (part_marked st p) ∙ ap (note said) h.given
            ∙ sym (given_new (values_of ws) said e) ∙ ap given (sym (values_last ws word));
      }
    where
      turn : (a b : Bool) → (a || b) ≡ (b || a)
      turn true b = sym (or-true b)
      turn false b = sym (or-false b)

  notes_more : Notes c (with_parameter st p (c + width ws)) with_said
  unfolding with_parameter
  notes_more = go (get_or st.seen (letter said) false) refl
    where
      go : (t : Bool) → get_or st.seen (letter said) false ≡ t → Notes c (with_parameter st p (c + width ws)) with_said
      go true e = rw e (second_said (sym (h.seen (letter said)) ∙ e))
      go false e = rw e (first_said (sym (h.seen (letter said)) ∙ e))

  -- its numbers
  module _ (second : ℕ) (places : number_columns false 0 x ≡ parameter_places p second) where
    outside_said : (f : RuleFormat) (o : ℕ) → o ≡ outside_among (parameter_numbers f) c ws
        → first_column o (parameter_outside f p second (c + width ws)) ≡ outside_among (parameter_numbers f) c with_said
    outside_said f o e =
        let k : (c + width ws) + 0 ≡ c + width ws = omega arith in
        let q : number_columns false (c + width ws) x ≡ shifted (c + width ws) (parameter_places p second)
        = ap (λ (j : ℕ). number_columns false j x) (sym k) ∙ columns_shift false (c + width ws) 0 x ∙ ap (shifted (c + width ws)) places in
        (λ i. first_column (e i) (outside_column (sym q i) (parameter_numbers f said))) ∙ sym (outside_last (parameter_numbers f) c ws word)

    numbers_more : (o : OutsideColumns) → NotesOutside c o ws → NotesOutside c (with_numbers o p second (c + width ws)) with_said
    numbers_more o n = record { plain = outside_said ff o.plain n.plain; variable = outside_said fv o.variable n.variable }

-- ---- the card, parameter by parameter

abbrev words : List ℕ → Read (List (Worded Parameter))
words s = list_of "," (worded parameter) s

pub record Going (c : ℕ) (s : List ℕ) (st : Parameters) (o : OutsideColumns) (at : ℕ) : Type 0 where
  pub inside : at ≤ length s
  pub so : List (Worded Parameter)
  pub wide : width so ≡ at
  pub notes : Notes c st so
  pub numbers : NotesOutside c o so
  pub on : words s ≡ ahead so (words (drop at s))

pub going_start : (c : ℕ) (s : List ℕ) → Going c s no_parameter none_outside 0
going_start c s =
    record { inside = omega arith; so = []; wide = refl; notes = notes_none c; numbers = record { plain = refl; variable = refl }; on = ahead_none (words s) }

module _ (c : ℕ) (low : 1 ≤ c) (s : List ℕ) (st : Parameters) (o : OutsideColumns) (at : ℕ) (g : Going c s st o at) where
  abbrev takes : Within 1 (worded parameter)
  takes = within_worded parameter within_parameter

  stopped_at : (k : ℕ) → k ≤ length s → words s ≡ stopped (drop k s) → (unread : ℕ) → unread ≡ c + k → UListed c s (words s) (Err (record { card = 1; column = unread }))
  stopped_at k l e unread h = subst (λ (x : Read (List (Worded Parameter))). UListed c s x (Err (record { card = 1; column = unread }))) (sym e) (refl, (k, l, refl, h))

  -- it stops
  pub going_stop : (stop : Stop) → ParameterSays (drop at s) (Err stop) → UListed c s (words s) (Err (record { card = 1; column = c + at + stop.at }))
  going_stop stop e =
      let a = stop.at in
      let m = e.0 in
      stopped_at (at + a) (omega (arith, length-drop at s, g.inside))
      (g.on ∙ ahead_stop "," (worded parameter) takes 44 refl g.so (drop at s) (drop a (drop at s)) (worded_stops parameter (drop at s) (drop a (drop at s)) e.1) ∙ ap stopped (drop-drop a at s))
      (c + at + a) (omega arith)

  module _ (found : Placed UParameter) (e : ParameterSays (drop at s) (Ok found)) where
    abbrev p : UParameter
    p = found.value

    abbrev second : ℕ
    second = found.second

    abbrev n : ℕ
    n = found.used

    pub parameter_inside : at + n ≤ length s
    parameter_inside = let l = e.0.0 in omega (arith, length-drop at s, g.inside)

    -- its second number begins inside it
    pub second_low : second ≤ n
    second_low = rw e.1 (go (number_columns false 0 (take n (drop at s))) (places_inside (take n (drop at s))) (length-take-le n (drop at s) e.0.0))
      where
        go : (cs : List ℕ) → All (λ k. k < length (take n (drop at s))) cs → length (take n (drop at s)) ≡ n → second_in cs ≤ n
        go [] a l = omega arith
        go (c ∷ []) a l = omega arith
        go (c ∷ d ∷ cs) (also p (also q a)) l = omega arith

    abbrev part : List ℕ
    part = take n (drop at s)

    abbrev the_word : Worded Parameter
    the_word = record { value = parameter_of p; text = part }

    behind : worded parameter (drop at s) ≡ read the_word (drop (at + n) s)
    behind = word_taken parameter (drop at s) (parameter_of p) n e.0.1 ∙ ap (read the_word) (drop-drop n at s)

    next : (b : ℕ) → at + n < length s → get_or s (at + n) 0 ≡ b → drop (at + n) s ≡ b ∷ drop (at + n + 1) s
    next b l f = rw (add-one (at + n)) (drop-cons s (at + n) 0 l ∙ ap (λ (x : ℕ). x ∷ drop (suc (at + n)) s) f)

    more : Notes c (with_parameter st p (c + at)) (g.so ++ (the_word ∷ []))
    more = subst (λ (k : ℕ). Notes c (with_parameter st p (c + k)) (g.so ++ (the_word ∷ []))) g.wide (notes_more c low st g.so g.notes p part)

    more_numbers : NotesOutside c (with_numbers o p second (c + at)) (g.so ++ (the_word ∷ []))
    more_numbers =
        subst (λ (k : ℕ). NotesOutside c (with_numbers o p second (c + k)) (g.so ++ (the_word ∷ []))) g.wide
        (numbers_more c low st g.so g.notes p part second (parameter_places_lem (drop at s) p second n e) o g.numbers)

    -- the last
    abbrev pub last_read : URead
    last_read = record { state = with_parameter st p (c + at); outside = with_numbers o p second (c + at) }

    pub going_last : at + n ≡ length s
        → UListed c s (words s) (Ok last_read)
    going_last l =
        let m : length s ≤ at + n = omega arith in
        let k : drop (at + n) s ≡ [] = drop_of_length-le s m in
        subst (λ (x : Read (List (Worded Parameter))). UListed c s x (Ok last_read))
        (sym (g.on ∙ ahead_last "," (worded parameter) takes 44 refl g.so (drop at s) the_word (behind ∙ ap (read the_word) k)))
        (more, more_numbers)

    -- another byte than a comma behind it
    pub going_other : at + n < length s → (get_or s (at + n) 0 ≡ 44 → ⊥) → UListed c s (words s) (Err (record { card = 1; column = c + (at + n) }))
    going_other l f =
        stopped_at (at + n) (omega arith)
        (g.on
        ∙ ahead_other "," (worded parameter) takes 44 refl g.so (drop at s) the_word (get_or s (at + n) 0) (drop (at + n + 1) s)
        (behind ∙ ap (read the_word) (next (get_or s (at + n) 0) l refl)) f
        ∙ ap stopped (sym (next (get_or s (at + n) 0) l refl)))
        (c + (at + n)) refl

    -- a comma behind it
    pub going_more : at + n < length s → get_or s (at + n) 0 ≡ 44 → Going c s (with_parameter st p (c + at)) (with_numbers o p second (c + at)) (at + n + 1)
    going_more l f =
        let w : length part ≡ n = length-take-le n (drop at s) e.0.0 in
        record {
          inside = omega arith;
          so = g.so ++ (the_word ∷ []);
          wide = omega (arith, width_last g.so the_word, w, g.wide);
          notes = more;
          numbers = more_numbers;
          on =
              g.on
              ∙ ahead_more "," (worded parameter) takes 44 refl g.so (drop at s) the_word (drop (at + n + 1) s)
              (behind ∙ ap (read the_word) (next 44 l f));
        }
