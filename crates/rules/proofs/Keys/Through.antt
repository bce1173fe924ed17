-- Keys: a keyed deck gives the plan that the deck without keys gives that counts through, since a plan holds fields that count through and no part; and a field
-- that counts through reads what it reads, as it stands on its card, of its own part.
use mathlib.Core.Path.{◌≡◌, refl, ap, sym, ◌∙◌, subst}
use mathlib.Core.Bool.{true, false, not, ◌||◌, true≢false}
use mathlib.Core.List.{List, [], ◌∷◌, map, map-map}
use Prim.Native.Nat.{ℕ, suc, ◌+◌, ◌-◌, ◌/◌, ◌%◌, ◌≤◌}
use native.Mathlib.Nat.{zero-add, one-mul, mul-div_cancel, div-add-mod'}
use native.Mathlib.Omega.{arith}
use lib.Dec.{eqb}
use lib.ListN.{take, drop}
use lib.Seq.{drop-drop}
use borrow.Author.Tests.{eq-eqb}
use Rattle.rules.specs.Base.{is_empty, joined}
use Rattle.rules.specs.Places.{All}
use Rattle.rules.specs.Answer.{fine}
use Rattle.rules.specs.Grammar.{Mode, tf, Format, ff, Size, two, Input, plain, keyed, Part, in_data, in_key, CardField, Item, field, cv}
use Rattle.rules.specs.Halves.{input_size}
use Rattle.rules.specs.Asked.{Asked, asked_of, fields_of, cvs}
use Rattle.rules.specs.Plan.{record_length, block_length, joined_size, key_length, part_length, bytes_before, through, Plan, assembled, is_fv, sound, is_keyed, key_fits, is_key, key_fields, card_fits, inside, inside_part, combined, plan_of}
use Rattle.rules.specs.RecordParts.{field_input}
use Rattle.rules.specs.Rows.{InputWithin, UtilityWithin, FieldWithin, Required, IsKeyed, Inside}
use Rattle.rules.specs.Keys.{part_bytes, own_input, through_field, through_item, through_utility, through_asked}
use Rattle.rules.proofs.Base.AllLaws.{all_map, all_unmap, all_imply, all_both, all_with}
use Rattle.rules.proofs.Base.Lists.{take_drop, map_joined, map_same}
use Rattle.rules.proofs.Base.Tests.{and_left, and_both}
use Rattle.rules.proofs.Refusals.AnswerLaws.{fine_bind, then_fine, fine_then, fine_unless, fine_each}
use Rattle.rules.proofs.Deck.LimitLaws.{inside_exactly, required_exactly, no_keys, keys_exactly}
use Rattle.rules.proofs.Keys.KeyLaws.{joined_within, Joined, Named}
use Rattle.rules.proofs.Deck.AcceptedLaws.{Limited, limited_of, limits_utility, limits_fields, Combines, combines, key_fits_lem, fields_joined}

-- ---- the deck that counts through gives the same plan

module _ (key : ℕ) where
  fields_through : (is : List Item) → fields_of (map (through_item key) is) ≡ map (through_field key) (fields_of is)
  fields_through [] = refl
  fields_through (field f ∷ is) = ap (through_field key f ∷◌) (fields_through is)
  fields_through (cv ∷ is) = fields_through is

  -- behind no key a field counts as it stands
  data_through : (f : CardField) → through 0 (through_field key f) ≡ through key f
  data_through f = ap (λ (r : ℕ). record { r = r; kind = f.field.kind; t = f.field.t }) (zero-add _)

  through_once : (fs : List CardField) → map (through 0) (map (through_field key) fs) ≡ map (through key) fs
  through_once fs = map-map (through 0) (through_field key) fs ∙ map_same data_through fs

  cvs_through : (is : List Item) → cvs (map (through_item key) is) ≡ cvs is
  cvs_through [] = refl
  cvs_through (field f ∷ is) = cvs_through is
  cvs_through (cv ∷ is) = ap suc (cvs_through is)

-- a deck with keys, and the deck without keys that counts through, give one plan
pub counts_through : (zone : ℕ) (a : Asked) → assembled zone (through_asked a) ≡ assembled zone a
unfolding assembled through_asked through_utility
counts_through zone a =
    let k = key_length a.utility.input in
    rw (sym (map_joined (through_item k) a.cards), fields_through k (joined a.cards), cvs_through k (joined a.cards), through_once k (fields_of (joined a.cards)))

-- ---- a field reads its own part

-- bytes of a part are bytes of the record, behind what stands before the part
part_read : (k s j : ℕ) (q : Part) (r : List ℕ) → 1 ≤ j → (q ≡ in_key → j + s - 1 ≤ k) → take s (drop (bytes_before k q + j - 1) r) ≡ take s (drop (j - 1) (part_bytes k q r))
part_read k s j in_data r l h = ap (take s) (ap (λ (i : ℕ). drop i r) (let z : k + j - 1 ≡ k + (j - 1) = omega arith in z) ∙ sym (drop-drop (j - 1) k r))
part_read k s j in_key r l h =
    ap (λ (i : ℕ). take s (drop i r)) (let z : 0 + j - 1 ≡ j - 1 = omega arith in z) ∙ sym (take_drop s (j - 1) k r (omega (arith, h refl)))

-- a field of the key ends in it
key_end : (i : Input) (q : Part) (x : ℕ) → x ≤ part_length i q → (is_keyed i ≡ false → q ≡ in_data) → q ≡ in_key → x ≤ key_length i
key_end (keyed k d) in_key x l n e = l
key_end (keyed k d) in_data x l n e = absurd (true≢false (sym (ap is_key e)))
key_end (plain s) q x l n e = absurd (true≢false (sym (ap is_key e) ∙ ap is_key (n refl)))

-- a field inside its part, and taken from the key only with keys: counting through it reads just what it reads, as it stands on its card, of its own part
pub reads_own : (f : CardField) (i : Input) (b : ℕ) (r : List ℕ) → 1 ≤ f.field.r → Inside (part_length i f.part) b f.field → Named i f
    → field_input (through (key_length i) f) r ≡ own_input (key_length i) f r
unfolding field_input own_input
reads_own f i b r l a n = part_read (key_length i) (input_size f.field.kind) f.field.r f.part r l (key_end i f.part _ a.input n)

-- ---- one record to a block of B

-- with TF and an A of one record to a block, as keys make it, B holds one record to a block
pub one_record : (n : ℕ) (b : Size) (first : ℕ) → Required tf ff (two n n) b first → 1 ≤ n → block_length b ≡ record_length b
one_record n b first w l =
    let one : n / n ≡ 1 = ap (λ (x : ℕ). x / n) (sym (one-mul n)) ∙ mul-div_cancel 1 l in
    let q : block_length b / record_length b ≡ 1 = sym (w.tf_equal refl refl) ∙ one in
    let m : block_length b % record_length b ≡ 0 = (w.ff_multiple refl).1 in
    sym (div-add-mod' (block_length b) (record_length b)) ∙ rw (q, m) (omega arith)

-- ---- the deck that counts through is accepted

-- the steps of the answer, put together again
combined_of : (zone : ℕ) (a : Asked) → Combines zone a → combined zone a ≡ fine tt
unfolding combined
combined_of zone a c =
    fine_then _ _ (fine_unless _ 8 1 (and_both c.sounds c.keys))
    ∙ (fine_then _ _ (fine_unless _ 8 2 c.cards_wanted)
    ∙ (fine_then _ _ (fine_each 8 _ 2 c.cards_fit)
    ∙ (fine_then _ _ (fine_each 9 _ 1 c.insides)
    ∙ fine_unless _ 10 _ (eq-eqb _ _ c.barren))))

-- no field is taken from the key
no_key : (key : ℕ) (fs : List CardField) → key_fields (map (through_field key) fs) ≡ 0
no_key key [] = refl
no_key key (f ∷ fs) = omega (arith, no_key key fs)

module _ (f : Format) (i : Input) (s : Size) (key : ℕ) where
  card_through : (c : List Item) → card_fits f i c ≡ true → card_fits f (plain s) (map (through_item key) c) ≡ true
  unfolding card_fits
  card_through c e = rw (cvs_through key c, fields_through key c, no_key key (fields_of c), and_left (is_fv f || eqb (cvs c) 0) _ e) refl

  cards_through : {cards : List (List Item)} → All (λ c. card_fits f i c ≡ true) cards → All (λ c. card_fits f (plain s) c ≡ true) (map (map (through_item key)) cards)
  cards_through a = all_map (map (through_item key)) (all_imply card_through a)

empty_map : {A B : Type 0} (g : A → B) (xs : List A) → is_empty (map g xs) ≡ is_empty xs
empty_map g [] = refl
empty_map g (x ∷ xs) = refl

module _ (i : Input) (b key : ℕ) where
  within_data : (fs : List CardField) → All (Joined i b) (map (through key) fs) → All (λ f. FieldWithin f.field) (map (through_field key) fs)
  within_data fs a = all_map (through_field key) (all_imply (λ f j. j.within) (all_unmap (through key) fs a))

  inside_data : (fs : List CardField) → All (Joined i b) (map (through key) fs) → All (λ f. inside (record_length (joined_size i)) b f.field ≡ true) (map (through_field key) fs)
  inside_data fs a = all_map (through_field key) (all_imply (λ f j. (inside_exactly _ b (through key f)).1 j.inside) (all_unmap (through key) fs a))

module _ (zone : ℕ) (a : Asked) (l : Limited a) (c : Combines zone a) where
  abbrev key : ℕ
  key = key_length a.utility.input

  utility_through : UtilityWithin (through_asked a).utility
  unfolding through_asked through_utility
  utility_through =
      let u = limits_utility a l in record { input = joined_within a.utility.format a.utility.input u.input; output = u.output; first = u.first }

  cards_fields : fields_of (joined (through_asked a).cards) ≡ map (through_field key) (fields_of (joined a.cards))
  unfolding through_asked
  cards_fields = ap fields_of (sym (map_joined (through_item key) a.cards)) ∙ fields_through key (joined a.cards)

  limits_through : All (λ f. FieldWithin f.field) (fields_of (joined (through_asked a).cards))
  limits_through = rw cards_fields (within_data a.utility.input (record_length a.utility.output) key (fields_of (joined a.cards)) (fields_joined zone a l c))

  combines_through : Combines zone (through_asked a)
  unfolding assembled through_asked through_utility sound key_fits inside_part
  combines_through =
      let none = empty_map (map (through_item key)) a.cards in
      let i = a.utility.input in
      record {
        sounds = rw none c.sounds;
        keys = refl;
        cards_wanted = rw none c.cards_wanted;
        cards_fit = cards_through a.utility.format i (joined_size i) key c.cards_fit;
        insides = rw cards_fields (inside_data i (record_length a.utility.output) key (fields_of (joined a.cards)) (fields_joined zone a l c));
        barren = rw (counts_through zone a) c.barren;
      }

-- a keyed deck that is not refused counts through without being refused
pub through_accepted : (zone : ℕ) (a : Asked) → Limited a → combined zone a ≡ fine tt
    → UtilityWithin (through_asked a).utility × All (λ f. FieldWithin f.field) (fields_of (joined (through_asked a).cards)) × (combined zone (through_asked a) ≡ fine tt)
through_accepted zone a l e =
    let c = combines zone a e in
    (utility_through zone a l c, limits_through zone a l c, combined_of zone (through_asked a) (combines_through zone a l c))

-- ---- the same of decks

-- a deck that is accepted, and a deck without keys that counts through: its plan is the same
pub decks_alike : (zone : ℕ) (deck other : List ℕ) (a : Asked) (p : Plan) → asked_of deck ≡ fine a → asked_of other ≡ fine (through_asked a) → plan_of zone deck ≡ fine p
    → plan_of zone other ≡ fine p
unfolding plan_of
decks_alike zone deck other a p e d f =
    let s = then_fine (combined zone a) _ p (sym (fine_bind (asked_of deck) _ a e) ∙ f) in
    let t = through_accepted zone a (limited_of deck a e) s.0 in
    fine_bind (asked_of other) _ (through_asked a) d ∙ fine_then _ _ t.2 ∙ ap fine (counts_through zone a) ∙ s.1

module _ (zone : ℕ) (a : Asked) (l : Limited a) (c : Combines zone a) where
  -- each field of its cards reads just its own part
  pub fields_own : All (λ f. (r : List ℕ) → field_input (through (key_length a.utility.input) f) r ≡ own_input (key_length a.utility.input) f r) (fields_of (joined a.cards))
  unfolding inside_part
  fields_own =
      let i = a.utility.input in
      let b = record_length a.utility.output in
      all_both (λ f w n r. reads_own f i b r w.0.r.0 ((inside_exactly (part_length i f.part) b f.field).0 w.1) n) (all_with (limits_fields a l) c.insides)
      (key_fits_lem a.utility.format i a.cards c.cards_fit)

  -- and with keys and TF a block of B holds one record
  pub keyed_one : IsKeyed a.utility.input → a.utility.mode ≡ tf → block_length a.utility.output ≡ record_length a.utility.output
  unfolding assembled
  keyed_one k t =
      go a.utility.input k (limits_utility a l).input
      (subst (λ (m : Mode). Required m ff (joined_size a.utility.input) a.utility.output a.utility.first) t
      (subst (λ (f : Format). Required a.utility.mode f (joined_size a.utility.input) a.utility.output a.utility.first) fixed
      ((required_exactly (assembled zone a) (not (is_empty a.cards))).0 c.sounds).0))
    where
      fixed : a.utility.format ≡ ff
      fixed = ((keys_exactly a.utility.mode a.utility.format a.utility.input).0 c.keys k).0

      go : (i : Input) → IsKeyed i → InputWithin a.utility.format i → Required tf ff (joined_size i) a.utility.output a.utility.first
          → block_length a.utility.output ≡ record_length a.utility.output
      go (plain s) x w r = absurd (no_keys s x)
      go (keyed n d) x w r = one_record (n + d) a.utility.output a.utility.first r (omega (arith, w.0.0))
