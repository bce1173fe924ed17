-- What the marks of the code mean in the rules: which values a mark permits.
use Rattle.std.specs.Prelude.{◌≡◌, Bool, cond, ◌&&◌, List, ℕ, ◌*◌, ◌/◌, ◌%◌, ◌<◌, leb, eqb, get_or}
use Rattle.rules.specs.Permitted.{any, count, first_of, allows}
use Rattle.rules.specs.Lent.{zone_f}
use Rattle.terms.specs.Meaning.{field_of}
use Rattle.terms.specs.declared.Field.{Field}
use Rattle.terms.specs.declared.Kind.{Kind}
use Rattle.terms.specs.declared.Kind.TheVariants.{Copy, Pack, Unpack}

-- the mark that excludes the values that stand together with v: 0 to 9, A to E, or F
abbrev pub excluding : ℕ → ℕ
excluding v = cond (leb v 9) 1 (cond (leb v 14) 2 4)

-- a mark permits the value v of a half: those that stand together with v are not among the excluded
unfoldable pub mark_allows : ℕ → ℕ → Bool
mark_allows a v = any v && eqb (a / excluding v % 2) 0

-- how many values a mark permits
unfoldable pub choices_of : ℕ → ℕ
choices_of a = count (mark_allows a) 16

-- a mark permits just the halves that pass a test
abbrev pub MarkSays : ℕ → (ℕ → Bool) → Type 0
MarkSays a p = (v : ℕ) → v < 16 → mark_allows a v ≡ p v

-- half h has mark b after a field, where it had mark a: it permits what both permit
unfoldable pub Met : Field → ℕ → ℕ → ℕ → Type 0
Met f h a b = MarkSays b (λ v. allows zone_f (field_of f) h v && mark_allows a v)

-- of how many halves of its input a field asks something: a copy takes any value
unfoldable pub asking_of : Kind → ℕ → ℕ
asking_of Copy input = 0
asking_of Pack input = 2 * input
asking_of Unpack input = 2 * input

-- which values an array of marks permits in half i
unfoldable pub permits_in : List ℕ → ℕ → ℕ → Bool
permits_in marks i v = mark_allows (get_or marks i 0) v

-- the lowest value that a mark permits; 16 where it permits none
unfoldable pub lowest_of : ℕ → ℕ
lowest_of a = first_of (mark_allows a) 0 16
