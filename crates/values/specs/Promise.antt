-- What looking at a record's halves answers, for all fields that the lent numbers may be: there is one list of them.
use Rattle.std.specs.Prelude.{◌≡◌, ◌⊎◌, Bool, true, false, not, List, ℕ, ◌+◌, ◌-◌, ◌≤◌, ◌<◌, length, get_or, take}
use Rattle.rules.specs.Base.{every}
use Rattle.rules.specs.Halves.{halves, Kind, copy, pack, unpack, Field}
use Rattle.rules.specs.Permitted.{permitted}
use Rattle.rules.specs.Output.{may_be}
use Rattle.rules.specs.Lent.{zone_f}
use Rattle.rows.specs.Flat.{flat_of, FlatFair}

-- each byte but the last passes a test, and the last one another; else some byte does not
unfoldable pub Passes : (ℕ → Bool → Type 0) → (ℕ → Bool → Type 0) → List ℕ → Bool → Type 0
Passes each end s true = ((i : ℕ) → i + 1 < length s → each (get_or s i 0) true) × end (get_or s (length s - 1) 0) true
Passes each end s false = ((i : ℕ) × (i + 1 < length s) × each (get_or s i 0) false) ⊎ end (get_or s (length s - 1) 0) false

-- whether the halves of the first a bytes are permitted
unfoldable pub Permits : List ℕ → List ℕ → Bool → Type 0
Permits xs r x = (fs : List Field) (a b : ℕ) → FlatFair xs fs a b → a ≤ length r → x ≡ may_be (permitted zone_f fs) 0 (halves (take a r))

-- a copy takes any halves, pack and unpack ask something of them
abbrev pub takes_any : Kind → Bool
takes_any (copy s) = true
takes_any (pack n m) = false
takes_any (unpack n m) = false

-- whether some field asks something of a record
unfoldable pub FieldsAsk : List ℕ → Bool → Type 0
FieldsAsk xs x = (fs : List Field) → xs ≡ flat_of fs → x ≡ not (every (λ f. takes_any f.kind) fs)
