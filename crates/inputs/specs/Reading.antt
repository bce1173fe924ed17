-- What can be promised of what is read. No contract says which bytes a read brings, or how many: these say that there are some, and what the answer is
-- then. Assumes nothing.
use Rattle.std.specs.Prelude.{◌≡◌, cond, List, [], ◌∷◌, ◌++◌, ℕ, ◌+◌, ◌-◌, min, eqb, Option, None, Some, Result, Ok, Err}
use Rattle.std.specs.declared.io.Error.{Error}
use Rattle.io.specs.Counts.{IsPrefixLen}
use Rattle.rules.specs.Answer.{Answer, fine, refuse}
use Rattle.scans.specs.Scanning.{no_bytes, scan_from, scanned_of}
use Rattle.scans.specs.declared.Scanner.{Scanner}
use Rattle.inputs.specs.declared.ReadFailure.{ReadFailure}
use Rattle.inputs.specs.declared.Fed.{Fed}
use Rattle.inputs.specs.declared.Refusal.{Refusal}
use Rattle.inputs.specs.declared.NoDeck.{NoDeck}
use Rattle.inputs.specs.declared.NoDeck.TheVariants.{Refused, Failed}

-- ---- reads

-- how many bytes were read, also where a read failed
abbrev pub bytes_read : Result ℕ ReadFailure → ℕ
bytes_read (Ok n) = n
bytes_read (Err failure) = failure.length

-- why a read failed, where one did
abbrev pub failure_of : Result ℕ ReadFailure → Option Error
failure_of (Ok n) = None
failure_of (Err failure) = Some failure.why

-- what filling a room came to, where `at` of its bytes are filled, by what each further read answered: the first that brings nothing or fails is the last
abbrev pub filled_from : ℕ → ℕ → List (Result ℕ Error) → Result ℕ ReadFailure
filled_from room at [] = Ok at
filled_from room at (Ok n ∷ gots) =
    let read = min n (room - at) in
    let later = filled_from room (at + read) gots in
    cond (eqb read 0) (Ok at) later
filled_from room at (Err why ∷ gots) = Err (record { length = at; why = why })

-- there are such answers
abbrev pub FillSays : ℕ → Result ℕ ReadFailure → Type 0
FillSays room r = (gots : List (Result ℕ Error)) × (r ≡ filled_from room 0 gots)

-- ---- the bytes behind a full room

-- the scan went on over some bytes
abbrev pub Went : Scanner → Scanner → Type 0
Went before after = (bytes : List ℕ) × (after ≡ scan_from before bytes)

-- what is known of a scan that was fed what filling a room came to: where the room was filled there may be more
abbrev pub fed_of : Scanner → Result ℕ ReadFailure → Fed
fed_of state read = record { state = state; more = eqb (bytes_read read) 65536; failure = failure_of read }

-- that is known, of a scan that went on
abbrev pub FedSays : Scanner → Fed → Type 0
FedSays before fed = (state : Scanner) × (read : Result ℕ ReadFailure) × Went before state × (fed ≡ fed_of state read)

-- ---- what is answered

-- of a deck that fills the room: what the scan of it comes to
abbrev pub long_deck : Answer ℕ → Result ℕ Refusal
long_deck (fine cards) = Ok 65536
long_deck (refuse r) = Err (record { number = r.number; place = r.place })

-- what is known of what was read, beside the failure where a read failed
abbrev pub unless_failed : Option Error → Result ℕ Refusal → Result ℕ NoDeck
unless_failed None (Ok n) = Ok n
unless_failed None (Err refusal) = Err (Refused refusal)
unless_failed (Some why) before = Err (Failed before why)

-- of a deck that leaves room: all that was read
abbrev pub whole_deck : Result ℕ ReadFailure → Result ℕ NoDeck
whole_deck read = unless_failed (failure_of read) (Ok (bytes_read read))

-- what an answer says of what was read, whether or not a read failed
abbrev pub known_of : Result ℕ NoDeck → Result ℕ Refusal
known_of (Ok n) = Ok n
known_of (Err (Refused refusal)) = Err refusal
known_of (Err (Failed before why)) = before

-- how many bytes of the room are the deck's: none of a refused one's
abbrev pub bytes_known : Result ℕ Refusal → ℕ
bytes_known (Ok n) = n
bytes_known (Err refusal) = 0

-- of any deck, where `read` is what filling the room came to, `rest` are the bytes behind a full room, and `failed` says whether they could not be read
abbrev pub deck_of : List ℕ → Result ℕ ReadFailure → List ℕ → Option Error → Result ℕ NoDeck
deck_of room read rest failed =
    cond (eqb (bytes_read read) 65536)
    (unless_failed failed (long_deck (scanned_of (scan_from no_bytes (room ++ rest)))))
    (whole_deck read)

-- ---- promises

-- the answer is that of a deck that begins with these bytes and goes on with some others
abbrev pub LongDeckSays : List ℕ → Result ℕ NoDeck → Type 0
LongDeckSays bytes r = (rest : List ℕ) × (failed : Option Error) × (r ≡ unless_failed failed (long_deck (scanned_of (scan_from no_bytes (bytes ++ rest)))))

-- the answer is that of some reads into the room, and of some bytes behind a full room
abbrev pub DeckBytesSays : List ℕ → Result ℕ NoDeck → Type 0
DeckBytesSays room r =
    (read : Result ℕ ReadFailure) × (rest : List ℕ) × (failed : Option Error) × IsPrefixLen (bytes_read read) room × FillSays 65536 read × (r ≡ deck_of room read rest failed)
