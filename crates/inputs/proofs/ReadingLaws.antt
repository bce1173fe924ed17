-- What filling a room comes to follows from what its reads answered, read by read. A scan that goes on where another stopped is one scan of both pieces;
-- and a deck that fills the room is refused, since it is too long to be right. Where the scan is settled, what was not read makes no difference.
use mathlib.Core.Path.{◌≡◌, refl, ap, sym, ◌∙◌}
use mathlib.Core.Logic.{◌⊎◌, inl, inr, ⊎_elim}
use mathlib.Core.Bool.{true}
use mathlib.Core.List.{List, [], ◌∷◌, ◌++◌, append_assoc}
use Prim.Native.Nat.{ℕ, min, ◌+◌, ◌-◌, ◌≤◌, ◌<◌}
use native.Mathlib.Omega.{arith}
use lib.ListN.{length, take, drop, length-append, length-drop}
use lib.Seq.{length-take-le}
use borrow.Author.Tests.{eq-eqb, ne_eqb}
use Rattle.std.specs.Prelude.{Option, None, Some, Result, Ok, Err}
use Rattle.std.specs.declared.io.Error.{Error}
use Rattle.rules.specs.Answer.{Answer}
use Rattle.scans.specs.Scanning.{no_bytes, scan_from, scanned_of, settled}
use Rattle.scans.specs.declared.Scanner.{Scanner}
use Rattle.scans.proofs.DeckLaws.{scan_pieces}
use Rattle.scans.proofs.LongLaws.{long_refused}
use Rattle.scans.proofs.SettledLaws.{settled_stays}
use Rattle.inputs.specs.Reading.{bytes_read, filled_from, FillSays, Went, FedSays, long_deck, unless_failed, whole_deck, known_of, deck_of, LongDeckSays}
use Rattle.inputs.specs.declared.ReadFailure.{ReadFailure}
use Rattle.inputs.specs.declared.Fed.{Fed}
use Rattle.inputs.specs.declared.Refusal.{Refusal}
use Rattle.inputs.specs.declared.NoDeck.{NoDeck}

-- ---- filling a room

-- so many bytes are filled after some reads, whatever is read then
abbrev pub FilledTo : ℕ → ℕ → Type 0
FilledTo room at = (gots : List (Result ℕ Error)) × ((more : List (Result ℕ Error)) → filled_from room 0 (gots ++ more) ≡ filled_from room at more)

pub filled_none : (room : ℕ) → FilledTo room 0
filled_none room = ([], λ more. refl)

-- how many bytes are left of a room that keeps its length
pub left_behind : (room : List ℕ) (at size : ℕ) → length room ≡ size → length (take (length room - at) (drop at room)) ≡ size - at
left_behind room at size e = length-take-le (length room - at) (drop at room) (omega (arith, length-drop at room)) ∙ ap (λ (n : ℕ). n - at) e

module _ (room at : ℕ) (filled : FilledTo room at) where
  went : (got : Result ℕ Error) (more : List (Result ℕ Error)) → filled_from room 0 (filled.0 ++ (got ∷ more)) ≡ filled_from room at (got ∷ more)
  went got more = filled.1 (got ∷ more)

  -- a read brought some bytes
  pub filled_more : (n : ℕ) → (n ≡ 0 → ⊥) → n ≤ room - at → FilledTo room (at + n)
  filled_more n some inside =
      let e : min n (room - at) ≡ n = omega arith in
      let on : (more : List (Result ℕ Error)) → filled_from room at (Ok n ∷ more) ≡ filled_from room (at + n) more = λ more. rw (e, ne_eqb n 0 some) in
      (filled.0 ++ (Ok n ∷ []), λ more. ap (filled_from room 0) (append_assoc filled.0 (Ok n ∷ []) more) ∙ went (Ok n) more ∙ on more)

  -- it failed
  pub filled_failed : (why : Error) → FillSays room (Err (record { length = at; why = why }))
  filled_failed why = (filled.0 ++ (Err why ∷ []), sym (went (Err why) []))

  -- no more is read
  pub filled_all : FillSays room (Ok at)
  filled_all = (filled.0 ++ [], sym (filled.1 []))

-- ---- a long deck

pub went_none : (first : Scanner) → Went first first
went_none first = ([], refl)

-- the scan went on over a piece more
pub went_on : (first now next : Scanner) (piece : List ℕ) → Went first now → next ≡ scan_from now piece → Went first next
went_on first now next piece a e = (a.0 ++ piece, e ∙ ap (λ (s : Scanner). scan_from s piece) a.1 ∙ scan_pieces first a.0 piece)

-- nothing was read yet, and there may be more
pub fed_none : (first : Scanner) → FedSays first (record { state = first; more = true; failure = None })
fed_none first = (first, Ok 65536, went_none first, refl)

pub fed_went : (first : Scanner) (fed : Fed) → FedSays first fed → Went first fed.state
fed_went first fed f = (f.2.0, ap (λ (g : Fed). g.state) f.3 ∙ f.2.1)

pub further : (first : Scanner) (now next : Fed) → FedSays first now → FedSays now.state next → FedSays first next
further first now next a b = (b.0, b.1, went_on first now.state b.0 b.2.0 (fed_went first now a) b.2.1, b.3)

-- the first bytes, and then what more was read: the answer is what the scan of it all comes to
pub all_scanned : (bytes : List ℕ) (none begun after : Scanner) (answer : Answer ℕ) (failed : Option Error) (before : Result ℕ Refusal) (r : Result ℕ NoDeck)
    → none ≡ no_bytes → begun ≡ scan_from none bytes → Went begun after → answer ≡ scanned_of after → before ≡ long_deck answer → r ≡ unless_failed failed before
    → LongDeckSays bytes r
all_scanned bytes none begun after answer failed before r n b w a l e =
    let all : after ≡ scan_from no_bytes (bytes ++ w.0)
    = w.1
    ∙ ap (λ (s : Scanner). scan_from s w.0) (b ∙ ap (λ (s : Scanner). scan_from s bytes) n)
    ∙ scan_pieces no_bytes bytes w.0 in
    (w.0, failed, e ∙ ap (unless_failed failed) (l ∙ ap long_deck (a ∙ ap scanned_of all)))

module _ (room : List ℕ) (read : Result ℕ ReadFailure) (rest : List ℕ) (failed : Option Error) where
  -- a room that is full
  pub deck_long : bytes_read read ≡ 65536 → deck_of room read rest failed ≡ unless_failed failed (long_deck (scanned_of (scan_from no_bytes (room ++ rest))))
  deck_long e = rw (eq-eqb (bytes_read read) 65536 e)

  -- one that is not
  pub deck_whole : (bytes_read read ≡ 65536 → ⊥) → deck_of room read rest failed ≡ whole_deck read
  deck_whole n = rw (ne_eqb (bytes_read read) 65536 n)

-- what is known stays, whether or not a read failed
pub known_before : (failed : Option Error) (before : Result ℕ Refusal) → known_of (unless_failed failed before) ≡ before
known_before None (Ok n) = refl
known_before None (Err refusal) = refl
known_before (Some why) before = refl

-- so a long deck is never taken as right, and none of its bytes is used
pub long_deck_refused : (bytes : List ℕ) (r : Result ℕ NoDeck) → 5184 < length bytes → LongDeckSays bytes r
    → (place : ℕ) × ((known_of r ≡ Err (record { number = 1; place = place })) ⊎ (known_of r ≡ Err (record { number = 2; place = place })))
long_deck_refused bytes r h (rest, failed, e) =
    let l = long_refused (bytes ++ rest) (omega (arith, length-append bytes rest)) in
    let k = ap known_of e ∙ known_before failed (long_deck (scanned_of (scan_from no_bytes (bytes ++ rest)))) in
    (l.0, ⊎_elim (λ q. inl (k ∙ ap long_deck q)) (λ q. inr (k ∙ ap long_deck q)) l.1)

-- where some bytes settle the scan, the decks that begin with them all come to the same
settled_alike : (x y : List ℕ) → settled (scan_from no_bytes x) ≡ true → scanned_of (scan_from no_bytes (x ++ y)) ≡ scanned_of (scan_from no_bytes x)
settled_alike x y e = sym (ap scanned_of (scan_pieces no_bytes x y)) ∙ settled_stays (scan_from no_bytes x) y e

-- so an answer that settled bytes were enough for is that of the deck, however it goes on
pub settled_deck : (bytes more : List ℕ) (r : Result ℕ NoDeck) → settled (scan_from no_bytes bytes) ≡ true → LongDeckSays bytes r
    → (failed : Option Error) × (r ≡ unless_failed failed (long_deck (scanned_of (scan_from no_bytes (bytes ++ more)))))
settled_deck bytes more r e j =
    (j.1, j.2 ∙ ap (λ (x : Answer ℕ). unless_failed j.1 (long_deck x)) (settled_alike bytes j.0 e ∙ sym (settled_alike bytes more e)))
