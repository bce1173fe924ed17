-- Before each turn the first bytes of part are the record's.
use Rattle.std.proofs.Common.{◌≡◌, ℕ, ◌+◌, ◌*◌, ◌<◌, get_or}
use Rattle.twin_records.specs.Promise.{raised_in}
use Rattle.twin_records.proofs.put_record.Given as goal

abbrev pub invariant-loop-i : goal.invariant-loop-i
invariant-loop-i l = (j : ℕ) → j < l.i → get_or l.part j 0 ≡ 16 * raised_in l.values l.h (2 * j) + raised_in l.values l.h (2 * j + 1)
