-- `scans::scan` meets its contract. The loop's invariant: what is left of the piece is scanned from `current` as all of it is from the state that was
-- given.
use mathlib.Core.Path.{◌≡◌}
use lib.ListN.{drop}
use Rattle.scans.specs.Scanning.{scan_from}
use Rattle.scans.proofs.scan.Given as goal

abbrev pub invariant-loop-byte : goal.invariant-loop-byte
invariant-loop-byte l = scan_from l.initial.current l.piece ≡ scan_from l.current (drop l.byte-index l.piece)
