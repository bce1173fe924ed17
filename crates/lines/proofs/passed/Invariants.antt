-- `lines::passed` meets its contract. The loop's invariant: no line ends from `at` to before `end`, and the bytes from `end` on are left.
use mathlib.Core.Path.{◌≡◌}
use lib.ListN.{drop}
use Rattle.std.specs.Slice.Iter.{chunks_exact_rest, chunks_exact_size}
use Rattle.lines.specs.Meaning.{inner, PassedSays}
use Rattle.lines.proofs.passed.Given as goal

abbrev pub ghost-each : goal.ghost-each
ghost-each a = inner

abbrev pub invariant-loop-block : goal.invariant-loop-block
invariant-loop-block l =
    (chunks_exact_size l.block-iterator ≡ 8) × (chunks_exact_rest l.block-iterator ≡ drop l.end l.deck) × PassedSays l.deck l.at l.end
