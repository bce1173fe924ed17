-- `cards::keep` meets its contract: by whether a number is outside its limits, and whether there is room.
use Prim.Native.Nat.{◌*◌}
use native.Mathlib.Omega.{arith}
use borrow.Author.Tests.{eq-eqb, ne_eqb, lt-ltb, le-ltb}
use Rattle.rows.proofs.RowLaws.{length_more}
use Rattle.terms.specs.Meaning.{field_of}
use Rattle.cards.specs.Selected.{kept_row}
use Rattle.cards.proofs.keep.Goals as goal
use Rattle.cards.proofs.keep.Goals.{else-outside-eq0-via-then-outside-eq0+else-count-lt-FIELDS, else-outside-eq0-via-else-outside-eq0}

pub put_numbers-requires : goal.put_numbers-requires
put_numbers-requires c = record { row_len = c.requires.0; at_bound = omega arith; short = c.requires.1 c.if-outside-eq0.true }

pub returns-then-count-lt-FIELDS : goal.returns-then-count-lt-FIELDS
unfolding kept_row
returns-then-count-lt-FIELDS c = (rw c.put_numbers.ensures (length_more (field_of c.args.field) c.args.row.now (5 * c.args.count) c.requires.0 (omega arith)), rw (eq-eqb _ 0 c.if-outside-eq0.true, lt-ltb _ 64 c.if-count-lt-FIELDS.true) c.put_numbers.ensures)

pub returns-else-outside-eq0 : goal.returns-else-outside-eq0
unfolding kept_row
returns-else-outside-eq0 c = (
  c.requires.0,
  elim c.else-outside-eq0.branch [
    | else-outside-eq0-via-then-outside-eq0+else-count-lt-FIELDS w ↦ rw (eq-eqb _ 0 w.if-outside-eq0.true, le-ltb _ 64 w.if-count-lt-FIELDS.false)
    | else-outside-eq0-via-else-outside-eq0 w ↦ rw (ne_eqb _ 0 w.if-outside-eq0.false)
  ],
)
