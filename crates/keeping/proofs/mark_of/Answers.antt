-- `keeping::mark_of` meets its contract: by cases on what the field does, each test being that of the rules.
use borrow.Author.Tests.{eq-eqb, ne_eqb}
use Rattle.terms.specs.Meaning.{field_of}
use Rattle.keeping.proofs.Meets.{says_any, says_digit, says_sign, says_zone}
use Rattle.keeping.proofs.mark_of.Goals as goal

pub returns-in-Copy : goal.returns-in-Copy
unfolding field_of
returns-in-Copy c = rw c.in-Copy.is says_any

pub returns-then-j-eq1 : goal.returns-then-j-eq1
unfolding field_of
returns-then-j-eq1 c = rw (c.in-Pack.is, eq-eqb _ 1 c.if-j-eq1.true) says_digit

pub returns-then-j-f : goal.returns-then-j-f
unfolding field_of
returns-then-j-f c = rw (c.in-Pack.is, ne_eqb _ 1 c.if-j-eq1.false, eq-eqb _ _ c.if-j-f.true) says_sign

pub returns-else-j-f : goal.returns-else-j-f
unfolding field_of
returns-else-j-f c = rw (c.in-Pack.is, ne_eqb _ 1 c.if-j-eq1.false, ne_eqb _ _ c.if-j-f.false) says_zone

pub returns-then-j-f-2 : goal.returns-then-j-f-2
unfolding field_of
returns-then-j-f-2 c = rw (c.in-Unpack.is, eq-eqb _ _ c.if-j-f-2.true) says_sign

pub returns-else-j-f-2 : goal.returns-else-j-f-2
unfolding field_of
returns-else-j-f-2 c = rw (c.in-Unpack.is, ne_eqb _ _ c.if-j-f-2.false) says_digit
