-- `reasons::shows` meets its contract: by the kind of field, each answer is what the rules say of a half with so many halves behind it.
use mathlib.Core.Path.{refl}
use Rattle.reasons.proofs.ReasonLaws.{reads_end, copy_shows, pack_last, pack_digit, pack_zone, unpack_last, unpack_digit}
use Rattle.reasons.proofs.shows.Goals as goal

pub overflow_sub-right-2 : goal.overflow_sub-right-2
overflow_sub-right-2 c = reads_end _ _ _ c.requires.field_inside _ c.requires.h_value

pub returns-in-Copy : goal.returns-in-Copy
returns-in-Copy c = λ many l. copy_shows _ _ _ c.requires.field_inside _ c.requires.h_value _ refl many l c.in-Copy.is

pub returns-then-right-lt2 : goal.returns-then-right-lt2
returns-then-right-lt2 c = λ many l. pack_last _ _ _ c.requires.field_inside _ c.requires.h_value _ refl many l c.in-Pack.is c.if-right-lt2.true

pub returns-then-right-eq0 : goal.returns-then-right-eq0
returns-then-right-eq0 c = λ many l. pack_digit _ _ _ c.requires.field_inside _ c.requires.h_value _ refl many l c.in-Pack.is c.if-right-lt2.false c.if-right-eq0.true

pub returns-else-right-eq0 : goal.returns-else-right-eq0
returns-else-right-eq0 c = λ many l. pack_zone _ _ _ c.requires.field_inside _ c.requires.h_value _ refl many l c.in-Pack.is c.if-right-lt2.false c.if-right-eq0.false

pub returns-then-right-lt2-2 : goal.returns-then-right-lt2-2
returns-then-right-lt2-2 c = λ many l. unpack_last _ _ _ c.requires.field_inside _ c.requires.h_value _ refl many l c.in-Unpack.is c.if-right-lt2-2.true

pub returns-else-right-lt2-2 : goal.returns-else-right-lt2-2
returns-else-right-lt2-2 c = λ many l. unpack_digit _ _ _ c.requires.field_inside _ c.requires.h_value _ refl many l c.in-Unpack.is c.if-right-lt2-2.false
