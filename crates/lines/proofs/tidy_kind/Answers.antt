-- `lines::tidy_kind` meets its contract: the line's first bytes are those of one of the four cards, or of none.
use mathlib.Core.Path.{sym, ◌∙◌}
use Rattle.rules.specs.Base.{ascii}
use Rattle.lines.proofs.MeaningLaws.{begins_says, kind_u, kind_utt, kind_fs, kind_none}
use Rattle.lines.proofs.tidy_kind.Goals as goal

-- which text stands at the front
pub returns-then-starts_with : goal.returns-then-starts_with
returns-then-starts_with c =
    let l = c.args.line.now in
    kind_u l c.requires (begins_says (ascii "// U ") l (sym c.if-starts_with.true ∙ c.starts_with.ensures.value))

pub returns-then-starts_with-2 : goal.returns-then-starts_with-2
returns-then-starts_with-2 c =
    let l = c.args.line.now in
    kind_utt l c.requires (begins_says (ascii "// UTT ") l (sym c.if-starts_with-2.true ∙ c.starts_with-2.ensures.value))

pub returns-then-starts_with-3 : goal.returns-then-starts_with-3
returns-then-starts_with-3 c =
    let l = c.args.line.now in
    kind_fs l c.requires (begins_says (ascii "// FS ") l (sym c.if-starts_with-3.true ∙ c.starts_with-3.ensures.value))

pub end_kind-requires : goal.end_kind-requires
end_kind-requires c =
    let l = c.args.line.now in record {
      line_value = c.requires;
      begins_says = begins_says (ascii "// END") l (sym c.if-starts_with-4.true ∙ c.starts_with-4.ensures.value);
    }

pub returns : goal.returns
returns c =
    let l = c.args.line.now in
    kind_none l
    (begins_says (ascii "// U ") l (sym c.if-starts_with.false ∙ c.starts_with.ensures.value))
    (begins_says (ascii "// UTT ") l (sym c.if-starts_with-2.false ∙ c.starts_with-2.ensures.value))
    (begins_says (ascii "// FS ") l (sym c.if-starts_with-3.false ∙ c.starts_with-3.ensures.value))
    (begins_says (ascii "// END") l (sym c.if-starts_with-4.false ∙ c.starts_with-4.ensures.value))
