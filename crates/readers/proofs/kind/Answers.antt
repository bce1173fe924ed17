-- `readers::kind` meets its contract: by the bracket and the letter behind it.
use Rattle.std.proofs.Common.{◌≡◌, ◌+◌, get_or, refl, ◌∙◌, arith}
use Rattle.std.proofs.lemmas.Result.{err_from_is_err_and}
use Rattle.rules.specs.Halves.{pack, unpack}
use Rattle.rules.proofs.Grammar.ChoiceLaws.{byte_inside, kind_pack, kind_unpack, kind_else}
use Rattle.readers.proofs.Parts.{not_there}
use Rattle.readers.proofs.Items.{kind_goes, copy_read, copy_placed, copy_stops}
use Rattle.readers.proofs.kind.Goals.{in_default-via-in-Some+in_default, in_default-via-in_default}
use Rattle.readers.proofs.kind.Goals as goal

pub returns-in-Some-eq80 : goal.returns-in-Some-eq80
returns-in-Some-eq80 c =
    let a = c.args in
    let s = a.s.now in
    let o = c.is_at.ensures.0 c.if-is_at.true in
    let e = c.in-Some-eq80.ensures.1 ∙ c.in-Some-eq80.field-0-test in
    kind_goes s a.from pack o 80 e refl (kind_pack s a.from o e) c.sizes_behind.result c.sizes_behind.ensures

pub returns-in-Some-eq85 : goal.returns-in-Some-eq85
returns-in-Some-eq85 c =
    let a = c.args in
    let s = a.s.now in
    let o = c.is_at.ensures.0 c.if-is_at.true in
    let e = c.in-Some-eq85.ensures.1 ∙ c.in-Some-eq85.field-0-test in
    kind_goes s a.from unpack o 85 e refl (kind_unpack s a.from o e) c.sizes_behind-in-Some-eq85.result c.sizes_behind-in-Some-eq85.ensures

pub returns-in_default : goal.returns-in_default
returns-in_default c =
    let a = c.args in
    let s = a.s.now in
    let o = c.is_at.ensures.0 c.if-is_at.true in
    let other : (get_or s (a.from + 1) 256 ≡ 80 → ⊥) × (get_or s (a.from + 1) 256 ≡ 85 → ⊥) = elim c.in_default.branch [
      | in_default-via-in-Some+in_default w ↦ let e = w.in_default.ensures.1 in let t = w.in_default.field-0-test in (λ z. omega (arith, e), λ z. omega (arith, e))
      | in_default-via-in_default w ↦ let e = rw w.in_default.is at c.peek.ensures in (λ z. omega (arith, e), λ z. omega (arith, e))
    ] in
    (omega (arith, byte_inside s a.from 40 o (omega arith)), kind_else s a.from o other.0 other.1)

pub returns-in_err-n : goal.returns-in_err-n
returns-in_err-n c =
    let a = c.args in
    let s = a.s.now in
    let p = err_from_is_err_and c.from_residual.result c.from_residual.ensures.1 in
    rw (p.1, p.2) (copy_stops s a.from (not_there c.is_at.result c.is_at.ensures.1 c.if-is_at.false) _ c.in_err-n.ensures)

pub returns : goal.returns
returns c =
    let a = c.args in
    let s = a.s.now in
    let other : get_or s a.from 256 ≡ 40 → ⊥ = not_there c.is_at.result c.is_at.ensures.1 c.if-is_at.false in
    let q = copy_placed s a.from other _ _ c.requires c.in_ok-n.ensures in
    (copy_read s a.from other _ _ c.in_ok-n.ensures, refl, q.0, q.1, q.2)
