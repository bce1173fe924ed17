-- No two modes mean one, and no two formats: each is found again from what it means.
use mathlib.Core.Path.{◌≡◌, refl}
use Rattle.rules.specs.Grammar.{Mode as RuleMode, tc, tf, tr, trf, Format as RuleFormat, ff, fv, fu, fsp}
use Rattle.terms.specs.Meaning.{mode_of, format_of}
use Rattle.terms.specs.declared.Mode.{Mode}
use Rattle.terms.specs.declared.Mode.TheVariants.{TC, TF, TR, TRF}
use Rattle.terms.specs.declared.Format.{Format}
use Rattle.terms.specs.declared.Format.TheVariants.{FF, FV, FU, FS}

abbrev pub mode_back : RuleMode → Mode
mode_back tc = TC
mode_back tf = TF
mode_back tr = TR
mode_back trf = TRF

pub mode_back_lem : (m : Mode) → mode_back (mode_of m) ≡ m
mode_back_lem TC = refl
mode_back_lem TF = refl
mode_back_lem TR = refl
mode_back_lem TRF = refl

abbrev pub format_back : RuleFormat → Format
format_back ff = FF
format_back fv = FV
format_back fu = FU
format_back fsp = FS

pub format_back_lem : (f : Format) → format_back (format_of f) ≡ f
format_back_lem FF = refl
format_back_lem FV = refl
format_back_lem FU = refl
format_back_lem FS = refl
