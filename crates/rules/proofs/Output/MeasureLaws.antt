-- For code that looks at the records taken one after the other, and measures their output: what is asked of a record with fields that are lent, how large the numbers of an
-- accepted plan are, and that a record which fits behind others fits by itself. By the definitions.
use mathlib.Core.Path.{◌≡◌, refl, sym, ◌∙◌}
use mathlib.Core.Bool.{Bool, true, false}
use mathlib.Core.List.{List}
use Prim.Native.Nat.{ℕ, ◌+◌, ◌≤◌}
use native.Mathlib.Omega.{arith}
use lib.Dec.{leb, eqb}
use lib.ListN.{take}
use borrow.Author.Tests.{leb-true, leb-false, le-leb, eqb-true, eqb-false}
use Rattle.rules.specs.Places.{All}
use Rattle.rules.specs.Grammar.{Format, ff, fv, fu, fsp, Size, two, one}
use Rattle.rules.specs.Halves.{halves, Field}
use Rattle.rules.specs.Permitted.{permitted}
use Rattle.rules.specs.Plan.{Plan, selects, record_length, block_length, allowed}
use Rattle.rules.specs.Output.{may_be, permits, cost}
use Rattle.rules.specs.Rows.{KindWithin, FieldWithin, SizeWithin}
use Rattle.rules.proofs.Base.AllLaws.{all_imply}
use Rattle.rules.proofs.Output.FillSteps.{Measure, opening, measure, measure_first, measure_opens, measure_behind}
use Rattle.rules.proofs.Output.FitSteps.{fits_alone}

-- ---- refusal 13

pub kinds_within : {fs : List Field} → All FieldWithin fs → All (λ f. KindWithin f.kind) fs
kinds_within a = all_imply (λ f w. w.kind) a

-- TF and TRF: the halves of the record's first n bytes
pub permits_halves : (p : Plan) → selects p.mode ≡ true → (zone : ℕ) → p.zone ≡ zone → (r : List ℕ)
    → permits p r ≡ may_be (permitted zone p.fields) 0 (halves (take (record_length p.input) r))
unfolding permits allowed
permits_halves p e zone z r = rw (e, z)

-- ---- refusal 14

pub cost_high : (f : Format) → cost f ≤ 4
cost_high ff = omega arith
cost_high fv = omega arith
cost_high fu = omega arith
cost_high fsp = omega arith

pub record_high : (f : Format) (x : Size) → SizeWithin f x → record_length x ≤ 32760
record_high f (two n m) w = let z = w.0.1 in omega arith
record_high f (one g) w = let z = w.0.1 in omega arith

pub block_high : (f : Format) (x : Size) → SizeWithin f x → block_length x ≤ 32760
block_high f (two n m) w = w.1.1
block_high f (one g) w = w.0.1

-- TR and TRF: a block that is open has its own cost, and the size of the block that a record of n bytes goes into tells whether the record fits by itself
module _ (limit c : ℕ) where
  pub record AloneStep (k : Measure) (n : ℕ) : Type 0 where
    pub least : 1 ≤ k.blocks → c ≤ k.size
    pub test : leb k.size limit ≡ fits_alone limit c c n

  pub alone_step : (m : Measure) (n : ℕ) → (1 ≤ m.blocks → c ≤ m.size) → AloneStep (measure limit c c m n) n
  alone_step m n o = go (eqb m.blocks 0) refl (leb (m.size + (c + n)) limit) refl
    where
      opens : AloneStep (opening c c m n) n
      opens = record { least = λ l. omega arith; test = refl }

      go : (s : Bool) → eqb m.blocks 0 ≡ s → (t : Bool) → leb (m.size + (c + n)) limit ≡ t → AloneStep (measure limit c c m n) n
      go true s t q = rw (measure_first limit c c m n (eqb-true m.blocks 0 s)) opens
      go false s true q =
          let k : 1 ≤ m.blocks = omega (arith, eqb-false m.blocks 0 s) in
          let l = leb-true (m.size + (c + n)) limit q in
          let h = o k in
          rw (measure_behind limit c c m n k l)
          (record { least = λ z. omega arith; test = q ∙ sym (le-leb (c + (c + n)) limit (omega arith)) })
      go false s false q = rw (measure_opens limit c c m n (leb-false (m.size + (c + n)) limit q)) opens
