-- The promises about permitted values: what is answered is what the rules say of an accepted plan, and each promise allows one outcome only. It holds since
-- the numbers say which fields they are of.
use mathlib.Core.Path.{◌≡◌, refl, sym, ◌∙◌}
use mathlib.Core.Bool.{Bool, true, false}
use mathlib.Core.List.{List}
use Prim.Native.Nat.{ℕ, ◌≤◌}
use lib.ListN.{length}
use borrow.Author.Tests.{not-false}
use Rattle.rules.specs.Places.{All, Byte}
use Rattle.rules.specs.Halves.{Field}
use Rattle.rules.specs.Plan.{Plan, selects, record_length, allowed}
use Rattle.rules.specs.Output.{permits}
use Rattle.rules.specs.Lent.{zone_f}
use Rattle.rules.proofs.Base.AllLaws.{all_imply}
use Rattle.rules.proofs.Base.Tests.{every_all, all_every}
use Rattle.rows.specs.Flat.{flat_of, FlatFair, Readable}
use Rattle.values.specs.Promise.{Permits, takes_any, FieldsAsk}
use Rattle.values.proofs.CheckLaws.{may_read, any_read, permits_all}

-- where no field asks anything, every record is permitted
pub asks_nothing : (xs r : List ℕ) → All Byte r → FieldsAsk xs false → Permits xs r true
unfolding FieldsAsk
asks_nothing xs r small h =
    permits_all xs r small (λ fs flat. all_every (may_read r) (all_imply (λ f t. any_read r small f t) (every_all (λ f. takes_any f.kind) fs (not-false _ (sym (h fs flat))))))

pub permits_of : (p : Plan) (xs r : List ℕ) (x : Bool) → p.zone ≡ zone_f → selects p.mode ≡ true → FlatFair xs p.fields (record_length p.input) (record_length p.output)
    → record_length p.input ≤ length r → Permits xs r x → x ≡ permits p r
unfolding Permits permits allowed
permits_of p xs r x z sel fair long h = rw (sel, z) (h p.fields _ _ fair long)

-- ---- one outcome only

pub permitted_only_one : (xs r : List ℕ) → Readable xs (length r) → (x y : Bool) → Permits xs r x → Permits xs r y → x ≡ y
unfolding Permits
permitted_only_one xs r k x y h g = let f = k.fielded in h f.fields _ _ f.fair k.long ∙ sym (g f.fields _ _ f.fair k.long)

pub asks_only_one : (fs : List Field) (x y : Bool) → FieldsAsk (flat_of fs) x → FieldsAsk (flat_of fs) y → x ≡ y
unfolding FieldsAsk
asks_only_one fs x y h g = h fs refl ∙ sym (g fs refl)
