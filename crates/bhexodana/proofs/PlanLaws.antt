-- What the plan into a lent table leaves is what the rules say: the entries that are stored are the plan's fields, and a refusal stores none.
use mathlib.Core.Path.{◌≡◌, ap, sym, ◌∙◌, subst}
use mathlib.Core.List.{List, ◌++◌, map}
use Prim.Native.Nat.{ℕ, ◌≤◌}
use lib.ListN.{length, take, drop}
use Rattle.rules.specs.Lent.{plan_into}
use Rattle.terms.specs.Meaning.{entry_means, entry_for}
use Rattle.terms.specs.declared.Entry.{Entry}
use Rattle.terms.proofs.Entries.{entries_back}
use Rattle.tables.specs.Promise.{filled_for}
use Rattle.tables.specs.declared.TablePlan.{TablePlan}
use Rattle.tables.proofs.StoredLaws.{table_after_lem, into_own, store_fits}
use Rattle.bhexodana.specs.Promise.{PlannedInto}

-- no more is stored than there is, and than the table has
pub stored_fits : (deck : List ℕ) (room : ℕ) (p : TablePlan) → p ≡ filled_for deck (plan_into room deck) → (p.store ≤ 64) × (p.store ≤ room)
stored_fits deck room p e = subst (λ (z : TablePlan). (z.store ≤ 64) × (z.store ≤ room)) (sym e) (store_fits room deck)

-- the promise of the exported function, from what is stored
pub planned_into : (deck : List ℕ) (before : List Entry) (p : TablePlan) (after : List Entry) → p ≡ filled_for deck (plan_into (length before) deck)
    → after ≡ take p.store p.entries ++ drop p.store before → PlannedInto deck before p.answer after
planned_into deck before p after e f =
    let x = plan_into (length before) deck in
    let is : after ≡ take (filled_for deck x).store (filled_for deck x).entries ++ drop (filled_for deck x).store before
    = f ∙ ap (λ (z : TablePlan). take z.store z.entries ++ drop z.store before) e in
    record {
      answer = ap (λ (z : TablePlan). z.answer) e;
      table = sym (entries_back after) ∙ ap (map entry_for) (ap (map entry_means) is ∙ table_after_lem deck x (λ q w. into_own (length before) deck q w) before);
    }
