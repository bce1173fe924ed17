-- In FF the records from R on are what stands from the place where R starts, cut every n bytes. By the blocks' data, which joined is the records joined.
use mathlib.Core.Path.{◌≡◌, ap, ap₂, sym, ◌∙◌, subst}
use mathlib.Core.List.{List}
use Prim.Native.Nat.{ℕ, ◌+◌, ◌-◌, ◌*◌}
use lib.ListN.{drop}
use Rattle.rules.specs.Base.{joined}
use Rattle.rules.specs.Grammar.{ff}
use Rattle.rules.specs.Plan.{Plan, record_length}
use Rattle.rules.specs.Reel.{block_count}
use Rattle.rules.specs.Blocks.{taken_from}
use Rattle.rules.specs.ReelPlaces.{word_at}
use Rattle.rules.specs.EvenRecords.{Even}
use Rattle.rules.proofs.Blocks.EvenLaws.{taken_even}
use Rattle.rules.proofs.Reel.ReelSteps.{offset_first}
use Rattle.pieces.specs.declared.Form.{Form}
use Rattle.pieces.specs.Form.{FormIs}
use Rattle.walks.specs.Walking.{fixed_start}
use Rattle.walks.specs.Promise.{Good}

pub start_of : (form : Form) (s : List ℕ) (first a k : ℕ) → a ≡ word_at s 4 → k ≡ first - 1 → a + k * form.n ≡ fixed_start form s first
unfolding fixed_start
start_of form s first a k e q = ap₂ (λ (x j : ℕ). x + j * form.n) e q

module _ {form : Form} {s : List ℕ} {p : Plan} {recs : List (List (List ℕ))} (f : FormIs form p) (g : Good p s recs) where
  -- where R starts, behind the header
  pub start_is : (first : ℕ) → fixed_start form s first ≡ 4 * block_count s + 8 + (first - 1) * record_length p.input
  unfolding fixed_start
  start_is first = ap (λ (a : ℕ). a + (first - 1) * form.n) (offset_first s g.reel) ∙ ap (λ (n : ℕ). 4 * block_count s + 8 + (first - 1) * n) f.n

  pub fixed_taken : p.format ≡ ff → (first : ℕ) → Even (record_length p.input) (drop (fixed_start form s first) s) (joined (taken_from first recs))
  fixed_taken t first =
      subst (λ (a : ℕ). Even (record_length p.input) (drop a s) (joined (taken_from first recs))) (sym (start_is first)) (taken_even p t s recs g.reel g.records first)
