-- Plans that ask the same of blocks read every block and every reel alike: the rules look at the format, A's numbers and the least data, and these are the same.
use mathlib.Core.Path.{◌≡◌, refl, ap, ap₂, sym, ◌∙◌}
use mathlib.Core.Bool.{Bool, true, false, cond}
use mathlib.Core.List.{List}
use mathlib.Core.Option.{Option, none, some}
use Prim.Native.Nat.{ℕ}
use Rattle.rules.specs.Answer.{each_read}
use Rattle.rules.specs.Grammar.{tf, tr}
use Rattle.rules.specs.Plan.{Plan, selects, record_length}
use Rattle.rules.specs.Blocks.{Piece, pieces_in, least_data, meets, records_of, records_in, records_from}
use Rattle.rules.specs.Reel.{blocks_of}
use Rattle.pieces.specs.Form.{FormIs, plan_by}
use Rattle.reels.specs.Records.{reel_read}
use Rattle.pieces.specs.declared.Form.{Form}

pub form_by : (form : Form) → FormIs form (plan_by form)
unfolding plan_by
form_by form = record { format = refl; n = refl; m = refl; selects = go form.selects }
  where
    go : (t : Bool) → t ≡ selects (cond t tf tr)
    go true = refl
    go false = refl

-- the least data of a record
pub least_selected : (form : Form) → form.selects ≡ true → form.n ≡ least_data (plan_by form)
unfolding plan_by least_data
least_selected form e = rw e

pub least_whole : (form : Form) → form.selects ≡ false → 1 ≡ least_data (plan_by form)
unfolding plan_by least_data
least_whole form e = rw e

module _ {form : Form} {p q : Plan} (h : FormIs form p) (k : FormIs form q) where
  pub least_alike : least_data p ≡ least_data q
  unfolding least_data
  least_alike = ap₂ (λ (t : Bool) (n : ℕ). cond t n 1) (sym h.selects ∙ k.selects) (sym h.n ∙ k.n)

  meets_alike : (b : List ℕ) (xs : List Piece) → meets p b xs ≡ meets q b xs
  unfolding meets
  meets_alike b xs = rw (least_alike, sym h.m ∙ k.m)

  pieces_alike : (b : List ℕ) (o : Option (List Piece)) → records_of p b o ≡ records_of q b o
  pieces_alike b none = refl
  pieces_alike b (some xs) = rw (meets_alike b xs)

  pub block_alike : (b : List ℕ) → records_in p b ≡ records_in q b
  unfolding records_in
  block_alike b = pieces_alike b (pieces_in p.format (record_length p.input) b) ∙ ap₂ (λ f n. records_of q b (pieces_in f n b)) (sym h.format ∙ k.format) (sym h.n ∙ k.n)

  pub blocks_alike : (i : ℕ) (bs : List (List ℕ)) → records_from p i bs ≡ records_from q i bs
  blocks_alike i bs = ap (λ (reads : List ℕ → Option (List (List ℕ))). each_read 12 reads i bs) (λ k b. block_alike b k)

  pub reel_alike : (s : List ℕ) → reel_read p s ≡ reel_read q s
  unfolding reel_read
  reel_alike s = rw (blocks_alike 1 (blocks_of s))
