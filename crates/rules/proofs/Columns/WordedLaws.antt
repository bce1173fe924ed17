-- A list read part by part with the parts' texts has the parts that it has without them: by going along the text of the list.
use mathlib.Core.Path.{◌≡◌, refl, ap, sym, ◌∙◌, subst}
use mathlib.Core.List.{List, [], ◌∷◌, ◌++◌}
use Prim.Native.Nat.{ℕ, ◌-◌}
use Prim.Native.String.{String}
use native.Mathlib.Omega.{arith}
use lib.ListN.{length, take, length-append}
use lib.Seq.{take-append_seam}
use Rattle.rules.specs.Reader.{Read, read, Reader, onward}
use Rattle.rules.specs.Grammar.{Parameter, parameter, Item, item}
use Rattle.rules.specs.Words.{Worded, worded, parts_of, u_words, fs_words, values_of}
use Rattle.rules.specs.Texts.{ListText, RestText, ParameterText, UText, ItemText, FsText}
use Rattle.rules.specs.ColumnRows.{WordIs, UParts, FsParts}
use Rattle.rules.proofs.Grammar.ReaderLaws.{Inside, reads, stops_at, Within}
use Rattle.rules.proofs.Grammar.ListLaws.{list_reads}
use Rattle.rules.proofs.Grammar.NumberLaws.{at_end, comma_ends, slash_ends}
use Rattle.rules.proofs.Grammar.ItemLaws.{within_item}
use Rattle.rules.proofs.Grammar.ParameterLaws.{within_parameter}
use Rattle.rules.proofs.Grammar.GrammarLaws.{item_reads, parameter_reads}

module _ {A : Type 0} (p : Reader A) where
  pub within_worded : Within 1 p → Within 1 (worded p)
  unfolding worded
  within_worded h s = go (h s)
    where
      go : {r : Read A} → Inside 1 s r → Inside {A = Worded A} 1 s (onward r (λ a left. read (record { value = a; text = take (length s - length left) s }) left))
      go (reads i) = reads i
      go (stops_at i) = stops_at i

  pub worded_reads : (x y : List ℕ) (w : Worded A) → w.text ≡ x → p (x ++ y) ≡ read w.value y → worded p (x ++ y) ≡ read w y
  unfolding worded
  worded_reads x y w e f =
      let n : length (x ++ y) - length y ≡ length x = omega (arith, length-append x y) in
      let t : take (length (x ++ y) - length y) (x ++ y) ≡ w.text = ap (λ (k : ℕ). take k (x ++ y)) n ∙ take-append_seam x y ∙ sym e in
      rw f (λ i. read (record { value = w.value; text = t i }) y)

module _ {A : Type 0} (mark : String) (ItemIs : List ℕ → A → Type 0) where
  -- the parts of a list
  pub parts_of_lem : {s : List ℕ} {xs : List A} → ListText mark ItemIs s xs → (ws : List (Worded A)) × ListText mark (WordIs ItemIs) s ws × (values_of ws ≡ xs)
  parts_of_lem t =
      elim t as (λ s xs t. (ws : List (Worded A)) × ListText mark (WordIs ItemIs) s ws × (values_of ws ≡ xs)) (λ s xs t. (ws : List (Worded A)) × RestText mark (WordIs ItemIs) s ws × (values_of ws ≡ xs)) [
        | ListText.item {x = x} {y = y} {a = a} {more = more} i (r → h) ↦ (record { value = a; text = x } ∷ h.0, ListText.item (i, refl) h.1, ap (λ (z : List A). a ∷ z) h.2)
        | RestText.nothing ↦ ([], RestText.nothing, refl)
        | RestText.marked {y = y} {more = more} (l → h) ↦ (h.0, RestText.marked h.1, h.2)
      ]

-- ---- the two operands

pub u_parts : (o : List ℕ) (ws : List (Worded Parameter)) → UParts o ws → u_words o ≡ ws
unfolding u_words
u_parts o ws t =
    ap parts_of
    (list_reads "," (worded parameter) (WordIs ParameterText) (within_worded parameter within_parameter) 44 refl
    (λ x w t. worded_reads parameter x [] w t.1 (parameter_reads t.0 at_end))
    (λ x w s t. worded_reads parameter x (44 ∷ s) w t.1 (parameter_reads t.0 (comma_ends s))) t)

pub fs_parts : (o : List ℕ) (ws : List (Worded Item)) → FsParts o ws → fs_words o ≡ ws
unfolding fs_words
fs_parts o ws t =
    ap parts_of
    (list_reads "/" (worded item) (WordIs ItemText) (within_worded item within_item) 47 refl
    (λ x w t. worded_reads item x [] w t.1 (item_reads t.0 at_end))
    (λ x w s t. worded_reads item x (47 ∷ s) w t.1 (item_reads t.0 (slash_ends s))) t)

pub u_worded : (o : List ℕ) (us : List Parameter) → UText o us → UParts o (u_words o) × (values_of (u_words o) ≡ us)
u_worded o us t = let w = parts_of_lem "," ParameterText t in let e = u_parts o w.0 w.1 in (subst (UParts o) (sym e) w.1, ap values_of e ∙ w.2)

pub fs_worded : (o : List ℕ) (is : List Item) → FsText o is → FsParts o (fs_words o) × (values_of (fs_words o) ≡ is)
fs_worded o is t = let w = parts_of_lem "/" ItemText t in let e = fs_parts o w.0 w.1 in (subst (FsParts o) (sym e) w.1, ap values_of e ∙ w.2)
