-- A list is prompt if its items are, for any mark between them.
use mathlib.Core.Path.{◌≡◌, ap, sym, subst, subst₂}
use mathlib.Core.List.{List, [], ◌∷◌, ◌++◌, append-nil}
use Prim.Native.Nat.{ℕ, zero, suc, ◌+◌, ◌≤◌}
use Prim.Native.String.{String}
use native.Mathlib.Omega.{arith}
use lib.ListN.{length}
use Rattle.rules.specs.Base.{ascii}
use Rattle.rules.specs.Reader.{Read, Reader, pure, ◌>>=◌, ◌>>◌, text, nothing, rest_then, list_by, list_of}
use Rattle.rules.specs.Texts.{ListText, RestText}
use Rattle.rules.specs.Columns.{GoesOn}
use Rattle.rules.proofs.Grammar.ReaderLaws.{not_read, Within}
use Rattle.rules.proofs.Grammar.ListLaws.{more_steps}
use Rattle.rules.proofs.Grammar.Prompt.{left_of, Near, both_stop, Prompt, not_stopped, stopped_left, prompt_less, prompt_map, prompt_pure, prompt_bind, Behind, prompt_or, prompt_text, prompt_end}

module _ {A : Type 0} (mark : String) (item : Reader A) (ItemIs : List ℕ → A → Type 0) (h : Prompt ItemIs item) where
  -- the end stops at once
  end_behind : (T : List ℕ → List A → Type 0) (q : Reader (List A)) → Prompt T q → Behind (nothing >> pure []) q
  end_behind T q k [] x a y e f = absurd (not_stopped {A = List A} [] [] x e)
  end_behind T q k (b ∷ s) x a y e f =
      let z : length (left_of (q (b ∷ s))) ≤ suc (length s) = prompt_less T q k (b ∷ s) in
      let g : left_of (q (b ∷ s)) ≡ y = ap left_of f in
      omega (arith, ap length g, ap length (stopped_left {A = List A} (b ∷ s) x e))

  prompt_rest : (list : Reader (List A)) → Prompt (ListText mark ItemIs) list → Prompt (RestText mark ItemIs) (rest_then mark item list)
  unfolding rest_then
  prompt_rest list k =
      let q : Prompt (RestText mark ItemIs) (text mark >> list) =
      prompt_text (RestText mark ItemIs) mark list (prompt_map (ListText mark ItemIs) list (λ y a. RestText mark ItemIs (ascii mark ++ y) a) (λ y a t. RestText.marked t) k) in
      prompt_or (RestText mark ItemIs) (nothing >> pure []) (text mark >> list) (prompt_end (RestText mark ItemIs) [] RestText.nothing) q
      (end_behind (RestText mark ItemIs) (text mark >> list) q)

  prompt_by : (k : ℕ) → Prompt (ListText mark ItemIs) (list_by mark item k)
  prompt_by zero =
      record {
        sound = λ s a left e. absurd (not_read s a left e);
        some = one;
        live = λ s left e. ([], stopped_left s left e, one);
        near = λ w b l m. both_stop w;
      }
    where
      one : GoesOn (ListText mark ItemIs) []
      one = let x = h.some in (x.0 ++ [], x.1 ∷ [], ListText.item x.2 RestText.nothing)
  prompt_by (suc k) =
      prompt_bind ItemIs (ListText mark ItemIs) item (λ i. rest_then mark item (list_by mark item k) >>= λ is. pure (i ∷ is)) h
      (λ x i t. prompt_bind (RestText mark ItemIs) (λ y is. ListText mark ItemIs (x ++ y) is) (rest_then mark item (list_by mark item k)) (λ is. pure (i ∷ is)) (prompt_rest (list_by mark item k) (prompt_by k))
      (λ y is r. prompt_pure (λ z bs. ListText mark ItemIs (x ++ (y ++ z)) bs) (i ∷ is) (subst (λ (l : List ℕ). ListText mark ItemIs (x ++ l) (i ∷ is)) (sym (append-nil y)) (ListText.item t r))))

  -- one step for each byte, and one, are enough for two texts at once
  pub prompt_list : Within 1 item → Prompt (ListText mark ItemIs) (list_of mark item)
  unfolding list_of
  prompt_list takes =
      record {
        sound = λ s is left e. (prompt_by (suc (length s))).sound s is left e;
        some = (prompt_by zero).some;
        live = λ s left e. (prompt_by (suc (length s))).live s left e;
        near = nears;
      }
    where
      nears : (w : List ℕ) (b : ℕ) (l m : List ℕ) → Near b l m (list_of mark item (w ++ (b ∷ l))) (list_of mark item (w ++ (b ∷ m)))
      nears w b l m =
          let s : List ℕ = w ++ (b ∷ l) in
          let t : List ℕ = w ++ (b ∷ m) in
          let k : ℕ = suc (length s + length t) in
          subst₂ (λ (r q : Read (List A)). Near b l m r q) (more_steps mark item takes k (suc (length s)) s (omega arith) (omega arith)) (more_steps mark item takes k (suc (length t)) t (omega arith) (omega arith))
          ((prompt_by k).near w b l m)
