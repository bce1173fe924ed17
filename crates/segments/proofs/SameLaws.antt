-- Comparing the data of two reels across segments and blocks of both: the bytes passed so far are equal, and of each reel the rest is left. Each turn compares bytes
-- that are left of one segment of each, one or more; where these differ, so does the data.
use mathlib.Core.Path.{◌≡◌, refl, ap, ap₂, sym, ◌∙◌, subst}
use mathlib.Core.Logic.{◌↔◌}
use mathlib.Core.Bool.{Bool, true, false, true≢false}
use mathlib.Core.List.{List, ◌++◌}
use Prim.Native.Nat.{ℕ, ◌+◌, ◌-◌, ◌≤◌, ◌<◌, min}
use native.Mathlib.Omega.{arith}
use lib.ListN.{length, take, drop}
use lib.Seq.{take-add, take-take}
use Rattle.rules.proofs.Base.Lists.{slice_from}
use Rattle.reels.specs.Header.{block_part}
use Rattle.segments.specs.declared.Spot.{Spot}
use Rattle.segments.specs.Spots.{passed_by, on_data}
use Rattle.segments.specs.Promise.{Streams, Streamed, SameData}
use Rattle.segments.proofs.StreamLaws.{Streaming, streaming_start, streaming_block, streaming_some, streaming_room, streaming_part, streaming_more}

-- so many of the bytes of its block from the spot's own place on
abbrev pub Part : List ℕ → Spot → ℕ → List ℕ
Part s v n = take n (drop v.from (block_part s v.block))

-- bytes in the middle are those of the front that holds them
middle : (done size n : ℕ) (x : List ℕ) → done + size ≤ n → take size (drop done x) ≡ drop done (take (done + size) (take n x))
middle done size n x l = sym (ap (drop done) (take-take (done + size) n x l) ∙ slice_from done size x)

pub record Comparing (s : List ℕ) (v : Spot) (t : List ℕ) (u : Spot) (n : ℕ) (at there : Spot) (done : ℕ) : Type 0 where
  pub one : Streaming s v n at done
  pub other : Streaming t u n there done
  pub same : (g h : ℕ) (xs ys : List ℕ) → Streams g s v xs → n ≤ length xs → Streams h t u ys → n ≤ length ys → take done xs ≡ take done ys

pub comparing_start : {s : List ℕ} {v : Spot} {t : List ℕ} {u : Spot} {n : ℕ} → Streamed s v n × Streamed t u n → Comparing s v t u n v u 0
comparing_start c = record { one = streaming_start c.0; other = streaming_start c.1; same = λ g h x y a l b m. refl }

module _ {s : List ℕ} {v : Spot} {t : List ℕ} {u : Spot} {n : ℕ} {at there : Spot} {done : ℕ} (k : Comparing s v t u n at there done) where
  pub comparing_block : (at.block ≤ length s) × (there.block ≤ length t)
  comparing_block = (streaming_block k.one, streaming_block k.other)

  pub comparing_end : n ≤ done → SameData s v t u n true
  comparing_end l =
      let q : done ≡ n = omega (arith, k.one.inside) in
      record { is = λ g h x y a i b j. (λ _. subst (λ (m : ℕ). take m x ≡ take m y) q (k.same g h x y a i b j), λ _. refl) }

  module _ (l : done < n) (here : Spot) (e : here ≡ on_data s at) where
    pub comparing_one : here.from < here.to
    comparing_one = streaming_some k.one l here e

    module _ (other : Spot) (f : other ≡ on_data t there) where
      pub comparing_other : other.from < other.to
      comparing_other = streaming_some k.other l other f

      module _ (both : ℕ) (p : both ≡ min (here.to - here.from) (other.to - other.from)) (size : ℕ) (q : size ≡ min (n - done) both) where
        -- a byte or more, and no more than is left of each segment, nor than is wanted
        pub comparing_size : (1 ≤ size) × (here.from + size ≤ here.to) × (other.from + size ≤ other.to) × (done + size ≤ n)
        comparing_size =
            let h = comparing_one in
            let o = comparing_other in
            omega arith

        -- they lie in the blocks
        pub comparing_room : (here.from + size ≤ length (block_part s here.block)) × (other.from + size ≤ length (block_part t other.block)) × (size ≤ 65536)
        comparing_room =
            let z = comparing_size in
            let a = streaming_room k.one l here e size z.0 z.1 z.3 in
            let b = streaming_room k.other l other f size z.0 z.2 z.3 in
            (a.0, b.0, a.1)

        module _ {r : Bool} (w : (r ≡ true) ↔ (Part s here size ≡ Part t other size)) where
          one_is : (g : ℕ) (x : List ℕ) → Streams g s v x → n ≤ length x → Part s here size ≡ take size (drop done x)
          one_is = let z = comparing_size in streaming_part k.one l here e size z.0 z.1 z.3

          other_is : (g : ℕ) (x : List ℕ) → Streams g t u x → n ≤ length x → Part t other size ≡ take size (drop done x)
          other_is = let z = comparing_size in streaming_part k.other l other f size z.0 z.2 z.3

          -- where the parts differ
          pub comparing_no : r ≡ false → SameData s v t u n false
          comparing_no d =
              record {
                is = λ g h x y a i b j. (
                  λ z. absurd (true≢false (sym z)),
                  λ z.
                      absurd (true≢false (sym (w.1 (one_is g x a i
                      ∙ middle done size n x comparing_size.3
                      ∙ ap (λ (c : List ℕ). drop done (take (done + size) c)) z
                      ∙ sym (middle done size n y comparing_size.3)
                      ∙ sym (other_is h y b j))) ∙ d)),
                );
              }

          -- where they are equal
          pub comparing_more : r ≡ true → (at' : Spot) → at' ≡ passed_by size here → (there' : Spot) → there' ≡ passed_by size other
              → Comparing s v t u n at' there' (done + size)
          comparing_more d at' ea there' et =
              let z = comparing_size in
              record {
                one = streaming_more k.one l here e size z.0 z.1 z.3 at' ea;
                other = streaming_more k.other l other f size z.0 z.2 z.3 there' et;
                same = λ g h x y a i b j.
                    take-add done size x
                    ∙ ap₂ ◌++◌ (k.same g h x y a i b j) (sym (one_is g x a i) ∙ w.0 d ∙ other_is h y b j)
                    ∙ sym (take-add done size y);
              }
