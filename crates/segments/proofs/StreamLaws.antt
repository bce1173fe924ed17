-- Going along the data of one reel: behind so many bytes of it the rest is left, and each turn takes bytes that are left of one segment. By the steps from
-- segment to segment, and by what is left of the segment where the turn stands.
use mathlib.Core.Path.{◌≡◌, refl, ap, ap₂, sym, ◌∙◌, subst}
use mathlib.Core.List.{List}
use Prim.Native.Nat.{ℕ, ◌+◌, ◌-◌, ◌≤◌, ◌<◌}
use native.Mathlib.Omega.{arith}
use lib.ListN.{length, take, drop, length-drop}
use lib.Seq.{drop-drop}
use Rattle.reels.specs.Header.{block_part}
use Rattle.segments.specs.declared.Spot.{Spot}
use Rattle.segments.specs.Spots.{passed_by, on_data, spot_after}
use Rattle.segments.specs.Promise.{Streams, Streamed}
use Rattle.segments.proofs.SpotLaws.{after_data, after_more}
use Rattle.segments.proofs.StandsLaws.{stands_block, streams_moved, bytes_taken, streams_on}
use Rattle.segments.proofs.GoodLaws.{streams_few}

-- the bytes as they are lent, `&b[from..from + n]`
pub lent_part : (s : List ℕ) (v : Spot) (n : ℕ) (b : List ℕ) → b ≡ block_part s v.block → take (v.from + n - v.from) (drop v.from b) ≡ take n (drop v.from (block_part s v.block))
lent_part s v n b e = ap₂ (λ (k : ℕ) (z : List ℕ). take k (drop v.from z)) (let z : v.from + n - v.from ≡ n = omega arith in z) e

pub record Streaming (s : List ℕ) (v : Spot) (n : ℕ) (at : Spot) (done : ℕ) : Type 0 where
  pub streamed : Streamed s v n
  pub inside : done ≤ n
  pub streams : (g : ℕ) (all : List ℕ) → Streams g s v all → n ≤ length all → Streams g s at (drop done all)
  pub is : at ≡ spot_after s done v

pub streaming_start : {s : List ℕ} {v : Spot} {n : ℕ} → Streamed s v n → Streaming s v n v 0
streaming_start c = record { streamed = c; inside = omega arith; streams = λ g all k l. k; is = refl }

module _ {s : List ℕ} {v : Spot} {n : ℕ} {at : Spot} {done : ℕ} (k : Streaming s v n at done) where
  abbrev all : List ℕ
  all = k.streamed.«data»

  pub streaming_block : at.block ≤ length s
  streaming_block = stands_block (k.streams k.streamed.g all k.streamed.streams k.streamed.enough).stands

  module _ (l : done < n) (here : Spot) (e : here ≡ on_data s at) where
    on : (g : ℕ) (x : List ℕ) → Streams g s v x → n ≤ length x → Streams g s here (drop done x) × (here.from < here.to) × (here.to ≤ length (block_part s here.block))
    on g x w m = streams_on (k.streams g x w m) (omega (arith, length-drop done x)) here e

    now : Streams k.streamed.g s here (drop done all) × (here.from < here.to) × (here.to ≤ length (block_part s here.block))
    now = on k.streamed.g all k.streamed.streams k.streamed.enough

    pub streaming_some : here.from < here.to
    streaming_some = now.1

    -- of what is left of the segment, no more than is wanted
    module _ (size : ℕ) (some : 1 ≤ size) (h : here.from + size ≤ here.to) (m : done + size ≤ n) where
      -- it lies in the block
      pub streaming_room : (here.from + size ≤ length (block_part s here.block)) × (size ≤ 65536)
      streaming_room =
          let i = now.2 in
          let f = streams_few k.streamed.streams in
          let c = k.streamed.enough in
          omega arith

      -- and is the data behind the bytes before
      pub streaming_part : (g : ℕ) (x : List ℕ) → Streams g s v x → n ≤ length x → take size (drop here.from (block_part s here.block)) ≡ take size (drop done x)
      streaming_part g x y i = let o = on g x y i in bytes_taken o.0 size h o.2

      pub streaming_more : (w : Spot) → w ≡ passed_by size here → Streaming s v n w (done + size)
      streaming_more w z =
          record {
            streamed = k.streamed;
            inside = m;
            streams = λ g x y i.
                subst (λ (u : Spot). Streams g s u (drop (done + size) x)) (sym z)
                (subst (Streams g s (passed_by size here)) (drop-drop size done x) (streams_moved (on g x y i).0 size h));
            is = z ∙ sym (after_more s done size v ∙ ap (spot_after s size) (sym k.is) ∙ after_data s size at here e some h);
          }
