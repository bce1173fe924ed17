-- Copying data across segments and blocks: what is copied so far stands at the front of the output, and the rest of the data is left. Each turn copies bytes that
-- are left of one segment, one or more, behind those before.
use mathlib.Core.Path.{◌≡◌, ap, ap₂, sym, ◌∙◌, subst}
use mathlib.Core.List.{List}
use Prim.Native.Nat.{ℕ, ◌+◌, ◌-◌, ◌≤◌, ◌<◌, min}
use native.Mathlib.Omega.{arith}
use lib.ListN.{length, take, drop, length-drop}
use lib.Seq.{take-add, length-take-le}
use borrow.Rule.Slice.PartMut.{put_mid}
use Rattle.rules.specs.Halves.{over}
use Rattle.rules.proofs.Base.LentParts.{rest_over}
use Rattle.rules.proofs.Halves.PlaceLaws.{over_behind, over_nothing}
use Rattle.rules.proofs.Halves.SizeLaws.{length_over}
use Rattle.reels.specs.Header.{block_part}
use Rattle.segments.specs.declared.Spot.{Spot}
use Rattle.segments.specs.Spots.{passed_by, on_data, spot_after}
use Rattle.segments.specs.Promise.{Streams, Streamed, Copyable, Copied}
use Rattle.segments.proofs.StreamLaws.{lent_part, Streaming, streaming_start, streaming_block, streaming_some, streaming_room, streaming_part, streaming_more}

-- the bytes as they are lent, `&b[from..from + n]`
pub lent_put : (s : List ℕ) (v : Spot) (n : ℕ) (b old new : List ℕ) → b ≡ block_part s v.block → new ≡ over 0 (take (v.from + n - v.from) (drop v.from b)) old
    → new ≡ over 0 (take n (drop v.from (block_part s v.block))) old
lent_put s v n b old new e w = w ∙ ap (λ (z : List ℕ). over 0 z old) (lent_part s v n b e)

pub record Copying (s : List ℕ) (v : Spot) (n : ℕ) (old new : List ℕ) (at : Spot) (done : ℕ) : Type 0 where
  pub streaming : Streaming s v n at done
  pub fits : n ≤ length old
  pub written : (g : ℕ) (all : List ℕ) → Streams g s v all → n ≤ length all → new ≡ over 0 (take done all) old

pub copying_start : {s : List ℕ} {v : Spot} {n : ℕ} {old : List ℕ} → Copyable s v n (length old) → Copying s v n old old v 0
copying_start {old = old} c =
    record {
      streaming = streaming_start (record { g = c.g; «data» = c.«data»; streams = c.streams; enough = c.enough });
      fits = c.fits;
      written = λ g all k l. sym (over_nothing 0 old);
    }

module _ {s : List ℕ} {v : Spot} {n : ℕ} {old new : List ℕ} {at : Spot} {done : ℕ} (k : Copying s v n old new at done) where
  there : Streamed s v n
  there = k.streaming.streamed

  pub copying_length : length new ≡ length old
  copying_length =
      let all = there.«data» in
      let t : length (take done all) ≡ done = length-take-le done all (omega (arith, k.streaming.inside, there.enough)) in
      ap length (k.written there.g all there.streams there.enough) ∙ length_over 0 (take done all) old (omega (arith, t, k.streaming.inside, k.fits))

  pub copying_block : at.block ≤ length s
  copying_block = streaming_block k.streaming

  pub copying_end : n ≤ done → Copied s v n old new at
  copying_end l =
      let q : done ≡ n = omega (arith, k.streaming.inside) in
      record {
        written = λ g x w m. subst (λ (i : ℕ). new ≡ over 0 (take i x) old) q (k.written g x w m);
        streams = λ g x w m. subst (λ (i : ℕ). Streams g s at (drop i x)) q (k.streaming.streams g x w m);
        is = subst (λ (i : ℕ). at ≡ spot_after s i v) q k.streaming.is;
      }

  module _ (l : done < n) (here : Spot) (e : here ≡ on_data s at) where
    pub copying_some : here.from < here.to
    copying_some = streaming_some k.streaming l here e

    module _ (size : ℕ) (q : size ≡ min (n - done) (here.to - here.from)) where
      -- a byte or more, and no more than is left of the segment, nor than is wanted
      pub copying_size : (1 ≤ size) × (here.from + size ≤ here.to) × (done + size ≤ n)
      copying_size = let h = copying_some in omega arith

      -- they lie in the block, and there is room for them
      pub copying_room : (here.from + size ≤ length (block_part s here.block)) × (size ≤ 65536) × (done + size ≤ length new)
      copying_room =
          let z = copying_size in
          let r = streaming_room k.streaming l here e size z.0 z.1 z.2 in
          (r.0, r.1, omega (arith, z.2, copying_length, k.fits))

      pub copying_more : (next : List ℕ) → next ≡ over 0 (take size (drop here.from (block_part s here.block))) (take (length new - done) (drop done new)) → (w : Spot) → w ≡ passed_by size here
          → Copying s v n old (put_mid done (length new - done) new next) w (done + size)
      copying_more next p w z =
          record {
            streaming = streaming_more k.streaming l here e size copying_size.0 copying_size.1 copying_size.2 w z;
            fits = k.fits;
            written = λ g x y m. put_is g x y m;
          }
        where
          put_is : (g : ℕ) (x : List ℕ) → Streams g s v x → n ≤ length x → put_mid done (length new - done) new next ≡ over 0 (take (done + size) x) old
          put_is g x y m =
              let part = take size (drop here.from (block_part s here.block)) in
              let same : part ≡ take size (drop done x) = streaming_part k.streaming l here e size copying_size.0 copying_size.1 copying_size.2 g x y m in
              let t : length (take done x) ≡ done = length-take-le done x (omega (arith, k.streaming.inside)) in
              let u : length (take size (drop done x)) ≡ size = length-take-le size (drop done x) (omega (arith, length-drop done x, copying_size.2)) in
              ap (put_mid done (length new - done) new) p
              ∙ rest_over done new part (omega (arith, copying_room.2))
              ∙ ap₂ (over done) same (k.written g x y m)
              ∙ over_behind 0 done (take done x) (take size (drop done x)) old (omega arith) (omega (arith, copying_size.2, k.fits))
              ∙ ap (λ (c : List ℕ). over 0 c old) (sym (take-add done size x))
