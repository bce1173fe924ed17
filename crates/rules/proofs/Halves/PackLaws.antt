-- Of permitted fields: pack and unpack undo one another where no digit is dropped, and a short field keeps exactly its last digits. It holds of
-- the halves, and halves and bytes undo one another, since what is permitted is a half.
use mathlib.Core.Path.{◌≡◌, refl, ap, sym, ◌∙◌}
use mathlib.Core.Logic.{◌↔◌}
use mathlib.Core.Bool.{Bool, true, false}
use mathlib.Core.List.{List}
use Prim.Native.Nat.{ℕ, ◌+◌, ◌-◌, ◌*◌, ◌/◌, ◌≤◌, ◌<◌}
use native.Mathlib.Omega.{arith}
use lib.Dec.{leb}
use lib.ListN.{length, drop, get_or, length-drop}
use lib.Seq.{get_or-drop}
use borrow.Author.Tests.{leb-true, leb-false, eqb-true}
use Rattle.rules.specs.Places.{All, Byte, Half}
use Rattle.rules.specs.Halves.{halves, bytes, pack, unpack, packed, unpacked, value, pack_bytes, unpack_bytes}
use Rattle.rules.proofs.Base.AllLaws.{all_drop}
use Rattle.rules.proofs.Halves.SizeLaws.{length_packed, length_unpacked, length_halves, all_converted, halves_small, halves_pairs, pairs_halves}
use Rattle.rules.proofs.Halves.BytePlaces.{halves_high, halves_drop}
use Rattle.rules.proofs.Halves.PermittedLaws.{PermittedInput, permitted_bytes, pack_high_allows}
use Rattle.rules.proofs.Halves.PackHalves.{unpacked_packed, packed_unpacked, packed_kept, unpacked_kept, unpacked_exactly}

-- ---- bytes

-- the bytes of halves have those halves
halves_back : (hs : List ℕ) (n : ℕ) → length hs ≡ 2 * n → All Half hs → halves (bytes hs) ≡ hs
halves_back hs n e a = halves_pairs {hs = hs} (omega arith) a

packed_small : (m : ℕ) {xs : List ℕ} → All Half xs → All Half (packed value m xs)
packed_small m a = all_converted value (λ c h. h) 0 (omega arith) (pack 0 m) a

unpacked_small : (zone m : ℕ) → zone < 16 → {xs : List ℕ} → All Half xs → All Half (unpacked zone value m xs)
unpacked_small zone m z a = all_converted value (λ c h. h) zone z (unpack 0 m) a

module _ (m : ℕ) (s : List ℕ) (all : All Byte s) (hs : 1 ≤ length s) (hm : 1 ≤ m) where
  two : 2 ≤ length (halves s)
  two = omega (arith, length_halves s)

  pub halves_pack_bytes : halves (pack_bytes m s) ≡ packed value m (halves s)
  unfolding pack_bytes
  halves_pack_bytes = halves_back (packed value m (halves s)) m (length_packed value m (halves s) hm two) (packed_small m (halves_small all))

  pub halves_unpack_bytes : (zone : ℕ) → zone < 16 → halves (unpack_bytes zone m s) ≡ unpacked zone value m (halves s)
  unfolding unpack_bytes
  halves_unpack_bytes zone z = halves_back (unpacked zone value m (halves s)) m (length_unpacked zone value m (halves s) hm two) (unpacked_small zone m z (halves_small all))

  -- packed and unpacked again, where the zone stands in each high half but the last
  pub pack_back : (zone : ℕ) → length s ≤ 2 * m - 1 → ((i : ℕ) → i + 1 < length s → get_or s i 0 / 16 ≡ zone) → unpack_bytes zone (length s) (pack_bytes m s) ≡ s
  unfolding unpack_bytes
  pack_back zone short zones =
      ap (λ (r : List ℕ). bytes (unpacked zone value (length s) r)) halves_pack_bytes
      ∙ ap bytes (unpacked_packed 0 zone value (halves s) (length s) m (length_halves s) hs hm short (λ i h. halves_high s i (2 * i) refl ∙ zones i h))
      ∙ pairs_halves s

  -- unpacked and packed again
  pub unpack_back : (zone : ℕ) → zone < 16 → 2 * length s - 1 ≤ m → pack_bytes (length s) (unpack_bytes zone m s) ≡ s
  unfolding pack_bytes
  unpack_back zone z short =
      ap (λ (r : List ℕ). bytes (packed value (length s) r)) (halves_unpack_bytes zone z)
      ∙ ap bytes (packed_unpacked 0 zone value (halves s) (length s) m (length_halves s) hs hm short)
      ∙ pairs_halves s

unpack_same : (zone m : ℕ) (s s' : List ℕ) → unpacked zone value m (halves s) ≡ unpacked zone value m (halves s') → unpack_bytes zone m s ≡ unpack_bytes zone m s'
unfolding unpack_bytes
unpack_same zone m s s' q = ap bytes q

unpacked_dropped : (zone m : ℕ) (s : List ℕ) (c : ℕ) → bytes (unpacked zone value m (drop (2 * c) (halves s))) ≡ unpack_bytes zone m (drop c s)
unfolding unpack_bytes
unpacked_dropped zone m s c = ap (λ (r : List ℕ). bytes (unpacked zone value m r)) (sym (halves_drop c s))

-- a short field keeps the last bytes
pub pack_kept : (m : ℕ) (s : List ℕ) → 1 ≤ m → (c : ℕ) → c + (2 * m - 1) ≤ length s → pack_bytes m s ≡ pack_bytes m (drop c s)
unfolding pack_bytes
pack_kept m s hm c room =
    ap bytes (packed_kept 0 0 value (halves s) (length s) m (length_halves s) (omega arith) hm c room)
    ∙ ap (λ (r : List ℕ). bytes (packed value m r)) (sym (halves_drop c s))

-- the last halves
pub unpack_kept_halves : (zone m : ℕ) (s : List ℕ) → 1 ≤ m → (c : ℕ) → c + (m + 1) ≤ 2 * length s
    → unpack_bytes zone m s ≡ bytes (unpacked zone value m (drop c (halves s)))
unfolding unpack_bytes
unpack_kept_halves zone m s hm c room =
    ap bytes (unpacked_kept 0 zone value (halves s) m (omega (arith, length_halves s)) hm c (omega (arith, length_halves s)))

pub unpack_kept : (zone m : ℕ) (s : List ℕ) → 1 ≤ m → (c : ℕ) → 2 * c + (m + 1) ≤ 2 * length s → unpack_bytes zone m s ≡ unpack_bytes zone m (drop c s)
unpack_kept zone m s hm c room = unpack_kept_halves zone m s hm (2 * c) room ∙ unpacked_dropped zone m s c

-- ---- permitted input

module _ (zone n m : ℕ) (z : zone < 16) (hn : 1 ≤ n) where
  zones_of : (s : List ℕ) → PermittedInput zone (pack n m) s → (i : ℕ) → i + 1 < n → get_or s i 0 / 16 ≡ zone
  zones_of s ok i h =
      sym (halves_high s i (2 * i) refl)
      ∙ eqb-true _ zone (sym (pack_high_allows zone n m (get_or (halves s) (2 * i) 0) (2 * i) i refl h) ∙ ok.each (2 * i) (omega arith))

  -- no digit is dropped: unpacked again, the field is as it was
  pub pack_round : (s : List ℕ) → PermittedInput zone (pack n m) s → n ≤ 2 * m - 1 → unpack_bytes zone n (pack_bytes m s) ≡ s
  pack_round s ok short =
      ap (λ (i : ℕ). unpack_bytes zone i (pack_bytes m s)) (sym ok.size)
      ∙ pack_back m s (permitted_bytes zone z _ s ok) (omega (arith, ok.size)) (omega arith) zone (omega (arith, ok.size)) (λ i h. zones_of s ok i (omega (arith, ok.size)))

  -- no digit is dropped: packed again, the field is as it was
  pub unpack_round : (s : List ℕ) → PermittedInput zone (unpack n m) s → 2 * n - 1 ≤ m → pack_bytes n (unpack_bytes zone m s) ≡ s
  unpack_round s ok short =
      ap (λ (i : ℕ). pack_bytes i (unpack_bytes zone m s)) (sym ok.size)
      ∙ unpack_back m s (permitted_bytes zone z _ s ok) (omega (arith, ok.size)) (omega arith) zone z (omega (arith, ok.size))

  -- packed into m bytes, a field keeps its last 2m - 1 bytes, and nothing else: two fields become the same exactly if these are the same
  pub pack_exactly : 1 ≤ m → (s s' : List ℕ) → PermittedInput zone (pack n m) s → PermittedInput zone (pack n m) s'
      → (pack_bytes m s ≡ pack_bytes m s') ↔ (drop (n - (2 * m - 1)) s ≡ drop (n - (2 * m - 1)) s')
  pack_exactly hm s s' ok ok' = (
    (λ same. sym (again s ok) ∙ ap (λ (r : List ℕ). unpack_bytes zone (n - (n - (2 * m - 1))) r) (sym (kept s ok) ∙ same ∙ kept s' ok') ∙ again s' ok'),
    (λ same. kept s ok ∙ ap (pack_bytes m) same ∙ sym (kept s' ok')),
  )
    where
      kept : (r : List ℕ) → PermittedInput zone (pack n m) r → pack_bytes m r ≡ pack_bytes m (drop (n - (2 * m - 1)) r)
      kept r p = go (leb (2 * m - 1) n) refl
        where
          go : (t : Bool) → leb (2 * m - 1) n ≡ t → pack_bytes m r ≡ pack_bytes m (drop (n - (2 * m - 1)) r)
          go true t =
              let l : 2 * m - 1 ≤ n = leb-true (2 * m - 1) n t in
              pack_kept m r hm (n - (2 * m - 1)) (omega (arith, p.size))
          go false t =
              let l : n < 2 * m - 1 = leb-false (2 * m - 1) n t in
              let none : 0 ≡ n - (2 * m - 1) = omega arith in
              ap (λ (c : ℕ). pack_bytes m (drop c r)) none

      again : (r : List ℕ) → PermittedInput zone (pack n m) r → unpack_bytes zone (n - (n - (2 * m - 1))) (pack_bytes m (drop (n - (2 * m - 1)) r)) ≡ drop (n - (2 * m - 1)) r
      again r p =
          let c : ℕ = n - (2 * m - 1) in
          let l : length (drop c r) ≡ n - c = length-drop c r ∙ ap (λ (i : ℕ). i - c) p.size in
          ap (λ (i : ℕ). unpack_bytes zone i (pack_bytes m (drop c r))) (sym l)
          ∙ pack_back m (drop c r) (all_drop c (permitted_bytes zone z _ r p)) (omega arith) hm zone (omega arith)
          (λ i h. ap (λ (b : ℕ). b / 16) (get_or-drop c r i 0) ∙ zones_of r p (c + i) (omega arith))

  -- unpacked into m bytes, a field keeps its last m + 1 halves
  pub unpack_exactly : 1 ≤ m → (s s' : List ℕ) → PermittedInput zone (unpack n m) s → PermittedInput zone (unpack n m) s'
      → (unpack_bytes zone m s ≡ unpack_bytes zone m s') ↔ (drop (2 * n - (m + 1)) (halves s) ≡ drop (2 * n - (m + 1)) (halves s'))
  unpack_exactly hm s s' ok ok' =
      let wide : (r : List ℕ) → PermittedInput zone (unpack n m) r → length (halves r) ≡ 2 * n = λ r p. length_halves r ∙ ap (λ (i : ℕ). 2 * i) p.size in
      let both = unpacked_exactly 0 zone value (halves s) (halves s') m (2 * n) (wide s ok) (wide s' ok') (omega arith) hm in
      ((λ same. both.0 (sym (spread s ok) ∙ ap halves same ∙ spread s' ok')), (λ same. unpack_same zone m s s' (both.1 same)))
    where
      spread : (r : List ℕ) → PermittedInput zone (unpack n m) r → halves (unpack_bytes zone m r) ≡ unpacked zone value m (halves r)
      spread r p = halves_unpack_bytes m r (permitted_bytes zone z _ r p) (omega (arith, p.size)) hm zone z
