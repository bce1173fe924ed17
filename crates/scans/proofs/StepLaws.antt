-- A step of a scan, for code that takes it: what each way through the code answers is what the scan's definition says. By the tests on the way.
use mathlib.Core.Path.{◌≡◌}
use mathlib.Core.List.{List}
use Prim.Native.Nat.{ℕ, ◌+◌, ◌≤◌, ◌<◌}
use native.Mathlib.Numerals.{add-one}
use lib.ListN.{length, get_or, take, drop, set, drop_of_length-le}
use lib.Seq.{drop-cons}
use borrow.Author.Tests.{eq-eqb, ne_eqb, lt-ltb, le-ltb, le-leb, lt-leb}
use Rattle.rules.specs.Deck.{card_of}
use Rattle.lines.specs.Ordering.{card_kind_of, order_of}
use Rattle.std.specs.Prelude.{None}
use Rattle.scans.specs.Scanning.{begun_kind, line_ended, with_byte, step_of, scan_from, scanned_of}
use Rattle.scans.specs.declared.Scanner.{Scanner}

module _ (st : Scanner) where
  pub begun_long : 80 < st.size → begun_kind st ≡ None
  begun_long h = rw (lt-leb st.size 80 h)

  pub begun_short : st.size ≤ 80 → begun_kind st ≡ card_kind_of (card_of (take st.size st.begun))
  begun_short h = rw (le-leb st.size 80 h)

  module _ (b : ℕ) where
    pub byte_kept : st.size < 80 → ◌≡◌ {A = Scanner} (record { seen = st.seen; begun = set st.begun st.size b; size = st.size + 1 }) (with_byte st b)
    byte_kept h = rw (lt-ltb st.size 80 h)

    pub byte_past : 80 ≤ st.size → ◌≡◌ {A = Scanner} (record { seen = st.seen; begun = st.begun; size = 81 }) (with_byte st b)
    byte_past h = rw (le-ltb st.size 80 h)

    pub step_end : b ≡ 0x0A → step_of st b ≡ line_ended st
    step_end e = rw (eq-eqb b 0x0A e)

    pub step_byte : (b ≡ 0x0A → ⊥) → step_of st b ≡ with_byte st b
    step_byte n = rw (ne_eqb b 0x0A n)

  -- ---- decks

  pub scan_next : (s : List ℕ) (i : ℕ) → i < length s → scan_from st (drop i s) ≡ scan_from (step_of st (get_or s i 0)) (drop (i + 1) s)
  scan_next s i h = rw (add-one i, drop-cons s i 0 h)

  pub scan_end : (s : List ℕ) (i : ℕ) → length s ≤ i → scan_from st (drop i s) ≡ st
  scan_end s i h = rw (drop_of_length-le s {i = i} h)

  pub scanned_between : st.size ≡ 0 → scanned_of st ≡ order_of st.seen
  scanned_between e = rw (eq-eqb st.size 0 e)

  pub scanned_inside : (st.size ≡ 0 → ⊥) → scanned_of st ≡ order_of (line_ended st).seen
  scanned_inside n = rw (ne_eqb st.size 0 n)
