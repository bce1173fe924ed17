-- Document 01, "Sample deck and listing": the cases p1 to p12 as one table. They hold because the definitions compute them.
use mathlib.Core.Path.{◌≡◌, refl}
use mathlib.Core.List.{List}
use Prim.Native.Nat.{ℕ}
use Rattle.rules.specs.Base.{ascii, hex}
use Rattle.rules.specs.Answer.{fine, refused}
use Rattle.rules.specs.Halves.{pack_bytes, unpack_bytes}
use Rattle.rules.specs.Plan.{plan_answer}
use Rattle.rules.specs.Lent.{zone_f, plan, run}
use Rattle.rules.specs.Open.{rules}

pub deck1 : List ℕ
deck1 = ascii "// UTT TRF,FF,A=(8,16),B=(7,7)\n// FS 1,4,1/5,(P,4,3),5\n// END\n"

pub deck2 : List ℕ
deck2 = ascii "// UTT TRF,FF,A=(8,16),B=(6,6)\n// FS 1,4,1/5,(P,4,2),5\n// END\n"

pub deck9 : List ℕ
deck9 = ascii "// U TRF,FF,A=(2,2),B=(3,3)\n// FS 1,(P,2,2),1/1,(U,1,1),3\n// END"

pub reel7 : List ℕ
reel7 = hex "00000001 0000000C 0000001C C1C2C3C4F1F2F3C4 C1C2C3C4F9F2F3C4"

pub empty : List ℕ
empty = hex "00000000 00000008"

pub record Table : Type 0 where
  pub p1 : pack_bytes 3 (hex "F1F2F3C4") ≡ hex "01234C"
  pub p2 : pack_bytes 2 (hex "F1F2F3C4") ≡ hex "234C"
  pub p3 : pack_bytes 1 (hex "C4") ≡ hex "4C"
  pub p3' : pack_bytes 2 (hex "C4") ≡ hex "004C"
  pub p4 : unpack_bytes zone_f 5 (hex "01234C") ≡ hex "F0F1F2F3C4"
  pub p5 : unpack_bytes zone_f 4 (hex "01234C") ≡ hex "F1F2F3C4"
  pub p6 : unpack_bytes zone_f 1 (hex "4C") ≡ hex "C4"
  pub p7 : run 30 deck1 reel7 ≡ fine (record { reel = hex "00000002 00000010 00000017 0000001E C1C2C3C401234C C1C2C3C409234C"; records = 2; blocks = 2 })
  pub p8 : run 28 deck2 reel7 ≡ fine (record { reel = hex "00000002 00000010 00000016 0000001C C1C2C3C4234C C1C2C3C4234C"; records = 2; blocks = 2 })
  pub p9 : plan_answer (plan deck9) ≡ record { refusal = 10; place = 0; column = 0; keeping = 0; lost = 0; fields = 0 }
  pub p10 : run 8 deck1 empty ≡ fine (record { reel = empty; records = 0; blocks = 0 })
  pub p11 : run 7 deck1 empty ≡ refused 15 8
  pub p12 : run 65536 deck1 (hex "00000001 0000000C 0000000E 40") ≡ refused 11 0
  -- the two listings, of two fields each
  pub first : plan_answer (plan deck1) ≡ record { refusal = 0; place = 0; column = 0; keeping = 1; lost = 0; fields = 2 }
  pub second : plan_answer (plan deck2) ≡ record { refusal = 0; place = 0; column = 0; keeping = 0; lost = 9; fields = 2 }

pub table : Table
unfolding deck1 deck2 deck9 reel7 empty rules
table =
    record {
      p1 = refl;
      p2 = refl;
      p3 = refl;
      p3' = refl;
      p4 = refl;
      p5 = refl;
      p6 = refl;
      p7 = refl;
      p8 = refl;
      p9 = refl;
      p10 = refl;
      p11 = refl;
      p12 = refl;
      first = refl;
      second = refl;
    }
