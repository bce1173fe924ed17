-- Twins with each reason, several readers of one half, each kind of lowest value, and the refusals 15 and 16 in their order, by computation: document 02, order 3.
use mathlib.Core.Path.{◌≡◌, refl}
use Prim.Native.Nat.{ℕ}
use Prim.Native.String.{String}
use Rattle.rules.specs.Base.{ascii, hex}
use Rattle.rules.specs.Answer.{Answer, fine, refused}
use Rattle.rules.specs.Twins.{Shown, twins_into}
use Rattle.rules.specs.Open.{rules}

-- both records and the reason
abbrev show : ℕ → String → Answer Shown
show reason records = fine (record { records = hex records; reason = reason })

-- the paper's deck that loses half 9, in a room of so many bytes
abbrev sample : ℕ → Answer Shown
sample room = twins_into room (ascii "// UTT TRF,FF,A=(8,16),B=(6,6)\n// FS 1,4,1/5,(P,4,2),5\n// END")

pub record Table : Type 0 where
  -- a digit that a short field drops; zones are F, the sign is A
  pub dropped : sample 16 ≡ show 2 "00000000 F0F0F0A0 00000000 F1F0F0A0"
  -- 15 with the bytes needed
  pub short : sample 15 ≡ refused 15 16
  -- a plan that keeps is 16, also in no room
  pub keeps : twins_into 0 (ascii "// UTT TRF,FF,A=(8,16),B=(7,7)\n// FS 1,4,1/5,(P,4,3),5\n// END") ≡ refused 16 0
  pub never : twins_into 99 (ascii "// U TF,FF,A=(3,3),B=(2,2)\n// FS 2,2,1\n// END") ≡ show 1 "000000 100000"
  -- the last field that reads the half decides
  pub last_drops : twins_into 99 (ascii "// U TF,FF,A=(2,2),B=(2,2)\n// FS 1,2,1/1,(U,2,1),1\n// END") ≡ show 2 "000A 100A"
  pub last_covered : twins_into 99 (ascii "// U TF,FF,A=(2,2),B=(2,2)\n// FS 1,(U,2,1),1/1,2,1/2,1,1\n// END") ≡ show 3 "000A 100A"
  pub last_of_three : twins_into 99 (ascii "// U TF,FF,A=(2,2),B=(2,2)\n// FS 1,2,1/2,1,1/1,(U,2,1),1\n// END") ≡ show 2 "000A 100A"
  -- the lowest two of a sign
  pub sign : twins_into 99 (ascii "// U TF,FF,A=(2,2),B=(1,1)\n// FS 1,(P,1,1),1/2,1,1\n// END") ≡ show 3 "A000 B000"
  pub tail : twins_into 5 (ascii "// U TF,FV,A=(2,20),B=(2,20)\n// FS 1,2,1\n// END") ≡ show 4 "0000 000000"
  pub short_tail : twins_into 4 (ascii "// U TF,FV,A=(2,20),B=(2,20)\n// FS 1,2,1\n// END") ≡ refused 15 5

pub table : Table
unfolding rules
table =
    record {
      dropped = refl;
      short = refl;
      keeps = refl;
      never = refl;
      last_drops = refl;
      last_covered = refl;
      last_of_three = refl;
      sign = refl;
      tail = refl;
      short_tail = refl;
    }
