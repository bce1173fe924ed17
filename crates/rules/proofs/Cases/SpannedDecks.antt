-- Order 6 on small decks, by computing: what a run in FS writes, and what is refused.
use mathlib.Core.Path.{◌≡◌, refl}
use mathlib.Core.List.{List}
use Prim.Native.Nat.{ℕ}
use Rattle.rules.specs.Base.{ascii, hex}
use Rattle.rules.specs.Answer.{fine, refused, refused_at}
use Rattle.rules.specs.Plan.{plan_answer}
use Rattle.rules.specs.Lent.{plan, run}
use Rattle.rules.specs.Open.{rules}

abbrev three : List ℕ
three = hex "00000003 00000014 0000001D 00000026 0000002F 00090000 0005010001 00090000 0005030002 00090000 0005020003"

pub record Table : Type 0 where
  pub reblocked : run 65536 (ascii "// U TR,FS,A=(9),B=(17)\n// END\n") three ≡ fine (record { reel = hex "00000001 0000000C 00000017 000B0000 00070000010203"; records = 1; blocks = 1 })
  pub copied : run 65536 (ascii "// U TC,FS,A=(9),B=(9)\n// END\n") three ≡ fine (record { reel = three; records = 1; blocks = 3 })
  pub past_r : run 65536 (ascii "// U TR,FS,A=(9),B=(17),R2\n// END\n") three ≡ fine (record { reel = hex "00000000 00000008"; records = 0; blocks = 0 })
  pub unfinished : run 65536 (ascii "// U TR,FS,A=(9),B=(17)\n// END\n") (hex "00000001 0000000C 00000015 00090000 0005010001") ≡ refused 12 1
  pub no_room : run 22 (ascii "// U TR,FS,A=(9),B=(17)\n// END\n") three ≡ refused 15 23
  pub under_nine : plan (ascii "// U TF,FS,A=(8),B=(9)\n// END\n") ≡ refused_at 7 1 15
  pub with_tf : plan (ascii "// U TF,FS,A=(9),B=(9)\n// FS 1,1,1\n// END\n") ≡ refused 8 1
  pub two_numbers : plan (ascii "// U TR,FS,A=(1,9),B=(9)\n// END\n") ≡ refused 8 1
  pub with_card : plan (ascii "// U TR,FS,A=(9),B=(9)\n// FS 1,1,1\n// END\n") ≡ refused 8 2
  pub twice : plan (ascii "// U TR,FF,FS,A=(9),B=(9)\n// END\n") ≡ refused_at 4 1 12
  pub keeps : plan_answer (plan (ascii "// U TR,FS,A=(9),B=(9)\n// END\n")) ≡ record { refusal = 0; place = 0; column = 0; keeping = 1; lost = 0; fields = 0 }

pub table : Table
unfolding rules
table =
    record {
      reblocked = refl;
      copied = refl;
      past_r = refl;
      unfinished = refl;
      no_room = refl;
      under_nine = refl;
      with_tf = refl;
      two_numbers = refl;
      with_card = refl;
      twice = refl;
      keeps = refl;
    }
