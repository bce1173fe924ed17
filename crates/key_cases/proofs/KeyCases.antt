-- Keyed decks: accepted, keeping or losing, refused, their twins, the lent table and runs, by computation: document 02, order 5.
use mathlib.Core.Path.{◌≡◌, refl}
use mathlib.Core.List.{List, [], ◌∷◌, ◌++◌}
use Prim.Native.Nat.{ℕ}
use Prim.Native.String.{String}
use Rattle.rules.specs.Base.{ascii, hex}
use Rattle.rules.specs.Answer.{Answer, fine, refused, refused_at, ◌>>=◌}
use Rattle.rules.specs.Reel.{reel_of}
use Rattle.rules.specs.Asked.{asked_of}
use Rattle.rules.specs.Plan.{Plan, PlanAnswer, plan_answer}
use Rattle.rules.specs.Run.{RunOutput}
use Rattle.rules.specs.Lent.{Entry, plan, table_after, run}
use Rattle.rules.specs.Twins.{twins_into}
use Rattle.rules.specs.Keys.{through_utility, through_asked}
use Rattle.rules.specs.Open.{rules}

-- the plan of some cards, and of fields of a key of 2 bytes and data of 3
abbrev deck : String → Answer Plan
deck cards = plan (ascii cards ++ ascii "\n// END")

abbrev keyed_deck : String → List ℕ
keyed_deck items = ascii "// U TF,FF,A=(K=2,D=3),B=(4,4)\n// FS " ++ ascii items ++ ascii "\n// END"

abbrev fs : String → Answer Plan
fs items = plan (keyed_deck items)

-- a deck that takes all of such a record but data byte 2
abbrev sample : String → String → List ℕ
sample mode output = ascii "// U " ++ ascii mode ++ ascii ",FF,A=(K=2,D=3)," ++ ascii output ++ ascii "\n// FS (K,1),2,1/1,1,3/3,1,4\n// END"

-- what an accepted plan of so many fields answers: it keeps, or where it loses
abbrev answer : String → PlanAnswer
answer cards = plan_answer (deck cards)

abbrev keeping : ℕ → PlanAnswer
keeping fields = record { refusal = 0; place = 0; column = 0; keeping = 1; lost = 0; fields = fields }

abbrev losing : ℕ → ℕ → PlanAnswer
losing lost fields = record { refusal = 0; place = 0; column = 0; keeping = 0; lost = lost; fields = fields }

abbrev entry : ℕ → ℕ → ℕ → ℕ → ℕ → ℕ → Entry
entry kind part r input output t = record { kind = kind; part = part; r = r; input = input; output = output; t = t }

-- a reel of these blocks
abbrev wrote : ℕ → ℕ → List (List ℕ) → Answer RunOutput
wrote records blocks bs = fine (record { reel = reel_of bs; records = records; blocks = blocks })

pub record Table : Type 0 where
  -- decks of document 001: data cell to tape, and near disk to disk, where data bytes 1 to 5 are dropped
  pub data_cell : answer "// U TRF,FF,A=(K=10,D=100),B=(110,440),ON\n// FS (K,1),10,1/1,100,11" ≡ keeping 2
  pub disk : answer "// U TF,FF,A=(K=10,D=100),B=(41,41)\n// FS (K,1),10,1/6,15,11/21,(P,5,3),26/77,(P,3,2),29/80,(P,6,4),31\n// FS 28,(P,8,5),35/26,(P,2,2),40"
      ≡ losing 20 7
  -- 3: A alone says keys, key first, and a field goes into data alone
  pub no_d : deck "// U A=(K=1,2)" ≡ refused_at 3 1 13
  pub key_alone : deck "// U A=(K=1)" ≡ refused_at 3 1 12
  pub data_first : deck "// U A=(D=1,K=1)" ≡ refused_at 3 1 9
  pub output_key : deck "// U TF,FF,A=(K=1,D=1),B=(K=1,D=1)" ≡ refused_at 3 1 27
  pub to_key : fs "1,1,(K,1)" ≡ refused_at 3 2 11
  -- 4: keyed or not, A stands twice
  pub twice : deck "// U A=(K=1,D=1),A=(2,2)" ≡ refused_at 4 1 18
  -- 7: each length has its column, and a total over 4,096 that of D; 4,096 passes, and the FS card is missing
  pub no_key : deck "// U TF,FF,A=(K=0,D=4097),B=(1,1)" ≡ refused_at 7 1 17
  pub no_data : deck "// U TF,FF,A=(K=1,D=0),B=(1,1)" ≡ refused_at 7 1 21
  pub long_key : deck "// U TF,FF,A=(K=4097,D=1),B=(1,1)" ≡ refused_at 7 1 17
  pub over : deck "// U TF,FF,A=(K=1,D=4096),B=(1,1)" ≡ refused_at 7 1 21
  pub nothing_left : deck "// U TF,FF,A=(K=4096,D=1),B=(1,1)" ≡ refused_at 7 1 24
  pub full : deck "// U TF,FF,A=(K=1,D=4095),B=(1,1)" ≡ refused 8 1
  -- 8: a key field without keys, at its card
  pub keyless : deck "// U TF,FF,A=(2,2),B=(2,2)\n// FS (K,1),1,1" ≡ refused 8 2
  pub keyless_later : deck "// U TF,FF,A=(2,2),B=(2,2)\n// FS 1,1,1\n// FS 1,1,2/(K,1),1,1" ≡ refused 8 3
  -- and keys elsewhere than in FF with TF or TRF, and with TF more than one record to a block of B; CV at its card
  pub copied : deck "// U TC,FF,A=(K=1,D=1),B=(2,2)" ≡ refused 8 1
  pub reblocked : deck "// U TR,FF,A=(K=1,D=1),B=(2,2)" ≡ refused 8 1
  pub variable : deck "// U TF,FV,A=(K=1,D=1),B=(2,20)\n// FS 1,1,1" ≡ refused 8 1
  pub four : deck "// U TF,FF,A=(K=10,D=100),B=(110,440)\n// FS (K,1),10,1/1,100,11" ≡ refused 8 1
  pub tail : fs "(K,1),1,1/CV" ≡ refused 8 2
  -- 9: a field past its part; up to its last byte it is accepted
  pub past_key : fs "(K,2),2,1" ≡ refused 9 1
  pub whole_key : plan_answer (fs "(K,1),2,1") ≡ losing 4 1
  pub past_data : fs "4,1,1" ≡ refused 9 1
  pub second : fs "(K,2),1,1/2,3,1" ≡ refused 9 2
  pub whole_data : plan_answer (fs "1,3,1") ≡ losing 0 1
  -- 10: halves are numbered through the key
  pub barren : fs "2,(P,1,1),1/2,(U,1,1),2" ≡ refused 10 6
  -- the lost place too: data byte 2 is not read; and both records are key and data
  pub lost : plan_answer (fs "(K,1),2,1/1,1,3/3,1,4") ≡ losing 6 3
  pub both : twins_into 10 (sample "TF" "B=(4,4)") ≡ fine (record { records = hex "0000000000 0000001000"; reason = 1 })
  -- in the table r counts in its part
  pub entries : table_after [] (keyed_deck "(K,2),1,1/3,(P,1,2),2") (fs "(K,2),1,1/3,(P,1,2),2") ≡ entry 0 1 2 1 1 1 ∷ entry 1 0 3 1 2 2 ∷ []
  -- the deck without keys that counts through
  pub counted :
      (asked_of (sample "TF" "B=(4,4)") >>= λ a. fine (through_asked a)) ≡ asked_of (ascii "// U TF,FF,A=(5,5),B=(4,4)\n// FS 1,2,1/3,1,3/5,1,4\n// END")
  -- each block is one record, key then data
  pub selected : run 99 (sample "TF" "B=(4,4)") (reel_of (hex "C1C2D1D2D3" ∷ hex "C3C4D4D5D6" ∷ [])) ≡ wrote 2 2 (hex "C1C2D1D3" ∷ hex "C3C4D4D6" ∷ [])
  pub joined : run 99 (sample "TRF" "B=(4,8)") (reel_of (hex "C1C2D1D2D3" ∷ hex "C3C4D4D5D6" ∷ [])) ≡ wrote 2 1 (hex "C1C2D1D3C3C4D4D6" ∷ [])
  pub later : run 99 (sample "TRF" "B=(4,8),R2") (reel_of (hex "C1C2D1D2D3" ∷ hex "C3C4D4D5D6" ∷ [])) ≡ wrote 1 1 (hex "C3C4D4D6" ∷ [])
  pub short : run 99 (sample "TF" "B=(4,4)") (reel_of (hex "C1C2D1D2D3" ∷ hex "C3C4D4D5" ∷ [])) ≡ refused 12 2
  pub two_records : run 99 (sample "TF" "B=(4,4)") (reel_of (hex "C1C2D1D2D3C3C4D4D5D6" ∷ [])) ≡ refused 12 1

pub table : Table
unfolding rules through_asked through_utility
table =
    record {
      data_cell = refl;
      disk = refl;
      no_d = refl;
      key_alone = refl;
      data_first = refl;
      output_key = refl;
      to_key = refl;
      twice = refl;
      no_key = refl;
      no_data = refl;
      long_key = refl;
      over = refl;
      nothing_left = refl;
      full = refl;
      keyless = refl;
      keyless_later = refl;
      copied = refl;
      reblocked = refl;
      variable = refl;
      four = refl;
      tail = refl;
      past_key = refl;
      whole_key = refl;
      past_data = refl;
      second = refl;
      whole_data = refl;
      barren = refl;
      lost = refl;
      both = refl;
      entries = refl;
      counted = refl;
      selected = refl;
      joined = refl;
      later = refl;
      short = refl;
      two_records = refl;
    }
