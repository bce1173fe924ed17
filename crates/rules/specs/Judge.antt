-- Document 02, order 7: is a reel from elsewhere a true conversion of ours? Refusal 8 of TC and TF, 17 and 18, and the first record that disagrees.
use Rattle.std.specs.Prelude.{Bool, true, false, cond, not, ◌&&◌, ◌||◌, List, [], ◌∷◌, ℕ, suc, ◌+◌, ◌-◌, ltb, leb, eqb, drop}
use Rattle.std.proofs.Math.Option.{none}
use Rattle.rules.specs.Base.{◌⇒◌, joined}
use Rattle.rules.specs.Answer.{Answer, fine, refuse, refused_at, ◌>>=◌, ◌>>◌, unless}
use Rattle.rules.specs.Grammar.{Mode, tc, tf, tr, trf}
use Rattle.rules.specs.Halves.{output_size, Field}
use Rattle.rules.specs.Asked.{asked_of}
use Rattle.rules.specs.Reel.{is_reel, blocks_of}
use Rattle.rules.specs.Plan.{Plan, plan_of, is_fs, selects, record_length, block_length, bit}
use Rattle.rules.specs.Blocks.{records_from}
use Rattle.rules.specs.Spanned.{spanned_from}
use Rattle.rules.specs.Run.{out_blocks}
use Rattle.rules.specs.Lent.{zone_f}

-- ---- the deck

-- TR or TRF
abbrev pub is_filling : Mode → Bool
is_filling tc = false
is_filling tf = false
is_filling tr = true
is_filling trf = true

-- 1 to 10 as for a run, and TC or TF is 8 at place 1, which is the first of its places
unfoldable pub plan_to_judge : ℕ → List ℕ → Answer Plan
plan_to_judge zone deck = do
  a ← asked_of deck
  unless (is_filling a.utility.mode) 8 1
  plan_of zone deck

-- ---- the records of a reel

-- of its blocks; in FS of all blocks together
unfoldable pub blocks_read : Plan → List (List ℕ) → Answer (List (List (List ℕ)))
blocks_read p bs =
    let spanned = spanned_from (block_length p.input) 1 none bs in
    let others = records_from p 1 bs in
    cond (is_fs p.format) spanned others

-- 11 and 12, or its records
unfoldable pub records_read : Plan → List ℕ → Answer (List (List ℕ))
records_read p s = do
  unless (is_reel s) 11 0
  recs ← blocks_read p (blocks_of s)
  fine (joined recs)

-- ---- our records

-- 11 to 14 as for a run, or the output records, from R on; there is no 15, since nothing is written
unfoldable pub our_records : Plan → List ℕ → Answer (List (List ℕ))
our_records p s =
    let spanned = records_read p s >>= λ rs. fine (drop (p.first - 1) rs) in
    let others = out_blocks p s >>= λ bs. fine (joined bs) in
    cond (is_fs p.format) spanned others

-- ---- their records

-- what reads under B: the plan with B for A, and no field
abbrev pub under_b : Plan → Plan
under_b p = record { zone = p.zone; mode = p.mode; format = p.format; input = p.output; output = p.output; first = 1; fields = []; carries = false }

-- of a foreign reel 11 is 17, and 12 is 18
abbrev pub foreign : {A : Type 0} → Answer A → Answer A
foreign (fine a) = fine a
foreign (refuse r) = refused_at (6 + r.number) r.place r.column

unfoldable pub their_records : Plan → List ℕ → Answer (List (List ℕ))
their_records p s = foreign (records_read (under_b p) s)

-- ---- two records

-- a field writes position i, from 1
unfoldable pub writes_at : ℕ → Field → Bool
writes_at i f = leb f.t i && ltb i (f.t + output_size f.kind)

abbrev pub written_by : ℕ → List Field → Bool
written_by i [] = false
written_by i (f ∷ fs) = writes_at i f || written_by i fs

-- position i of an output record is written: in TR each is; in TRF a field writes it, or it is of the tail, past B's n
unfoldable pub is_written : Plan → ℕ → Bool
is_written p i = not (selects p.mode) || (ltb (record_length p.output) i || written_by i p.fields)

-- from position i on they are as long, and have the same byte at each position of which q holds
abbrev pub agree_from : (ℕ → Bool) → ℕ → List ℕ → List ℕ → Bool
agree_from q i [] [] = true
agree_from q i [] (y ∷ ys) = false
agree_from q i (x ∷ xs) [] = false
agree_from q i (x ∷ xs) (y ∷ ys) = let later = agree_from q (suc i) xs ys in (q i ⇒ eqb x y) && later

unfoldable pub agrees : Plan → List ℕ → List ℕ → Bool
agrees p ours theirs = agree_from (is_written p) 1 ours theirs

-- ---- the verdict

-- the number of the first record, from i, that disagrees or lacks a partner; 0 where there is none
abbrev pub first_apart : (List ℕ → List ℕ → Bool) → ℕ → List (List ℕ) → List (List ℕ) → ℕ
first_apart q i [] [] = 0
first_apart q i [] (t ∷ ts) = i
first_apart q i (o ∷ os) [] = i
first_apart q i (o ∷ os) (t ∷ ts) = let later = first_apart q (suc i) os ts in cond (q o t) later i

-- by a plan: 11 to 14 of ours, 17 and 18 of theirs, and then the number
unfoldable pub judgement : Plan → List ℕ → List ℕ → Answer ℕ
judgement p ours theirs = do
  outs ← our_records p ours
  others ← their_records p theirs
  fine (first_apart (agrees p) 1 outs others)

unfoldable pub judge_of : ℕ → List ℕ → List ℕ → List ℕ → Answer ℕ
judge_of zone deck ours theirs = plan_to_judge zone deck >>= λ p. judgement p ours theirs

-- ---- what a caller sees

unfoldable pub judge : List ℕ → List ℕ → List ℕ → Answer ℕ
judge deck ours theirs = judge_of zone_f deck ours theirs

-- refusal, place and column; 1 for a true conversion or 0, and the number of the first record that disagrees or lacks a partner, or 0
pub record JudgeAnswer : Type 0 where
  pub refusal : ℕ
  pub place : ℕ
  pub column : ℕ
  pub yes : ℕ
  pub number : ℕ

abbrev pub judge_answer : Answer ℕ → JudgeAnswer
judge_answer (fine n) = record { refusal = 0; place = 0; column = 0; yes = bit (eqb n 0); number = n }
judge_answer (refuse r) = record { refusal = r.number; place = r.place; column = r.column; yes = 0; number = 0 }
