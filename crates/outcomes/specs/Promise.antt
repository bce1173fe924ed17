-- What a run answers, as the struct that says it: what the rules answer, a refusal, a finished run, and refusal 15.
use Rattle.std.specs.Prelude.{cond, ℕ, ltb}
use Rattle.rules.specs.Lent.{RunAnswer}
use Rattle.outcomes.specs.declared.Ran.{Ran}

-- the struct that says what the rules say, and what it says
abbrev pub ran_struct : RunAnswer → Ran
ran_struct x = record { refusal = x.refusal; place = x.place; column = x.column; length = x.reel_length; records = x.records; blocks = x.blocks }

abbrev pub run_numbers : Ran → RunAnswer
run_numbers r = record { refusal = r.refusal; place = r.place; column = r.column; reel_length = r.length; records = r.records; blocks = r.blocks }

abbrev pub refused_run : ℕ → ℕ → ℕ → Ran
refused_run number place column = record { refusal = number; place = place; column = column; length = 0; records = 0; blocks = 0 }

abbrev pub finished_run : ℕ → ℕ → ℕ → Ran
finished_run size records blocks = record { refusal = 0; place = 0; column = 0; length = size; records = records; blocks = blocks }

-- refusal 15
unfoldable pub housed_run : ℕ → ℕ → ℕ → ℕ → Ran
housed_run room size records blocks =
    cond (ltb room size) (refused_run 15 size 0) (cond (ltb 65536 size) (refused_run 15 size 0) (finished_run size records blocks))
