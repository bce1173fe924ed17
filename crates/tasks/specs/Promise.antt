-- What the numbers of a plan say, by numbers alone.
use Rattle.std.specs.Prelude.{cond, ℕ, ◌+◌, ◌-◌}
use Rattle.rules.specs.Plan.{selects}
use Rattle.terms.specs.Meaning.{mode_of}
use Rattle.terms.specs.declared.Task.{Task}
use Rattle.pieces.specs.declared.Form.{Form}

-- what is asked of blocks that have these two numbers
abbrev pub form_with : Task → ℕ → ℕ → Form
form_with task n m = record { format = task.format; n = n; m = m; selects = selects (mode_of task.mode) }

-- what the plan asks of input blocks
abbrev pub form_of : Task → Form
form_of task = form_with task task.n task.m

-- what B asks of the blocks of a reel from elsewhere
abbrev pub form_under : Task → Form
form_under task = form_with task task.width task.limit

-- with CV the data past A's n
unfoldable pub tail_length_of : Task → ℕ → ℕ
tail_length_of task n = cond task.carries (n - task.n) 0

-- the length of the output of a record of n bytes
unfoldable pub output_length_of : Task → ℕ → ℕ
output_length_of task n = cond (selects (mode_of task.mode)) (task.width + tail_length_of task n) n
