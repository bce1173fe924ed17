-- `keys::joined` meets its contract: a size stays, and of key and data each block is one record.
use Rattle.keys.proofs.joined.Goals as goal

pub returns-in-Keyed : goal.returns-in-Keyed
returns-in-Keyed c = rw (c.in-Keyed.is, c.together-n.ensures)
