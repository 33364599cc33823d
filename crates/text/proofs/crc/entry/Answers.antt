-- The table holds what four bits make of each number below 16.
use Rattle.text.specs.Crc.{turned}
use Rattle.text.proofs.Turning.{counted, entry_at}
use Rattle.text.proofs.crc.entry.Goals as goal

pub returns : goal.returns
unfolding turned counted
returns c = entry_at c.args.i c.requires
