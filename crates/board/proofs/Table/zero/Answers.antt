-- `Table::zero` meets its contract: it is `zero_table`, field by field. Assumes nothing.
use Rattle.std.proofs.Common.{refl}
use Rattle.board.specs.Table.{zero_table}
use Rattle.board.proofs.Table.zero.Goals as goal

pub returns : goal.returns
unfolding zero_table
returns c = refl
