-- `hostoptions::kept_ranks` meets its contract. Assumes nothing.
use borrow.Author.Rules.{rules}
use Rattle.ffi.proofs.hostoptions.kept_ranks.Goals as goal

pub returns : goal.returns
returns c = rw c.flag_of.ensures
