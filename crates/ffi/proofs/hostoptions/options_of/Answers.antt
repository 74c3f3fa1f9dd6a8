-- `hostoptions::options_of` meets its contract. Assumes nothing.
use borrow.Author.Rules.{rules}
use Rattle.ffi.proofs.hostoptions.options_of.Goals as goal

pub returns : goal.returns
returns c = rw (c.options_with.ensures, c.ranks_of-k.ensures, c.flag_of.ensures)
