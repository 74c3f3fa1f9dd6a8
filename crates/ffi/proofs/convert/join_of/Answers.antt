-- `convert::join_of` meets its contract. Assumes nothing.
use Rattle.ffi.proofs.convert.ConvertLaws.{join_parts}
use Rattle.ffi.proofs.convert.join_of.Goals as goal

pub options_with-options-requires : goal.options_with-options-requires
options_with-options-requires c = (join_parts _ c.requires).options
