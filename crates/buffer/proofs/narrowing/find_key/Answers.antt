-- What `narrowing::find_key` leaves to be shown.
use Rattle.order.proofs.ranks.KeptLaws.{none_indexed}
use Rattle.buffer.proofs.narrowing.find_key.Goals as goal

pub find-requires : goal.find-requires
find-requires c = (none_indexed, c.requires.1)
