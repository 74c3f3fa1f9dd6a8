-- `framerule::fine_at` meets its contract. Assumes nothing.
use Rattle.std.proofs.Common.{get_or, pos, rules}
use Rattle.frames.proofs.Signed.{back}
use Rattle.rows.proofs.framerule.fine_at.Goals as goal

pub returns : goal.returns
returns c =
    let a = c.args in
    rw (back (get_or a.values.now a.k (pos 0)) c.pair_fine-arg-1.given, back (get_or a.marks.now a.k (pos 0)) c.pair_fine-arg-2-1.given) at c.pair_fine.ensures
