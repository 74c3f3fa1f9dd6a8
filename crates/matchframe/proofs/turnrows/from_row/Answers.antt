use Prim.Native.Nat.{◌*◌}
use Rattle.buffer.proofs.area.AreaLaws.{to_end}
use Rattle.matchframe.proofs.turnrows.from_row.Goals as goal

pub returns : goal.returns
returns c = let a = c.args in to_end (a.i * a.w) a.words.now
