use mathlib.Core.Path.{sym}
use mir.Syntax.{w64}
use mir.ValLaws.{to_z_pos}
use Rattle.spans.proofs.WalkLaws.{lay_pair}
use Rattle.spans.proofs.pairing.put_pair.Goals as goal

pub returns : goal.returns
returns c =
    let s = c in
    let a = s.args in
    rw (c.put_cell-2.ensures, c.put_cell.ensures, to_z_pos w64 a.i s.requires.1, to_z_pos w64 a.j s.requires.2)
    (sym (lay_pair a.cells a.k a.i a.j a.out.now))
