use mathlib.Core.Path.{◌≡◌}
use lib.ListN.{length}
use Rattle.ffi.proofs.codes.CodeLaws.{four_of}
use borrow.Author.Rules.{rules}
use Rattle.ffi.proofs.codes.flags_of.Goals as goal

pub returns : goal.returns
returns c =
    let a = c.args.a in
    let e : length a ≡ 4 = search rules in
    rw (c.flag_of-4.ensures, c.flag_of-3.ensures, c.flag_of-2.ensures, c.flag_of.ensures) (four_of a e)
