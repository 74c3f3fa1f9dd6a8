use mathlib.Core.Path.{◌≡◌}
use lib.ListN.{length}
use Rattle.ffi.proofs.codes.CodeLaws.{four_codes}
use borrow.Author.Rules.{rules}
use Rattle.ffi.proofs.codes.flag_codes.Goals as goal

pub returns : goal.returns
returns c =
    let a = c.args.a in
    let e : length a ≡ 4 = search rules in
    rw (c.flag_code-4.ensures, c.flag_code-3.ensures, c.flag_code-2.ensures, c.flag_code.ensures) (four_codes a e)
