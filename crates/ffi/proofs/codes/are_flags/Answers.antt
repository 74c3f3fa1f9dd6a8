use mathlib.Core.Path.{◌≡◌}
use lib.ListN.{length}
use Rattle.ffi.proofs.codes.CodeLaws.{four_are}
use borrow.Author.Rules.{rules}
use Rattle.ffi.proofs.codes.are_flags.Goals as goal

pub returns : goal.returns
returns c =
    let a = c.args.a in
    let e : length a ≡ 4 = search rules in
    let f = c in
    rw (c.both-2.ensures, c.both.ensures, c.is_flag-4.ensures, c.is_flag-3.ensures, f.both-first.ensures, f.is_flag-2.ensures, f.is_flag.ensures) (four_are a e)
