-- `hostoptions::terms_from` meets its contract. Assumes nothing.
use native.Mathlib.Omega.{arith}
use Rattle.frames.proofs.Signed.{back}
use Rattle.ffi.proofs.hostoptions.OptionsLaws.{options_parts}
use borrow.Author.Rules.{rules}
use Rattle.ffi.proofs.hostoptions.terms_from.Goals as goal

pub overflow_cast-result : goal.overflow_cast-result
overflow_cast-result c = omega (arith, (options_parts _ c.requires).byte)

pub returns : goal.returns
returns c = λ rising.
    let e = c in
    let f = e in
    rw (c.flag_of-3.ensures, e.flag_of-2.ensures, back f.args.h.tolerance c.struct_told-1.given.1.1.1.0.1, e.check_of.ensures, e.flag_of.ensures, f.flags_of-nulls_last.ensures, f.flags_of-descending.ensures)
