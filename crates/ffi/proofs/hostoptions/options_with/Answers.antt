-- `hostoptions::options_with` meets its contract. Assumes nothing.
use mathlib.Core.List.{[]}
use Rattle.frames.proofs.Signed.{back}
use borrow.Author.Rules.{rules}
use Rattle.ffi.proofs.hostoptions.options_with.Goals as goal

pub returns : goal.returns
returns c =
    let t = c in
    rw (back t.terms_from-t.result.tolerance c.struct_told-1.given.1.0.1, t.terms_from-t.ensures [])
