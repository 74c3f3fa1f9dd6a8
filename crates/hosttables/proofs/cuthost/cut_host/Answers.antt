-- `cuthost::cut_host` meets its contract. Assumes nothing.
use mathlib.Core.Path.{◌≡◌, sym, ◌∙◌}
use Rattle.frames.proofs.BoolLaws.{and-true}
use Rattle.ffi.specs.hostoptions.HostOptions.{is_options}
use Rattle.hosttables.specs.cuthost.Calls.{tells}
use Rattle.hosttables.proofs.cuthost.HostLaws.{host_shut, host_through}
use Rattle.hosttables.proofs.cuthost.cut_host.Goals.{After-both}
use Rattle.hosttables.proofs.cuthost.cut_host.Goals as goal

-- What the tests say together.
told : (c : After-both) → let a = c.args in c.both.result ≡ tells a.h a.right
told c = c.both.ensures ∙ rw (c.is_options.ensures, c.is_flag.ensures)

pub options_of-requires : goal.options_of-requires
options_of-requires c =
    let a = c.args in
    (and-true (is_options a.h) _ (sym (told (goal.at.options_of-requires c).After-both) ∙ c.if-both.true)).0

pub returns-then-both : goal.returns-then-both
returns-then-both c =
    host_through _ _ _ _ _ (sym (told (goal.at.returns-then-both c).After-both) ∙ c.if-both.true) _ c.options_of.ensures _ c.flag_of.ensures _ _ _ c.cut.ensures c.from.ensures

pub returns : goal.returns
returns c =
    host_shut _ _ _ _ _ (sym (told (goal.at.returns c).After-both) ∙ c.if-both.false) _ c.from-2.ensures
