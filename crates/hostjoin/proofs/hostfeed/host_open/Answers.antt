-- `hostfeed::host_open` meets its contract. Assumes nothing.
use mathlib.Core.Path.{sym, ◌∙◌}
use Rattle.hostcalls.proofs.CallLaws.{open_bad, open_through}
use Rattle.hostjoin.proofs.hostfeed.host_open.Goals as goal

pub options_of-requires : goal.options_of-requires
options_of-requires c = sym c.is_options.ensures ∙ c.if-is_options.true

pub returns-then-is_options : goal.returns-then-is_options
returns-then-is_options c =
    record { result = rw (c.into.ensures, c.«open».ensures.answer, c.«open».ensures.join, c.options_of.ensures) (sym (open_through _ (sym c.is_options.ensures ∙ c.if-is_options.true))) }

pub returns : goal.returns
returns c = record { result = rw c.fresh_host.ensures (sym (open_bad _ (sym c.is_options.ensures ∙ c.if-is_options.false))) }
