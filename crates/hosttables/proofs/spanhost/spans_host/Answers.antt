-- `spanhost::spans_host` meets its contract. Assumes nothing.
use Rattle.hosttables.proofs.spanhost.HostLaws.{host_refused, host_through}
use Rattle.hosttables.proofs.spanhost.spans_host.Goals as goal

pub returns-then-not-both : goal.returns-then-not-both
returns-then-not-both c =
    host_refused _ _ _ _ _ _ _ _ c.is_flag.ensures c.is_flag-2.ensures c.both.ensures c.if-not-both.true _ c.from.ensures

pub returns : goal.returns
returns c =
    host_through _ _ _ _ _ _ _ _ c.is_flag.ensures c.is_flag-2.ensures c.both.ensures c.if-not-both.false
    _ _ c.flag_of.ensures c.flag_of-2.ensures _ _ _ c.spans.ensures c.from-2.ensures
