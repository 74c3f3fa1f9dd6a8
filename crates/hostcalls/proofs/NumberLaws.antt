-- What a call that reads the numbers where they lie knows of the join that they tell. Assumes nothing.
use mathlib.Core.Path.{◌≡◌, sym, ◌∙◌}
use mathlib.Core.Bool.{Bool, false}
use Rattle.frames.specs.Cells.{Words}
use Rattle.order.specs.options.Options.{terms_of, with_list}
use Rattle.order.specs.declared.options.Terms.{Terms}
use Rattle.callrules.specs.Judged.{bad_numbers}
use Rattle.node.specs.State.{bad_join}
use Rattle.node.proofs.Good.{Good, good, bad_told}
use Rattle.ffi.specs.convert.Convert.{join_of}
use Rattle.ffi.specs.declared.convert.HostJoin.{HostJoin}

-- Whether the numbers and the areas hold together is told of the join.
pub bad_is : (h : HostJoin) (left right : Words) (t : Terms) (b : Bool) → t ≡ terms_of (join_of h).options
    → b ≡ bad_numbers (with_list t h.options.ranks.codes h.rising) h.base h.held h.pruned h.queue_start h.queue_words h.sequence left right → b ≡ bad_join (join_of h) left right
bad_is h left right t b told is = bad_told (join_of h) left right (with_list t h.options.ranks.codes h.rising) b (rw told) is

-- A join that is not bad holds together.
pub good_is : (h : HostJoin) (left right : Words) (b : Bool) → b ≡ bad_join (join_of h) left right → b ≡ false → Good (join_of h) left right
good_is h left right b is n = good (join_of h) left right (sym is ∙ n)
