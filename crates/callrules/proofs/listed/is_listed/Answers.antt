-- `listed::is_listed` meets its contract. Assumes nothing.
use mathlib.Core.Path.{◌≡◌, sym, ap, ◌∙◌}
use mir.Syntax.{w64}
use mir.Val.{to_z}
use mir.Facts.{to_z-of_z}
use Rattle.order.proofs.ranks.RankLaws.{listed_place}
use Rattle.callrules.proofs.listed.is_listed.Goals as goal

pub returns-then-v-known : goal.returns-then-v-known
returns-then-v-known c =
    let s = c in
    let e : s.args.v ≡ s.args.known = sym (to_z-of_z s.ranges.v) ∙ ap (to_z w64) c.if-v-known.true ∙ to_z-of_z s.ranges.known in
    rw e (sym s.requires.1)

pub returns : goal.returns
returns c =
    let s = c in
    rw (c.place_of.ensures, to_z-of_z s.ranges.v) (sym (listed_place s.args.codes.now s.args.v))
