-- `salegroup::cmp_all` meets its contract. Assumes nothing.
use mathlib.Core.Path.{◌≡◌, refl, ◌∙◌}
use Prim.Native.Nat.{suc, ◌-◌}
use native.Mathlib.Omega.{arith}
use lib.ListN.{length, take, drop, length-drop}
use lib.Seq.{take_all}
use Rattle.order.specs.options.Options.{with_list}
use Rattle.sales.proofs.salegroup.GroupLaws.{as_marked}
use borrow.Author.Rules.{rules}
use Rattle.sales.proofs.salegroup.cmp_all.Statement.{statement}
use Rattle.sales.proofs.salegroup.cmp_all.Tie as tie

mul-cmp-group : tie.Need-offset_bounds-body-p
mul-cmp-group c = search rules

sub-cmp-group : tie.Need-slice_bounds-cmp_group-count
sub-cmp-group c = search rules

part-cmp-group-start : tie.Need-slice_bounds-cmp_group-start
part-cmp-group-start c = search rules

part-cmp-group-end : tie.Need-slice_bounds-cmp_group-end
part-cmp-group-end c = search rules

slice-aggregate-cmp-group : tie.Need-slice_bounds-cmp_group-end-2
slice-aggregate-cmp-group c = search rules

-- The words from p on, whole.
whole : (s : tie.Start) → let a = s.args in take (length a.body.now - a.p) (drop a.p a.body.now) ≡ drop a.p a.body.now
whole s = let a = s.args in take_all (length a.body.now - a.p) (drop a.p a.body.now) (omega (arith, length-drop a.p a.body.now))

cmp-group-requires : tie.Need-cmp_group-requires
cmp-group-requires c κs =
    let s = c in
    let a = s.args in
    let p = s.requires in
    let d = length-drop a.p a.body.now in
    rw (whole s.before.before) (record { few = p.compare; values = omega (arith, p.row, d); marks = omega (arith, p.compare.by) }, record { few = p.compare; values = p.values; marks = p.marks })

returns : tie.Need-returns
returns c =
    let s = c in
    let a = s.args in
    rw (whole s.before.before.before) at (c.cmp_group.ensures (suc a.rules.terms.by) (suc a.rules.terms.by) (omega arith) (omega arith))
    ∙ as_marked (with_list a.rules.terms a.rules.codes.now a.rules.rising.now) a.p a.body.now _ _ s.requires.compare.by refl s.requires.row

pub cmp_all_spec : {M : Type 1} → statement M
cmp_all_spec =
    tie.close
    (tie.spec mul-cmp-group sub-cmp-group part-cmp-group-start part-cmp-group-end slice-aggregate-cmp-group cmp-group-requires returns)
