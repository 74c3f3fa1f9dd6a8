use mathlib.Core.Path.{sym, ◌∙◌}
use Prim.Native.Nat.{◌<◌}
use native.Mathlib.Omega.{arith}
use Rattle.order.specs.options.Options.{without_list}
use Rattle.matching.proofs.RestLaws.{keys_nulls, keys_none}
use Rattle.matchrun.proofs.cursor.keys_sorted.Goals as goal

pub first_key-start-requires : goal.first_key-start-requires
first_key-start-requires c =
    let p = c.requires.0 in
    (record { few = p.few; wide = p.wide; marks = p.marks }, c.requires.1)

pub returns-then-start-to : goal.returns-then-start-to
returns-then-start-to c =
    let s = c in
    let a = s.args in
    let e = c.first_key-start.ensures in
    sym (keys_none (without_list a.o) a.rows.width a.rows.values.now a.rows.marks.now a.from a.to s.requires.0 c.first_key-start.result e.start (e.before a.rows.values.now) c.if-start-to.true)

-- there is a row with a key
there : (c : goal.Else-start-to) → c.first_key-start.result < c.args.to
there c = omega (arith, c.first_key-start.ensures.within, c.if-start-to.false)

pub keys_rise-requires : goal.keys_rise-requires
keys_rise-requires c = (c.requires.0, there c, c.first_key-start.ensures.keyed c.args.rows.values.now (there c))

pub returns : goal.returns
returns c =
    let k = c.first_key-start in
    let s = c in
    let a = s.args in
    let e = k.ensures in
    c.keys_rise.ensures ∙ sym (keys_nulls (without_list a.o) a.rows.width a.rows.values.now a.rows.marks.now a.from a.to s.requires.0 k.result e.start (e.before a.rows.values.now) (there c.before))
