use mathlib.Core.Path.{◌≡◌, sym, ◌∙◌}
use mathlib.Core.Bool.{true}
use Prim.Native.Nat.{◌≤◌}
use native.Mathlib.Omega.{arith}
use borrow.Author.Tests.{not-false, lt-ltb, le-ltb}
use Rattle.frames.specs.Frame.{is_frame}
use Rattle.frames.proofs.FrontLaws.{frame_count, frame_few}
use borrow.Author.Rules.{rules}
use Rattle.scanwalk.proofs.judge.Statement.{statement}
use Rattle.scanwalk.proofs.judge.Tie as tie

returns : tie.Need-returns-then-strategy-gt2
returns c = rw (lt-ltb _ _ c.if-strategy-gt2.true)

is-frame-requires : tie.Need-is_frame-requires
is-frame-requires c κs = search rules

returns-2 : tie.Need-returns-then-not-is_frame
returns-2 c = rw (le-ltb _ _ c.if-strategy-gt2.false, ← c.is_frame.ensures, c.if-not-is_frame.true-raw)

is-frame-requires-2 : tie.Need-is_frame-requires-2
is-frame-requires-2 c κs = search rules

returns-3 : tie.Need-returns-then-not-is_frame-2
returns-3 c =
    rw (le-ltb _ _ c.if-strategy-gt2.false, ← c.is_frame.ensures, c.if-not-is_frame.false-raw, ← c.is_frame-2.ensures, c.if-not-is_frame-2.true-raw)

-- the left words are a frame
left_is : (c : tie.Else-not-is_frame-2) → is_frame 1 c.args.left.now ≡ true
left_is c = sym c.is_frame.ensures ∙ not-false c.is_frame.result c.if-not-is_frame.false-raw

row-count-requires : tie.Need-row_count-requires
row-count-requires c κs = frame_count 1 c.args.left.now (left_is c)

few : (c : tie.After-row_count) → c.row_count.result ≤ 4096
few c = let f = frame_few 1 c.args.left.now (left_is c.before) in omega (arith, f, c.row_count.ensures)

mul-if4 : tie.Need-overflow_mul-row_count
mul-if4 c = omega (arith, few c)

add-if4 : tie.Need-overflow_add-row_count
add-if4 c = omega (arith, few c)

returns-4 : tie.Need-returns-then-room-row_count
returns-4 c =
    let b = c in
    rw (le-ltb _ _ b.if-strategy-gt2.false, ← b.is_frame.ensures, c.if-not-is_frame.false-raw, ← c.is_frame-2.ensures, c.if-not-is_frame-2.false-raw, ← c.row_count.ensures, lt-ltb _ _ c.if-room-row_count.true)

returns-5 : tie.Need-returns
returns-5 c =
    let b = c in
    rw (le-ltb _ _ b.if-strategy-gt2.false, ← b.is_frame.ensures, c.if-not-is_frame.false-raw, ← c.is_frame-2.ensures, c.if-not-is_frame-2.false-raw, ← c.row_count.ensures, le-ltb _ _ c.if-room-row_count.false)

pub judge_spec : {M : Type 1} → statement M
judge_spec =
    tie.close
    (tie.spec returns is-frame-requires returns-2 is-frame-requires-2 returns-3 row-count-requires mul-if4 add-if4 returns-4 returns-5)
