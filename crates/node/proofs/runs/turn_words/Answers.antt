use Prim.Native.Nat.{◌*◌, ◌≤◌}
use native.Mathlib.Nat.{mul-le-mul_right}
use native.Mathlib.Omega.{arith}
use Rattle.node.proofs.runs.turn_words.Goals as goal

-- At most 4,096 rows of at most ten cells.
few : (c : goal.After-row_count) → c.row_count.result * c.args.c ≤ 40960
few c =
    let a = c.args in
    let n : c.row_count.result ≤ 4096 = omega (arith, c.row_count.ensures, c.requires.1) in
    let m : c.row_count.result * a.c ≤ 4096 * a.c = mul-le-mul_right {m = c.row_count.result} {n = 4096} a.c n in
    omega (arith, c.requires.2)

pub overflow_mul-result : goal.overflow_mul-result
overflow_mul-result c = omega (arith, few c)

pub overflow_mul-result-2 : goal.overflow_mul-result-2
overflow_mul-result-2 c = omega (arith, few c)

pub overflow_add-result : goal.overflow_add-result
overflow_add-result c = omega (arith, few c)

pub returns : goal.returns
returns c = rw c.row_count.ensures
