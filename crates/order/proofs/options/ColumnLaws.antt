-- How many columns an answer has. Assumes nothing.
use mathlib.Core.Path.{◌≡◌}
use mathlib.Core.Bool.{Bool, true, false, cond}
use Prim.Native.Nat.{ℕ, suc, ◌+◌, ◌≤◌, ◌<◌}
use native.Mathlib.Omega.{arith}
use Rattle.order.specs.options.Options.{answer_columns}
use Rattle.order.specs.declared.options.Options.{Options}

-- There are at most two beside what is carried.
pub columns_few : (o : Options) → answer_columns o ≤ o.carried + 2
columns_few o = go o.with_distance
  where
    go : (b : Bool) → cond b (suc (suc o.carried)) (suc o.carried) ≤ o.carried + 2
    go true = omega arith
    go false = omega arith

-- The shared columns are among them, and the distance behind them where it is written.
pub shared_within : (o : Options) → suc o.carried ≤ answer_columns o
shared_within o = go o.with_distance
  where
    go : (b : Bool) → suc o.carried ≤ cond b (suc (suc o.carried)) (suc o.carried)
    go true = omega arith
    go false = omega arith

pub last_within : (o : Options) → o.with_distance ≡ true → suc (suc o.carried) ≤ answer_columns o
last_within o e = rw e (omega arith)

-- An answer has a column.
pub columns_some : (o : Options) → 0 < answer_columns o
columns_some o = go o.with_distance
  where
    go : (b : Bool) → 0 < cond b (suc (suc o.carried)) (suc o.carried)
    go true = omega arith
    go false = omega arith

-- A count of columns that is an answer's is at most ten, where few are carried.
pub ten_columns : (o : Options) (c : ℕ) → c ≡ answer_columns o → o.carried ≤ 8 → c ≤ 10
ten_columns o c e h = omega (arith, e, columns_few o, h)
