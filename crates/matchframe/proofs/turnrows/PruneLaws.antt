-- No prune drops more rows than are held, and the split that is checked is that of the prune by the last row. Assumes nothing.
use mathlib.Core.Path.{◌≡◌, refl}
use mathlib.Core.Bool.{Bool, true, false, cond}
use Prim.Native.Nat.{ℕ, ◌+◌, ◌-◌, ◌≤◌}
use native.Mathlib.Omega.{arith}
use lib.ListN.{length, drop, length-drop}
use Rattle.frames.specs.Cells.{Rows}
use Rattle.order.specs.options.Options.{is_on}
use Rattle.order.specs.declared.options.Options.{Options}
use Rattle.order.specs.declared.Row.{Row}
use Rattle.searching.specs.Reach.{prune_by, no_prune}
use Rattle.searching.proofs.SplitLaw.{split_within}
use Rattle.buffer.proofs.splitcheck.BeforeLaws.{bad_split_is}
use Rattle.matchframe.specs.turnrows.Prunes.{bad_right, bad_right_at, first_prune, kept_rows, last_prune}

-- A test picks one of two.
cond_ind : {A : Type 0} (P : A → Type 0) (b : Bool) {x y : A} → (b ≡ true → P x) → (b ≡ false → P y) → P (cond b x y)
cond_ind P true t f = t refl
cond_ind P false t f = f refl

pub prune_within : (o : Options) (i : ℕ) (left held : Rows) → prune_by o i left held ≤ length held
unfolding prune_by
prune_within o i left held = cond_ind (λ n. n ≤ length held) (no_prune left held) (λ e. omega arith) (λ e. split_within o _ held)

pub first_within : (o : Options) (left held : Rows) → first_prune o left held ≤ length held
unfolding first_prune
first_within o left held = cond_ind (λ n. n ≤ length held) (is_on o.check) (λ e. omega arith) (λ e. prune_within o 0 left held)

pub drops_within : (o : Options) (rows held : Rows) → first_prune o rows held + last_prune o rows held ≤ length held
unfolding last_prune kept_rows
drops_within o rows held =
    let a = first_within o rows held in
    let b = prune_within o (length rows - 1) rows (drop (first_prune o rows held) held) in
    omega (arith, length-drop (first_prune o rows held) held)

-- With the check on, the split that is checked is that of the prune by the last row.
pub split_known : (o : Options) (m : Row) (rows held : Rows) → bad_right_at o m (length rows) (last_prune o rows held) held ≡ bad_right o m rows held
unfolding bad_right_at bad_right last_prune kept_rows first_prune
split_known o m rows held = go (is_on o.check) refl
  where
    go : (b : Bool) → is_on o.check ≡ b → bad_right_at o m (length rows) (last_prune o rows held) held ≡ bad_right o m rows held
    go true e = rw (e, bad_split_is o m (length rows - 1) rows held)
    go false e = rw e
