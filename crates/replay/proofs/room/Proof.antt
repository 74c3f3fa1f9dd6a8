-- `replay::room` meets its contract. Assumes nothing.
use Rattle.std.proofs.Common.{◌≡◌, ℕ, length, replicate, sym}
use lib.ListN.{length-replicate}
use Rattle.replay.proofs.room.Statement.{statement}
use Rattle.replay.proofs.room.Tie as tie

-- The length of any repetition; at the array's own length it is not computed.
repeated : {A : Type 0} (n : ℕ) (a : A) → n ≡ length (replicate n a)
repeated n a = sym (length-replicate n a)

returns : tie.Need-returns
returns c = repeated {A = ℕ} 1048576 0

pub room_spec : {M : Type 1} → statement M
room_spec = tie.close (tie.spec returns)
