use Rattle.std.proofs.Common.{◌≡◌, length}
use Rattle.replay.proofs.replay_all.Given as goal

abbrev pub invariant-loop-byte : goal.invariant-loop-byte
invariant-loop-byte l =
    (length l.line ≡ length l.initial.line) × (length l.left ≡ length l.initial.left) × (length l.right ≡ length l.initial.right)
