-- With p = 0 and without a distance the theorem is the one on right numbers alone, proved. Assumes nothing.
use mathlib.Core.Path.{◌≡◌, ap}
use native.Mathlib.Omega.{arith}
use Rattle.frames.specs.Cells.{Words}
use Rattle.order.specs.options.Options.{answer_columns}
use Rattle.tables.specs.Table.{laid}
use Rattle.matching.specs.Match.{whole_table}
use Rattle.matching.specs.Answer.{answered}
use Rattle.matching.proofs.OldForm.{value_old, mark_old, old_form}
use Rattle.lists.specs.OldForm.{OldTheorem}

pub old_theorem : OldTheorem
unfolding answered
old_theorem o none without =
    let c : answer_columns o ≡ 1 = rw (without, none) in
    record {
      width = omega arith;
      words = λ n. rw c (omega arith);
      written = λ i rights xs ms e out. ap (λ (ws : Words). laid ws out) (old_form o i rights xs ms none without e);
      due = λ rights x. rw (value_old o 0 rights none without x (whole_table o rights x), mark_old o 0 rights none without x (whole_table o rights x));
    }
