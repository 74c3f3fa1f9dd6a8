use Rattle.frames.proofs.FrontLaws.{frame_count}
use Rattle.rows.proofs.view.view.Goals as goal

pub row_count-requires : goal.row_count-requires
row_count-requires c = frame_count c.args.c c.args.words.now c.requires
