use Rattle.jobfile.specs.Items.{BadCount}
use Rattle.items.proofs.cursor.Cursor.count.Goals as goal

pub returns-then-n-limit : goal.returns-then-n-limit
returns-then-n-limit c = let told = c.in_ok-n.ensures in BadCount.above _ _ told.1 told.0.cut c.if-n-limit.true
