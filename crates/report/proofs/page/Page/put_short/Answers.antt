use Rattle.std.proofs.Common.{arith}
use Rattle.std.proofs.lemmas.Grind.{common_steps}
use Rattle.report.proofs.Decimals.{two_digits}
use Rattle.report.proofs.page.Page.put_short.Goals as goal

pub returns-else-n-lt10 : goal.returns-else-n-lt10
returns-else-n-lt10 c = rw (two_digits c.args.n (omega arith) c.requires.short) (grind (arith, common_steps))
