use Rattle.std.proofs.Common.{rules}
use Rattle.std.proofs.lemmas.List.{length-replicate}
use Rattle.items.proofs.Runs.{none, more, all, bad_next}
use Rattle.items.proofs.cursor.Cursor.numbers.Goals as goal

pub loop-number-init : goal.loop-number-init
loop-number-init g c = none g.row.N _ _ (length-replicate g.row.N _)

pub returns-in_err-number : goal.returns-in_err-number
returns-in_err-number g c = search (rules, bad_next)

pub loop-number-preserved : goal.loop-number-preserved
loop-number-preserved g c = more c.in_ok-number.field-0-0 c.loop-number.invariant c.loop-number-test.true c.in_ok-number.ensures.0 c.in_ok-number.ensures.1

pub returns : goal.returns
returns g c = all c.loop-number.invariant c.loop-number-test.false
