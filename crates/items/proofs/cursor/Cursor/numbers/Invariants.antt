use Rattle.items.proofs.Runs.{Sofar}
use Rattle.items.proofs.cursor.Cursor.numbers.Given as goal

abbrev pub invariant-loop-number : goal.invariant-loop-number
invariant-loop-number g l = Sofar g.row.N l.initial.next l.number-index l.number-items l.next
