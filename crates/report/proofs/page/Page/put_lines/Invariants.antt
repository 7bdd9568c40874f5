use Rattle.std.proofs.Common.{◌*◌, take}
use Rattle.report.specs.Sheet.{Adds}
use Rattle.report.specs.Text.{lines}
use Rattle.report.proofs.page.Page.put_lines.Given as goal

abbrev pub invariant-loop-i : goal.invariant-loop-i
invariant-loop-i g l = Adds l.initial.self l.self (lines g.L.Line.text 0 (take l.i l.items)) (g.L.Line.WIDTH * l.i)
