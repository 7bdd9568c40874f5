use Rattle.std.proofs.Common.{◌*◌, take}
use Rattle.report.specs.Sheet.{Adds}
use Rattle.report.specs.Text.{numbers_text}
use Rattle.report.proofs.page.Page.put_numbers.Given as goal

abbrev pub invariant-loop-f : goal.invariant-loop-f
invariant-loop-f g l = Adds l.initial.self l.self (numbers_text g.S.Shown.value (take l.f-index l.fs)) (12 * l.f-index)
