use Rattle.std.proofs.Common.{refl, arith}
use Rattle.std.proofs.lemmas.Result.{err_from_is_err_and}
use Rattle.std.proofs.lemmas.Grind.{common_steps}
use Rattle.items.proofs.Bytes.{turned}
use Rattle.items.proofs.items.FramePlacedItem.read_at.Goals as goal

pub returns-in_err-upright : goal.returns-in_err-upright
returns-in_err-upright c =
    let p = err_from_is_err_and c.from_residual-in_err-upright.result c.from_residual-in_err-upright.ensures.1 in
    let why = c.in_err-upright.ensures in
    let told = c.in_ok-min_x.ensures in
    rw (p.1, p.2, why.0) (refl, turned _ why.1 (grind (arith, common_steps)) told.0 told.1)
