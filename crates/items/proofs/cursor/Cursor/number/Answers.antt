use Rattle.std.proofs.Common.{arith, w32}
use Rattle.std.proofs.lemmas.Int.{to_z-of_z}
use Rattle.items.proofs.Bytes.{number_reads, bad_number}
use Rattle.items.proofs.cursor.Cursor.number.Goals as goal

pub returns-then-den-eq0 : goal.returns-then-den-eq0
returns-then-den-eq0 c = bad_number _ c.in_ok-den.den c.in_ok-num.ensures.0 c.in_ok-den.ensures.0 c.in_ok-den.ensures.1 (grind arith)

pub returns : goal.returns
returns c =
    let fits = c.in_ok-num.ensures.1 in
    rw (to_z-of_z w32 c.in_ok-num.num fits) (record { fits = fits; some = omega arith; most = omega arith }, number_reads _ _ c.in_ok-num.ensures.0 c.in_ok-den.ensures.0)
