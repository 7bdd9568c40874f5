use Rattle.std.proofs.Common.{◌^◌, ◌<◌, sym, ap, ◌∙◌, arith, w32, of_z, rules}
use lib.Signed.{mag, quot_z}
use Rattle.std.specs.Int.{int_wrap}
use Rattle.std.proofs.lemmas.Int.{wraps}
use Rattle.integers.proofs.Ints.{mag-quot, bits_wrap}
use Rattle.integers.proofs.Rounds.{truncated-quot}
use Rattle.numbers.proofs.count.CountScalar.div.Goals as goal

pub returns : goal.returns
returns c =
    let a = c.args.self.value in
    let b = c.args.other.value in
    let small : mag (quot_z a b) < 2 ^ 32 = omega (arith, mag-quot a b, c.args.self.fits) in
    c.held-2.ensures _ (search (rules, wraps, bits_wrap) ∙ sym (ap (int_wrap w32) (truncated-quot a b (λ e. c.if-other-eq0.false (ap (of_z w32) e)))))
