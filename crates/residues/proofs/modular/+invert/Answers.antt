use mathlib.Core.Path.{sym, ap, ◌∙◌}
use Prim.Native.Nat.{◌-◌, ◌*◌, ◌/◌, ◌%◌}
use native.Mathlib.Nat.{mod-lt}
use native.Mathlib.Omega.{arith}
use Rattle.integers.proofs.Primes.{inverse_first, inverse_next}
use Rattle.residues.proofs.modular.+invert.Goals as goal

pub returns-then-b-lt2 : goal.returns-then-b-lt2
returns-then-b-lt2 t c = record { value = sym (inverse_first c.args.p c.args.b c.if-b-lt2.true); bound = c.requires.reduced }

pub returns-else-b-lt2 : goal.returns-else-b-lt2
returns-else-b-lt2 t c =
    let p = c.args.p in
    let b = c.args.b in
    record {
      value = ap (λ x. (p - p / b) * x % p) c.invert.ensures.value ∙ sym (inverse_next p b c.if-b-lt2.false);
      bound = mod-lt _ (omega arith);
    }
