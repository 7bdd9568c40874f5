-- Residue: arithmetic modulo the prime 65,521. Assumes nothing.
use Rattle.std.specs.Prelude.{ℕ, ℤ, pos, ◌*ℤ◌}
use Rattle.scalar.specs.Ops.{Ops}
use Rattle.integers.specs.Integers.{integer_ops}
use Rattle.integers.specs.Moduli.{reduced, reduced_low, reduced_high, inverse_of}
use Rattle.residues.specs.declared.types.Residue.{Residue}

-- the residue of any integer
abbrev pub residue : ℤ → Residue
residue z = record { value = reduced 65521 z; low = reduced_low 65521 z; high = reduced_high 65520 z }

abbrev pub residue_ops : Ops Residue
residue_ops = integer_ops (λ a. a.value) residue (pos 1) (λ z. z) (λ a b. a *ℤ inverse_of 65521 b)

-- the fraction n / d: n times the inverse of d
abbrev pub residue_of : ℤ → ℕ → Residue
residue_of n d = residue_ops.div (residue n) (residue (pos d))
