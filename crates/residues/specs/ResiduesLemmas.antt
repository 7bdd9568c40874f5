-- Residue holds the remainder modulo 65,521, which is prime. Assumes nothing.
use Rattle.std.specs.Prelude.{◌≡◌, refl, ℤ}
use Rattle.std.proofs.Common.{lit<}
use Rattle.integers.specs.Moduli.{Prime}
use Rattle.residues.specs.Residues.{residue}
use Rattle.residues.specs.declared.types.Residue.{Residue}
use Rattle.integers.proofs.Moduli.{Congruent, reduced_back, reduced_near, reduced_same}
use Rattle.integers.proofs.Primes.{prime_by_test}
use Rattle.residues.specs.Same.{same_residue}

-- no number from 2 to 255 divides it
pub residue_prime : Prime 65521
residue_prime = prime_by_test 254 65521 (lit< tt) (lit< tt) refl

pub residue_back : (a : Residue) → residue a.value ≡ a
residue_back a = same_residue _ _ (reduced_back 65520 a.value a.low a.high)

pub residue_near : (z : ℤ) → Congruent 65521 (residue z).value z
residue_near = reduced_near 65521 (lit< tt)

pub residue_same : (a b : ℤ) → Congruent 65521 a b → residue a ≡ residue b
residue_same a b h = same_residue _ _ (reduced_same 65521 (lit< tt) a b h)
