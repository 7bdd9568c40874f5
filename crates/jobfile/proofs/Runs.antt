-- A run of numbers: how many bytes it has, and where its denominators stand. Assumes nothing.
use Rattle.std.proofs.Common.{◌≡◌, ℕ, ◌+◌, ◌*◌, List, [], ◌∷◌, ◌++◌, length, refl, arith, length-append}
use Rattle.std.proofs.lemmas.Grind.{common_steps}
use Rattle.std.specs.List.{flat_map}
use Rattle.integers.specs.declared.fraction.Fraction.{Fraction}
use Rattle.jobfile.specs.Items.{fraction_bytes, den_at}

six : (f : Fraction) → length (fraction_bytes f) ≡ 6
unfolding fraction_bytes
six f = refl

pub run_length : (fs : List Fraction) → length (flat_map fraction_bytes fs) ≡ 6 * length fs
run_length [] = refl
run_length (f ∷ fs) = omega (arith, length-append (fraction_bytes f) (flat_map fraction_bytes fs), six f, run_length fs)

-- a denominator after m numbers
pub den_after : (x r : List ℕ) (i m k : ℕ) → length x ≡ 6 * m → i ≡ m + k → den_at i (x ++ r) ≡ den_at k r
den_after x r i m k long e = grind (arith, common_steps)
