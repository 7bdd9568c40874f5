-- Two residues that hold the same number are the same. Assumes nothing.
use Rattle.std.specs.Prelude.{true, ◌≡◌, pos}
use Rattle.std.proofs.Math.Bool.{Bool-set}
use mathlib.Core.HLevel.{is_prop→PathP}
use Rattle.std.specs.Int.Signed.{le_z}
use Rattle.residues.specs.declared.types.Residue.{Residue}

pub same_residue : (a b : Residue) → a.value ≡ b.value → a ≡ b
same_residue a b e = λ i. record {
  value = e i;
  low = is_prop→PathP (λ k. le_z (pos 0) (e k) ≡ true) (λ k. Bool-set _ _) a.low b.low i;
  high = is_prop→PathP (λ k. le_z (e k) (pos 65520) ≡ true) (λ k. Bool-set _ _) a.high b.high i;
}
