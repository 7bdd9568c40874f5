use Rattle.integers.proofs.PrimeFields.{prime_field}
use Rattle.residues.specs.ResiduesLemmas.{residue_prime, residue_back, residue_near, residue_same}
use Rattle.residues.specs.Residues.{residue}
use Rattle.residues.proofs.residue.ResidueField.field_laws.Goals as goal

pub returns : goal.returns
returns c = prime_field (λ a. a.value) residue 65521 residue_prime residue_back residue_near residue_same
