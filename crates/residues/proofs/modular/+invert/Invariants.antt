use Rattle.residues.proofs.modular.+invert.Given as goal

abbrev pub decreases-invert : goal.decreases-invert
decreases-invert l = l.b
