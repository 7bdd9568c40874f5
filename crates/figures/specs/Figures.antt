-- The worked figures: on each line what is computed, and what it is. Assumes nothing.
use Rattle.std.specs.Prelude.{◌≡◌, List, [], ◌∷◌, ℤ, pos, negsuc}
use Rattle.std.specs.List.{AllByRecursion}
use Rattle.pixels.specs.Pixels.{pixel, pixel_of, pixel_ops}
use Rattle.residues.specs.Residues.{residue, residue_of}

abbrev table : List (ℤ × ℤ)
table =
    ((residue_of (pos 1) 2).value, pos 32761)
    ∷ ((residue_of (pos 1) 3).value, pos 43681)
    ∷ ((residue (negsuc 0)).value, pos 65520)
    ∷ ((residue (pos 65521)).value, pos 0)
    ∷ ((pixel_of (pos 1) 3).value, pos 85)
    ∷ ((pixel_of (negsuc 0) 3).value, negsuc 85)
    ∷ ((pixel_ops.mul (pixel (pos 384)) (pixel (pos 1))).value, pos 1)
    ∷ []

abbrev pub Figures : Type 0
Figures = AllByRecursion (λ figure. figure.0 ≡ figure.1) table
