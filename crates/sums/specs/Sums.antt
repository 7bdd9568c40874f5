-- Sums of products over any operations, in a fixed order. Assumes nothing.
use Rattle.std.specs.Prelude.{Bool, ◌&&◌, List, ◌∷◌}
use Rattle.scalar.specs.Ops.{Ops}

module _ {S : Type 0} (o : Ops S) where
  open o use {add as ◌⊕◌, sub as ◌⊖◌, mul as ◌⊗◌, eq, zero as 𝟘}

  infixl 60 ◌⊕◌ ◌⊖◌
  infixl 70 ◌⊗◌
  -- s, and the product of each pair added to it, from the left
  abbrev pub products_added : S → List S → List S → S
  products_added s (a ∷ row) (b ∷ column) = products_added (s ⊕ a ⊗ b) row column
  products_added s _ _ = s

  -- a1 b1 + a2 b2 + .., from the left: no zero comes before the first product. Zero where there is no pair; what one list has more than the other is left out, but each `Row` multiplies rows of one length.
  abbrev pub dot : List S → List S → S
  dot (a ∷ row) (b ∷ column) = products_added (a ⊗ b) row column
  dot _ _ = 𝟘

  abbrev pub affine : List S → List S → S → S
  affine row column c = dot row column ⊕ c

  abbrev pub cross : S → S → S → S → S
  cross a b c d = a ⊗ b ⊖ c ⊗ d

  -- The determinant of the matrix with rows a, b and c, and its negative, each in the order in which the adjugate writes it.
  abbrev pub even : S × S × S → S × S × S → S × S × S → S
  even (a1, a2, a3) (b1, b2, b3) (c1, c2, c3) = a2 ⊗ b3 ⊗ c1 ⊖ a3 ⊗ b2 ⊗ c1 ⊕ a3 ⊗ b1 ⊗ c2 ⊖ a1 ⊗ b3 ⊗ c2 ⊖ a2 ⊗ b1 ⊗ c3 ⊕ a1 ⊗ b2 ⊗ c3

  abbrev pub odd : S × S × S → S × S × S → S × S × S → S
  odd (a1, a2, a3) (b1, b2, b3) (c1, c2, c3) = a3 ⊗ b2 ⊗ c1 ⊖ a2 ⊗ b3 ⊗ c1 ⊖ a3 ⊗ b1 ⊗ c2 ⊕ a1 ⊗ b3 ⊗ c2 ⊕ a2 ⊗ b1 ⊗ c3 ⊖ a1 ⊗ b2 ⊗ c3

  abbrev pub product4 : S → S → S → S → S
  product4 a b c d = a ⊗ b ⊗ c ⊗ d

  abbrev pub added4 : S → S → S → S → S → S
  added4 t a b c d = t ⊕ a ⊗ b ⊗ c ⊗ d

  abbrev pub taken4 : S → S → S → S → S → S
  taken4 t a b c d = t ⊖ a ⊗ b ⊗ c ⊗ d

  abbrev pub eq4 : S × S × S × S → S × S × S × S → Bool
  eq4 (a1, a2, a3, a4) (b1, b2, b3, b4) = eq a1 b1 && (eq a2 b2 && (eq a3 b3 && eq a4 b4))
