-- Transforms of the plane: a row (x, y, 1) times a matrix of three rows and two columns. Assumes nothing.
use Rattle.std.specs.Prelude.{Bool, cond, ◌&&◌, Some, None, Option, List, [], ◌∷◌}
use Rattle.scalar.specs.Ops.{Ops}
use Rattle.sums.specs.Sums.{dot, affine, cross}
use Rattle.geometry.specs.declared.types.Point2D.{Point2D}
use Rattle.geometry.specs.declared.types.Vector2D.{Vector2D}
use Rattle.geometry.specs.declared.types.Box2D.{Box2D}
use Rattle.geometry.specs.Points.{point2, vec2}
use Rattle.geometry.specs.Boxes.{box2, grown2}
use Rattle.transform2d.specs.declared.types.Transform2D.{Transform2D}

-- the transform with these three rows
abbrev pub flat : {S A B : Type 0}
    → S → S
    → S → S
    → S → S → A → B → Transform2D S A B
flat m11 m12 m21 m22 m31 m32 a b = record { m11 = m11; m12 = m12; m21 = m21; m22 = m22; m31 = m31; m32 = m32; src = a; dst = b }

-- the entries of each row and each column
module _ {S A B : Type 0} where
  abbrev pub row1 : Transform2D S A B → List S
  row1 m = m.m11 ∷ m.m12 ∷ []

  abbrev pub row2 : Transform2D S A B → List S
  row2 m = m.m21 ∷ m.m22 ∷ []

  abbrev pub row3 : Transform2D S A B → List S
  row3 m = m.m31 ∷ m.m32 ∷ []

  -- without the third row
  abbrev pub column1 : Transform2D S A B → List S
  column1 m = m.m11 ∷ m.m21 ∷ []

  abbrev pub column2 : Transform2D S A B → List S
  column2 m = m.m12 ∷ m.m22 ∷ []

module _ {S : Type 0} (o : Ops S) where
  open o use {add as ◌⊕◌, sub as ◌⊖◌, mul as ◌⊗◌, div, eq, zero as 𝟘, one as 𝟙}

  infixl 60 ◌⊕◌ ◌⊖◌
  infixl 70 ◌⊗◌
  abbrev pub flat_identity : {A B : Type 0} → A → B → Transform2D S A B
  flat_identity = flat
      𝟙 𝟘
      𝟘 𝟙
      𝟘 𝟘

  abbrev pub flat_translation : {A B : Type 0} → S → S → A → B → Transform2D S A B
  flat_translation x y = flat
      𝟙 𝟘
      𝟘 𝟙
      x y

  abbrev pub flat_scale : {A B : Type 0} → S → S → A → B → Transform2D S A B
  flat_scale x y = flat
      x 𝟘
      𝟘 y
      𝟘 𝟘

  -- row by column, with the third column of each being (0, 0, 1): p, and q after it
  abbrev pub flat_then : {A B C : Type 0} → Transform2D S A B → Transform2D S B C → Transform2D S A C
  flat_then p q = flat
      (dot o (row1 p) (column1 q)) (dot o (row1 p) (column2 q))
      (dot o (row2 p) (column1 q)) (dot o (row2 p) (column2 q))
      (affine o (row3 p) (column1 q) q.m31) (affine o (row3 p) (column2 q) q.m32)
      p.src q.dst

  abbrev pub flat_pre_scale : {A B : Type 0} → Transform2D S A B → S → S → Transform2D S A B
  flat_pre_scale p x y = flat
      (p.m11 ⊗ x) (p.m12 ⊗ x)
      (p.m21 ⊗ y) (p.m22 ⊗ y)
      p.m31 p.m32
      p.src p.dst

  abbrev pub flat_eq : {A B : Type 0} → Transform2D S A B → Transform2D S A B → Bool
  flat_eq p q = eq p.m11 q.m11 && (eq p.m12 q.m12 && (eq p.m21 q.m21 && (eq p.m22 q.m22 && (eq p.m31 q.m31 && eq p.m32 q.m32))))

  abbrev pub flat_det : {A B : Type 0} → Transform2D S A B → S
  flat_det p = cross o p.m11 p.m22 p.m12 p.m21

  -- one over the determinant times the adjugate; none where the determinant equals zero
  abbrev pub flat_back : {A B : Type 0} → S → Transform2D S A B → Transform2D S B A
  flat_back s p = flat
      (s ⊗ p.m22) (s ⊗ (𝟘 ⊖ p.m12))
      (s ⊗ (𝟘 ⊖ p.m21)) (s ⊗ p.m11)
      (s ⊗ cross o p.m21 p.m32 p.m22 p.m31) (s ⊗ cross o p.m31 p.m12 p.m11 p.m32)
      p.dst p.src

  abbrev pub flat_inverse : {A B : Type 0} → Transform2D S A B → Option (Transform2D S B A)
  flat_inverse p = cond (eq (flat_det p) 𝟘) None (Some (flat_back (div 𝟙 (flat_det p)) p))

  abbrev pub flat_point : {A B : Type 0} → Transform2D S A B → Point2D S A → Point2D S B
  flat_point m p = let row = p.x ∷ p.y ∷ [] in point2 (affine o row (column1 m) m.m31) (affine o row (column2 m) m.m32) m.dst

  abbrev pub flat_vector : {A B : Type 0} → Transform2D S A B → Vector2D S A → Vector2D S B
  flat_vector m v = let row = v.x ∷ v.y ∷ [] in vec2 (dot o row (column1 m)) (dot o row (column2 m)) m.dst

  -- the box of the images of the four corners, taken in one after another
  abbrev pub flat_box : (S → S → Bool) → {A B : Type 0} → Transform2D S A B → Box2D S A → Box2D S B
  flat_box less m b =
      let p = flat_point m b.min in
      let q = flat_point m b.max in
      let r = flat_point m (point2 b.max.x b.min.y b.min.unit) in
      let s = flat_point m (point2 b.min.x b.max.y b.min.unit) in
      grown2 less (grown2 less (grown2 less (box2 p p) q) r) s

-- the same numbers between other spaces
abbrev pub re_tagged : {S A B C D : Type 0} → Transform2D S A B → C → D → Transform2D S C D
re_tagged m = flat m.m11 m.m12 m.m21 m.m22 m.m31 m.m32
