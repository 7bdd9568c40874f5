-- Transforms of space: a row (x, y, z, w) times a matrix of four by four. Assumes nothing.
use Rattle.std.specs.Prelude.{Bool, cond, not, ◌&&◌, Some, None, Option, List, [], ◌∷◌}
use Rattle.scalar.specs.Ops.{Ops}
use Rattle.sums.specs.Sums.{dot, affine, eq4, even, odd}
use Rattle.geometry.specs.declared.types.Point2D.{Point2D}
use Rattle.geometry.specs.declared.types.Point3D.{Point3D}
use Rattle.geometry.specs.declared.types.Vector2D.{Vector2D}
use Rattle.geometry.specs.declared.types.Vector3D.{Vector3D}
use Rattle.geometry.specs.declared.types.HomogeneousVector.{HomogeneousVector}
use Rattle.geometry.specs.declared.types.Box2D.{Box2D}
use Rattle.geometry.specs.declared.types.Box3D.{Box3D}
use Rattle.geometry.specs.declared.types.Rect.{Rect}
use Rattle.geometry.specs.Points.{point2, vec2, vec3, homogeneous, cartesian2, cartesian3, point3}
use Rattle.geometry.specs.Boxes.{box2, box3, grown2, grown3, rect_box, box_rect}
use Rattle.transform3d.specs.declared.types.Transform3D.{Transform3D}

-- the transform with these four rows
abbrev pub solid : {S A B : Type 0}
    → S → S → S → S
    → S → S → S → S
    → S → S → S → S
    → S → S → S → S → A → B → Transform3D S A B
solid
    m11 m12 m13 m14
    m21 m22 m23 m24
    m31 m32 m33 m34
    m41 m42 m43 m44 a b = record {
      m11 = m11;
      m12 = m12;
      m13 = m13;
      m14 = m14;
      m21 = m21;
      m22 = m22;
      m23 = m23;
      m24 = m24;
      m31 = m31;
      m32 = m32;
      m33 = m33;
      m34 = m34;
      m41 = m41;
      m42 = m42;
      m43 = m43;
      m44 = m44;
      src = a;
      dst = b;
    }

-- its rows, and the transform with the given ones
module _ {S A B : Type 0} where
  abbrev pub rows_of : Transform3D S A B → (S × S × S × S) × (S × S × S × S) × (S × S × S × S) × (S × S × S × S)
  rows_of m = (
    (m.m11, m.m12, m.m13, m.m14),
    (m.m21, m.m22, m.m23, m.m24),
    (m.m31, m.m32, m.m33, m.m34),
    (m.m41, m.m42, m.m43, m.m44),
  )

  abbrev pub solid_of_rows : (S × S × S × S) × (S × S × S × S) × (S × S × S × S) × (S × S × S × S) → A → B → Transform3D S A B
  solid_of_rows ((m11, m12, m13, m14), (m21, m22, m23, m24), (m31, m32, m33, m34), (m41, m42, m43, m44)) = solid
      m11 m12 m13 m14
      m21 m22 m23 m24
      m31 m32 m33 m34
      m41 m42 m43 m44

  -- the entries of each row and each column
  abbrev pub row1 : Transform3D S A B → List S
  row1 m = m.m11 ∷ m.m12 ∷ m.m13 ∷ m.m14 ∷ []

  abbrev pub row2 : Transform3D S A B → List S
  row2 m = m.m21 ∷ m.m22 ∷ m.m23 ∷ m.m24 ∷ []

  abbrev pub row3 : Transform3D S A B → List S
  row3 m = m.m31 ∷ m.m32 ∷ m.m33 ∷ m.m34 ∷ []

  abbrev pub row4 : Transform3D S A B → List S
  row4 m = m.m41 ∷ m.m42 ∷ m.m43 ∷ m.m44 ∷ []

  abbrev pub column1 : Transform3D S A B → List S
  column1 m = m.m11 ∷ m.m21 ∷ m.m31 ∷ m.m41 ∷ []

  abbrev pub column2 : Transform3D S A B → List S
  column2 m = m.m12 ∷ m.m22 ∷ m.m32 ∷ m.m42 ∷ []

  abbrev pub column3 : Transform3D S A B → List S
  column3 m = m.m13 ∷ m.m23 ∷ m.m33 ∷ m.m43 ∷ []

  abbrev pub column4 : Transform3D S A B → List S
  column4 m = m.m14 ∷ m.m24 ∷ m.m34 ∷ m.m44 ∷ []

module _ {S : Type 0} (o : Ops S) where
  open o use {add as ◌⊕◌, sub as ◌⊖◌, mul as ◌⊗◌, neg, div, eq, zero as 𝟘, one as 𝟙}

  infixl 60 ◌⊕◌ ◌⊖◌
  infixl 70 ◌⊗◌
  -- the transform of the plane with rows (m11, m12), (m21, m22), (m41, m42)
  abbrev pub solid_2d : {A B : Type 0} → S → S → S → S → S → S → A → B → Transform3D S A B
  solid_2d m11 m12 m21 m22 m41 m42 = solid
      m11 m12 𝟘 𝟘
      m21 m22 𝟘 𝟘
      𝟘 𝟘 𝟙 𝟘
      m41 m42 𝟘 𝟙

  abbrev pub solid_identity : {A B : Type 0} → A → B → Transform3D S A B
  solid_identity = solid
      𝟙 𝟘 𝟘 𝟘
      𝟘 𝟙 𝟘 𝟘
      𝟘 𝟘 𝟙 𝟘
      𝟘 𝟘 𝟘 𝟙

  abbrev pub solid_translation : {A B : Type 0} → S → S → S → A → B → Transform3D S A B
  solid_translation x y z = solid
      𝟙 𝟘 𝟘 𝟘
      𝟘 𝟙 𝟘 𝟘
      𝟘 𝟘 𝟙 𝟘
      x y z 𝟙

  abbrev pub solid_scale : {A B : Type 0} → S → S → S → A → B → Transform3D S A B
  solid_scale x y z = solid
      x 𝟘 𝟘 𝟘
      𝟘 y 𝟘 𝟘
      𝟘 𝟘 z 𝟘
      𝟘 𝟘 𝟘 𝟙

  -- the eye stands at the distance d above the plane z = 0
  abbrev pub solid_perspective : {A B : Type 0} → S → A → B → Transform3D S A B
  solid_perspective d = solid
      𝟙 𝟘 𝟘 𝟘
      𝟘 𝟙 𝟘 𝟘
      𝟘 𝟘 𝟙 (div (neg 𝟙) d)
      𝟘 𝟘 𝟘 𝟙

  -- the box between two opposite sides on each axis, brought to the cube from -1 to 1
  abbrev pub solid_ortho : {A B : Type 0} → S → S → S → S → S → S → A → B → Transform3D S A B
  solid_ortho left right bottom top near far = solid
      (div (𝟙 ⊕ 𝟙) (right ⊖ left)) 𝟘 𝟘 𝟘
      𝟘 (div (𝟙 ⊕ 𝟙) (top ⊖ bottom)) 𝟘 𝟘
      𝟘 𝟘 (div (neg (𝟙 ⊕ 𝟙)) (far ⊖ near)) 𝟘
      (neg (div (right ⊕ left) (right ⊖ left))) (neg (div (top ⊕ bottom) (top ⊖ bottom))) (neg (div (far ⊕ near) (far ⊖ near))) 𝟙

  -- row i of p times column j of q at each place: p, and q after it
  abbrev pub solid_then : {A B C : Type 0} → Transform3D S A B → Transform3D S B C → Transform3D S A C
  solid_then p q = solid
      (dot o (row1 p) (column1 q)) (dot o (row1 p) (column2 q)) (dot o (row1 p) (column3 q)) (dot o (row1 p) (column4 q))
      (dot o (row2 p) (column1 q)) (dot o (row2 p) (column2 q)) (dot o (row2 p) (column3 q)) (dot o (row2 p) (column4 q))
      (dot o (row3 p) (column1 q)) (dot o (row3 p) (column2 q)) (dot o (row3 p) (column3 q)) (dot o (row3 p) (column4 q))
      (dot o (row4 p) (column1 q)) (dot o (row4 p) (column2 q)) (dot o (row4 p) (column3 q)) (dot o (row4 p) (column4 q))
      p.src q.dst

  -- each row times a number of its own
  abbrev pub solid_pre_scale : {A B : Type 0} → Transform3D S A B → S → S → S → Transform3D S A B
  solid_pre_scale p x y z = solid
      (p.m11 ⊗ x) (p.m12 ⊗ x) (p.m13 ⊗ x) (p.m14 ⊗ x)
      (p.m21 ⊗ y) (p.m22 ⊗ y) (p.m23 ⊗ y) (p.m24 ⊗ y)
      (p.m31 ⊗ z) (p.m32 ⊗ z) (p.m33 ⊗ z) (p.m34 ⊗ z)
      p.m41 p.m42 p.m43 p.m44
      p.src p.dst

  -- every entry times x
  abbrev pub solid_times : {A B : Type 0} → Transform3D S A B → S → Transform3D S A B
  solid_times p x = solid
      (p.m11 ⊗ x) (p.m12 ⊗ x) (p.m13 ⊗ x) (p.m14 ⊗ x)
      (p.m21 ⊗ x) (p.m22 ⊗ x) (p.m23 ⊗ x) (p.m24 ⊗ x)
      (p.m31 ⊗ x) (p.m32 ⊗ x) (p.m33 ⊗ x) (p.m34 ⊗ x)
      (p.m41 ⊗ x) (p.m42 ⊗ x) (p.m43 ⊗ x) (p.m44 ⊗ x)
      p.src p.dst

  abbrev pub solid_eq : {A B : Type 0} → Transform3D S A B → Transform3D S A B → Bool
  solid_eq p q =
      eq4 o (p.m11, p.m12, p.m13, p.m14) (q.m11, q.m12, q.m13, q.m14)
      && (eq4 o (p.m21, p.m22, p.m23, p.m24) (q.m21, q.m22, q.m23, q.m24)
      && (eq4 o (p.m31, p.m32, p.m33, p.m34) (q.m31, q.m32, q.m33, q.m34)
      && (eq4 o (p.m41, p.m42, p.m43, p.m44) (q.m41, q.m42, q.m43, q.m44))))

  -- the third row and the third column are those of the identity, and the fourth column is too
  abbrev pub is_2d : {A B : Type 0} → Transform3D S A B → Bool
  is_2d p =
      eq p.m31 𝟘 && (eq p.m32 𝟘 && (eq p.m13 𝟘 && (eq p.m23 𝟘 && (eq p.m43 𝟘 && (eq p.m14 𝟘 && (eq p.m24 𝟘 && (eq p.m34 𝟘 && (eq p.m33 𝟙 && eq p.m44 𝟙))))))))

  -- the determinant: its 24 terms, in the order in which they are summed
  abbrev pub solid_det : {A B : Type 0} → Transform3D S A B → S
  solid_det p =
      p.m14 ⊗ p.m23 ⊗ p.m32 ⊗ p.m41
      ⊖ p.m13 ⊗ p.m24 ⊗ p.m32 ⊗ p.m41
      ⊖ p.m14 ⊗ p.m22 ⊗ p.m33 ⊗ p.m41
      ⊕ p.m12 ⊗ p.m24 ⊗ p.m33 ⊗ p.m41
      ⊕ p.m13 ⊗ p.m22 ⊗ p.m34 ⊗ p.m41
      ⊖ p.m12 ⊗ p.m23 ⊗ p.m34 ⊗ p.m41
      ⊖ p.m14 ⊗ p.m23 ⊗ p.m31 ⊗ p.m42
      ⊕ p.m13 ⊗ p.m24 ⊗ p.m31 ⊗ p.m42
      ⊕ p.m14 ⊗ p.m21 ⊗ p.m33 ⊗ p.m42
      ⊖ p.m11 ⊗ p.m24 ⊗ p.m33 ⊗ p.m42
      ⊖ p.m13 ⊗ p.m21 ⊗ p.m34 ⊗ p.m42
      ⊕ p.m11 ⊗ p.m23 ⊗ p.m34 ⊗ p.m42
      ⊕ p.m14 ⊗ p.m22 ⊗ p.m31 ⊗ p.m43
      ⊖ p.m12 ⊗ p.m24 ⊗ p.m31 ⊗ p.m43
      ⊖ p.m14 ⊗ p.m21 ⊗ p.m32 ⊗ p.m43
      ⊕ p.m11 ⊗ p.m24 ⊗ p.m32 ⊗ p.m43
      ⊕ p.m12 ⊗ p.m21 ⊗ p.m34 ⊗ p.m43
      ⊖ p.m11 ⊗ p.m22 ⊗ p.m34 ⊗ p.m43
      ⊖ p.m13 ⊗ p.m22 ⊗ p.m31 ⊗ p.m44
      ⊕ p.m12 ⊗ p.m23 ⊗ p.m31 ⊗ p.m44
      ⊕ p.m13 ⊗ p.m21 ⊗ p.m32 ⊗ p.m44
      ⊖ p.m11 ⊗ p.m23 ⊗ p.m32 ⊗ p.m44
      ⊖ p.m12 ⊗ p.m21 ⊗ p.m33 ⊗ p.m44
      ⊕ p.m11 ⊗ p.m22 ⊗ p.m33 ⊗ p.m44

  -- the adjugate: at each place the determinant without that column and that row, with the sign of the place
  abbrev pub solid_adjugate : {A B : Type 0} → Transform3D S A B → Transform3D S B A
  solid_adjugate p = solid
      (even o (p.m22, p.m23, p.m24) (p.m32, p.m33, p.m34) (p.m42, p.m43, p.m44))
      (odd o (p.m12, p.m13, p.m14) (p.m32, p.m33, p.m34) (p.m42, p.m43, p.m44))
      (even o (p.m12, p.m13, p.m14) (p.m22, p.m23, p.m24) (p.m42, p.m43, p.m44))
      (odd o (p.m12, p.m13, p.m14) (p.m22, p.m23, p.m24) (p.m32, p.m33, p.m34))
      (odd o (p.m21, p.m23, p.m24) (p.m31, p.m33, p.m34) (p.m41, p.m43, p.m44))
      (even o (p.m11, p.m13, p.m14) (p.m31, p.m33, p.m34) (p.m41, p.m43, p.m44))
      (odd o (p.m11, p.m13, p.m14) (p.m21, p.m23, p.m24) (p.m41, p.m43, p.m44))
      (even o (p.m11, p.m13, p.m14) (p.m21, p.m23, p.m24) (p.m31, p.m33, p.m34))
      (even o (p.m21, p.m22, p.m24) (p.m31, p.m32, p.m34) (p.m41, p.m42, p.m44))
      (odd o (p.m11, p.m12, p.m14) (p.m31, p.m32, p.m34) (p.m41, p.m42, p.m44))
      (even o (p.m11, p.m12, p.m14) (p.m21, p.m22, p.m24) (p.m41, p.m42, p.m44))
      (odd o (p.m11, p.m12, p.m14) (p.m21, p.m22, p.m24) (p.m31, p.m32, p.m34))
      (odd o (p.m21, p.m22, p.m23) (p.m31, p.m32, p.m33) (p.m41, p.m42, p.m43))
      (even o (p.m11, p.m12, p.m13) (p.m31, p.m32, p.m33) (p.m41, p.m42, p.m43))
      (odd o (p.m11, p.m12, p.m13) (p.m21, p.m22, p.m23) (p.m41, p.m42, p.m43))
      (even o (p.m11, p.m12, p.m13) (p.m21, p.m22, p.m23) (p.m31, p.m32, p.m33))
      p.dst p.src

  -- the adjugate times one over the determinant; none where the determinant equals zero
  abbrev pub solid_inverse : {A B : Type 0} → Transform3D S A B → Option (Transform3D S B A)
  solid_inverse p = cond (eq (solid_det p) 𝟘) None (Some (solid_times (solid_adjugate p) (div 𝟙 (solid_det p))))

  -- points and vectors as rows: a point of the plane is (x, y, 0, 1), one of space (x, y, z, 1), a vector has w = 0
  abbrev pub image_point2 : {A B : Type 0} → Transform3D S A B → Point2D S A → HomogeneousVector S B
  image_point2 m p = let row = p.x ∷ p.y ∷ [] in homogeneous
      (affine o row (m.m11 ∷ m.m21 ∷ []) m.m41)
      (affine o row (m.m12 ∷ m.m22 ∷ []) m.m42)
      (affine o row (m.m13 ∷ m.m23 ∷ []) m.m43)
      (affine o row (m.m14 ∷ m.m24 ∷ []) m.m44)
      m.dst

  abbrev pub image_point3 : {A B : Type 0} → Transform3D S A B → Point3D S A → HomogeneousVector S B
  image_point3 m p = let row = p.x ∷ p.y ∷ p.z ∷ [] in homogeneous
      (affine o row (m.m11 ∷ m.m21 ∷ m.m31 ∷ []) m.m41)
      (affine o row (m.m12 ∷ m.m22 ∷ m.m32 ∷ []) m.m42)
      (affine o row (m.m13 ∷ m.m23 ∷ m.m33 ∷ []) m.m43)
      (affine o row (m.m14 ∷ m.m24 ∷ m.m34 ∷ []) m.m44)
      m.dst

  abbrev pub image_vector2 : {A B : Type 0} → Transform3D S A B → Vector2D S A → Vector2D S B
  image_vector2 m v = let row = v.x ∷ v.y ∷ [] in vec2
      (dot o row (m.m11 ∷ m.m21 ∷ []))
      (dot o row (m.m12 ∷ m.m22 ∷ []))
      m.dst

  abbrev pub image_vector3 : {A B : Type 0} → Transform3D S A B → Vector3D S A → Vector3D S B
  image_vector3 m v = let row = v.x ∷ v.y ∷ v.z ∷ [] in vec3
      (dot o row (m.m11 ∷ m.m21 ∷ m.m31 ∷ []))
      (dot o row (m.m12 ∷ m.m22 ∷ m.m32 ∷ []))
      (dot o row (m.m13 ∷ m.m23 ∷ m.m33 ∷ []))
      m.dst

  -- the transform without its third row and column; where its fourth column is (0, 0, m44) with an m44 that is neither zero nor one, times 1 / m44
  abbrev pub flattened : {A B : Type 0} → Transform3D S A B → Transform3D S A B
  flattened p =
      let s = div 𝟙 p.m44 in
      let flat = solid
      p.m11 p.m12 𝟘 p.m14
      p.m21 p.m22 𝟘 p.m24
      𝟘 𝟘 𝟙 𝟘
      p.m41 p.m42 𝟘 p.m44
      p.src p.dst in
      let scaled = solid
      (p.m11 ⊗ s) (p.m12 ⊗ s) 𝟘 p.m14
      (p.m21 ⊗ s) (p.m22 ⊗ s) 𝟘 p.m24
      𝟘 𝟘 𝟙 𝟘
      (p.m41 ⊗ s) (p.m42 ⊗ s) 𝟘 𝟙
      p.src p.dst in
      cond (eq p.m14 𝟘 && (eq p.m24 𝟘 && (not (eq p.m44 𝟘) && not (eq p.m44 𝟙)))) scaled flat

-- the same numbers between other spaces
abbrev pub re_tagged : {S A B C D : Type 0} → Transform3D S A B → C → D → Transform3D S C D
re_tagged m = solid
    m.m11 m.m12 m.m13 m.m14
    m.m21 m.m22 m.m23 m.m24
    m.m31 m.m32 m.m33 m.m34
    m.m41 m.m42 m.m43 m.m44

-- what follows a value that is there
abbrev pub then_some : {A B : Type 0} → Option A → (A → Option B) → Option B
then_some None f = None
then_some (Some a) f = f a

module _ {S : Type 0} (less : S → S → Bool) (absolute : S → S) where
  abbrev pub small3 : S × S × S → S → Bool
  small3 (a, b, c) e = less (absolute a) e && (less (absolute b) e && less (absolute c) e)

module _ {S : Type 0} (o : Ops S) (less : S → S → Bool) where
  -- every entry but the two scales and the two offsets is within e of the identity's
  abbrev pub is_scale_offset : (S → S) → {A B : Type 0} → Transform3D S A B → S → Bool
  is_scale_offset absolute m e =
      small3 less absolute (m.m12, m.m13, m.m14) e
      && (small3 less absolute (m.m21, m.m23, m.m24) e
      && (small3 less absolute (m.m31, m.m32, o.sub m.m33 o.one) e
      && small3 less absolute (m.m34, m.m43, o.sub m.m44 o.one) e))

  -- the image of a point of the plane, where its w is above zero
  abbrev pub seen2 : {A B : Type 0} → Transform3D S A B → Point2D S A → Option (Point2D S B)
  seen2 m p = cartesian2 o less (image_point2 o m p)

  -- the box of the images of the four corners, taken in one after another
  abbrev pub outer_box2 : {A B : Type 0} → Transform3D S A B → Box2D S A → Option (Box2D S B)
  outer_box2 m b =
      then_some (seen2 m b.min) (λ p.
      then_some (seen2 m b.max) (λ q.
      then_some (seen2 m (point2 b.max.x b.min.y b.min.unit)) (λ r.
      then_some (seen2 m (point2 b.min.x b.max.y b.min.unit)) (λ s.
      Some (grown2 less (grown2 less (grown2 less (box2 p p) q) r) s)))))

  abbrev pub outer_rect : {A B : Type 0} → Transform3D S A B → Rect S A → Option (Rect S B)
  outer_rect m r = then_some (outer_box2 m (rect_box o r)) (λ b. Some (box_rect o b))

  abbrev pub seen3 : {A B : Type 0} → Transform3D S A B → Point3D S A → Option (Point3D S B)
  seen3 m p = cartesian3 o less (image_point3 o m p)

  -- a box with the image of a point taken in, and with those of the two corners of b at x and y
  abbrev pub taken_in : {A B : Type 0} → Transform3D S A B → Box3D S B → Point3D S A → Option (Box3D S B)
  taken_in m outer p = then_some (seen3 m p) (λ q. Some (grown3 less outer q))

  abbrev pub edge_taken_in : {A B : Type 0} → Transform3D S A B → Box3D S B → S → S → Box3D S A → Option (Box3D S B)
  edge_taken_in m outer x y b =
      then_some (taken_in m outer (point3 x y b.min.z b.min.unit)) (λ half. taken_in m half (point3 x y b.max.z b.min.unit))

  -- the box of the images of the eight corners, edge after edge
  abbrev pub outer_box3 : {A B : Type 0} → Transform3D S A B → Box3D S A → Option (Box3D S B)
  outer_box3 m b =
      then_some (seen3 m b.min) (λ p.
      then_some (taken_in m (box3 p p) (point3 b.min.x b.min.y b.max.z b.min.unit)) (λ c.
      then_some (edge_taken_in m c b.min.x b.max.y b) (λ d.
      then_some (edge_taken_in m d b.max.x b.min.y b) (λ e.
      edge_taken_in m e b.max.x b.max.y b))))
