-- Points, vectors, sizes and homogeneous vectors by their coordinates, and what is computed of them. Assumes nothing.
use Rattle.std.specs.Prelude.{Bool, cond, ◌&&◌, Some, None, Option}
use Rattle.scalar.specs.Ops.{Ops}
use Rattle.geometry.specs.declared.types.Point2D.{Point2D}
use Rattle.geometry.specs.declared.types.Point3D.{Point3D}
use Rattle.geometry.specs.declared.types.Vector2D.{Vector2D}
use Rattle.geometry.specs.declared.types.Vector3D.{Vector3D}
use Rattle.geometry.specs.declared.types.Size2D.{Size2D}
use Rattle.geometry.specs.declared.types.HomogeneousVector.{HomogeneousVector}

module _ {S U : Type 0} where
  abbrev pub point2 : S → S → U → Point2D S U
  point2 x y u = record { x = x; y = y; unit = u }

  abbrev pub point3 : S → S → S → U → Point3D S U
  point3 x y z u = record { x = x; y = y; z = z; unit = u }

  abbrev pub vec2 : S → S → U → Vector2D S U
  vec2 x y u = record { x = x; y = y; unit = u }

  abbrev pub vec3 : S → S → S → U → Vector3D S U
  vec3 x y z u = record { x = x; y = y; z = z; unit = u }

  abbrev pub size2 : S → S → U → Size2D S U
  size2 w h u = record { width = w; height = h; unit = u }

  abbrev pub homogeneous : S → S → S → S → U → HomogeneousVector S U
  homogeneous x y z w u = record { x = x; y = y; z = z; w = w; unit = u }

module _ {S U : Type 0} (o : Ops S) where
  open o use {add, sub, div, eq, zero as 𝟘, one as 𝟙}

  -- the point all of whose coordinates are zero
  abbrev pub origin2 : U → Point2D S U
  origin2 u = point2 𝟘 𝟘 u

  abbrev pub origin3 : U → Point3D S U
  origin3 u = point3 𝟘 𝟘 𝟘 u

  -- a point moved by a size, and the vector from one point to another
  abbrev pub point_add : Point2D S U → Size2D S U → Point2D S U
  point_add p s = point2 (add p.x s.width) (add p.y s.height) p.unit

  abbrev pub point_sub : Point2D S U → Point2D S U → Vector2D S U
  point_sub p q = vec2 (sub p.x q.x) (sub p.y q.y) p.unit

  -- equality, coordinate by coordinate
  abbrev pub eq_points2 : Point2D S U → Point2D S U → Bool
  eq_points2 p q = eq p.x q.x && eq p.y q.y

  abbrev pub eq_points3 : Point3D S U → Point3D S U → Bool
  eq_points3 p q = eq p.x q.x && (eq p.y q.y && eq p.z q.z)

  abbrev pub eq_vectors2 : Vector2D S U → Vector2D S U → Bool
  eq_vectors2 v w = eq v.x w.x && eq v.y w.y

  abbrev pub eq_vectors3 : Vector3D S U → Vector3D S U → Bool
  eq_vectors3 v w = eq v.x w.x && (eq v.y w.y && eq v.z w.z)

  abbrev pub eq_sizes : Size2D S U → Size2D S U → Bool
  eq_sizes s t = eq s.width t.width && eq s.height t.height

  abbrev pub eq_homogeneous : HomogeneousVector S U → HomogeneousVector S U → Bool
  eq_homogeneous v w = eq v.x w.x && (eq v.y w.y && (eq v.z w.z && eq v.w w.w))

  -- the point that a homogeneous vector stands for, where its w is above zero
  module _ (less : S → S → Bool) where
    abbrev pub cartesian2 : HomogeneousVector S U → Option (Point2D S U)
    cartesian2 v = cond (less 𝟘 v.w) (Some (point2 (div v.x v.w) (div v.y v.w) v.unit)) None

    abbrev pub cartesian3 : HomogeneousVector S U → Option (Point3D S U)
    cartesian3 v = cond (less 𝟘 v.w) (Some (point3 (div v.x v.w) (div v.y v.w) (div v.z v.w) v.unit)) None
