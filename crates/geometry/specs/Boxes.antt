-- Rectangles and boxes, and the smallest box around a list of points. Assumes nothing.
use Rattle.std.specs.Prelude.{Bool, cond, ◌&&◌, List, [], ◌∷◌, fold}
use Rattle.scalar.specs.Ops.{Ops}
use Rattle.geometry.specs.declared.types.Point2D.{Point2D}
use Rattle.geometry.specs.declared.types.Point3D.{Point3D}
use Rattle.geometry.specs.declared.types.Size2D.{Size2D}
use Rattle.geometry.specs.declared.types.Rect.{Rect}
use Rattle.geometry.specs.declared.types.Box2D.{Box2D}
use Rattle.geometry.specs.declared.types.Box3D.{Box3D}
use Rattle.geometry.specs.Points.{point2, point3, size2, point_add, eq_points2, eq_points3, eq_sizes}

module _ {S U : Type 0} where
  abbrev pub box2 : Point2D S U → Point2D S U → Box2D S U
  box2 p q = record { min = p; max = q }

  abbrev pub box3 : Point3D S U → Point3D S U → Box3D S U
  box3 p q = record { min = p; max = q }

  abbrev pub rect : Point2D S U → Size2D S U → Rect S U
  rect p s = record { origin = p; size = s }

-- of two values the one that is not above, and the one that is not below, the first where neither is
module _ {S : Type 0} (less : S → S → Bool) where
  abbrev pub smaller : S → S → S
  smaller a b = cond (less b a) b a

  abbrev pub larger : S → S → S
  larger a b = cond (less a b) b a

module _ {S U : Type 0} (o : Ops S) where
  -- the size of a box, and the two ways to hold the same
  abbrev pub box_size : Box2D S U → Size2D S U
  box_size b = size2 (o.sub b.max.x b.min.x) (o.sub b.max.y b.min.y) b.max.unit

  abbrev pub box_rect : Box2D S U → Rect S U
  box_rect b = rect b.min (box_size b)

  abbrev pub rect_box : Rect S U → Box2D S U
  rect_box r = box2 r.origin (point_add o r.origin r.size)

  -- equality, corner by corner
  abbrev pub eq_boxes2 : Box2D S U → Box2D S U → Bool
  eq_boxes2 b c = eq_points2 o b.min c.min && eq_points2 o b.max c.max

  abbrev pub eq_boxes3 : Box3D S U → Box3D S U → Bool
  eq_boxes3 b c = eq_points3 o b.min c.min && eq_points3 o b.max c.max

  abbrev pub eq_rects : Rect S U → Rect S U → Bool
  eq_rects r s = eq_points2 o r.origin s.origin && eq_sizes o r.size s.size

module _ {S U : Type 0} (less : S → S → Bool) where
  -- a box that takes in one point more
  abbrev pub grown2 : Box2D S U → Point2D S U → Box2D S U
  grown2 b p =
      box2 (point2 (smaller less b.min.x p.x) (smaller less b.min.y p.y) b.min.unit)
      (point2 (larger less b.max.x p.x) (larger less b.max.y p.y) b.max.unit)

  abbrev pub grown3 : Box3D S U → Point3D S U → Box3D S U
  grown3 b p =
      box3 (point3 (smaller less b.min.x p.x) (smaller less b.min.y p.y) (smaller less b.min.z p.z) b.min.unit)
      (point3 (larger less b.max.x p.x) (larger less b.max.y p.y) (larger less b.max.z p.z) b.max.unit)

  -- the box of a list of points: the first starts it, and the others are taken in; of no points it is the zero box
  module _ (zero : S) (unit : U) where
    abbrev pub box_of2 : List (Point2D S U) → Box2D S U
    box_of2 [] = box2 (point2 zero zero unit) (point2 zero zero unit)
    box_of2 (p ∷ ps) = fold grown2 (box2 p p) ps

    abbrev pub box_of3 : List (Point3D S U) → Box3D S U
    box_of3 [] = box3 (point3 zero zero zero unit) (point3 zero zero zero unit)
    box_of3 (p ∷ ps) = fold grown3 (box3 p p) ps
