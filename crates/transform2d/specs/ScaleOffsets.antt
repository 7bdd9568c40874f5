-- Scale-offsets: (x, y) goes to (x sx + tx, y sy + ty). Assumes nothing.
use Rattle.std.specs.Prelude.{Bool, cond, not, ◌&&◌, ◌||◌, Some, None, Option}
use Rattle.scalar.specs.Ops.{Ops}
use Rattle.geometry.specs.declared.types.Point2D.{Point2D}
use Rattle.geometry.specs.declared.types.Vector2D.{Vector2D}
use Rattle.geometry.specs.declared.types.Box2D.{Box2D}
use Rattle.geometry.specs.Points.{point2, vec2}
use Rattle.geometry.specs.Boxes.{box2}
use Rattle.transform2d.specs.declared.types.ScaleOffset2D.{ScaleOffset2D}

abbrev pub scale_offset : {S A B : Type 0} → S → S → S → S → A → B → ScaleOffset2D S A B
scale_offset sx sy tx ty a b = record { sx = sx; sy = sy; tx = tx; ty = ty; src = a; dst = b }

-- the same numbers between other spaces
abbrev pub re_tagged : {S A B C D : Type 0} → ScaleOffset2D S A B → C → D → ScaleOffset2D S C D
re_tagged m = scale_offset m.sx m.sy m.tx m.ty

module _ {S : Type 0} (o : Ops S) where
  open o use {add as ◌⊕◌, mul as ◌⊗◌, neg, div, eq, zero as 𝟘, one as 𝟙}

  infixl 60 ◌⊕◌
  infixl 70 ◌⊗◌
  abbrev pub scale_offset_point : {A B : Type 0} → ScaleOffset2D S A B → Point2D S A → Point2D S B
  scale_offset_point m p = point2 (p.x ⊗ m.sx ⊕ m.tx) (p.y ⊗ m.sy ⊕ m.ty) m.dst

  abbrev pub scale_offset_vector : {A B : Type 0} → ScaleOffset2D S A B → Vector2D S A → Vector2D S B
  scale_offset_vector m v = vec2 (v.x ⊗ m.sx) (v.y ⊗ m.sy) m.dst

  -- p, and q after it
  abbrev pub scale_offset_then : {A B C : Type 0} → ScaleOffset2D S A B → ScaleOffset2D S B C → ScaleOffset2D S A C
  scale_offset_then p q = scale_offset (p.sx ⊗ q.sx) (p.sy ⊗ q.sy) (p.tx ⊗ q.sx ⊕ q.tx) (p.ty ⊗ q.sy ⊕ q.ty) p.src q.dst

  abbrev pub scale_offset_eq : {A B : Type 0} → ScaleOffset2D S A B → ScaleOffset2D S A B → Bool
  scale_offset_eq p q = eq p.sx q.sx && (eq p.sy q.sy && (eq p.tx q.tx && eq p.ty q.ty))

  -- a scale that is equal to itself and not to zero
  abbrev pub usable : S → Bool
  usable s = eq s s && not (eq s 𝟘)

  -- what undoes a scale-offset; none where a scale equals zero
  abbrev pub scale_offset_inverse : {A B : Type 0} → ScaleOffset2D S A B → Option (ScaleOffset2D S B A)
  scale_offset_inverse m =
      let u = div 𝟙 m.sx in
      let v = div 𝟙 m.sy in
      cond (eq m.sx 𝟘 || eq m.sy 𝟘) None (Some (scale_offset u v (neg m.tx ⊗ u) (neg m.ty ⊗ v) m.dst m.src))

  -- the images of the minimum and the maximum, exchanged in a coordinate whose scale is below zero
  abbrev pub scale_offset_box : (S → S → Bool) → {A B : Type 0} → ScaleOffset2D S A B → Box2D S A → Box2D S B
  scale_offset_box less m b =
      let p = scale_offset_point m b.min in
      let q = scale_offset_point m b.max in
      let x = less m.sx 𝟘 in
      let y = less m.sy 𝟘 in
      box2 (point2 (cond x q.x p.x) (cond y q.y p.y) m.dst) (point2 (cond x p.x q.x) (cond y p.y q.y) m.dst)
