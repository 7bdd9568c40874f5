-- Between the three kinds of transform. Assumes nothing.
use Rattle.scalar.specs.Ops.{Ops}
use Rattle.transform3d.specs.declared.types.Transform3D.{Transform3D}
use Rattle.transform3d.specs.Solids.{solid_2d}
use Rattle.transform2d.specs.declared.types.ScaleOffset2D.{ScaleOffset2D}
use Rattle.transform2d.specs.declared.types.Transform2D.{Transform2D}
use Rattle.transform2d.specs.Flats.{flat}
use Rattle.transform2d.specs.ScaleOffsets.{scale_offset}

module _ {S A B : Type 0} (o : Ops S) where
  -- wider, with the same images
  abbrev pub flat_of : ScaleOffset2D S A B → Transform2D S A B
  flat_of m = flat
      m.sx o.zero
      o.zero m.sy
      m.tx m.ty
      m.src m.dst

  abbrev pub solid_of : Transform2D S A B → Transform3D S A B
  solid_of m = solid_2d o
      m.m11 m.m12
      m.m21 m.m22
      m.m31 m.m32
      m.src m.dst

  abbrev pub solid_of_scale_offset : ScaleOffset2D S A B → Transform3D S A B
  solid_of_scale_offset m = solid_2d o
      m.sx o.zero
      o.zero m.sy
      m.tx m.ty
      m.src m.dst

-- narrower, whatever the entries that are left out
module _ {S A B : Type 0} where
  abbrev pub flat_part : Transform3D S A B → Transform2D S A B
  flat_part m = flat m.m11 m.m12 m.m21 m.m22 m.m41 m.m42 m.src m.dst

  abbrev pub scale_offset_part : Transform3D S A B → ScaleOffset2D S A B
  scale_offset_part m = scale_offset m.m11 m.m22 m.m41 m.m42 m.src m.dst

  abbrev pub scale_offset_of : Transform2D S A B → ScaleOffset2D S A B
  scale_offset_of m = scale_offset m.m11 m.m22 m.m31 m.m32 m.src m.dst
