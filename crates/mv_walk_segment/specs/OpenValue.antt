-- A picture with what its later segments have to agree with, as contracts see it.
use Rattle.std.specs.Prelude.{ℕ, List, Option}
use Rattle.mv_units.specs.declared.head.UnitHead.{UnitHead}
use Rattle.mv_slice.specs.declared.slice.SliceHead.{SliceHead}
use Rattle.mv_pictures.specs.Terms.{Lists}
use Rattle.mv_sets.specs.Sets.{ActiveValue}
use Rattle.mv_reflists.specs.declared.sizes.Sizes.{Sizes}

-- what serves a slice segment: its parameter sets, and the numbers of the direct reference layers that it may refer to
pub record ServedValue : Type 0 where
  pub active : ActiveValue
  pub eligible : List ℕ

-- of a decoded picture how many references it has of each part, and the lists of its latest segment
pub record DecodedValue : Type 0 where
  pub sizes : Sizes
  pub lists : Lists

-- the head of its first segment's unit, what serves that, its header, the address of the latest segment, and where the picture
-- is decoded its references and lists
pub record OpenValue : Type 0 where
  pub head : UnitHead
  pub served : ServedValue
  pub first : SliceHead
  pub address : ℕ
  pub decoded : Option DecodedValue
