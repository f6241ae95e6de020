-- What the calls are handed, as part of a stream.
use Rattle.std.specs.Prelude.{◌≡◌, ℕ, List, map, Some, is_some}
use Rattle.mv_slice.specs.declared.slice.SliceFull.{SliceFull}
use Rattle.mv_slice.specs.Context.{SliceContextValue}
use Rattle.mv_pictures.specs.AccessUnits.{Placed}
use Rattle.mv_pictures.specs.Layers.{view}
use Rattle.mv_pictures.specs.Facts.{Fact, fact}
use Rattle.mv_pictures.specs.SliceFields.{full_of, active_layers}
use Rattle.mv_pictures.specs.Judged.{Judged, vps_at}
use Rattle.mv_pictures.specs.Look.{in_sequence}
use Rattle.mv_pictures.specs.References.{decoded_in}
use Rattle.mv_reflists.specs.declared.inter_layer_sets.Active2.{Active2}

-- a slice segment behind others, with a full header and what it takes from its parameter sets
pub record IsSegment (p : Fact) (ctx : SliceContextValue) (full : SliceFull) : Type 0 where
  pub past : List Fact
  pub placed : Placed
  pub is : p ≡ fact past placed
  pub context : p.context ≡ Some ctx
  pub header : full_of p ≡ Some full

-- an active reference layer of a picture, and all of them
unfoldable pub active2 : List Judged → Fact → ℕ → Active2
active2 past p layer = record {
  layer = layer;
  view = view (vps_at p) layer;
  here = is_some (decoded_in p (in_sequence past layer));
}

abbrev pub actives : List Judged → Fact → List Active2
actives past p = map (active2 past p) (active_layers p)
