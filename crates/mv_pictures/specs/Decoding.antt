-- What the units of a stream decode to, and what is put out of it for an output layer set. At this border units stand in the
-- order of the stream, and are given by their bytes.
use Rattle.std.specs.Prelude.{ℕ, ℤ, Bool, List, map, reverse}
use Rattle.std.specs.List.{filter}
use Rattle.mv_history.specs.Order.{sorted}
use Rattle.mv_pictures.specs.Layers.{view}
use Rattle.mv_pictures.specs.SliceFields.{is_put_out}
use Rattle.mv_pictures.specs.Terms.{Term}
use Rattle.mv_pictures.specs.Judged.{Judged, layer, au, vps_at, of_layer}
use Rattle.mv_pictures.specs.References.{term_in}
use Rattle.mv_pictures.specs.History.{history_of}
use Rattle.mv_pictures.specs.Output.{is_output, is_before, count_of}

-- a decoded picture: the numbers of its sequence and its access unit, nuh_layer_id, ViewId, whether it may be put out
-- (pic_output_flag), PicOrderCntVal, and its term
pub record Decoded : Type 0 where
  pub sequence : ℕ
  pub au : ℕ
  pub layer : ℕ
  pub view : ℕ
  pub output : Bool
  pub count : ℤ
  pub term : Term

-- a picture of a history
unfoldable pub decoded_of : List Judged → Judged → Decoded
decoded_of all d = record {
  sequence = d.sequence;
  au = au d.fact;
  layer = layer d.fact;
  view = view (vps_at d.fact) (layer d.fact);
  output = is_put_out d.fact;
  count = count_of d;
  term = term_in (filter (of_layer (layer d.fact)) all) d;
}

-- all decoded pictures of all layers, in the order of the stream
unfoldable pub decode_history : List Judged → List Decoded
decode_history all = reverse (map (decoded_of all) (filter (λ (d : Judged). d.decoded) all))

unfoldable pub decode : List (List ℕ) → List Decoded
decode us = decode_history (history_of us)

-- the output pictures of set o, in output order
unfoldable pub out_history : List Judged → ℕ → List Decoded
out_history all o = map (decoded_of all) (sorted is_before (filter (is_output o) all))

unfoldable pub out : List (List ℕ) → ℕ → List Decoded
out us o = out_history (history_of us) o
