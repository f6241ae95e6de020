-- All that a judgement asks of the past. Each question tests the layer first. Histories have the latest first.
use Rattle.std.specs.Prelude.{ℕ, Bool, false, ◌&&◌, ◌||◌, List, [], map, length, Option, option_map, if◌then◌else◌}
use Rattle.std.specs.List.{filter, find, list_all}
use Rattle.mv_history.specs.History.{from}
use Rattle.mv_syntax.specs.Words.{◌otherwise◌}
use Rattle.mv_pictures.specs.Layers.{directs}
use Rattle.mv_pictures.specs.Facts.{Fact}
use Rattle.mv_pictures.specs.SliceFields.{active_layers}
use Rattle.mv_pictures.specs.Judged.{Judged, layer, vps_at, is_slice, is_picture, is_end, of_layer, begins, starts, resets}

-- what came since the base picture that starts the latest sequence, with it
unfoldable pub sequence : List Judged → List Judged
sequence past = from begins past

-- layer n is initialised behind these units: it has a start, and no reset of it stands behind the latest one (8.1.3, F.8.1.3)
unfoldable pub initialised : List Judged → ℕ → Bool
initialised past n = option_map (starts n) (find (λ d. starts n d || resets n d) past) otherwise false

-- of layer 0 the latest picture or end, and the latest picture; the base picture that starts the latest sequence, and how
-- many sequences have been started; whether the unit's layer is initialised, and whether all its direct reference layers
-- are; the units of its layer in the sequence, and those of each of its active reference layers
pub record Look : Type 0 where
  pub border : Option Judged
  pub base : Option Judged
  pub root : Option Judged
  pub seqs : ℕ
  pub here : Bool
  pub ready : Bool
  pub own : List Judged
  pub across : List (List Judged)

abbrev pub in_sequence : List Judged → ℕ → List Judged
in_sequence past n = filter (of_layer n) (sequence past)

unfoldable pub look : List Judged → Fact → Look
look past p = record {
  border = find (λ d. of_layer 0 d && (is_picture d.fact || is_end d.fact)) past;
  base = find (λ d. of_layer 0 d && is_picture d.fact) past;
  root = find begins past;
  seqs = length (filter begins past);
  here = initialised past (layer p);
  ready = list_all (initialised past) (directs (vps_at p) (layer p));
  own = in_sequence past (layer p);
  across = map (in_sequence past) (active_layers p);
}

-- only slice segments ask
unfoldable pub asked : List Judged → Fact → List Judged
asked past p = if is_slice p then past else []
