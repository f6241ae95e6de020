-- How the states of layers go on by what is asked of a picture.
use Rattle.std.specs.Prelude.{ℕ, Bool, false, not, ◌&&◌, ◌||◌, List, get_or, replicate, slice_set, nat_eq, if◌then◌else◌}
use Rattle.std.specs.List.{list_all}
use Rattle.mv_layers.specs.LayerInfos.{directs_of}
use Rattle.mv_vps.specs.Vps.{WholeVps}
use Rattle.mv_slice.specs.Numbers.{is_idr, is_irap}
use Rattle.mv_pictures.specs.Kinds.{is_bla, is_rasl}
use Rattle.mv_au.specs.declared.states.Asked.{Asked}
use Rattle.mv_au.specs.declared.states.LayerState.{LayerState}
use Rattle.mv_au.specs.declared.states.PicFacts.{PicFacts}
use Rattle.mv_au.specs.declared.states.PicState.{PicState}
use Rattle.mv_au.specs.LayerState.{no_state}
use Rattle.mv_au.specs.StatesValue.{StatesValue}

abbrev pub all_initialised : List LayerState → List ℕ → Bool
all_initialised layers directs = list_all (λ n. (get_or layers n no_state).initialised) directs

abbrev pub asked_by : StatesValue → WholeVps → PicFacts → Asked
asked_by s vps pic = record {
  base = nat_eq pic.layer 0;
  kind = pic.kind;
  anew = s.anew;
  in_first_au = s.in_first_au;
  ready = all_initialised s.layers (directs_of vps.derived.layers pic.layer);
  state = get_or s.layers pic.layer no_state;
  entries = pic.entries;
}

abbrev pub is_without_irap : Asked → Bool
is_without_irap a = a.base && a.anew && not (is_irap a.kind)

abbrev pub starts_layer : Asked → Bool
starts_layer a =
    a.ready
    && ((is_idr a.kind || is_bla a.kind) || (is_irap a.kind && not a.state.initialised) || (a.in_first_au && not a.state.initialised && nat_eq a.entries 0))

-- a start of its layer, and a reset of it
unfoldable pub is_start : Asked → Bool
is_start a = if a.base then (is_idr a.kind || is_bla a.kind) || a.anew else starts_layer a

unfoldable pub is_reset : Asked → Bool
is_reset a = not a.base && ((is_idr a.kind || is_bla a.kind) && a.state.initialised && not (is_start a))

unfoldable pub is_skipped : Asked → Bool
is_skipped a = not (is_start a) && (not a.state.initialised || is_reset a || (is_rasl a.kind && a.state.after_start))

abbrev pub state_of : Asked → PicState
state_of a = if is_start a then PicState.Start else if is_skipped a then PicState.Skipped else PicState.Decoded

-- the state of the picture's layer behind it, and of all layers
abbrev pub behind : Asked → LayerState
behind a = record {
  initialised = is_start a || (a.state.initialised && not (is_reset a));
  after_start = if is_irap a.kind || is_start a then is_start a else a.state.after_start;
}

-- a base picture that starts a sequence leaves no state before its own
abbrev pub layers_before : StatesValue → Asked → List LayerState
layers_before s a = if a.base && is_start a then replicate 64 no_state else s.layers

abbrev pub with_picture : StatesValue → ℕ → Asked → StatesValue
with_picture s layer a = record {
  layers = slice_set (layers_before s a) layer (behind a);
  anew = if a.base then false else s.anew;
  in_first_au = if a.base then is_start a else s.in_first_au;
}
