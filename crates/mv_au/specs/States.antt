-- What the states of layers stand for, and what is answered of a picture (8.1.3, 8.3.1, F.8.1.3; layers above 0 by this
-- project's profile). Histories have the latest first.
use Rattle.std.specs.Prelude.{◌≡◌, ℕ, Bool, true, false, ◌||◌, List, length, get_or, Some, option_map, Result, Ok, Err, nat_eq, if◌then◌else◌}
use Rattle.mv_syntax.specs.Words.{◌otherwise◌}
use Rattle.mv_rules.specs.declared.rule.Rule.{Rule}
use Rattle.mv_vps.specs.Vps.{WholeVps}
use Rattle.mv_pictures.specs.Layers.{whole}
use Rattle.mv_pictures.specs.Facts.{Fact}
use Rattle.mv_pictures.specs.SliceFields.{entries}
use Rattle.mv_pictures.specs.Judged.{Judged, au, in_au, is_end, is_layer_end, is_picture, kind, layer, vps_at}
use Rattle.mv_pictures.specs.Look.{Look, initialised, look}
use Rattle.mv_pictures.specs.Starts.{follows_start, is_anew, is_skipped, is_start}
use Rattle.mv_pictures.specs.PictureRules.{no_irap}
use Rattle.mv_au.specs.declared.states.PicFacts.{PicFacts}
use Rattle.mv_au.specs.declared.states.PicState.{PicState}
use Rattle.mv_au.specs.LayerState.{no_state}
use Rattle.mv_au.specs.StatesValue.{StatesValue}

-- what becomes of a picture
unfoldable pub state_of : Look → Fact → PicState
state_of l p = if is_start l p then PicState.Start else if is_skipped l p then PicState.Skipped else PicState.Decoded

abbrev pub is_started : PicState → Bool
is_started PicState.Start = true
is_started PicState.Decoded = false
is_started PicState.Skipped = false

-- it, or the refusal of a base picture that starts a sequence and isn't an IRAP picture
unfoldable pub answer : List Judged → Fact → Result PicState Rule
answer past p = if no_irap (look past p) p then Err Rule.NoIrap else Ok (state_of (look past p) p)

-- a picture as it is asked of, with the video parameter set in force at it; one of a layer above 0 stands in the access unit of
-- the latest picture of layer 0
pub record IsAsked (vps : WholeVps) (pic : PicFacts) (past : List Judged) (p : Fact) : Type 0 where
  pub picture : is_picture p ≡ true
  pub layer_is : pic.layer ≡ layer p
  pub kind_is : pic.kind ≡ kind p
  pub entries_are : pic.entries ≡ length (entries p)
  pub vps_is : whole (vps_at p) ≡ Some vps
  pub base : nat_eq (layer p) 0 ≡ false → option_map (in_au (au p)) (look past p).base ≡ Some true

-- the end of a sequence in this layer, or of the bitstream in layer 0
pub record IsEndOf (n : ℕ) (p : Fact) : Type 0 where
  pub layer_is : layer p ≡ n
  pub ends : (is_end p || is_layer_end p) ≡ true

-- states stand for a history: what is kept is what every look at it tells
pub record Stands (s : StatesValue) (past : List Judged) : Type 0 where
  pub all : length s.layers ≡ 64
  pub anew : (p : Fact) → is_anew (look past p) ≡ s.anew
  pub in_first_au : (p : Fact) → (option_map (λ (d : Judged). d.seq) (look past p).base otherwise false) ≡ s.in_first_au
  pub initialised_are : (n : ℕ) → (get_or s.layers n no_state).initialised ≡ initialised past n
  pub after_starts : (p : Fact) → (get_or s.layers (layer p) no_state).after_start ≡ follows_start (look past p)
