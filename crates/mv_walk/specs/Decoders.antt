-- What is kept of a stream's pictures, and what it stands for (8.3, C.5.2, F.8.3). Histories have the latest first.
use Rattle.std.specs.Prelude.{ℕ, ℤ, ◌<◌, ◌≤◌, ◌≡◌, ⊤, Bool, true, false, List, length, Option, Some, None, is_some, option_map, option_and_then, get_or, nat_eq, Result, Ok, Err, if◌then◌else◌}
use Rattle.std.specs.Option.{IfSome}
use Rattle.std.specs.List.{filter}
use Rattle.mv_syntax.specs.Words.{◌otherwise◌}
use Rattle.mv_io.specs.Faults.{Rose}
use Rattle.mv_vps.specs.Vps.{WholeVps}
use Rattle.mv_pictures.specs.Counts.{count}
use Rattle.mv_pictures.specs.Facts.{Fact}
use Rattle.mv_pictures.specs.Judged.{Judged, begins}
use Rattle.mv_pictures.specs.Look.{look}
use Rattle.mv_au.specs.States as states
use Rattle.mv_reflists.specs.Sizes.{total}
use Rattle.mv_walk_layer.specs.LayerValue.{LayerValue, no_pictures}
use Rattle.mv_walk_layer.specs.Standing.{within}
use Rattle.mv_walk_layer.specs.Standing as layers
use Rattle.mv_walk_order.specs.Orders as orders
use Rattle.mv_walk_segment.specs.Open as open_picture
use Rattle.mv_walk_segment.specs.OpenValue.{OpenValue}
use Rattle.mv_walk_segment.specs.Serving.{IsServing}
use Rattle.mv_walk_segment.specs.Taken.{AreShort}
use Rattle.mv_walk_sets.specs.InForce.{VpsInForceValue}
use Rattle.mv_walk.specs.declared.decoder.Decoder.{Decoder}
use Rattle.mv_walk.specs.declared.ending.Stop.{Stop}
use Rattle.mv_walk.specs.declared.making.Making.{Making}

-- ---- What is kept

-- of the picture in the making its count and its access unit, where it is of layer n
abbrev pub made_in : {R W P : Type 0} → ℕ → Making R W P → Option (ℤ × ℕ)
made_in n m = if nat_eq m.shown.layer n then Some (m.shown.count, m.au) else None

abbrev pub in_making : {R W P : Type 0} → Option (Making R W P) → ℕ → Option (ℤ × ℕ)
in_making making n = option_and_then (made_in n) making

-- what is kept of a layer
abbrev pub layer_at : {P : Type 0} → List (LayerValue P) → ℕ → LayerValue P
layer_at kept n = get_or kept n no_pictures

-- the count of the latest base picture, where it has one within 32 bits
abbrev pub base_count : List Judged → Fact → Option ℤ
base_count past p = within (option_and_then (λ (b : Judged). b.count) (look past p).base)

-- what is kept of the pictures of a history beside the states of layers: each layer's pictures with the one in the making, the order
-- of output, the count of the latest base picture, and how many pictures were decoded and sequences started
pub record KeepsPictures {R W P : Type 0} (d : Decoder R W P) (past : List Judged) (making : Option (Making R W P)) : Type 0 where
  pub all : length d.layers.items ≡ 64
  pub layers_are : (n : ℕ) → n < 64 → layers.Stands (layer_at d.layers.items n) past n (in_making making n)
  pub order_is : orders.Stands d.order past
  pub base_is : (p : Fact) → base_count past p ≡ d.base_count
  pub pictures_are : d.pictures ≡ length (filter (λ (q : Judged). q.decoded) past)
  pub sequences_are : d.sequences ≡ length (filter begins past)
  pub in_layer : IfSome making (λ m. m.shown.layer < 64)

-- the same with the states of layers
pub record Keeps {R W P : Type 0} (d : Decoder R W P) (past : List Judged) (making : Option (Making R W P)) : Type 0 where
  pub states_are : states.Stands d.states past
  pub pictures : KeepsPictures d past making

-- the latest picture of access unit `unit`, where the access unit has one, with what serves it by the video parameter set in force
pub record IsOpen (vps : WholeVps) (picture : Option OpenValue) (past : List Judged) (unit : ℕ) : Type 0 where
  pub stands : open_picture.Stands vps picture past unit
  pub serving : IfSome picture (λ it. IsServing vps it.head it.served)
  pub few : IfSome picture (λ it. IfSome it.decoded (λ decoded. (total decoded.sizes ≤ 255) × AreShort decoded.lists))

-- before the first video parameter set there is no picture
abbrev pub Opens : Option VpsInForceValue → Option OpenValue → List Judged → ℕ → Type 0
Opens None picture past unit = picture ≡ None
Opens (Some v) picture past unit = IsOpen v.value picture past unit

-- a picture is in the making exactly while a decoded one is open
abbrev pub is_decoded_open : Option OpenValue → Bool
is_decoded_open picture = option_map (λ (it : OpenValue). is_some it.decoded) picture otherwise false

-- what is kept stands for a history whose latest unit is of an access unit
pub record DecoderStands {R W P : Type 0} (d : Decoder R W P) (vps : Option VpsInForceValue) (past : List Judged) (unit : ℕ) : Type 0 where
  pub keeps : Keeps d past d.making
  pub open_is : Opens vps d.picture past unit
  pub made : is_some d.making ≡ is_decoded_open d.picture

-- the latest picture is whole: none is open
pub record IsClosed {R W P : Type 0} (d : Decoder R W P) (past : List Judged) : Type 0 where
  pub keeps : Keeps d past None
  pub none_open : d.picture ≡ None
  pub none_made : d.making ≡ None

-- what is kept stands for some history
pub record HasHistory {R W P : Type 0} (d : Decoder R W P) (making : Option (Making R W P)) : Type 0 where
  pub past : List Judged
  pub keeps : Keeps d past making

-- ---- Steps between pictures

-- all is as it was but the pictures that wait for their output
abbrev pub IsButQueue : {R W P : Type 0} → Decoder R W P → Decoder R W P → Type 0
IsButQueue old new = new ≡ record old { queue = new.queue }

-- a picture is whole now
abbrev pub Closes : {R W P : Type 0} → Decoder R W P → Decoder R W P → Type 0
Closes old new = (past : List Judged) → Keeps old past old.making → IsClosed new past

-- where a unit begins an access unit, the picture before is whole
abbrev pub Between : {R W P : Type 0} → Bool → Decoder R W P → Decoder R W P → Type 0
Between true old new = Closes old new
Between false old new = new ≡ old

-- a call over a viewer: its count of faults never falls, and the viewer failed only where it rose
pub record HasViewCause {T : Type 0} (before now : ℕ) (result : Result T Stop) : Type 0 where
  pub never_falls : before ≤ now
  pub rose : result ≡ Err Stop.View → Rose before now

-- an answer other than Ok is a fault of the viewer or want of memory
abbrev pub BreaksNothing : {T : Type 0} → Result T Stop → Type 0
BreaksNothing (Ok done) = ⊤
BreaksNothing (Err (Stop.Breaks rule)) = ⊥
BreaksNothing (Err (Stop.Lacks asked count)) = ⊥
BreaksNothing (Err Stop.View) = ⊤
BreaksNothing (Err Stop.Memory) = ⊤
