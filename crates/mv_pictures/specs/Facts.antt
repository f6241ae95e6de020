-- Facts: what each unit carries, and of a slice segment the parameter sets that serve it and its header. Behind them
-- nothing asks for bits. Histories have the latest first.
use Rattle.std.specs.Prelude.{ℕ, Bool, false, not, ◌&&◌, List, Option, Some, None, option_map, option_and_then, nat_eq, Result, Ok, Err, if◌then◌else◌}
use Rattle.std.specs.List.{find}
use Rattle.mv_history.specs.History.{run, since}
use Rattle.mv_syntax.specs.Bits.{Fault, byte_bits}
use Rattle.mv_syntax.specs.inner.Reader.{read}
use Rattle.mv_syntax.specs.Words.{◌otherwise◌}
use Rattle.mv_units.specs.Escapes.{payload}
use Rattle.mv_common.specs.declared.format.Format.{Format}
use Rattle.mv_layers.specs.OutputLayers.{is_among}
use Rattle.mv_vps.specs.Vps.{WholeVps}
use Rattle.mv_sps.specs.Sps.{SpsValue}
use Rattle.mv_pps.specs.Pps.{PpsValue}
use Rattle.mv_slice.specs.declared.opening.SliceOpening.{SliceOpening}
use Rattle.mv_slice.specs.declared.slice.SliceHead.{SliceHead}
use Rattle.mv_slice.specs.Context.{SliceContextValue}
use Rattle.mv_slice.specs.Slice.{slice_header}
use Rattle.mv_pictures.specs.Kinds.{is_sps_kind, is_pps_kind}
use Rattle.mv_pictures.specs.Carried.{Carried, value_of, carried_sps, carried_pps}
use Rattle.mv_pictures.specs.Layers.{InForce, whole, closure}
use Rattle.mv_pictures.specs.Items.{Item, is_known, is_slice, is_picture, turns}
use Rattle.mv_pictures.specs.AccessUnits.{Placed, is_own_picture}
use Rattle.mv_pictures.specs.Contexts.{format_of, slice_context}

-- the parameter sets that serve a slice segment, with the format that they give
pub record Sets : Type 0 where
  pub pps : Option (Carried PpsValue)
  pub sps : Option (Carried SpsValue)
  pub format : Option Format

-- a unit; of a sequence or a picture parameter set what it carries; of a slice segment its sets, what its header takes
-- from them, and its header or the fault that stands there; what a unit hasn't is None
pub record Fact : Type 0 where
  pub placed : Placed
  pub sps_unit : Option (Carried SpsValue)
  pub pps_unit : Option (Carried PpsValue)
  pub sets : Sets
  pub context : Option SliceContextValue
  pub header : Option (Result SliceHead Fault)

-- ---- Sets in reach (7.4.1.4.1, F.7.4.1.4.1; by closures in this project's profile)

-- vps_max_sub_layers_minus1, which a sequence parameter set takes
abbrev pub max_sub_layers : InForce → ℕ
max_sub_layers at = option_map (λ (v : WholeVps). v.coded.0.base.opening.vps_max_sub_layers_minus1) (whole at) otherwise 0

unfoldable pub sps_of_unit : Item → Option (Carried SpsValue)
sps_of_unit i = if is_known i && is_sps_kind i.head.kind then Some (carried_sps (max_sub_layers i.at) i.head i.bytes) else None

unfoldable pub pps_of_unit : Item → Option (Carried PpsValue)
pps_of_unit i = if is_known i && is_pps_kind i.head.kind then Some (carried_pps i.head i.bytes) else None

-- ids
abbrev pub has_pps_id : ℕ → PpsValue → Bool
has_pps_id id v = nat_eq v.opening.pps_pic_parameter_set_id id

abbrev pub has_sps_id : ℕ → SpsValue → Bool
has_sps_id id v = nat_eq v.opening.sps_seq_parameter_set_id id

-- a set is in reach of a layer: its own layer is in the layer's closure, and it has the id
unfoldable pub is_seen : {A : Type 0} → InForce → ℕ → (A → Bool) → Option (Carried A) → Bool
is_seen at layer has_id unit =
    option_map (λ c. is_among (closure at layer) c.layer && (option_map has_id (value_of c) otherwise false)) unit otherwise false

-- a changed video parameter set puts all earlier sets out of reach
abbrev pub turned : Fact → Bool
turned f = turns f.placed.item

-- the latest picture parameter set in reach with an id, and the latest sequence parameter set
unfoldable pub seen_pps : List Fact → InForce → ℕ → ℕ → Option (Carried PpsValue)
seen_pps past at layer id =
    option_and_then (λ (f : Fact). f.pps_unit) (find (λ (f : Fact). is_seen at layer (has_pps_id id) f.pps_unit) (since turned past))

unfoldable pub seen_sps : List Fact → InForce → ℕ → ℕ → Option (Carried SpsValue)
seen_sps past at layer id =
    option_and_then (λ (f : Fact). f.sps_unit) (find (λ (f : Fact). is_seen at layer (has_sps_id id) f.sps_unit) (since turned past))

-- ---- The sets of a slice segment

-- slice_pic_parameter_set_id
abbrev pub pps_id : Placed → Option ℕ
pps_id p = option_map (λ (o : SliceOpening). o.slice_pic_parameter_set_id) p.item.opening

abbrev pub same_pps_id : Placed → Placed → Bool
same_pps_id p q = option_map (λ a. option_map (nat_eq a) (pps_id q) otherwise false) (pps_id p) otherwise false

-- the picture to which a segment belongs that isn't a first one, if it has one
unfoldable pub own_picture : List Fact → Placed → Option Fact
own_picture past p =
    let latest : Option Fact = find (λ (f : Fact). is_picture f.placed.item) past in
    option_and_then (λ (f : Fact). if not (is_picture p.item) && is_own_picture p f.placed then Some f else None) latest

-- the picture whose sets serve such a segment: its own, where it names the same picture parameter set
unfoldable pub served_by : List Fact → Placed → Option Fact
served_by past p = option_and_then (λ (f : Fact). if same_pps_id p f.placed then Some f else None) (own_picture past p)

-- the sets that a segment names by itself: the picture parameter set, the sequence parameter set that this names, and the
-- format, each where there is one
abbrev pub named_pps : List Fact → Placed → Option (Carried PpsValue)
named_pps past p = option_and_then (seen_pps past p.item.at p.item.head.layer) (pps_id p)

abbrev pub named_sps : List Fact → Placed → Option (Carried PpsValue) → Option (Carried SpsValue)
named_sps past p pps =
    option_and_then (λ (v : PpsValue). seen_sps past p.item.at p.item.head.layer v.opening.pps_seq_parameter_set_id) (option_and_then value_of pps)

abbrev pub named_format : Placed → Option (Carried SpsValue) → Option Format
named_format p sps =
    option_and_then (λ (vps : WholeVps). option_and_then (format_of vps p.item.head.layer) (option_and_then value_of sps)) (whole p.item.at)

unfoldable pub named_sets : List Fact → Placed → Sets
named_sets past p =
    let picture_set : Option (Carried PpsValue) = named_pps past p in
    let sequence_set : Option (Carried SpsValue) = named_sps past p picture_set in
    record { pps = picture_set; sps = sequence_set; format = named_format p sequence_set }

abbrev pub no_sets : Sets
no_sets = record { pps = None; sps = None; format = None }

-- of a slice segment those of the picture that serves it, or else those that it names
unfoldable pub sets_of : List Fact → Placed → Sets
sets_of past p =
    if not (is_slice p.item) then no_sets
    else (option_map (λ (f : Fact). f.sets) (served_by past p) otherwise named_sets past p)

-- ---- The header of a slice segment

-- what its header takes from the sets, where none lacks
unfoldable pub context_of : Placed → Sets → Option SliceContextValue
context_of p s =
    option_and_then (λ vps.
    option_and_then (λ format.
    option_and_then (λ sps.
    option_map (slice_context vps p.item.head format sps) (option_and_then value_of s.pps))
    (option_and_then value_of s.sps))
    s.format)
    (whole p.item.at)

unfoldable pub header_of : Item → SliceContextValue → Result SliceHead Fault
header_of i ctx = elim (read (slice_header ctx i.head.kind) (byte_bits (payload i.bytes))) [ Ok x ↦ Ok x.0 | Err fault ↦ Err fault ]

-- ---- Facts

unfoldable pub fact : List Fact → Placed → Fact
fact past p =
    let serving : Sets = sets_of past p in
    let ctx : Option SliceContextValue = context_of p serving in
    record {
      placed = p;
      sps_unit = sps_of_unit p.item;
      pps_unit = pps_of_unit p.item;
      sets = serving;
      context = ctx;
      header = option_map (header_of p.item) ctx;
    }

unfoldable pub facts : List Placed → List Fact
facts us = run fact us
