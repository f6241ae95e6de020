-- Which rules are tried on each kind of unit: those that can hold of it, in rising order of their numbers (this project's
-- profile). Histories have the latest first.
use Rattle.std.specs.Prelude.{Bool, not, ◌&&◌, List, [], ◌∷◌, ◌++◌, map, Option, option_map, if◌then◌else◌}
use Rattle.std.specs.List.{find}
use Rattle.mv_rules.specs.declared.rule.Rule.{Rule}
use Rattle.mv_units.specs.Rules.{bad_head}
use Rattle.mv_pictures.specs.Kinds.{is_pps_kind, is_slice_kind, is_sps_kind}
use Rattle.mv_pictures.specs.Items.{Item, is_first_segment, is_known, is_vps}
use Rattle.mv_pictures.specs.AccessUnits.{Placed, layer_order, no_base, orphan_slice, tid_differs}
use Rattle.mv_pictures.specs.Facts.{Fact}
use Rattle.mv_pictures.specs.Judged.{Judged}
use Rattle.mv_pictures.specs.Look.{Look, asked, look}
use Rattle.mv_pictures.specs.UnitRules.{is_new_vps, no_vps, pps_rules, set_fails, set_is_cut, sps_rules, sps_tid, vps_rules, vps_tid}
use Rattle.mv_pictures.specs.SliceRules.{address_order, cross_layer_bla, missing_pps, missing_sps, slice_differs, slice_syntax}
use Rattle.mv_pictures.specs.PictureRules.{collocated, list_entry, no_refs, vps_mid_cvs}
use Rattle.mv_pictures.specs.Rules.{Case, case, output_cases, picture_cases}

-- ---- What a unit is to the rules

-- a stray; a video parameter set of layer 0; a sequence and a picture parameter set; the first slice segment of a picture; a
-- slice segment that isn't a first one, or whose first fields don't read; and any other unit
pub data Role : Type 0 where
  stray : Role
  video_set : Role
  sequence_set : Role
  picture_set : Role
  first : Role
  later : Role
  passed : Role

-- by whether it is a video parameter set, is known, is a slice segment, a first one, a sequence and a picture parameter set
abbrev pub role : Bool → Bool → Bool → Bool → Bool → Bool → Role
role is_video known slice begins is_sequence is_picture =
    if is_video then video_set
    else (if not known then stray
    else (if slice then (if begins then first else later)
    else (if is_sequence then sequence_set
    else (if is_picture then picture_set
    else passed))))

unfoldable pub role_of : Item → Role
role_of i = role (is_vps i) (is_known i) (is_slice_kind i.head.kind) (is_first_segment i.opening) (is_sps_kind i.head.kind) (is_pps_kind i.head.kind)

-- ---- The cases that are tried

-- the rule of the first case that holds
unfoldable pub first_of : List Case → Option Rule
first_of cs = option_map (λ (c : Case). c.rule) (find (λ (c : Case). c.holds) cs)

-- on every unit
unfoldable pub head_cases : Item → List Case
head_cases i = case Rule.Head (bad_head i.bytes) ∷ []

-- on each but strays and video parameter sets
unfoldable pub known_cases : Item → List Case
known_cases i = case Rule.Head (bad_head i.bytes) ∷ case Rule.NoVps (no_vps i) ∷ []

unfoldable pub video_set_cases : Item → List Case
video_set_cases i =
    (case Rule.Head (bad_head i.bytes)
    ∷ case Rule.VpsSyntax (is_new_vps i && set_fails i.at)
    ∷ map (λ r. case r (is_new_vps i && set_is_cut r i.at)) vps_rules)
    ++ (case Rule.VpsTid (vps_tid i) ∷ [])

unfoldable pub sequence_set_cases : Fact → List Case
sequence_set_cases p =
    (case Rule.SpsSyntax (set_fails p.sps_unit)
    ∷ map (λ r. case r (set_is_cut r p.sps_unit)) sps_rules)
    ++ (case Rule.SpsTid (sps_tid p.placed.item)
    ∷ case Rule.SpsLimit (set_is_cut Rule.SpsLimit p.sps_unit)
    ∷ [])

unfoldable pub picture_set_cases : Fact → List Case
picture_set_cases p = case Rule.PpsSyntax (set_fails p.pps_unit) ∷ map (λ r. case r (set_is_cut r p.pps_unit)) pps_rules

-- on slice segments, by their sets and their header
unfoldable pub segment_cases : Fact → List Case
segment_cases p =
    case Rule.MissingPps (missing_pps p)
    ∷ case Rule.MissingSps (missing_sps p)
    ∷ case Rule.SliceSyntax (slice_syntax p)
    ∷ case Rule.CrossLayerBla (cross_layer_bla p)
    ∷ []

-- on first ones, by their access unit
unfoldable pub first_cases : List Placed → Fact → List Case
first_cases earlier p =
    case Rule.NoBase (no_base earlier p.placed)
    ∷ case Rule.LayerOrder (layer_order earlier p.placed)
    ∷ case Rule.TidDiffers (tid_differs earlier p.placed)
    ∷ []

-- on later ones, by their picture
unfoldable pub later_cases : List Fact → Fact → List Case
later_cases past p =
    let earlier : List Placed = map (λ (f : Fact). f.placed) past in
    case Rule.NoBase (no_base earlier p.placed)
    ∷ case Rule.OrphanSlice (orphan_slice earlier p.placed)
    ∷ case Rule.SliceDiffers (slice_differs past p)
    ∷ case Rule.AddressOrder (address_order past p)
    ∷ []

-- on all, by their lists
unfoldable pub list_cases : Look → Fact → List Case
list_cases l p = case Rule.ListEntry (list_entry l p) ∷ case Rule.NoRefs (no_refs l p) ∷ case Rule.Collocated (collocated l p) ∷ []

unfoldable pub mid_cases : List Placed → Look → Fact → List Case
mid_cases earlier l p = case Rule.VpsMidCvs (vps_mid_cvs earlier l p) ∷ []

-- all that are tried on a unit behind others
unfoldable pub tried_as : Role → List Judged → Judged → List Case
tried_as r past d =
    let p : Fact = d.fact in
    let past_facts : List Fact = map (λ (e : Judged). e.fact) past in
    let earlier : List Placed = map (λ (f : Fact). f.placed) past_facts in
    let seen : Look = look (asked past p) p in
    elim r [
      | stray ↦ head_cases p.placed.item
      | video_set ↦ video_set_cases p.placed.item
      | sequence_set ↦ known_cases p.placed.item ++ sequence_set_cases p
      | picture_set ↦ known_cases p.placed.item ++ picture_set_cases p
      | first ↦
          ((((known_cases p.placed.item
          ++ segment_cases p)
          ++ first_cases earlier p)
          ++ picture_cases seen p)
          ++ output_cases past d)
          ++ mid_cases earlier seen p
      | later ↦ ((known_cases p.placed.item ++ segment_cases p) ++ later_cases past_facts p) ++ list_cases seen p
      | passed ↦ known_cases p.placed.item
    ]

unfoldable pub tried : List Judged → Judged → List Case
tried past d = tried_as (role_of d.fact.placed.item) past d
