-- The rules that are tried on each unit, in rising order of their numbers: a rule is a line (this project's profile).
use Rattle.std.specs.Prelude.{Bool, ◌&&◌, List, [], ◌∷◌, ◌++◌, map, length, Option, option_map}
use Rattle.std.specs.List.{find, range_with_len}
use Rattle.mv_rules.specs.declared.rule.Rule.{Rule}
use Rattle.mv_units.specs.Rules.{bad_head}
use Rattle.mv_pictures.specs.Layers.{sets_at}
use Rattle.mv_pictures.specs.Items.{Item}
use Rattle.mv_pictures.specs.AccessUnits.{Placed, no_base, layer_order, orphan_slice, tid_differs}
use Rattle.mv_pictures.specs.Facts.{Fact}
use Rattle.mv_pictures.specs.Judged.{Judged}
use Rattle.mv_pictures.specs.Look.{Look, look, asked}
use Rattle.mv_pictures.specs.Output.{is_late}
use Rattle.mv_pictures.specs.UnitRules.{set_fails, set_is_cut, vps_rules, sps_rules, pps_rules, is_new_vps, vps_tid, no_vps, sps_tid}
use Rattle.mv_pictures.specs.SliceRules.{missing_pps, missing_sps, slice_syntax, cross_layer_bla, slice_differs, address_order}
use Rattle.mv_pictures.specs.PictureRules.{no_irap, sps_changed, format_differs, poc_range, poc_mismatch, irap_refers, too_many_refs, missing_ref, missing_inter_layer, list_entry, no_refs, collocated, vps_mid_cvs}

-- a rule, and whether it holds
pub record Case : Type 0 where
  pub rule : Rule
  pub holds : Bool

abbrev pub case : Rule → Bool → Case
case broken test = record { rule = broken; holds = test }

-- by the unit alone, and by its parameter set
unfoldable pub item_cases : Item → List Case
item_cases i =
    case Rule.Head (bad_head i.bytes)
    ∷ case Rule.VpsSyntax (is_new_vps i && set_fails i.at)
    ∷ map (λ r. case r (is_new_vps i && set_is_cut r i.at)) vps_rules
    ++ case Rule.VpsTid (vps_tid i)
    ∷ case Rule.NoVps (no_vps i)
    ∷ []

unfoldable pub set_cases : Fact → List Case
set_cases p =
    case Rule.SpsSyntax (set_fails p.sps_unit)
    ∷ map (λ r. case r (set_is_cut r p.sps_unit)) sps_rules
    ++ case Rule.SpsTid (sps_tid p.placed.item)
    ∷ case Rule.SpsLimit (set_is_cut Rule.SpsLimit p.sps_unit)
    ∷ case Rule.PpsSyntax (set_fails p.pps_unit)
    ∷ map (λ r. case r (set_is_cut r p.pps_unit)) pps_rules

-- by its access unit, its sets and its header
unfoldable pub slice_cases : List Fact → Fact → List Case
slice_cases past p =
    let earlier : List Placed = map (λ (f : Fact). f.placed) past in
    case Rule.MissingPps (missing_pps p)
    ∷ case Rule.MissingSps (missing_sps p)
    ∷ case Rule.SliceSyntax (slice_syntax p)
    ∷ case Rule.CrossLayerBla (cross_layer_bla p)
    ∷ case Rule.NoBase (no_base earlier p.placed)
    ∷ case Rule.LayerOrder (layer_order earlier p.placed)
    ∷ case Rule.OrphanSlice (orphan_slice earlier p.placed)
    ∷ case Rule.SliceDiffers (slice_differs past p)
    ∷ case Rule.AddressOrder (address_order past p)
    ∷ case Rule.TidDiffers (tid_differs earlier p.placed)
    ∷ []

-- by what is asked of the past
unfoldable pub picture_cases : Look → Fact → List Case
picture_cases l p =
    case Rule.NoIrap (no_irap l p)
    ∷ case Rule.SpsChanged (sps_changed l p)
    ∷ case Rule.FormatDiffers (format_differs l p)
    ∷ case Rule.PocRange (poc_range l p)
    ∷ case Rule.PocMismatch (poc_mismatch l p)
    ∷ case Rule.IrapRefers (irap_refers l p)
    ∷ case Rule.TooManyRefs (too_many_refs l p)
    ∷ case Rule.MissingRef (missing_ref l p)
    ∷ case Rule.MissingInterLayer (missing_inter_layer l p)
    ∷ case Rule.ListEntry (list_entry l p)
    ∷ case Rule.NoRefs (no_refs l p)
    ∷ case Rule.Collocated (collocated l p)
    ∷ []

-- reorder: the picture is late for a set of its sequence
unfoldable pub output_cases : List Judged → Judged → List Case
output_cases past d = map (λ o. case (Rule.Reorder o) (is_late o past d)) (range_with_len 0 (length (sets_at d.seq_vps)))

-- all of them for a unit behind others
unfoldable pub cases : List Judged → Judged → List Case
cases past d =
    let earlier : List Fact = map (λ (e : Judged). e.fact) past in
    let seen : Look = look (asked past d.fact) d.fact in
    item_cases d.fact.placed.item
    ++ set_cases d.fact
    ++ slice_cases earlier d.fact
    ++ picture_cases seen d.fact
    ++ output_cases past d
    ++ case Rule.VpsMidCvs (vps_mid_cvs (map (λ (f : Fact). f.placed) earlier) seen d.fact)
    ∷ []

-- the least rule that a unit breaks, if it breaks one
unfoldable pub least_rule : List Judged → Judged → Option Rule
least_rule past d = option_map (λ (c : Case). c.rule) (find (λ (c : Case). c.holds) (cases past d))
