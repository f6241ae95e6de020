-- The rules that are tried on pictures, and on the segments of decoded ones, where it is known that the picture is decoded (8.3,
-- F.8.3; this project's profile): what is left of each condition.
use Rattle.std.specs.Prelude.{Bool, false, not, ◌&&◌, ◌||◌, List, [], ◌∷◌, ◌++◌, length, is_none, option_map, nat_eq, nat_le, nat_lt}
use Rattle.std.specs.List.{list_any}
use Rattle.mv_syntax.specs.Words.{◌otherwise◌}
use Rattle.mv_rules.specs.declared.rule.Rule.{Rule}
use Rattle.mv_slice.specs.Numbers.{is_irap}
use Rattle.mv_pictures.specs.Facts.{Fact}
use Rattle.mv_pictures.specs.SliceFields.{Entry, entries, is_full, list_entry_l0, list_entry_l1, lists_of, num_pic_total_curr, predicts}
use Rattle.mv_pictures.specs.Terms.{Term}
use Rattle.mv_pictures.specs.Judged.{Judged, kind, layer}
use Rattle.mv_pictures.specs.Look.{Look}
use Rattle.mv_pictures.specs.Starts.{is_start}
use Rattle.mv_pictures.specs.Counts.{count}
use Rattle.mv_pictures.specs.Held.{match_of}
use Rattle.mv_pictures.specs.References.{decoded_in, inter_layer}
use Rattle.mv_pictures.specs.PictureRules.{decoded_before, has_base_count, has_format, has_low_bits, is_in_range, is_past_list, no_irap, other_sps}
use Rattle.mv_pictures.specs.Rules.{Case, case}

-- ---- Of a decoded picture

abbrev pub has_other_sps : Look → Fact → Bool
has_other_sps l p = not (is_start l p) && (option_map (other_sps p) (decoded_before l) otherwise false)

abbrev pub refers_to_other_format : Look → Fact → Bool
refers_to_other_format l p = list_any (λ (r : Judged × Term). not (has_format p.sets.format r.0.fact.sets.format)) (inter_layer l p)

abbrev pub is_out_of_range : Look → Fact → Bool
is_out_of_range l p = not (option_map is_in_range (count l p) otherwise false)

abbrev pub is_mismatched : Look → Fact → Bool
is_mismatched l p = not (nat_eq (layer p) 0) && (not (has_base_count l p) || (is_start l p && not (has_low_bits l p)))

abbrev pub is_referring_irap : Fact → Bool
is_referring_irap p = is_irap (kind p) && list_any (λ (e : Entry). e.used) (entries p)

abbrev pub has_too_many_refs : Fact → Bool
has_too_many_refs p = nat_lt 15 (length (entries p))

abbrev pub lacks_ref : Look → Fact → Bool
lacks_ref l p = list_any (λ (e : Entry). e.used && is_none (match_of l p e)) (entries p)

abbrev pub lacks_inter_layer : Look → Fact → Bool
lacks_inter_layer l p = list_any (λ (units : List Judged). is_none (decoded_in p units)) l.across

-- ---- Of a segment of one that has a full header

abbrev pub has_past_entry : Fact → Bool
has_past_entry p = list_any (λ e. nat_le (num_pic_total_curr p) e) ((list_entry_l0 p otherwise []) ++ (list_entry_l1 p otherwise []))

abbrev pub is_collocated_past_list : Fact → Bool
is_collocated_past_list p = option_map (is_past_list p) (lists_of p) otherwise false

-- ---- The cases

-- of each segment of a decoded picture
unfoldable pub decoded_list_cases : Fact → List Case
decoded_list_cases p =
    case Rule.ListEntry (is_full p && has_past_entry p)
    ∷ case Rule.NoRefs (is_full p && predicts p && nat_eq (num_pic_total_curr p) 0)
    ∷ case Rule.Collocated (is_full p && is_collocated_past_list p)
    ∷ []

-- of a decoded picture
unfoldable pub decoded_cases : Look → Fact → List Case
decoded_cases l p =
    (case Rule.NoIrap (no_irap l p)
    ∷ case Rule.SpsChanged (has_other_sps l p)
    ∷ case Rule.FormatDiffers (refers_to_other_format l p)
    ∷ case Rule.PocRange (is_out_of_range l p)
    ∷ case Rule.PocMismatch (is_mismatched l p)
    ∷ case Rule.IrapRefers (is_referring_irap p)
    ∷ case Rule.TooManyRefs (has_too_many_refs p)
    ∷ case Rule.MissingRef (lacks_ref l p)
    ∷ case Rule.MissingInterLayer (lacks_inter_layer l p)
    ∷ [])
    ++ decoded_list_cases p
