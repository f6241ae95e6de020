-- The rules that are tried on pictures, and on the segments of decoded ones, by what is asked of the past (8.3, F.8.3; this
-- project's profile).
use Rattle.std.specs.Prelude.{ℕ, ◌-◌, ◌^◌, ℤ, pos, neg_ℤ, int_le, Bool, true, false, not, ◌&&◌, ◌||◌, List, [], ◌++◌, length, Option, is_none, option_map, nat_eq, nat_le, nat_lt, bytes_eq, if◌then◌else◌}
use Rattle.std.specs.List.{find, list_any}
use Rattle.mv_syntax.specs.Words.{◌otherwise◌, is_set}
use Rattle.mv_common.specs.declared.format.Format.{Format}
use Rattle.mv_slice.specs.declared.lists.SliceLists.{SliceLists}
use Rattle.mv_slice.specs.Numbers.{is_irap}
use Rattle.mv_pictures.specs.AccessUnits.{Placed, has_changed_vps}
use Rattle.mv_pictures.specs.Facts.{Fact}
use Rattle.mv_pictures.specs.SliceFields.{Entry, entries, coded_lsb, max_lsb, num_pic_total_curr, is_full, predicts, lists_of, active_l0, active_l1, list_entry_l0, list_entry_l1}
use Rattle.mv_pictures.specs.Terms.{Term}
use Rattle.mv_pictures.specs.Judged.{Judged, layer, kind, is_base, is_picture}
use Rattle.mv_pictures.specs.Look.{Look}
use Rattle.mv_pictures.specs.Starts.{is_anew, is_sequence_start, is_start, is_decoded}
use Rattle.mv_pictures.specs.Counts.{count, base_count}
use Rattle.mv_pictures.specs.Held.{has_count, has_residue, match_of}
use Rattle.mv_pictures.specs.References.{payload_of, inter_layer, decoded_in}
use Rattle.mv_pictures.specs.Lists.{picture_before}

-- NoIrap: a base picture that is the first, or the first behind an end of layer 0, is no IRAP picture
unfoldable pub no_irap : Look → Fact → Bool
no_irap l p = is_base p && is_anew l && not (is_irap (kind p))

-- SpsChanged: a decoded picture that is no start has another sequence parameter set than its layer's decoded picture before
unfoldable pub decoded_before : Look → Option Judged
decoded_before l = find (λ (d : Judged). d.decoded) l.own

abbrev pub other_sps : Fact → Judged → Bool
other_sps p d = not (bytes_eq (payload_of p.sets.sps) (payload_of d.fact.sets.sps))

unfoldable pub sps_changed : Look → Fact → Bool
sps_changed l p = is_decoded l p && not (is_start l p) && (option_map (other_sps p) (decoded_before l) otherwise false)

-- FormatDiffers: a decoded picture and a picture of its access unit that it actively refers to differ in format
abbrev pub same_format : Format → Format → Bool
same_format a b =
    nat_eq a.width b.width
    && nat_eq a.height b.height
    && nat_eq a.chroma b.chroma
    && nat_eq a.luma_depth b.luma_depth
    && nat_eq a.chroma_depth b.chroma_depth

abbrev pub has_format : Option Format → Option Format → Bool
has_format a b = option_map (λ f. option_map (same_format f) b otherwise false) a otherwise false

unfoldable pub format_differs : Look → Fact → Bool
format_differs l p =
    is_decoded l p && list_any (λ (r : Judged × Term). not (has_format p.sets.format r.0.fact.sets.format)) (inter_layer l p)

-- PocRange: a decoded picture's count is below -2^31 or above 2^31 - 1
abbrev pub is_in_range : ℤ → Bool
is_in_range c = int_le (neg_ℤ (pos (2 ^ 31))) c && int_le c (pos (2 ^ 31 - 1))

unfoldable pub poc_range : Look → Fact → Bool
poc_range l p = is_decoded l p && not (option_map is_in_range (count l p) otherwise false)

-- PocMismatch: a decoded picture of a layer above 0 hasn't the base picture's count, or a start's coded low bits aren't
-- those of that count
abbrev pub has_base_count : Look → Fact → Bool
has_base_count l p = option_map (λ c. has_count c (base_count l p)) (count l p) otherwise false

abbrev pub has_low_bits : Look → Fact → Bool
has_low_bits l p = option_map (λ bits. has_residue (max_lsb p) bits (count l p)) (coded_lsb p) otherwise true

unfoldable pub poc_mismatch : Look → Fact → Bool
poc_mismatch l p =
    is_decoded l p && not (nat_eq (layer p) 0) && (not (has_base_count l p) || (is_start l p && not (has_low_bits l p)))

-- IrapRefers: a decoded IRAP picture's set has an entry that it uses
unfoldable pub irap_refers : Look → Fact → Bool
irap_refers l p = is_decoded l p && is_irap (kind p) && list_any (λ (e : Entry). e.used) (entries p)

-- TooManyRefs: a decoded picture's set has over 15 entries
unfoldable pub too_many_refs : Look → Fact → Bool
too_many_refs l p = is_decoded l p && nat_lt 15 (length (entries p))

-- MissingRef: an entry that a decoded picture uses has no match
unfoldable pub missing_ref : Look → Fact → Bool
missing_ref l p = is_decoded l p && list_any (λ (e : Entry). e.used && is_none (match_of l p e)) (entries p)

-- MissingInterLayer: an active reference layer of a decoded picture has no decoded picture in the access unit
unfoldable pub missing_inter_layer : Look → Fact → Bool
missing_inter_layer l p = is_decoded l p && list_any (λ (units : List Judged). is_none (decoded_in p units)) l.across

-- ---- Tried on each segment of a decoded picture that has a full header

unfoldable pub is_of_decoded : Look → Fact → Bool
is_of_decoded l p =
    is_full p
    && (if is_picture p then is_decoded l p else (option_map (λ (d : Judged). d.decoded) (picture_before l p) otherwise false))

-- ListEntry: a list_entry isn't below NumPicTotalCurr
unfoldable pub list_entry : Look → Fact → Bool
list_entry l p =
    is_of_decoded l p
    && list_any (λ e. nat_le (num_pic_total_curr p) e) ((list_entry_l0 p otherwise []) ++ (list_entry_l1 p otherwise []))

-- NoRefs: a P or B segment has NumPicTotalCurr 0
unfoldable pub no_refs : Look → Fact → Bool
no_refs l p = is_of_decoded l p && predicts p && nat_eq (num_pic_total_curr p) 0

-- collocated: a coded collocated_ref_idx isn't below the active entries of its list
abbrev pub collocated_entries : Fact → SliceLists → ℕ
collocated_entries p lists = if is_set (lists.collocated_from_l0_flag otherwise 1) then active_l0 p else active_l1 p

abbrev pub is_past_list : Fact → SliceLists → Bool
is_past_list p lists = option_map (λ idx. nat_le (collocated_entries p lists) idx) lists.collocated_ref_idx otherwise false

unfoldable pub collocated : Look → Fact → Bool
collocated l p = is_of_decoded l p && (option_map (is_past_list p) (lists_of p) otherwise false)

-- ---- Tried on base pictures, skipped ones too

-- VpsMidCvs: a base picture that starts no sequence stands in an access unit that has a changed video parameter set before it
unfoldable pub vps_mid_cvs : List Placed → Look → Fact → Bool
vps_mid_cvs past l p = is_base p && not (is_sequence_start l p) && has_changed_vps past p.placed
