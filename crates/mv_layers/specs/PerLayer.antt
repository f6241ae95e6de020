-- What holds of a layer, by its index, of fields that are coded for some layers (F.7.4.3.1.1): the coded value, or the one stated
-- for where it is absent.
use Rattle.std.specs.Prelude.{ℕ, zero, suc, min, List, get_or, Option, Some, None}
use Rattle.mv_syntax.specs.Words.{or_zero}

-- sub_layers_vps_max_minus1: where it isn't coded, vps_max_sub_layers_minus1
abbrev pub sub_layers_at : ℕ → Option (List ℕ) → ℕ → ℕ
sub_layers_at vps_max_sub_layers_minus1 None i = vps_max_sub_layers_minus1
sub_layers_at vps_max_sub_layers_minus1 (Some coded) i = get_or coded i 0

-- vps_rep_format_idx: where it isn't coded, the index of the layer or the last format; the coded are those from index 1 on
abbrev pub rep_format_at : ℕ → Option (List ℕ) → ℕ → ℕ
rep_format_at vps_num_rep_formats_minus1 coded zero = 0
rep_format_at vps_num_rep_formats_minus1 None (suc k) = min (suc k) vps_num_rep_formats_minus1
rep_format_at vps_num_rep_formats_minus1 (Some coded) (suc k) = get_or coded k 0

-- poc_lsb_not_present_flag: where it isn't coded, 0; the coded are those from index 1 on
abbrev pub poc_lsb_not_present_at : List (Option ℕ) → ℕ → ℕ
poc_lsb_not_present_at coded zero = 0
poc_lsb_not_present_at coded (suc k) = or_zero (get_or coded k None)
