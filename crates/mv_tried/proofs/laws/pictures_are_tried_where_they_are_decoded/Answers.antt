use Rattle.std.proofs.Common.{◌&&◌, ◌||◌, false, not, ap}
use Rattle.std.specs.Prelude.{nat_eq, option_map}
use Rattle.std.specs.List.{list_any}
use Rattle.mv_syntax.specs.Words.{◌otherwise◌}
use Rattle.mv_slice.specs.Numbers.{is_irap}
use Rattle.mv_pictures.specs.Judged.{kind, layer}
use Rattle.mv_pictures.specs.SliceFields.{Entry, entries}
use Rattle.mv_pictures.specs.Starts.{is_start}
use Rattle.mv_pictures.specs.PictureRules.{decoded_before, format_differs, has_base_count, has_low_bits, irap_refers, missing_inter_layer, missing_ref, other_sps, poc_mismatch, poc_range, sps_changed, too_many_refs}
use Rattle.mv_tried.specs.Decoded.{has_too_many_refs, is_out_of_range, lacks_inter_layer, lacks_ref, refers_to_other_format}
use Rattle.mv_tried.proofs.Finer.{first-decoded, first-skipped}
use Rattle.mv_tried.proofs.Pictures.{of_decoded-full}
use Rattle.mv_tried.proofs.laws.pictures_are_tried_where_they_are_decoded.Goals as goal

pub returns-clause-decoded : goal.returns-clause-decoded
returns-clause-decoded c = first-decoded

pub returns-clause-skipped : goal.returns-clause-skipped
returns-clause-skipped c = first-skipped

pub returns-clause-sps_changed : goal.returns-clause-sps_changed
unfolding sps_changed
returns-clause-sps_changed c = λ l p here. ap (λ b. b && not (is_start l p) && (option_map (other_sps p) (decoded_before l) otherwise false)) here

pub returns-clause-format_differs : goal.returns-clause-format_differs
unfolding format_differs
returns-clause-format_differs c = λ l p here. ap (λ b. b && refers_to_other_format l p) here

pub returns-clause-poc_range : goal.returns-clause-poc_range
unfolding poc_range
returns-clause-poc_range c = λ l p here. ap (λ b. b && is_out_of_range l p) here

pub returns-clause-poc_mismatch : goal.returns-clause-poc_mismatch
unfolding poc_mismatch
returns-clause-poc_mismatch c = λ l p here. ap (λ b. b && not (nat_eq (layer p) 0) && (not (has_base_count l p) || (is_start l p && not (has_low_bits l p)))) here

pub returns-clause-irap_refers : goal.returns-clause-irap_refers
unfolding irap_refers
returns-clause-irap_refers c = λ l p here. ap (λ b. b && is_irap (kind p) && list_any (λ (e : Entry). e.used) (entries p)) here

pub returns-clause-too_many_refs : goal.returns-clause-too_many_refs
unfolding too_many_refs
returns-clause-too_many_refs c = λ l p here. ap (λ b. b && has_too_many_refs p) here

pub returns-clause-missing_ref : goal.returns-clause-missing_ref
unfolding missing_ref
returns-clause-missing_ref c = λ l p here. ap (λ b. b && lacks_ref l p) here

pub returns-clause-missing_inter_layer : goal.returns-clause-missing_inter_layer
unfolding missing_inter_layer
returns-clause-missing_inter_layer c = λ l p here. ap (λ b. b && lacks_inter_layer l p) here

pub returns-clause-its_segment : goal.returns-clause-its_segment
returns-clause-its_segment c = of_decoded-full
