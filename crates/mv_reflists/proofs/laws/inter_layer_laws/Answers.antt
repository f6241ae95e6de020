use Rattle.std.proofs.Common.{not, ◌&&◌, sym, ap, ap₂}
use Rattle.mv_pictures.specs.Judged.{layer, vps_at}
use Rattle.mv_pictures.specs.Layers.{view}
use Rattle.mv_pictures.specs.Look.{look}
use Rattle.mv_pictures.specs.PictureRules as rules
use Rattle.mv_pictures.specs.References.{inter_layer, is_zero_side, is_side_of_base}
use Rattle.mv_pictures.specs.SliceFields.{active_layers}
use Rattle.mv_reflists.specs.InterLayer as sets
use Rattle.mv_reflists.specs.InterLayer.{inter_layer_sets}
use Rattle.mv_reflists.specs.Stands.{active2}
use Rattle.mv_reflists.proofs.Across.{missing_across, those_across}
use Rattle.mv_reflists.proofs.laws.inter_layer_laws.Goals as goal

pub returns-clause-missing : goal.returns-clause-missing
unfolding rules.missing_inter_layer look
returns-clause-missing c = λ past p decoded. ap₂ (λ a b. a && b) decoded (missing_across past p (active_layers p))

pub returns-clause-zero : goal.returns-clause-zero
unfolding inter_layer_sets inter_layer look is_zero_side active2
returns-clause-zero c = λ past p here.
    those_across past p (sets.is_zero_side (view (vps_at p) (layer p)) (view (vps_at p) 0)) (is_zero_side p) (active_layers p)
    (λ n d l. ap (λ m. is_side_of_base (view (vps_at p) (layer p)) (view (vps_at p) 0) (view (vps_at p) m)) (sym l)) here

pub returns-clause-one : goal.returns-clause-one
unfolding inter_layer_sets inter_layer look is_zero_side active2
returns-clause-one c = λ past p here.
    those_across past p (sets.is_one_side (view (vps_at p) (layer p)) (view (vps_at p) 0)) (λ d. not (is_zero_side p d)) (active_layers p)
    (λ n d l. ap (λ m. not (is_side_of_base (view (vps_at p) (layer p)) (view (vps_at p) 0) (view (vps_at p) m))) (sym l)) here
