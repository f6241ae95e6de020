use Rattle.std.proofs.Common.{sym, ap, ◌∙◌}
use Rattle.std.proofs.lemmas.List.{get_or-map}
use Rattle.mv_pictures.specs.Contexts.{direct_layer}
use Rattle.mv_slice.specs.Layers.{DirectLayer, may_refer}
use Rattle.mv_contexts.proofs.eligible.refers.Goals as goal

no_layer : DirectLayer
no_layer = record { sub_layers_vps_max_minus1 = 0; max_tid_il_ref_pics_plus1 = 0 }

pub returns : goal.returns
unfolding no_layer
returns c =
    c.may_refer.ensures
    ∙ ap (may_refer c.args.head.tid) (sym (get_or-map (direct_layer c.args.vps.now c.args.head.layer) c.args.directs.now c.args.number 0 no_layer c.requires.number))
