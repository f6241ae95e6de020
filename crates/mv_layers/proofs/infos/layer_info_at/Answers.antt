use Rattle.std.proofs.Common.{◌+◌, false, [], get_or, map, ap, arith}
use Rattle.mv_layers.specs.References.{reaches}
use Rattle.mv_layers.specs.LayerInfos.{nuh_layer_id}
use Rattle.mv_layers.proofs.ReachLaws.{agree_filter}
use Rattle.mv_layers.proofs.infos.layer_info_at.Goals as goal

pub returns : goal.returns
returns c =
    let same = ap (map (nuh_layer_id c.args.coded.now)) (agree_filter (λ k. get_or (get_or c.args.reached.now c.args.i []) k false) (reaches c.args.coded.now.direct_dependency_flag c.args.i) 0 (c.args.i + 1) (λ j h. c.requires.reached j (omega (arith, h)))) in
    cc (c.in_ok-directs.ensures, c.in_ok-closure.ensures)
