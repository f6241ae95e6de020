use Rattle.std.proofs.Common.{◌≡◌, ◌≤◌, length, arith, rules}
use Rattle.mv_vps.proofs.Getting.{vps_layers_few}
use Rattle.mv_walk.proofs.course.layers_of.Goals as goal

pub overflow_cast-result : goal.overflow_cast-result
overflow_cast-result c =
    let few : length c.args.vps.now.derived.layers ≤ 63 = vps_layers_few c.args.vps.now c.requires in
    let same : c.len.result ≡ length c.args.vps.now.derived.layers = search rules in
    omega (arith, few, same)
