use Rattle.std.proofs.Common.{◌≤◌, length, ap, arith}
use Rattle.mv_vps.proofs.Getting.{vps_sets_few}
use Rattle.mv_vps.proofs.vps.Vps.ols_count.Goals as goal

pub count_of-requires : goal.count_of-requires
count_of-requires c =
    let few : length c.args.self.now.derived.sets ≤ 1024 = vps_sets_few c.args.self.now c.requires in
    omega (arith, ap length c.deref.ensures.value, ap (λ i. length i.derived.sets) c.self-inside.view_is, ap (λ v. length v.derived.sets) c.self.view_is)
