use Rattle.std.proofs.Common.{ap, sym, ◌∙◌}
use Rattle.mv_vps.proofs.Getting.{vps_last_few}
use Rattle.mv_vps.proofs.vps.Vps.rep_format_index.Goals as goal

pub last_format-requires : goal.last_format-requires
last_format-requires c = vps_last_few c.args.self.now c.in-Some.ext c.requires (sym (ap (λ v. v.coded.0.extension) c.self.view_is) ∙ c.in-Some.is)
