use Rattle.std.proofs.lemmas.Result.{on_ok_weaker}
use Rattle.mv_fields.proofs.Appending.{is_bits, appended}
use Rattle.mv_vpsext.specs.VpsExt.{vps_extension}
use Rattle.mv_vpsext.proofs.vps_ext.VpsExt.write.Goals as goal

pub append_to-requires : goal.append_to-requires
append_to-requires c = is_bits (vps_extension c.args.args.now) c.args.self.now _ _ c.beside-own.ensures c.in_ok-print.ensures

pub returns-clause-ok : goal.returns-clause-ok
returns-clause-ok c =
    on_ok_weaker c.append_to.result (appended (vps_extension c.args.args.now) c.args.self.now _ _ _ _ c.beside-own.ensures c.in_ok-print.ensures)
    c.append_to.ensures.ok
