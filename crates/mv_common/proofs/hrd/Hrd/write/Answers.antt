use Rattle.std.proofs.lemmas.Result.{on_ok_weaker}
use Rattle.mv_fields.proofs.Appending.{is_bits, appended}
use Rattle.mv_common.specs.Hrd.{hrd_parameters, flags_before}
use Rattle.mv_common.proofs.hrd.Hrd.write.Goals as goal

pub append_to-requires : goal.append_to-requires
append_to-requires c = is_bits (hrd_parameters c.args.args.now.common c.args.args.now.subs (flags_before c.args.args.now)) c.args.self.now _ _ c.beside-own.ensures c.in_ok-print.ensures

pub returns-clause-ok : goal.returns-clause-ok
returns-clause-ok c =
    on_ok_weaker c.append_to.result
    (appended (hrd_parameters c.args.args.now.common c.args.args.now.subs (flags_before c.args.args.now)) c.args.self.now _ _ _ _ c.beside-own.ensures c.in_ok-print.ensures)
    c.append_to.ensures.ok
