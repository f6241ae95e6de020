use Rattle.std.proofs.lemmas.Result.{on_ok_weaker}
use Rattle.mv_fields.proofs.Appending.{is_bits, appended}
use Rattle.mv_common.specs.Vui.{vui_parameters}
use Rattle.mv_common.proofs.vui.Vui.write.Goals as goal

pub append_to-requires : goal.append_to-requires
append_to-requires c = is_bits (vui_parameters c.args.args.now.subs) c.args.self.now _ _ c.beside-own.ensures c.in_ok-print.ensures

pub returns-clause-ok : goal.returns-clause-ok
returns-clause-ok c =
    on_ok_weaker c.append_to.result
    (appended (vui_parameters c.args.args.now.subs) c.args.self.now _ _ _ _ c.beside-own.ensures c.in_ok-print.ensures)
    c.append_to.ensures.ok
