use Rattle.std.proofs.lemmas.Result.{on_ok_weaker}
use Rattle.mv_fields.proofs.Appending.{is_bits, appended}
use Rattle.mv_common.specs.ScalingLists.{scaling_list_data}
use Rattle.mv_common.proofs.scaling_lists.ScalingLists.write.Goals as goal

pub append_to-requires : goal.append_to-requires
append_to-requires c = is_bits scaling_list_data c.args.self.now _ _ c.beside-own.ensures c.in_ok-print.ensures

pub returns-clause-ok : goal.returns-clause-ok
returns-clause-ok c =
    on_ok_weaker c.append_to.result
    (appended scaling_list_data c.args.self.now _ _ _ _ c.beside-own.ensures c.in_ok-print.ensures)
    c.append_to.ensures.ok
