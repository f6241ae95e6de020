use Rattle.std.proofs.lemmas.Result.{on_ok_weaker}
use Rattle.mv_short_sets.specs.Deltas.{deltas_of_each}
use Rattle.mv_short_sets.specs.ShortSet.{st_ref_pic_set}
use Rattle.mv_fields.proofs.Appending.{is_bits, appended}
use Rattle.mv_short_sets.proofs.short_set.ShortSet.write.Goals as goal

pub append_to-requires : goal.append_to-requires
append_to-requires c =
    is_bits (st_ref_pic_set c.args.args.now.idx c.args.args.now.num (deltas_of_each c.args.args.now.earlier.now)) c.args.self.now _ _
    c.beside-own.ensures c.in_ok-print.ensures

pub returns-clause-ok : goal.returns-clause-ok
returns-clause-ok c =
    let t = st_ref_pic_set c.args.args.now.idx c.args.args.now.num (deltas_of_each c.args.args.now.earlier.now) in
    on_ok_weaker c.append_to.result
    (appended t c.args.self.now _ _ _ _ c.beside-own.ensures c.in_ok-print.ensures)
    c.append_to.ensures.ok
