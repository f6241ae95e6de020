use Rattle.std.proofs.Common.{None, arith}
use Rattle.std.proofs.lemmas.List.Edits.{map_over_more}
use Rattle.mv_sets.proofs.table.Table.clear.Goals as goal

pub loop-entry-preserved : goal.loop-entry-preserved
loop-entry-preserved g c =
    map_over_more (λ entry. None) c.deref_mut-entry-items.result.now c.loop-entry.entry-items c.loop-entry.entry-index c.entry-item.result (omega (arith, c.loop-entry-test.true)) c.loop-entry.invariant c.entry-item.is
