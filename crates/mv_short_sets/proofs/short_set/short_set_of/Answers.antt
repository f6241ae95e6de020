use Rattle.mv_syntax.proofs.TableLaws.{reads-of}
use Rattle.mv_short_sets.specs.Deltas.{deltas_of_each}
use Rattle.mv_short_sets.specs.ShortSet.{set_fields}
use Rattle.mv_short_sets.proofs.short_set.short_set_of.Goals as goal

-- what was read is valid
pub deltas_of-requires-clause-valid : goal.deltas_of-requires-clause-valid
deltas_of-requires-clause-valid c =
    (reads-of (set_fields c.args.args.now.idx c.args.args.now.num (deltas_of_each c.args.args.now.earlier.now)) _ _ _ c.in_ok-set.ensures.0).valid
