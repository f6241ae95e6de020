use Rattle.std.proofs.Common.{◌≡◌, length}
use Rattle.mv_syntax.specs.inner.Reader.{read}
use Rattle.mv_syntax.specs.inner.Turns.{rest_of_items_after}
use Rattle.mv_short_sets.specs.ShortSet.{ValidSets}
use Rattle.mv_sps.specs.References.{short_set, short_sets}
use Rattle.mv_sps.proofs.references.short_sets_of.Given as goal

abbrev pub invariant-loop-i : goal.invariant-loop-i
invariant-loop-i l = record {
  reads : read (short_sets l.num) l.fn.bits.left ≡ rest_of_items_after (short_set l.num) l.i l.num l.sets.items l.bits.left;
  whole : l.bits.total ≡ l.fn.bits.total;
  count : length l.sets.items ≡ l.i;
  valid : ValidSets l.num l.sets.items;
}
