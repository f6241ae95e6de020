use Rattle.std.proofs.Common.{◌≡◌, map, take}
use Rattle.smallvec.specs.SmallVec.{small_vec_len}
use Rattle.mv_pictures.specs.Lists.{entry}
use Rattle.mv_reflists.proofs.lists.entries_at.Given as goal

abbrev pub invariant-loop-entry : goal.invariant-loop-entry
invariant-loop-entry l = record {
  items : l.list.items ≡ map (entry l.places) (take l.entry-index l.list_entry);
  length : small_vec_len l.list ≡ l.entry-index;
  capacity : l.list.capacity ≡ 16;
}
