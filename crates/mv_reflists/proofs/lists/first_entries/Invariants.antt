use Rattle.std.proofs.Common.{◌≡◌, map}
use Rattle.std.specs.List.{range_with_len}
use Rattle.smallvec.specs.SmallVec.{small_vec_len}
use Rattle.mv_pictures.specs.Lists.{entry}
use Rattle.mv_reflists.proofs.lists.first_entries.Given as goal

abbrev pub invariant-loop-i : goal.invariant-loop-i
invariant-loop-i l = record {
  items : l.list.items ≡ map (entry l.places) (range_with_len 0 l.i);
  length : small_vec_len l.list ≡ l.i;
  capacity : l.list.capacity ≡ 16;
}
