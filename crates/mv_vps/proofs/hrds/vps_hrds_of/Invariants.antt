use Rattle.std.proofs.Common.{◌≡◌}
use Rattle.mv_syntax.specs.inner.Reader.{read}
use Rattle.mv_syntax.specs.inner.Turns.{rest_of_items_after}
use Rattle.mv_vps.specs.Timing.{flags_behind, next_hrd, vps_hrds}
use Rattle.mv_vps.proofs.hrds.vps_hrds_of.Given as goal

abbrev pub invariant-loop-i : goal.invariant-loop-i
invariant-loop-i l = record {
  reads : read (vps_hrds l.subs l.n) l.fn.bits.left ≡ rest_of_items_after (next_hrd l.subs) l.i l.n l.all.items l.bits.left;
  whole : l.bits.total ≡ l.fn.bits.total;
  flags : l.flags ≡ flags_behind l.all.items;
}
