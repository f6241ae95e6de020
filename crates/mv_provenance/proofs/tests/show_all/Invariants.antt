use Rattle.std.proofs.Common.{◌≡◌}
use Rattle.mv_provenance.proofs.tests.show_all.Given as goal

abbrev pub invariant-loop-row : goal.invariant-loop-row
invariant-loop-row g l = g.V.Viewer.viewing.name l.viewer ≡ g.V.Viewer.viewing.name l.fn.viewer
