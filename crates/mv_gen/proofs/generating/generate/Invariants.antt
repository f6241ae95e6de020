use Rattle.std.proofs.Common.{length}
use Rattle.mv_gen.specs.Units.{gen_units}
use Rattle.mv_gen.proofs.Written.{Written}
use Rattle.mv_gen.proofs.generating.generate.Given as goal

abbrev pub invariant-unit : goal.invariant-unit
invariant-unit g l =
    Written (gen_units l.number l.count) l.stream (g.K.Sink.state l.initial.sink) (g.K.Sink.state l.sink)

abbrev pub decreases-unit : goal.decreases-unit
decreases-unit g l = length l.stream
