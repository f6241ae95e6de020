use Rattle.std.proofs.Common.{[], sym, ap, ◌∙◌}
use Rattle.mv_rps.specs.Matched.{long_place_of, place_of}
use Rattle.mv_rps.proofs.MatchLaws.{long_by_cycle, long_by_lsb, none_long}
use Rattle.mv_rps.proofs.resolving.long_place_of.Goals as goal

pub returns-in-Delta : goal.returns-in-Delta
returns-in-Delta c = none_long c.args.origin c.args.held.now c.in-Delta.field-0 ∙ ap (long_place_of c.args.origin c.args.held.now) (sym c.in-Delta.is)

pub returns-in-Lsb : goal.returns-in-Lsb
returns-in-Lsb c =
    c.place_of.ensures
    ∙ ap (place_of c.args.origin [] c.args.held.now) c.in-Lsb.is
    ∙ long_by_lsb c.args.origin [] c.args.held.now c.in-Lsb.field-0
    ∙ ap (long_place_of c.args.origin c.args.held.now) (sym c.in-Lsb.is)

pub returns-in-Cycle : goal.returns-in-Cycle
returns-in-Cycle c =
    c.place_of-in-Cycle.ensures
    ∙ ap (place_of c.args.origin [] c.args.held.now) c.in-Cycle.is
    ∙ long_by_cycle c.args.origin [] c.args.held.now c.in-Cycle.field-0 c.in-Cycle.field-1
    ∙ ap (long_place_of c.args.origin c.args.held.now) (sym c.in-Cycle.is)
