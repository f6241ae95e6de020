use Rattle.mv_gen.proofs.Clean.{nothing_shown, units_again}
use Rattle.mv_gen.proofs.unit_laws.a_stream_is_split_again.Goals as goal

pub returns-clause-units : goal.returns-clause-units
returns-clause-units c = units_again c.args.number c.args.count

pub returns-clause-shown : goal.returns-clause-shown
returns-clause-shown c = nothing_shown c.args.number c.args.count
