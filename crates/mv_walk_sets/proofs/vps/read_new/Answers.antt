use Rattle.std.proofs.Common.{◌∙◌, ap, sym}
use Rattle.mv_walk_sets.specs.Readings.{vps_reading}
use Rattle.mv_walk_sets.proofs.ReadingLaws.{vps_is_read}
use Rattle.mv_walk_sets.proofs.vps.read_new.Goals as goal

pub returns-in-Ok-clause-read : goal.returns-in-Ok-clause-read
returns-in-Ok-clause-read c = vps_is_read c.args.payload.items c.in-Ok.value (ap vps_reading (sym c.deref.ensures.value) ∙ c.in-Ok.ensures.reads.0) c.in-Ok.ensures.valid
