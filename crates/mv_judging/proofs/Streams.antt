-- The byte stream is a form in which units come.
use Rattle.std.proofs.Common.{false, arith}
use Rattle.mv_units.proofs.Numbers.{end-number, later-number}
use Rattle.mv_units.proofs.Refusals.{shown-clean}
use Rattle.mv_units.proofs.Shows.{shown-stays, whole-stays}
use Rattle.mv_units.proofs.Silent.{forbidden, soon-refused, shown-ended, shown-within, end-rule}
use Rattle.mv_units.proofs.Starts.{whole-count, whole-starts}
use Rattle.mv_judging.specs.Format.{IsFormat, byte_stream}

pub stream-format : IsFormat byte_stream
stream-format = record {
  stays = shown-stays;
  ends = shown-ended;
  whole = whole-stays;
  all = λ t. whole-starts false t;
  within = shown-within;
  later = later-number;
  last = λ t r quiet is. let same = end-number t r quiet is in omega arith;
  goes = λ t quiet.
      let soon = soon-refused t quiet in
      record { more = forbidden; refusal = soon.refusal; shown = soon.shown; unit = soon.unit; own = soon.early };
  end = end-rule;
  count = whole-count;
  clean = shown-clean;
}
