use Rattle.mv_syntax.proofs.TableLaws.{exactly_one, round_trips, prefixes}
use Rattle.mv_slice.specs.Slice.{slice_header}
use Rattle.mv_slice.proofs.HeaderSizes.{header_short}
use Rattle.mv_slice.proofs.laws.slice_laws.Goals as goal

pub returns-clause-exactly_one : goal.returns-clause-exactly_one
returns-clause-exactly_one c = λ ctx nal_unit_type b. exactly_one (slice_header ctx nal_unit_type) b

pub returns-clause-round_trips : goal.returns-clause-round_trips
returns-clause-round_trips c = λ ctx nal_unit_type. round_trips (slice_header ctx nal_unit_type)

pub returns-clause-prefixes : goal.returns-clause-prefixes
returns-clause-prefixes c = λ ctx nal_unit_type b more. prefixes (slice_header ctx nal_unit_type) b more

pub returns-clause-short : goal.returns-clause-short
returns-clause-short c = header_short
