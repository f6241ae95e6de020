use Rattle.std.proofs.Common.{false}
use Rattle.mv_units.proofs.Numbers.{end-number, later-number}
use Rattle.mv_units.proofs.Shows.{shown-stays, whole-stays}
use Rattle.mv_units.proofs.Silent.{shown-ended, shown-within}
use Rattle.mv_units.proofs.Starts.{whole-starts}
use Rattle.mv_units.proofs.laws.more_bytes_show_more.Goals as goal

pub returns-clause-stays : goal.returns-clause-stays
returns-clause-stays c = λ t s r is. shown-stays t s r is

pub returns-clause-ends : goal.returns-clause-ends
returns-clause-ends c = λ t r is. shown-ended t r is

pub returns-clause-whole : goal.returns-clause-whole
returns-clause-whole c = λ t s. whole-stays t s

pub returns-clause-all : goal.returns-clause-all
returns-clause-all c = λ t. whole-starts false t

pub returns-clause-within : goal.returns-clause-within
returns-clause-within c = λ ended t r is. shown-within ended t r is

pub returns-clause-later : goal.returns-clause-later
returns-clause-later c = λ t s r quiet is. later-number t s r quiet is

pub returns-clause-last : goal.returns-clause-last
returns-clause-last c = λ t r quiet is. end-number t r quiet is
