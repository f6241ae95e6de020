use Rattle.mv_commuting.proofs.Latest.{anchor-more, anew-more, decoded-more, latest-more, led-more}
use Rattle.mv_commuting.proofs.state_laws.the_latest_with_one_unit_more.Goals as goal

pub returns-clause-latest : goal.returns-clause-latest
returns-clause-latest c = latest-more

pub returns-clause-anchor : goal.returns-clause-anchor
returns-clause-anchor c = anchor-more

pub returns-clause-led : goal.returns-clause-led
returns-clause-led c = led-more

pub returns-clause-decoded : goal.returns-clause-decoded
returns-clause-decoded c = decoded-more

pub returns-clause-anew : goal.returns-clause-anew
returns-clause-anew c = anew-more
