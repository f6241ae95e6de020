use Rattle.mv_commuting.proofs.Extracts.{held-of}
use Rattle.mv_commuting.proofs.Whole.{anchor-whole, led-whole}
use Rattle.mv_commuting.proofs.history_laws.the_sequence_holds_all.Goals as goal

pub returns-clause-held : goal.returns-clause-held
returns-clause-held c = held-of

pub returns-clause-led : goal.returns-clause-led
returns-clause-led c = led-whole

pub returns-clause-anchor : goal.returns-clause-anchor
returns-clause-anchor c = anchor-whole
