use Rattle.mv_units.specs.Escapes.{payload, head_first, head_second}
use Rattle.mv_units.proofs.Escaped.{unescaped-escaped}
use Rattle.mv_units.proofs.Unescaped.{head-escape}
use Rattle.mv_units.proofs.escape_laws.a_payload_comes_back.Goals as goal

pub returns-clause-payload : goal.returns-clause-payload
unfolding payload
returns-clause-payload c = λ h p. unescaped-escaped (head_first h) (head_second h) p

pub returns-clause-head : goal.returns-clause-head
returns-clause-head c = λ h p kind layer tid. head-escape h p kind layer tid
