use Rattle.mv_commuting.proofs.Accepted.{extract-accepted}
use Rattle.mv_commuting.proofs.Extracts.{decode-extract, history-extract, out-extract}
use Rattle.mv_commuting.proofs.InOrder.{own-kept}
use Rattle.mv_commuting.proofs.laws.decoding_commutes_with_extraction.Goals as goal

pub returns-clause-accepted : goal.returns-clause-accepted
returns-clause-accepted c = extract-accepted

pub returns-clause-history : goal.returns-clause-history
returns-clause-history c = history-extract

pub returns-clause-decode : goal.returns-clause-decode
returns-clause-decode c = decode-extract

pub returns-clause-out : goal.returns-clause-out
returns-clause-out c = out-extract

pub returns-clause-own : goal.returns-clause-own
returns-clause-own c = λ us o h. out-extract us o o h (own-kept us o)
