use Rattle.mv_commuting.proofs.More.{across-more, base-more, border-more, history-more, in_sequence-more, initialised-more, ready-more, root-more, seqs-more}
use Rattle.mv_commuting.proofs.history_laws.one_unit_more.Goals as goal

pub returns-clause-history : goal.returns-clause-history
returns-clause-history c = history-more

pub returns-clause-border : goal.returns-clause-border
returns-clause-border c = border-more

pub returns-clause-base : goal.returns-clause-base
returns-clause-base c = base-more

pub returns-clause-root : goal.returns-clause-root
returns-clause-root c = root-more

pub returns-clause-seqs : goal.returns-clause-seqs
returns-clause-seqs c = seqs-more

pub returns-clause-own : goal.returns-clause-own
returns-clause-own c = in_sequence-more

pub returns-clause-here : goal.returns-clause-here
returns-clause-here c = initialised-more

pub returns-clause-ready : goal.returns-clause-ready
returns-clause-ready c = ready-more

pub returns-clause-across : goal.returns-clause-across
returns-clause-across c = across-more
