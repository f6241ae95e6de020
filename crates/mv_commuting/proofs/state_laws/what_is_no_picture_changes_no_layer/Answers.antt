use Rattle.mv_commuting.proofs.NoPicture.{anchor-same, anew-end, base-same, decoded-same, held-same, initialised-end, led-same, root-same, seqs-same}
use Rattle.mv_commuting.proofs.state_laws.what_is_no_picture_changes_no_layer.Goals as goal

pub returns-clause-held : goal.returns-clause-held
returns-clause-held c = held-same

pub returns-clause-anchor : goal.returns-clause-anchor
returns-clause-anchor c = anchor-same

pub returns-clause-led : goal.returns-clause-led
returns-clause-led c = led-same

pub returns-clause-decoded : goal.returns-clause-decoded
returns-clause-decoded c = decoded-same

pub returns-clause-base : goal.returns-clause-base
returns-clause-base c = base-same

pub returns-clause-root : goal.returns-clause-root
returns-clause-root c = root-same

pub returns-clause-seqs : goal.returns-clause-seqs
returns-clause-seqs c = seqs-same

pub returns-clause-initialised : goal.returns-clause-initialised
returns-clause-initialised c = initialised-end

pub returns-clause-anew : goal.returns-clause-anew
returns-clause-anew c = anew-end
