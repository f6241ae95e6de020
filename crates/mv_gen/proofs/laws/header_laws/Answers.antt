use Rattle.mv_gen.proofs.Valid.{fits, valid, bits}
use Rattle.mv_gen.proofs.laws.header_laws.Goals as goal

pub returns-clause-fits : goal.returns-clause-fits
returns-clause-fits c = fits c.args.layer c.requires.layer

pub returns-clause-valid : goal.returns-clause-valid
returns-clause-valid c = valid c.args.layer c.args.lsb c.requires.layer c.requires.lsb

pub returns-clause-bits : goal.returns-clause-bits
returns-clause-bits c = bits c.args.layer c.args.lsb c.requires.layer c.requires.lsb
