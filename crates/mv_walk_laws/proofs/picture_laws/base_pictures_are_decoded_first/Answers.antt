use Rattle.mv_walk_laws.proofs.NoneDecoded.{none-decoded}
use Rattle.mv_walk_laws.proofs.Unset.{unset-decodes, unset-no_picture}
use Rattle.mv_walk_laws.proofs.picture_laws.base_pictures_are_decoded_first.Goals as goal

pub returns-clause-base : goal.returns-clause-base
returns-clause-base c = none-decoded

pub returns-clause-set : goal.returns-clause-set
returns-clause-set c = unset-decodes

pub returns-clause-no_picture : goal.returns-clause-no_picture
returns-clause-no_picture c = unset-no_picture
