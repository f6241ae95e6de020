use Rattle.mv_pictures.specs.Judged.{kind}
use Rattle.mv_reflists.proofs.Fields.{segment_valid, lists_listed, segment_few_l0, segment_few_l1, segment_all_l0, segment_all_l1}
use Rattle.mv_reflists.proofs.laws.condition_laws.Goals as goal

pub returns-clause-active_l0 : goal.returns-clause-active_l0
returns-clause-active_l0 c = λ p ctx full s fits. segment_few_l0 ctx full fits (lists_listed ctx (kind p) full (segment_valid p ctx full s))

pub returns-clause-active_l1 : goal.returns-clause-active_l1
returns-clause-active_l1 c = λ p ctx full s fits. segment_few_l1 ctx full fits (lists_listed ctx (kind p) full (segment_valid p ctx full s))

pub returns-clause-entries_l0 : goal.returns-clause-entries_l0
returns-clause-entries_l0 c = λ p ctx full s. segment_all_l0 ctx full (lists_listed ctx (kind p) full (segment_valid p ctx full s))

pub returns-clause-entries_l1 : goal.returns-clause-entries_l1
returns-clause-entries_l1 c = λ p ctx full s. segment_all_l1 ctx full (lists_listed ctx (kind p) full (segment_valid p ctx full s))
