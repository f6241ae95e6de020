use Rattle.std.proofs.Common.{◌≤◌, IfOk, ℕ, List, Bool, Option, Result, Ok, Err}
use Rattle.mv_rules.specs.declared.rule.Rule.TheVariants.{SpsSyntax}
use Rattle.mv_rules.specs.declared.refusal.ReadFault.{ReadFault}
use Rattle.mv_syntax.specs.Payload.{CutPayload, ReadsPayload}
use Rattle.mv_fields.specs.Reading.{ReadsWhole}
use Rattle.mv_sps.specs.Sps.{SpsValue, sps_payload}
use Rattle.mv_walk_order.specs.OrderSteps.{reorder_in}
use Rattle.mv_walk_order.proofs.SpsLaws.{reorder_low}
use Rattle.mv_walk_order_tests.proofs.tests.sps_of.Goals as goal

few : (bits : List Bool) (r : Result (SpsValue × Option (List Bool)) ReadFault) → ReadsWhole (ReadsPayload (sps_payload 0 0) bits) (CutPayload (sps_payload 0 0) bits) SpsSyntax r →
    IfOk r (λ sps. reorder_in sps.0 ≤ 15)
few bits (Ok sps) h = reorder_low 0 0 sps h.valid
few bits (Err fault) h = tt

pub returns : goal.returns
returns c = few _ c.read_sps.result c.read_sps.ensures
