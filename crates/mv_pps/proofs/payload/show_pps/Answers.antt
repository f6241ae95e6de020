use Rattle.std.proofs.Common.{ap}
use Rattle.mv_fields.proofs.Payloads.{shown}
use Rattle.mv_pps.specs.Pps.{pps}
use Rattle.mv_pps.proofs.payload.show_pps.Goals as goal

pub returns : goal.returns
returns c =
    shown pps c.args.value.now _ _ _ _ c.requires.text c.in_ok-print_fields.ensures (ap (λ v. v.1) c.value.view_is) c.in_ok-end.ensures.printed
