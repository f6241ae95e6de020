use Rattle.mv_cli.proofs.Telling.{tells}
use Rattle.mv_cli.proofs.line.tell_text.Goals as goal

pub returns : goal.returns
returns g c =
    rw (← c.as_bytes.ensures.value) (tells c.write_all.result _ _ _ c.write_all.ensures.all c.write_all.ensures.failed c.write_all.ensures.cause)
