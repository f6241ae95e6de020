use Rattle.std.proofs.Common.{rules}
use Rattle.mv_pps.specs.Quantization.{quantization}
use Rattle.mv_pps.proofs.quantization.print_quantization.Goals as goal

pub returns : goal.returns
unfolding quantization
returns c =
    rw
    (c.in_ok-flag-4.ensures, c.in_ok-se-3.ensures, c.in_ok-se-2.ensures, c.in_ok-ue_if.ensures, c.in_ok-flag-3.ensures, c.in_ok-flag-2.ensures, c.in_ok-flag.ensures, c.in_ok-se.ensures)
    (search rules)
