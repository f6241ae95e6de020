use Rattle.std.proofs.Common.{string_bytes, arith}
use Rattle.mv_cli.proofs.Two.{one, alone}
use Rattle.mv_cli.proofs.command.is_word.Goals as goal

pub returns-in-len1 : goal.returns-in-len1
returns-in-len1 c =
    alone _ _ _ _ c.eq.result
    (one string_bytes c.args.words.now c.only-item.result (omega (arith, c.in-len1.len_at_least)) (omega (arith, c.in-len1.len_below)) c.only-item.is)
    c.as_str.ensures.value c.eq.ensures
