use Rattle.std.proofs.Common.{◌∙◌, ◌++◌, Bool, List, length, ap, option_map}
use Rattle.std.proofs.lemmas.Result.{on_ok_weaker}
use Rattle.mv_syntax.specs.Bits.{trailing_bits}
use Rattle.mv_syntax.proofs.PayloadLaws.{end-written}
use Rattle.mv_bits.proofs.ending.put_payload_end.Goals as goal

pub returns-clause-ok : goal.returns-clause-ok
returns-clause-ok c =
    on_ok_weaker c.trailing.result
    (λ e.
    e
    ∙ ap (λ (b : List Bool). b ++ trailing_bits (length b)) c.in_ok-put_tail_if.ensures
    ∙ end-written c.args.out.now (option_map (λ v. v.items) c.args.tail.now))
    c.trailing.ensures.ok
