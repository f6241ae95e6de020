use Rattle.std.proofs.Common.{◌-◌, ◌++◌, drop, ap, sym, ◌∙◌, append-nil, arith}
use Rattle.std.proofs.lemmas.List.{length-drop}
use Rattle.mv_bytestream.proofs.Prevented.{payload-none}
use Rattle.mv_bytestream.proofs.unescaping.unescape.Goals as goal

pub returns : goal.returns
returns c =
    sym (append-nil c.loop-from.bytes.items)
    ∙ ap (λ s. c.loop-from.bytes.items ++ s) (sym (payload-none (drop (c.loop-from.from - 2) c.args.unit.now) (omega (arith, length-drop (c.loop-from.from - 2) c.args.unit.now))))
    ∙ c.loop-from.invariant.same
