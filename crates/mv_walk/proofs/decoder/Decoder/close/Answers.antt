use Rattle.std.proofs.Common.{◌∙◌, sym}
use Rattle.mv_walk.proofs.Closing.{closes-finished, closes-none, history-taken}
use Rattle.mv_walk.proofs.decoder.Decoder.close.Goals as goal

pub finish-requires : goal.finish-requires
finish-requires g c = record { kept = history-taken c.args.self.now c.take.new.self c.in-Some.making (sym c.take.ensures.value ∙ c.in-Some.is) c.requires.kept }

pub returns-in-Some-clause-closes : goal.returns-in-Some-clause-closes
returns-in-Some-clause-closes g c =
    closes-finished c.finish.result c.args.self.now c.finish.new.self c.take.new.self c.in-Some.making (sym c.take.ensures.value ∙ c.in-Some.is) c.take.ensures.after
    c.finish.ensures.whole c.finish.ensures.picture c.finish.ensures.making

pub returns-in-None-clause-closes : goal.returns-in-None-clause-closes
returns-in-None-clause-closes g c = closes-none c.args.self.now c.take.new.self (sym c.take.ensures.value ∙ c.in-None.is) c.take.ensures.after
