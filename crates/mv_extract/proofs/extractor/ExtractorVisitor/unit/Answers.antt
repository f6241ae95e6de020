use Rattle.std.proofs.Common.{◌≡◌, ◌∙◌, true, false, rules}
use Rattle.mv_bytestream.specs.Found.{found_unit}
use Rattle.mv_pictures.specs.Verdict.{bytes_of}
use Rattle.mv_walk.specs.Standing.{Stands}
use Rattle.mv_extract.specs.declared.extractor.Extractor.{Extractor}
use Rattle.mv_extract.proofs.Visited.{countable, drops, fails, frames, objects}
use Rattle.mv_extract.proofs.extractor.ExtractorVisitor.unit.Goals as goal

pub accept-requires-clause-goes_on : goal.accept-requires-clause-goes_on
accept-requires-clause-goes_on g c = c.requires.ready.stands.1.goes_on

pub accept-requires-clause-counted : goal.accept-requires-clause-counted
accept-requires-clause-counted g c = λ going. record { units = bytes_of c.requires.ready.units; behind = c.requires.ready.stands.1.behind }

pub returns-in-Err : goal.returns-in-Err
returns-in-Err g c = record {
  visits = λ start first us stands wrote counted.
      objects g.K.Sink.state (λ (v : Extractor g.row.K.Denot). v.walker.asked) (λ (v : Extractor g.row.K.Denot) us. Stands v.walker us) (λ (v : Extractor g.row.K.Denot). v.totals)
      start c.args.self.now first c.args.out.now us (found_unit c.args.found.now) c.args.self.now.walker.asked (Stands c.accept.new.walker) c.in-Err.ending stands.0
      (c.in-Err.ensures.accepts (bytes_of us) stands.1 (countable us c.args.number counted c.requires.ready.countable)) wrote;
}

pub returns-then-not-kept : goal.returns-then-not-kept
returns-then-not-kept g c = record {
  visits = λ start first us stands wrote counted.
      let new : Extractor g.row.K.Denot = record c.args.self.now { walker = c.accept.new.walker } in
      let dropped : c.in-Ok.kept ≡ false = search rules in
      drops g.K.Sink.state (λ (v : Extractor g.row.K.Denot). v.walker.asked) (λ (v : Extractor g.row.K.Denot) us. Stands v.walker us) (λ (v : Extractor g.row.K.Denot). v.totals)
      start new first c.args.out.now us (found_unit c.args.found.now) c.args.self.now.walker.asked c.in-Ok.kept stands.0 (c.in-Ok.ensures.asked ∙ stands.0)
      (c.in-Ok.ensures.accepts (bytes_of us) stands.1 (countable us c.args.number counted c.requires.ready.countable)) dropped wrote;
}

pub returns-in-Ok-frame : goal.returns-in-Ok-frame
returns-in-Ok-frame g c = record {
  visits = λ start first us stands wrote counted.
      let new : Extractor g.row.K.Denot = record c.args.self.now { walker = c.accept.new.walker } in
      let kept : c.in-Ok.kept ≡ true = search rules in
      frames g.K.Sink.state (λ (v : Extractor g.row.K.Denot). v.walker.asked) (λ (v : Extractor g.row.K.Denot) us. Stands v.walker us) (λ (v : Extractor g.row.K.Denot). v.totals)
      start new first c.args.out.now c.frame.new.sink us (found_unit c.args.found.now) c.args.self.now.walker.asked c.in-Ok.kept stands.0 (c.in-Ok.ensures.asked ∙ stands.0)
      (c.in-Ok.ensures.accepts (bytes_of us) stands.1 (countable us c.args.number counted c.requires.ready.countable)) kept wrote
      c.in-Ok-frame.ensures.all c.in-Ok-frame.ensures.cause.never_falls;
}

pub returns-in-Err-frame : goal.returns-in-Err-frame
returns-in-Err-frame g c = record {
  visits = λ start first us stands wrote counted.
      let kept : c.in-Ok.kept ≡ true = search rules in
      fails g.K.Sink.state (λ (v : Extractor g.row.K.Denot). v.walker.asked) (λ (v : Extractor g.row.K.Denot) us. Stands v.walker us) (λ (v : Extractor g.row.K.Denot). v.totals)
      start c.args.self.now first c.args.out.now c.frame.new.sink us (found_unit c.args.found.now) c.args.self.now.walker.asked c.in-Ok.kept (Stands c.accept.new.walker) stands.0
      (c.in-Ok.ensures.accepts (bytes_of us) stands.1 (countable us c.args.number counted c.requires.ready.countable)) kept wrote
      c.in-Err-frame.ensures.failed c.in-Err-frame.ensures.cause.never_falls c.in-Err-frame.ensures.cause.rose;
}
