use Rattle.std.proofs.Common.{◌≡◌, ◌+◌, None, Some, sym, ap, ◌∙◌, subst, arith}
use Rattle.mv_bytestream.specs.Scan.{Scan, StandsFor}
use Rattle.mv_bytestream.specs.Stages.{scan_of}
use Rattle.mv_bytestream.proofs.Piece.{running-unrefused, goes_on-still}
use Rattle.mv_bytestream.proofs.scanner.Scanner.feed.Goals as goal

pub returns-in-Ok : goal.returns-in-Ok
returns-in-Ok c =
    let same : scan_of c.make_room.new.self ≡ c.args.self.now = c.make_room.ensures.same ∙ c.resume.ensures.same ∙ c.self.view_is in
    let fed : c.make_room.new.self.fed ≡ c.args.self.now.fed = ap (λ (scan : Scan). scan.fed) same in
    record {
      within = c.in-Ok.ensures.within;
      some = c.in-Ok.ensures.some;
      stands = λ s h. c.in-Ok.ensures.stands s (subst (λ (scan : Scan). StandsFor scan s) (sym same) h);
      takes = λ s h. c.in-Ok.ensures.takes s (subst (λ (scan : Scan). StandsFor scan s) (sym same) h);
      refused = tt;
      again = λ r is.
          absurd (let no : None ≡ Some r = sym (running-unrefused c.make_room.new.self.stage c.make_room.ensures.running) ∙ ap (λ (scan : Scan). scan.refusal) same ∙ is in cc);
      took = c.in-Ok.ensures.took ∙ ap (λ n. n + c.in-Ok.count) fed;
      counted = omega (arith, c.in-Ok.ensures.fed, fed);
      given = c.in-Ok.ensures.given ∙ ap (λ (scan : Scan). scan.given) same;
      ended = goes_on-still c.take_piece.new.self.stage c.in-Ok.ensures.stage ∙ sym c.requires.goes_on;
    }
