use Rattle.std.proofs.Common.{◌≡◌, sym, ap, ◌∙◌, arith}
use Rattle.mv_lenform.specs.LenScan.{LenScan}
use Rattle.mv_lenform.specs.Stages.{scan_of}
use Rattle.mv_lenform.proofs.Feeding.{fed-stands, fed-takes, fed-refused, fed-count, fed-goes_on, never-refused}
use Rattle.mv_lenform.proofs.len_reader.LenReader.feed.Goals as goal

pub returns : goal.returns
returns c =
    let old = c.resume.new.self in
    let new = c.take_piece.new.self in
    let r = c.take_piece.result in
    let p = c.args.piece.now in
    let stage = c.resume.ensures.stage in
    let same : scan_of old ≡ c.args.self.now = c.resume.ensures.same ∙ c.self.view_is in
    let was : old.fed ≡ c.args.self.now.fed = ap (λ (scan : LenScan). scan.fed) same in
    record {
      within = c.take_piece.ensures.within;
      some = c.take_piece.ensures.some;
      stands = fed-stands r old new c.args.self.now p stage same c.take_piece.ensures.within c.take_piece.ensures.before c.take_piece.ensures.fed c.take_piece.ensures.given c.take_piece.ensures.held c.take_piece.ensures.comes;
      takes = fed-takes r old new c.args.self.now p stage same c.take_piece.ensures.within c.take_piece.ensures.before c.take_piece.ensures.fed c.take_piece.ensures.given c.take_piece.ensures.held c.take_piece.ensures.comes;
      refused = fed-refused r old new c.args.self.now p stage same c.take_piece.ensures.faults;
      again = λ refusal is. absurd (never-refused old c.args.self.now refusal stage same is tt);
      took = fed-count r old new c.args.self.now same c.take_piece.ensures.fed;
      counted = omega (arith, c.take_piece.ensures.counted, was);
      given = c.take_piece.ensures.given ∙ ap (λ (scan : LenScan). scan.given) same;
      ended = fed-goes_on r old new p stage c.take_piece.ensures.comes c.take_piece.ensures.faults ∙ sym c.requires.goes_on;
    }
