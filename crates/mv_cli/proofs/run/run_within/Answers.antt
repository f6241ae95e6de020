use Rattle.mv_cli.proofs.Headline.{headline}
use Rattle.mv_cli.proofs.run.run_within.Goals as goal

pub returns-clause-headline : goal.returns-clause-headline
returns-clause-headline g c = rw c.status.ensures (headline _ _ _ _ _ c.end-ending.result c.end-ending.ensures c.tell.ensures)

pub returns-clause-answers : goal.returns-clause-answers
returns-clause-answers g c = record {
  ending = c.end-ending.result;
  status_is = c.status.ensures;
  caused = c.end-ending.ensures;
  line = c.tell.ensures;
}
