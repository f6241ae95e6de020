use Rattle.std.proofs.Common.{◌≡◌, sym, ◌∙◌, subst, map, List, None, IfOk, Vec, Global}
use Rattle.mv_units.specs.Units.{NalUnit, leading}
use Rattle.mv_bytestream.specs.declared.splitting.Span.{Span}
use Rattle.mv_bytestream.specs.Spans.{unit_at}
use Rattle.mv_bytestream.proofs.Steps.{anyway, leading-front, refused-at, units-front}
use Rattle.mv_bytestream.proofs.splitting.split.Goals as goal

pub returns-in-Some-clause-refused : goal.returns-in-Some-clause-refused
returns-in-Some-clause-refused c =
    refused-at c.args.bytes.now c.in-Some.at
    (leading-front c.args.bytes.now c.next_code-front.result c.next_code-front.ensures.clean c.next_code-front.ensures.stands ∙ sym c.in-Some.ensures.value)

pub returns-in-None-clause-units : goal.returns-in-None-clause-units
returns-in-None-clause-units c =
    subst (λ (us : List NalUnit). IfOk c.spans_from.result (λ (spans : Vec Span Global). map (unit_at c.args.bytes.now) spans.items ≡ us))
    (sym (units-front c.args.bytes.now c.next_code-front.result c.next_code-front.ensures.clean c.next_code-front.ensures.stands))
    c.spans_from.ensures.units

pub returns-in-None-clause-accepted : goal.returns-in-None-clause-accepted
returns-in-None-clause-accepted c =
    anyway (leading c.args.bytes.now ≡ None) c.spans_from.result
    (leading-front c.args.bytes.now c.next_code-front.result c.next_code-front.ensures.clean c.next_code-front.ensures.stands ∙ sym c.in-None.ensures.value)
