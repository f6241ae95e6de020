use Rattle.std.proofs.Common.{arith, sym, ◌∙◌, ◌++◌, ◌≡◌, ap, subst, All, append-nil, map, List, drop}
use Rattle.mv_units.specs.Units.{units_at}
use Rattle.mv_bytestream.specs.declared.splitting.Span.{Span}
use Rattle.mv_bytestream.specs.Spans.{LiesIn, unit_at}
use Rattle.mv_bytestream.proofs.Steps.{code-fits, units-push, inside-push, units-end}
use Rattle.mv_bytestream.proofs.splitting.spans_from.Goals as goal

pub next_code-next-requires : goal.next_code-next-requires
next_code-next-requires c = code-fits c.args.bytes.now c.loop-at.at c.loop-at.invariant.stands c.loop-at-test.true

pub loop-at-preserved : goal.loop-at-preserved
loop-at-preserved c = record {
  stands = c.next_code-next.ensures.stands;
  units = subst (λ (spans : List Span). units_at c.args.front (drop c.args.front c.args.bytes.now) ≡ map (unit_at c.args.bytes.now) spans ++ units_at c.next_code-next.result (drop c.next_code-next.result c.args.bytes.now)) (sym c.in-Ok.ensures.items)
      (units-push c.args.bytes.now _ c.loop-at.spans.items c.loop-at.at c.next_code-next.result c.trimmed_end-to.result c.loop-at.invariant.stands c.loop-at-test.true
      c.next_code-next.ensures.stands c.next_code-next.ensures.low c.next_code-next.ensures.clean c.trimmed_end-to.ensures.value c.loop-at.invariant.units);
  inside = subst (λ (spans : List Span). All (LiesIn c.args.bytes.now) spans) (sym c.in-Ok.ensures.items)
      (inside-push c.args.bytes.now c.loop-at.spans.items _ c.trimmed_end-to.result c.trimmed_end-to.ensures.low (omega (arith, c.next_code-next.ensures.stands.inside)) c.loop-at.invariant.inside);
}

pub returns-clause-units : goal.returns-clause-units
returns-clause-units c =
    sym (c.loop-at.invariant.units
    ∙ ap (λ us. map (unit_at c.args.bytes.now) c.loop-at.spans.items ++ us) (units-end c.args.bytes.now c.loop-at.at c.loop-at-test.false c.loop-at.invariant.stands.inside)
    ∙ append-nil (map (unit_at c.args.bytes.now) c.loop-at.spans.items))
