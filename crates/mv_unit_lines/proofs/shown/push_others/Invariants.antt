use Rattle.std.proofs.Common.{◌≡◌, ◌++◌, take}
use Rattle.mv_unit_lines.specs.Lines.{others_text}
use Rattle.mv_unit_lines.proofs.shown.push_others.Given as goal

abbrev pub invariant-loop-reference : goal.invariant-loop-reference
invariant-loop-reference l = l.out.items ≡ l.initial.out.items ++ others_text (take l.reference-index l.references)
