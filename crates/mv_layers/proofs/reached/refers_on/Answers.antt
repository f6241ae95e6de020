use Rattle.std.proofs.Common.{◌&&◌, false, ℕ, Bool, List, [], get_or, sym, ◌∙◌, arith}
use Rattle.std.specs.List.{range_with_len}
use Rattle.mv_layers.specs.References.{depends}
use Rattle.mv_layers.proofs.Ranges.{none_more, some_at, none_of_all}
use Rattle.mv_layers.proofs.AnyLaws.{any_filter}
use Rattle.mv_layers.proofs.reached.refers_on.Goals as goal

abbrev through : List (List ℕ) → List (List Bool) → ℕ → ℕ → ℕ → Bool
through flags all i k j = depends flags i j && get_or (get_or all j []) k false

pub returns-then-refers_through : goal.returns-then-refers_through
returns-then-refers_through c =
    sym (any_filter (depends c.args.flags.now c.args.i) (λ j. get_or (get_or c.args.all.now j []) c.args.k false) (range_with_len 0 c.args.i)
    ∙ some_at (through c.args.flags.now c.args.all.now c.args.i c.args.k) c.args.i c.loop-j.j c.loop-j-test.true (sym c.refers_through.ensures ∙ c.if-refers_through.true))

pub loop-j-preserved : goal.loop-j-preserved
loop-j-preserved c =
    none_more (through c.args.flags.now c.args.all.now c.args.i c.args.k) c.args.i c.loop-j.j c.loop-j-test.true c.loop-j.invariant (sym c.refers_through.ensures ∙ c.if-refers_through.false)

pub returns : goal.returns
returns c =
    sym (any_filter (depends c.args.flags.now c.args.i) (λ j. get_or (get_or c.args.all.now j []) c.args.k false) (range_with_len 0 c.args.i)
    ∙ none_of_all (through c.args.flags.now c.args.all.now c.args.i c.args.k) c.args.i c.loop-j.j (omega (arith, c.loop-j-test.false)) c.loop-j.invariant)
