use Rattle.std.proofs.Common.{◌≡◌, false, not, ◌&&◌, ℕ, Bool, List, get_or, length, sym, ◌∙◌, arith}
use Rattle.std.specs.List.{list_any, range_with_len}
use Rattle.mv_layers.specs.LayerSets.{has_layer, layers_in}
use Rattle.mv_layers.proofs.Ranges.{none_more, some_at, none_of_all}
use Rattle.mv_layers.proofs.AnyLaws.{any_filter}
use Rattle.mv_layers.proofs.rules.flags_have_unknown.Goals as goal

abbrev unmarked : List Bool → ℕ → Bool
unmarked known id = not (get_or known id false)

abbrev unknown_in : List Bool → List ℕ → ℕ → Bool
unknown_in known flags id = has_layer flags id && unmarked known id

of_filter : (known : List Bool) (flags : List ℕ) → list_any (unmarked known) (layers_in flags) ≡ list_any (unknown_in known flags) (range_with_len 0 (length flags))
of_filter known flags = any_filter (has_layer flags) (unmarked known) (range_with_len 0 (length flags))

pub returns-then-has_unmarked : goal.returns-then-has_unmarked
returns-then-has_unmarked c =
    sym (of_filter c.args.known.now c.args.flags.now
    ∙ some_at (unknown_in c.args.known.now c.args.flags.now) (length c.args.flags.now) c.loop-id.id c.loop-id-test.true (sym c.has_unmarked.ensures ∙ c.if-has_unmarked.true))

pub loop-id-preserved : goal.loop-id-preserved
loop-id-preserved c =
    none_more (unknown_in c.args.known.now c.args.flags.now) (length c.args.flags.now) c.loop-id.id c.loop-id-test.true c.loop-id.invariant (sym c.has_unmarked.ensures ∙ c.if-has_unmarked.false)

pub returns : goal.returns
returns c =
    sym (of_filter c.args.known.now c.args.flags.now
    ∙ none_of_all (unknown_in c.args.known.now c.args.flags.now) (length c.args.flags.now) c.loop-id.id (omega (arith, c.loop-id-test.false)) c.loop-id.invariant)
