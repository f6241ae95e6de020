use Rattle.std.proofs.Common.{◌≡◌, length, map, sym, ap, ◌∙◌, rules}
use Rattle.std.specs.List.{enumerate_from}
use Rattle.std.specs.Vec.Iter.{into_iter_items, into_iter_len}
use Rattle.std.proofs.lemmas.List.{map-id}
use Rattle.std.proofs.lemmas.Iterator.Adapters.{YieldsList-from_vec}
use Rattle.std.proofs.lemmas.Iterator.Consumers.{YieldsList-end}
use Rattle.mv_layers.specs.Derived.{ols_value}
use Rattle.mv_vpsext.specs.Derived.{numbered_ols, all_ols}
use Rattle.mv_vpsext.proofs.Numbering.{ols_more}
use Rattle.mv_vpsext.proofs.derived.all_ols.Goals as goal

pub loop-set-preserved : goal.loop-set-preserved
loop-set-preserved c =
    ols_more c.args.sizes.now c.loop-set.yielded c.in-Some.set c.loop-set.all.items c.push.new.self.items c.new.result c.len-number.result
    c.loop-set.invariant (search rules) (c.new.ensures ∙ ap (ols_value c.in-Some.set) c.reorder.ensures) c.in_ok-push.ensures.items

pub returns : goal.returns
unfolding all_ols
returns c =
    let given : into_iter_items c.into_iter-set-iterator.result ≡ c.args.sets.items = search rules in
    let count : into_iter_len c.into_iter-set-iterator.result ≡ length c.args.sets.items = search rules in
    let ended = YieldsList-end (YieldsList-from_vec c.args.sets.items given count) c.loop-set.yielded c.loop-set.set-iterator c.loop-set.yielded_by c.next.result c.next.new.self c.in-None.is c.next.ensures.steps in
    let all : c.loop-set.yielded ≡ c.args.sets.items = sym (map-id c.loop-set.yielded) ∙ ended.0 in
    c.loop-set.invariant ∙ ap (λ sets. map (numbered_ols c.args.sizes.now) (enumerate_from 0 sets)) all
