use Rattle.std.proofs.Common.{arith, ap, sym, ◌++◌}
use borrow.Author.Tests.{ltb-true}
use Rattle.mv_bytestream.proofs.Prevented.{prevents-none, prevents-end, prevents-low, three-put}
use Rattle.mv_bytestream.proofs.escaping.prevent.Goals as goal
use Rattle.mv_bytestream.proofs.escaping.prevent.Goals.{in_default-via-then-rest-lt1, in_default-via-in-len1-up+else-above-gt-GREATEST}

pub returns-in-len1-up : goal.returns-in-len1-up
returns-in-len1-up c = ap (λ s. c.args.unit.now.items ++ s) (sym (prevents-none c.args.rest.now c.in-len1-up.len_at_least c.if-above-gt-GREATEST.true))

pub returns-in_ok-push-in_default : goal.returns-in_ok-push-in_default
returns-in_ok-push-in_default c =
    three-put c.args.unit.now.items c.push.new.self.items c.args.rest.now c.in_ok-push-in_default.ensures.items
    (elim c.in_default.branch [
      | in_default-via-then-rest-lt1 w ↦ prevents-end c.args.rest.now (omega (arith, ltb-true))
      | in_default-via-in-len1-up+else-above-gt-GREATEST w ↦ prevents-low c.args.rest.now w.in-len1-up.len_at_least w.if-above-gt-GREATEST.false
    ])
