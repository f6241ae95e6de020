use Rattle.std.proofs.Common.{◌≡◌, ◌∙◌, true, false, not, ap, sym, rules}
use Rattle.mv_au.specs.Agreement.{agrees_by, is_bad_by}
use Rattle.mv_au.proofs.AgreementLaws.{answer-is, told}
use Rattle.mv_au.proofs.agreement.agree.Goals as goal

pub returns-then-not-agrees : goal.returns-then-not-agrees
returns-then-not-agrees c = λ past f p first_is next_is later.
    let differs = not (agrees_by c.args.first.now c.args.head.0 c.args.head.1 c.args.next.now) in
    let bad = is_bad_by c.args.last_address c.args.next.now c.args.ctx.now in
    let e : differs ≡ true = search rules in
    sym (ap (λ b. told b bad) e)
    ∙ answer-is c.args.head.0 c.args.head.1 c.args.first.now c.args.next.now c.args.last_address c.args.ctx.now past f p first_is next_is later

pub returns-then-is_bad_address : goal.returns-then-is_bad_address
returns-then-is_bad_address c = λ past f p first_is next_is later.
    let differs = not (agrees_by c.args.first.now c.args.head.0 c.args.head.1 c.args.next.now) in
    let bad = is_bad_by c.args.last_address c.args.next.now c.args.ctx.now in
    let e : differs ≡ false = search rules in
    let d : bad ≡ true = search rules in
    sym (
    ap (λ b. told b bad) e
    ∙ ap (told false) d
    )
    ∙ answer-is c.args.head.0 c.args.head.1 c.args.first.now c.args.next.now c.args.last_address c.args.ctx.now past f p first_is next_is later

pub returns : goal.returns
returns c = λ past f p first_is next_is later.
    let differs = not (agrees_by c.args.first.now c.args.head.0 c.args.head.1 c.args.next.now) in
    let bad = is_bad_by c.args.last_address c.args.next.now c.args.ctx.now in
    let e : differs ≡ false = search rules in
    let d : bad ≡ false = search rules in
    sym (
    ap (λ b. told b bad) e
    ∙ ap (told false) d
    )
    ∙ answer-is c.args.head.0 c.args.head.1 c.args.first.now c.args.next.now c.args.last_address c.args.ctx.now past f p first_is next_is later
