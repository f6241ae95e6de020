use Rattle.std.proofs.Common.{◌≡◌, ◌+◌, ◌≤◌, ◌∷◌, ◌∙◌, length, ap, sym, subst, rules, arith, if◌then◌else◌}
use Rattle.std.specs.Prelude.{Ok, Err}
use Rattle.mv_pictures.specs.AccessUnits.{all_placed}
use Rattle.mv_au.specs.Tracker.{Stands, latest_au}
use Rattle.mv_au.specs.Tracking.{begins_by, joined, open_at}
use Rattle.mv_au.proofs.TrackerLaws.{answer-is, answered, au_by, few, stands-more}
use Rattle.mv_au.proofs.access_units.AuTracker.step.Goals as goal

pub returns-in_err-picture-clause-answer : goal.returns-in_err-picture-clause-answer
returns-in_err-picture-clause-answer c = λ us i stands seen small.
    let s = c.args.self.now in
    let begins = begins_by s.picture c.args.head c.args.first in
    let refused : c.from_residual.result ≡ Err c.in_err-picture.field-0.0 = search rules in
    let by : joined (open_at begins s.picture) c.args.head c.args.first ≡ Err c.in_err-picture.field-0.0 = search rules in
    refused ∙ sym (ap (answered (au_by s begins) begins) by) ∙ answer-is s us i c.args.head c.args.first stands seen

pub returns-clause-answer : goal.returns-clause-answer
returns-clause-answer c = λ us i stands seen small.
    let s = c.args.self.now in
    let begins = begins_by s.picture c.args.head c.args.first in
    let by : joined (open_at begins s.picture) c.args.head c.args.first ≡ Ok c.in_ok-picture.picture = search rules in
    let begun : c.begins_behind-begins.result ≡ begins = c.begins_behind-begins.ensures ∙ ap (λ t. begins_by t.picture c.args.head c.args.first) c.self.view_is in
    let same : c.self.inside.au ≡ s.au = ap (λ t. t.au) c.self.view_is in
    let le : latest_au (all_placed us) ≤ length us = few us in
    let number : c.number_at-au.result ≡ au_by s begins =
    c.number_at-au.ensures (omega (arith, same, stands.number, le, small)) ∙ ap (λ b. c.self.inside.au + (if b then 1 else 0)) begun ∙ ap (λ n. n + (if begins then 1 else 0)) same in
    ap (λ n. answered n c.begins_behind-begins.result (Ok c.in_ok-picture.picture)) number ∙ ap (λ b. answered (au_by s begins) b (Ok c.in_ok-picture.picture)) begun
    ∙ sym (ap (answered (au_by s begins) begins) by) ∙ answer-is s us i c.args.head c.args.first stands seen

pub returns-clause-stands : goal.returns-clause-stands
returns-clause-stands c = λ us i stands seen small ok.
    let s = c.args.self.now in
    let begins = begins_by s.picture c.args.head c.args.first in
    let by : joined (open_at begins s.picture) c.args.head c.args.first ≡ Ok c.in_ok-picture.picture = search rules in
    let begun : c.begins_behind-begins.result ≡ begins = c.begins_behind-begins.ensures ∙ ap (λ t. begins_by t.picture c.args.head c.args.first) c.self.view_is in
    let same : c.self.inside.au ≡ s.au = ap (λ t. t.au) c.self.view_is in
    let le : latest_au (all_placed us) ≤ length us = few us in
    let number : c.number_at-au.result ≡ au_by s begins =
    c.number_at-au.ensures (omega (arith, same, stands.number, le, small)) ∙ ap (λ b. c.self.inside.au + (if b then 1 else 0)) begun ∙ ap (λ n. n + (if begins then 1 else 0)) same in
    let next : Stands (record { au = au_by s begins; picture = c.in_ok-picture.picture }) (i ∷ us) = stands-more s us i c.args.head c.args.first stands seen c.in_ok-picture.picture by in
    subst (λ n. Stands (record { au = n; picture = c.in_ok-picture.picture }) (i ∷ us)) (sym number) next
