use Rattle.std.proofs.Common.{ℕ, length, refl, ap, sym, ◌∙◌}
use Rattle.mv_pictures.specs.History.{history_of}
use Rattle.mv_walk_sets.specs.InForce.{VpsInForceValue}
use Rattle.mv_walk.proofs.Ended.{ends-err, none-ends, totals-end, unset-ends}
use Rattle.mv_walk.proofs.course.Course.end.Goals as goal

pub returns-in_default-clause-ends : goal.returns-in_default-clause-ends
returns-in_default-clause-ends g c = λ us s. unset-ends c.args.self.now us c.args.units c.args.kept s c.in_default.is

pub returns-then-pictures-eq0-clause-ends : goal.returns-then-pictures-eq0-clause-ends
returns-then-pictures-eq0-clause-ends g c = λ us s. none-ends c.args.self.now us c.args.units c.args.kept s (sym c.pictures.ensures ∙ c.if-pictures-eq0.true)

pub end-requires : goal.end-requires
end-requires g c = record { kept = record { past = history_of c.requires.stood.0; keeps = c.requires.stood.1.decoder_is.keeps } }

pub returns-in-Err-clause-ends : goal.returns-in-Err-clause-ends
returns-in-Err-clause-ends g c = λ us s. ends-err ℕ us c.args.units c.args.kept c.in-Err.stop c.in-Err.ensures.breaks

pub returns-clause-ends : goal.returns-clause-ends
returns-clause-ends g c = λ us s.
    totals-end c.args.self.now us c.args.units c.args.kept c.in-Some.vps _ c.end.new.self s (c.in_default-end.ensures.closes (history_of us) s.decoder_is.keeps) (sym c.pictures.ensures) c.if-pictures-eq0.false c.in-Some.is
    c.pictures-2.ensures c.sequences.ensures (c.layers_of.ensures ∙ ap (λ (v : VpsInForceValue). length v.value.derived.layers) c.vps.view_is) (c.ols_count.ensures ∙ ap (λ (v : VpsInForceValue). length v.value.derived.sets) c.vps.view_is) refl refl
