use Rattle.std.proofs.Common.{◌≡◌, ◌++◌, List, ℕ, ap, sym, ◌∙◌, subst, OnOk, OnErr}
use Rattle.mv_io.specs.Sink.{Appends, AppendsPrefix}
use Rattle.mv_lenform.proofs.Carried.{lenform-one}
use Rattle.mv_lenform.proofs.carrier.prefix.Goals as goal

pub returns-clause-all : goal.returns-clause-all
returns-clause-all g c =
    let bytes : c.to_be_bytes-length.result ++ c.args.unit.now ≡ _ = ap (λ v. v ++ c.args.unit.now) c.to_be_bytes-length.ensures ∙ sym (lenform-one c.args.unit.now) in
    subst (λ (s : List ℕ). OnOk c.write_both.result (Appends (g.K.Sink.state c.args.sink.now).taken (g.K.Sink.state c.write_both.new.sink).taken s)) bytes c.write_both.ensures.all

pub returns-clause-failed : goal.returns-clause-failed
returns-clause-failed g c =
    let bytes : c.to_be_bytes-length.result ++ c.args.unit.now ≡ _ = ap (λ v. v ++ c.args.unit.now) c.to_be_bytes-length.ensures ∙ sym (lenform-one c.args.unit.now) in
    subst (λ (s : List ℕ). OnErr c.write_both.result (AppendsPrefix (g.K.Sink.state c.args.sink.now).taken (g.K.Sink.state c.write_both.new.sink).taken s)) bytes c.write_both.ensures.failed
