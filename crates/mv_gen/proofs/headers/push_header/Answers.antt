use Rattle.std.proofs.Common.{◌≡◌, ◌++◌, List, ℕ, OnOk, subst}
use Rattle.mv_gen.proofs.HeaderBytes.{header_of_base, header_of_second}
use Rattle.mv_gen.proofs.headers.push_header.Goals as goal

pub returns-then-layer-eq0 : goal.returns-then-layer-eq0
returns-then-layer-eq0 c =
    subst (λ (b : List ℕ). OnOk c.push_base_header.result (c.push_base_header.new.bytes.items ≡ c.args.bytes.now.items ++ b))
    (header_of_base c.args.layer c.args.lsb c.if-layer-eq0.true c.requires.lsb) c.push_base_header.ensures

pub returns : goal.returns
returns c =
    subst (λ (b : List ℕ). OnOk c.push_second_header.result (c.push_second_header.new.bytes.items ≡ c.args.bytes.now.items ++ b))
    (header_of_second c.args.layer c.args.lsb c.requires.layer c.if-layer-eq0.false c.requires.lsb) c.push_second_header.ensures
