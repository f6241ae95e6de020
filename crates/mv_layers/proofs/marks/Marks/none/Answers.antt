use Rattle.std.proofs.Common.{◌≡◌, false, replicate, get_or, ap, ◌∙◌, sym}
use Rattle.mv_layers.proofs.MarkLaws.{none_marked}
use Rattle.mv_layers.proofs.marks.Marks.none.Goals as goal

pub returns : goal.returns
returns c k =
    let all : c.in_ok-vec.field-0.items ≡ replicate 256 false = c.in_ok-vec.ensures.items_if_clones_equal (λ y h. h) in
    ap (λ marks. get_or marks k false) all ∙ none_marked 256 k
