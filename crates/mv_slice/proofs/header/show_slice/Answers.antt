use Rattle.std.proofs.lemmas.Result.{on_ok_weaker}
use Rattle.mv_slice.specs.Slice.{slice_fields, slice_header}
use Rattle.mv_slice.proofs.Heads.{head_shown}
use Rattle.mv_slice.proofs.header.show_slice.Goals as goal

pub returns : goal.returns
unfolding slice_header
returns c =
    on_ok_weaker c.print_fields.result (head_shown (slice_fields c.args.ctx.now c.args.head.kind) c.args.value.now _ _ c.requires.text) c.print_fields.ensures
