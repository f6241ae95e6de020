use Rattle.std.proofs.Common.{◌≡◌, ◌-◌, ap, ◌∙◌}
use Rattle.mv_slice.specs.Context.{SliceContextValue}
use Rattle.mv_slice.specs.Picture.{picture}
use Rattle.mv_slice.proofs.picture.print_picture.Goals as goal

pub returns : goal.returns
unfolding picture
returns c =
    let lsb : c.ctx.inside.lsb_bits ≡ c.args.ctx.now.lsb_bits = ap (λ (ctx : SliceContextValue). ctx.lsb_bits) c.ctx.view_is in
    let extra : c.from-reserved.result ≡ c.args.ctx.now.num_extra_slice_header_bits - 2 =
    c.from-reserved.ensures ∙ c.saturating_sub.ensures ∙ ap (λ (ctx : SliceContextValue). ctx.num_extra_slice_header_bits - 2) c.ctx.view_is in
    rw (← c.v.view_is)
    (rw
    (c.in_ok-u16_if.ensures, c.in_ok-flag_if-2.ensures, c.in_ok-ue.ensures, c.in_ok-u8s.ensures, c.in_ok-unset_flag_if.ensures, c.in_ok-flag_if.ensures, lsb, extra, c.deref.ensures.value)
    at c.in_ok-print_references_if.ensures)
