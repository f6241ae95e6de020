use Rattle.std.proofs.Common.{◌≤◌, take, sym, ap, ◌∙◌, subst}
use Rattle.mv_vps.specs.Formats.{chroma_behind, rep_formats_of}
use Rattle.mv_vps.proofs.Getting.{vps_small}
use Rattle.mv_vps.proofs.vps.Vps.format.Goals as goal

pub format_at-requires-clause-luma : goal.format_at-requires-clause-luma
format_at-requires-clause-luma c = λ n.
    subst (λ fs. (chroma_behind (take n fs)).bit_depth_vps_luma_minus8 ≤ 8) (sym (c.rep_formats_of.ensures ∙ ap (λ v. rep_formats_of v.coded.0.extension) c.self.view_is))
    (vps_small c.args.self.now n c.requires).0

pub format_at-requires-clause-chroma : goal.format_at-requires-clause-chroma
format_at-requires-clause-chroma c = λ n.
    subst (λ fs. (chroma_behind (take n fs)).bit_depth_vps_chroma_minus8 ≤ 8) (sym (c.rep_formats_of.ensures ∙ ap (λ v. rep_formats_of v.coded.0.extension) c.self.view_is))
    (vps_small c.args.self.now n c.requires).1
