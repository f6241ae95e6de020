use Rattle.mv_syntax.proofs.TableLaws.{reads-of}
use Rattle.mv_slice.specs.Picture.{picture}
use Rattle.mv_slice.specs.InterLayer.{inter_layer}
use Rattle.mv_slice.proofs.slice.full_of.Goals as goal

-- what was read is valid
pub num_pic_total_curr_of-requires-clause-picture : goal.num_pic_total_curr_of-requires-clause-picture
num_pic_total_curr_of-requires-clause-picture c = (reads-of (picture c.args.ctx.now c.args.nal_unit_type) _ _ _ c.in_ok-picture.ensures.0).valid

pub num_pic_total_curr_of-requires-clause-layers : goal.num_pic_total_curr_of-requires-clause-layers
num_pic_total_curr_of-requires-clause-layers c = (reads-of (inter_layer c.args.ctx.now) _ _ _ c.in_ok-inter_layer.ensures.0).valid
