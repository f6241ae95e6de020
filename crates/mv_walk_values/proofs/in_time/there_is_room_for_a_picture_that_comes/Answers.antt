use Rattle.mv_walk_values.proofs.Room.{has_room}
use Rattle.mv_walk_values.proofs.in_time.there_is_room_for_a_picture_that_comes.Goals as goal

pub returns : goal.returns
returns g c = has_room
