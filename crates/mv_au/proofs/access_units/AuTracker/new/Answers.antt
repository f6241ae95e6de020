use Rattle.std.proofs.Common.{refl}
use Rattle.mv_history.specs.History.{run}
use Rattle.mv_pictures.specs.AccessUnits.{all_placed}
use Rattle.mv_au.specs.Tracker.{latest_au, latest_picture}
use Rattle.mv_au.proofs.access_units.AuTracker.new.Goals as goal

pub returns : goal.returns
unfolding all_placed run latest_au latest_picture
returns c = record { kept = tt; number = refl; picture = refl }
