-- What is kept of starts.
use Rattle.std.specs.Prelude.{Bool, List}
use Rattle.mv_au.specs.declared.states.LayerState.{LayerState}

-- the state of each layer; whether the next base picture starts a sequence, and whether the latest one started one
pub record StatesValue : Type 0 where
  pub layers : List LayerState
  pub anew : Bool
  pub in_first_au : Bool
