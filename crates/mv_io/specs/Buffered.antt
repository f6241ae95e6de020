-- A sink that hands its bytes on to another one, in large pieces.
use Rattle.std.specs.Prelude.{ℕ, ◌≡◌, List, ◌++◌, take, drop, refl}
use Rattle.std.specs.Coded.{Coded, code_by, coded×, coded_list, coded_ℕ}
use Rattle.std.specs.Option.{option_map}
use Rattle.mv_io.specs.Sink.{SinkState, Appends}

-- such a sink, as its callers see it
pub record Buffering (K : Type 0) : Type 0 where
  -- the sink below
  pub below : K
  -- the bytes that were handed in and not yet on, the next one first
  pub waiting : List ℕ

-- it is stored as the pair of its fields
abbrev pub buffering_code : {K : Type 0} → Coded K → Coded (Buffering K)
buffering_code {K} code =
    code_by (K × List ℕ) (coded× code (coded_list coded_ℕ)) (λ b. (b.below, b.waiting))
    (λ p. record { below = p.0; waiting = p.1 }) (λ _. refl)

-- what it shows of itself: it has taken the bytes that were handed in, so those that the sink below took and
-- behind them those that wait, and its faults are that sink's
abbrev pub buffered_state : SinkState → List ℕ → SinkState
buffered_state below waiting =
    record { taken = option_map (λ had. had ++ waiting) below.taken; faults = below.faults }

-- of these bytes, in their order, the sink below took the first few in the call, and the others wait
pub record HandsOn (old new : SinkState) (bytes waiting : List ℕ) : Type 0 where
  pub count : ℕ
  pub taken : Appends old.taken new.taken (take count bytes)
  pub others_wait : waiting ≡ drop count bytes
