-- What a sink took of a framed unit: its start code and its bytes, where the first or the second write failed.
use Rattle.std.proofs.Common.{◌≡◌, ℕ, Option, List, [], ◌∷◌, ◌++◌, ap, sym, subst, append-nil, Result, Ok, Err, OnOk, OnErr}
use Rattle.mv_io.specs.declared.sink.SinkFailed.{SinkFailed}
use Rattle.mv_io.specs.Sink.{Appends, AppendsPrefix}
use Rattle.mv_io.proofs.Appends.{Appends-then, AppendsPrefix-first, AppendsPrefix-then}
use Rattle.mv_units.specs.Framing.{frame, long_code}

-- the byte stream of one unit
pub frame-one : (u : List ℕ) → frame (u ∷ []) ≡ long_code ++ u
unfolding frame
frame-one u = ap (λ s. long_code ++ s) (append-nil u)

-- the two writes of `frame`
pub frame-written : (r : Result (Unit {0}) SinkFailed) (old mid new : Option (List ℕ)) (u : List ℕ) → Appends old mid long_code → OnOk r (Appends mid new u) → OnOk r (Appends old new (frame (u ∷ [])))
frame-written (Ok x) old mid new u first next = subst (Appends old new) (sym (frame-one u)) (Appends-then old mid new long_code u first next)
frame-written (Err x) old mid new u first next = tt

pub frame-failed : (r : Result (Unit {0}) SinkFailed) (old mid new : Option (List ℕ)) (u : List ℕ) → Appends old mid long_code → OnErr r (AppendsPrefix mid new u) → OnErr r (AppendsPrefix old new (frame (u ∷ [])))
frame-failed (Ok x) old mid new u first next = tt
frame-failed (Err x) old mid new u first next = subst (AppendsPrefix old new) (sym (frame-one u)) (AppendsPrefix-then old mid new long_code u first next)

pub code-failed : (old mid : Option (List ℕ)) (u : List ℕ) → AppendsPrefix old mid long_code → AppendsPrefix old mid (frame (u ∷ []))
code-failed old mid u h = subst (AppendsPrefix old mid) (sym (frame-one u)) (AppendsPrefix-first old mid long_code u h)
