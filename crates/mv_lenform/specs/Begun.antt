-- A visitor that carries units has written nothing before the first.
use Rattle.std.specs.Prelude.{◌≡◌, ℕ, [], refl}
use Rattle.mv_io.specs.Sink.{SinkState}
use Rattle.mv_units.specs.Framing.{frame}
use Rattle.mv_engine.specs.Meaning.{Begins}
use Rattle.mv_engine.proofs.Written.{gained-nothing, gained-same}
use Rattle.mv_prefixed.specs.LenForm.{lenform}
use Rattle.mv_extract.specs.Task.{working}
use Rattle.mv_lenform.specs.Carrying.{carrier, text}
use Rattle.mv_lenform.specs.declared.carrier.Target.{Target}
use Rattle.mv_lenform.specs.declared.carrier.Target.TheVariants.{Prefixed, Framed}

pub text-nothing : (to : Target) → text to [] ≡ []
unfolding lenform frame
text-nothing Prefixed = refl
text-nothing Framed = refl

pub carrier-begins : {V O : Type 0} (state : O → SinkState) (to : V → Target) (count : V → ℕ) (start : V) (first : O) → count start ≡ 0 → Begins (working state (carrier to count)) start first
carrier-begins state to count start first opens = record {
  stands = (refl, opens);
  wrote = gained-same (state first) (state first) [] (text (to start) []) (gained-nothing (state first)) (text-nothing (to start));
}
