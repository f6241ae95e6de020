-- Each answer of the visitor to one unit more and to the end, from what its walker makes of it.
use Rattle.std.proofs.Common.{◌≡◌, ◌≤◌, ◌<◌, ◌+◌, ◌^◌, ℕ, Bool, true, false, List, [], ◌∷◌, ◌++◌, length, None, Some, Ok, Err, ap, sym, subst, ◌∙◌, inl, inr}
use Rattle.std.proofs.lemmas.List.{length-map}
use Rattle.mv_io.specs.Faults.{Rose}
use Rattle.mv_io.specs.Sink.{SinkState, Appends, AppendsPrefix}
use Rattle.mv_units.specs.Framing.{frame}
use Rattle.mv_units.specs.Units.{NalUnit}
use Rattle.mv_engine.specs.declared.error.Ending.{Ending}
use Rattle.mv_engine.specs.declared.error.Ending.TheVariants.{Objects, Fault}
use Rattle.mv_engine.specs.Meaning.{Ends, Visits}
use Rattle.mv_engine.specs.Writing.{Gained}
use Rattle.mv_engine.proofs.Written.{gained-part, gained-same, gained-then}
use Rattle.mv_pictures.specs.Items.{stays}
use Rattle.mv_pictures.specs.Verdict.{bytes_of}
use Rattle.mv_commuting.specs.OneMore.{fact_behind}
use Rattle.mv_walk_laws.specs.Streams.{objected}
use Rattle.mv_walk.specs.declared.step.Totals.{Totals}
use Rattle.mv_extract.specs.declared.error.WorkFault.{WorkFault}
use Rattle.mv_extract.specs.declared.error.WorkFault.TheVariants.{Write}
use Rattle.mv_extract.specs.Accepting.{Accepts, Ends as Closes}
use Rattle.mv_extract.specs.Extractor.{extractor}
use Rattle.mv_extract.specs.Task.{left_by, working}
use Rattle.mv_extract.specs.Text.{kept_text, total}
use Rattle.mv_extract.proofs.Accepted.{bytes-push, ending-none, ending-some, late-is, text-dropped, text-kept}

-- there are as many units as their bytes
pub countable : (us : List NalUnit) (number : ℕ) → number ≡ length us → number + 1 < 2 ^ 64 → length (bytes_of us) + 1 < 2 ^ 64
countable us number counted small = subst (λ n. n + 1 < 2 ^ 64) (counted ∙ sym (length-map us (λ (u : NalUnit). u.bytes))) small

late_none : (o n : ℕ) (us : List NalUnit) (u : NalUnit) → o ≡ n → objected o (bytes_of us) u.bytes ≡ None → objected n (bytes_of us) u.bytes ≡ None
late_none o n us u same e = subst (λ m. objected m (bytes_of us) u.bytes ≡ None) same e

-- it is objected to, or memory was wanting
pub objects : {V O : Type 0} (state : O → SinkState) (asked : V → ℕ) (walks : V → List (List ℕ) → Type 0) (totals : V → Totals) (start new : V) (first out : O) (us : List NalUnit) (u : NalUnit) (o : ℕ) (standing : List (List ℕ) → Type 0) (ending : Ending WorkFault) →
    o ≡ asked start → Accepts o (bytes_of us) u.bytes standing (Err ending) → Gained (state first) (state out) (kept_text (asked start) us) →
    Visits (working state (extractor asked walks totals)) start first new out us u (Err ending)
objects state asked walks totals start new first out us u o standing (Objects why) same accepts wrote =
    (late-is (asked start) us u ∙ subst (λ m. objected m (bytes_of us) u.bytes ≡ Some why) same accepts, wrote)
objects state asked walks totals start new first out us u o standing (Fault fault) same accepts wrote =
    inl (subst (λ f. left_by f (state first) (state out) (kept_text (asked start) us)) (sym accepts) wrote)

-- what stands behind an accepted unit
accepted : {V : Type 0} (asked : V → ℕ) (walks : V → List (List ℕ) → Type 0) (start new : V) (us : List NalUnit) (u : NalUnit) → asked new ≡ asked start → walks new (bytes_of us ++ u.bytes ∷ []) → (asked new ≡ asked start) × walks new (bytes_of (us ++ u ∷ []))
accepted asked walks start new us u same stands = (same, subst (walks new) (sym (bytes-push us u)) stands)

-- what is kept, by the set that was asked for at the start
kept_of : (o n : ℕ) (us : List NalUnit) (u : NalUnit) (kept : Bool) → o ≡ n → kept ≡ stays o (fact_behind (bytes_of us) u.bytes).placed.item → kept ≡ stays n (fact_behind (bytes_of us) u.bytes).placed.item
kept_of o n us u kept same is = is ∙ ap (λ m. stays m (fact_behind (bytes_of us) u.bytes).placed.item) same

-- it is accepted and not kept
pub drops : {V O : Type 0} (state : O → SinkState) (asked : V → ℕ) (walks : V → List (List ℕ) → Type 0) (totals : V → Totals) (start new : V) (first out : O) (us : List NalUnit) (u : NalUnit) (o : ℕ) (kept : Bool) →
    o ≡ asked start → asked new ≡ asked start → Accepts o (bytes_of us) u.bytes (walks new) (Ok kept) → kept ≡ false → Gained (state first) (state out) (kept_text (asked start) us) →
    Visits (working state (extractor asked walks totals)) start first new out us u (Ok tt)
drops state asked walks totals start new first out us u o kept same later accepts dropped wrote = (
  late-is (asked start) us u ∙ late_none o (asked start) us u same accepts.0,
  accepted asked walks start new us u later accepts.1,
  gained-same _ _ (kept_text (asked start) us) _ wrote (text-dropped (asked start) us u kept (kept_of o (asked start) us u kept same accepts.2) dropped),
)

-- it is accepted and written
pub frames : {V O : Type 0} (state : O → SinkState) (asked : V → ℕ) (walks : V → List (List ℕ) → Type 0) (totals : V → Totals) (start new : V) (first old out : O) (us : List NalUnit) (u : NalUnit) (o : ℕ) (kept : Bool) →
    o ≡ asked start → asked new ≡ asked start → Accepts o (bytes_of us) u.bytes (walks new) (Ok kept) → kept ≡ true → Gained (state first) (state old) (kept_text (asked start) us) →
    Appends (state old).taken (state out).taken (frame (u.bytes ∷ [])) → (state old).faults ≤ (state out).faults →
    Visits (working state (extractor asked walks totals)) start first new out us u (Ok tt)
frames state asked walks totals start new first old out us u o kept same later accepts kept_true wrote appends falls = (
  late-is (asked start) us u ∙ late_none o (asked start) us u same accepts.0,
  accepted asked walks start new us u later accepts.1,
  gained-then _ _ _ (kept_text (asked start) us) _ _ wrote appends falls (text-kept (asked start) us u kept (kept_of o (asked start) us u kept same accepts.2) kept_true),
)

-- it is accepted, and its write failed
pub fails : {V O : Type 0} (state : O → SinkState) (asked : V → ℕ) (walks : V → List (List ℕ) → Type 0) (totals : V → Totals) (start new : V) (first old out : O) (us : List NalUnit) (u : NalUnit) (o : ℕ) (kept : Bool) (standing : List (List ℕ) → Type 0) →
    o ≡ asked start → Accepts o (bytes_of us) u.bytes standing (Ok kept) → kept ≡ true → Gained (state first) (state old) (kept_text (asked start) us) →
    AppendsPrefix (state old).taken (state out).taken (frame (u.bytes ∷ [])) → (state old).faults ≤ (state out).faults → Rose (state old).faults (state out).faults →
    Visits (working state (extractor asked walks totals)) start first new out us u (Err (Fault Write))
fails state asked walks totals start new first old out us u o kept standing same accepts kept_true wrote appends falls rose = inr (
  late-is (asked start) us u ∙ late_none o (asked start) us u same accepts.0,
  gained-part _ _ _ (kept_text (asked start) us) _ _ wrote appends falls rose (text-kept (asked start) us u kept (kept_of o (asked start) us u kept same accepts.2) kept_true),
)

-- the end is accepted
pub closes : {V O : Type 0} (state : O → SinkState) (asked : V → ℕ) (walks : V → List (List ℕ) → Type 0) (totals : V → Totals) (start new : V) (first out : O) (us : List NalUnit) (o : ℕ) (answer : Totals) →
    o ≡ asked start → totals new ≡ answer → Closes o (bytes_of us) (Ok answer) → Gained (state first) (state out) (kept_text (asked start) us) →
    Ends (working state (extractor asked walks totals)) start first new out us (Ok tt)
closes state asked walks totals start new first out us o answer same holds closed wrote = (
  ending-none (asked start) us closed.0,
  (holds ∙ closed.1 ∙ ap (λ n. total n us) same, wrote),
)

-- the end is objected to, or memory was wanting
pub ends : {V O : Type 0} (state : O → SinkState) (asked : V → ℕ) (walks : V → List (List ℕ) → Type 0) (totals : V → Totals) (start new : V) (first out : O) (us : List NalUnit) (o : ℕ) (ending : Ending WorkFault) →
    Closes o (bytes_of us) (Err ending) → Gained (state first) (state out) (kept_text (asked start) us) →
    Ends (working state (extractor asked walks totals)) start first new out us (Err ending)
ends state asked walks totals start new first out us o (Objects why) closed wrote = (ending-some (asked start) us why closed.0 closed.1, wrote)
ends state asked walks totals start new first out us o (Fault fault) closed wrote =
    subst (λ f. left_by f (state first) (state out) (kept_text (asked start) us)) (sym closed) wrote
