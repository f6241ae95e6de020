-- The answer that the bytes of an input decide, from the answer and its cause.
use Rattle.std.proofs.Common.{◌≡◌, ℕ, ◌≤◌, Bool, true, false, List, [], ◌∷◌, ◌++◌, length, Option, None, Some, Result, Ok, Err, refl, ap, ◌∙◌, IfSome, append-nil}
use Rattle.std.specs.Prelude.{⊤}
use Rattle.mv_io.specs.Call.{Input, Took}
use Rattle.mv_io.specs.Source.{Told, Takes, AtEnd}
use Rattle.mv_judging.specs.declared.stop.Stop.{Stop}
use Rattle.mv_judging.specs.Event.{Due, Stops, Exceeds, due, due_by, event, seen}
use Rattle.mv_judging.specs.Format.{Format, IsFormat}
use Rattle.mv_judging.specs.Judge.{Judge}
use Rattle.mv_judging.proofs.Seen.{due-whole, due-shown, due-over}
use Rattle.mv_engine.specs.declared.error.DriveError.{DriveError}
use Rattle.mv_engine.specs.declared.error.DriveError.TheVariants.{Stopped, Read, TooLong, Memory, Fault}
use Rattle.mv_engine.specs.Driven.{Driven, Settles}
use Rattle.mv_engine.specs.Meaning.{Meaning}

-- bytes that were taken up to the end are all that the source had
whole : (old new : Option Told) (bytes : List ℕ) → Takes old new bytes → AtEnd old new → IfSome old (λ was. was.left ≡ bytes)
whole None new bytes takes ends = tt
whole (Some was) None bytes takes ends = absurd takes
whole (Some was) (Some is) bytes takes ends = takes ∙ ap (λ rest. bytes ++ rest) ends.0 ∙ append-nil bytes

-- what the bytes held decide
abbrev pub Decided : Format → Judge → ℕ → Option Told → Due → Type 0
Decided f j limit old what = IfSome old (λ was. due f j limit was.left ≡ what)

pub by-event : (f : Format) (j : Judge) (is : IsFormat f) (limit : ℕ) (old new : Option Told) (taken : List ℕ) (e : Option Stop) → Takes old new taken → AtEnd old new → length taken ≤ limit → event f j taken ≡ e → Decided f j limit old (due_by e)
by-event f j is limit None new taken e takes ends within shows = tt
by-event f j is limit (Some was) new taken e takes ends within shows =
    ap (due f j limit) (whole (Some was) new taken takes ends) ∙ due-whole f j limit taken e is within shows

pub by-shown : (f : Format) (j : Judge) (is : IsFormat f) (limit : ℕ) (old new : Option Told) (taken : List ℕ) (stop : Stop) → Takes old new taken → length taken ≤ limit → seen f j false taken ≡ Some stop → Decided f j limit old (Stops stop)
by-shown f j is limit None new taken stop takes within shows = tt
by-shown f j is limit (Some was) None taken stop takes within shows = absurd takes
by-shown f j is limit (Some was) (Some now) taken stop takes within shows = ap (due f j limit) takes ∙ due-shown f j limit taken now.left stop is within shows

pub by-over : (f : Format) (j : Judge) (limit : ℕ) (old new : Option Told) (taken : List ℕ) (extra : ℕ) → Takes old new (taken ++ extra ∷ []) → length taken ≡ limit → seen f j false taken ≡ None → Decided f j limit old Exceeds
by-over f j limit None new taken extra takes full quiet = tt
by-over f j limit (Some was) None taken extra takes full quiet = absurd takes
by-over f j limit (Some was) (Some now) taken extra takes full quiet = ap (due f j limit) takes ∙ due-over f j limit taken now.left extra full quiet

pub excused : (old : Option Told) → IfSome old (λ was. ⊤)
excused None = tt
excused (Some was) = tt

by-stop : (f : Format) (j : Judge) (is : IsFormat f) (limit : ℕ) (input : Input) (taken : List ℕ) (ended : Bool) (stop : Stop) → Took input taken ended → length taken ≤ limit → seen f j ended taken ≡ Some stop → Decided f j limit input.old.told (Stops stop)
by-stop f j is limit input taken true stop took within shown = by-event f j is limit input.old.told input.new.told taken (Some stop) took.takes (took.at_end refl) within shown
by-stop f j is limit input taken false stop took within shown = by-shown f j is limit input.old.told input.new.told taken stop took.takes within shown

pub settles : {V O F : Type 0} (f : Format) (m : Meaning V O F) (is : IsFormat f) (start new : V) (first out : O) (limit : ℕ) (input : Input) (answer : Result ⊤ (DriveError F)) → Driven f m start new first out limit input answer → Settles f (m.judge start) limit input answer
settles f m is start new first out limit input (Ok done) driven calm =
    by-event f (m.judge start) is limit input.old.told input.new.told driven.taken None driven.took.takes (driven.took.at_end refl) driven.within driven.accepted
settles f m is start new first out limit input (Err (Stopped stop)) driven calm =
    by-stop f (m.judge start) is limit input driven.taken driven.ended stop driven.took driven.within driven.shown
settles f m is start new first out limit input (Err Read) driven calm = absurd (calm driven.rose)
settles f m is start new first out limit input (Err TooLong) driven calm =
    by-over f (m.judge start) limit input.old.told input.new.told driven.taken driven.extra driven.took.takes driven.limit_reached driven.quiet
settles f m is start new first out limit input (Err Memory) driven calm = excused input.old.told
settles f m is start new first out limit input (Err (Fault fault)) driven calm = excused input.old.told
