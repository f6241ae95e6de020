-- Causes of answers over a viewer.
use Rattle.std.proofs.Common.{◌≡◌, ℕ, ◌≤◌, ap, arith}
use Rattle.std.specs.Prelude.{Result, Ok, Err}
use Rattle.mv_io.specs.Faults.{HasCause, Rose}
use Rattle.mv_walk.specs.Decoders.{HasViewCause}
use Rattle.mv_rules.specs.declared.rule.Rule.{Rule}
use Rattle.mv_rules.specs.declared.refusal.ReadFault.{ReadFault}
use Rattle.mv_walk_sets.specs.declared.fault.VpsFault.{VpsFault}
use Rattle.mv_walk.specs.Ending.{of_read, of_vps}
use Rattle.mv_walk.specs.declared.ending.Stop.{Stop}

pub rose-later : (a b c : ℕ) → a ≤ b → Rose b c → Rose a c
rose-later a b c le rose = omega arith

-- a call that shows pictures
pub shown : {T : Type 0} (before now : ℕ) (result : Result T Stop) → HasCause before now result → HasViewCause before now result
shown {T} before now (Ok done) h = record { never_falls = h.never_falls; rose = λ is. absurd (let e : Ok done ≡ Err Stop.View = is in cc) }
shown before now (Err stop) h = record { never_falls = h.never_falls; rose = λ is. h.rose }

-- behind another one
pub behind : {T : Type 0} (a b c : ℕ) (result : Result T Stop) → a ≤ b → HasViewCause b c result → HasViewCause a c result
behind a b c result le h = record { never_falls = (let f : b ≤ c = h.never_falls in omega arith); rose = λ is. rose-later a b c le (h.rose is) }

-- the same failure, and another value
pub told : {T U : Type 0} (a b : ℕ) (r : Result T Stop) (s : Result U Stop) → HasViewCause a b r → (s ≡ Err Stop.View → r ≡ Err Stop.View) → HasViewCause a b s
told a b r s h same = record { never_falls = h.never_falls; rose = λ is. h.rose (same is) }

-- one that shows nothing
pub unseen : {T : Type 0} (a : ℕ) (result : Result T Stop) → (result ≡ Err Stop.View → ⊥) → HasViewCause a a result
unseen a result none = record { never_falls = omega arith; rose = λ is. absurd (none is) }

pub of-memory : {T : Type 0} (stop : Stop) → stop ≡ Stop.Memory → Path (Result T Stop) (Err stop) (Err Stop.View) → ⊥
of-memory {T} stop is wrong = let a : stop ≡ Stop.View = (let e : Path (Result T Stop) (Err stop) (Err Stop.View) = wrong in cc) in cc

-- a rule, and a set that is lacking, are no fault of a viewer
pub of-breaks : {T : Type 0} (rule : Rule) → Path (Result T Stop) (Err (Stop.Breaks rule)) (Err Stop.View) → ⊥
of-breaks rule wrong = cc

pub of-lacks : {T : Type 0} (asked count : ℕ) → Path (Result T Stop) (Err (Stop.Lacks asked count)) (Err Stop.View) → ⊥
of-lacks asked count wrong = cc

pub of-done : {T : Type 0} (done : T) → Path (Result T Stop) (Ok done) (Err Stop.View) → ⊥
of-done done wrong = cc

-- the same stop, of another answer
pub same-stop : {T U : Type 0} (stop : Stop) → Path (Result T Stop) (Err stop) (Err Stop.View) → Path (Result U Stop) (Err stop) (Err Stop.View)
same-stop stop e = ap Err (let s : stop ≡ Stop.View = cc in s)

-- of what a unit carries
pub read-unseen : {T : Type 0} (fault : ReadFault) → Path (Result T Stop) (Err (of_read fault)) (Err Stop.View) → ⊥
read-unseen (ReadFault.Refused rule) wrong = cc
read-unseen ReadFault.Memory wrong = cc

pub vps-unseen : {T : Type 0} (fault : VpsFault) → Path (Result T Stop) (Err (of_vps fault)) (Err Stop.View) → ⊥
vps-unseen (VpsFault.Refused rule) wrong = cc
vps-unseen (VpsFault.NoSuchSet asked count) wrong = cc
vps-unseen VpsFault.Memory wrong = cc
