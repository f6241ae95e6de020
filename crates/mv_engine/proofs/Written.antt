-- What a sink gains of one unit more.
use Rattle.std.proofs.Common.{◌≡◌, ℕ, ◌≤◌, List, [], ◌++◌, sym, subst, arith}
use Rattle.mv_io.specs.Faults.{Rose}
use Rattle.mv_io.specs.Sink.{SinkState, Appends, AppendsPrefix}
use Rattle.mv_io.proofs.Appends.{Appends-nothing, Appends-then, AppendsPrefix-then}
use Rattle.mv_engine.specs.Meaning.{Begins}
use Rattle.mv_engine.specs.Writing.{Gained, GainedPart, Writer, writing}

pub gained-nothing : (sink : SinkState) → Gained sink sink []
gained-nothing sink = record { appends = Appends-nothing sink.taken; never_falls = omega arith }

-- a text, and then more of it
pub gained-then : (first old new : SinkState) (xs ys whole : List ℕ) → Gained first old xs → Appends old.taken new.taken ys → old.faults ≤ new.faults → whole ≡ xs ++ ys → Gained first new whole
gained-then first old new xs ys whole gained more count is = record {
  appends = subst (Appends first.taken new.taken) (sym is) (Appends-then first.taken old.taken new.taken xs ys gained.appends more);
  never_falls = let falls = gained.never_falls in omega arith;
}

-- a text of which nothing more is written
pub gained-same : (first now : SinkState) (xs whole : List ℕ) → Gained first now xs → whole ≡ xs → Gained first now whole
gained-same first now xs whole gained is = subst (Gained first now) (sym is) gained

-- a text, and then a write that failed
pub gained-part : (first old new : SinkState) (xs ys whole : List ℕ) → Gained first old xs → AppendsPrefix old.taken new.taken ys → old.faults ≤ new.faults → Rose old.faults new.faults → whole ≡ xs ++ ys → GainedPart first new whole
gained-part first old new xs ys whole gained more count rose is = record {
  appends = subst (AppendsPrefix first.taken new.taken) (sym is) (AppendsPrefix-then first.taken old.taken new.taken xs ys gained.appends more);
  rose = earlier first.faults old.faults new.faults gained.never_falls rose;
  never_falls = let falls = gained.never_falls in omega arith;
}
  where
    earlier : (a b c : ℕ) → a ≤ b → Rose b c → Rose a c
    earlier a b c h rose = omega (arith, rose)

-- nothing was written before the first unit
pub writing-begins : {V O F : Type 0} (state : O → SinkState) (w : Writer V) (start : V) (first : O) → w.stands start start [] → w.text start [] ≡ [] → Begins {F = F} (writing state w) start first
writing-begins state w start first stands nothing = record {
  stands = stands;
  wrote = gained-same (state first) (state first) [] (w.text start []) (gained-nothing (state first)) nothing;
}
