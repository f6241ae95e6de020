use Rattle.std.proofs.Common.{ℕ, ◌≡◌, ◌+◌, ◌-◌, ◌≤◌, ◌<◌, List, length, take, drop, arith, rules}
use Rattle.std.proofs.lemmas.List.{take_rest, take_all, length-drop}
use Rattle.mv_io.proofs.Appends.{Appends-nothing, Appends-part}
use Rattle.mv_io.proofs.sink.write_all.Goals as goal

-- how much of a slice is left at a place
length-rest : (bytes : List ℕ) (at : ℕ) → length (take (length bytes - at) (drop at bytes)) ≡ length bytes - at
length-rest bytes at = rw (take_rest bytes at) (length-drop at bytes)

-- what is written after one more write is within the slice
within-more : (bytes : List ℕ) (at n : ℕ) → at < length bytes → n ≤ length (take (length bytes - at) (drop at bytes)) → at + n ≤ length bytes
within-more bytes at n before most = omega (arith, length-rest bytes at, before, most)

pub loop-written-init : goal.loop-written-init
loop-written-init g c = record { within = omega arith; appended = Appends-nothing _; never_falls = omega arith }

pub slice_bounds-write-count : goal.slice_bounds-write-count
slice_bounds-write-count g c = c.loop-written.invariant.within

pub slice_bounds-write-start : goal.slice_bounds-write-start
slice_bounds-write-start g c = omega (arith, c.loop-written.invariant.within)

pub slice_bounds-write-end : goal.slice_bounds-write-end
slice_bounds-write-end g c = omega (arith, c.loop-written.invariant.within)

pub write-requires : goal.write-requires
write-requires g c = omega (arith, length-rest c.args.bytes.now c.loop-written.written, c.loop-written-test.true)

pub overflow_add-written : goal.overflow_add-written
overflow_add-written g c =
    let within = within-more c.args.bytes.now c.loop-written.written c.in-Ok.count c.loop-written-test.true c.in-Ok.ensures.bound.1 in
    search rules

pub loop-written-smaller : goal.loop-written-smaller
loop-written-smaller g c = omega (arith, c.loop-written-test.true, c.in-Ok.ensures.bound.0)

pub loop-written-preserved : goal.loop-written-preserved
loop-written-preserved g c =
    record {
      within = within-more c.args.bytes.now c.loop-written.written c.in-Ok.count c.loop-written-test.true c.in-Ok.ensures.bound.1;
      appended = Appends-part _ _ _ c.args.bytes.now _ _ c.loop-written.invariant.appended c.in-Ok.ensures.appends.appends;
      never_falls = omega (arith, c.loop-written.invariant.never_falls, c.in-Ok.ensures.cause.never_falls);
    }

pub returns-in-Err-clause-failed : goal.returns-in-Err-clause-failed
returns-in-Err-clause-failed g c =
    record {
      count = c.loop-written.written;
      not_all = c.loop-written-test.true;
      appends = rw c.in-Err.ensures.appends.fails c.loop-written.invariant.appended;
    }

pub returns-in-Err-clause-cause : goal.returns-in-Err-clause-cause
returns-in-Err-clause-cause g c =
    record {
      never_falls = omega (arith, c.loop-written.invariant.never_falls, c.in-Err.ensures.cause.never_falls);
      rose = omega (arith, c.loop-written.invariant.never_falls, c.in-Err.ensures.cause.rose);
    }

pub returns-clause-all : goal.returns-clause-all
returns-clause-all g c =
    rw (← take_all c.loop-written.written c.args.bytes.now c.loop-written-test.false) c.loop-written.invariant.appended

pub returns-clause-cause : goal.returns-clause-cause
returns-clause-cause g c = record { never_falls = c.loop-written.invariant.never_falls; rose = tt }
