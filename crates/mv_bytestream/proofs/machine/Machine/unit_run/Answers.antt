use Rattle.std.proofs.Common.{◌≡◌, ◌≤◌, ◌+◌, ◌-◌, false, ℕ, List, length, take, refl, subst, arith}
use Rattle.std.proofs.lemmas.List.{length-take, length-take-le}
use Rattle.mv_units.specs.Units.{has_code, trimmed}
use Rattle.mv_units.specs.Rules.{has_emulation, longest_unit}
use Rattle.mv_bytestream.proofs.Ends.{ok-items}
use Rattle.mv_bytestream.proofs.Takes.{run-takes, run-view, take-within, three-off}
use Rattle.mv_bytestream.proofs.machine.Machine.unit_run.Goals as goal

pub returns-clause-takes : goal.returns-clause-takes
returns-clause-takes c =
    let m = c.args.self.now in
    let bytes : List ℕ = c.args.bytes.now in
    let count : ℕ = c.run_length-count.result in
    let low : count ≤ length (take c.min-room.result bytes) = c.run_length-count.ensures.within in
    let same : take count (take c.min-room.result bytes) ≡ take count bytes = take-within count c.min-room.result bytes low in
    let inside : count ≤ length bytes = omega (arith, length-take c.min-room.result bytes) in
    let long : length (take count bytes) ≡ count = length-take-le count bytes inside in
    let room : count ≤ longest_unit - length m.unit.items = omega (arith, length-take c.min-room.result bytes, m.unit.ok.0) in
    run-takes m (record m { fed = m.fed + count; unit = c.extend_from_slice.new.self }) (take count bytes) c.requires.stage c.requires.none
    (omega (arith, long, m.unit.ok.0, c.requires.held.most))
    (subst (λ w. has_code w ≡ false) same c.run_length-count.ensures.clean)
    (subst (λ w. has_emulation w ≡ false) same c.run_length-count.ensures.quiet)
    (subst (λ w. trimmed w ≡ w) same c.run_length-count.ensures.ends)
    (three-off m.unit.items c.deref.result.now bytes count c.ends_in_three.result (omega arith) c.ends_in_three.ensures c.deref.ensures.value c.if-bytes-ends_in_three.false)
    (run-view m (record m { fed = m.fed + count; unit = c.extend_from_slice.new.self }) (take count bytes) count c.requires.stage refl refl refl c.requires.none
    (ok-items c.extend_from_slice.result _ _ _ (c.extend_from_slice.ensures.succeeds (omega (arith, c.requires.room, long, room))) c.extend_from_slice.ensures.items) long)
