-- Each answer of feeding a piece, and of the end of the input, to callers of a reader.
use Rattle.std.proofs.Common.{◌≡◌, ℕ, ◌+◌, ◌<◌, ◌≤◌, true, false, List, [], ◌∷◌, ◌++◌, length, take, drop, Option, None, Some, Result, Ok, Err, IfOk, IfErr, OnOk, OnErr, refl, ap, sym, ◌∙◌, subst, arith, inl, inr}
use Rattle.std.specs.Option.{option_to_list}
use Rattle.std.proofs.lemmas.List.{length-drop, drop-drop}
use Rattle.mv_rules.specs.declared.refusal.Refusal.{Refusal}
use Rattle.mv_bytestream.specs.declared.splitting.ScanFault.{ScanFault}
use Rattle.mv_bytestream.specs.declared.splitting.ScanFault.TheVariants.{Refused as RefusedFor, Memory}
use Rattle.mv_units.specs.Units.{NalUnit}
use Rattle.mv_lenform.specs.LenScan.{LenScan, StandsFor, TakesToUnit, RefusesPiece, RefusesEnd, handed_out}
use Rattle.mv_lenform.specs.Moves.{OpenBefore, Comes, Faults, cut_off}
use Rattle.mv_prefixed.specs.Reading.{len_units}
use Rattle.mv_lenform.specs.Stages.{IsHeld, bytes_held, scan_of, has_ended, waiting_at, refusal_at, unit_held}
use Rattle.mv_lenform.specs.declared.machine.Machine.{Machine}
use Rattle.mv_lenform.specs.declared.machine.Stage.TheVariants.{Reading, Refused, Ended}
use Rattle.mv_lenform.proofs.Stands.{stood-of, takes-piece, refuses-piece, ends-input, cuts-input}

-- a reader that reads on, as its callers see it
abbrev pub Reads : Machine → LenScan → Type 0
Reads m scan = (m.stage ≡ Reading) × (scan_of m ≡ scan)

along : (m : Machine) (scan : LenScan) (s : List ℕ) → scan_of m ≡ scan → StandsFor scan s → StandsFor (scan_of m) s
along m scan s same h = subst (λ (x : LenScan). StandsFor x s) (sym same) h

pub fed-stands : (r : Result ℕ ScanFault) (old new : Machine) (scan : LenScan) (p : List ℕ) → old.stage ≡ Reading → scan_of old ≡ scan → IfOk r (λ n. n ≤ length p) → IfOk r (λ n. OpenBefore (bytes_held old) p n) →
    IfOk r (λ n. new.fed ≡ old.fed + n) → new.given ≡ old.given → IsHeld new → IfOk r (λ n. Comes old new p n) →
    IfOk r (λ n. (s : List ℕ) → StandsFor scan s → StandsFor (scan_of new) (s ++ take n p))
fed-stands (Ok n) old new scan p stage same fits before fed given held comes =
    λ s h. (takes-piece old new s p n (stood-of old s stage (along old scan s same h)) fits before fed given held comes).0
fed-stands (Err e) old new scan p stage same fits before fed given held comes = tt

pub fed-takes : (r : Result ℕ ScanFault) (old new : Machine) (scan : LenScan) (p : List ℕ) → old.stage ≡ Reading → scan_of old ≡ scan → IfOk r (λ n. n ≤ length p) → IfOk r (λ n. OpenBefore (bytes_held old) p n) →
    IfOk r (λ n. new.fed ≡ old.fed + n) → new.given ≡ old.given → IsHeld new → IfOk r (λ n. Comes old new p n) →
    IfOk r (λ n. (s : List ℕ) → StandsFor scan s → TakesToUnit s p n)
fed-takes (Ok n) old new scan p stage same fits before fed given held comes =
    λ s h. (takes-piece old new s p n (stood-of old s stage (along old scan s same h)) fits before fed given held comes).1
fed-takes (Err e) old new scan p stage same fits before fed given held comes = tt

pub fed-refused : (r : Result ℕ ScanFault) (old new : Machine) (scan : LenScan) (p : List ℕ) → old.stage ≡ Reading → scan_of old ≡ scan → IfErr r (Faults old new p) → IfErr r (RefusesPiece scan (scan_of new) p)
fed-refused (Ok n) old new scan p stage same faults = tt
fed-refused (Err Memory) old new scan p stage same faults = faults ∙ same
fed-refused (Err (RefusedFor r)) old new scan p stage same faults = (
  ap refusal_at faults.stage,
  ap (λ st. waiting_at st (unit_held new)) faults.stage,
  λ s h. refuses-piece old new s p r (stood-of old s stage (along old scan s same h)) faults,
)

pub fed-count : (r : Result ℕ ScanFault) (old new : Machine) (scan : LenScan) → scan_of old ≡ scan → IfOk r (λ n. new.fed ≡ old.fed + n) → IfOk r (λ n. new.fed ≡ scan.fed + n)
fed-count (Ok n) old new scan same fed = fed ∙ ap (λ (x : LenScan). x.fed + n) same
fed-count (Err e) old new scan same fed = tt

pub fed-goes_on : (r : Result ℕ ScanFault) (old new : Machine) (p : List ℕ) → old.stage ≡ Reading → IfOk r (λ n. Comes old new p n) → IfErr r (Faults old new p) → has_ended new.stage ≡ false
fed-goes_on (Ok n) old new p stage (inl goes) faults = ap has_ended goes.reads
fed-goes_on (Ok n) old new p stage (inr ends) faults = ap has_ended ends.found
fed-goes_on (Err Memory) old new p stage comes faults = ap (λ (x : LenScan). x.ended) faults ∙ ap has_ended stage
fed-goes_on (Err (RefusedFor r)) old new p stage comes faults = ap has_ended faults.stage

pub never-refused : (old : Machine) (scan : LenScan) (r : Refusal) → old.stage ≡ Reading → scan_of old ≡ scan → scan.refusal ≡ Some r → Unit {0} → ⊥
never-refused old scan r stage same is u =
    let no : None ≡ Some r = sym (ap refusal_at stage) ∙ ap (λ (x : LenScan). x.refusal) same ∙ is in cc

-- the end of the input
pub end-stands : (r : Result (Unit {0}) ScanFault) (old new : Machine) (scan : LenScan) → old.stage ≡ Reading → scan_of old ≡ scan → OnOk r ((bytes_held old ≡ []) × (new ≡ record old { stage = Ended })) → OnOk r ((s : List ℕ) → StandsFor scan s → StandsFor (scan_of new) s)
end-stands (Ok u) old new scan stage same ended = λ s h.
    subst (λ (m : Machine). StandsFor (scan_of m) s) (sym ended.1) (ends-input old s (stood-of old s stage (along old scan s same h)) ended.0)
end-stands (Err e) old new scan stage same ended = tt

pub end-ended : (r : Result (Unit {0}) ScanFault) (old new : Machine) → OnOk r ((bytes_held old ≡ []) × (new ≡ record old { stage = Ended })) → OnOk r (has_ended new.stage ≡ true)
end-ended (Ok u) old new ended = ap (λ (m : Machine). has_ended m.stage) ended.1
end-ended (Err e) old new ended = tt

pub end-refused : (r : Result (Unit {0}) ScanFault) (old new : Machine) (scan : LenScan) → old.stage ≡ Reading → scan_of old ≡ scan → OnErr r (0 < length (bytes_held old)) → OnErr r (new ≡ record old { stage = Refused (cut_off old) }) → IfErr r (λ fault. fault ≡ RefusedFor (cut_off old)) →
    IfErr r (RefusesEnd scan (scan_of new))
end-refused (Ok u) old new scan stage same cut is fault = tt
end-refused (Err e) old new scan stage same cut is fault = subst (RefusesEnd scan (scan_of new)) (sym fault) (
  ap (λ (m : Machine). refusal_at m.stage) is,
  ap (λ (m : Machine). waiting_at m.stage (unit_held m)) is,
  λ s h. cuts-input old s (stood-of old s stage (along old scan s same h)) cut,
)

pub end-same : (r : Result (Unit {0}) ScanFault) (old new : Machine) (scan : LenScan) → scan_of old ≡ scan → OnOk r ((bytes_held old ≡ []) × (new ≡ record old { stage = Ended })) → OnErr r (new ≡ record old { stage = Refused (cut_off old) }) → (new.given ≡ scan.given) × (new.fed ≡ scan.fed)
end-same (Ok u) old new scan same ended is = (ap (λ (m : Machine). m.given) ended.1 ∙ ap (λ (x : LenScan). x.given) same, ap (λ (m : Machine). m.fed) ended.1 ∙ ap (λ (x : LenScan). x.fed) same)
end-same (Err e) old new scan same ended is = (ap (λ (m : Machine). m.given) is ∙ ap (λ (x : LenScan). x.given) same, ap (λ (m : Machine). m.fed) is ∙ ap (λ (x : LenScan). x.fed) same)

-- the unit that waits is handed out
one-left : (n : ℕ) (us : List NalUnit) (u : NalUnit) → drop n us ≡ u ∷ [] → (n + 1 ≤ length us) × (drop (n + 1) us ≡ [])
one-left n us u is =
    let len : length (drop n us) ≡ 1 = ap (λ v. length v) is in
    (omega (arith, len, length-drop n us), sym (drop-drop 1 n us) ∙ ap (drop 1) is)

pub handing-stands : (scan : LenScan) (s : List ℕ) → StandsFor scan s → StandsFor (handed_out scan) s
handing-stands scan s h = go scan.waiting refl
  where
    go : (w : Option NalUnit) → scan.waiting ≡ w → StandsFor (handed_out scan) s
    go None is = subst (λ (x : LenScan). StandsFor x s) (ap (λ w. elim w as (λ _. LenScan) [ None ↦ scan | Some u ↦ record scan { waiting = None; given = scan.given + 1 } ]) (sym is)) h
    go (Some u) is =
        let left = one-left scan.given (len_units s) u (h.waiting ∙ ap option_to_list is) in
        subst (λ (x : LenScan). StandsFor x s) (ap (λ w. elim w as (λ _. LenScan) [ None ↦ scan | Some u ↦ record scan { waiting = None; given = scan.given + 1 } ]) (sym is))
        (record {
          fed = h.fed;
          accepted = h.accepted;
          given = left.0;
          waiting = left.1;
          keeps = h.keeps;
          unrefused = h.unrefused;
        })
