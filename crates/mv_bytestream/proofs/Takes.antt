-- What a machine stands for once it took a byte, or a run of bytes.
use Rattle.std.proofs.Common.{◌≡◌, ◌≢◌, ℕ, zero, suc, ◌+◌, ◌<◌, ◌≤◌, Bool, true, false, cond, ◌&&◌, nat_le, nat_lt, nat_eq, List, [], ◌∷◌, ◌++◌, length, take, replicate, get_or, Option, None, Some, IfNone, vec_len, refl, ap, sym, ◌∙◌, subst, arith, length-append, append_assoc, append-nil, if◌then◌else◌}
use Rattle.std.specs.Option.{option_map}
use Rattle.std.proofs.lemmas.Bool.{true≢false, and_parts, eqb-true, leb-true, leb-false, ne_eqb, le-ltb, lt-ltb}
use Rattle.mv_rules.specs.declared.rule.Rule.{Rule}
use Rattle.mv_rules.specs.declared.refusal.Refusal.{Refusal}
use Rattle.mv_units.specs.Units.{has_code, is_zero, pieces, trimmed, NalUnit}
use Rattle.mv_units.specs.Rules.{longest_unit, above_three, short_unit, has_emulation, long_unit, early_rule}
use Rattle.mv_units.specs.Shown.{refused, refused_leading, early_refusal, refusal_shown}
use Rattle.mv_units.proofs.Behind.{IsTrimmed, lead_all, pieces-behind, has_code-front, trimmed-append, trimmed-twice}
use Rattle.mv_units.proofs.Pieces.{pieces-clean}
use Rattle.mv_units.proofs.Shown.{open-clean, behind}
use Rattle.mv_units.proofs.Silent.{has_code-other, early-none, none-of, take-short}
use Rattle.mv_bytestream.specs.Bytes.{IsQuiet, ends_three}
use Rattle.mv_bytestream.specs.Scan.{Scan, StandsFor}
use Rattle.mv_bytestream.specs.Stages.{IsRunning, Takes, making_at, scan_of, unit_held, has_ended, waiting_at, zeros_at, refusal_at}
use Rattle.mv_bytestream.specs.declared.machine.Machine.{Machine}
use Rattle.mv_bytestream.specs.declared.machine.Stage.{Stage}
use Rattle.mv_bytestream.specs.declared.machine.Stage.TheVariants.{Leading, Making, Found, Given, Last, Ended, Refused}
use Rattle.mv_bytestream.proofs.Closes.{last-short, last-stands, none-stands, runs-first, short-shown, closed-stands, making-is, making-quiet}
use Rattle.mv_bytestream.proofs.Emulates.{emulation-behind}
use Rattle.mv_bytestream.proofs.Ends.{nonzero-last}
use Rattle.mv_bytestream.proofs.Runs.{Runs, SomeRuns, running, runs, runs-stands, runs-zero, leading-shown, content-shown, runs-content, unit_of}

-- a machine as a scanner, at a stage that is known
abbrev pub scan_at : Stage → Machine → Scan
scan_at stage m = record {
  fed = m.fed;
  given = m.given;
  ended = has_ended stage;
  waiting = waiting_at stage (unit_held m);
  making = making_at stage (unit_held m) m.fed;
  zeros = zeros_at stage m.zeros;
  refusal = refusal_at stage;
}

pub at : (m : Machine) (stage : Stage) → m.stage ≡ stage → scan_of m ≡ scan_at stage m
at m stage is = ap (λ st. scan_at st m) is

-- what a running machine keeps
pub runs_at : (m : Machine) (making : Option NalUnit) (s : List ℕ) → scan_of m ≡ running m.fed m.given making m.zeros → StandsFor (scan_of m) s → SomeRuns s m.fed m.given making m.zeros
runs_at m making s is h = runs s m.fed m.given making m.zeros (subst (λ (v : Scan). StandsFor v s) is h)

pub stands_at : (n : Machine) (v : Scan) (s : List ℕ) → scan_of n ≡ v → StandsFor v s → StandsFor (scan_of n) s
stands_at n v s is h = subst (λ (v : Scan). StandsFor v s) (sym is) h

-- where no code came there is no unit in the making, and else there is one
no_unit : (s : List ℕ) (c : List ℕ) (cs : List (List ℕ)) (p : List ℕ) (fed given z : ℕ) → Runs s (c ∷ cs) p fed given None z → ⊥
no_unit s c cs p fed given z h = let m : Some (behind (c ∷ cs) p) ≡ None = h.unit_is in absurd (cc)

some_unit : (s p : List ℕ) (fed given z : ℕ) (u : NalUnit) → Runs s [] p fed given (Some u) z → ⊥
some_unit s p fed given z u h = let m : None ≡ Some u = h.unit_is in absurd (cc)

-- a zero byte
pub zero-takes : (m n : Machine) (making : Option NalUnit) (b : ℕ) → scan_of m ≡ running m.fed m.given making m.zeros → scan_of n ≡ running (m.fed + 1) m.given making (m.zeros + 1) → b ≡ 0 → Takes m n (b ∷ []) None
zero-takes m n making b here there is s h = go (runs_at m making s here h)
  where
    go : SomeRuns s m.fed m.given making m.zeros → StandsFor (scan_of n) (s ++ b ∷ [])
    go (cs, p, r) =
        subst (λ b. StandsFor (scan_of n) (s ++ b ∷ [])) (sym is)
        (stands_at n _ (s ++ 0 ∷ []) there (runs-stands (s ++ 0 ∷ []) cs (p ++ 0 ∷ []) (m.fed + 1) m.given making (m.zeros + 1) (runs-zero s cs p m.fed m.given making m.zeros r)))

-- the first code
pub first-takes : (m n : Machine) (b : ℕ) → m.stage ≡ Leading → n.stage ≡ Making → n.fed ≡ m.fed + 1 → n.given ≡ m.given → n.place ≡ m.fed + 1 → n.unit.items ≡ [] → n.zeros ≡ 0 → b ≡ 1 → 2 ≤ m.zeros → Takes m n (b ∷ []) None
first-takes m n b here there fed given place none z one low s h = go (runs_at m None s (at m Leading here) h)
  where
    view : scan_of n ≡ running (m.fed + 1) m.given (Some (record { place = m.fed + 1; bytes = [] })) 0
    view =
        at n Making there
        ∙ ap (λ f. running f n.given (Some (unit_held n)) n.zeros) fed
        ∙ ap (λ g. running (m.fed + 1) g (Some (unit_held n)) n.zeros) given
        ∙ ap (λ x. running (m.fed + 1) m.given (Some (record { place = x; bytes = n.unit.items })) n.zeros) place
        ∙ ap (λ x. running (m.fed + 1) m.given (Some (record { place = m.fed + 1; bytes = x })) n.zeros) none
        ∙ ap (running (m.fed + 1) m.given (Some (record { place = m.fed + 1; bytes = [] }))) z

    go : SomeRuns s m.fed m.given None m.zeros → StandsFor (scan_of n) (s ++ b ∷ [])
    go ([], p, r) =
        subst (λ b. StandsFor (scan_of n) (s ++ b ∷ [])) (sym one)
        (stands_at n _ (s ++ 1 ∷ []) view (runs-stands (s ++ 1 ∷ []) _ [] (m.fed + 1) m.given _ 0 (runs-first s p m.fed m.given m.zeros r low)))
    go (c ∷ cs, p, r) = absurd (no_unit s c cs p m.fed m.given m.zeros r)

-- zero bytes and one that closes no code hold none
zeros-clean : (z : ℕ) → has_code (replicate z 0) ≡ false
unfolding has_code
zeros-clean zero = refl
zeros-clean (suc zero) = refl
zeros-clean (suc (suc zero)) = refl
zeros-clean (suc (suc (suc z))) = zeros-clean (suc (suc z))

byte-clean : (z b : ℕ) → (nat_eq b 1 && nat_le 2 z) ≡ false → has_code (replicate z 0 ++ b ∷ []) ≡ false
unfolding has_code
byte-clean z b h = go (nat_eq b 1) refl z h
  where
    go : (t : Bool) → nat_eq b 1 ≡ t → (z : ℕ) → (t && nat_le 2 z) ≡ false → has_code (replicate z 0 ++ b ∷ []) ≡ false
    go false is z h = has_code-other (replicate z 0) b is ∙ zeros-clean z
    go true is zero h = refl
    go true is (suc zero) h = refl
    go true is (suc (suc z)) h = absurd (let below : suc (suc z) < 2 = leb-false 2 (suc (suc z)) h in omega arith)

pub content-clean : (u : List ℕ) (z b : ℕ) (p : List ℕ) → p ≡ u ++ replicate z 0 → IsTrimmed u → has_code p ≡ false → (nat_eq b 1 && nat_le 2 z) ≡ false → pieces (p ++ b ∷ []) ≡ (p ++ b ∷ []) ∷ []
content-clean u z b p is trim clean h =
    let whole : p ++ b ∷ [] ≡ u ++ (replicate z 0 ++ b ∷ []) = ap (λ q. q ++ b ∷ []) is ∙ append_assoc u (replicate z 0) (b ∷ []) in
    ap pieces whole
    ∙ pieces-behind u (replicate z 0 ++ b ∷ []) trim (has_code-front u (replicate z 0) (ap has_code (sym is) ∙ clean))
    ∙ ap (lead_all u) (pieces-clean (replicate z 0 ++ b ∷ []) (byte-clean z b h))
    ∙ ap (λ q. q ∷ []) (sym whole)

-- a byte that may not stand before the first code
is_nonzero : (b : ℕ) → b ≢ 0 → is_zero b ≡ false
is_nonzero b h = ne_eqb b 0 h

pub leading-refuses : (m n : Machine) (b : ℕ) → m.stage ≡ Leading → b ≢ 0 → (nat_eq b 1 && nat_le 2 m.zeros) ≡ false → Takes m n (b ∷ []) (Some (refused_leading m.fed))
unfolding trimmed has_code
leading-refuses m n b here nonzero h s stands = go (runs_at m None s (at m Leading here) stands)
  where
    go : SomeRuns s m.fed m.given None m.zeros → refusal_shown false (s ++ b ∷ []) ≡ Some (refused_leading m.fed)
    go ([], p, r) = leading-shown s p m.fed m.given None m.zeros b r (is_nonzero b nonzero) (content-clean [] m.zeros b p r.piece refl (open-clean s [] p r.opened) h)
    go (c ∷ cs, p, r) = absurd (no_unit s c cs p m.fed m.given m.zeros r)

-- the unit in the making is quiet
trims : (s : List ℕ) (c : List ℕ) (cs : List (List ℕ)) (p : List ℕ) (fed given : ℕ) (u : NalUnit) (z : ℕ) → Runs s (c ∷ cs) p fed given (Some u) z → IsTrimmed u.bytes
trims s c cs p fed given u z r =
    let same : trimmed p ≡ u.bytes = ap (λ (u : NalUnit). u.bytes) (making-is s c cs p fed given u z r) in
    subst IsTrimmed same (trimmed-twice p)

pub is_quiet : (s : List ℕ) (c : List ℕ) (cs : List (List ℕ)) (p : List ℕ) (fed given : ℕ) (u : NalUnit) (z : ℕ) → Runs s (c ∷ cs) p fed given (Some u) z → length u.bytes ≤ longest_unit → IsQuiet u.bytes
is_quiet s c cs p fed given u z r fits = record {
  ends = trims s c cs p fed given u z r;
  quiet = ap has_emulation (sym (take-short longest_unit u.bytes fits)) ∙ (early-none u.bytes (none-of (refused given u) (early_rule u.bytes) (making-quiet s c cs p fed given u z r))).0;
}

-- what the bytes of a unit show early
pub by-rule : (n : ℕ) (u : NalUnit) (o : Option Rule) → early_rule u.bytes ≡ o → early_refusal n u ≡ option_map (refused n u) o
by-rule n u o is = ap (option_map (refused n u)) is

-- a byte of a unit: refused, or taken
abbrev Shown : Machine → ℕ → Option Rule → Type 0
Shown m b o = IsQuiet m.unit.items → o ≡ early_rule (m.unit.items ++ (replicate m.zeros 0 ++ b ∷ []))

behind-trimmed : (u : List ℕ) (z b : ℕ) → IsTrimmed u → b ≢ 0 → trimmed (u ++ (replicate z 0 ++ b ∷ [])) ≡ u ++ (replicate z 0 ++ b ∷ [])
behind-trimmed u z b trim nonzero = trimmed-append u (replicate z 0 ++ b ∷ []) trim ∙ ap (λ w. u ++ w) (zeros z)
  where
    zeros : (z : ℕ) → trimmed (replicate z 0 ++ b ∷ []) ≡ replicate z 0 ++ b ∷ []
    zeros z = nonzero-last (replicate z 0) b nonzero

content : (m : Machine) (b : ℕ) (s : List ℕ) (c : List ℕ) (cs : List (List ℕ)) (p : List ℕ) → Runs s (c ∷ cs) p m.fed m.given (Some (unit_held m)) m.zeros → b ≢ 0 → (nat_eq b 1 && nat_le 2 m.zeros) ≡ false →
    (p ++ b ∷ [] ≡ m.unit.items ++ (replicate m.zeros 0 ++ b ∷ [])) × (pieces (p ++ b ∷ []) ≡ (p ++ b ∷ []) ∷ []) × IsTrimmed (p ++ b ∷ [])
content m b s c cs p r nonzero h =
    let trim = trims s c cs p m.fed m.given (unit_held m) m.zeros r in
    let whole : p ++ b ∷ [] ≡ m.unit.items ++ (replicate m.zeros 0 ++ b ∷ []) = ap (λ q. q ++ b ∷ []) r.piece ∙ append_assoc m.unit.items (replicate m.zeros 0) (b ∷ []) in (
      whole,
      content-clean m.unit.items m.zeros b p r.piece trim (open-clean s (c ∷ cs) p r.opened) h,
      subst IsTrimmed (sym whole) (behind-trimmed m.unit.items m.zeros b trim nonzero),
    )

pub unit-refuses : (m n : Machine) (b : ℕ) (rule : Rule) → m.stage ≡ Making → length m.unit.items ≤ longest_unit → b ≢ 0 → (nat_eq b 1 && nat_le 2 m.zeros) ≡ false → Shown m b (Some rule) →
    Takes m n (b ∷ []) (Some (record { unit = m.given; byte = m.place; rule = rule }))
unit-refuses m n b rule here fits nonzero h shown s stands = go (runs_at m (Some (unit_held m)) s (at m Making here) stands)
  where
    go : SomeRuns s m.fed m.given (Some (unit_held m)) m.zeros → refusal_shown false (s ++ b ∷ []) ≡ Some (record { unit = m.given; byte = m.place; rule = rule })
    go ([], p, r) = absurd (some_unit s p m.fed m.given m.zeros (unit_held m) r)
    go (c ∷ cs, p, r) =
        let parts = content m b s c cs p r nonzero h in
        content-shown s c cs p m.fed m.given (unit_held m) m.zeros (b ∷ []) r parts.1 parts.2
        ∙ by-rule m.given (unit_of m.place (p ++ b ∷ [])) (Some rule) (ap early_rule parts.0 ∙ sym (shown (is_quiet s c cs p m.fed m.given (unit_held m) m.zeros r fits)))

pub unit-takes : (m n : Machine) (b : ℕ) → m.stage ≡ Making → length m.unit.items ≤ longest_unit → b ≢ 0 → (nat_eq b 1 && nat_le 2 m.zeros) ≡ false → Shown m b None →
    scan_of n ≡ running (m.fed + 1) m.given (Some (record { place = m.place; bytes = m.unit.items ++ (replicate m.zeros 0 ++ b ∷ []) })) 0 → Takes m n (b ∷ []) None
unit-takes m n b here fits nonzero h shown there s stands = go (runs_at m (Some (unit_held m)) s (at m Making here) stands)
  where
    go : SomeRuns s m.fed m.given (Some (unit_held m)) m.zeros → StandsFor (scan_of n) (s ++ b ∷ [])
    go ([], p, r) = absurd (some_unit s p m.fed m.given m.zeros (unit_held m) r)
    go (c ∷ cs, p, r) =
        let parts = content m b s c cs p r nonzero h in
        let none : early_refusal m.given (unit_of m.place (p ++ b ∷ [])) ≡ None =
        by-rule m.given (unit_of m.place (p ++ b ∷ [])) None (ap early_rule parts.0 ∙ sym (shown (is_quiet s c cs p m.fed m.given (unit_held m) m.zeros r fits))) in
        stands_at n _ (s ++ b ∷ []) (there ∙ ap (λ w. running (m.fed + 1) m.given (Some (record { place = m.place; bytes = w })) 0) (sym parts.0))
        (runs-stands (s ++ b ∷ []) (c ∷ cs) (p ++ b ∷ []) (m.fed + 1) m.given _ 0 (runs-content s c cs p m.fed m.given (unit_held m) m.zeros (b ∷ []) r parts.1 parts.2 none))

-- a code behind a unit
pub short-refuses : (m n : Machine) (b : ℕ) → m.stage ≡ Making → b ≡ 1 → 2 ≤ m.zeros → short_unit m.unit.items ≡ true → Takes m n (b ∷ []) (Some (record { unit = m.given; byte = m.place; rule = Rule.Short }))
short-refuses m n b here one low short s stands = go (runs_at m (Some (unit_held m)) s (at m Making here) stands)
  where
    go : SomeRuns s m.fed m.given (Some (unit_held m)) m.zeros → refusal_shown false (s ++ b ∷ []) ≡ Some (record { unit = m.given; byte = m.place; rule = Rule.Short })
    go ([], p, r) = absurd (some_unit s p m.fed m.given m.zeros (unit_held m) r)
    go (c ∷ cs, p, r) = ap (λ b. refusal_shown false (s ++ b ∷ [])) one ∙ short-shown s c cs p m.fed m.given (unit_held m) m.zeros r low short

pub ends-unit : (m n : Machine) (b : ℕ) → m.stage ≡ Making → b ≡ 1 → 2 ≤ m.zeros → short_unit m.unit.items ≡ false →
    scan_of n ≡ record { fed = m.fed + 1; given = m.given; ended = false; waiting = Some (unit_held m); making = Some (record { place = m.fed + 1; bytes = [] }); zeros = 0; refusal = None } → Takes m n (b ∷ []) None
ends-unit m n b here one low long there s stands = go (runs_at m (Some (unit_held m)) s (at m Making here) stands)
  where
    go : SomeRuns s m.fed m.given (Some (unit_held m)) m.zeros → StandsFor (scan_of n) (s ++ b ∷ [])
    go ([], p, r) = absurd (some_unit s p m.fed m.given m.zeros (unit_held m) r)
    go (c ∷ cs, p, r) =
        subst (λ b. StandsFor (scan_of n) (s ++ b ∷ [])) (sym one)
        (stands_at n _ (s ++ 1 ∷ []) there (closed-stands s c cs p m.fed m.given (unit_held m) m.zeros r low long))

-- a run of bytes of a unit
pub run-takes : (m n : Machine) (w : List ℕ) → m.stage ≡ Making → m.zeros ≡ 0 → length m.unit.items + length w ≤ longest_unit → has_code w ≡ false → has_emulation w ≡ false → trimmed w ≡ w → (ends_three m.unit.items && above_three w) ≡ false →
    scan_of n ≡ running (m.fed + length w) m.given (Some (record { place = m.place; bytes = m.unit.items ++ w })) 0 → Takes m n w None
run-takes m n w here none fits clean quiet ends three there s stands = go (runs_at m (Some (unit_held m)) s (at m Making here) stands)
  where
    go : SomeRuns s m.fed m.given (Some (unit_held m)) m.zeros → StandsFor (scan_of n) (s ++ w)
    go ([], p, r) = absurd (some_unit s p m.fed m.given m.zeros (unit_held m) r)
    go (c ∷ cs, p, r) =
        let same : p ≡ m.unit.items = r.piece ∙ ap (λ z. m.unit.items ++ replicate z 0) none ∙ append-nil m.unit.items in
        let u : List ℕ = m.unit.items in
        let q = is_quiet s c cs p m.fed m.given (unit_held m) m.zeros r (omega arith) in
        let whole : pieces (u ++ w) ≡ (u ++ w) ∷ [] =
        pieces-behind u w q.ends (subst (λ p. has_code p ≡ false) same (open-clean s (c ∷ cs) p r.opened)) ∙ ap (lead_all u) (pieces-clean w clean) in
        let short : length (u ++ w) ≤ longest_unit = omega (arith, length-append u w) in
        let none : early_refusal m.given (unit_of m.place (u ++ w)) ≡ None =
        by-rule m.given (unit_of m.place (u ++ w)) None
        (ap (λ e. cond e (Some Rule.Emulation) (cond (long_unit (u ++ w)) (Some Rule.Long) None))
        (ap has_emulation (take-short longest_unit (u ++ w) short) ∙ emulation-behind u w q.ends q.quiet three ∙ quiet)
        ∙ ap (λ l. cond l (Some Rule.Long) None) (le-ltb longest_unit (length (u ++ w)) short)) in
        stands_at n _ (s ++ w) (there ∙ ap (λ p. running (m.fed + length w) m.given (Some (record { place = m.place; bytes = p ++ w })) 0) (sym same))
        (runs-stands (s ++ w) (c ∷ cs) (p ++ w) (m.fed + length w) m.given _ 0
        (runs-content s c cs p m.fed m.given (unit_held m) m.zeros w r
        (subst (λ p. pieces (p ++ w) ≡ (p ++ w) ∷ []) (sym same) whole)
        (subst (λ p. IsTrimmed (p ++ w)) (sym same) (trimmed-append u w q.ends ∙ ap (λ x. u ++ x) ends))
        (subst (λ p. early_refusal m.given (unit_of m.place (p ++ w)) ≡ None) (sym same) none)))

pub nothing-takes : (m : Machine) → Takes m m [] None
nothing-takes m s h = subst (StandsFor (scan_of m)) (sym (append-nil s)) h

-- a start code, whose last byte ends the unit or shows that it is short
pub code-takes : (m n : Machine) (b : ℕ) (r : Option Refusal) → m.stage ≡ Making → (nat_eq b 1 && nat_le 2 m.zeros) ≡ true →
    r ≡ (if nat_lt (vec_len m.unit) 2 then Some (record { unit = m.given; byte = m.place; rule = Rule.Short }) else None) →
    IfNone r (n ≡ record m { stage = Found; fed = m.fed + 1; zeros = 0 }) → Takes m n (b ∷ []) r
code-takes m n b r here code value found = go (nat_lt (vec_len m.unit) 2) refl r value found
  where
    one : b ≡ 1
    one = eqb-true b 1 (and_parts (nat_eq b 1) (nat_le 2 m.zeros) code).0

    low : 2 ≤ m.zeros
    low = leb-true 2 m.zeros (and_parts (nat_eq b 1) (nat_le 2 m.zeros) code).1

    short : {t : Bool} → nat_lt (vec_len m.unit) 2 ≡ t → short_unit m.unit.items ≡ t
    short is = let same : length m.unit.items ≡ vec_len m.unit = omega (arith, m.unit.ok.0) in ap (λ n. nat_lt n 2) same ∙ is

    go : (t : Bool) → nat_lt (vec_len m.unit) 2 ≡ t → (r : Option Refusal) → r ≡ (if t then Some (record { unit = m.given; byte = m.place; rule = Rule.Short }) else None) →
        IfNone r (n ≡ record m { stage = Found; fed = m.fed + 1; zeros = 0 }) → Takes m n (b ∷ []) r
    go true is None value found = absurd (cc)
    go true is (Some x) value found = subst (Takes m n (b ∷ [])) (sym value) (short-refuses m n b here one low (short is))
    go false is None value found = ends-unit m n b here one low (short is) (ap scan_of found)
    go false is (Some x) value found = absurd (cc)

pub none-takes : (m : Machine) (bytes : List ℕ) → Takes m m (take 0 bytes) None
none-takes m [] = nothing-takes m
none-takes m (b ∷ bytes) = nothing-takes m

-- the rule of a byte, of a slice that is the unit
pub shown-as : (m : Machine) (b : ℕ) (o : Option Rule) (x : List ℕ) → x ≡ m.unit.items → (IsQuiet x → o ≡ early_rule (x ++ (replicate m.zeros 0 ++ b ∷ []))) → Shown m b o
shown-as m b o x is h = subst (λ x. IsQuiet x → o ≡ early_rule (x ++ (replicate m.zeros 0 ++ b ∷ []))) is h

-- the first byte of a run
pub three-off : (u x bytes : List ℕ) (n : ℕ) (t : Bool) → 0 < n → t ≡ ends_three x → x ≡ u → (nat_lt 3 (get_or bytes 0 0) && t) ≡ false → (ends_three u && above_three (take n bytes)) ≡ false
three-off u x bytes n t some ends same off = go bytes n some (nat_lt 3 (get_or bytes 0 0)) refl off
  where
    is : t ≡ ends_three u
    is = ends ∙ ap ends_three same

    none : (e : Bool) → (e && false) ≡ false
    none true = refl
    none false = refl

    both : (a e : Bool) → (a && t) ≡ false → t ≡ e → (e && a) ≡ false
    both true true off is = absurd (true≢false (sym is ∙ off))
    both true false off is = refl
    both false e off is = none e

    go : (bytes : List ℕ) (n : ℕ) → 0 < n → (a : Bool) → nat_lt 3 (get_or bytes 0 0) ≡ a → (a && t) ≡ false → (ends_three u && above_three (take n bytes)) ≡ false
    go bytes zero some a first off = absurd (omega arith)
    go [] (suc n) some a first off = none (ends_three u)
    go (b ∷ bytes) (suc n) some a first off = ap (λ a. ends_three u && a) first ∙ both a (ends_three u) off is

-- the first bytes of the first bytes
pub take-within : (n m : ℕ) (bytes : List ℕ) → n ≤ length (take m bytes) → take n (take m bytes) ≡ take n bytes
take-within zero m bytes low = none (take m bytes) ∙ sym (none bytes)
  where
    none : (s : List ℕ) → take 0 s ≡ []
    none [] = refl
    none (a ∷ s) = refl
take-within (suc n) zero [] low = refl
take-within (suc n) (suc m) [] low = refl
take-within (suc n) zero (b ∷ bytes) low = absurd (omega arith)
take-within (suc n) (suc m) (b ∷ bytes) low = ap (λ r. b ∷ r) (take-within n m bytes (omega arith))

pub run-view : (m n : Machine) (w : List ℕ) (count : ℕ) → n.stage ≡ Making → n.fed ≡ m.fed + count → n.given ≡ m.given → n.place ≡ m.place → n.zeros ≡ 0 → n.unit.items ≡ m.unit.items ++ w → length w ≡ count →
    scan_of n ≡ running (m.fed + length w) m.given (Some (record { place = m.place; bytes = m.unit.items ++ w })) 0
run-view m n w count stage fed given place none items long =
    at n Making stage
    ∙ ap (λ f. running f n.given (Some (unit_held n)) n.zeros) (fed ∙ ap (λ c. m.fed + c) (sym long))
    ∙ ap (λ g. running (m.fed + length w) g (Some (unit_held n)) n.zeros) given
    ∙ ap (λ x. running (m.fed + length w) m.given (Some (record { place = x; bytes = n.unit.items })) n.zeros) place
    ∙ ap (λ x. running (m.fed + length w) m.given (Some (record { place = m.place; bytes = x })) n.zeros) items
    ∙ ap (running (m.fed + length w) m.given (Some (record { place = m.place; bytes = m.unit.items ++ w }))) none

-- the next unit begins where the one before was handed out
pub resumes : (m n : Machine) → m.stage ≡ Given → n.stage ≡ Making → n.fed ≡ m.fed → n.given ≡ m.given → n.place ≡ m.fed → n.unit.items ≡ [] → n.zeros ≡ 0 → scan_of n ≡ scan_of m
resumes m n here there fed given place none z =
    at n Making there
    ∙ ap (λ f. running f n.given (Some (unit_held n)) n.zeros) fed
    ∙ ap (λ g. running m.fed g (Some (unit_held n)) n.zeros) given
    ∙ ap (λ x. running m.fed m.given (Some (record { place = x; bytes = n.unit.items })) n.zeros) place
    ∙ ap (λ x. running m.fed m.given (Some (record { place = m.fed; bytes = x })) n.zeros) none
    ∙ ap (running m.fed m.given (Some (record { place = m.fed; bytes = [] }))) z
    ∙ sym (at m Given here)

-- the end of the input
pub is_making : (stage : Stage) → IsRunning stage → ¬ (stage ≡ Leading) → stage ≡ Making
is_making Leading run isnt = absurd (isnt refl)
is_making Making run isnt = refl
is_making Found run isnt = absurd run
is_making Given run isnt = absurd run
is_making Last run isnt = absurd run
is_making Ended run isnt = absurd run
is_making (Refused r) run isnt = absurd run

pub ends-none : (m n : Machine) → m.stage ≡ Leading → n ≡ record m { stage = Ended } → (s : List ℕ) → StandsFor (scan_of m) s → StandsFor (scan_of n) s
ends-none m n here there s stands = go (runs_at m None s (at m Leading here) stands)
  where
    go : SomeRuns s m.fed m.given None m.zeros → StandsFor (scan_of n) s
    go ([], p, r) = stands_at n _ s (ap scan_of there) (none-stands s p m.fed m.given m.zeros m.zeros r)
    go (c ∷ cs, p, r) = absurd (no_unit s c cs p m.fed m.given m.zeros r)

pub ends-short : (m : Machine) → m.stage ≡ Making → short_unit m.unit.items ≡ true → (s : List ℕ) → StandsFor (scan_of m) s → refusal_shown true s ≡ Some (record { unit = m.given; byte = m.place; rule = Rule.Short })
ends-short m here short s stands = go (runs_at m (Some (unit_held m)) s (at m Making here) stands)
  where
    go : SomeRuns s m.fed m.given (Some (unit_held m)) m.zeros → refusal_shown true s ≡ Some (record { unit = m.given; byte = m.place; rule = Rule.Short })
    go ([], p, r) = absurd (some_unit s p m.fed m.given m.zeros (unit_held m) r)
    go (c ∷ cs, p, r) = last-short s c cs p m.fed m.given (unit_held m) m.zeros r short

pub ends-last : (m n : Machine) → m.stage ≡ Making → n ≡ record m { stage = Last } → short_unit m.unit.items ≡ false → (s : List ℕ) → StandsFor (scan_of m) s → StandsFor (scan_of n) s
ends-last m n here there long s stands = go (runs_at m (Some (unit_held m)) s (at m Making here) stands)
  where
    go : SomeRuns s m.fed m.given (Some (unit_held m)) m.zeros → StandsFor (scan_of n) s
    go ([], p, r) = absurd (some_unit s p m.fed m.given m.zeros (unit_held m) r)
    go (c ∷ cs, p, r) = stands_at n _ s (ap scan_of there) (last-stands s c cs p m.fed m.given (unit_held m) m.zeros m.zeros r long)

-- a unit of few bytes, or of enough
pub few-short : (m : Machine) → vec_len m.unit < 2 → short_unit m.unit.items ≡ true
few-short m low = lt-ltb (length m.unit.items) 2 (omega (arith, m.unit.ok.0))

pub many-long : (m : Machine) → 2 ≤ vec_len m.unit → short_unit m.unit.items ≡ false
many-long m low = le-ltb (length m.unit.items) 2 (omega (arith, m.unit.ok.0))
