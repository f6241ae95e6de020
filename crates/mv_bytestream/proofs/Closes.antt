-- What a start code changes in what a scanner keeps, and what handing out changes.
use Rattle.std.proofs.Common.{◌≡◌, ℕ, zero, suc, ◌+◌, ◌-◌, ◌≤◌, true, false, cond, not, List, [], ◌∷◌, ◌++◌, length, drop, replicate, Option, None, Some, refl, ap, sym, ◌∙◌, subst, arith, length-append, append_assoc}
use Rattle.std.specs.List.{position_from}
use Rattle.std.specs.Option.{option_map, option_or, option_to_list}
use Rattle.std.proofs.Math.Seq.{drop-append_seam}
use Rattle.std.proofs.lemmas.Bool.{true≢false}
use Rattle.std.proofs.lemmas.List.{drop-drop, replicate-append-replicate}
use Rattle.mv_rules.specs.declared.rule.Rule.{Rule}
use Rattle.mv_units.specs.Units.{has_code, is_zero, pieces, leading, trimmed, NalUnit, placed, units}
use Rattle.mv_units.specs.Rules.{short_unit, early_rule, has_emulation}
use Rattle.mv_units.specs.Shown.{refused, refused_leading, unit_refusal, early_refusal, refusal_behind, first_refusal, refusal_shown, whole_units}
use Rattle.mv_units.proofs.Behind.{has_code-front, trimmed-zeros}
use Rattle.mv_units.proofs.Early.{unit_rule-is}
use Rattle.mv_units.proofs.Refusals.{refusal-push}
use Rattle.mv_units.proofs.Longer.{span}
use Rattle.mv_units.proofs.Pieces.{pieces-code}
use Rattle.mv_units.proofs.Shown.{Open, pieces-more, open-clean, before, behind, front_shown, shown-is, units-none, units-end, whole-is}
use Rattle.mv_units.proofs.Shows.{before-append}
use Rattle.mv_units.proofs.Silent.{no_front}
use Rattle.mv_bytestream.specs.Scan.{Scan, StandsFor, bytes_of, handed_out}
use Rattle.mv_bytestream.proofs.Runs.{Runs, running, runs-stands, open-length, keeps_at, unit_of, leading-front}

-- the open piece less the zero bytes of a start code
abbrev closed : Option NalUnit → ℕ → List ℕ
closed making z = bytes_of making ++ replicate (z - 2) 0

two_less : (n : ℕ) → 2 ≤ n → ◌++◌ {A = ℕ} (replicate (n - 2) 0) (0 ∷ 0 ∷ []) ≡ replicate n 0
two_less n low =
    let same : n - 2 + 2 ≡ n = omega arith in
    replicate-append-replicate (n - 2) 2 0 ∙ ap (λ n. replicate n 0) same

-- the piece with its zero bytes, and with the last byte of the code
closed-piece : (s : List ℕ) (cs : List (List ℕ)) (p : List ℕ) (fed given : ℕ) (making : Option NalUnit) (z : ℕ) → Runs s cs p fed given making z → 2 ≤ z →
    p ≡ closed making z ++ 0 ∷ 0 ∷ []
closed-piece s cs p fed given making z h low =
    h.piece ∙ ap (λ z. bytes_of making ++ z) (sym (two_less z low)) ∙ sym (append_assoc (bytes_of making) (replicate (z - 2) 0) (0 ∷ 0 ∷ []))

closed-open : (s : List ℕ) (cs : List (List ℕ)) (p : List ℕ) (fed given : ℕ) (making : Option NalUnit) (z : ℕ) → Runs s cs p fed given making z → 2 ≤ z →
    Open (s ++ 1 ∷ []) (cs ++ closed making z ∷ []) []
unfolding pieces
closed-open s cs p fed given making z h low =
    let is = closed-piece s cs p fed given making z h low in
    let clean : has_code (closed making z) ≡ false = has_code-front (closed making z) (0 ∷ 0 ∷ []) (ap has_code (sym is) ∙ open-clean s cs p h.opened) in
    pieces-more s (1 ∷ []) cs p h.opened
    ∙ ap (λ q. cs ++ pieces (q ++ 1 ∷ [])) is
    ∙ ap (λ q. cs ++ pieces q) (append_assoc (closed making z) (0 ∷ 0 ∷ []) (1 ∷ []))
    ∙ ap (λ qs. cs ++ qs) (pieces-code (closed making z) [] clean)
    ∙ sym (append_assoc cs (closed making z ∷ []) ([] ∷ []))

closed-trimmed : (s : List ℕ) (cs : List (List ℕ)) (p : List ℕ) (fed given : ℕ) (making : Option NalUnit) (z : ℕ) → Runs s cs p fed given making z → trimmed (closed making z) ≡ trimmed p
closed-trimmed s cs p fed given making z h =
    trimmed-zeros (bytes_of making) (z - 2) ∙ sym (ap trimmed h.piece ∙ trimmed-zeros (bytes_of making) z)

closed-length : (s : List ℕ) (cs : List (List ℕ)) (p : List ℕ) (fed given : ℕ) (making : Option NalUnit) (z : ℕ) → Runs s cs p fed given making z → 2 ≤ z →
    span (cs ++ closed making z ∷ []) 0 ≡ fed + 1
closed-length s cs p fed given making z h low =
    let is : length p ≡ length (closed making z ++ 0 ∷ 0 ∷ []) = ap length (closed-piece s cs p fed given making z h low) in
    let l : span cs 0 + length p ≡ length s = open-length s cs p h.opened in
    let f : fed ≡ length s = h.count in
    reach cs 0 ∙ omega (arith, length-append (closed making z) (0 ∷ 0 ∷ []))
  where
    reach : (cs : List (List ℕ)) (at : ℕ) → span (cs ++ closed making z ∷ []) at ≡ span cs at + length (closed making z) + 3
    reach [] at = refl
    reach (c ∷ cs) at = reach cs (at + length c + 3)

-- the first code begins a unit
pub runs-first : (s : List ℕ) (p : List ℕ) (fed given : ℕ) (z : ℕ) → Runs s [] p fed given None z → 2 ≤ z →
    Runs (s ++ 1 ∷ []) (closed None z ∷ []) [] (fed + 1) given (Some (record { place = fed + 1; bytes = [] })) 0
unfolding trimmed placed has_emulation refusal_behind
runs-first s p fed given z h low = record {
  opened = closed-open s [] p fed given None z h low;
  unit_is = ap (λ n. Some (record { place = n; bytes = [] })) (closed-length s [] p fed given None z h low);
  piece = refl;
  front_none = ap (option_map refused_leading)
      (leading-front 0 (closed None z) (0 ∷ 0 ∷ []) (ap (position_from (λ b. not (is_zero b)) 0) (sym (closed-piece s [] p fed given None z h low)) ∙ no_front _ h.front_none));
  closed_none = refl;
  late_none = refl;
  number = h.number;
  count = let f : fed ≡ length s = h.count in omega (arith, length-append s (1 ∷ []));
}

-- a later code closes the unit
pub making-is : (s : List ℕ) (c : List ℕ) (cs : List (List ℕ)) (p : List ℕ) (fed given : ℕ) (u : NalUnit) (z : ℕ) → Runs s (c ∷ cs) p fed given (Some u) z → behind (c ∷ cs) p ≡ u
making-is s c cs p fed given u z h = let m : Some (behind (c ∷ cs) p) ≡ Some u = h.unit_is in cc

closed-units : (s : List ℕ) (c : List ℕ) (cs : List (List ℕ)) (p : List ℕ) (fed given : ℕ) (u : NalUnit) (z : ℕ) → Runs s (c ∷ cs) p fed given (Some u) z →
    before ((c ∷ cs) ++ closed (Some u) z ∷ []) ≡ before (c ∷ cs) ++ u ∷ []
unfolding placed
closed-units s c cs p fed given u z h =
    before-append c cs (closed (Some u) z ∷ [])
    ∙ ap (λ b. before (c ∷ cs) ++ record { place = span (c ∷ cs) 0; bytes = b } ∷ []) (closed-trimmed s (c ∷ cs) p fed given (Some u) z h)
    ∙ ap (λ x. before (c ∷ cs) ++ x ∷ []) (making-is s c cs p fed given u z h)

-- a short unit is refused, and one that is neither short nor refused early isn't by the rules on its bytes
short-refused : (n : ℕ) (u : NalUnit) → short_unit u.bytes ≡ true → unit_refusal n u ≡ Some (refused n u Rule.Short)
short-refused n u h = ap (λ t. option_map (refused n u) (cond t (Some Rule.Short) (early_rule u.bytes))) h

accepted-unit : (n : ℕ) (u : NalUnit) → short_unit u.bytes ≡ false → early_refusal n u ≡ None → unit_refusal n u ≡ None
accepted-unit n u h none = ap (option_map (refused n u)) (unit_rule-is u.bytes h) ∙ none

closed-shown : (s : List ℕ) (c : List ℕ) (cs : List (List ℕ)) (p : List ℕ) (fed given : ℕ) (u : NalUnit) (z : ℕ) → Runs s (c ∷ cs) p fed given (Some u) z → 2 ≤ z →
    refusal_shown false (s ++ 1 ∷ []) ≡ option_or (unit_refusal given (unit_of u.place u.bytes)) None
unfolding trimmed has_emulation
closed-shown s c cs p fed given u z h low =
    shown-is (s ++ 1 ∷ []) ((c ∷ cs) ++ closed (Some u) z ∷ []) [] (closed-open s (c ∷ cs) p fed given (Some u) z h low)
    ∙ ap (λ f. option_or f (option_or (first_refusal (before ((c ∷ cs) ++ closed (Some u) z ∷ []))) None)) h.front_none
    ∙ ap (λ us. option_or (first_refusal us) None) (closed-units s c cs p fed given u z h)
    ∙ ap (λ v. option_or v None) (refusal-push (before (c ∷ cs)) u)
    ∙ ap (λ v. option_or (option_or v (unit_refusal (length (before (c ∷ cs))) (u))) None) h.closed_none
    ∙ ap (λ n. option_or (unit_refusal n (unit_of u.place u.bytes)) None) (sym h.number)

-- the unit in the making shows nothing
pub making-quiet : (s : List ℕ) (c : List ℕ) (cs : List (List ℕ)) (p : List ℕ) (fed given : ℕ) (u : NalUnit) (z : ℕ) → Runs s (c ∷ cs) p fed given (Some u) z →
    early_refusal given (unit_of u.place u.bytes) ≡ None
making-quiet s c cs p fed given u z h =
    ap (λ n. early_refusal n (unit_of u.place u.bytes)) h.number
    ∙ ap (λ u. early_refusal (length (before (c ∷ cs))) (u)) (sym (making-is s c cs p fed given u z h))
    ∙ h.late_none

pub short-shown : (s : List ℕ) (c : List ℕ) (cs : List (List ℕ)) (p : List ℕ) (fed given : ℕ) (u : NalUnit) (z : ℕ) → Runs s (c ∷ cs) p fed given (Some u) z → 2 ≤ z →
    short_unit u.bytes ≡ true → refusal_shown false (s ++ 1 ∷ []) ≡ Some (record { unit = given; byte = u.place; rule = Rule.Short })
short-shown s c cs p fed given u z h low short =
    closed-shown s c cs p fed given u z h low ∙ ap (λ o. option_or o None) (short-refused given u short)

-- a closed unit that isn't short waits
pub closed-stands : (s : List ℕ) (c : List ℕ) (cs : List (List ℕ)) (p : List ℕ) (fed given : ℕ) (u : NalUnit) (z : ℕ) → Runs s (c ∷ cs) p fed given (Some u) z → 2 ≤ z →
    short_unit u.bytes ≡ false →
    StandsFor (record { fed = fed + 1; given = given; ended = false; waiting = Some u; making = Some (record { place = fed + 1; bytes = [] }); zeros = 0; refusal = None }) (s ++ 1 ∷ [])
unfolding trimmed
closed-stands s c cs p fed given u z h low long =
    let opened = closed-open s (c ∷ cs) p fed given (Some u) z h low in
    let whole : whole_units false (s ++ 1 ∷ []) ≡ before (c ∷ cs) ++ u ∷ [] = whole-is (s ++ 1 ∷ []) ((c ∷ cs) ++ closed (Some u) z ∷ []) [] opened ∙ closed-units s c cs p fed given u z h in
    record {
      fed = let f : fed ≡ length s = h.count in omega (arith, length-append s (1 ∷ []));
      accepted = closed-shown s c cs p fed given u z h low ∙ ap (λ o. option_or o None) (accepted-unit given u long (making-quiet s c cs p fed given u z h));
      given = subst (λ us. given ≤ length us) (sym whole) (let n : given ≡ length (before (c ∷ cs)) = h.number in omega (arith, length-append (before (c ∷ cs)) (u ∷ [])));
      waiting = ap (drop given) whole ∙ ap (λ n. drop n (before (c ∷ cs) ++ u ∷ [])) h.number ∙ drop-append_seam (before (c ∷ cs)) (u ∷ []);
      keeps = λ _. keeps_at (s ++ 1 ∷ []) ((c ∷ cs) ++ closed (Some u) z ∷ []) [] _ 0 opened (ap (λ n. Some (record { place = n; bytes = [] })) (closed-length s (c ∷ cs) p fed given (Some u) z h low)) refl;
      unrefused = refl;
    }

-- at the end of the input the unit in the making is the last unit
last-units : (s : List ℕ) (c : List ℕ) (cs : List (List ℕ)) (p : List ℕ) (fed given : ℕ) (u : NalUnit) (z : ℕ) → Runs s (c ∷ cs) p fed given (Some u) z → units s ≡ before (c ∷ cs) ++ u ∷ []
last-units s c cs p fed given u z h = units-end s c cs p h.opened ∙ ap (λ x. before (c ∷ cs) ++ x ∷ []) (making-is s c cs p fed given u z h)

front-quiet : (s : List ℕ) (cs : List (List ℕ)) (p : List ℕ) (fed given : ℕ) (making : Option NalUnit) (z : ℕ) → Runs s cs p fed given making z → option_map refused_leading (leading s) ≡ None
front-quiet s cs p fed given making z h = ap front_shown h.opened ∙ h.front_none

last-shown : (s : List ℕ) (c : List ℕ) (cs : List (List ℕ)) (p : List ℕ) (fed given : ℕ) (u : NalUnit) (z : ℕ) → Runs s (c ∷ cs) p fed given (Some u) z →
    refusal_shown true s ≡ option_or (unit_refusal given (unit_of u.place u.bytes)) None
last-shown s c cs p fed given u z h =
    ap (λ f. option_or f (option_or (first_refusal (units s)) None)) (front-quiet s (c ∷ cs) p fed given (Some u) z h)
    ∙ ap (λ us. option_or (first_refusal us) None) (last-units s c cs p fed given u z h)
    ∙ ap (λ v. option_or v None) (refusal-push (before (c ∷ cs)) u)
    ∙ ap (λ v. option_or (option_or v (unit_refusal (length (before (c ∷ cs))) (u))) None) h.closed_none
    ∙ ap (λ n. option_or (unit_refusal n (unit_of u.place u.bytes)) None) (sym h.number)

pub last-short : (s : List ℕ) (c : List ℕ) (cs : List (List ℕ)) (p : List ℕ) (fed given : ℕ) (u : NalUnit) (z : ℕ) → Runs s (c ∷ cs) p fed given (Some u) z →
    short_unit u.bytes ≡ true → refusal_shown true s ≡ Some (record { unit = given; byte = u.place; rule = Rule.Short })
last-short s c cs p fed given u z h short =
    last-shown s c cs p fed given u z h ∙ ap (λ o. option_or o None) (short-refused given u short)

pub last-stands : (s : List ℕ) (c : List ℕ) (cs : List (List ℕ)) (p : List ℕ) (fed given : ℕ) (u : NalUnit) (z left : ℕ) → Runs s (c ∷ cs) p fed given (Some u) z →
    short_unit u.bytes ≡ false →
    StandsFor (record { fed = fed; given = given; ended = true; waiting = Some u; making = None; zeros = left; refusal = None }) s
last-stands s c cs p fed given u z left h long =
    let whole = last-units s c cs p fed given u z h in
    record {
      fed = h.count;
      accepted = last-shown s c cs p fed given u z h ∙ ap (λ o. option_or o None) (accepted-unit given u long (making-quiet s c cs p fed given u z h));
      given = subst (λ us. given ≤ length us) (sym whole) (let n : given ≡ length (before (c ∷ cs)) = h.number in omega (arith, length-append (before (c ∷ cs)) (u ∷ [])));
      waiting = ap (drop given) whole ∙ ap (λ n. drop n (before (c ∷ cs) ++ u ∷ [])) h.number ∙ drop-append_seam (before (c ∷ cs)) (u ∷ []);
      keeps = λ e. absurd (true≢false e);
      unrefused = refl;
    }

-- where no code came there is none
pub none-stands : (s p : List ℕ) (fed given z left : ℕ) → Runs s [] p fed given None z →
    StandsFor (record { fed = fed; given = given; ended = true; waiting = None; making = None; zeros = left; refusal = None }) s
unfolding placed refusal_behind
none-stands s p fed given z left h =
    let none = units-none s p h.opened in
    record {
      fed = h.count;
      accepted =
          ap (λ f. option_or f (option_or (first_refusal (units s)) None)) (front-quiet s [] p fed given None z h)
          ∙ ap (λ us. option_or (first_refusal us) None) none;
      given = subst (λ us. given ≤ length us) (sym none) (let n : given ≡ length (before []) = h.number in omega arith);
      waiting = ap (drop given) none ∙ ap (λ n. drop n []) h.number;
      keeps = λ e. absurd (true≢false e);
      unrefused = refl;
    }

-- a unit that waited was handed out
pub handed-stands : (scan : Scan) (u : NalUnit) (s : List ℕ) → scan.waiting ≡ Some u → StandsFor scan s → StandsFor (record scan { waiting = None; given = scan.given + 1 }) s
handed-stands scan u s is h = record {
  fed = h.fed;
  accepted = h.accepted;
  given = one_more scan.given (whole_units scan.ended s) u left;
  waiting = drop_one scan.given (whole_units scan.ended s) u left;
  keeps = h.keeps;
  unrefused = h.unrefused;
}
  where
    left : drop scan.given (whole_units scan.ended s) ≡ u ∷ []
    left = h.waiting ∙ ap option_to_list is

    one_more : (n : ℕ) (us : List NalUnit) (u : NalUnit) → drop n us ≡ u ∷ [] → n + 1 ≤ length us
    one_more zero [] u e = absurd (cc)
    one_more (suc n) [] u e = absurd (cc)
    one_more zero (x ∷ us) u e = omega arith
    one_more (suc n) (x ∷ us) u e = let rest : n + 1 ≤ length us = one_more n us u e in omega arith

    drop_one : (n : ℕ) (us : List NalUnit) (u : NalUnit) → drop n us ≡ u ∷ [] → drop (n + 1) us ≡ []
    drop_one n us u e = sym (drop-drop 1 n us) ∙ ap (drop 1) e

-- nothing was fed
pub nothing-stands : StandsFor (running 0 0 None 0) []
unfolding pieces placed refusal_behind
nothing-stands = runs-stands [] [] [] 0 0 None 0 (record {
  opened = refl;
  unit_is = refl;
  piece = refl;
  front_none = refl;
  closed_none = refl;
  late_none = refl;
  number = refl;
  count = refl;
})

-- the unit that waits, if one does, is handed out
pub handing-stands : (scan : Scan) (s : List ℕ) → StandsFor scan s → StandsFor (handed_out scan) s
handing-stands scan s h = go scan.waiting refl
  where
    go : (w : Option NalUnit) → scan.waiting ≡ w → StandsFor (elim w [ None ↦ scan | Some u ↦ record scan { waiting = None; given = scan.given + 1 } ]) s
    go None is = h
    go (Some u) is = handed-stands scan u s is h
