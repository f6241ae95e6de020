-- Reading a string in the length-prefixed form: its longest front of plain units, and what more bytes change.
use Rattle.std.proofs.Common.{◌≡◌, ◌≢◌, ℕ, zero, suc, ◌+◌, ◌≤◌, List, [], ◌∷◌, ◌++◌, length, refl, ap, sym, ◌∙◌, subst, arith, length-append, append_assoc, append-nil}
use Rattle.std.specs.Int.{to_be_bytes, w32}
use Rattle.std.specs.List.{All}
use Rattle.std.proofs.lemmas.List.Elements.{All-nil, All-head, All-tail, All-cons}
use Rattle.mv_rules.specs.declared.rule.Rule.{Rule}
use Rattle.mv_prefixed.specs.LenForm.{IsPlain, lenform}
use Rattle.mv_prefixed.specs.Reading.{Front, Open, Broken, Whole, front, Reading, behind, read_most, read}
use Rattle.mv_prefixed.proofs.Fronts.{front-more, front-whole, front-plain, front-short, more}

-- no plain unit stands at the front
abbrev pub IsStuck : List ℕ → Type 0
IsStuck s = (u rest : List ℕ) → front s ≢ Whole u rest

abbrev pub after : List (List ℕ) → Reading → Reading
after us r = record { units = us ++ r.units; rest = r.rest }

step : (most : ℕ) (s : List ℕ) → Front → Reading
step most s f = elim f as (λ _. Reading) [
  | Open ↦ record { units = []; rest = s }
  | Broken rule ↦ record { units = []; rest = s }
  | Whole u rest ↦ behind u (read_most most rest)
]

pub read-stuck : (most : ℕ) (s : List ℕ) → IsStuck s → read_most most s ≡ record { units = []; rest = s }
unfolding read_most step
read-stuck zero s stuck = refl
read-stuck (suc most) s stuck = go (front s) refl
  where
    go : (f : Front) → front s ≡ f → read_most (suc most) s ≡ record { units = []; rest = s }
    go Open is = ap (step most s) is
    go (Broken rule) is = ap (step most s) is
    go (Whole u rest) is = absurd (stuck u rest is)

pub read-whole : (most : ℕ) (s u rest : List ℕ) → front s ≡ Whole u rest → read_most (suc most) s ≡ behind u (read_most most rest)
unfolding read_most step
read-whole most s u rest is = ap (step most s) is

pub stuck-open : (s : List ℕ) → front s ≡ Open → IsStuck s
stuck-open s is = λ u rest whole. let h : Open ≡ Whole u rest = sym is ∙ whole in cc

pub stuck-broken : (s : List ℕ) (rule : Rule) → front s ≡ Broken rule → IsStuck s
stuck-broken s rule is = λ u rest whole. let h : Broken rule ≡ Whole u rest = sym is ∙ whole in cc

-- what stands behind a plain unit is shorter
pub rest-shorter : (s u rest : List ℕ) → front s ≡ Whole u rest → length rest + 4 + length u ≤ length s
rest-shorter s u rest is =
    let fronted = front-whole s u rest is in
    let len : length s ≡ length (to_be_bytes w32 (length u) ++ (u ++ rest)) = ap (λ v. length v) fronted.parts in
    omega (arith, len, length-append u rest)

stuck-nil : (s : List ℕ) → length s ≤ 0 → IsStuck s
stuck-nil s none = stuck-open s (front-short s (omega arith))

-- as many turns as the string has bytes are enough
pub enough : (k m : ℕ) (s : List ℕ) → length s ≤ k → length s ≤ m → read_most k s ≡ read_most m s
enough zero m s below within = read-stuck zero s (stuck-nil s below) ∙ sym (read-stuck m s (stuck-nil s below))
enough (suc k) zero s below within = read-stuck (suc k) s (stuck-nil s within) ∙ sym (read-stuck zero s (stuck-nil s within))
enough (suc k) (suc m) s below within = go (λ v. enough k m v) (front s) refl
  where
    go : ((v : List ℕ) → length v ≤ k → length v ≤ m → read_most k v ≡ read_most m v) → (f : Front) → front s ≡ f → read_most (suc k) s ≡ read_most (suc m) s
    go later Open is = read-stuck (suc k) s (stuck-open s is) ∙ sym (read-stuck (suc m) s (stuck-open s is))
    go later (Broken rule) is = read-stuck (suc k) s (stuck-broken s rule is) ∙ sym (read-stuck (suc m) s (stuck-broken s rule is))
    go later (Whole u rest) is =
        let shorter = rest-shorter s u rest is in
        read-whole k s u rest is ∙ ap (behind u) (later rest (omega (arith, shorter)) (omega (arith, shorter))) ∙ sym (read-whole m s u rest is)

pub read-unit : (s u rest : List ℕ) → front s ≡ Whole u rest → read s ≡ behind u (read rest)
read-unit s u rest is =
    let shorter = rest-shorter s u rest is in
    enough (length s) (suc (length s)) s (omega arith) (omega arith)
    ∙ read-whole (length s) s u rest is
    ∙ ap (behind u) (enough (length s) (length rest) rest (omega (arith, shorter)) (omega arith))

-- with more bytes behind it the units that were read stay, and the rest is read on
more-read : (k : ℕ) (s t : List ℕ) → length s ≤ k → read (s ++ t) ≡ after (read_most k s).units (read ((read_most k s).rest ++ t))
unfolding read_most
more-read zero s t below = refl
more-read (suc k) s t below = go (λ v. more-read k v t) (front s) refl
  where
    stuck : IsStuck s → read (s ++ t) ≡ after (read_most (suc k) s).units (read ((read_most (suc k) s).rest ++ t))
    stuck h = ap (λ (r : Reading). after r.units (read (r.rest ++ t))) (sym (read-stuck (suc k) s h))

    go : ((v : List ℕ) → length v ≤ k → read (v ++ t) ≡ after (read_most k v).units (read ((read_most k v).rest ++ t))) → (f : Front) → front s ≡ f → read (s ++ t) ≡ after (read_most (suc k) s).units (read ((read_most (suc k) s).rest ++ t))
    go later Open is = stuck (stuck-open s is)
    go later (Broken rule) is = stuck (stuck-broken s rule is)
    go later (Whole u rest) is =
        let closed : front s ≢ Open = λ none. let h : Open ≡ Whole u rest = sym none ∙ is in cc in
        let longer : front (s ++ t) ≡ Whole u (rest ++ t) = front-more s t closed ∙ ap (more t) is in
        let shorter = rest-shorter s u rest is in
        read-unit (s ++ t) u (rest ++ t) longer
        ∙ ap (behind u) (later rest (omega (arith, shorter)))
        ∙ ap (λ (r : Reading). after r.units (read (r.rest ++ t))) (sym (read-whole k s u rest is))

pub read-more : (s t : List ℕ) → read (s ++ t) ≡ after (read s).units (read ((read s).rest ++ t))
read-more s t = more-read (length s) s t (omega arith)

-- a string is the form of the units that are read, which are plain, and the rest, which no plain unit begins
pub record Decomposed (s : List ℕ) (r : Reading) : Type 0 where
  pub parts : s ≡ lenform r.units ++ r.rest
  pub plain : All IsPlain r.units
  pub stuck : IsStuck r.rest

decomposed-most : (k : ℕ) (s : List ℕ) → length s ≤ k → Decomposed s (read_most k s)
unfolding read_most lenform
decomposed-most zero s below = record { parts = refl; plain = All-nil IsPlain; stuck = stuck-nil s below }
decomposed-most (suc k) s below = go (λ v. decomposed-most k v) (front s) refl
  where
    stuck : IsStuck s → Decomposed s (read_most (suc k) s)
    stuck h = subst (Decomposed s) (sym (read-stuck (suc k) s h)) (record { parts = refl; plain = All-nil IsPlain; stuck = h })

    go : ((v : List ℕ) → length v ≤ k → Decomposed v (read_most k v)) → (f : Front) → front s ≡ f → Decomposed s (read_most (suc k) s)
    go again Open is = stuck (stuck-open s is)
    go again (Broken rule) is = stuck (stuck-broken s rule is)
    go again (Whole u rest) is =
        let shorter = rest-shorter s u rest is in
        let fronted = front-whole s u rest is in
        let later = again rest (omega (arith, shorter)) in
        subst (Decomposed s) (sym (read-whole k s u rest is)) (record {
          parts = fronted.parts
              ∙ ap (λ v. to_be_bytes w32 (length u) ++ (u ++ v)) later.parts
              ∙ ap (λ v. to_be_bytes w32 (length u) ++ v) (sym (append_assoc u (lenform (read_most k rest).units) (read_most k rest).rest))
              ∙ sym (append_assoc (to_be_bytes w32 (length u)) (u ++ lenform (read_most k rest).units) (read_most k rest).rest);
          plain = All-cons IsPlain u (read_most k rest).units fronted.plain later.plain;
          stuck = later.stuck;
        })

pub decomposed : (s : List ℕ) → Decomposed s (read s)
decomposed s = decomposed-most (length s) s (omega arith)

-- plain units at the front are read
pub read-lenform : (us : List (List ℕ)) (t : List ℕ) → All IsPlain us → read (lenform us ++ t) ≡ after us (read t)
unfolding lenform
read-lenform [] t plain = refl
read-lenform (u ∷ us) t plain =
    let parts : lenform (u ∷ us) ++ t ≡ to_be_bytes w32 (length u) ++ (u ++ (lenform us ++ t)) =
    append_assoc (to_be_bytes w32 (length u)) (u ++ lenform us) t ∙ ap (λ v. to_be_bytes w32 (length u) ++ v) (append_assoc u (lenform us) t) in
    ap read parts
    ∙ read-unit (to_be_bytes w32 (length u) ++ (u ++ (lenform us ++ t))) u (lenform us ++ t) (front-plain u (lenform us ++ t) (All-head IsPlain u us plain))
    ∙ ap (behind u) (read-lenform us t (All-tail IsPlain u us plain))

pub read-form : (us : List (List ℕ)) → All IsPlain us → read (lenform us) ≡ record { units = us; rest = [] }
unfolding read_most
read-form us plain =
    ap read (sym (append-nil (lenform us))) ∙ read-lenform us [] plain ∙ ap (λ v. record { units = v; rest = [] }) (append-nil us)
