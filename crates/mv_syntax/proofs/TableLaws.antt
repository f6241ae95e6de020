-- The laws of tables, each once for every table: the reader on lists answers a value exactly where it reads, and a rule
-- exactly where it cuts.
use Rattle.std.proofs.Common.{◌≡◌, ℕ, zero, suc, ◌-◌, ◌^◌, ◌<◌, Bool, true, false, List, [], ◌∷◌, ◌++◌, length, Option, Some, None, Result, Ok, Err, ◌⊎◌, if◌then◌else◌, refl, sym, ap, ◌∙◌, subst, inl, inr, append_assoc, append-nil, arith, length-append}
use Rattle.mv_syntax.specs.Bits.{Fault, short, breaks, kept, u_bits, take_bits, ue_bits, take_ue, se_code, se_bits, take_se}
use Rattle.mv_syntax.specs.Bits as bits
use Rattle.mv_syntax.specs.Table.{Table, u, ue, se, named, refused, checked, ◌>>=◌, when, repeat, by_rule, padded, shaped, in_turn, EachValid, bits_of, Valid, Reads, EachCut, Cut}
use Rattle.mv_syntax.specs.inner.Writer.{put_each, put}
use Rattle.mv_syntax.specs.inner.Reader.{counted_as, read_each, behind, read}
use Rattle.mv_syntax.specs.Laws.{ExactlyOneOf, ReadsAt, ExactlyOne, RoundTrips, Splits, SplitsAs, Prefixes}
use Rattle.mv_syntax.proofs.BitLaws.{take_bits-u_bits, take_bits-printed, take_bits-failed, take_ue-ue_bits, take_ue-printed, take_ue-failed, take_se-se_bits, take_se-printed, take_se-failed}

-- what stands behind some bits tells how many they are
pub behind-count : (own rest : List Bool) → length (own ++ rest) - length rest ≡ length own
behind-count own rest = rw (length-append own rest) (omega arith)

-- ---- the parts of an answer
pub ok_value : {A B : Type 0} (x y : A) → Path (Result A B) (Ok x) (Ok y) → x ≡ y
ok_value x y e = cc

pub ok_err : {A B : Type 0} (x : A) (y : B) → Path (Result A B) (Ok x) (Err y) → ⊥
ok_err x y e = cc

-- bits that stand there are found, and what is found stood there
pub behind-there : (xs rest : List Bool) → behind xs (xs ++ rest) ≡ Ok rest
behind-there [] rest = refl
behind-there (true ∷ xs) rest = behind-there xs rest
behind-there (false ∷ xs) rest = behind-there xs rest

pub behind-found : (xs b rest : List Bool) → behind xs b ≡ Ok rest → b ≡ xs ++ rest
behind-found [] b rest e = cc
behind-found (x ∷ xs) [] rest e = cc
behind-found (true ∷ xs) (true ∷ b) rest e = ap (λ c. true ∷ c) (behind-found xs b rest e)
behind-found (true ∷ xs) (false ∷ b) rest e = cc
behind-found (false ∷ xs) (true ∷ b) rest e = cc
behind-found (false ∷ xs) (false ∷ b) rest e = ap (λ c. false ∷ c) (behind-found xs b rest e)

pub behind-failed : (xs b : List Bool) (fault : Fault) → behind xs b ≡ Err fault → fault ≡ short
behind-failed [] b fault e = cc
behind-failed (x ∷ xs) [] fault e = cc
behind-failed (true ∷ xs) (true ∷ b) fault e = behind-failed xs b fault e
behind-failed (true ∷ xs) (false ∷ b) fault e = cc
behind-failed (false ∷ xs) (true ∷ b) fault e = cc
behind-failed (false ∷ xs) (false ∷ b) fault e = behind-failed xs b fault e

-- what a reading in two steps answered
pub bind-ok : {A B : Type 0} (x : Result A Fault) (f : A → Result B Fault) (y : B) → bits.◌>>=◌ x f ≡ Ok y → (a : A) × (x ≡ Ok a) × (f a ≡ Ok y)
bind-ok (Ok a) f y e = (a, refl, e)
bind-ok (Err fault) f y e = cc

pub bind-err : {A B : Type 0} (x : Result A Fault) (f : A → Result B Fault) (fault : Fault) → bits.◌>>=◌ x f ≡ Err fault → (x ≡ Err fault) ⊎ ((a : A) × (x ≡ Ok a) × (f a ≡ Err fault))
bind-err (Ok a) f fault e = inr (a, refl, e)
bind-err (Err other) f fault e = inl cc

pub kept-ok : {A B : Type 0} (f : A → B) (x : Result (A × List Bool) Fault) (w : B) (rest : List Bool) → kept f x ≡ Ok (w, rest) → (v : A) × (x ≡ Ok (v, rest)) × (f v ≡ w)
kept-ok f (Ok x) w rest e =
    let h : (f x.0, x.1) ≡ (w, rest) = ok_value _ _ e in
    (x.0, ap (λ r. Ok (x.0, r)) (ap (λ p. p.1) h), ap (λ p. p.0) h)
kept-ok f (Err fault) w rest e = cc

pub kept-err : {A B : Type 0} (f : A → B) (x : Result (A × List Bool) Fault) (fault : Fault) → kept f x ≡ Err fault → x ≡ Err fault
kept-err f (Ok x) fault e = cc
kept-err f (Err other) fault e = cc

pub refused-ok : {A : Type 0} (c : Bool) (fault : Fault) (x y : A) → Path (Result A Fault) (if c then Err fault else Ok x) (Ok y) → (c ≡ false) × (x ≡ y)
refused-ok true fault x y e = cc
refused-ok false fault x y e = (refl, ok_value x y e)

pub refused-err : {A : Type 0} (c : Bool) (fault other : Fault) (x : A) → Path (Result A Fault) (if c then Err fault else Ok x) (Err other) → (c ≡ true) × (fault ≡ other)
refused-err true fault other x e = (refl, cc)
refused-err false fault other x e = cc

pub counted-ok : {A : Type 0} (r : ℕ) (x : Result A Fault) (y : A) → counted_as r x ≡ Ok y → x ≡ Ok y
counted-ok r (Ok x) y e = e
counted-ok r (Err short) y e = cc
counted-ok r (Err (breaks s)) y e = cc

pub counted-err : {A : Type 0} (r : ℕ) (x : Result A Fault) (s : ℕ) → counted_as r x ≡ Err (breaks s) → (s ≡ r) × ((q : ℕ) × (x ≡ Err (breaks q)))
counted-err r (Ok x) s e = cc
counted-err r (Err short) s e = cc
counted-err r (Err (breaks q)) s e = (cc, (q, refl))

-- ---- what was printed reads back before any rest
-- a loop reads back, given that its body does
pub each-ok :
    {A : Type 0} (one : List A → List Bool → Result (A × List Bool) Fault) (print : List A → A → List Bool) (valid : List A → A → Type 0)
    → ((before : List A) (v : A) (rest : List Bool) → valid before v → one before (print before v ++ rest) ≡ Ok (v, rest))
    → (n : ℕ) (before vs : List A) (rest : List Bool) → length vs ≡ n → EachValid valid before vs
    → read_each one n before (in_turn print before vs ++ rest) ≡ Ok (before ++ vs, rest)
each-ok one print valid ok zero before [] rest e h = rw (append-nil before) refl
each-ok one print valid ok zero before (v ∷ vs) rest e h = cc
each-ok one print valid ok (suc n) before [] rest e h = cc
each-ok one print valid ok (suc n) before (v ∷ vs) rest e h =
    let more : List Bool = in_turn print (before ++ v ∷ []) vs in
    rw (append_assoc (print before v) more rest, ok before v (more ++ rest) h.0)
    (each-ok one print valid ok n (before ++ v ∷ []) vs rest (omega arith) h.1 ∙ ap (λ l. Ok (l, rest)) (append_assoc before (v ∷ []) vs))

pub read-ok : {A : Type 0} (t : Table A) (v : A) (rest : List Bool) → Valid t v → read t (bits_of t v ++ rest) ≡ Ok (v, rest)
read-ok (u n) v rest h = take_bits-u_bits n v rest h
read-ok ue v rest h = take_ue-ue_bits v rest h
read-ok se v rest h = take_se-se_bits v rest h
read-ok (named name t) v rest h = read-ok t v rest h
read-ok (refused r bad t) v rest h = rw (read-ok t v rest h.0, h.1) refl
read-ok (checked r bad t) v rest h = rw h.0 (read-ok t v rest h.1)
read-ok (t >>= f) v rest h =
    rw (append_assoc (bits_of t v.0) (bits_of (f v.0) v.1) rest, read-ok t v.0 (bits_of (f v.0) v.1 ++ rest) h.0, read-ok (f v.0) v.1 rest h.1) refl
read-ok (when true t) (Some v) rest h = rw (read-ok t v rest h.1) refl
read-ok (when false t) (Some v) rest h = cc
read-ok (when true t) None rest h = cc
read-ok (when false t) None rest h = refl
read-ok (repeat index n t) vs rest h =
    each-ok (λ before c. read (t before) c) (λ before v. bits_of (t before) v) (λ before v. Valid (t before) v)
    (λ before v more valid. read-ok (t before) v more valid) n [] vs rest h.0 h.1
read-ok (by_rule r t) v rest h = rw (read-ok t v rest h) refl
read-ok (padded pad t) v rest h =
    let own : List Bool = bits_of t v in
    let pads : List Bool = pad v (length own) in
    let count : length (own ++ (pads ++ rest)) - length (pads ++ rest) ≡ length own =
    behind-count own (pads ++ rest) in
    rw (append_assoc own pads rest, read-ok t v (pads ++ rest) h, count, behind-there pads rest) refl
read-ok (shaped to from same t) v rest h = rw (read-ok t (from v) rest h.0, h.1) refl

-- ---- what reads was printed, and is valid
-- all is `before` and n valid items more, and b is what is printed for these and the rest
abbrev pub Found : {A : Type 0} → (List A → A → List Bool) → (List A → A → Type 0) → List A → List Bool → ℕ → List A → List Bool → Type 0
Found {A} print valid all rest n before b =
    (vs : List A) × (all ≡ before ++ vs) × (length vs ≡ n) × EachValid valid before vs × (b ≡ in_turn print before vs ++ rest)

pub each-read :
    {A : Type 0} (one : List A → List Bool → Result (A × List Bool) Fault) (print : List A → A → List Bool) (valid : List A → A → Type 0)
    → ((before : List A) (b : List Bool) (v : A) (rest : List Bool) → one before b ≡ Ok (v, rest) → valid before v × (b ≡ print before v ++ rest))
    → (n : ℕ) (before : List A) (b : List Bool) (all : List A) (rest : List Bool) → read_each one n before b ≡ Ok (all, rest)
    → Found print valid all rest n before b
each-read one print valid reads zero before b all rest e =
    let h : (before, b) ≡ (all, rest) = ok_value _ _ e in
    ([], sym (ap (λ p. p.0) h) ∙ sym (append-nil before), refl, tt, ap (λ p. p.1) h)
each-read {A = A} one print valid reads (suc n) before b all rest e =
    go (bind-ok (one before b) (λ x. read_each one n (before ++ x.0 ∷ []) x.1) (all, rest) e)
    (λ x others. each-read one print valid reads n (before ++ x.0 ∷ []) x.1 all rest others)
  where
    go :
        (x : A × List Bool) × (one before b ≡ Ok x) × (read_each one n (before ++ x.0 ∷ []) x.1 ≡ Ok (all, rest))
        → ((x : A × List Bool) → read_each one n (before ++ x.0 ∷ []) x.1 ≡ Ok (all, rest) → Found print valid all rest n (before ++ x.0 ∷ []) x.1)
        → Found print valid all rest (suc n) before b
    go (x, first, others) later =
        let (vs, whole, count, valids, bits) = later x others in
        let one_read : valid before x.0 × (b ≡ print before x.0 ++ x.1) = reads before b x.0 x.1 first in (
          x.0 ∷ vs,
          whole ∙ append_assoc before (x.0 ∷ []) vs,
          omega arith,
          (one_read.0, valids),
          one_read.1 ∙ ap (λ c. print before x.0 ++ c) bits ∙ sym (append_assoc (print before x.0) (in_turn print (before ++ x.0 ∷ []) vs) rest),
        )

pub reads-read : {A : Type 0} (t : Table A) (b : List Bool) (v : A) (rest : List Bool) → read t b ≡ Ok (v, rest) → Valid t v × (b ≡ bits_of t v ++ rest)
reads-read (u n) b v rest e = let h : (b ≡ u_bits n v ++ rest) × (v < 2 ^ n) = take_bits-printed n b v rest e in (h.1, h.0)
reads-read ue b v rest e = let h : (b ≡ ue_bits v ++ rest) × (v < 2 ^ 32 - 1) = take_ue-printed b v rest e in (h.1, h.0)
reads-read se b v rest e = let h : (b ≡ se_bits v ++ rest) × (se_code v < 2 ^ 32 - 1) = take_se-printed b v rest e in (h.1, h.0)
reads-read (named name t) b v rest e = reads-read t b v rest e
reads-read (refused {A = A} r bad t) b v rest e =
    go (bind-ok (read t b) (λ x. if bad x.0 then Err (breaks r) else Ok x) (v, rest) e) (reads-read t b v rest)
  where
    go :
        (x : A × List Bool) × (read t b ≡ Ok x) × (Path (Result (A × List Bool) Fault) (if bad x.0 then Err (breaks r) else Ok x) (Ok (v, rest)))
        → (read t b ≡ Ok (v, rest) → Valid t v × (b ≡ bits_of t v ++ rest))
        → (Valid t v × (bad v ≡ false)) × (b ≡ bits_of t v ++ rest)
    go (x, first, second) later =
        let (fine, same) = refused-ok (bad x.0) (breaks r) x (v, rest) second in
        let h : Valid t v × (b ≡ bits_of t v ++ rest) = later (first ∙ ap (λ y. Ok y) same) in
        ((h.0, sym (ap (λ y. bad y.0) same) ∙ fine), h.1)
reads-read (checked r true t) b v rest e = cc
reads-read (checked r false t) b v rest e = let h : Valid t v × (b ≡ bits_of t v ++ rest) = reads-read t b v rest e in ((refl, h.0), h.1)
reads-read (◌>>=◌ {A = A} {B = B} t f) b v rest e =
    go (bind-ok (read t b) (λ x. kept (λ y. (x.0, y)) (read (f x.0) x.1)) (v, rest) e) (reads-read t b)
    (λ a c more after. reads-read (f a) c (v.1) more after)
  where
    go :
        (x : A × List Bool) × (read t b ≡ Ok x) × (Path (Result ((A × B) × List Bool) Fault) (kept (λ y. (x.0, y)) (read (f x.0) x.1)) (Ok (v, rest)))
        → ((a : A) (more : List Bool) → read t b ≡ Ok (a, more) → Valid t a × (b ≡ bits_of t a ++ more))
        → ((a : A) (c : List Bool) (more : List Bool) → read (f a) c ≡ Ok (v.1, more) → Valid (f a) v.1 × (c ≡ bits_of (f a) v.1 ++ more))
        → (Valid t v.0 × Valid (f v.0) v.1) × (b ≡ bits_of t v.0 ++ bits_of (f v.0) v.1 ++ rest)
    go (x, first, second) one two =
        let (w, after, same) = kept-ok (λ y. (x.0, y)) (read (f x.0) x.1) v rest second in
        let left : x.0 ≡ v.0 = ap (λ p. p.0) same in
        let right : w ≡ v.1 = ap (λ p. p.1) same in
        let a : Valid t v.0 × (b ≡ bits_of t v.0 ++ x.1) = one v.0 x.1 (first ∙ ap (λ y. Ok (y, x.1)) left) in
        let c : Valid (f v.0) v.1 × (x.1 ≡ bits_of (f v.0) v.1 ++ rest) =
        two v.0 x.1 rest (sym (ap (λ y. read (f y) x.1) left) ∙ after ∙ ap (λ y. Ok (y, rest)) right) in
        ((a.0, c.0), a.1 ∙ ap (λ y. bits_of t v.0 ++ y) c.1 ∙ sym (append_assoc (bits_of t v.0) (bits_of (f v.0) v.1) rest))
reads-read (when {A = A} true t) b v rest e = go (kept-ok Some (read t b) v rest e) (reads-read t b)
  where
    go :
        (w : A) × (read t b ≡ Ok (w, rest)) × (Some w ≡ v)
        → ((a : A) (more : List Bool) → read t b ≡ Ok (a, more) → Valid t a × (b ≡ bits_of t a ++ more))
        → Valid (when true t) v × (b ≡ bits_of (when true t) v ++ rest)
    go (w, first, same) one =
        let h : Valid t w × (b ≡ bits_of t w ++ rest) = one w rest first in
        let P : Option A → Type 0 = λ o. Valid (when true t) o × (b ≡ bits_of (when true t) o ++ rest) in
        subst P same ((refl, h.0), h.1)
reads-read (when {A = A} false t) b v rest e =
    let same : Path (Option A × List Bool) (None, b) (v, rest) = ok_value _ _ e in
    let P : Option A → Type 0 = λ o. Valid (when false t) o × (b ≡ bits_of (when false t) o ++ rest) in
    subst P (ap (λ p. p.0) same) (refl, ap (λ p. p.1) same)
reads-read (repeat {A = A} index n t) b vs rest e =
    let found =
    each-read (λ before c. read (t before) c) (λ before v. bits_of (t before) v) (λ before v. Valid (t before) v)
    (λ before c v more first. reads-read (t before) c v more first) n [] b vs rest e in
    let P : List A → Type 0 = λ l. Valid (repeat index n t) l × (b ≡ bits_of (repeat index n t) l ++ rest) in
    subst P (sym found.1) ((found.2, found.3), found.4)
reads-read (by_rule r t) b v rest e = reads-read t b v rest (counted-ok r (read t b) (v, rest) e)
reads-read (padded {A = A} pad t) b v rest e =
    go (bind-ok (read t b) (λ x. bits.◌>>=◌ (behind (pad x.0 (length b - length x.1)) x.1) (λ more. Ok (x.0, more))) (v, rest) e) (reads-read t b)
  where
    go :
        (x : A × List Bool) × (read t b ≡ Ok x)
        × (Path (Result (A × List Bool) Fault) (bits.◌>>=◌ (behind (pad x.0 (length b - length x.1)) x.1) (λ more. Ok (x.0, more))) (Ok (v, rest)))
        → ((a : A) (more : List Bool) → read t b ≡ Ok (a, more) → Valid t a × (b ≡ bits_of t a ++ more))
        → Valid t v × (b ≡ bits_of t v ++ pad v (length (bits_of t v)) ++ rest)
    go (x, first, second) one =
        let (more, there, last) = bind-ok (behind (pad x.0 (length b - length x.1)) x.1) (λ y. Ok (x.0, y)) (v, rest) second in
        let same : (x.0, more) ≡ (v, rest) = ok_value _ _ last in
        let left : x.0 ≡ v = ap (λ p. p.0) same in
        let right : more ≡ rest = ap (λ p. p.1) same in
        let h : Valid t v × (b ≡ bits_of t v ++ x.1) = one v x.1 (first ∙ ap (λ y. Ok (y, x.1)) left) in
        let own : List Bool = bits_of t v in
        let count : length b - length x.1 ≡ length own = ap (λ y. length y - length x.1) h.1 ∙ behind-count own x.1 in
        let stood : x.1 ≡ pad v (length own) ++ rest =
        behind-found (pad v (length own)) x.1 rest
        (sym (ap (λ y. behind (pad y (length b - length x.1)) x.1) left ∙ ap (λ y. behind (pad v y) x.1) count) ∙ there ∙ ap (λ y. Ok y) right) in
        (h.0, h.1 ∙ ap (λ y. own ++ y) stood ∙ sym (append_assoc own (pad v (length own)) rest))
reads-read (shaped {A = A} {B = B} to from same t) b v rest e = go (kept-ok to (read t b) v rest e) (reads-read t b)
  where
    go :
        (w : A) × (read t b ≡ Ok (w, rest)) × (to w ≡ v)
        → ((a : A) (more : List Bool) → read t b ≡ Ok (a, more) → Valid t a × (b ≡ bits_of t a ++ more))
        → (Valid t (from v) × (to (from v) ≡ v)) × (b ≡ bits_of t (from v) ++ rest)
    go (w, first, form) one =
        let back : w ≡ from v = sym (same w) ∙ ap from form in
        let h : Valid t (from v) × (b ≡ bits_of t (from v) ++ rest) = one (from v) rest (first ∙ ap (λ y. Ok (y, rest)) back) in
        ((h.0, sym (ap to back) ∙ form), h.1)

-- ---- a value reads exactly where the reader answers it
pub read-reads : {A : Type 0} (t : Table A) (b : List Bool) (v : A) (rest : List Bool) → Reads t b v rest → read t b ≡ Ok (v, rest)
read-reads t b v rest h = rw h.bits (read-ok t v rest h.valid)

pub reads-of : {A : Type 0} (t : Table A) (b : List Bool) (v : A) (rest : List Bool) → read t b ≡ Ok (v, rest) → Reads t b v rest
reads-of t b v rest e = let h : Valid t v × (b ≡ bits_of t v ++ rest) = reads-read t b v rest e in record { valid = h.0; bits = h.1 }

-- ---- a rule cuts exactly where the reader answers it
pub each-cut :
    {A : Type 0} (one : List A → List Bool → Result (A × List Bool) Fault) (cut : List A → List Bool → Type 0) (reads : List A → List Bool → A → List Bool → Type 0) (r : ℕ)
    → ((before : List A) (b : List Bool) → cut before b → one before b ≡ Err (breaks r))
    → ((before : List A) (b : List Bool) (v : A) (rest : List Bool) → reads before b v rest → one before b ≡ Ok (v, rest))
    → (n : ℕ) (before : List A) (b : List Bool) → EachCut cut reads n before b → read_each one n before b ≡ Err (breaks r)
each-cut one cut reads r cuts ok zero before b h = absurd h
each-cut one cut reads r cuts ok (suc n) before b (inl h) = rw (cuts before b h) refl
each-cut one cut reads r cuts ok (suc n) before b (inr (v, rest, first, others)) =
    rw (ok before b v rest first) (each-cut one cut reads r cuts ok n (before ++ v ∷ []) rest others)

pub read-cut : {A : Type 0} (t : Table A) (b : List Bool) (r : ℕ) → Cut t b r → read t b ≡ Err (breaks r)
read-cut (u n) b r h = absurd h
read-cut ue b r h = absurd h
read-cut se b r h = absurd h
read-cut (named name t) b r h = read-cut t b r h
read-cut (refused s bad t) b r (inl h) = rw (read-cut t b r h) refl
read-cut (refused s bad t) b r (inr (v, rest, reads, broken, same)) = rw (read-reads t b v rest reads, broken, same) refl
read-cut (checked s bad t) b r (inl (broken, same)) = rw (broken, same) refl
read-cut (checked s bad t) b r (inr (fine, h)) = rw fine (read-cut t b r h)
read-cut (t >>= f) b r (inl h) = rw (read-cut t b r h) refl
read-cut (t >>= f) b r (inr (v, rest, reads, h)) = rw (read-reads t b v rest reads, read-cut (f v) rest r h) refl
read-cut (when true t) b r (c, h) = rw (read-cut t b r h) refl
read-cut (when false t) b r (c, h) = cc
read-cut (repeat index n t) b r h =
    each-cut (λ before c. read (t before) c) (λ before c. Cut (t before) c r) (λ before c v rest. Reads (t before) c v rest) r
    (λ before c cut. read-cut (t before) c r cut) (λ before c v rest reads. read-reads (t before) c v rest reads) n [] b h
read-cut (by_rule s t) b r (same, (q, h)) = rw (read-cut t b q h, same) refl
read-cut (padded pad t) b r h = rw (read-cut t b r h) refl
read-cut (shaped to from same t) b r h = rw (read-cut t b r h) refl

-- a fault that is short is none that breaks a rule
pub short-breaks : (r : ℕ) → Path Fault (breaks r) short → ⊥
short-breaks r e = cc

pub breaks-same : (r s : ℕ) → Path Fault (breaks r) (breaks s) → r ≡ s
breaks-same r s e = cc

pub err_fault : {A : Type 0} (x y : Fault) → Path (Result A Fault) (Err x) (Err y) → x ≡ y
err_fault x y e = cc

pub cut-each :
    {A : Type 0} (one : List A → List Bool → Result (A × List Bool) Fault) (cut : List A → List Bool → Type 0) (reads : List A → List Bool → A → List Bool → Type 0) (r : ℕ)
    → ((before : List A) (b : List Bool) → one before b ≡ Err (breaks r) → cut before b)
    → ((before : List A) (b : List Bool) (v : A) (rest : List Bool) → one before b ≡ Ok (v, rest) → reads before b v rest)
    → (n : ℕ) (before : List A) (b : List Bool) → read_each one n before b ≡ Err (breaks r) → EachCut cut reads n before b
cut-each one cut reads r cuts ok zero before b e = cc
cut-each {A = A} one cut reads r cuts ok (suc n) before b e =
    go (bind-err (one before b) (λ x. read_each one n (before ++ x.0 ∷ []) x.1) (breaks r) e)
    (λ x others. cut-each one cut reads r cuts ok n (before ++ x.0 ∷ []) x.1 others)
  where
    go :
        (one before b ≡ Err (breaks r)) ⊎ ((x : A × List Bool) × (one before b ≡ Ok x) × (read_each one n (before ++ x.0 ∷ []) x.1 ≡ Err (breaks r)))
        → ((x : A × List Bool) → read_each one n (before ++ x.0 ∷ []) x.1 ≡ Err (breaks r) → EachCut cut reads n (before ++ x.0 ∷ []) x.1)
        → EachCut cut reads (suc n) before b
    go (inl h) later = inl (cuts before b h)
    go (inr (x, first, others)) later = inr (x.0, x.1, ok before b x.0 x.1 first, later x others)

pub cut-read : {A : Type 0} (t : Table A) (b : List Bool) (r : ℕ) → read t b ≡ Err (breaks r) → Cut t b r
cut-read (u n) b r e = short-breaks r (take_bits-failed n 0 b (breaks r) e).0
cut-read ue b r e = short-breaks r (take_ue-failed b (breaks r) e).0
cut-read se b r e = short-breaks r (take_se-failed b (breaks r) e).0
cut-read (named name t) b r e = cut-read t b r e
cut-read (refused {A = A} s bad t) b r e = go (bind-err (read t b) (λ x. if bad x.0 then Err (breaks s) else Ok x) (breaks r) e) (cut-read t b r)
  where
    go :
        (read t b ≡ Err (breaks r)) ⊎ ((x : A × List Bool) × (read t b ≡ Ok x) × (Path (Result (A × List Bool) Fault) (if bad x.0 then Err (breaks s) else Ok x) (Err (breaks r))))
        → (read t b ≡ Err (breaks r) → Cut t b r)
        → Cut (refused s bad t) b r
    go (inl h) later = inl (later h)
    go (inr (x, first, second)) later =
        let (broken, same) = refused-err (bad x.0) (breaks s) (breaks r) x second in
        inr (x.0, x.1, reads-of t b x.0 x.1 first, broken, sym (breaks-same s r same))
cut-read (checked s true t) b r e = inl (refl, sym (breaks-same s r (err_fault _ _ e)))
cut-read (checked s false t) b r e = inr (refl, cut-read t b r e)
cut-read (◌>>=◌ {A = A} {B = B} t f) b r e =
    go (bind-err (read t b) (λ x. kept (λ y. (x.0, y)) (read (f x.0) x.1)) (breaks r) e) (cut-read t b r) (λ a c later. cut-read (f a) c r later)
  where
    go :
        (read t b ≡ Err (breaks r)) ⊎ ((x : A × List Bool) × (read t b ≡ Ok x) × (Path (Result ((A × B) × List Bool) Fault) (kept (λ y. (x.0, y)) (read (f x.0) x.1)) (Err (breaks r))))
        → (read t b ≡ Err (breaks r) → Cut t b r)
        → ((a : A) (c : List Bool) → read (f a) c ≡ Err (breaks r) → Cut (f a) c r)
        → Cut (t >>= f) b r
    go (inl h) one two = inl (one h)
    go (inr (x, first, second)) one two =
        inr (x.0, x.1, reads-of t b x.0 x.1 first, two x.0 x.1 (kept-err (λ y. (x.0, y)) (read (f x.0) x.1) (breaks r) second))
cut-read (when true t) b r e = (refl, cut-read t b r (kept-err Some (read t b) (breaks r) e))
cut-read (when false t) b r e = cc
cut-read (repeat index n t) b r e =
    cut-each (λ before c. read (t before) c) (λ before c. Cut (t before) c r) (λ before c v rest. Reads (t before) c v rest) r
    (λ before c first. cut-read (t before) c r first) (λ before c v rest first. reads-of (t before) c v rest first) n [] b e
cut-read (by_rule s t) b r e =
    let (same, (q, h)) = counted-err s (read t b) r e in (same, (q, cut-read t b q h))
cut-read (padded {A = A} pad t) b r e =
    go (bind-err (read t b) (λ x. bits.◌>>=◌ (behind (pad x.0 (length b - length x.1)) x.1) (λ more. Ok (x.0, more))) (breaks r) e) (cut-read t b r)
  where
    go :
        (read t b ≡ Err (breaks r)) ⊎ ((x : A × List Bool) × (read t b ≡ Ok x) × (Path (Result (A × List Bool) Fault) (bits.◌>>=◌ (behind (pad x.0 (length b - length x.1)) x.1) (λ more. Ok (x.0, more))) (Err (breaks r))))
        → (read t b ≡ Err (breaks r) → Cut t b r)
        → Cut t b r
    go (inl h) later = later h
    go (inr (x, first, second)) later = elim (bind-err (behind (pad x.0 (length b - length x.1)) x.1) (λ y. Ok (x.0, y)) (breaks r) second)
        [ inl missing ↦ absurd (short-breaks r (behind-failed (pad x.0 (length b - length x.1)) x.1 (breaks r) missing)) | inr (y, there, never) ↦ cc ]
cut-read (shaped to from same t) b r e = cut-read t b r (kept-err to (read t b) (breaks r) e)

-- ---- the writer's form
pub put_each-is :
    {A : Type 0} (one : List A → A → List Bool → List Bool) (print : List A → A → List Bool)
    → ((before : List A) (v : A) (out : List Bool) → one before v out ≡ out ++ print before v)
    → (before vs : List A) (out : List Bool) → put_each one before vs out ≡ out ++ in_turn print before vs
put_each-is one print is before [] out = sym (append-nil out)
put_each-is one print is before (v ∷ vs) out =
    rw (is before v out) (put_each-is one print is (before ++ v ∷ []) vs (out ++ print before v) ∙ append_assoc out (print before v) (in_turn print (before ++ v ∷ []) vs))

-- what is put stands behind what was written before
pub put-is : {A : Type 0} (t : Table A) (v : A) (out : List Bool) → put t v out ≡ out ++ bits_of t v
put-is (u n) v out = refl
put-is ue v out = refl
put-is se v out = refl
put-is (named name t) v out = put-is t v out
put-is (refused r bad t) v out = put-is t v out
put-is (checked r bad t) v out = put-is t v out
put-is (t >>= f) v out =
    rw (put-is t v.0 out) (put-is (f v.0) v.1 (out ++ bits_of t v.0) ∙ append_assoc out (bits_of t v.0) (bits_of (f v.0) v.1))
put-is (when c t) (Some v) out = put-is t v out
put-is (when c t) None out = sym (append-nil out)
put-is (repeat index n t) vs out =
    put_each-is (λ before v c. put (t before) v c) (λ before v. bits_of (t before) v) (λ before v c. put-is (t before) v c) [] vs out
put-is (by_rule r t) v out = put-is t v out
put-is (padded pad t) v out =
    let own : List Bool = bits_of t v in
    let count : length (out ++ own) - length out ≡ length own = rw (length-append out own) (omega arith) in
    rw (put-is t v out, count) (append_assoc out own (pad v (length own)))
put-is (shaped to from same t) v out = put-is t (from v) out

-- what is put behind nothing is what is printed
pub put-nil : {A : Type 0} (t : Table A) (v : A) → put t v [] ≡ bits_of t v
put-nil t v = put-is t v []

-- ---- the three answers
-- an answer from a list of bits: a value exactly where one reads, a rule exactly where it cuts
pub record Answered {V : Type 0} (answer : Result V Fault) (reads : V → Type 0) (cut : ℕ → Type 0) : Type 0 where
  pub value : (v : V) → reads v → answer ≡ Ok v
  pub is_value : (v : V) → answer ≡ Ok v → reads v
  pub rule : (r : ℕ) → cut r → answer ≡ Err (breaks r)
  pub is_rule : (r : ℕ) → answer ≡ Err (breaks r) → cut r

-- where there is such an answer, exactly one of the three holds
pub one_of_three : {V : Type 0} (answer : Result V Fault) (reads : V → Type 0) (cut : ℕ → Type 0) → Answered answer reads cut → ExactlyOneOf reads cut
one_of_three {V} answer reads cut h = record {
  one_of = go answer refl;
  not_both = both;
  one_value = λ v w one other. ok_value v w (sym (h.value v one) ∙ h.value w other);
  one_rule = λ r s one other. breaks-same r s (err_fault (breaks r) (breaks s) (sym (h.rule r one) ∙ h.rule s other));
}
  where
    both : (v : V) (r : ℕ) → reads v → cut r → ⊥
    both v r one other = ok_err v (breaks r) (sym (h.value v one) ∙ h.rule r other)

    go : (x : Result V Fault) → answer ≡ x → ((v : V) × reads v) ⊎ ((r : ℕ) × cut r) ⊎ (¬ ((v : V) × reads v) × ¬ ((r : ℕ) × cut r))
    go (Ok x) e = inl (x, h.is_value x e)
    go (Err short) e =
        inr (inr ((λ k. ok_err k.0 short (sym (h.value k.0 k.1) ∙ e)), (λ k. short-breaks k.0 (err_fault (breaks k.0) short (sym (h.rule k.0 k.1) ∙ e)))))
    go (Err (breaks r)) e = inr (inl (r, h.is_rule r e))

-- neither holds exactly where the answer is short
pub short-neither : {V : Type 0} (answer : Result V Fault) (reads : V → Type 0) (cut : ℕ → Type 0) → Answered answer reads cut
    → answer ≡ Err short → ¬ ((v : V) × reads v) × ¬ ((r : ℕ) × cut r)
short-neither answer reads cut h e =
    ((λ k. ok_err k.0 short (sym (h.value k.0 k.1) ∙ e)), (λ k. short-breaks k.0 (err_fault (breaks k.0) short (sym (h.rule k.0 k.1) ∙ e))))

pub neither-short : {V : Type 0} (answer : Result V Fault) (reads : V → Type 0) (cut : ℕ → Type 0) → Answered answer reads cut
    → ¬ ((v : V) × reads v) → ¬ ((r : ℕ) × cut r) → answer ≡ Err short
neither-short {V} answer reads cut h none uncut = go answer refl
  where
    go : (x : Result V Fault) → answer ≡ x → x ≡ Err short
    go (Ok x) e = absurd (none (x, h.is_value x e))
    go (Err short) e = refl
    go (Err (breaks r)) e = absurd (uncut (r, h.is_rule r e))

pub table_answered : {A : Type 0} (t : Table A) (b : List Bool) → Answered (read t b) (ReadsAt t b) (Cut t b)
table_answered t b = record {
  value = λ x h. read-reads t b x.0 x.1 h;
  is_value = λ x e. reads-of t b x.0 x.1 e;
  rule = λ r h. read-cut t b r h;
  is_rule = λ r e. cut-read t b r e;
}

pub exactly_one : {A : Type 0} (t : Table A) (b : List Bool) → ExactlyOne t b
exactly_one t b = one_of_three (read t b) (ReadsAt t b) (Cut t b) (table_answered t b)

pub round_trips : {A : Type 0} (t : Table A) → RoundTrips t
round_trips {A} t = record {
  written_reads = λ v rest h. record { valid = h; bits = refl };
  reads_alone = λ v w rest more h there. alone v w rest more (record { valid = h; bits = refl }) there;
  not_cut = λ v rest r h cut. (exactly_one t (bits_of t v ++ rest)).not_both (v, rest) r (record { valid = h; bits = refl }) cut;
  read_writes = λ b v rest h. (h.valid, h.bits);
}
  where
    alone : (v w : A) (rest more : List Bool) → Reads t (bits_of t v ++ rest) v rest → Reads t (bits_of t v ++ rest) w more → (w ≡ v) × (more ≡ rest)
    alone v w rest more own there =
        let same : (w, more) ≡ (v, rest) = (exactly_one t (bits_of t v ++ rest)).one_value (w, more) (v, rest) there own in
        (ap (λ x. x.0) same, ap (λ x. x.1) same)

-- ---- the split between two fields
pub splits : {A B : Type 0} (t : Table A) (f : A → Table B) (b : List Bool) → Splits t f b
splits t f b = record {
  reads = λ v rest. (
    (λ h. (
      bits_of (f v.0) v.1 ++ rest,
      record { valid = h.valid.0; bits = h.bits ∙ append_assoc (bits_of t v.0) (bits_of (f v.0) v.1) rest },
      record { valid = h.valid.1; bits = refl },
    )),
    (λ h. record {
      valid = (h.1.valid, h.2.valid);
      bits = h.1.bits ∙ ap (λ c. bits_of t v.0 ++ c) h.2.bits ∙ sym (append_assoc (bits_of t v.0) (bits_of (f v.0) v.1) rest);
    }),
  );
  cut = λ r. ((λ h. h), (λ h. h));
}

-- where the value has another form, which it is again behind its parts
pub splits_as : {A B V : Type 0} (to : A × B → V) (from : V → A × B) (same : (x : A × B) → from (to x) ≡ x) → ((v : V) → to (from v) ≡ v)
    → (t : Table A) (f : A → Table B) (b : List Bool) → SplitsAs (shaped to from same (t >>= f)) from t f b
splits_as to from same back t f b = record {
  reads = λ v rest. (
    (λ h. ((splits t f b).reads (from v) rest).0 (record { valid = h.valid.0; bits = h.bits })),
    (λ h. let both : Reads (t >>= f) b (from v) rest = ((splits t f b).reads (from v) rest).1 h in record { valid = (both.valid, back v); bits = both.bits }),
  );
  cut = λ r. (splits t f b).cut r;
}

-- ---- what follows changes nothing
pub reads-more : {A : Type 0} (t : Table A) (b : List Bool) (v : A) (rest more : List Bool) → Reads t b v rest → Reads t (b ++ more) v (rest ++ more)
reads-more t b v rest more h = record { valid = h.valid; bits = ap (λ c. c ++ more) h.bits ∙ append_assoc (bits_of t v) rest more }

pub each_cut-more :
    {A : Type 0} (cut : List A → List Bool → Type 0) (reads : List A → List Bool → A → List Bool → Type 0) (more : List Bool)
    → ((before : List A) (b : List Bool) → cut before b → cut before (b ++ more))
    → ((before : List A) (b : List Bool) (v : A) (rest : List Bool) → reads before b v rest → reads before (b ++ more) v (rest ++ more))
    → (n : ℕ) (before : List A) (b : List Bool) → EachCut cut reads n before b → EachCut cut reads n before (b ++ more)
each_cut-more cut reads more cuts keeps zero before b h = h
each_cut-more cut reads more cuts keeps (suc n) before b (inl h) = inl (cuts before b h)
each_cut-more cut reads more cuts keeps (suc n) before b (inr (v, rest, first, others)) =
    inr (v, rest ++ more, keeps before b v rest first, each_cut-more cut reads more cuts keeps n (before ++ v ∷ []) rest others)

pub cut-more : {A : Type 0} (t : Table A) (b : List Bool) (r : ℕ) (more : List Bool) → Cut t b r → Cut t (b ++ more) r
cut-more (u n) b r more h = h
cut-more ue b r more h = h
cut-more se b r more h = h
cut-more (named name t) b r more h = cut-more t b r more h
cut-more (refused s bad t) b r more (inl h) = inl (cut-more t b r more h)
cut-more (refused s bad t) b r more (inr (v, rest, reads, broken, same)) = inr (v, rest ++ more, reads-more t b v rest more reads, broken, same)
cut-more (checked s bad t) b r more (inl h) = inl h
cut-more (checked s bad t) b r more (inr (fine, h)) = inr (fine, cut-more t b r more h)
cut-more (t >>= f) b r more (inl h) = inl (cut-more t b r more h)
cut-more (t >>= f) b r more (inr (v, rest, reads, h)) = inr (v, rest ++ more, reads-more t b v rest more reads, cut-more (f v) rest r more h)
cut-more (when c t) b r more (holds, h) = (holds, cut-more t b r more h)
cut-more (repeat index n t) b r more h =
    each_cut-more (λ before c. Cut (t before) c r) (λ before c v rest. Reads (t before) c v rest) more
    (λ before c cut. cut-more (t before) c r more cut) (λ before c v rest reads. reads-more (t before) c v rest more reads) n [] b h
cut-more (by_rule s t) b r more (same, (q, h)) = (same, (q, cut-more t b q more h))
cut-more (padded pad t) b r more h = cut-more t b r more h
cut-more (shaped to from same t) b r more h = cut-more t b r more h

pub prefixes : {A : Type 0} (t : Table A) (b more : List Bool) → Prefixes t b more
prefixes t b more = record { reads = λ v rest h. reads-more t b v rest more h; cut = λ r h. cut-more t b r more h }
