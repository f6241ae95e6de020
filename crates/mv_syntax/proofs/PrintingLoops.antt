-- The steps of loops that print: the items so far, and then one turn more.
use Rattle.std.proofs.Common.{◌≡◌, ℕ, ◌+◌, ◌<◌, ◌≤◌, List, [], ◌∷◌, ◌++◌, length, get_or, take, refl, sym, ap, subst, ◌∙◌, append_assoc, append-nil, arith}
use Rattle.std.proofs.lemmas.List.{take_more, take_all, length-take-le}
use Rattle.mv_syntax.specs.Table.{Table, Valid}
use Rattle.mv_syntax.specs.Loops.{unzipped, both_lists, items, items_after, items_numbered, columns, columns_after}
use Rattle.mv_syntax.specs.Printed.{Output, depth, opened, closed, in_bracket, print_each, printed_in}
use Rattle.mv_syntax.proofs.LoopLaws.{both_lists-take, both_lists-at, unzipped-take, items-length, items-valid, items_after-length, items_after-valid, columns-lengths, columns-valid, columns_after-lengths, columns_after-valid, items_numbered-length, items_numbered-valid}

pub print_each-append : {A Out : Type 0} (one : List A → A → Out → Out) (before some more : List A) (out : Out)
    → print_each one before (some ++ more) out ≡ print_each one (before ++ some) more (print_each one before some out)
print_each-append one before [] more out = rw (append-nil before) refl
print_each-append one before (v ∷ some) more out =
    print_each-append one (before ++ v ∷ []) some more (one before v out) ∙ rw (append_assoc before (v ∷ []) some) refl

-- the items up to and with item i are the items before it, and then item i
pub print_each-turn : {A Out : Type 0} (one : List A → A → Out → Out) (vs : List A) (i : ℕ) (d : A) (out : Out) → i < length vs
    → print_each one [] (take (i + 1) vs) out ≡ one (take i vs) (get_or vs i d) (print_each one [] (take i vs) out)
print_each-turn one vs i d out h = rw (take_more vs i d h) (print_each-append one [] (take i vs) (get_or vs i d ∷ []) out)

-- ---- one list
pub print_items_turn : {A : Type 0} (t : ℕ → Table A) (first n : ℕ) (name : List ℕ) (vs : List A) (i j : ℕ) (d : A) (out : Output) → i < length vs → j ≡ first + i
    → printed_in (items first n t) name (take (i + 1) vs) out
    ≡ in_bracket j (λ inner. printed_in (t j) name (get_or vs i d) inner) (printed_in (items first n t) name (take i vs) out)
unfolding items
print_items_turn t first n name vs i j d out h e =
    print_each-turn (λ before v o. in_bracket (first + length before) (λ inner. printed_in (t (first + length before)) name v inner) o) vs i d out h
    ∙ rw (length-take-le i vs (omega arith), ← e) refl

pub print_items_begin : {A : Type 0} (t : ℕ → Table A) (first n : ℕ) (name : List ℕ) (out : Output) → printed_in (items first n t) name [] out ≡ out
unfolding items
print_items_begin t first n name out = refl

pub print_items_done : {A : Type 0} (t : ℕ → Table A) (first n : ℕ) (name : List ℕ) (vs : List A) (i : ℕ) (out : Output) → length vs ≤ i
    → printed_in (items first n t) name (take i vs) out ≡ printed_in (items first n t) name vs out
print_items_done t first n name vs i out h = rw (take_all i vs h) refl

pub print_items_after_turn : {A : Type 0} (t : ℕ → List A → Table A) (first n : ℕ) (name : List ℕ) (vs : List A) (i j : ℕ) (d : A) (out : Output) → i < length vs → j ≡ first + i
    → printed_in (items_after first n t) name (take (i + 1) vs) out
    ≡ in_bracket j (λ inner. printed_in (t j (take i vs)) name (get_or vs i d) inner) (printed_in (items_after first n t) name (take i vs) out)
unfolding items_after
print_items_after_turn t first n name vs i j d out h e =
    print_each-turn (λ before v o. in_bracket (first + length before) (λ inner. printed_in (t (first + length before) before) name v inner) o) vs i d out h
    ∙ rw (length-take-le i vs (omega arith), ← e) refl

pub print_items_after_begin : {A : Type 0} (t : ℕ → List A → Table A) (first n : ℕ) (name : List ℕ) (out : Output) → printed_in (items_after first n t) name [] out ≡ out
unfolding items_after
print_items_after_begin t first n name out = refl

pub print_items_after_done : {A : Type 0} (t : ℕ → List A → Table A) (first n : ℕ) (name : List ℕ) (vs : List A) (i : ℕ) (out : Output) → length vs ≤ i
    → printed_in (items_after first n t) name (take i vs) out ≡ printed_in (items_after first n t) name vs out
print_items_after_done t first n name vs i out h = rw (take_all i vs h) refl

pub print_numbered_turn : {A : Type 0} (index : ℕ → ℕ) (t : ℕ → Table A) (n : ℕ) (name : List ℕ) (vs : List A) (i : ℕ) (d : A) (out : Output) → i < length vs
    → printed_in (items_numbered index n t) name (take (i + 1) vs) out
    ≡ in_bracket (index i) (λ inner. printed_in (t i) name (get_or vs i d) inner) (printed_in (items_numbered index n t) name (take i vs) out)
unfolding items_numbered
print_numbered_turn index t n name vs i d out h =
    print_each-turn (λ before v o. in_bracket (index (length before)) (λ inner. printed_in (t (length before)) name v inner) o) vs i d out h
    ∙ rw (length-take-le i vs (omega arith)) refl

pub print_numbered_step : {A : Type 0} (index : ℕ → ℕ) (t : ℕ → Table A) (n : ℕ) (name : List ℕ) (vs : List A) (i j : ℕ) (d x : A) (out : Output) {at_turn inside behind done : Output} {outer : ℕ}
    → at_turn ≡ printed_in (items_numbered index n t) name (take i vs) out → i < length vs → j ≡ index i → x ≡ get_or vs i d
    → (outer ≡ depth at_turn) × (inside ≡ opened j at_turn) → behind ≡ printed_in (t i) name x inside → done ≡ closed outer behind
    → done ≡ printed_in (items_numbered index n t) name (take (i + 1) vs) out
print_numbered_step index t n name vs i j d x out so_far h e same start body end =
    let turn = print_numbered_turn index t n name vs i d out h in
    rw (turn, ← so_far, end, body, start.1, start.0, same, e) refl

pub print_numbered_begin : {A : Type 0} (index : ℕ → ℕ) (t : ℕ → Table A) (n : ℕ) (name : List ℕ) (out : Output) → printed_in (items_numbered index n t) name [] out ≡ out
unfolding items_numbered
print_numbered_begin index t n name out = refl

pub print_numbered_done : {A : Type 0} (index : ℕ → ℕ) (t : ℕ → Table A) (n : ℕ) (name : List ℕ) (vs : List A) (i : ℕ) (out : Output) → length vs ≤ i
    → printed_in (items_numbered index n t) name (take i vs) out ≡ printed_in (items_numbered index n t) name vs out
print_numbered_done index t n name vs i out h = rw (take_all i vs h) refl

-- a turn as code makes it: its bracket is opened, its body printed, its bracket closed
pub print_items_step : {A : Type 0} (t : ℕ → Table A) (first n : ℕ) (name : List ℕ) (vs : List A) (i j : ℕ) (d : A) (out : Output) {at_turn inside behind done : Output} {outer : ℕ}
    → at_turn ≡ printed_in (items first n t) name (take i vs) out → i < length vs → j ≡ first + i
    → (outer ≡ depth at_turn) × (inside ≡ opened j at_turn) → behind ≡ printed_in (t j) name (get_or vs i d) inside → done ≡ closed outer behind
    → done ≡ printed_in (items first n t) name (take (i + 1) vs) out
print_items_step t first n name vs i j d out so_far h e start body end =
    let turn = print_items_turn t first n name vs i j d out h e in
    rw (turn, ← so_far, end, body, start.1, start.0) refl

-- the same, where the item is met under another name
pub print_item_step : {A : Type 0} (t : ℕ → Table A) (first n : ℕ) (name : List ℕ) (vs : List A) (i j : ℕ) (d x : A) (out : Output) {at_turn inside behind done : Output} {outer : ℕ}
    → at_turn ≡ printed_in (items first n t) name (take i vs) out → i < length vs → j ≡ first + i → x ≡ get_or vs i d
    → (outer ≡ depth at_turn) × (inside ≡ opened j at_turn) → behind ≡ printed_in (t j) name x inside → done ≡ closed outer behind
    → done ≡ printed_in (items first n t) name (take (i + 1) vs) out
print_item_step t first n name vs i j d x out {inside = inside} so_far h e same start body end =
    print_items_step t first n name vs i j d out so_far h e start (body ∙ ap (λ v. printed_in (t j) name v inside) same) end

pub item_valid : {A : Type 0} (t : ℕ → Table A) (first n : ℕ) (vs : List A) (i j : ℕ) (d x : A) → Valid (items first n t) vs → i < length vs → j ≡ first + i → x ≡ get_or vs i d
    → Valid (t j) x
item_valid t first n vs i j d x valid h e same = subst (λ v. Valid (t j) v) (sym same) (items-valid t first n vs i j d valid h e)

pub print_items_after_step : {A : Type 0} (t : ℕ → List A → Table A) (first n : ℕ) (name : List ℕ) (vs : List A) (i j : ℕ) (d : A) (out : Output) {at_turn inside behind done : Output} {outer : ℕ}
    → at_turn ≡ printed_in (items_after first n t) name (take i vs) out → i < length vs → j ≡ first + i
    → (outer ≡ depth at_turn) × (inside ≡ opened j at_turn) → behind ≡ printed_in (t j (take i vs)) name (get_or vs i d) inside → done ≡ closed outer behind
    → done ≡ printed_in (items_after first n t) name (take (i + 1) vs) out
print_items_after_step t first n name vs i j d out so_far h e start body end =
    let turn = print_items_after_turn t first n name vs i j d out h e in
    rw (turn, ← so_far, end, body, start.1, start.0) refl

-- ---- two lists
pub print_columns_turn : {A B : Type 0} (t : ℕ → Table (A × B)) (first n : ℕ) (name : List ℕ) (ones : List A) (others : List B) (i j : ℕ) (d : A) (e : B) (out : Output)
    → i < length ones → i < length others → j ≡ first + i
    → printed_in (columns first n t) name (take (i + 1) ones, take (i + 1) others) out
    ≡ in_bracket j (λ inner. printed_in (t j) name (get_or ones i d, get_or others i e) inner) (printed_in (columns first n t) name (take i ones, take i others) out)
unfolding columns items
print_columns_turn t first n name ones others i j d e out h k same =
    let at : (i < length (both_lists ones others)) × (get_or (both_lists ones others) i (d, e) ≡ (get_or ones i d, get_or others i e)) =
    both_lists-at ones others i d e h k in
    rw (both_lists-take (i + 1) ones others, both_lists-take i ones others, ← at.1)
    (print_items_turn t first n name (both_lists ones others) i j (d, e) out at.0 same)

pub print_columns_step : {A B : Type 0} (t : ℕ → Table (A × B)) (first n : ℕ) (name : List ℕ) (ones : List A) (others : List B) (i j : ℕ) (d : A) (e : B) (out : Output)
    {at_turn inside behind done : Output} {outer : ℕ}
    → at_turn ≡ printed_in (columns first n t) name (take i ones, take i others) out → i < length ones → i < length others → j ≡ first + i
    → (outer ≡ depth at_turn) × (inside ≡ opened j at_turn) → behind ≡ printed_in (t j) name (get_or ones i d, get_or others i e) inside → done ≡ closed outer behind
    → done ≡ printed_in (columns first n t) name (take (i + 1) ones, take (i + 1) others) out
print_columns_step t first n name ones others i j d e out so_far h k same start body end =
    let turn = print_columns_turn t first n name ones others i j d e out h k same in
    rw (turn, ← so_far, end, body, start.1, start.0) refl

pub print_columns_begin : {A B : Type 0} (t : ℕ → Table (A × B)) (first n : ℕ) (name : List ℕ) (out : Output) → printed_in (columns first n t) name ([], []) out ≡ out
unfolding columns
print_columns_begin t first n name out = refl

pub print_columns_done : {A B : Type 0} (t : ℕ → Table (A × B)) (first n : ℕ) (name : List ℕ) (ones : List A) (others : List B) (i : ℕ) (out : Output) → length ones ≤ i → length others ≤ i
    → printed_in (columns first n t) name (take i ones, take i others) out ≡ printed_in (columns first n t) name (ones, others) out
print_columns_done t first n name ones others i out h k = rw (take_all i ones h, take_all i others k) refl

-- the pairs up to and with pair i are the pairs before it, and then pair i
print_pairs_turn : {A B : Type 0} (t : ℕ → List A → List B → Table (A × B)) (first : ℕ) (name : List ℕ) (pairs : List (A × B)) (i j : ℕ) (d : A × B) (out : Output)
    → i < length pairs → j ≡ first + i
    → print_each (λ so_far v o. in_bracket (first + length so_far) (λ inner. printed_in (t (first + length so_far) (unzipped so_far).0 (unzipped so_far).1) name v inner) o) [] (take (i + 1) pairs) out
    ≡ in_bracket j (λ inner. printed_in (t j (unzipped (take i pairs)).0 (unzipped (take i pairs)).1) name (get_or pairs i d) inner)
    (print_each (λ so_far v o. in_bracket (first + length so_far) (λ inner. printed_in (t (first + length so_far) (unzipped so_far).0 (unzipped so_far).1) name v inner) o) [] (take i pairs) out)
print_pairs_turn t first name pairs i j d out h same =
    rw same
    (rw (print_each-turn (λ so_far v o. in_bracket (first + length so_far) (λ inner. printed_in (t (first + length so_far) (unzipped so_far).0 (unzipped so_far).1) name v inner) o) pairs i d out h)
    (rw (length-take-le i pairs (omega arith)) refl))

pub print_columns_after_turn : {A B : Type 0} (t : ℕ → List A → List B → Table (A × B)) (first n : ℕ) (name : List ℕ) (ones : List A) (others : List B) (i j : ℕ) (d : A) (e : B) (out : Output)
    → i < length ones → i < length others → j ≡ first + i
    → printed_in (columns_after first n t) name (take (i + 1) ones, take (i + 1) others) out
    ≡ in_bracket j (λ inner. printed_in (t j (take i ones) (take i others)) name (get_or ones i d, get_or others i e) inner)
    (printed_in (columns_after first n t) name (take i ones, take i others) out)
unfolding columns_after
print_columns_after_turn t first n name ones others i j d e out h k same =
    let at : (i < length (both_lists ones others)) × (get_or (both_lists ones others) i (d, e) ≡ (get_or ones i d, get_or others i e)) =
    both_lists-at ones others i d e h k in
    let before : unzipped (take i (both_lists ones others)) ≡ (take i ones, take i others) = unzipped-take ones others i (omega arith) (omega arith) in
    rw (both_lists-take (i + 1) ones others, both_lists-take i ones others, ← at.1)
    (rw (print_pairs_turn t first name (both_lists ones others) i j (d, e) out at.0 same) (rw before refl))

pub print_columns_after_begin : {A B : Type 0} (t : ℕ → List A → List B → Table (A × B)) (first n : ℕ) (name : List ℕ) (out : Output) → printed_in (columns_after first n t) name ([], []) out ≡ out
unfolding columns_after
print_columns_after_begin t first n name out = refl

pub print_columns_after_done : {A B : Type 0} (t : ℕ → List A → List B → Table (A × B)) (first n : ℕ) (name : List ℕ) (ones : List A) (others : List B) (i : ℕ) (out : Output)
    → length ones ≤ i → length others ≤ i → printed_in (columns_after first n t) name (take i ones, take i others) out ≡ printed_in (columns_after first n t) name (ones, others) out
print_columns_after_done t first n name ones others i out h k = rw (take_all i ones h, take_all i others k) refl

pub print_columns_after_step : {A B : Type 0} (t : ℕ → List A → List B → Table (A × B)) (first n : ℕ) (name : List ℕ) (ones : List A) (others : List B) (i j : ℕ) (d : A) (e : B) (out : Output) {at_turn inside behind done : Output} {outer : ℕ}
    → at_turn ≡ printed_in (columns_after first n t) name (take i ones, take i others) out → i < length ones → i < length others → j ≡ first + i
    → (outer ≡ depth at_turn) × (inside ≡ opened j at_turn) → behind ≡ printed_in (t j (take i ones) (take i others)) name (get_or ones i d, get_or others i e) inside → done ≡ closed outer behind
    → done ≡ printed_in (columns_after first n t) name (take (i + 1) ones, take (i + 1) others) out
print_columns_after_step t first n name ones others i j d e out so_far h k same start body end =
    let turn = print_columns_after_turn t first n name ones others i j d e out h k same in
    rw (turn, ← so_far, end, body, start.1, start.0) refl

-- the lemmas for a loop that prints one list, or two
pub ruleset print_item_steps = (print_items_begin, print_items_step, print_items_done, print_items_after_begin, print_items_after_turn, print_items_after_done, items-length, items-valid, items_after-length, items_after-valid)

pub ruleset print_numbered_steps = (print_numbered_begin, print_numbered_turn, print_numbered_done, items_numbered-length, items_numbered-valid)

pub ruleset print_column_steps = (print_columns_begin, print_columns_turn, print_columns_done, columns-lengths, columns-valid)

pub ruleset print_column_after_steps = (print_columns_after_begin, print_columns_after_turn, print_columns_after_done, columns_after-lengths, columns_after-valid)
