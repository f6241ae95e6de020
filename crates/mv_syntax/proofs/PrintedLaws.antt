-- Printing into bits is putting the bits of a value behind; printing into lines is adding its lines in turn.
use Rattle.std.proofs.Common.{◌≡◌, ℕ, Bool, List, [], ◌∷◌, ◌++◌, length, pos, Option, Some, None, refl, sym, ap, ◌∙◌, append_assoc, append-nil, codes}
use Rattle.std.proofs.Math.Seq.{take-append_seam}
use Prim.Native.String.{String}
use Rattle.mv_syntax.specs.Table.{Table, u, ue, se, named, refused, checked, ◌>>=◌, when, repeat, by_rule, padded, shaped, in_turn}
use Rattle.mv_syntax.specs.inner.Writer.{put_each, put}
use Rattle.mv_syntax.specs.Payload.{Payload, payload_bits, tail_line, payload_lines}
use Rattle.mv_syntax.specs.PrintedPayload.{printed_end, printed_payload}
use Rattle.mv_syntax.specs.Lines.{Line, lines_in, lines as lines_of, bracket, brackets, line_text, text_of}
use Rattle.mv_syntax.specs.Printed.{Output, bits, lines, with_line, in_bracket, print_each, printed_in}
use Rattle.mv_syntax.proofs.TableLaws.{put-is}

-- ---- bits
pub bits-same : (b c : List Bool) → bits b ≡ bits c → b ≡ c
bits-same b c e = cc

print_each-bits : {A : Type 0} (one : List A → A → List Bool → List Bool) (both : List A → A → Output → Output)
    → ((before : List A) (v : A) (b : List Bool) → both before v (bits b) ≡ bits (one before v b))
    → (before vs : List A) (b : List Bool) → print_each both before vs (bits b) ≡ bits (put_each one before vs b)
print_each-bits one both is before [] b = refl
print_each-bits one both is before (v ∷ vs) b =
    rw (is before v b) (print_each-bits one both is (before ++ v ∷ []) vs (one before v b))

pub printed-bits : {A : Type 0} (t : Table A) (name : List ℕ) (v : A) (b : List Bool) → printed_in t name v (bits b) ≡ bits (put t v b)
printed-bits (u n) name v b = refl
printed-bits ue name v b = refl
printed-bits se name v b = refl
printed-bits (named own t) name v b = printed-bits t (codes own) v b
printed-bits (refused r bad t) name v b = printed-bits t name v b
printed-bits (checked r bad t) name v b = printed-bits t name v b
printed-bits (t >>= f) name v b = rw (printed-bits t name v.0 b) (printed-bits (f v.0) name v.1 (put t v.0 b))
printed-bits (when c t) name (Some v) b = printed-bits t name v b
printed-bits (when c t) name None b = refl
printed-bits (repeat index n t) name vs b =
    print_each-bits (λ before v c. put (t before) v c)
    (λ before v o. in_bracket (index (length before)) (λ inner. printed_in (t before) name v inner) o)
    (λ before v c. rw (printed-bits (t before) name v c) refl) [] vs b
printed-bits (by_rule r t) name v b = printed-bits t name v b
printed-bits (padded pad t) name v b = rw (printed-bits t name v b) refl
printed-bits (shaped to from same t) name v b = printed-bits t name (from v) b

-- ---- lines
-- a line behind a text
abbrev pub add_line : List ℕ → Line → List ℕ
add_line text line = with_line (codes line.name) (brackets line.indexes) line.value text

-- the steps over a list of lines
abbrev pub each_line : {Out : Type 0} → (Out → Line → Out) → List Line → Out → Out
each_line step [] out = out
each_line step (line ∷ more) out = each_line step more (step out line)

each_line-append : {Out : Type 0} (step : Out → Line → Out) (some more : List Line) (out : Out)
    → each_line step (some ++ more) out ≡ each_line step more (each_line step some out)
each_line-append step [] more out = refl
each_line-append step (line ∷ some) more out = each_line-append step some more (step out line)

brackets-append : (outer inner : List ℕ) → brackets (outer ++ inner) ≡ brackets outer ++ brackets inner
brackets-append [] inner = refl
brackets-append (i ∷ outer) inner = rw (brackets-append outer inner) (sym (append_assoc (bracket i) (brackets outer) (brackets inner)))

-- one turn more is open
brackets-more : (at : List ℕ) (i : ℕ) → brackets at ++ bracket i ≡ brackets (at ++ i ∷ [])
brackets-more at i = rw (brackets-append at (i ∷ []), append-nil (bracket i)) refl

print_each-lines : {A : Type 0} (at : List ℕ) (told : List A → A → List Line) (both : List A → A → Output → Output)
    → ((before : List A) (v : A) (text : List ℕ) → both before v (lines text (brackets at)) ≡ lines (each_line add_line (told before v) text) (brackets at))
    → (before vs : List A) (text : List ℕ)
    → print_each both before vs (lines text (brackets at)) ≡ lines (each_line add_line (in_turn told before vs) text) (brackets at)
print_each-lines at told both is before [] text = refl
print_each-lines at told both is before (v ∷ vs) text =
    rw (is before v text, each_line-append add_line (told before v) (in_turn told (before ++ v ∷ []) vs) text)
    (print_each-lines at told both is (before ++ v ∷ []) vs (each_line add_line (told before v) text))

-- what is printed in a turn, given what its body prints there
turn-lines : (at : List ℕ) (i : ℕ) (body : Output → Output) (told : List Line) (text : List ℕ)
    → body (lines text (brackets (at ++ i ∷ []))) ≡ lines (each_line add_line told text) (brackets (at ++ i ∷ []))
    → in_bracket i body (lines text (brackets at)) ≡ lines (each_line add_line told text) (brackets at)
turn-lines at i body told text is =
    rw (brackets-more at i, is, ← brackets-more at i)
    (ap (λ around. lines (each_line add_line told text) around) (take-append_seam (brackets at) (bracket i)))

pub printed-lines : {A : Type 0} (t : Table A) (name : String) (at : List ℕ) (v : A) (text : List ℕ)
    → printed_in t (codes name) v (lines text (brackets at)) ≡ lines (each_line add_line (lines_in t name at v) text) (brackets at)
printed-lines (u n) name at v text = refl
printed-lines ue name at v text = refl
printed-lines se name at v text = refl
printed-lines (named own t) name at v text = printed-lines t own at v text
printed-lines (refused r bad t) name at v text = printed-lines t name at v text
printed-lines (checked r bad t) name at v text = printed-lines t name at v text
printed-lines (t >>= f) name at v text =
    rw (printed-lines t name at v.0 text, each_line-append add_line (lines_in t name at v.0) (lines_in (f v.0) name at v.1) text)
    (printed-lines (f v.0) name at v.1 (each_line add_line (lines_in t name at v.0) text))
printed-lines (when c t) name at (Some v) text = printed-lines t name at v text
printed-lines (when c t) name at None text = refl
printed-lines (repeat index n t) name at vs text =
    print_each-lines at (λ before v. lines_in (t before) name (at ++ index (length before) ∷ []) v)
    (λ before v o. in_bracket (index (length before)) (λ inner. printed_in (t before) (codes name) v inner) o)
    (λ before v so_far.
    turn-lines at (index (length before)) (λ inner. printed_in (t before) (codes name) v inner) (lines_in (t before) name (at ++ index (length before) ∷ []) v) so_far
    (printed-lines (t before) name (at ++ index (length before) ∷ []) v so_far))
    [] vs text
printed-lines (by_rule r t) name at v text = printed-lines t name at v text
printed-lines (padded pad t) name at v text = rw (printed-lines t name at v text) refl
printed-lines (shaped to from same t) name at v text = printed-lines t name at (from v) text

-- one line more
add-line : (text : List ℕ) (line : Line) → add_line text line ≡ text ++ line_text line
add-line text line = simp append_assoc

pub each_line-text : (told : List Line) (text : List ℕ) → each_line add_line told text ≡ text ++ text_of told
each_line-text [] text = sym (append-nil text)
each_line-text (line ∷ more) text = each_line-text more (add_line text line) ∙ rw (add-line text line) (append_assoc text (line_text line) (text_of more))

-- a table's fields have names of their own: outside every loop it shows its lines
pub printed-text : {A : Type 0} (t : Table A) (v : A) (text : List ℕ) → printed_in t (codes "") v (lines text []) ≡ lines (text ++ text_of (lines_in t "" [] v)) []
printed-text t v text = printed-lines t "" [] v text ∙ ap (λ s. lines s []) (each_line-text (lines_in t "" [] v) text)

-- ---- whole payloads
text_of-append : (some more : List Line) → text_of (some ++ more) ≡ text_of some ++ text_of more
text_of-append [] more = refl
text_of-append (line ∷ some) more = rw (text_of-append some more) (sym (append_assoc (line_text line) (text_of some) (text_of more)))

pub printed_payload-bits : {A : Type 0} (p : Payload A) (v : A × Option (List Bool)) → printed_payload p v (bits []) ≡ bits (payload_bits p v)
printed_payload-bits p v = rw (printed-bits p.fields [] v.0 [], put-is p.fields v.0 []) refl

end-text : (tail : Option (List Bool)) (text : List ℕ) → printed_end tail (lines text []) ≡ lines (text ++ text_of (tail_line tail)) []
end-text (Some tail) text =
    let line : Line = record { name = "tail"; indexes = []; value = pos (length tail) } in
    ap (λ s. lines s []) (add-line text line ∙ ap (λ more. text ++ more) (sym (append-nil (line_text line))))
end-text None text = ap (λ s. lines s []) (sym (append-nil text))

pub printed_payload-text : {A : Type 0} (p : Payload A) (v : A × Option (List Bool)) (text : List ℕ)
    → printed_payload p v (lines text []) ≡ lines (text ++ text_of (payload_lines p v)) []
printed_payload-text p v text =
    rw (printed-text p.fields v.0 text, end-text v.1 (text ++ text_of (lines_of p.fields v.0)), text_of-append (lines_of p.fields v.0) (tail_line v.1))
    (ap (λ s. lines s []) (append_assoc text (text_of (lines_of p.fields v.0)) (text_of (tail_line v.1))))
