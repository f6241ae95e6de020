-- A table cuts only by rules that it tries.
use Rattle.std.proofs.Common.{◌≡◌, inl, inr, ℕ, zero, suc, Bool, true, List, [], ◌∷◌, ◌++◌, ap, ◌∙◌}
use Rattle.std.specs.Prelude.{⊤}
use Rattle.mv_syntax.specs.Table.{Table, u, ue, se, named, refused, checked, ◌>>=◌, when, repeat, by_rule, padded, shaped, Cut, EachCut, Reads}

-- each rule that a table tries has such a number
abbrev pub Tries : {A : Type 0} → (ℕ → Bool) → Table A → Type 0
Tries ok (u n) = ⊤
Tries ok ue = ⊤
Tries ok se = ⊤
Tries ok (named name t) = Tries ok t
Tries ok (refused r bad t) = (ok r ≡ true) × Tries ok t
Tries ok (checked r bad t) = (ok r ≡ true) × Tries ok t
Tries ok (◌>>=◌ {A = A} t f) = Tries ok t × ((v : A) → Tries ok (f v))
Tries ok (when c t) = Tries ok t
Tries ok (repeat {A = A} index n t) = (before : List A) → Tries ok (t before)
Tries ok (by_rule r t) = ok r ≡ true
Tries ok (padded pad t) = Tries ok t
Tries ok (shaped to from same t) = Tries ok t

each_tried : {A : Type 0} (ok : ℕ → Bool) (t : List A → Table A) (r n : ℕ) (before : List A) (b : List Bool) →
    ((before : List A) (c : List Bool) → Cut (t before) c r → ok r ≡ true) →
    EachCut (λ before c. Cut (t before) c r) (λ before c v rest. Reads (t before) c v rest) n before b → ok r ≡ true
each_tried ok t r zero before b h cut = elim cut [ ]
each_tried ok t r (suc n) before b h (inl cut) = h before b cut
each_tried ok t r (suc n) before b h (inr (v, rest, reads, cut)) = each_tried ok t r n (before ++ v ∷ []) rest h cut

pub cut_tried : {A : Type 0} (ok : ℕ → Bool) (t : Table A) (b : List Bool) (r : ℕ) → Tries ok t → Cut t b r → ok r ≡ true
cut_tried ok (u n) b r h cut = elim cut [ ]
cut_tried ok ue b r h cut = elim cut [ ]
cut_tried ok se b r h cut = elim cut [ ]
cut_tried ok (named name t) b r h cut = cut_tried ok t b r h cut
cut_tried ok (refused s bad t) b r h (inl cut) = cut_tried ok t b r h.1 cut
cut_tried ok (refused s bad t) b r h (inr (v, rest, reads, broken, same)) = ap ok same ∙ h.0
cut_tried ok (checked s bad t) b r h (inl (broken, same)) = ap ok same ∙ h.0
cut_tried ok (checked s bad t) b r h (inr (whole, cut)) = cut_tried ok t b r h.1 cut
cut_tried ok (t >>= f) b r h (inl cut) = cut_tried ok t b r h.0 cut
cut_tried ok (t >>= f) b r h (inr (v, rest, reads, cut)) = cut_tried ok (f v) rest r (h.1 v) cut
cut_tried ok (when c t) b r h (coded, cut) = cut_tried ok t b r h cut
cut_tried ok (repeat index n t) b r h cut = each_tried ok t r n [] b (λ before c. cut_tried ok (t before) c r (h before)) cut
cut_tried ok (by_rule s t) b r h (same, some) = ap ok same ∙ h
cut_tried ok (padded pad t) b r h cut = cut_tried ok t b r h cut
cut_tried ok (shaped to from same t) b r h cut = cut_tried ok t b r h cut
