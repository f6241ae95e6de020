-- Bytes that were added one after another are those added behind the others at once.
use Rattle.std.proofs.Common.{◌≡◌, List, ◌++◌, ap, sym, ◌∙◌}
use Rattle.std.proofs.lemmas.List.{append_assoc}

pub joined4 : {A : Type 0} (x a b c d : List A) → x ++ a ++ b ++ c ++ d ≡ x ++ (a ++ (b ++ c ++ d))
joined4 {A = A} x a b c d =
    append_assoc (x ++ a ++ b) c d ∙ append_assoc (x ++ a) b (c ++ d) ∙ append_assoc x a (b ++ (c ++ d))
    ∙ ap (λ rest. x ++ (a ++ rest)) (back b c d)
  where
    back : (b c d : List A) → b ++ (c ++ d) ≡ b ++ c ++ d
    back b c d = sym (append_assoc b c d)

pub joined5 : {A : Type 0} (x a b c d e : List A) → x ++ a ++ b ++ c ++ d ++ e ≡ x ++ (a ++ (b ++ c ++ d ++ e))
joined5 x a b c d e =
    ap (λ first. first ++ e) (joined4 x a b c d) ∙ append_assoc x (a ++ (b ++ c ++ d)) e
    ∙ ap (λ rest. x ++ rest) (append_assoc a (b ++ c ++ d) e)
