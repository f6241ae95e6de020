-- What one unit more changes: of the verdict on the pictures, and of what is written.
use Rattle.std.proofs.Common.{◌≡◌, ℕ, Bool, true, false, List, [], ◌∷◌, ◌++◌, map, reverse, None, Some, filter, refl, ap, sym, ◌∙◌, append-nil, if◌then◌else◌}
use Rattle.std.proofs.lemmas.List.{map-append, reverse-append}
use Rattle.mv_rules.specs.declared.rule.Rule.{Rule}
use Rattle.mv_units.specs.Framing.{frame}
use Rattle.mv_units.specs.Units.{NalUnit}
use Rattle.mv_units.proofs.Framed.{frame-append}
use Rattle.mv_judging.specs.declared.stop.Objection.{Objection}
use Rattle.mv_judging.specs.Format.{byte_stream}
use Rattle.mv_judging.proofs.Streams.{stream-format}
use Rattle.mv_history.specs.History.{run}
use Rattle.mv_pictures.specs.Extract.{extract}
use Rattle.mv_pictures.specs.History.{history_of}
use Rattle.mv_pictures.specs.Items.{Item, item, items, stays}
use Rattle.mv_pictures.specs.Facts.{fact}
use Rattle.mv_pictures.specs.AccessUnits.{placed}
use Rattle.mv_pictures.specs.Verdict.{bytes_of, no_picture, objection, pictures}
use Rattle.mv_commuting.specs.OneMore.{fact_behind}
use Rattle.mv_commuting.proofs.Late.{judged_late}
use Rattle.mv_walk_laws.specs.Streams.{objected}
use Rattle.mv_extract.specs.Text.{kept_text}
use Rattle.mv_extract.proofs.Ended.{IsSound}

pub pictures-sound : (o : ℕ) → IsSound byte_stream (pictures o)
pictures-sound o = record { format = stream-format; late = judged_late o }

-- the bytes of one unit more
pub bytes-push : (us : List NalUnit) (u : NalUnit) → bytes_of (us ++ u ∷ []) ≡ bytes_of us ++ u.bytes ∷ []
bytes-push us u = map-append (λ (u : NalUnit). u.bytes) us (u ∷ [])

pub late-is : (o : ℕ) (us : List NalUnit) (u : NalUnit) → (pictures o).late us u ≡ objected o (bytes_of us) u.bytes
unfolding pictures
late-is o us u = ap (λ bytes. objection o (history_of bytes)) (bytes-push us u)

-- the end
pub ending-none : (o : ℕ) (us : List NalUnit) → no_picture (history_of (bytes_of us)) ≡ false → (pictures o).ending us ≡ None
unfolding pictures
ending-none o us e = ap (λ b. if b then Some (Objection.Breaks Rule.NoPicture) else None) e

pub ending-some : (o : ℕ) (us : List NalUnit) (why : Objection) → no_picture (history_of (bytes_of us)) ≡ true → why ≡ Objection.Breaks Rule.NoPicture → (pictures o).ending us ≡ Some why
unfolding pictures
ending-some o us why e is = ap (λ b. if b then Some (Objection.Breaks Rule.NoPicture) else None) e ∙ ap Some (sym is)

-- what is kept of one unit more
one_kept : (o : ℕ) (u : List ℕ) (i : Item) (is : List Item) → i.bytes ≡ u → reverse (map (λ (x : Item). x.bytes) (filter (stays o) (i ∷ is))) ≡ reverse (map (λ (x : Item). x.bytes) (filter (stays o) is)) ++ (if stays o i then u ∷ [] else [])
one_kept o u i is e = go (stays o i) refl
  where
    go : (b : Bool) → stays o i ≡ b → reverse (map (λ (x : Item). x.bytes) (filter (stays o) (i ∷ is))) ≡ reverse (map (λ (x : Item). x.bytes) (filter (stays o) is)) ++ (if stays o i then u ∷ [] else [])
    go true h = rw h (reverse-append (i.bytes ∷ []) (map (λ (x : Item). x.bytes) (filter (stays o) is)) ∙ ap (λ v. reverse (map (λ (x : Item). x.bytes) (filter (stays o) is)) ++ v ∷ []) e)
    go false h = rw h (sym (append-nil (reverse (map (λ (x : Item). x.bytes) (filter (stays o) is)))))

items-push : (us : List (List ℕ)) (u : List ℕ) → items (reverse (us ++ u ∷ [])) ≡ item (items (reverse us)) u ∷ items (reverse us)
unfolding items run
items-push us u = ap (run item) (reverse-append us (u ∷ []))

pub item-here : (us : List (List ℕ)) (u : List ℕ) → (fact_behind us u).placed.item ≡ item (items (reverse us)) u
unfolding fact placed
item-here us u = refl

item_bytes : (past : List Item) (u : List ℕ) → (item past u).bytes ≡ u
unfolding item
item_bytes past u = refl

pub extract-push : (o : ℕ) (us : List (List ℕ)) (u : List ℕ) → extract (us ++ u ∷ []) o ≡ extract us o ++ (if stays o (fact_behind us u).placed.item then u ∷ [] else [])
unfolding extract
extract-push o us u =
    ap (λ is. reverse (map (λ (x : Item). x.bytes) (filter (stays o) is))) (items-push us u)
    ∙ one_kept o u (item (items (reverse us)) u) (items (reverse us)) (item_bytes (items (reverse us)) u)
    ∙ ap (λ i. extract us o ++ (if stays o i then u ∷ [] else [])) (sym (item-here us u))

-- what one unit more adds to the text
one_framed : (b : Bool) (u : List ℕ) → frame (if b then u ∷ [] else []) ≡ (if b then frame (u ∷ []) else [])
unfolding frame
one_framed true u = refl
one_framed false u = refl

text-push : (o : ℕ) (us : List NalUnit) (u : NalUnit) (kept : Bool) → kept ≡ stays o (fact_behind (bytes_of us) u.bytes).placed.item → kept_text o (us ++ u ∷ []) ≡ kept_text o us ++ (if kept then frame (u.bytes ∷ []) else [])
text-push o us u kept is =
    ap (λ bytes. frame (extract bytes o)) (bytes-push us u)
    ∙ ap frame (extract-push o (bytes_of us) u.bytes)
    ∙ frame-append (extract (bytes_of us) o) (if stays o (fact_behind (bytes_of us) u.bytes).placed.item then u.bytes ∷ [] else [])
    ∙ ap (λ rest. kept_text o us ++ rest) (one_framed (stays o (fact_behind (bytes_of us) u.bytes).placed.item) u.bytes)
    ∙ ap (λ b. kept_text o us ++ (if b then frame (u.bytes ∷ []) else [])) (sym is)

pub text-kept : (o : ℕ) (us : List NalUnit) (u : NalUnit) (kept : Bool) → kept ≡ stays o (fact_behind (bytes_of us) u.bytes).placed.item → kept ≡ true → kept_text o (us ++ u ∷ []) ≡ kept_text o us ++ frame (u.bytes ∷ [])
text-kept o us u kept is yes_kept = text-push o us u kept is ∙ ap (λ b. kept_text o us ++ (if b then frame (u.bytes ∷ []) else [])) yes_kept

pub text-dropped : (o : ℕ) (us : List NalUnit) (u : NalUnit) (kept : Bool) → kept ≡ stays o (fact_behind (bytes_of us) u.bytes).placed.item → kept ≡ false → kept_text o (us ++ u ∷ []) ≡ kept_text o us
text-dropped o us u kept is dropped =
    text-push o us u kept is ∙ ap (λ b. kept_text o us ++ (if b then frame (u.bytes ∷ []) else [])) dropped ∙ append-nil (kept_text o us)
