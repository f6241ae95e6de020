-- The first segment of a picture: what is answered of it, by what its parts answer.
use Rattle.std.proofs.Common.{◌≡◌, List, false, Option, None, Some, ap, sym, subst, ◌∙◌}
use Rattle.std.specs.Prelude.{⊤, Result, Err}
use Rattle.mv_pictures.specs.Facts.{Fact}
use Rattle.mv_pictures.specs.Judged.{Judged}
use Rattle.mv_pictures.specs.Look.{look}
use Rattle.mv_pictures.specs.PictureRules.{no_irap}
use Rattle.mv_walk_sets.specs.InForce.{VpsInForceValue}
use Rattle.mv_walk.specs.Decoders.{BreaksNothing, KeepsPictures}
use Rattle.mv_walk.specs.Firsts.{TakesFirst, TakesPicture, TakesState}
use Rattle.mv_walk.specs.declared.decoder.Decoder.{Decoder}
use Rattle.mv_walk.specs.declared.ending.Stop.{Stop}
use Rattle.mv_walk.specs.declared.making.Making.{Making}
use Rattle.mv_walk.proofs.Tried.{picture-refused, picture-taken}

-- what is kept of pictures says nothing of the states of layers
pub pictures-but_states : {R W P : Type 0} (old new : Decoder R W P) (past : List Judged) (making : Option (Making R W P)) → new ≡ record old { states = new.states } → KeepsPictures old past making → KeepsPictures new past making
pictures-but_states {R} {W} {P} old new past making same h =
    subst (λ (d : Decoder R W P). KeepsPictures d past making) (sym same) (record {
      all = h.all;
      layers_are = h.layers_are;
      order_is = h.order_is;
      base_is = h.base_is;
      pictures_are = h.pictures_are;
      sequences_are = h.sequences_are;
      in_layer = h.in_layer;
    })

-- none is in the making as before
pub making-but_states : {R W P : Type 0} (old new : Decoder R W P) → new ≡ record old { states = new.states } → old.making ≡ None → new.making ≡ None
making-but_states {R} {W} {P} old new same none = ap (λ (d : Decoder R W P). d.making) same ∙ none

-- the picture before can't be closed
pub first-unclosed : {R W P : Type 0} (new : Decoder R W P) (vps : VpsInForceValue) (past : List Judged) (p : Fact) (stop : Stop) → BreaksNothing {T = ⊤} (Err stop) → TakesFirst vps past p new (Err stop)
first-unclosed new vps past p (Stop.Breaks rule) h = absurd h
first-unclosed new vps past p (Stop.Lacks asked count) h = absurd h
first-unclosed new vps past p Stop.View h = tt
first-unclosed new vps past p Stop.Memory h = tt

-- it has no state
pub first-stateless : {R W P : Type 0} (mid new : Decoder R W P) (vps : VpsInForceValue) (past : List Judged) (p : Fact) (stop : Stop) → TakesState past p mid (Err stop) → TakesFirst vps past p new (Err stop)
first-stateless mid new vps past p (Stop.Breaks rule) h = picture-refused past p h.0 ∙ ap Some (sym h.1)
first-stateless mid new vps past p (Stop.Lacks asked count) h = absurd h
first-stateless mid new vps past p Stop.View h = tt
first-stateless mid new vps past p Stop.Memory h = tt

-- it breaks a rule behind NoIrap
pub first-refused : {R W P : Type 0} (mid new : Decoder R W P) (vps : VpsInForceValue) (past : List Judged) (p : Fact) (stop : Stop) → no_irap (look past p) p ≡ false → TakesPicture past p mid (Err stop) → TakesFirst vps past p new (Err stop)
first-refused mid new vps past p (Stop.Breaks rule) irap h = picture-taken past p irap ∙ h
first-refused mid new vps past p (Stop.Lacks asked count) irap h = absurd h
first-refused mid new vps past p Stop.View irap h = tt
first-refused mid new vps past p Stop.Memory irap h = tt

-- the states of layers are no matter of a viewer
pub state-unseen : {R W P T : Type 0} (new : Decoder R W P) (past : List Judged) (p : Fact) (stop : Stop) → TakesState past p new (Err stop) → Path (Result T Stop) (Err stop) (Err Stop.View) → ⊥
state-unseen new past p (Stop.Breaks rule) h wrong = cc
state-unseen new past p (Stop.Lacks asked count) h wrong = h
state-unseen new past p Stop.View h wrong = h
state-unseen new past p Stop.Memory h wrong = cc
