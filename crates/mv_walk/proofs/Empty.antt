-- A stream without units.
use Rattle.std.proofs.Common.{◌≡◌, ◌<◌, List, [], length, reverse, replicate, None, refl, ap, sym, subst, ◌∙◌}
use Rattle.std.proofs.lemmas.List.{get_or-replicate, length-replicate}
use Rattle.std.proofs.lemmas.List.Elements.{All-nil}
use Rattle.mv_history.specs.History.{run}
use Rattle.mv_pictures.specs.AccessUnits.{all_placed}
use Rattle.mv_pictures.specs.Facts.{Fact, facts}
use Rattle.mv_pictures.specs.History.{facts_of, history, history_of}
use Rattle.mv_pictures.specs.Items.{items}
use Rattle.mv_pictures.specs.Judged.{Judged, au}
use Rattle.mv_pictures.specs.Look.{look}
use Rattle.mv_au.specs.States as states
use Rattle.mv_au.specs.Tracker as tracker
use Rattle.mv_sets.specs.Store as store
use Rattle.mv_walk_layer.specs.LayerValue.{LayerValue, no_pictures}
use Rattle.mv_walk_layer.specs.Standing as layers
use Rattle.mv_walk_layer.proofs.Stepping.{none-yet}
use Rattle.mv_walk_order.specs.Orders as orders
use Rattle.mv_walk_sets.specs.InForce.{AreRead, in_force}
use Rattle.mv_walk_laws.proofs.Changes.{change-first}
use Rattle.mv_walk_laws.proofs.OneMore.{vps-first}
use Rattle.mv_walk_laws.proofs.Sound.{sound-first}
use Rattle.mv_walk_laws.specs.Streams.{IsLatestChange, current}
use Rattle.mv_walk.specs.Courses.{Stood}
use Rattle.mv_walk.specs.Decoders.{DecoderStands, IsClosed, base_count, layer_at}
use Rattle.mv_walk.specs.declared.course.Course.{Course}
use Rattle.mv_walk.specs.declared.decoder.Decoder.{Decoder}
use Rattle.mv_walk.proofs.Joining.{closed-stands}

no-base : (p : Fact) → base_count [] p ≡ None
unfolding look
no-base p = refl

pub decoder-empty : {R W P : Type 0} (d : Decoder R W P) → states.Stands d.states [] → d.layers.items ≡ replicate 64 no_pictures → orders.Stands d.order [] → d.base_count ≡ None → d.picture ≡ None → d.making ≡ None →
    d.pictures ≡ 0 → d.sequences ≡ 0 → IsClosed d []
decoder-empty {R} {W} {P} d stands kept order base picture making pictures sequences = record {
  keeps = record {
    states_are = stands;
    pictures = record {
      all = ap length kept ∙ length-replicate 64 (no_pictures {P = P});
      layers_are = λ n lt. subst (λ (l : LayerValue P). layers.Stands l [] n None) (sym (ap (λ (xs : List (LayerValue P)). layer_at xs n) kept ∙ get_or-replicate 64 n (no_pictures {P = P}) (no_pictures {P = P}) lt)) (none-yet n);
      order_is = order;
      base_is = λ p. no-base p ∙ sym base;
      pictures_are = pictures;
      sequences_are = sequences;
      in_layer = tt;
    };
  };
  none_open = picture;
  none_made = making;
}

no-history : history_of [] ≡ []
unfolding history_of history facts_of facts all_placed items run
no-history = refl

no-facts : facts_of [] ≡ []
unfolding facts_of facts all_placed items run
no-facts = refl

pub no-items : items (reverse []) ≡ []
unfolding items run
no-items = refl

pub course-empty : {R W P : Type 0} (c : Course R W P) → c.vps ≡ None → c.changed ≡ None → store.Stands c.sets [] → tracker.Stands c.units [] → IsClosed c.decoder [] → Stood c []
unfolding in_force
course-empty c vps changed sets units decoder = record {
  sound = sound-first c.decoder.asked;
  vps_is = vps-first ∙ sym (ap in_force vps);
  read = subst AreRead (sym vps) tt;
  changed_is = subst (λ x. IsLatestChange x []) (sym changed) change-first;
  sets_are = subst (store.Stands c.sets) (sym no-facts) sets;
  units_are = subst (tracker.Stands c.units) (sym no-items) units;
  decoder_is = subst (λ past. DecoderStands c.decoder c.vps past (current [])) (sym no-history) (closed-stands c.decoder c.vps [] (current []) decoder (All-nil (λ (e : Judged). au e.fact < current [])));
}
