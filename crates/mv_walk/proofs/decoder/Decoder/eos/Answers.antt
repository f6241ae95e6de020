use Rattle.mv_au.proofs.StateLaws.{end_no_picture}
use Rattle.mv_walk.proofs.Others.{pictures-over}
use Rattle.mv_walk.proofs.decoder.Decoder.eos.Goals as goal

pub returns-clause-keeps : goal.returns-clause-keeps
returns-clause-keeps g c past q ends k =
    let kept = pictures-over c.args.self.now past q c.args.self.now.making (end_no_picture q ends.ends) k.pictures in
    record {
      states_are = c.eos.ensures past q k.states_are ends;
      pictures = record {
        all = kept.all;
        layers_are = kept.layers_are;
        order_is = kept.order_is;
        base_is = kept.base_is;
        pictures_are = kept.pictures_are;
        sequences_are = kept.sequences_are;
        in_layer = kept.in_layer;
      };
    }
