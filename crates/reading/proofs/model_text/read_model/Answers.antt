use Rattle.reading.proofs.Admitting.{model-read, model-exact}
use Rattle.reading.proofs.model_text.read_model.Goals as goal

pub returns : goal.returns
returns c =
    let old = c.args.place.now in
    let new = c.fill.new.place in
    record {
      read = model-read c.args.text.now old new c.fill.result c.fill.ensures;
      exact = model-exact c.args.text.now old new c.fill.result c.fill.ensures;
    }
