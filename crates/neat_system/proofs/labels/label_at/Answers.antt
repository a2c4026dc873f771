use Rattle.neat_system.proofs.LabelPlaces.{label_is}
use Rattle.neat_system.proofs.labels.label_at.Goals as goal

pub returns : goal.returns
returns c = label_is c.args.fields c.args.seeds.now c.args.place c.index-seeds-place.result c.requires.within c.index-seeds-place.is
