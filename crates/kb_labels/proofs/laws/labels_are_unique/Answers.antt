use Rattle.kb_labels.proofs.Unique.{one_label}
use Rattle.kb_labels.proofs.laws.labels_are_unique.Goals as goal

pub returns : goal.returns
returns c group table state label other one two = one_label group table state label other one two
