use Rattle.kb_relations.proofs.Images.{followed_without_certificates}
use Rattle.kb_relations.proofs.laws.automata_without_certificates_can_be_followed.Goals as goal

pub returns : goal.returns
returns c acceptor multipliers fit images prefixes inside single =
    followed_without_certificates acceptor multipliers fit images prefixes inside single
