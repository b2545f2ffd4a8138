use Rattle.kb_publish.proofs.Steps.{admits, forks, merges}
use Rattle.kb_publish.proofs.publisher.Publisher.place.Goals as goal

pub reader-requires : goal.reader-requires
reader-requires g c = admits g.V.Absorb.state

pub tell-requires : goal.tell-requires
tell-requires g c = forks g.V.Absorb.state _ _

pub learn-requires-clause-rule : goal.learn-requires-clause-rule
learn-requires-clause-rule g c = merges g.V.Absorb.state _ _ _ _
