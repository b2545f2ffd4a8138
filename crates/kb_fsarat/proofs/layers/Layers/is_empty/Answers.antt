use Rattle.kb_fsarat.proofs.layers.Layers.is_empty.Goals as goal

pub returns : goal.returns
returns c = (
  λ none state has. c.is_empty.ensures.0 none state ((c.set.ensures.layer state).1 has),
  λ none. c.is_empty.ensures.1 (λ state member. none state ((c.set.ensures.layer state).0 member)),
)
