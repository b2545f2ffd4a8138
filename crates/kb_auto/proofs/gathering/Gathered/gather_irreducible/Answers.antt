use Rattle.kb_auto.proofs.gathering.Gathered.gather_irreducible.Goals as goal

pub add_path-requires-clause-first : goal.add_path-requires-clause-first
add_path-requires-clause-first c = c.requires.first

pub add_path-requires-clause-second : goal.add_path-requires-clause-second
add_path-requires-clause-second c = c.requires.second

pub returns : goal.returns
returns c =
    c.gathering_of.ensures c.args.self.now _ c.args.equality (record {
      group = c.in_ok-answer.ensures.group;
      most = c.in_ok-answer.ensures.most;
      first = c.requires.first_is_irreducible;
      second = c.requires.second_is_irreducible;
      adds = c.in_ok-answer.ensures.ok;
      rounds = c.in_ok-push.ensures.items;
    }) (λ same first second. c.in_ok-answer.ensures.same.0 same)
