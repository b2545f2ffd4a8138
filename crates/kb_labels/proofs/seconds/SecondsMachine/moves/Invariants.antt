use Rattle.kb_labels.specs.Seconds.{Beside, AreMovesBefore, normal_form_of}
use Rattle.kb_labels.proofs.seconds.SecondsMachine.moves.Given as goal

abbrev pub invariant-loop-letter : goal.invariant-loop-letter
invariant-loop-letter g l =
    let beside : Beside = record {
      n = l.self.symbols.n;
      table = l.self.pairs.now.table;
      marks = l.self.marks.now;
      normal = normal_form_of (g.R.Reducer.order l.self.reducer.now) (g.R.Reducer.rules l.self.reducer.now) l.self.decreasing;
      first = l.self.first.now;
      state = l.self.state;
      word = l.self.word.now;
      target = l.self.target.now;
    } in
    AreMovesBefore beside l.reading l.letter l.moves.items
