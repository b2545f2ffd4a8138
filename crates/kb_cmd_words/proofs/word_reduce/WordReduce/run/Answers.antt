use Rattle.std.proofs.Common.{◌≡◌, ◌∙◌, true, false, refl, sym, ap}
use Rattle.kb_io.specs.Outside.{Outside, outside}
use Rattle.kb_cmd_words.specs.Given.{Given}
use Rattle.kb_cmd_words.proofs.RunLemmas.{run-same}
use Rattle.kb_cmd_words.proofs.word_reduce.WordReduce.run.Goals as goal

pub returns-then-by_log : goal.returns-then-by_log
returns-then-by_log g c =
    let before : Outside = outside (g.F.Shelf.state c.args.shelf.now) (g.I.Source.state c.args.input.now) (g.O.Sink.state c.args.out.now) in
    let after : Outside =
    outside (g.F.Shelf.state c.run_by_log.new.shelf) (g.I.Source.state c.run_by_log.new.input) (g.O.Sink.state c.run_by_log.new.out) in
    let by_log : c.self.inside.by_log ≡ c.args.self.by_log = ap (λ (given : Given). given.by_log) c.self.view_is in
    run-same true c.args.self.by_log c.args.self.file c.args.self.file before after c.run_by_log.result
    (sym c.if-by_log.true ∙ by_log) refl c.run_by_log.ensures

pub returns-else-by_log : goal.returns-else-by_log
returns-else-by_log g c =
    let before : Outside = outside (g.F.Shelf.state c.args.shelf.now) (g.I.Source.state c.args.input.now) (g.O.Sink.state c.args.out.now) in
    let after : Outside =
    outside (g.F.Shelf.state c.run_by_relations.new.shelf) (g.I.Source.state c.run_by_relations.new.input)
    (g.O.Sink.state c.run_by_relations.new.out) in
    let by_log : c.self.inside.by_log ≡ c.args.self.by_log = ap (λ (given : Given). given.by_log) c.self.view_is in
    run-same false c.args.self.by_log c.args.self.file c.args.self.file before after c.run_by_relations.result
    (sym c.if-by_log.false ∙ by_log) refl c.run_by_relations.ensures
