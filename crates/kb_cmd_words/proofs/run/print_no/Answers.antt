use Rattle.std.proofs.Common.{◌∙◌}
use Rattle.kb_word.specs.Presentations.{parts_of}
use Rattle.kb_cmd_words.proofs.RunLemmas.{no-run}
use Rattle.kb_cmd_words.proofs.run.print_no.Goals as goal

pub returns-in-Ok : goal.returns-in-Ok
returns-in-Ok g c = λ shelf input.
    no-run (parts_of c.args.presentation.now) c.args.u c.args.v c.deref.result.now shelf input (g.O.Sink.state c.args.out.now) (g.O.Sink.state c.print_line.new.out)
    c.print_line.result c.requires (c.deref.ensures.value ∙ c.in-Ok.ensures) c.print_line.ensures.written (c.print_line.ensures.fault shelf input) c.print_line.ensures.goes_on
