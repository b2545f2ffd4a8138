use Rattle.std.proofs.lemmas.Result.{IfOk-weaker}
use Rattle.kb_task.proofs.loading.automata.language_in.Goals as goal

pub returns-in-Ok-clause-holds : goal.returns-in-Ok-clause-holds
returns-in-Ok-clause-holds g c =
    IfOk-weaker c.language_of_kind.result _ _ (λ loaded of. record {
      held = of.said;
      holds = λ told. record { bytes = c.deref.result.now; held = rw c.deref.ensures.value (c.in-Ok.ensures.held told); says = of.says };
      alphabet = of.alphabet;
      language = of.language;
    }) c.language_of_kind.ensures.holds

pub returns-in-Ok-clause-stops : goal.returns-in-Ok-clause-stops
returns-in-Ok-clause-stops g c = λ told. c.language_of_kind.ensures.stops (g.F.Shelf.state c.args.shelf.now).holds c.args.name.now
    (rw c.deref.ensures.value (c.in-Ok.ensures.held told))

pub returns-in-Ok-clause-counted : goal.returns-in-Ok-clause-counted
returns-in-Ok-clause-counted g c = c.language_of_kind.ensures.unfailed (g.F.Shelf.state c.args.shelf.now) (g.F.Shelf.state c.load_text.new.shelf)
