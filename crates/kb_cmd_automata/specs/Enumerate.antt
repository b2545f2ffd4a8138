-- What `fsaenumerate` means.
use Rattle.std.specs.Prelude.{◌≡◌}
use Rattle.kb_task.specs.Promises.{Promise}
use Rattle.kb_task.specs.Statuses.{AnswersYes, IsConclusive}
use Rattle.kb_task.specs.declared.loading.automata.Kind.TheVariants.{Words}
use Rattle.kb_listing.specs.Asked.{WordsArePrinted}
use Rattle.kb_listing.specs.Printing.{OnlyPrints}
use Rattle.kb_cmd_automata.specs.Loaded.{OneMeans, IsUnrefusedAs, RefusesAs}
use Rattle.kb_cmd_automata.specs.declared.enumerate.Enumerate.{Enumerate}

-- It stores nothing, and has no options.
abbrev pub enumerate_promise : Enumerate → Promise Enumerate
enumerate_promise task = record {
  means = OneMeans Words task.file
      (λ names automaton. OnlyPrints (WordsArePrinted names automaton task.min task.max));
  may_store = λ name. ⊥;
  settled_stores = λ name. ⊥;
  reads = λ name. name ≡ task.file;
  refuses = RefusesAs Words task.file;
  is_unrefused = IsUnrefusedAs Words task.file;
  answers = AnswersYes;
  settles = IsConclusive;
  differs_in_options = λ other. other ≡ task;
}
