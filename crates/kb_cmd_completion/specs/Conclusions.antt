-- What is stored and written of a completion.
use Rattle.std.specs.Prelude.{◌≡◌}
use Rattle.kb_word.specs.Presentations.{PresentationParts, parts_of}
use Rattle.kb_reduced.specs.Reduced.{IsReducedComplete}
use Rattle.kb_system.specs.Completed.{below, relations}
use Rattle.kb_task.specs.Stores.{texts_of}
use Rattle.kb_evidence.specs.Shown.{ShowsLimit}
use Rattle.kb_cmd_completion.specs.Files.{AreCompleted}
use Rattle.kb_cmd_completion.specs.Given.{KbprogGiven}
use Rattle.kb_cmd_completion.specs.declared.conclusion.Conclusion.{Conclusion}
use Rattle.kb_cmd_completion.specs.declared.conclusion.Conclusion.TheVariants.{Completed, Limit}

-- the files of the completed presentation, and the normal forms by its reduced complete system; or what shows a limit
abbrev pub ConcludesAs : KbprogGiven → PresentationParts → Conclusion → Type 0
ConcludesAs given parts (Completed files normal_forms) =
    AreCompleted given.limits given.file parts (texts_of files.items)
    × (parts_of normal_forms.reader.presentation ≡ parts)
    × IsReducedComplete (below parts) (relations parts) normal_forms.index.rules
ConcludesAs given parts (Limit evidence) =
    ShowsLimit given.limits given.file parts evidence.limit
    (texts_of evidence.files.items) evidence.line.items
