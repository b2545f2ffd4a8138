-- What a completion came to.
use Rattle.std.specs.Prelude.{◌≡◌, List}
use Rattle.kb_word.specs.Words.{Pair}
use Rattle.kb_word.specs.Presentations.{PresentationParts, parts_of}
use Rattle.kb_system.specs.Ended.{IsCompletionWithin}
use Rattle.kb_evidence.specs.Shown.{ShowsLimit}
use Rattle.kb_task.specs.Stores.{texts_of}
use Rattle.kb_cmd_elements.specs.Given.{BallGiven}
use Rattle.kb_cmd_elements.specs.declared.outcome.Outcome.{Outcome}
use Rattle.kb_cmd_elements.specs.declared.outcome.Outcome.TheVariants.{Completed, Limit}

-- the presentation with its word acceptor, within the limits; or what shows that one was reached
abbrev pub ComesTo : BallGiven → PresentationParts → Outcome → Type 0
ComesTo given parts (Completed presentation acceptor) =
    (rules : List Pair) × (parts_of presentation ≡ parts)
    × IsCompletionWithin given.limits parts rules acceptor
ComesTo given parts (Limit evidence) =
    ShowsLimit given.limits given.file parts evidence.limit
    (texts_of evidence.files.items) evidence.line.items
