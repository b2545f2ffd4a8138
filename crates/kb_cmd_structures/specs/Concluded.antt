-- What is stored and written of the search for a group's automatic structure.
use Rattle.std.specs.Prelude.{◌≡◌}
use Rattle.kb_word.specs.Presentations.{PresentationParts}
use Rattle.kb_task.specs.Stores.{texts_of}
use Rattle.kb_cmd_structures.specs.Autgroup.{autgroup_own, autgroup_shows}
use Rattle.kb_cmd_structures.specs.Given.{AutgroupGiven}
use Rattle.kb_cmd_structures.specs.declared.conclusion.Conclusion.{Conclusion}
use Rattle.kb_cmd_structures.specs.declared.conclusion.Conclusion.TheVariants.{Made, Limit}

-- the files of the automatic structure, with what answers words of the presentation; or what shows a limit
abbrev pub ConcludesAs : AutgroupGiven → PresentationParts → Conclusion → Type 0
ConcludesAs given parts (Made files least_words) =
    autgroup_own given parts (texts_of files.items)
    × (least_words ≡ parts)
ConcludesAs given parts (Limit evidence) =
    autgroup_shows given parts evidence.limit (texts_of evidence.files.items) evidence.line.items
