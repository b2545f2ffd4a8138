-- What the completion of a marked presentation came to.
use Rattle.std.specs.Prelude.{◌≡◌}
use Rattle.kb_coset.specs.CosetWords.{Cosets}
use Rattle.kb_task.specs.Stores.{texts_of}
use Rattle.kb_cmd_elements.specs.CosetAnswers.{AreCosetTexts, marked_of}
use Rattle.kb_cmd_elements.specs.Given.{KbcosGiven}
use Rattle.kb_cmd_elements.specs.Kbcos.{kbcos_shows}
use Rattle.kb_cmd_elements.specs.declared.coset_outcome.CosetOutcome.{CosetOutcome}
use Rattle.kb_cmd_elements.specs.declared.coset_outcome.CosetOutcome.TheVariants.{Told, Limit}

-- the file of the rules, and what answers words with the least ones of their cosets; or what shows a limit
abbrev pub CosetsComeTo : KbcosGiven → Cosets → CosetOutcome → Type 0
CosetsComeTo given cosets (Told files coset_words) =
    AreCosetTexts given.file cosets (texts_of files.items) × (coset_words ≡ cosets)
CosetsComeTo given cosets (Limit evidence) =
    kbcos_shows given (marked_of cosets) evidence.limit
    (texts_of evidence.files.items) evidence.line.items
