-- What is stored and written where the search for an automatic structure reached a limit shows it.
use Rattle.std.proofs.Common.{◌≡◌, ℕ, List, [], ◌∷◌, ◌++◌, Bool, true, false, refl, sym, subst}
use Rattle.kb_word.specs.Words.{Pair}
use Rattle.kb_word.specs.Presentations.{PresentationParts, parts_of}
use Rattle.kb_word.specs.declared.presentation.Presentation.{Presentation}
use Rattle.kb_kept.specs.declared.listing.Listing.{Listing}
use Rattle.kb_machine.specs.declared.line.Line.{Line}
use Rattle.kb_round.specs.declared.answers.Construction.{Construction as Counted}
use Rattle.kb_system.specs.Ended.{ShowsHalt}
use Rattle.kb_system.specs.declared.ending.Halted.{Halted}
use Rattle.kb_auto.specs.Autgroup.{AreRulesOfLog, IsShort, IsTooLarge, IsTriedAtHalt, tried_by}
use Rattle.kb_task.specs.Limits.{undecided_line, undecided_words_line}
use Rattle.kb_task.specs.Stores.{Text, texts_of}
use Rattle.kb_task.specs.declared.status.Limit.{Limit}
use Rattle.kb_task.specs.declared.status.Limit.TheVariants.{Diffs, States}
use Rattle.kb_evidence.specs.Files.{halted_texts, limit_of}
use Rattle.kb_evidence.specs.declared.evidence.Evidence.{Evidence}
use Rattle.kb_cmd_structures.specs.Given.{AutgroupGiven}
use Rattle.kb_cmd_structures.specs.Tried.{ShowsLimit, counted_of, difference_text, differences, halted, needed_line, states, tried_texts}

module _ (given : AutgroupGiven) (presentation : Presentation) (own : List ℕ) (file : own ≡ given.file) (shown : Evidence) where
  abbrev parts : PresentationParts
  parts = parts_of presentation

  -- it is shown by what is stored and written
  abbrev pub IsShown : Type 0
  IsShown = ShowsLimit given parts shown.limit (texts_of shown.files.items) shown.line.items

  -- what shows a limit is stored and written, by the name of the file
  shown_as : {limit : Limit} (texts : List ℕ → List Text) {line : List ℕ} → ShowsLimit given parts limit (texts given.file) line
      → shown.limit ≡ limit → texts_of shown.files.items ≡ texts own → shown.line.items ≡ line → IsShown
  shown_as {limit} texts {line} shows limit_is texts_are line_is =
      let Named : List ℕ → Type 0 = λ name. texts_of shown.files.items ≡ texts name in
      let L : Limit → Type 0 = λ l. ShowsLimit given parts l (texts given.file) line in
      let T : List Text → Type 0 = λ t. ShowsLimit given parts shown.limit t line in
      let W : List ℕ → Type 0 = λ w. ShowsLimit given parts shown.limit (texts_of shown.files.items) w in
      subst W (sym line_is) (subst T (sym (subst Named file texts_are)) (subst L (sym limit_is) shows))

  pub shown_halted : (reached : Halted) (listing : Listing) → ShowsHalt given.limits parts reached
      → IsTriedAtHalt (tried_by given.limits given.most presentation reached.rules.rules) listing
      → ((shown.limit ≡ limit_of reached.reached)
      × (texts_of shown.files.items
      ≡ halted_texts own parts reached.lines.items reached.waiting reached.rules.rules ++ difference_text own presentation.names listing false ∷ [])
      × (shown.line.items
      ≡ undecided_words_line presentation.names (limit_of reached.reached) reached.waiting.left reached.waiting.right))
      → IsShown
  shown_halted reached listing halts tried are =
      shown_as (λ name. halted_texts name parts reached.lines.items reached.waiting reached.rules.rules
      ++ difference_text name presentation.names listing false ∷ [])
      (halted reached refl halts tried) are.0 are.1 are.2

  pub shown_differences : (lines : List Line) (rules : List Pair) (confluent : Bool) (listing : Listing)
      → AreRulesOfLog parts lines rules confluent → IsShort (tried_by given.limits given.most presentation rules) listing
      → ((shown.limit ≡ Diffs)
      × (texts_of shown.files.items ≡ tried_texts own parts lines rules confluent (difference_text own presentation.names listing true))
      × (shown.line.items ≡ needed_line presentation.names listing))
      → IsShown
  shown_differences lines rules confluent listing of_log short are =
      shown_as (λ name. tried_texts name parts lines rules confluent (difference_text name presentation.names listing true))
      (differences refl of_log short) are.0 are.1 are.2

  pub shown_states : (lines : List Line) (rules : List Pair) (which : Counted) (listing : Listing)
      → AreRulesOfLog parts lines rules true → IsTooLarge (tried_by given.limits given.most presentation rules) listing which
      → ((shown.limit ≡ States (counted_of which))
      × (texts_of shown.files.items ≡ tried_texts own parts lines rules true (difference_text own presentation.names listing false))
      × (shown.line.items ≡ undecided_line presentation.names (States (counted_of which))))
      → IsShown
  shown_states lines rules which listing of_log large are =
      shown_as (λ name. tried_texts name parts lines rules true (difference_text name presentation.names listing false))
      (states refl of_log large) are.0 are.1 are.2
