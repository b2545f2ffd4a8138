-- What shows a limit, and the names of its files.
use Rattle.std.proofs.Common.{◌≡◌, ◌≢◌, ◌⊎◌, ℕ, List, sym, subst}
use Rattle.std.specs.List.{AllPairs, Contains}
use Rattle.kb_word.specs.Words.{Pair}
use Rattle.kb_word.specs.Presentations.{PresentationParts}
use Rattle.kb_machine.specs.declared.line.Line.{Line}
use Rattle.kb_task.specs.Limits.{undecided_line, undecided_words_line}
use Rattle.kb_task.specs.Stores.{Text, names_of, texts_of}
use Rattle.kb_task.specs.declared.status.Construction.TheVariants.{Acceptor}
use Rattle.kb_task.specs.declared.status.Limit.{Limit}
use Rattle.kb_task.specs.declared.status.Limit.TheVariants.{States}
use Rattle.kb_system.specs.Evidence.{Limits, IsHalted, IsTooLarge}
use Rattle.kb_system.specs.declared.ending.Reached.{Reached}
use Rattle.kb_evidence.specs.FileLaws.{both_differ, contained_cases, log_beside_rules}
use Rattle.kb_evidence.specs.Files.{rules_file, log_file, halted_texts, too_large_texts, limit_of}
use Rattle.kb_evidence.specs.Shown.{ShowsLimit, halted, too_large}
use Rattle.kb_evidence.specs.declared.evidence.Evidence.{Evidence}

-- ---- a limit

module _ (limits : Limits) (file : List ℕ) (parts : PresentationParts) where
  shows_same : {limit other : Limit} {texts others : List Text} {line words : List ℕ} → ShowsLimit limits file parts limit texts line
      → other ≡ limit → others ≡ texts → words ≡ line → ShowsLimit limits file parts other others words
  shows_same {limit} {other} {texts} {others} {line} {words} shows limit_is texts_are line_is =
      let L : Limit → Type 0 = λ l. ShowsLimit limits file parts l texts line in
      let T : List Text → Type 0 = λ t. ShowsLimit limits file parts other t line in
      let W : List ℕ → Type 0 = λ w. ShowsLimit limits file parts other others w in
      subst W (sym line_is) (subst T (sym texts_are) (subst L (sym limit_is) shows))

  shows_halted : (lines : List Line) (waiting : Line) (rules : List Pair) (reached : Reached) (limit : Limit) (texts : List Text) (line : List ℕ)
      → IsHalted limits parts lines waiting rules reached → limit ≡ limit_of reached
      → texts ≡ halted_texts file parts lines waiting rules
      → line ≡ undecided_words_line parts.names (limit_of reached) waiting.left waiting.right
      → ShowsLimit limits file parts limit texts line
  shows_halted lines waiting rules reached limit texts line is limit_is texts_are line_is = shows_same (halted is) limit_is texts_are line_is

  shows_too_large : (lines : List Line) (rules : List Pair) (limit : Limit) (texts : List Text) (line : List ℕ)
      → IsTooLarge limits parts lines rules → limit ≡ States Acceptor
      → texts ≡ too_large_texts file parts lines rules → line ≡ undecided_line parts.names (States Acceptor)
      → ShowsLimit limits file parts limit texts line
  shows_too_large lines rules limit texts line is limit_is texts_are line_is = shows_same (too_large is) limit_is texts_are line_is

-- what shows that a completion reached a limit shows it
module _ (limits : Limits) (file : List ℕ) (parts : PresentationParts) (own : List ℕ) (same : own ≡ file) (shown : Evidence) where
  abbrev pub IsShown : Type 0
  IsShown = ShowsLimit limits file parts shown.limit (texts_of shown.files.items) shown.line.items

  pub shown-halted : (lines : List Line) (waiting : Line) (rules : List Pair) (reached : Reached)
      → IsHalted limits parts lines waiting rules reached
      → ((shown.limit ≡ limit_of reached)
      × (texts_of shown.files.items ≡ halted_texts own parts lines waiting rules)
      × (shown.line.items ≡ undecided_words_line parts.names (limit_of reached) waiting.left waiting.right))
      → IsShown
  shown-halted lines waiting rules reached is are =
      let Holds : List ℕ → Type 0 = λ name. texts_of shown.files.items ≡ halted_texts name parts lines waiting rules in
      shows_halted limits file parts lines waiting rules reached shown.limit (texts_of shown.files.items) shown.line.items is are.0
      (subst Holds same are.1) are.2

  pub shown-too_large : (lines : List Line) (rules : List Pair) → IsTooLarge limits parts lines rules
      → ((shown.limit ≡ States Acceptor)
      × (texts_of shown.files.items ≡ too_large_texts own parts lines rules)
      × (shown.line.items ≡ undecided_line parts.names (States Acceptor)))
      → IsShown
  shown-too_large lines rules is are =
      let Holds : List ℕ → Type 0 = λ name. texts_of shown.files.items ≡ too_large_texts name parts lines rules in
      shows_too_large limits file parts lines rules shown.limit (texts_of shown.files.items) shown.line.items is are.0
      (subst Holds same are.1) are.2

-- ---- names

-- the files that show a limit have different names
pub shows_differ : (limits : Limits) (file : List ℕ) (parts : PresentationParts) (limit : Limit) (texts : List Text) (line : List ℕ)
    → ShowsLimit limits file parts limit texts line → AllPairs (λ (one other : List ℕ). one ≢ other) (names_of texts)
shows_differ limits file parts limit texts line (halted is) =
    both_differ (log_file file) (rules_file file) (log_beside_rules file)
shows_differ limits file parts limit texts line (too_large is) =
    both_differ (log_file file) (rules_file file) (log_beside_rules file)

-- and are the log and the rules
pub shows_named : (limits : Limits) (file : List ℕ) (parts : PresentationParts) (limit : Limit) (texts : List Text) (line : List ℕ)
    → ShowsLimit limits file parts limit texts line → (name : List ℕ) → Contains (names_of texts) name
    → (log_file file ≡ name) ⊎ (rules_file file ≡ name)
shows_named limits file parts limit texts line (halted is) name here = contained_cases (log_file file) (rules_file file) name here
shows_named limits file parts limit texts line (too_large is) name here = contained_cases (log_file file) (rules_file file) name here
