-- The names of the files that are stored.
use Rattle.std.proofs.Common.{◌≡◌, ◌≢◌, ◌⊎◌, inl, inr, ℕ, List, sym, subst}
use Rattle.std.specs.List.{AllPairs, Contains}
use Rattle.kb_word.specs.Presentations.{PresentationParts}
use Rattle.kb_system.specs.Evidence.{Limits}
use Rattle.kb_task.specs.Stores.{Text, names_of}
use Rattle.kb_task.specs.declared.status.Limit.{Limit}
use Rattle.kb_evidence.specs.FileLaws.{both_differ, contained_cases, rules_beside_acceptor}
use Rattle.kb_evidence.specs.Files.{rules_file, acceptor_file, log_file}
use Rattle.kb_evidence.specs.Shown.{ShowsLimit}
use Rattle.kb_evidence.proofs.ShownLemmas.{shows_named}
use Rattle.kb_cmd_completion.specs.Files.{AreCompleted}
use Rattle.kb_cmd_completion.specs.Given.{KbprogGiven}
use Rattle.kb_cmd_completion.specs.Kbprog.{kbprog_may_store}

-- the files of a completed presentation have different names
pub completed_differ : (limits : Limits) (file : List ℕ) (parts : PresentationParts) (texts : List Text) → AreCompleted limits file parts texts
    → AllPairs (λ (one other : List ℕ). one ≢ other) (names_of texts)
completed_differ limits file parts texts completed =
    subst (λ (t : List Text). AllPairs (λ (one other : List ℕ). one ≢ other) (names_of t)) (sym completed.are)
    (both_differ (rules_file file) (acceptor_file file) (rules_beside_acceptor file))

-- the command may store the files of a completed presentation
pub completed_may : (given : KbprogGiven) (parts : PresentationParts) (texts : List Text) → AreCompleted given.limits given.file parts texts → (name : List ℕ)
    → Contains (names_of texts) name → kbprog_may_store given name
completed_may given parts texts completed name here =
    elim (contained_cases (rules_file given.file) (acceptor_file given.file) name (subst (λ t. Contains (names_of t) name) completed.are here)) [
      | inl is ↦ inl (sym is)
      | inr is ↦ inr (inl (sym is))
    ]

evidence_may : (given : KbprogGiven) (name : List ℕ) → (log_file given.file ≡ name) ⊎ (rules_file given.file ≡ name) → kbprog_may_store given name
evidence_may given name (inl is) = inr (inr (sym is))
evidence_may given name (inr is) = inl (sym is)

-- and those that show a limit
pub shows_may : (given : KbprogGiven) (parts : PresentationParts) (limit : Limit) (texts : List Text) (line : List ℕ)
    → ShowsLimit given.limits given.file parts limit texts line → (name : List ℕ) → Contains (names_of texts) name → kbprog_may_store given name
shows_may given parts limit texts line shows name here = evidence_may given name (shows_named given.limits given.file parts limit texts line shows name here)
