-- What `gpaxioms` and `gpminkb` find can be stored and written.
use Rattle.std.proofs.Common.{◌≢◌, inl, inr, ℕ, List, [], refl, sym, arith}
use Rattle.std.specs.List.{AllPairs, Contains}
use Rattle.kb_word.specs.declared.presentation.Presentation.{Presentation}
use Rattle.kb_fsa.specs.Language.{Automaton}
use Rattle.kb_structure.specs.Structure.{IsAutomaticStructure}
use Rattle.kb_axioms.specs.Checked.{PassesRelations, own_structure}
use Rattle.kb_task.specs.Statuses.{IsFaultless, IsYes}
use Rattle.kb_task.specs.Stores.{Text, names_of}
use Rattle.kb_task.specs.declared.status.Status.{Status}
use Rattle.kb_evidence.specs.Files.{log_file, minkb_file, minred_file, rules_file}
use Rattle.kb_evidence.specs.FileLaws.{both_differ, contained_cases, left_sides_beside_rules, log_beside_rules}
use Rattle.kb_cmd_structures.specs.Given.{CheckGiven}
use Rattle.kb_cmd_structures.specs.Gpaxioms.{Finds, own, refuted, too_many, unsettled, GpaxiomsMayStore, checked_by, stores_log, stores_rules}
use Rattle.kb_cmd_structures.specs.Gpminkb.{FindsSystem, system, many_left_sides, many_rules, not_own, GpminkbMayStore, stores_evidence, stores_left_sides, stores_system_rules}

pub none_in_empty : {X : Type 0} (x : X) → ¬ Contains {X = X} [] x
none_in_empty x here = omega (arith, here.1)

module _ {given : CheckGiven} {presentation : Presentation} {acceptor : Automaton} {multipliers : List Automaton} where
  -- no failure of a device is found
  pub found_faultless : {found : Status} {texts : List Text} {line : List ℕ} → Finds given presentation acceptor multipliers found texts line
      → IsFaultless found
  found_faultless (own passes is_own) = refl
  found_faultless (refuted first) = refl
  found_faultless (too_many first) = refl
  found_faultless (unsettled is) = refl

  -- the files have different names
  pub found_differ : {found : Status} {texts : List Text} {line : List ℕ} → Finds given presentation acceptor multipliers found texts line
      → AllPairs (λ (one other : List ℕ). one ≢ other) (names_of texts)
  found_differ (own passes is_own) i j d before within = absurd (omega (arith, before, within))
  found_differ (refuted first) i j d before within = absurd (omega (arith, before, within))
  found_differ (too_many first) i j d before within = absurd (omega (arith, before, within))
  found_differ (unsettled is) i j d before within =
      both_differ (log_file given.file) (rules_file given.file) (log_beside_rules given.file) i j d before within

  -- and are among those that the command may store
  pub found_may : {found : Status} {texts : List Text} {line : List ℕ} → Finds given presentation acceptor multipliers found texts line
      → (name : List ℕ) → Contains (names_of texts) name → GpaxiomsMayStore given name
  found_may (own passes is_own) name here = absurd (none_in_empty name here)
  found_may (refuted first) name here = absurd (none_in_empty name here)
  found_may (too_many first) name here = absurd (none_in_empty name here)
  found_may (unsettled is) name here = elim (contained_cases (log_file given.file) (rules_file given.file) name here) [
    | inl is ↦ stores_log (sym is)
    | inr is ↦ stores_rules (sym is)
  ]

  -- a yes means that the automata are the group's own
  pub found_own : {found : Status} {texts : List Text} {line : List ℕ} → Finds given presentation acceptor multipliers found texts line
      → IsYes found → PassesRelations (checked_by given presentation acceptor multipliers)
      × IsAutomaticStructure (own_structure (checked_by given presentation acceptor multipliers))
  found_own (own passes is_own) is_yes = (passes, is_own)
  found_own (refuted first) is_yes = absurd is_yes
  found_own (too_many first) is_yes = absurd is_yes
  found_own (unsettled is) is_yes = absurd is_yes

  -- ---- the same of `gpminkb`

  pub system_faultless : {found : Status} {texts : List Text} {line : List ℕ}
      → FindsSystem given presentation acceptor multipliers found texts line → IsFaultless found
  system_faultless (system is_own few fewer is) = refl
  system_faultless (many_left_sides is_own many) = refl
  system_faultless (many_rules is_own few many) = refl
  system_faultless (not_own finds not_yes) = found_faultless finds

  pub system_differ : {found : Status} {texts : List Text} {line : List ℕ}
      → FindsSystem given presentation acceptor multipliers found texts line
      → AllPairs (λ (one other : List ℕ). one ≢ other) (names_of texts)
  system_differ (system is_own few fewer is) i j d before within =
      both_differ (minred_file given.file) (minkb_file given.file) (left_sides_beside_rules given.file) i j d before within
  system_differ (many_left_sides is_own many) i j d before within = absurd (omega (arith, before, within))
  system_differ (many_rules is_own few many) i j d before within = absurd (omega (arith, before, within))
  system_differ (not_own finds not_yes) i j d before within = found_differ finds i j d before within

  pub system_may : {found : Status} {texts : List Text} {line : List ℕ}
      → FindsSystem given presentation acceptor multipliers found texts line
      → (name : List ℕ) → Contains (names_of texts) name → GpminkbMayStore given name
  system_may (system is_own few fewer is) name here = elim (contained_cases (minred_file given.file) (minkb_file given.file) name here) [
    | inl same ↦ stores_left_sides (sym same)
    | inr same ↦ stores_system_rules (sym same)
  ]
  system_may (many_left_sides is_own many) name here = absurd (none_in_empty name here)
  system_may (many_rules is_own few many) name here = absurd (none_in_empty name here)
  system_may (not_own finds not_yes) name here = stores_evidence (found_may finds name here)
