-- The names of the files of an automatic structure, and of those that show a limit of its search.
use Rattle.std.proofs.Common.{◌≡◌, ◌≢◌, ◌∙◌, ◌⊎◌, inl, inr, ℕ, zero, suc, ◌+◌, ◌^◌, ◌<◌, ◌≤◌, List, [], ◌∷◌, length, get_or, refl, sym, ap, subst, arith}
use Rattle.std.specs.List.{AllPairs, Contains}
use Rattle.std.proofs.lemmas.List.Elements.{All-cons, All-from_get_or, All-nil}
use Rattle.std.proofs.lemmas.List.Kept.{AllPairs-cons}
use Rattle.kb_word.specs.Presentations.{PresentationParts}
use Rattle.kb_fsa.specs.Language.{Automaton, generators}
use Rattle.kb_task.specs.Stores.{Text, names_of}
use Rattle.kb_task.specs.declared.status.Limit.{Limit}
use Rattle.kb_evidence.specs.Files.{acceptor_file, difference_file, log_file, multiplier_file, rules_file}
use Rattle.kb_evidence.specs.FileLaws.{acceptor_beside_multiplier, both_differ, log_beside_differences, log_beside_rules, multipliers_apart, rules_beside_differences}
use Rattle.kb_cmd_structures.specs.Autgroup.{AutgroupMayStore, stores_acceptor, stores_differences, stores_log, stores_multiplier, stores_rules}
use Rattle.kb_cmd_structures.specs.Given.{AutgroupGiven}
use Rattle.kb_cmd_structures.specs.Made.{AreMade, multiplier_texts, structure_texts}
use Rattle.kb_cmd_structures.specs.Tried.{ShowsLimit, halted, differences, states}

-- two names that aren't the same
abbrev Differ : List ℕ → List ℕ → Type 0
Differ one other = one ≢ other

-- ---- an automatic structure

module _ (file : List ℕ) (names : List (List ℕ)) where
  -- one file for each multiplier
  many_names : (x : ℕ) (multipliers : List Automaton) → length (names_of (multiplier_texts file names x multipliers)) ≡ length multipliers
  many_names x [] = refl
  many_names x (multiplier ∷ multipliers) = ap suc (many_names (suc x) multipliers)

  -- which is named after its generator
  name_at : (x : ℕ) (multipliers : List Automaton) (place : ℕ) (none : List ℕ) → place < length multipliers
      → get_or (names_of (multiplier_texts file names x multipliers)) place none ≡ multiplier_file file (x + place)
  name_at x [] place none within = absurd (omega (arith, within))
  name_at x (multiplier ∷ multipliers) zero none within =
      let same : x ≡ x + 0 = omega arith in ap (multiplier_file file) same
  name_at x (multiplier ∷ multipliers) (suc place) none within =
      let same : suc x + place ≡ x + suc place = omega arith in
      name_at (suc x) multipliers place none (omega (arith, within)) ∙ ap (multiplier_file file) same

  module _ (multipliers : List Automaton) (few : length multipliers < 65536) where
    multipliers_differ : AllPairs Differ (names_of (multiplier_texts file names 1 multipliers))
    multipliers_differ i j none before within =
        let many = many_names 1 multipliers in
        let low : i < length multipliers = omega (arith, before, within, many) in
        let high : j < length multipliers = omega (arith, within, many) in
        λ same. multipliers_apart file (1 + i) (1 + j) (omega arith) (omega arith) (λ one. omega (arith, one, before))
        (sym (name_at 1 multipliers i none low) ∙ (same ∙ name_at 1 multipliers j none high))

    acceptor_differs : (acceptor : Automaton) → AllPairs Differ (names_of (structure_texts file names acceptor multipliers))
    acceptor_differs acceptor =
        let others = names_of (multiplier_texts file names 1 multipliers) in
        AllPairs-cons Differ (acceptor_file file) others
        (All-from_get_or (Differ (acceptor_file file)) others [] (λ place within.
        let inside : place < length multipliers = omega (arith, within, many_names 1 multipliers) in
        λ same. acceptor_beside_multiplier file (1 + place) (same ∙ name_at 1 multipliers place [] inside)))
        multipliers_differ

  named : (given : AutgroupGiven) → given.file ≡ file → (acceptor : Automaton) (multipliers : List Automaton) (name : List ℕ) (place : ℕ)
      → place < length (names_of (structure_texts file names acceptor multipliers))
      → get_or (names_of (structure_texts file names acceptor multipliers)) place name ≡ name → AutgroupMayStore given name
  named given own acceptor multipliers name zero within is =
      stores_acceptor (sym is ∙ ap acceptor_file (sym own))
  named given own acceptor multipliers name (suc place) within is =
      let inside : place < length multipliers = omega (arith, within, many_names 1 multipliers) in
      stores_multiplier (1 + place) (sym is
      ∙ (name_at 1 multipliers place name inside ∙ ap (λ (f : List ℕ). multiplier_file f (1 + place)) (sym own)))

-- the files of an automatic structure have different names
pub made_differ : {file : List ℕ} {parts : PresentationParts} {texts : List Text} → AreMade file parts texts
    → AllPairs (λ (one other : List ℕ). one ≢ other) (names_of texts)
made_differ {file} {parts} {texts} made =
    let fits = made.acceptor_is.generators in
    let words : generators made.acceptor.alphabet ≡ made.presentation.n = ap generators made.own.words in
    let many : length made.multipliers ≡ made.presentation.n = made.own.pairs.one_each in
    let Names : List Text → Type 0 = λ t. AllPairs Differ (names_of t) in
    subst Names (sym made.are) (acceptor_differs file parts.names made.multipliers (omega (arith, fits, words, many)) made.acceptor)

-- and are among those that may be stored
pub made_may : (given : AutgroupGiven) {parts : PresentationParts} {texts : List Text} → AreMade given.file parts texts
    → (name : List ℕ) → Contains (names_of texts) name → AutgroupMayStore given name
made_may given {parts} {texts} made name contains =
    let Holds : List Text → Type 0 = λ t. Contains (names_of t) name in
    let here = subst Holds made.are contains in
    named given.file parts.names given refl made.acceptor made.multipliers name here.0 here.1 here.2

-- ---- a limit

-- the names of the files that show a limit
abbrev limit_names : List ℕ → List (List ℕ)
limit_names file = log_file file ∷ rules_file file ∷ difference_file file ∷ []

limits_differ : (file : List ℕ) → AllPairs Differ (limit_names file)
limits_differ file =
    AllPairs-cons Differ (log_file file) (rules_file file ∷ difference_file file ∷ [])
    (All-cons (Differ (log_file file)) (rules_file file) (difference_file file ∷ []) (log_beside_rules file)
    (All-cons (Differ (log_file file)) (difference_file file) [] (log_beside_differences file) (All-nil (Differ (log_file file)))))
    (both_differ (rules_file file) (difference_file file) (rules_beside_differences file))

limit_may : (given : AutgroupGiven) (name : List ℕ) (place : ℕ) → place < 3 → get_or (limit_names given.file) place name ≡ name
    → AutgroupMayStore given name
limit_may given name zero within is = stores_log (sym is)
limit_may given name (suc zero) within is = stores_rules (sym is)
limit_may given name (suc (suc zero)) within is = stores_differences (sym is)
limit_may given name (suc (suc (suc place))) within is = absurd (omega (arith, within))

module _ (given : AutgroupGiven) {parts : PresentationParts} where
  names_shown : {limit : Limit} {texts : List Text} {line : List ℕ} → ShowsLimit given parts limit texts line
      → names_of texts ≡ limit_names given.file
  names_shown (halted reached presented shows tried) = refl
  names_shown (differences presented rules short) = refl
  names_shown (states presented rules large) = refl

  -- the files that show a limit have different names
  pub shows_differ : {limit : Limit} {texts : List Text} {line : List ℕ} → ShowsLimit given parts limit texts line
      → AllPairs (λ (one other : List ℕ). one ≢ other) (names_of texts)
  shows_differ shows =
      let Names : List (List ℕ) → Type 0 = λ n. AllPairs Differ n in
      subst Names (sym (names_shown shows)) (limits_differ given.file)

  -- and are among those that may be stored
  pub shows_may : {limit : Limit} {texts : List Text} {line : List ℕ} → ShowsLimit given parts limit texts line
      → (name : List ℕ) → Contains (names_of texts) name → AutgroupMayStore given name
  shows_may shows name contains =
      let Holds : List (List ℕ) → Type 0 = λ n. Contains n name in
      let here = subst Holds (names_shown shows) contains in
      limit_may given name here.0 here.1 here.2
