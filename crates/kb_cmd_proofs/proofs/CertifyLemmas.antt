-- What `kbcertify` finds can be stored and written.
use Rattle.std.proofs.Common.{◌≡◌, ◌≢◌, ◌∙◌, inl, inr, ℕ, zero, suc, List, [], ◌∷◌, ◌++◌, refl, sym, ap, subst, arith}
use Rattle.std.specs.List.{AllPairs, Contains}
use Rattle.std.proofs.lemmas.List.Elements.{Contains-push_cases}
use Rattle.kb_word.specs.Words.{Pair}
use Rattle.kb_word.specs.Presentations.{PresentationParts}
use Rattle.kb_fsa.specs.Language.{Automaton}
use Rattle.kb_machine.specs.declared.line.Line.{Line}
use Rattle.kb_system.specs.Ended.{IsCompletionWithin}
use Rattle.kb_system.specs.Logged.{IsCertificate}
use Rattle.kb_task.specs.Statuses.{IsFaultless}
use Rattle.kb_task.specs.Stores.{Text, names_of, texts_of}
use Rattle.kb_task.specs.declared.status.Limit.{Limit}
use Rattle.kb_task.specs.declared.status.Status.{Status}
use Rattle.kb_task.specs.declared.status.Status.TheVariants.{Yes, Undecided}
use Rattle.kb_evidence.proofs.ShownLemmas.{shows_differ, shows_named}
use Rattle.kb_evidence.specs.FileLaws.{contained_cases, log_beside_acceptor, log_beside_rules, rules_beside_acceptor}
use Rattle.kb_evidence.specs.Files.{acceptor_file, log_file, rules_file}
use Rattle.kb_evidence.specs.Shown.{ShowsLimit}
use Rattle.kb_cmd_proofs.specs.Certified.{AreCertified, acceptor_text, certified_texts}
use Rattle.kb_cmd_proofs.specs.Given.{KbcertifyGiven}
use Rattle.kb_cmd_proofs.specs.Kbcertify.{FindsCertified, IsFound, certified, limited, kbcertify_may_store, yes_line}
use Rattle.kb_cmd_proofs.specs.Shown.{HasParts}
use Rattle.kb_cmd_proofs.specs.declared.finding.Finding.{Finding}

-- ---- the names of the files

-- three that differ
three_differ : (first second third : List ℕ) → first ≢ second → first ≢ third → second ≢ third
    → AllPairs (λ (one other : List ℕ). one ≢ other) (first ∷ second ∷ third ∷ [])
three_differ first second third a b c zero (suc zero) d before within = a
three_differ first second third a b c zero (suc (suc zero)) d before within = b
three_differ first second third a b c (suc zero) (suc (suc zero)) d before within = c
three_differ first second third a b c i j d before within = absurd (omega (arith, before, within))

-- the three are among those that the command may store
certified_may : (given : KbcertifyGiven) (name : List ℕ)
    → Contains ((log_file given.file ∷ rules_file given.file ∷ []) ++ acceptor_file given.file ∷ []) name
    → kbcertify_may_store given name
certified_may given name here =
    elim (Contains-push_cases (log_file given.file ∷ rules_file given.file ∷ []) (acceptor_file given.file) name here) [
      | inl before ↦ elim (contained_cases (log_file given.file) (rules_file given.file) name before) [
        | inl is ↦ inl (sym is)
        | inr is ↦ inr (inl (sym is))
      ]
      | inr is ↦ inr (inr (sym is))
    ]

module _ {given : KbcertifyGiven} {parts : PresentationParts} where
  -- no failure of a device is found
  pub found_faultless : {status : Status} {texts : List Text} {line : List ℕ} → FindsCertified given parts status texts line
      → IsFaultless status
  found_faultless (certified are) = refl
  found_faultless (limited shows) = refl

  -- the files have different names
  pub found_differ : {status : Status} {texts : List Text} {line : List ℕ} → FindsCertified given parts status texts line
      → AllPairs (λ (one other : List ℕ). one ≢ other) (names_of texts)
  found_differ (certified are) =
      subst (λ (t : List Text). AllPairs (λ (one other : List ℕ). one ≢ other) (names_of t)) (sym are.are)
      (three_differ (log_file given.file) (rules_file given.file) (acceptor_file given.file) (log_beside_rules given.file)
      (log_beside_acceptor given.file) (rules_beside_acceptor given.file))
  found_differ (limited {limit = limit} {texts = texts} {line = line} shows) =
      shows_differ given.limits given.file parts limit texts line shows

  -- and are among those that the command may store
  pub found_may : {status : Status} {texts : List Text} {line : List ℕ} → FindsCertified given parts status texts line
      → (name : List ℕ) → Contains (names_of texts) name → kbcertify_may_store given name
  found_may (certified are) name here = certified_may given name (subst (λ (t : List Text). Contains (names_of t) name) are.are here)
  found_may (limited {limit = limit} {texts = texts} {line = line} shows) name here =
      elim (shows_named given.limits given.file parts limit texts line shows name here) [
        | inl is ↦ inl (sym is)
        | inr is ↦ inr (inl (sym is))
      ]

-- ---- what is found

module _ (given : KbcertifyGiven) (parts : PresentationParts) where
  -- the files of a completed presentation
  pub found-completed : (own : List ℕ) → own ≡ given.file → (lines : List Line) (rules : List Pair) (acceptor : Automaton)
      → IsCertificate parts lines → IsCompletionWithin given.limits parts rules acceptor → (texts : List Text) (last : Text) (line : List ℕ)
      → texts ≡ certified_texts own parts lines rules last → last ≡ acceptor_text own parts acceptor → line ≡ yes_line
      → FindsCertified given parts Yes texts line
  found-completed own same lines rules acceptor certificate completion texts last line are last_is is =
      let whole : texts ≡ certified_texts own parts lines rules (acceptor_text own parts acceptor) =
      are ∙ ap (certified_texts own parts lines rules) last_is in
      let Texts : List ℕ → Type 0 = λ name. texts ≡ certified_texts name parts lines rules (acceptor_text name parts acceptor) in
      let all : AreCertified given.limits given.file parts texts = record {
        lines = lines;
        rules = rules;
        acceptor = acceptor;
        certificate = certificate;
        completion = completion;
        are = subst Texts same whole;
      } in
      subst (FindsCertified given parts Yes texts) (sym is) (certified all)

  -- what shows a limit
  pub found-limited : (finding : Finding) {limit : Limit} {texts : List Text} {line : List ℕ} → HasParts finding (Undecided limit) texts line
      → ShowsLimit given.limits given.file parts limit texts line → IsFound given parts finding
  found-limited finding {limit} {texts} {line} has shows =
      let S : Status → Type 0 = λ s. FindsCertified given parts s texts line in
      let T : List Text → Type 0 = λ t. FindsCertified given parts finding.status t line in
      let W : List ℕ → Type 0 = λ l. FindsCertified given parts finding.status (texts_of finding.files.items) l in
      subst W (sym has.writes) (subst T (sym has.stores) (subst S (sym has.ends) (limited shows)))
