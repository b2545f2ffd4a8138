-- The laws of what the statuses of `kbcertify` mean.
use Rattle.std.proofs.Common.{◌≡◌, ◌∙◌, ◌⊎◌, inl, inr, ℕ, List, [], ◌∷◌, ◌++◌, true, None, Some, refl, sym, ap, subst}
use Rattle.std.proofs.lemmas.List.Elements.{Contains-append_left, Contains-push}
use Rattle.kb_io.specs.Outside.{Outside}
use Rattle.kb_word.specs.Words.{Pair}
use Rattle.kb_word.specs.Presentations.{PresentationParts}
use Rattle.kb_fsa.specs.Language.{Automaton}
use Rattle.kb_fsaprint.specs.Printed.{text_of_automaton}
use Rattle.kb_presprint.specs.Printed.{text_of_presentation}
use Rattle.kb_system.specs.Completed.{IsCompletion}
use Rattle.kb_system.specs.Evidence.{Limits}
use Rattle.kb_system.specs.OneCompletion.{one_acceptor, one_rules}
use Rattle.kb_task.specs.Presentations.{HoldsPresentation, IsPresentationFault}
use Rattle.kb_task.specs.PromiseLaws.{yes-conclusive}
use Rattle.kb_task.specs.Promises.{IsLawful}
use Rattle.kb_task.specs.Refusals.{RefusesNone}
use Rattle.kb_task.specs.Runs.{HasSameEffect, LeavesSame, ReadsSame}
use Rattle.kb_task.specs.Statuses.{AnswersYesOrLimit, IsFaultless, IsYes}
use Rattle.kb_task.specs.Stores.{HoldsTexts, Text}
use Rattle.kb_task.specs.declared.status.Refusal.TheVariants.{File}
use Rattle.kb_task.specs.declared.status.Status.{Status}
use Rattle.kb_task.specs.declared.status.Status.TheVariants.{Refused}
use Rattle.kb_task.proofs.LoadEnds.{memory_at_load, load_inconclusive, one_presentation_held}
use Rattle.kb_task.proofs.RefusalLemmas.{ReadsOne, ends_there, reads_it, exact_of_one, refused_of_one}
use Rattle.kb_evidence.specs.FileLaws.{second_contained}
use Rattle.kb_evidence.specs.Files.{acceptor_file, log_file, log_text, rules_file}
use Rattle.kb_evidence.specs.Settled.{IsYesOrStates, CompletesAs, within_limits}
use Rattle.kb_evidence.specs.SettledLaws.{one_end, states-completes, states-conclusive}
use Rattle.kb_cmd_proofs.specs.Certified.{AreCertified, acceptor_text}
use Rattle.kb_cmd_proofs.specs.Given.{KbcertifyGiven}
use Rattle.kb_cmd_proofs.specs.Kbcertify.{FindsCertified, certified, limited, IsKbcertifyUnrefused, KbcertifyMeans, kbcertify_promise, kbcertify_settled_stores, yes_line}
use Rattle.kb_cmd_proofs.specs.Shown.{ShowMeans, shown, output_failed, store_failed, no_memory_stored, no_memory}

-- ---- complete

module _ {given : KbcertifyGiven} {parts : PresentationParts} where
  -- what is found is an answer
  found_answers : {status : Status} {texts : List Text} {line : List ℕ}
      → FindsCertified given parts status texts line → AnswersYesOrLimit status
  found_answers (certified are) = tt
  found_answers (limited shows) = tt

  shown_answers : {before after : Outside} {status : Status}
      → ShowMeans (FindsCertified given parts) before after status → IsFaultless status
      → AnswersYesOrLimit status
  shown_answers (shown finds holds unread written) faultless = found_answers finds
  shown_answers (output_failed finds holds unread front) faultless = cc
  shown_answers (store_failed finds stops) faultless = cc
  shown_answers (no_memory_stored finds first) faultless = tt
  shown_answers (no_memory unchanged) faultless = tt

-- Where the file isn't refused and no device fails, the run answers yes or reaches a limit, unless memory runs out.
certify_complete : (given : KbcertifyGiven) (before after : Outside) (status : Status)
    → KbcertifyMeans given before after status
    → IsKbcertifyUnrefused given before → IsFaultless status → AnswersYesOrLimit status
certify_complete given before after status (inl means) unrefused faultless =
    subst AnswersYesOrLimit
    (sym (memory_at_load (IsPresentationFault before.shelf.holds given.file) given.file
    status unrefused faultless means.0)) tt
certify_complete given before after status (inr means) unrefused faultless =
    shown_answers means.2 faultless

-- ---- refused files

module _ {given : KbcertifyGiven} {parts : PresentationParts} where
  found_refuses_none : {status : Status} {texts : List Text} {line : List ℕ}
      → FindsCertified given parts status texts line → RefusesNone status
  found_refuses_none (certified are) = tt
  found_refuses_none (limited shows) = tt

  shown_refuses_none : {before after : Outside} {status : Status}
      → ShowMeans (FindsCertified given parts) before after status → RefusesNone status
  shown_refuses_none (shown finds holds unread written) = found_refuses_none finds
  shown_refuses_none (output_failed finds holds unread front) = tt
  shown_refuses_none (store_failed finds stops) = tt
  shown_refuses_none (no_memory_stored finds first) = tt
  shown_refuses_none (no_memory unchanged) = tt

-- how far a run came with its file
certify_reads : (given : KbcertifyGiven) (before after : Outside) (status : Status)
    → KbcertifyMeans given before after status
    → ReadsOne (IsPresentationFault before.shelf.holds given.file) given.file
    ((parts : PresentationParts) × HoldsPresentation before.shelf.holds given.file parts) status
certify_reads given before after status (inl means) = ends_there means.0
certify_reads given before after status (inr means) =
    reads_it (means.0, means.1) (shown_refuses_none means.2)

-- ---- settled

-- a status that the file settles is that of a completion that came to its end
module _ {given : KbcertifyGiven} {parts : PresentationParts} where
  found_completes : {status : Status} {texts : List Text} {line : List ℕ}
      → FindsCertified given parts status texts line → IsYesOrStates status
      → CompletesAs given.limits parts status
  found_completes (certified are) settled = within_limits are.completion
  found_completes (limited shows) settled = states-completes shows settled

  shown_completes : {before after : Outside} {status : Status}
      → ShowMeans (FindsCertified given parts) before after status → IsYesOrStates status
      → CompletesAs given.limits parts status
  shown_completes (shown finds holds unread written) settled = found_completes finds settled
  shown_completes (output_failed finds holds unread front) settled = absurd settled
  shown_completes (store_failed finds stops) settled = absurd settled
  shown_completes (no_memory_stored finds first) settled = absurd settled
  shown_completes (no_memory unchanged) settled = absurd settled

certify_settled : (given : KbcertifyGiven) (before after other_before other_after : Outside)
    (status other : Status)
    → KbcertifyMeans given before after status
    → KbcertifyMeans given other_before other_after other
    → ReadsSame (kbcertify_promise given).reads before other_before
    → IsYesOrStates status → IsYesOrStates other → status ≡ other
certify_settled given before after other_before other_after status other (inl means) others same
    one also =
    absurd (load_inconclusive (IsPresentationFault before.shelf.holds given.file)
    given.file status means.0 (states-conclusive status one))
certify_settled given before after other_before other_after status other (inr means) (inl others)
    same one also =
    absurd (load_inconclusive (IsPresentationFault other_before.shelf.holds given.file)
    given.file other others.0 (states-conclusive other also))
certify_settled given before after other_before other_after status other (inr means) (inr others)
    same one also =
    let parts : means.0 ≡ others.0 =
    one_presentation_held (same given.file refl) means.1 others.1 in
    let Completes : PresentationParts → Type 0 = λ p. CompletesAs given.limits p status in
    one_end (subst Completes parts (shown_completes means.2 one)) (shown_completes others.2 also)

-- ---- one function

-- what a yes stored under the names that the presentation settles, and what it wrote
record StoresSettled (file : List ℕ) (parts : PresentationParts) (before after : Outside)
    : Type 0 where
  rules : List Pair
  acceptor : Automaton
  completion : IsCompletion parts rules acceptor
  rules_held : after.shelf.holds (rules_file file) ≡ Some (text_of_presentation parts rules true)
  acceptor_held : after.shelf.holds (acceptor_file file)
      ≡ Some (text_of_automaton parts.names acceptor)
  written : after.output.written ≡ before.output.written ++ yes_line

stores_settled : {limits : Limits} (file : List ℕ) (parts : PresentationParts)
    (before after : Outside) (texts : List Text) → AreCertified limits file parts texts
    → HoldsTexts texts before.shelf after.shelf
    → after.output.written ≡ before.output.written ++ yes_line
    → StoresSettled file parts before after
stores_settled file parts before after texts are holds written =
    let log : Text =
    record { name = log_file file; bytes = log_text parts.names are.lines None } in
    let rules : Text =
    record { name = rules_file file; bytes = text_of_presentation parts are.rules true } in
    let acceptor : Text = acceptor_text file parts are.acceptor in
    let Holds : List Text → Type 0 = λ t. HoldsTexts t before.shelf after.shelf in
    let held : HoldsTexts ((log ∷ rules ∷ []) ++ acceptor ∷ []) before.shelf after.shelf =
    subst Holds are.are holds in
    record {
      rules = are.rules;
      acceptor = are.acceptor;
      completion = are.completion.completion;
      rules_held = held.stored rules
          (Contains-append_left (log ∷ rules ∷ []) (acceptor ∷ []) rules (second_contained log rules));
      acceptor_held = held.stored acceptor (Contains-push (log ∷ rules ∷ []) acceptor);
      written = written;
    }

module _ {given : KbcertifyGiven} {parts : PresentationParts} {before after : Outside} where
  yes_settled : {status : Status} {texts : List Text} {line : List ℕ}
      → FindsCertified given parts status texts line → IsYes status
      → HoldsTexts texts before.shelf after.shelf
      → after.output.written ≡ before.output.written ++ line
      → StoresSettled given.file parts before after
  yes_settled (certified {texts = texts} are) is_yes holds written =
      stores_settled given.file parts before after texts are holds written
  yes_settled (limited shows) is_yes holds written = absurd is_yes

  shown_settled : {status : Status} → ShowMeans (FindsCertified given parts) before after status
      → IsYes status → StoresSettled given.file parts before after
  shown_settled (shown finds holds unread written) is_yes = yes_settled finds is_yes holds written
  shown_settled (output_failed finds holds unread front) is_yes = absurd is_yes
  shown_settled (store_failed finds stops) is_yes = absurd is_yes
  shown_settled (no_memory_stored finds first) is_yes = absurd is_yes
  shown_settled (no_memory unchanged) is_yes = absurd is_yes

-- of one presentation the same is stored under these names
module _ {file : List ℕ} {parts : PresentationParts}
    {before after other_before other_after : Outside}
    (one : StoresSettled file parts before after)
    (other : StoresSettled file parts other_before other_after) where
  leaves_same : (name : List ℕ) → (name ≡ rules_file file) ⊎ (name ≡ acceptor_file file)
      → LeavesSame before after other_before other_after name
  leaves_same name (inl is) =
      let Text_of : List Pair → List ℕ = λ r. text_of_presentation parts r true in
      let bytes = ap Text_of (one_rules parts one.completion other.completion) in
      inl (ap after.shelf.holds is ∙ one.rules_held
      ∙ (ap (λ b. Some b) bytes ∙ sym (ap other_after.shelf.holds is ∙ other.rules_held)))
  leaves_same name (inr is) =
      let bytes = ap (text_of_automaton parts.names)
      (one_acceptor parts one.completion other.completion) in
      inl (ap after.shelf.holds is ∙ one.acceptor_held
      ∙ (ap (λ b. Some b) bytes ∙ sym (ap other_after.shelf.holds is ∙ other.acceptor_held)))

  same_effect : HasSameEffect (λ name. (name ≡ rules_file file) ⊎ (name ≡ acceptor_file file))
      before after other_before other_after
  same_effect = record {
    bytes = yes_line;
    written = one.written;
    other_written = other.written;
    stored = leaves_same;
  }

-- What a yes writes, and what it stores under the names of the rules and of the word acceptor, is one function of the
-- presentation that the file holds: no option changes a byte of it. Which log certifies that is left open.
certify_one_function : (given other_given : KbcertifyGiven)
    (before after other_before other_after : Outside) (status other : Status)
    → KbcertifyMeans given before after status
    → KbcertifyMeans other_given other_before other_after other
    → IsYes status → IsYes other
    → given.file ≡ other_given.file
    → ReadsSame (kbcertify_promise given).reads before other_before
    → before.input.left ≡ other_before.input.left
    → HasSameEffect (kbcertify_settled_stores given) before after other_before other_after
certify_one_function given other_given before after other_before other_after status other
    (inl means) others is_yes also file same input =
    absurd (load_inconclusive (IsPresentationFault before.shelf.holds given.file)
    given.file status means.0 (yes-conclusive status is_yes))
certify_one_function given other_given before after other_before other_after status other
    (inr means) (inl others) is_yes also file same input =
    absurd (load_inconclusive
    (IsPresentationFault other_before.shelf.holds other_given.file) other_given.file
    other others.0 (yes-conclusive other also))
certify_one_function given other_given before after other_before other_after status other
    (inr means) (inr others) is_yes also file same input =
    let Holds : List ℕ → Type 0 = λ name. HoldsPresentation other_before.shelf.holds name others.0 in
    let parts : means.0 ≡ others.0 =
    one_presentation_held (same given.file refl) means.1 (subst Holds (sym file) others.1) in
    let Mine : PresentationParts → Type 0 = λ p. StoresSettled given.file p before after in
    let Theirs : List ℕ → Type 0 =
    λ name. StoresSettled name others.0 other_before other_after in
    same_effect (subst Mine parts (shown_settled means.2 is_yes))
    (subst Theirs (sym file) (shown_settled others.2 also))

pub kbcertify_lawful : (given : KbcertifyGiven)
    → IsLawful kbcertify_promise (kbcertify_promise given)
kbcertify_lawful given = record {
  complete = certify_complete given;
  memory = tt;
  refused = λ before after name fault means at_load.
      refused_of_one name fault (certify_reads given before after (Refused (File name fault)) means)
      at_load;
  exact = λ have before after status name fault means refuses faultless.
      exact_of_one name fault (have.presentation before.shelf.holds given.file) status
      (certify_reads given before after status means) refuses faultless;
  settled = certify_settled given;
  conclusive = states-conclusive;
  one_function = certify_one_function given;
}
