-- The laws of what the statuses of `wordreduce` by the relations mean.
use Rattle.std.proofs.Common.{◌≡◌, ℕ, ◌<◌, false, inl, inr, List, length, slice_get, refl, sym, ◌∙◌, ap, subst, arith, length-append}
use Rattle.std.proofs.lemmas.Option.{same_Some}
use Rattle.kb_io.specs.Outside.{Outside}
use Rattle.kb_word.specs.Words.{Pair}
use Rattle.kb_word.specs.Overlap.{IsConfluent, IsResolved, IsUnresolved, critical_pair}
use Rattle.kb_word.specs.Rewriting.{NormalForm}
use Rattle.kb_word.specs.Presentations.{PresentationParts}
use Rattle.kb_word.specs.WordOrderLaws.{word_orders}
use Rattle.kb_rules.proofs.Unique.{normal_form_unique}
use Rattle.kb_confluence.specs.FirstApart.{ComesBefore, IsFirstApart}
use Rattle.kb_task.specs.Presentations.{HoldsPresentation, IsPresentationFault}
use Rattle.kb_task.specs.PromiseLaws.{yes-conclusive}
use Rattle.kb_task.specs.Refusals.{RefusesNone}
use Rattle.kb_task.specs.Statuses.{AnswersYesOrNo, IsConclusive, IsFaultless, IsYes}
use Rattle.kb_task.specs.declared.status.Cert.TheVariants.{NotConfluent}
use Rattle.kb_task.specs.declared.status.Refusal.TheVariants.{File, Line, InputTooLong}
use Rattle.kb_task.specs.declared.status.Status.{Status}
use Rattle.kb_task.specs.declared.status.Status.TheVariants.{Yes, Refused, Undecided, No, Memory, Fault, Usage}
use Rattle.kb_task.proofs.LoadEnds.{memory_at_load, load_inconclusive, one_presentation_held}
use Rattle.kb_task.proofs.RefusalLemmas.{ReadsOne, ends_there, reads_it}
use Rattle.kb_cmd_words.specs.Confluence.{OrientedAreConfluent, OrientedAreNotConfluent}
use Rattle.kb_cmd_words.specs.ByRelations.{AnswersMean, ByRelationsMean}
use Rattle.kb_cmd_words.specs.WordReduce.{IsUnrefusedBy}
use Rattle.kb_cmd_words.specs.Answering.{HasAnswered}
use Rattle.kb_cmd_words.specs.OrientationLaws.{one_orienting}

-- ---- confluent or not

-- what is joined isn't apart
pub not_apart : {rules : List Pair} {pair : Pair} {u v : List ℕ} → IsResolved rules pair
    → ¬ IsUnresolved rules pair u v
not_apart joined apart =
    apart.different
    (normal_form_unique apart.left joined.left ∙ normal_form_unique joined.right apart.right)

-- no presentation's oriented relations are confluent and not
pub confluent-not_refuted : (parts : PresentationParts) (u v : List ℕ) → OrientedAreConfluent parts
    → ¬ OrientedAreNotConfluent parts u v
confluent-not_refuted parts u v holds refuted =
    let confluent =
    subst IsConfluent
    (one_orienting (word_orders parts.order) _ _ holds.rules refuted.rules holds.oriented
    refuted.oriented)
    holds.confluent in
    let first = refuted.first in
    not_apart (confluent refuted.i refuted.j refuted.place first.first first.second first.overlap)
    first.parts

-- no overlap that is apart comes before the first
not_before : {rules : List Pair} {i j p k l q : ℕ} {u v w x : List ℕ}
    → IsFirstApart rules i j p u v
    → IsFirstApart rules k l q w x
    → ¬ ComesBefore i j p k l q
not_before {i = i} {j = j} {p = p} one other before =
    not_apart (other.earlier i j p one.first one.second before one.overlap) one.parts

one_place : (i j p k l q : ℕ) → ¬ ComesBefore i j p k l q → ¬ ComesBefore k l q i j p
    → (i ≡ k) × (j ≡ l) × (p ≡ q)
one_place i j p k l q none_before none_after =
    let not_less : i < k → ⊥ = λ less. none_before (inl less) in
    let not_more : k < i → ⊥ = λ more. none_after (inl more) in
    let first : i ≡ k = omega arith in
    let second_not_less : j < l → ⊥ = λ less. none_before (inr (first, inl less)) in
    let second_not_more : l < j → ⊥ = λ more. none_after (inr (sym first, inl more)) in
    let second : j ≡ l = omega arith in
    let place_not_less : p < q → ⊥ = λ less. none_before (inr (first, inr (second, less))) in
    let place_not_more : q < p → ⊥ = λ more. none_after (inr (sym first, inr (sym second, more))) in
    (first, second, omega arith)

-- the first overlap that is apart has one pair of normal forms
pub one_first_apart : {rules : List Pair} {i j p k l q : ℕ} {u v w x : List ℕ}
    → IsFirstApart rules i j p u v
    → IsFirstApart rules k l q w x
    → (u ≡ w) × (v ≡ x)
one_first_apart {rules} {i} {j} {p} {k} {l} {q} {u} {v} {w} {x} one other =
    let places = one_place i j p k l q (not_before one other) (not_before other one) in
    let first : one.first ≡ other.first =
    same_Some _ _ (sym one.overlap.is_first ∙ ap (slice_get rules) places.0
    ∙ other.overlap.is_first) in
    let second : one.second ≡ other.second =
    same_Some _ _ (sym one.overlap.is_second ∙ ap (slice_get rules) places.1
    ∙ other.overlap.is_second) in
    let pair : critical_pair other.first other.second q ≡ critical_pair one.first one.second p =
    let place : p ≡ q = places.2 in cc in
    let left = subst (λ (c : Pair). NormalForm rules c.0 w) pair other.parts.left in
    let right = subst (λ (c : Pair). NormalForm rules c.1 x) pair other.parts.right in
    (normal_form_unique one.parts.left left, normal_form_unique one.parts.right right)

one_counterexample : (parts : PresentationParts) (u v w x : List ℕ)
    → OrientedAreNotConfluent parts u v
    → OrientedAreNotConfluent parts w x
    → NotConfluent u v ≡ NotConfluent w x
one_counterexample parts u v w x one other =
    let rules : other.rules ≡ one.rules =
    one_orienting (word_orders parts.order) _ _ other.rules one.rules other.oriented one.oriented in
    let words = one_first_apart one.first
    (subst (λ r. IsFirstApart r other.i other.j other.place w x) rules other.first) in
    ap (λ a. NotConfluent a v) words.0 ∙ ap (NotConfluent w) words.1

-- ---- an answer where nothing is refused

lines_answer : (file : List ℕ) (parts : PresentationParts) (before after : Outside)
    (status : Status)
    → HoldsPresentation before.shelf.holds file parts → IsUnrefusedBy false file before
    → IsFaultless status
    → AnswersMean parts before after status → AnswersYesOrNo status
lines_answer file parts before after Yes holds unrefused faultless means = tt
lines_answer file parts before after (No cert) holds unrefused faultless means = tt
lines_answer file parts before after Memory holds unrefused faultless means = tt
lines_answer file parts before after (Refused (Line number fault)) holds unrefused
    faultless means =
    unrefused.lines_are parts number fault holds means.1.means.refused
lines_answer file parts before after (Refused InputTooLong) holds unrefused faultless means =
    let more = means.1.means.0 in
    let short = unrefused.short in
    omega (
      arith,
      more,
      short,
      ap length means.1.takes,
      length-append means.1.taken
          after.input.left,
    )
lines_answer file parts before after (Refused (File name fault)) holds unrefused faultless means =
    means
lines_answer file parts before after (Fault which) holds unrefused faultless means = cc
lines_answer file parts before after (Undecided limit) holds unrefused faultless means = means
lines_answer file parts before after (Usage kind) holds unrefused faultless means = means

pub relations_complete : (file : List ℕ) (before after : Outside) (status : Status)
    → ByRelationsMean file before after status
    → IsUnrefusedBy false file before → IsFaultless status → AnswersYesOrNo status
relations_complete file before after status (inl means) unrefused faultless =
    subst AnswersYesOrNo
    (sym (memory_at_load (IsPresentationFault before.shelf.holds file) file
    status unrefused.file_is
    faultless means.0)) tt
relations_complete file before after status (inr means) unrefused faultless =
    lines_answer file means.0 before after status means.1 unrefused faultless means.2

-- ---- refused files

lines_refuse_none : (parts : PresentationParts) (before after : Outside) (status : Status)
    → AnswersMean parts before after status → RefusesNone status
lines_refuse_none parts before after (Refused (File name fault)) means = absurd means
lines_refuse_none parts before after _ means = tt

-- how far a run came with its file
pub relations_read : (file : List ℕ) (before after : Outside) (status : Status)
    → ByRelationsMean file before after status
    → ReadsOne (IsPresentationFault before.shelf.holds file) file
    ((parts : PresentationParts) × HoldsPresentation before.shelf.holds file parts) status
relations_read file before after status (inl means) = ends_there means.0
relations_read file before after status (inr means) =
    reads_it (means.0, means.1) (lines_refuse_none means.0 before after status means.2)

-- ---- one answer

lines_settled : (parts : PresentationParts) (before after other_before other_after : Outside)
    (status other : Status)
    → IsConclusive status → IsConclusive other → AnswersMean parts before after status
    → AnswersMean parts other_before other_after other
    → status ≡ other
lines_settled parts a b c d Yes Yes conclusive also means others = refl
lines_settled parts a b c d Yes (No (NotConfluent u v)) conclusive also means others =
    absurd (confluent-not_refuted parts u v means.0 others.0)
lines_settled parts a b c d Yes (No cert) conclusive also means others = absurd others
lines_settled parts a b c d Yes (Undecided limit) conclusive also means others = absurd others
lines_settled parts a b c d Yes other conclusive also means others = absurd also
lines_settled parts a b c d (No (NotConfluent u v)) Yes conclusive also means others =
    absurd (confluent-not_refuted parts u v others.0 means.0)
lines_settled parts a b c d (No (NotConfluent u v)) (No (NotConfluent w x)) conclusive
    also means others =
    ap No (one_counterexample parts u v w x means.0 others.0)
lines_settled parts a b c d (No (NotConfluent u v)) (No cert) conclusive also means others =
    absurd others
lines_settled parts a b c d (No (NotConfluent u v)) (Undecided limit) conclusive also means others =
    absurd others
lines_settled parts a b c d (No (NotConfluent u v)) other conclusive also means others = absurd also
lines_settled parts a b c d (No cert) other conclusive also means others = absurd means
lines_settled parts a b c d (Undecided limit) other conclusive also means others = absurd means
lines_settled parts a b c d status other conclusive also means others = absurd conclusive

pub relations_settled : (file : List ℕ) (before after other_before other_after : Outside)
    (status other : Status)
    → ByRelationsMean file before after status
    → ByRelationsMean file other_before other_after other
    → before.shelf.holds file ≡ other_before.shelf.holds file → IsConclusive status
    → IsConclusive other → status ≡ other
relations_settled file before after other_before other_after status other (inl means) others same
    conclusive also =
    absurd (load_inconclusive (IsPresentationFault before.shelf.holds file) file status
    means.0 conclusive)
relations_settled file before after other_before other_after status other (inr means)
    (inl others) same
    conclusive also =
    absurd (load_inconclusive (IsPresentationFault other_before.shelf.holds file) file
    other others.0 also)
relations_settled file before after other_before other_after status other (inr means)
    (inr others) same
    conclusive also =
    let parts = one_presentation_held same means.1 others.1 in
    lines_settled others.0 before after other_before other_after status other conclusive also
    (subst (λ p. AnswersMean p before after status) parts means.2) others.2

-- ---- what a yes says

lines_answered : (file : List ℕ) (parts : PresentationParts) (before after : Outside)
    (status : Status)
    → IsYes status → HoldsPresentation before.shelf.holds file parts
    → AnswersMean parts before after status
    → HasAnswered file before after
lines_answered file parts before after Yes is_yes holds means =
    record { parts = parts; presents = holds; answered = means.1 }
lines_answered file parts before after status is_yes holds means = absurd is_yes

pub relations_answered : (file : List ℕ) (before after : Outside) (status : Status)
    → IsYes status → ByRelationsMean file before after status
    → HasAnswered file before after
relations_answered file before after status is_yes (inl means) =
    absurd (load_inconclusive (IsPresentationFault before.shelf.holds file) file status means.0
    (yes-conclusive status is_yes))
relations_answered file before after status is_yes (inr means) =
    lines_answered file means.0 before after status is_yes means.1 means.2
