-- The laws of what the statuses of `gpminkb` mean.
use Rattle.std.proofs.Common.{◌≡◌, ◌∙◌, ℕ, List, [], ◌∷◌, codes, refl, sym, ap, subst}
use Rattle.kb_io.specs.Outside.{Outside}
use Rattle.kb_word.specs.Presentations.{PresentationParts, parts_of}
use Rattle.kb_word.specs.declared.presentation.Presentation.{Presentation}
use Rattle.kb_fsa.specs.Language.{Automaton}
use Rattle.kb_fsamin.proofs.Uniqueness.{one_canonical}
use Rattle.kb_structure.specs.Structure.{AreOverGenerators, IsAutomaticStructure}
use Rattle.kb_axioms.specs.Checked.{Checked, PassesRelations, own_structure}
use Rattle.kb_minkb.specs.LeftSides.{CountedMinred}
use Rattle.kb_minkb.specs.Rules.{CountedMinkb}
use Rattle.kb_task.specs.Promises.{IsLawful}
use Rattle.kb_task.specs.Statuses.{IsAnswer, IsYes}
use Rattle.kb_task.specs.Stores.{Text}
use Rattle.kb_task.specs.declared.status.Construction.TheVariants.{Minred, Minkb}
use Rattle.kb_task.specs.declared.status.Limit.TheVariants.{States}
use Rattle.kb_task.specs.declared.status.Status.{Status}
use Rattle.kb_task.specs.declared.status.Status.TheVariants.{Yes, Undecided}
use Rattle.kb_cmd_structures.specs.CanonicalForms.{AreCanonicalForms, IsCanonicalForm}
use Rattle.kb_cmd_structures.specs.FirstCertificates.{own_has_none}
use Rattle.kb_cmd_structures.specs.FirstCounts.{passed_not_counted}
use Rattle.kb_cmd_structures.specs.Given.{CheckGiven}
use Rattle.kb_cmd_structures.specs.Gpaxioms.{GpaxiomsSettles, checked_by, reads_group}
use Rattle.kb_cmd_structures.specs.GpaxiomsLaws.{found_answers, found_says}
use Rattle.kb_cmd_structures.specs.Gpminkb.{AreOwnForms, FindsSystem, system, many_left_sides, many_rules, not_own, GpminkbMayStore, gpminkb_promise}
use Rattle.kb_cmd_structures.specs.OneSystem.{one_system, system_of_parts}
use Rattle.kb_cmd_structures.specs.ReducedSystem.{IsSystemOf, system_texts}
use Rattle.kb_cmd_structures.specs.RefusalLaws.{structure_exact, structure_refused}
use Rattle.kb_cmd_structures.specs.Shown.{StructureMeans}
use Rattle.kb_cmd_structures.specs.ShownLaws.{Answered, answered_own, answered_no, answered_count, AreAnswers, AreSettled, FindsOne, complete, conclusive, one_answer, one_effect, settled}

-- the system that a yes stores, and the line that it writes
record HasSystem (file : List ℕ) (presentation : Presentation) (texts : List Text)
    (line : List ℕ) : Type 0 where
  minred : Automaton
  minkb : Automaton
  is : IsSystemOf presentation minred minkb
  stored : texts ≡ system_texts file presentation.names minred minkb
  written : line ≡ codes "yes\n"

-- ---- one answer

-- the automata that are checked are the group's own structure, and these are their canonical forms
record HaveForms (checked : Checked) (form : Automaton) (forms : List Automaton) : Type 0 where
  passes : PassesRelations checked
  own : IsAutomaticStructure (own_structure checked)
  acceptor_form : IsCanonicalForm checked.acceptor form
  multiplier_forms : AreCanonicalForms checked.multipliers forms

-- what yes, no and a count of states say of what is checked, where the system is made of it
data SystemAnswered (checked : Checked) : Status → Type 0 where
  answered_system : {form : Automaton} {forms : List Automaton} → HaveForms checked form forms
      → (¬ CountedMinred form checked.limit) → (¬ CountedMinkb form forms checked.limit)
      → SystemAnswered checked Yes
  answered_left_sides : {form : Automaton} {forms : List Automaton}
      → HaveForms checked form forms → CountedMinred form checked.limit
      → SystemAnswered checked (Undecided (States Minred))
  answered_rules : {form : Automaton} {forms : List Automaton} → HaveForms checked form forms
      → (¬ CountedMinred form checked.limit) → CountedMinkb form forms checked.limit
      → SystemAnswered checked (Undecided (States Minkb))
  answered_else : {status : Status} → Answered checked status → (¬ IsYes status)
      → SystemAnswered checked status

-- an automaton has one canonical form
one_form : (automaton form second : Automaton) → IsCanonicalForm automaton form
    → IsCanonicalForm automaton second → form ≡ second
one_form automaton form second one other =
    one_canonical form second one.form_is other.form_is (one.alphabet ∙ sym other.alphabet)
    one.canonical other.canonical
    (λ w. (
      λ accepts. (other.language w).0 ((one.language w).1 accepts),
      λ accepts. (one.language w).0 ((other.language w).1 accepts),
    ))

one_forms : (automata forms others : List Automaton) → AreCanonicalForms automata forms
    → AreCanonicalForms automata others → forms ≡ others
one_forms [] [] [] one other = refl
one_forms (automaton ∷ automata) (form ∷ forms) (second ∷ others) one other =
    ap (λ (a : Automaton). a ∷ forms) (one_form automaton form second one.0 other.0)
    ∙ ap (λ (rest : List Automaton). second ∷ rest) (one_forms automata forms others one.1 other.1)
one_forms [] [] _ one other = absurd other
one_forms [] _ _ one other = absurd one
one_forms (automaton ∷ automata) [] _ one other = absurd one
one_forms (automaton ∷ automata) (form ∷ forms) _ one other = absurd other

module _ (checked : Checked) where
  module _ {form second : Automaton} {forms others : List Automaton}
      (one : HaveForms checked form forms) (other : HaveForms checked second others) where
    -- what is counted of the one is counted of the other
    left_sides_kept : CountedMinred form checked.limit → CountedMinred second checked.limit
    left_sides_kept many =
        let Counts : Automaton → Type 0 = λ a. CountedMinred a checked.limit in
        subst Counts (one_form checked.acceptor form second one.acceptor_form other.acceptor_form)
        many

    rules_kept : CountedMinkb form forms checked.limit → CountedMinkb second others checked.limit
    rules_kept many =
        let Counts : Automaton → Type 0 = λ a. CountedMinkb a forms checked.limit in
        let Also : List Automaton → Type 0 = λ l. CountedMinkb second l checked.limit in
        subst Also
        (one_forms checked.multipliers forms others one.multiplier_forms other.multiplier_forms)
        (subst Counts (one_form checked.acceptor form second one.acceptor_form other.acceptor_form)
        many)

  -- of the group's own structure nothing else is said
  own_alone : {form : Automaton} {forms : List Automaton} {status : Status}
      → HaveForms checked form forms → Answered checked status → IsYes status
  own_alone have (answered_own passes own) = tt
  own_alone have (answered_no {cert = cert} first) =
      absurd (own_has_none checked have.passes have.own cert first)
  own_alone have (answered_count {which = which} first) =
      absurd (passed_not_counted checked have.passes which first)

  one_system_answer : AreOverGenerators (own_structure checked) → (status other : Status)
      → SystemAnswered checked status → SystemAnswered checked other → status ≡ other
  one_system_answer over status other (answered_system one few fewer)
      (answered_system second few_too fewer_too) = refl
  one_system_answer over status other (answered_system one few fewer)
      (answered_left_sides second many) =
      absurd (few (left_sides_kept second one many))
  one_system_answer over status other (answered_system one few fewer)
      (answered_rules second few_too many) =
      absurd (fewer (rules_kept second one many))
  one_system_answer over status other (answered_left_sides one many)
      (answered_system second few fewer) =
      absurd (few (left_sides_kept one second many))
  one_system_answer over status other (answered_left_sides one many)
      (answered_left_sides second many_too) = refl
  one_system_answer over status other (answered_left_sides one many)
      (answered_rules second few many_pairs) =
      absurd (few (left_sides_kept one second many))
  one_system_answer over status other (answered_rules one few many)
      (answered_system second few_too fewer) =
      absurd (fewer (rules_kept one second many))
  one_system_answer over status other (answered_rules one few many)
      (answered_left_sides second many_sides) =
      absurd (few (left_sides_kept second one many_sides))
  one_system_answer over status other (answered_rules one few many)
      (answered_rules second few_too many_too) = refl
  one_system_answer over status other (answered_else says not_yes)
      (answered_else also not_too) =
      one_answer checked over status other says also
  one_system_answer over status other (answered_else says not_yes)
      (answered_system second few fewer) = absurd (not_yes (own_alone second says))
  one_system_answer over status other (answered_else says not_yes)
      (answered_left_sides second many) = absurd (not_yes (own_alone second says))
  one_system_answer over status other (answered_else says not_yes)
      (answered_rules second few many) = absurd (not_yes (own_alone second says))
  one_system_answer over status other (answered_system one few fewer)
      (answered_else says not_yes) = absurd (not_yes (own_alone one says))
  one_system_answer over status other (answered_left_sides one many)
      (answered_else says not_yes) = absurd (not_yes (own_alone one says))
  one_system_answer over status other (answered_rules one few many)
      (answered_else says not_yes) = absurd (not_yes (own_alone one says))

-- ---- what is found

module _ {given : CheckGiven} {presentation : Presentation} {accepts : Automaton}
    {multipliers : List Automaton} where
  forms_of : {form : Automaton} {forms : List Automaton}
      → AreOwnForms given presentation accepts multipliers form forms
      → HaveForms (checked_by given presentation accepts multipliers) form forms
  forms_of own = record {
    passes = own.passes;
    own = own.own;
    acceptor_form = own.acceptor_form;
    multiplier_forms = own.multiplier_forms;
  }

  -- what is found is an answer
  system_answers : {status : Status} {texts : List Text} {line : List ℕ}
      → FindsSystem given presentation accepts multipliers status texts line → IsAnswer status
  system_answers (system own few fewer is) = tt
  system_answers (many_left_sides own many) = tt
  system_answers (many_rules own few many) = tt
  system_answers (not_own finds not_yes) = found_answers finds

  -- the answers that the files settle say what they say of what is checked
  system_says : {status : Status} {texts : List Text} {line : List ℕ}
      → FindsSystem given presentation accepts multipliers status texts line
      → GpaxiomsSettles status
      → SystemAnswered (checked_by given presentation accepts multipliers) status
  system_says (system own few fewer is) settles = answered_system (forms_of own) few fewer
  system_says (many_left_sides own many) settles = answered_left_sides (forms_of own) many
  system_says (many_rules own few many) settles = answered_rules (forms_of own) few many
  system_says (not_own finds not_yes) settles = answered_else (found_says finds settles) not_yes

  system_yes : {status : Status} {texts : List Text} {line : List ℕ}
      → FindsSystem given presentation accepts multipliers status texts line → IsYes status
      → HasSystem given.file presentation texts line
  system_yes (system {minred = minred} {minkb = minkb} own few fewer is) is_yes = record {
    minred = minred;
    minkb = minkb;
    is = is;
    stored = refl;
    written = refl;
  }
  system_yes (many_left_sides own many) is_yes = absurd is_yes
  system_yes (many_rules own few many) is_yes = absurd is_yes
  system_yes (not_own finds not_yes) is_yes = absurd (not_yes is_yes)

are_answers : (given : CheckGiven) → AreAnswers (FindsSystem given)
are_answers given = record {
  answers = λ presentation acceptor multipliers status texts line finds. system_answers finds;
}

are_settled : (given : CheckGiven) → AreSettled given (FindsSystem given) SystemAnswered
are_settled given = record {
  say = λ presentation acceptor multipliers status texts line finds settles. system_says finds settles;
  one = one_system_answer;
}

-- one system has one list of files
same_files : (file other_file : List ℕ) (one second : Presentation) (texts others : List Text)
    (line also : List ℕ) → file ≡ other_file → parts_of one ≡ parts_of second
    → HasSystem file one texts line → HasSystem other_file second others also
    → (texts ≡ others) × (line ≡ also)
same_files file other_file one second texts others line also same parts here there =
    let automata =
    one_system (system_of_parts one second here.minred here.minkb parts here.is) there.is in
    let names : one.names ≡ second.names = ap (λ (p : PresentationParts). p.names) parts in
    let named : system_texts file one.names here.minred here.minkb
    ≡ system_texts other_file second.names here.minred here.minkb =
    ap (λ (f : List ℕ). system_texts f one.names here.minred here.minkb) same
    ∙ ap (λ (k : List (List ℕ)). system_texts other_file k here.minred here.minkb) names in
    let made : system_texts other_file second.names here.minred here.minkb
    ≡ system_texts other_file second.names there.minred there.minkb =
    ap (λ (a : Automaton). system_texts other_file second.names a here.minkb) automata.0
    ∙ ap (λ (a : Automaton). system_texts other_file second.names there.minred a) automata.1 in
    (here.stored ∙ (named ∙ (made ∙ sym there.stored)), here.written ∙ sym there.written)

finds_one : (given again : CheckGiven) → given.file ≡ again.file
    → FindsOne (FindsSystem given) (FindsSystem again)
finds_one given again same one second acceptor accepts multipliers more status also_status texts
    others line also parts finds is_yes finds_also is_also =
    same_files given.file again.file one second texts others line also same parts
    (system_yes finds is_yes) (system_yes finds_also is_also)

pub gpminkb_lawful : (given : CheckGiven) → IsLawful gpminkb_promise (gpminkb_promise given)
gpminkb_lawful given = record {
  complete = complete (are_answers given) given;
  memory = tt;
  refused = λ before after name fault means at_load.
      structure_refused (are_answers given) given before after name fault means;
  exact = structure_exact (are_answers given) given;
  settled = settled (are_settled given);
  conclusive = conclusive;
  one_function = λ other_given before after other_before other_after status ends means others
      is_yes also file same input.
      let Means : List ℕ → Type 0 =
      λ name. StructureMeans (FindsSystem other_given) name other_before other_after ends in
      one_effect (FindsSystem given) (FindsSystem other_given) given.file (GpminkbMayStore given)
      before after other_before other_after status ends (finds_one given other_given file)
      (same given.file (reads_group refl)) means (subst Means (sym file) others) is_yes also;
}
